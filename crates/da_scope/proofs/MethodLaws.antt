-- The map of the methods of a class and its members say the same.
use Rattle.std.specs.Prelude.{◌≡◌, refl, ℕ, suc, Bool, true, false, if◌then◌else◌, List, [], ◌∷◌, ◌++◌, length, Option, Some, None, option_map, find, filter_map, bytes_eq}
use Rattle.std.specs.BTreeMap.{BTreeMap}
use Rattle.std.specs.Borrow.{Bor}
use Rattle.std.specs.List.{slice_get}
use Rattle.std.specs.Option.{option_and_then, option_or}
use Rattle.std.proofs.Common.{◌∙◌, sym, ap, arith}
use Rattle.da_lang.specs.declared.tree.ClassTree.{ClassTree}
use Rattle.da_lang.specs.declared.tree.Member.{Member}
use Rattle.da_lang.specs.declared.tree.Member.TheVariants as member
use Rattle.da_lang.specs.ClassParts.{Body, body_in, is_method, method_of}
use Rattle.da_scope.specs.MethodsView.{HasPlaces, is_named, method_place, place_in}

-- a member after others
later : (b c : Bool) (n : ℕ) (o : Option ℕ) → (if b then Some 0 else option_map suc (option_or o (if c then Some n else None))) ≡ option_or (if b then Some 0 else option_map suc o) (if c then Some (suc n) else None)
later true c n o = refl
later false true n None = refl
later false false n None = refl
later false c n (Some k) = refl

place-last : (ms : List Member) (m : Member) (q : List ℕ) → method_place (ms ++ m ∷ []) q ≡ option_or (method_place ms q) (if is_named q m then Some (length ms) else None)
place-last [] m q = refl
place-last (k ∷ ms) m q =
    let longer : suc (length ms) ≡ length (k ∷ ms) = omega arith in
    ap (λ o. if is_named q k then Some 0 else option_map suc o) (place-last ms m q) ∙ later (is_named q k) (is_named q m) (length ms) (method_place ms q)
    ∙ ap (λ n. option_or (method_place (k ∷ ms) q) (if is_named q m then Some n else None)) longer

joined : (o p : Option ℕ) (c : Bool) (n : ℕ) → option_or (option_or o (if c then Some n else None)) p ≡ option_or o (if c then Some n else p)
joined None p true n = refl
joined None p false n = refl
joined (Some k) p c n = refl

-- a member less is left
pub places_step : (members rest earlier : List Member) (m : Member) (place : ℕ) (q : List ℕ) (old new : Option ℕ) → rest ≡ earlier ++ m ∷ [] → place ≡ length earlier
    → method_place members q ≡ option_or (method_place rest q) old → new ≡ (if is_named q m then Some place else old) → method_place members q ≡ option_or (method_place earlier q) new
places_step members rest earlier m place q old new is at all set =
    all ∙ ap (λ ms. option_or (method_place ms q) old) is ∙ ap (λ o. option_or o old) (place-last earlier m q) ∙ joined (method_place earlier q) old (is_named q m) (length earlier)
    ∙ ap (λ n. option_or (method_place earlier q) (if is_named q m then Some n else old)) (sym at) ∙ ap (option_or (method_place earlier q)) (sym set)

-- the first method of a name is the member at its place
next : (m : Member) (ms : List Member) (o : Option ℕ) → option_and_then (slice_get (m ∷ ms)) (option_map suc o) ≡ option_and_then (slice_get ms) o
next m ms None = refl
next m ms (Some k) = refl

here_or : (b : Bool) (m : Member) (ms : List Member) (o : Option ℕ) (body : Body) (rest : Option Body) → body_in m ≡ Some body → rest ≡ option_and_then body_in (option_and_then (slice_get ms) o)
    → (if b then Some body else rest) ≡ option_and_then body_in (option_and_then (slice_get (m ∷ ms)) (if b then Some 0 else option_map suc o))
here_or true m ms o body rest is others = sym is
here_or false m ms o body rest is others = others ∙ ap (option_and_then body_in) (sym (next m ms o))

method_first : (ms : List Member) (q : List ℕ) → find (λ b. is_method q b.place) (filter_map body_in ms) ≡ option_and_then body_in (option_and_then (slice_get ms) (method_place ms q))
method_first [] q = refl
method_first (member.Var name ty line ∷ ms) q = method_first ms q ∙ ap (option_and_then body_in) (sym (next (member.Var name ty line) ms (method_place ms q)))
method_first (member.Setup params stmts line ∷ ms) q = method_first ms q ∙ ap (option_and_then body_in) (sym (next (member.Setup params stmts line) ms (method_place ms q)))
method_first (member.Run stmts line ∷ ms) q = method_first ms q ∙ ap (option_and_then body_in) (sym (next (member.Run stmts line) ms (method_place ms q)))
method_first (member.Method name params stmts line ∷ ms) q =
    here_or (bytes_eq name q) (member.Method name params stmts line) ms (method_place ms q) _ (find (λ b. is_method q b.place) (filter_map body_in ms)) refl (method_first ms q)
method_first (member.Receive message from labels stmts line ∷ ms) q = method_first ms q ∙ ap (option_and_then body_in) (sym (next (member.Receive message from labels stmts line) ms (method_place ms q)))

method_at : (c : ClassTree) (places : BTreeMap (Bor (List ℕ)) ℕ) (q : List ℕ) (found : Option (Bor Member)) → HasPlaces places c
    → option_map (λ (m : Bor Member). m.now) found ≡ option_and_then (slice_get c.members) (place_in places q) → method_of c q ≡ option_and_then body_in (option_map (λ (m : Bor Member). m.now) found)
method_at c places q found has is =
    method_first c.members q ∙ ap (λ o. option_and_then body_in (option_and_then (slice_get c.members) o)) (sym (has q)) ∙ ap (option_and_then body_in) (sym is)

pub method_found : (c : ClassTree) (places : BTreeMap (Bor (List ℕ)) ℕ) (q : List ℕ) (found : Option (Bor Member)) (m : Bor Member) → HasPlaces places c
    → option_map (λ (k : Bor Member). k.now) found ≡ option_and_then (slice_get c.members) (place_in places q) → found ≡ Some m → method_of c q ≡ body_in m.now
method_found c places q found m has is some = method_at c places q found has is ∙ ap (λ o. option_and_then body_in (option_map (λ (k : Bor Member). k.now) o)) some

pub method_missed : (c : ClassTree) (places : BTreeMap (Bor (List ℕ)) ℕ) (q : List ℕ) (found : Option (Bor Member)) → HasPlaces places c
    → option_map (λ (k : Bor Member). k.now) found ≡ option_and_then (slice_get c.members) (place_in places q) → found ≡ None → method_of c q ≡ None
method_missed c places q found has is none = method_at c places q found has is ∙ ap (λ o. option_and_then body_in (option_map (λ (k : Bor Member). k.now) o)) none

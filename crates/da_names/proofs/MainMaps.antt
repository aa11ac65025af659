-- Maps that keep the first of each name: of classes, and of the names that `main` makes.
use Rattle.std.specs.Prelude.{◌≡◌, refl, ℕ, ◌+◌, ◌<◌, length, take, Bool, true, false, if◌then◌else◌, List, [], ◌∷◌, ◌++◌, Option, Some, None, is_some, option_map, find, filter_map, bytes_eq}
use Rattle.std.specs.BTreeMap.{BTreeMap, UpdatesBy}
use Rattle.std.specs.Borrow.{Bor}
use Rattle.std.specs.Cmp.Lexicographic.{slice_cmp}
use Rattle.std.specs.Option.{option_or}
use Rattle.std.specs.Ordering.{nat_cmp}
use Rattle.std.proofs.Common.{◌∙◌, sym, ap, get_or}
use Rattle.std.proofs.lemmas.List.{take_more}
use Rattle.std.proofs.lemmas.List.Folds.{find-append}
use Rattle.std.proofs.lemmas.Map.Text.{btree_map_updates_str}
use Rattle.std.proofs.lemmas.Slice.Eq.{bytes_eq-Decides}
use Rattle.da_lang.specs.declared.tree.ClassTree.{ClassTree}
use Rattle.da_lang.specs.declared.tree.Member.{Member}
use Rattle.da_lang.specs.ClassParts.{Body, body_in, is_setup}
use Rattle.da_names.specs.MainView.{at_name, class_at, setup_arity}

or_none : {A : Type 0} (o : Option A) → o ≡ option_or o None
or_none None = refl
or_none (Some x) = refl

none_by : {A : Type 0} (o : Option A) → is_some o ≡ false → o ≡ None
none_by None is = refl
none_by (Some x) is = absurd (cc)

put_by : {A : Type 0} (name q : List ℕ) (value : A) (old : Option A) (b : Bool) → bytes_eq name q ≡ b → (name ≡ q → old ≡ None) → (if b then Some value else old) ≡ option_or old (if b then Some value else None)
put_by name q value old true is new = sym (ap (λ o. option_or o (Some value)) (new ((bytes_eq-Decides name q).0 is)))
put_by name q value old false is new = or_none old

-- a name that was not there is put into the map
pub put_first : {A : Type 0} (old new : BTreeMap (Bor (List ℕ)) A) (name : List ℕ) (value : A) → UpdatesBy (λ x y. slice_cmp nat_cmp x.now y.now) (λ k. slice_cmp nat_cmp name k.now) old new (Some value) → is_some (at_name old name) ≡ false
    → (q : List ℕ) → at_name new q ≡ option_or (at_name old q) (if bytes_eq name q then Some value else None)
put_first old new name value updates absent q =
    btree_map_updates_str name old new (Some value) updates q
    ∙ put_by name q value (at_name old q) (bytes_eq name q) refl (λ same. ap (at_name old) (sym same) ∙ none_by (at_name old name) absent)

map_or : {A B : Type 0} (f : A → B) (a b : Option A) → option_map f (option_or a b) ≡ option_or (option_map f a) (option_map f b)
map_or f None b = refl
map_or f (Some x) b = refl

map_if : {A B : Type 0} (f : A → B) (b : Bool) (x : A) → option_map f (if b then Some x else None) ≡ (if b then Some (f x) else None)
map_if f true x = refl
map_if f false x = refl

pub put_first_class : (old new : BTreeMap (Bor (List ℕ)) (Bor (List ℕ))) (name : List ℕ) (class : Bor (List ℕ)) → UpdatesBy (λ x y. slice_cmp nat_cmp x.now y.now) (λ k. slice_cmp nat_cmp name k.now) old new (Some class) → is_some (at_name old name) ≡ false
    → (q : List ℕ) → class_at new q ≡ option_or (class_at old q) (if bytes_eq name q then Some class.now else None)
put_first_class old new name class updates absent q =
    let of : Bor (List ℕ) → List ℕ = λ c. c.now in
    ap (option_map of) (put_first old new name class updates absent q)
    ∙ map_or of (at_name old q) (if bytes_eq name q then Some class else None)
    ∙ ap (option_or (class_at old q)) (map_if of (bytes_eq name q) class)

-- one more class
pub arities_more : (old new : Option ℕ) (q : List ℕ) (cs : List ClassTree) (i : ℕ) (c : ClassTree) → i < length cs → c ≡ get_or cs i c
    → old ≡ option_map setup_arity (find (λ d. bytes_eq d.name q) (take i cs))
    → new ≡ option_or old (if bytes_eq c.name q then Some (setup_arity c) else None)
    → new ≡ option_map setup_arity (find (λ d. bytes_eq d.name q) (take (i + 1) cs))
arities_more old new q cs i c within here before step =
    let test : ClassTree → Bool = λ d. bytes_eq d.name q in
    let more : take (i + 1) cs ≡ take i cs ++ c ∷ [] = take_more cs i c within ∙ ap (λ d. take i cs ++ d ∷ []) (sym here) in
    step
    ∙ ap (λ o. option_or o (if test c then Some (setup_arity c) else None)) before
    ∙ ap (option_or (option_map setup_arity (find test (take i cs)))) (sym (map_if setup_arity (test c) c))
    ∙ sym (map_or setup_arity (find test (take i cs)) (if test c then Some c else None))
    ∙ ap (option_map setup_arity) (sym (find-append test (take i cs) (c ∷ [])) ∙ ap (find test) (sym more))

-- the first `setup` among members
abbrev pub setup_among : List Member → Option Body
setup_among ms = find (λ b. is_setup b.place) (filter_map body_in ms)

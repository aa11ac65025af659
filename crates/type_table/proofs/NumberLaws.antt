-- The number of a type that is made of unknown types, form by form.
use Rattle.std.specs.Prelude.{◌≡◌, refl, ℕ, zero, suc, ◌+◌, ◌<◌, ◌≤◌, List, [], ◌∷◌, ◌++◌, map, length, Option, Some, None, slice_get}
use Rattle.std.proofs.Common.{◌∙◌, ap, sym, subst, arith, take, add-one}
use Rattle.da_lang.specs.declared.ty.Ty.{Ty}
use Rattle.da_lang.specs.declared.ty.Ty.TheVariants as t
use Rattle.da_lang.specs.QueryTypes.{given, all_types}
use Rattle.da_lang.specs.Types.{element_of}
use Rattle.type_table.specs.declared.form.Form.{Form}
use Rattle.type_table.specs.declared.form.Form.TheVariants as f
use Rattle.type_table.specs.declared.scheme.Scheme.{Scheme}
use Rattle.type_table.specs.declared.scheme.Scheme.TheVariants as s
use Rattle.type_table.specs.Draws.{Numbered, AreNumbered}
use Rattle.type_table.specs.Fits.{Meaning, HasForm, IsTable, IsWithin, AreWithin}
use Rattle.type_table.specs.Schemes.{stands, part_of, highest, reach, IsKnown, AreKnown}
use Rattle.type_table.specs.Values.{built}
use Rattle.type_table.proofs.DrawLaws.{numbered_as, are_numbered_as, numbered_then, numbered_after, numbered_there, numbered_push, none_numbered, more_numbered}
use Rattle.type_table.proofs.SchemeLaws.{stands_unknown, stands_tuple, stands_set, stands_element, stands_part, reach_unknown, reach_tuple, reach_set, reach_element, reach_part, stands_agree}

-- the unknown types of parts
pub known_set : (size : ℕ) (scheme x inner : Scheme) → scheme ≡ s.Set x → inner ≡ x → IsKnown size scheme → IsKnown size inner
known_set size scheme x inner is same known = subst (λ n. n ≤ size) (ap reach is ∙ reach_set x ∙ ap reach (sym same)) known

pub known_element : (size : ℕ) (scheme x inner : Scheme) → scheme ≡ s.Element x → inner ≡ x → IsKnown size scheme → IsKnown size inner
known_element size scheme x inner is same known = subst (λ n. n ≤ size) (ap reach is ∙ reach_element x ∙ ap reach (sym same)) known

pub known_part : (size : ℕ) (scheme x inner : Scheme) (at count : ℕ) → scheme ≡ s.Part x at count → inner ≡ x → IsKnown size scheme → IsKnown size inner
known_part size scheme x inner at count is same known = subst (λ n. n ≤ size) (ap reach is ∙ reach_part x at count ∙ ap reach (sym same)) known

pub known_tuple : (size : ℕ) (scheme : Scheme) (xs inner : List Scheme) → scheme ≡ s.Tuple xs → inner ≡ xs → IsKnown size scheme → AreKnown size inner
known_tuple size scheme xs inner is same known = subst (λ n. n ≤ size) (ap reach is ∙ reach_tuple xs ∙ ap (λ zs. highest (map reach zs)) (sym same)) known

known_at : (size : ℕ) (xs : List Scheme) (i : ℕ) (x : Scheme) → slice_get xs i ≡ Some x → AreKnown size xs → IsKnown size x
known_at size [] i x e known = absurd (cc)
known_at size (y ∷ ys) zero x e known = subst (IsKnown size) (some_scheme e) (omega (arith, known))
  where
    some_scheme : {a b : Scheme} → Some a ≡ Some b → a ≡ b
    some_scheme {a} {b} e = ap (λ (o : Option Scheme). or_else a o) e
      where
        or_else : Scheme → Option Scheme → Scheme
        or_else d None = d
        or_else d (Some z) = z
known_at size (y ∷ ys) (suc i) x e known = known_at size ys i x e (omega (arith, known))

pub number_unknown : (old : List Form) (olds : List (ℕ × ℕ)) (scheme : Scheme) (k : ℕ) → scheme ≡ s.Unknown k → IsTable old → AreWithin (length old) olds → IsKnown (length old) scheme → Numbered old olds old olds (λ m. stands m scheme) k
number_unknown old olds scheme k is table pairs known =
    numbered_there old olds table pairs k (λ m. stands m scheme) (omega (arith, known, ap reach is, reach_unknown k)) (λ m. ap (stands m) is ∙ stands_unknown m k)

-- a form at the end, as code adds it
pushed : (old new : List Form) (olds : List (ℕ × ℕ)) (form : Form) (asked : Meaning → Option Ty) (number : ℕ) → IsTable old → AreWithin (length old) olds → number ≡ length old → new ≡ old ++ form ∷ [] → IsWithin (length old) (length old) form
    → ((m : Meaning) (ty : Ty) → HasForm m form ty → asked m ≡ Some ty) → ((m : Meaning) → HasForm m form (built m form)) → Numbered old olds new olds asked number
pushed old new olds form asked number table pairs at grown within is has =
    subst (Numbered old olds new olds asked) (sym at) (subst (λ z. Numbered old olds z olds asked (length old)) (sym grown) (numbered_push old olds table pairs form asked within is has))

pub number_leaf : (old new : List Form) (olds : List (ℕ × ℕ)) (scheme : Scheme) (form : Form) (ty : Ty) (number : ℕ) → number ≡ length old → new ≡ old ++ form ∷ [] → IsWithin (length old) (length old) form
    → ((m : Meaning) (x : Ty) → HasForm m form x → x ≡ ty) → ((m : Meaning) → HasForm m form (built m form)) → ((m : Meaning) → stands m scheme ≡ Some ty) → IsTable old → AreWithin (length old) olds → Numbered old olds new olds (λ m. stands m scheme) number
number_leaf old new olds scheme form ty number at grown within is has stands_is table pairs =
    numbered_as old new olds olds (λ m. Some ty) (λ m. stands m scheme) number stands_is (pushed old new olds form (λ m. Some ty) number table pairs at grown within (λ m x e. ap (λ z. Some z) (sym (is m x e))) has)

pub number_set : (old mid new : List Form) (olds mids : List (ℕ × ℕ)) (scheme x inner : Scheme) (k number : ℕ) → scheme ≡ s.Set x → inner ≡ x → Numbered old olds mid mids (λ m. stands m inner) k → number ≡ length mid → new ≡ mid ++ f.Set k ∷ [] → Numbered old olds new mids (λ m. stands m scheme) number
number_set old mid new olds mids scheme x inner k number is same d at grown =
    numbered_as old new olds mids (λ m. given (stands m inner) (λ ty. Some (t.Set ty))) (λ m. stands m scheme) number
    (λ m. ap (stands m) is ∙ stands_set m x ∙ ap (λ z. given (stands m z) (λ ty. Some (t.Set ty))) (sym same))
    (numbered_then old mid new olds mids mids (λ m. stands m inner) (λ ty. Some (t.Set ty)) k number d
    (pushed mid new mids (f.Set k) (λ m. Some (t.Set (m k))) number d.draws.table d.draws.pairs at grown d.within (λ m ty has. ap (λ z. Some z) (sym has)) (λ m. refl)))

pub number_tuple : (old mid new : List Form) (olds mids : List (ℕ × ℕ)) (scheme : Scheme) (xs inner : List Scheme) (ks : List ℕ) (number : ℕ) → scheme ≡ s.Tuple xs → inner ≡ xs → AreNumbered old olds mid mids (λ m. all_types (map (stands m) inner)) ks
    → number ≡ length mid → new ≡ mid ++ f.Tuple ks ∷ [] → Numbered old olds new mids (λ m. stands m scheme) number
number_tuple old mid new olds mids scheme xs inner ks number is same d at grown =
    numbered_as old new olds mids (λ m. given (all_types (map (stands m) inner)) (λ types. Some (t.Tuple types))) (λ m. stands m scheme) number
    (λ m. ap (stands m) is ∙ stands_tuple m xs ∙ ap (λ zs. given (all_types (map (stands m) zs)) (λ types. Some (t.Tuple types))) (sym same))
    (numbered_after old mid new olds mids mids (λ m. all_types (map (stands m) inner)) (λ types. Some (t.Tuple types)) ks number d
    (pushed mid new mids (f.Tuple ks) (λ m. Some (t.Tuple (map m ks))) number d.draws.table d.draws.pairs at grown d.within (λ m ty has. ap (λ z. Some z) (sym has)) (λ m. refl)))

pub number_element : (old mid new : List Form) (olds mids news : List (ℕ × ℕ)) (scheme x inner : Scheme) (k number : ℕ) → scheme ≡ s.Element x → inner ≡ x → Numbered old olds mid mids (λ m. stands m inner) k
    → (IsTable mid → AreWithin (length mid) mids → k < length mid → Numbered mid mids new news (λ m. element_of (m k)) number) → Numbered old olds new news (λ m. stands m scheme) number
number_element old mid new olds mids news scheme x inner k number is same d next =
    numbered_as old new olds news (λ m. given (stands m inner) element_of) (λ m. stands m scheme) number
    (λ m. ap (stands m) is ∙ stands_element m x ∙ ap (λ z. given (stands m z) element_of) (sym same))
    (numbered_then old mid new olds mids news (λ m. stands m inner) element_of k number d (next d.draws.table d.draws.pairs d.within))

pub number_part : (old mid new : List Form) (olds mids news : List (ℕ × ℕ)) (scheme x inner : Scheme) (at count k number : ℕ) → scheme ≡ s.Part x at count → inner ≡ x → Numbered old olds mid mids (λ m. stands m inner) k
    → (IsTable mid → AreWithin (length mid) mids → k < length mid → Numbered mid mids new news (λ m. part_of at count (m k)) number) → Numbered old olds new news (λ m. stands m scheme) number
number_part old mid new olds mids news scheme x inner at count k number is same d next =
    numbered_as old new olds news (λ m. given (stands m inner) (part_of at count)) (λ m. stands m scheme) number
    (λ m. ap (stands m) is ∙ stands_part m x at count ∙ ap (λ z. given (stands m z) (part_of at count)) (sym same))
    (numbered_then old mid new olds mids news (λ m. stands m inner) (part_of at count) k number d (next d.draws.table d.draws.pairs d.within))

-- the types of all, with one more
all_push : (xs : List (Option Ty)) (x : Option Ty) → all_types (xs ++ x ∷ []) ≡ given (all_types xs) (λ types. given x (λ ty. Some (types ++ ty ∷ [])))
all_push [] x = refl
all_push (None ∷ xs) x = refl
all_push (Some a ∷ xs) x = ap (λ z. given z (λ others. Some (a ∷ others))) (all_push xs x) ∙ turn (all_types xs) x
  where
    turn : (o : Option (List Ty)) (x : Option Ty) → given (given o (λ types. given x (λ ty. Some (types ++ ty ∷ [])))) (λ others. Some (a ∷ others)) ≡ given (given o (λ others. Some (a ∷ others))) (λ types. given x (λ ty. Some (types ++ ty ∷ [])))
    turn None x = refl
    turn (Some types) None = refl
    turn (Some types) (Some ty) = refl

take_more : (xs : List Scheme) (i : ℕ) (x : Scheme) → slice_get xs i ≡ Some x → take (suc i) xs ≡ take i xs ++ x ∷ []
take_more [] i x e = absurd (cc)
take_more (y ∷ ys) zero x e = ap (λ z. z ∷ []) (some_scheme e)
  where
    some_scheme : {a b : Scheme} → Some a ≡ Some b → a ≡ b
    some_scheme {a} {b} e = ap (λ (o : Option Scheme). or_else a o) e
      where
        or_else : Scheme → Option Scheme → Scheme
        or_else d None = d
        or_else d (Some z) = z
take_more (y ∷ ys) (suc i) x e = ap (λ zs. y ∷ zs) (take_more ys i x e)

map_push : (m : Meaning) (xs : List Scheme) (x : Scheme) → map (stands m) (xs ++ x ∷ []) ≡ map (stands m) xs ++ stands m x ∷ []
map_push m [] x = refl
map_push m (y ∷ ys) x = ap (λ zs. stands m y ∷ zs) (map_push m ys x)

-- the loop over the parts of a tuple
abbrev pub SoFar : List Form → List (ℕ × ℕ) → List Form → List (ℕ × ℕ) → List Scheme → ℕ → List ℕ → Type 0
SoFar old olds new news parts i numbers = IsTable old → AreWithin (length old) olds → AreKnown (length old) parts → AreNumbered old olds new news (λ m. all_types (map (stands m) (take i parts))) numbers

pub so_far_begins : (old : List Form) (olds : List (ℕ × ℕ)) (parts : List Scheme) (numbers : List ℕ) → numbers ≡ [] → SoFar old olds old olds parts 0 numbers
so_far_begins old olds parts numbers none table pairs known =
    subst (AreNumbered old olds old olds (λ m. all_types (map (stands m) (take 0 parts)))) (sym none)
    (are_numbered_as old old olds olds (λ m. Some []) (λ m. all_types (map (stands m) (take 0 parts))) [] (λ m. refl) (none_numbered old olds table pairs))

pub so_far_goes : (old mid new : List Form) (olds mids news : List (ℕ × ℕ)) (parts : List Scheme) (i : ℕ) (part : Scheme) (ks grown : List ℕ) (k : ℕ) → SoFar old olds mid mids parts i ks → slice_get parts i ≡ Some part
    → (IsTable mid → AreWithin (length mid) mids → IsKnown (length mid) part → Numbered mid mids new news (λ m. stands m part) k) → grown ≡ ks ++ k ∷ [] → SoFar old olds new news parts (i + 1) grown
so_far_goes old mid new olds mids news parts i part ks grown k so_far there next grown_is table pairs known =
    let d = so_far table pairs known in
    let part_known : IsKnown (length old) part = known_at (length old) parts i part there known in
    let e = next d.draws.table d.draws.pairs (omega (arith, part_known, d.draws.grows)) in
    subst (AreNumbered old olds new news (λ m. all_types (map (stands m) (take (i + 1) parts)))) (sym grown_is)
    (are_numbered_as old new olds news (λ m. given (all_types (map (stands m) (take i parts))) (λ types. given (stands m part) (λ ty. Some (types ++ ty ∷ [])))) (λ m. all_types (map (stands m) (take (i + 1) parts))) (ks ++ k ∷ [])
    (λ m. ap (λ n. all_types (map (stands m) (take n parts))) (add-one i) ∙ ap (λ zs. all_types (map (stands m) zs)) (take_more parts i part there) ∙ ap all_types (map_push m (take i parts) part) ∙ all_push (map (stands m) (take i parts)) (stands m part))
    (more_numbered old mid new olds mids news (λ m. all_types (map (stands m) (take i parts))) (λ m. stands m part) ks k d e (λ m n agree. stands_agree (length old) m n agree part part_known)))

pub so_far_ends : (old : List Form) (olds : List (ℕ × ℕ)) (new : List Form) (news : List (ℕ × ℕ)) (parts : List Scheme) (i : ℕ) (numbers : List ℕ) → SoFar old olds new news parts i numbers → length parts ≤ i
    → IsTable old → AreWithin (length old) olds → AreKnown (length old) parts → AreNumbered old olds new news (λ m. all_types (map (stands m) parts)) numbers
so_far_ends old olds new news parts i numbers so_far past table pairs known =
    subst (λ zs. AreNumbered old olds new news (λ m. all_types (map (stands m) zs)) numbers) (take_past parts i past) (so_far table pairs known)
  where
    take_past : (xs : List Scheme) (i : ℕ) → length xs ≤ i → take i xs ≡ xs
    take_past [] zero le = refl
    take_past [] (suc i) le = refl
    take_past (x ∷ xs) zero le = absurd (omega (arith, le))
    take_past (x ∷ xs) (suc i) le = ap (λ zs. x ∷ zs) (take_past xs i (omega (arith, le)))

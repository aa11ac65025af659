-- The text of a value, one layer at a time.
use Rattle.std.proofs.Common.{◌≡◌, refl, sym, ◌∙◌, ap, ℕ, zero, suc, ◌+◌, ◌<◌, true, false, List, [], ◌∷◌, ◌++◌, map, length, take, arith, append_assoc, append-nil}
use Rattle.std.proofs.lemmas.Grind.{flat_map-append}
use Rattle.std.proofs.lemmas.List.{map-append, take_more}
use Rattle.std.specs.Prelude.{codes, decimal, slice_index_or}
use Rattle.std.specs.Fmt.{signed_decimal}
use Rattle.std.specs.List.{flat_map}
use Rattle.da_values.specs.declared.value.Value.{Value}
use Rattle.da_values.specs.declared.value.Value.TheVariants.{Int, Bool, Text, Proc, Tuple, Set}
use Rattle.da_values.specs.Text.{value_text, text_step, separated, closing}
use Rattle.da_values.specs.Value.{val_of, vals}
use Rattle.da_values.specs.Layer.{fold-val_of}

abbrev pub text_at : Value → List ℕ
text_at (Int number) = signed_decimal number
text_at (Bool true) = codes "true"
text_at (Bool false) = codes "false"
text_at (Text text) = codes "'" ++ text ++ codes "'"
text_at (Proc process) = codes "p" ++ decimal process
text_at (Tuple parts) = codes "(" ++ separated (map value_text parts) ++ closing (map value_text parts)
text_at (Set elements) = codes "{" ++ separated (map value_text elements) ++ codes "}"

pub value_text_of : (v : Value) → value_text (val_of v) ≡ text_at v
value_text_of (Int number) = fold-val_of (List ℕ) text_step (Int number)
value_text_of (Bool true) = fold-val_of (List ℕ) text_step (Bool true)
value_text_of (Bool false) = fold-val_of (List ℕ) text_step (Bool false)
value_text_of (Text text) = fold-val_of (List ℕ) text_step (Text text)
value_text_of (Proc process) = fold-val_of (List ℕ) text_step (Proc process)
value_text_of (Tuple parts) = fold-val_of (List ℕ) text_step (Tuple parts)
value_text_of (Set elements) = fold-val_of (List ℕ) text_step (Set elements)

pub closing-one : {A : Type 0} (f : A → List ℕ) (xs : List A) → length xs ≡ 1 → closing (map f xs) ≡ codes ",)"
closing-one f [] one = absurd (omega (arith, one))
closing-one f (x ∷ []) one = refl
closing-one f (x ∷ (y ∷ ys)) one = absurd (omega (arith, one))

pub closing-other : {A : Type 0} (f : A → List ℕ) (xs : List A) → (length xs ≡ 1 → ⊥) → closing (map f xs) ≡ codes ")"
closing-other f [] other = refl
closing-other f (x ∷ []) other = absurd (other refl)
closing-other f (x ∷ (y ∷ ys)) other = refl

separated-snoc : (u : List ℕ) (us : List (List ℕ)) (t : List ℕ) → separated ((u ∷ us) ++ t ∷ []) ≡ separated (u ∷ us) ++ (codes ", " ++ t)
separated-snoc u us t =
    let F : List ℕ → List ℕ = λ v. codes ", " ++ v in
    ap (λ x. u ++ x) (flat_map-append F us (t ∷ []) ∙ ap (λ x. flat_map F us ++ x) (append-nil (F t))) ∙ sym (append_assoc u (flat_map F us) (F t))

texts-snoc : (vs : List Value) (v : Value) → map value_text (vals (vs ++ v ∷ [])) ≡ map value_text (vals vs) ++ value_text (val_of v) ∷ []
texts-snoc vs v = ap (map value_text) (map-append val_of vs (v ∷ [])) ∙ map-append value_text (vals vs) (val_of v ∷ [])

-- the text of the first value, and those of the values up to a place with that of the next one
pub separated_one : (vs : List Value) (d : Value) → 0 < length vs
    → separated (map value_text (vals (take (0 + 1) vs))) ≡ value_text (val_of (slice_index_or vs 0 d))
separated_one [] d inside = absurd (omega (arith, inside))
separated_one (v ∷ vs) d inside = append-nil (value_text (val_of v))

pub separated_more : (vs : List Value) (k : ℕ) (d : Value) → 0 < k → k < length vs
    → separated (map value_text (vals (take (k + 1) vs))) ≡ separated (map value_text (vals (take k vs))) ++ (codes ", " ++ value_text (val_of (slice_index_or vs k d)))
separated_more [] k d some inside = absurd (omega (arith, inside))
separated_more (v ∷ vs) zero d some inside = absurd (omega (arith, some))
separated_more (v ∷ vs) (suc k) d some inside =
    ap (λ xs. separated (map value_text (vals xs))) (take_more (v ∷ vs) (suc k) d inside)
    ∙ ap separated (texts-snoc (v ∷ take k vs) (slice_index_or vs k d))
    ∙ separated-snoc (value_text (val_of v)) (map value_text (vals (take k vs))) (value_text (val_of (slice_index_or vs k d)))

abbrev pub texts_to : ℕ → List Value → List ℕ
texts_to k vs = separated (map value_text (vals (take k vs)))

-- the first text, written
pub wrote_first : (before out mid new : List ℕ) (vs : List Value) (k : ℕ) (v : Value) → v ≡ slice_index_or vs k v → k < length vs → k ≡ 0
    → out ≡ before ++ texts_to k vs → mid ≡ out → new ≡ mid ++ value_text (val_of v) → new ≡ before ++ texts_to (k + 1) vs
wrote_first before out mid new vs k v here inside first so_far same wrote =
    let text : texts_to (k + 1) vs ≡ value_text (val_of v) =
    ap (λ n. texts_to (n + 1) vs) first ∙ separated_one vs v (omega arith) ∙ ap (λ n. value_text (val_of (slice_index_or vs n v))) (sym first)
    ∙ ap (λ x. value_text (val_of x)) (sym here) in
    let nothing : texts_to k vs ≡ [] = ap (λ n. texts_to n vs) first in
    wrote ∙ ap (λ x. x ++ value_text (val_of v)) (same ∙ so_far ∙ ap (λ x. before ++ x) nothing ∙ append-nil before) ∙ ap (λ x. before ++ x) (sym text)

-- a later text, written after a comma and a space
pub wrote_next : (before out mid new : List ℕ) (vs : List Value) (k : ℕ) (v : Value) → v ≡ slice_index_or vs k v → k < length vs → 0 < k
    → out ≡ before ++ texts_to k vs → mid ≡ out ++ codes ", " → new ≡ mid ++ value_text (val_of v) → new ≡ before ++ texts_to (k + 1) vs
wrote_next before out mid new vs k v here inside later so_far comma wrote =
    let text : texts_to (k + 1) vs ≡ texts_to k vs ++ (codes ", " ++ value_text (val_of v)) =
    separated_more vs k v later inside ∙ ap (λ x. texts_to k vs ++ (codes ", " ++ value_text (val_of x))) (sym here) in
    wrote ∙ ap (λ x. x ++ value_text (val_of v)) (comma ∙ ap (λ x. x ++ codes ", ") so_far)
    ∙ append_assoc (before ++ texts_to k vs) (codes ", ") (value_text (val_of v))
    ∙ append_assoc before (texts_to k vs) (codes ", " ++ value_text (val_of v))
    ∙ ap (λ x. before ++ x) (sym text)

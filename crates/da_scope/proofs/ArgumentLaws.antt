-- Arguments that are taken from the front.
use Rattle.std.proofs.Common.{◌≡◌, ◌∙◌, ap, sym, refl, ℕ, zero, suc, ◌+◌, ◌<◌, List, [], ◌∷◌, ◌++◌, length, get_or, take, drop, map, zip, Some, arith}
use Rattle.std.specs.Prelude.{remove, slice_get}
use Rattle.std.proofs.lemmas.List.{drop-drop, map-append}
use Rattle.da_lang.specs.declared.program.BindArg.{BindArg}
use Rattle.da_lang.specs.declared.program.RExpr.{RExpr}
use Rattle.da_lang.specs.BodyMeaning.{bind_arg}

zip_suc : (slots : List ℕ) (i : ℕ) (args rest : List RExpr) (x : RExpr) → i < length slots → drop i args ≡ x ∷ rest → zip (take (suc i) slots) args ≡ zip (take i slots) args ++ (get_or slots i 0, x) ∷ []
zip_suc [] i args rest x inside there = absurd (omega (arith, inside))
zip_suc (s ∷ slots) zero [] rest x inside there = cc
zip_suc (s ∷ slots) zero (a ∷ args) rest x inside there = let same : a ≡ x = cc in ap (λ y. (s, y) ∷ []) same
zip_suc (s ∷ slots) (suc i) [] rest x inside there = cc
zip_suc (s ∷ slots) (suc i) (a ∷ args) rest x inside there = ap (λ others. (s, a) ∷ others) (zip_suc slots i args rest x (omega (arith, inside)) there)

zip_short : (slots : List ℕ) (i : ℕ) (args : List RExpr) → drop i args ≡ [] → zip (take i slots) args ≡ zip slots args
zip_short [] zero args none = refl
zip_short [] (suc i) args none = refl
zip_short (s ∷ slots) zero [] none = refl
zip_short (s ∷ slots) zero (a ∷ args) none = cc
zip_short (s ∷ slots) (suc i) [] none = refl
zip_short (s ∷ slots) (suc i) (a ∷ args) none = ap (λ others. (s, a) ∷ others) (zip_short slots i args none)

front : (left : List RExpr) (x : RExpr) → slice_get left 0 ≡ Some x → left ≡ x ∷ drop 1 left
front [] x first = cc
front (a ∷ left) x first = let same : a ≡ x = cc in ap (λ y. y ∷ left) same

-- an argument more
pub binds_step : (slots : List ℕ) (i : ℕ) (args left : List RExpr) (x value : RExpr) (binds more : List BindArg) → i < length slots → binds ≡ map bind_arg (zip (take i slots) args) → left ≡ drop i args
    → slice_get left 0 ≡ Some x → value ≡ x → more ≡ binds ++ record { slot = get_or slots i 0; value = value } ∷ [] → more ≡ map bind_arg (zip (take (i + 1) slots) args)
binds_step slots i args left x value binds more inside so_far there first same grown =
    let next : i + 1 ≡ suc i = omega arith in
    let one = zip_suc slots i args (drop 1 left) x inside (sym there ∙ front left x first) in
    grown ∙ ap (λ (bs : List BindArg). bs ++ record { slot = get_or slots i 0; value = value } ∷ []) so_far
    ∙ ap (λ v. map bind_arg (zip (take i slots) args) ++ bind_arg (get_or slots i 0, v) ∷ []) same
    ∙ sym (ap (λ n. map bind_arg (zip (take n slots) args)) next ∙ ap (map bind_arg) one ∙ map-append bind_arg (zip (take i slots) args) ((get_or slots i 0, x) ∷ []))

pub left_step : (i : ℕ) (args left after : List RExpr) → left ≡ drop i args → after ≡ drop 1 left → after ≡ drop (i + 1) args
left_step i args left after there less = less ∙ ap (drop 1) there ∙ drop-drop 1 i args

-- no argument is left
no_left : (xs : List RExpr) → length xs ≡ 0 → xs ≡ []
no_left [] none = refl
no_left (x ∷ xs) none = absurd (omega (arith, none))

pub binds_end : (slots : List ℕ) (i : ℕ) (args left : List RExpr) (binds : List BindArg) → binds ≡ map bind_arg (zip (take i slots) args) → left ≡ drop i args → length left ≡ 0 → binds ≡ map bind_arg (zip slots args)
binds_end slots i args left binds so_far there none = so_far ∙ ap (map bind_arg) (zip_short slots i args (sym there ∙ no_left left none))

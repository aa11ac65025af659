-- An escaped text opens no markup, and closes none.
use Rattle.std.proofs.Common.{◌≡◌, refl, ℕ, true, false, Bool, List, [], ◌∷◌, ◌++◌}
use Rattle.std.specs.List.{list_all}
use Rattle.std.specs.Prelude.{◌==◌, ◌&&◌, if◌then◌else◌, not, codes}
use Rattle.trace_page.specs.Parts.{entity, escaped}

-- a byte that is none of `<`, `>`, `"` and `'`
abbrev pub is_plain : ℕ → Bool
is_plain b = not (b == 60) && not (b == 62) && not (b == 34) && not (b == 39)

joined : (xs ys : List ℕ) → list_all is_plain xs ≡ true → list_all is_plain ys ≡ true → list_all is_plain (xs ++ ys) ≡ true
joined [] ys one other = other
joined (x ∷ xs) ys one other = at (is_plain x) refl one (λ rest. joined xs ys rest other)
  where
    at : (plain : Bool) → is_plain x ≡ plain → (plain && list_all is_plain xs) ≡ true → (list_all is_plain xs ≡ true → list_all is_plain (xs ++ ys) ≡ true) → (is_plain x && list_all is_plain (xs ++ ys)) ≡ true
    at true is rest go_on = rw is (go_on rest)
    at false is rest go_on = absurd (cc)

-- what stands for a byte is plain
pub entity_is_plain : (b : ℕ) → list_all is_plain (entity b) ≡ true
entity_is_plain b = at_and (b == 38) refl
  where
    last : (lt gt quote mark : Bool) → (b == 60) ≡ lt → (b == 62) ≡ gt → (b == 34) ≡ quote → (b == 39) ≡ mark
        → list_all is_plain (if lt then codes "&lt;" else if gt then codes "&gt;" else if quote then codes "&quot;" else if mark then codes "&#39;" else b ∷ []) ≡ true
    last true _ _ _ a c d e = refl
    last false true _ _ a c d e = refl
    last false false true _ a c d e = refl
    last false false false true a c d e = refl
    last false false false false a c d e = rw (a, c, d, e) refl

    at_and : (amp : Bool) → (b == 38) ≡ amp → list_all is_plain (entity b) ≡ true
    at_and true is = rw is refl
    at_and false is = rw is (last (b == 60) (b == 62) (b == 34) (b == 39) refl refl refl refl)

pub escaped_is_plain : (text : List ℕ) → list_all is_plain (escaped text) ≡ true
escaped_is_plain [] = refl
escaped_is_plain (b ∷ bs) = joined (entity b) (escaped bs) (entity_is_plain b) (escaped_is_plain bs)

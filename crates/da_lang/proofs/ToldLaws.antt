-- The refusal that is reported is one of those that there are, and none stands on an earlier line.
use Rattle.std.specs.Prelude.{◌≡◌, refl, ℕ, ◌≤◌, ◌⊎◌, nat_lt, ◌==◌, ◌||◌, ◌&&◌, Bool, true, false, List, [], ◌∷◌, Some}
use Rattle.std.proofs.Common.{sym, subst, arith, inl, inr, ltb-true, ltb-false, eqb-true}
use Rattle.std.proofs.lemmas.Bool.{false≢true}
use Rattle.da_values.specs.Sets.{Has}
use Rattle.da_lang.specs.Scopes.{Refused, sooner, sooner_of, told}

-- from the tests of the lines: less, or equal and something more
or_less : (a b : ℕ) (c : Bool) (less same : Bool) → nat_lt a b ≡ less → (a == b) ≡ same → (less || (same && c)) ≡ true → a ≤ b
or_less a b c true same l s e = omega (arith, ltb-true a b l)
or_less a b c false true l s e = omega (arith, eqb-true a b s)
or_less a b c false false l s e = elim (false≢true e) [ ]

not_less : (a b : ℕ) (c : Bool) (less : Bool) → nat_lt a b ≡ less → (less || ((a == b) && c)) ≡ false → b ≤ a
not_less a b c true l e = elim (false≢true (sym e)) [ ]
not_less a b c false l e = omega (arith, ltb-false a b l)

module _ {K : Type 0} (rank : K → ℕ) where
  sooner_line : (x y : Refused K) → sooner rank x y ≡ true → x.line ≤ y.line
  sooner_line x y e = or_less x.line y.line (nat_lt (rank x.kind) (rank y.kind)) (nat_lt x.line y.line) (x.line == y.line) refl refl e

  later_line : (x y : Refused K) → sooner rank x y ≡ false → y.line ≤ x.line
  later_line x y e = not_less x.line y.line (nat_lt (rank x.kind) (rank y.kind)) (nat_lt x.line y.line) refl e

  -- one step: the first refusal, and the one that is reported of the others
  step_of : (x : Refused K) (ys : List (Refused K)) (first : Refused K) (b : Bool) → sooner rank first x ≡ b → Has ys first → Has (x ∷ ys) (sooner_of rank x (Some first))
  step_of x ys first true e has = rw e (inr has)
  step_of x ys first false e has = rw e (inl refl)

  step_least : (x z first : Refused K) (b : Bool) → sooner rank first x ≡ b → (x ≡ z) ⊎ (first.line ≤ z.line) → (sooner_of rank x (Some first)).line ≤ z.line
  step_least x z first true e (inl same) = rw e (subst (λ (r : Refused K). first.line ≤ r.line) same (sooner_line first x e))
  step_least x z first true e (inr less) = rw e less
  step_least x z first false e (inl same) = rw e (subst (λ (r : Refused K). x.line ≤ r.line) same (omega arith))
  step_least x z first false e (inr less) = rw e (omega (arith, later_line first x e, less))

  pub told_of : (x : Refused K) (xs : List (Refused K)) → Has (x ∷ xs) (sooner_of rank x (told rank xs))
  told_of x [] = inl refl
  told_of x (y ∷ ys) = step_of x (y ∷ ys) (sooner_of rank y (told rank ys)) (sooner rank (sooner_of rank y (told rank ys)) x) refl (told_of y ys)

  pub told_least : (x : Refused K) (xs : List (Refused K)) (z : Refused K) → Has (x ∷ xs) z → (sooner_of rank x (told rank xs)).line ≤ z.line
  told_least x [] z (inl same) = subst (λ (r : Refused K). x.line ≤ r.line) (sym same) (omega arith)
  told_least x [] z (inr none) = elim none [ ]
  told_least x (y ∷ ys) z (inl same) = step_least x z (sooner_of rank y (told rank ys)) (sooner rank (sooner_of rank y (told rank ys)) x) refl (inl (sym same))
  told_least x (y ∷ ys) z (inr inside) = step_least x z (sooner_of rank y (told rank ys)) (sooner rank (sooner_of rank y (told rank ys)) x) refl (inr (told_least y ys z inside))

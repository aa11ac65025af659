-- A function with another value at one number.
use Rattle.std.specs.Prelude.{◌≡◌, ◌==◌, ℕ, Bool, cond, if◌then◌else◌, refl}
use Rattle.std.proofs.Common.{ap}
use Rattle.std.proofs.lemmas.Bool.{eq-eqb, ne_eqb}

abbrev pub updated : {A : Type 0} → ℕ → A → (ℕ → A) → ℕ → A
updated p x f q = if q == p then x else f q

pub updated-there : {A : Type 0} (p : ℕ) (x : A) (f : ℕ → A) → updated p x f p ≡ x
updated-there p x f = ap (λ (b : Bool). cond b x (f p)) (eq-eqb p p refl)

pub updated-other : {A : Type 0} (p : ℕ) (x : A) (f : ℕ → A) (q : ℕ) → (q ≡ p → ⊥) → updated p x f q ≡ f q
updated-other p x f q other = ap (λ (b : Bool). cond b x (f q)) (ne_eqb q p other)

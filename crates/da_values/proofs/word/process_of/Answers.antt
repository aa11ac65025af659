use Rattle.std.specs.Prelude.{◌≡◌, ℕ, ℤ, pos, ◌<◌, FitsSigned, Option, Some, None, unsigned_abs}
use Rattle.std.specs.Bool.{then_some}
use Rattle.std.specs.Int.{FitsUnsigned, w16, w128}
use Rattle.std.proofs.Common.{◌∙◌, ap, sym, subst, arith, ltb, to_z, of_z}
use Rattle.std.proofs.lemmas.Bool.Decides.{nat_tests}
use Rattle.std.proofs.lemmas.Int.{ints, to_z-of_z}
use Rattle.da_values.proofs.word.process_of.Goals as goal

fits : (p : ℕ) → p < 65536 → FitsSigned w128 (pos p)
fits p small = record { sfits = omega arith }

-- the number that was read, as it is handed on
handed : (number : ℤ) (p : ℕ) → p < 65536 → ◌≡◌ {A = Option ℤ} (Some number) (Some (pos p)) → to_z w128 (of_z w128 number) ≡ pos p
handed number p small same = let e : number ≡ pos p = cc in ap (λ z. to_z w128 (of_z w128 z)) e ∙ to_z-of_z w128 (pos p) (fits p small)

pub returns-in_err-number_of-clause-only : goal.returns-in_err-number_of-clause-only
returns-in_err-number_of-clause-only c process some small is =
    let none : ◌≡◌ {A = Option ℤ} None (Some (pos process)) = c.in_err-number_of.ensures.only (pos process) (fits process small) is in absurd (cc)

fits_process : (p : ℕ) → p < 65536 → FitsUnsigned w16 (pos p)
fits_process p small = (omega (arith, ints), omega (arith, ints))

pub returns-in_default-clause-only : goal.returns-in_default-clause-only
returns-in_default-clause-only c process some small is =
    let same = handed c.in_ok-number_of.field-0 process small (c.in_ok-number_of.ensures.only (pos process) (fits process small) is) in
    absurd (c.in_default.ensures (subst (FitsUnsigned w16) (sym same) (fits_process process small)))

some_process : (p q : ℕ) → 0 < q → p ≡ q → then_some (ltb 0 p) p ≡ Some q
some_process p q some e = grind (arith, nat_tests)

pub returns-clause-only : goal.returns-clause-only
returns-clause-only c process some small is =
    let same = handed c.in_ok-number_of.field-0 process small (c.in_ok-number_of.ensures.only (pos process) (fits process small) is) in
    c.then_some.ensures ∙ some_process c.in-Ok.process process some (c.in-Ok.ensures.1 ∙ ap unsigned_abs same)

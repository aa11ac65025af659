use Rattle.std.specs.Prelude.{◌≡◌, ℕ, false, List, Ok, decimal}
use Rattle.std.specs.Cmp.Lexicographic.{pointwise}
use Rattle.std.specs.Str.{IsAscii}
use Rattle.std.proofs.Common.{◌∙◌, ap, sym, subst, arith, eqb, true≢false}
use Rattle.std.proofs.lemmas.Bool.Decides.{Decides-eqb}
use Rattle.std.proofs.lemmas.Fmt.{IsAscii-decimal_wide, parse-decimal_wide}
use Rattle.std.proofs.lemmas.Slice.Eq.{slice_eq-Decides}
use Rattle.std.proofs.lemmas.Str.{IsUtf8-from_ascii}
use Rattle.sched_text.proofs.fields.number_of.Goals as goal

pub returns-in_default-clause-none : goal.returns-in_default-clause-none
returns-in_default-clause-none c n few is =
    absurd (c.in_default.ensures.cases.0 (IsUtf8-from_ascii c.args.digits.now (subst IsAscii (sym is) (λ i. IsAscii-decimal_wide n (omega (arith, few, c.ranges.most.fits)) i))))

pub returns-in_default-parse-clause-none : goal.returns-in_default-parse-clause-none
returns-in_default-parse-clause-none c n few is =
    absurd (c.in_default-parse.not-Ok n (parse-decimal_wide 128 n c.in-Ok.text.now c.parse.result (omega (arith, few, c.ranges.most.fits)) (omega (arith, few, c.ranges.most.fits)) (c.in-Ok.ensures.cases.0 ∙ is) c.parse.ensures.value.0))

pub returns-then-number-most-clause-none : goal.returns-then-number-most-clause-none
returns-then-number-most-clause-none c n few is =
    let parsed : Ok c.in-Ok-parse.number ≡ Ok n =
    sym c.in-Ok-parse.is ∙ parse-decimal_wide 128 n c.in-Ok.text.now c.parse.result (omega (arith, few, c.ranges.most.fits)) (omega (arith, few, c.ranges.most.fits)) (c.in-Ok.ensures.cases.0 ∙ is) c.parse.ensures.value.0 in
    let same : c.in-Ok-parse.number ≡ n = cc in
    omega (arith, same, few)

-- what differs is not the same
unlike : (xs ys : List ℕ) → false ≡ pointwise eqb xs ys → xs ≡ ys → ⊥
unlike xs ys tested same = true≢false (sym ((slice_eq-Decides Decides-eqb xs ys false tested).1 same))

pub returns-else-eq-clause-none : goal.returns-else-eq-clause-none
returns-else-eq-clause-none c n few is =
    let parsed : Ok c.in-Ok-parse.number ≡ Ok n =
    sym c.in-Ok-parse.is ∙ parse-decimal_wide 128 n c.in-Ok.text.now c.parse.result (omega (arith, few, c.ranges.most.fits)) (omega (arith, few, c.ranges.most.fits)) (c.in-Ok.ensures.cases.0 ∙ is) c.parse.ensures.value.0 in
    let same : c.in-Ok-parse.number ≡ n = cc in
    unlike c.as_bytes.result.now c.args.digits.now c.if-eq.ensures (c.as_bytes.ensures.value ∙ c.format.ensures.text ∙ ap decimal same ∙ sym is)

use Rattle.std.specs.Prelude.{◌≡◌, ℕ, true, false, codes, Option, Some, None}
use Rattle.std.proofs.Common.{◌∙◌, ap, sym}
use Rattle.da_values.specs.declared.value.Value.TheVariants.{Bool as Truth, Proc}
use Rattle.da_values.proofs.WordLaws.{same_bytes, one_word, only_process}
use Rattle.da_values.proofs.word.word_value.Goals as goal

pub returns-then-eq-clause-only : goal.returns-then-eq-clause-only
returns-then-eq-clause-only c v is =
    ap Some (one_word c.args.word.now (Truth true) v (same_bytes c.args.word.now c.as_slice.result.now (codes "true") c.if-eq.ensures c.as_slice.ensures) is)

pub returns-then-eq-2-clause-only : goal.returns-then-eq-2-clause-only
returns-then-eq-2-clause-only c v is =
    ap Some (one_word c.args.word.now (Truth false) v (same_bytes c.args.word.now c.as_slice-2.result.now (codes "false") c.if-eq-2.ensures c.as_slice-2.ensures) is)

pub returns-in_err-process_of-in-Some-clause-only : goal.returns-in_err-process_of-in-Some-clause-only
returns-in_err-process_of-in-Some-clause-only c v is =
    let found = only_process c.args.word.now c.in-Some.digits.now v c.in-Some.ensures is in
    let none : ◌≡◌ {A = Option ℕ} None (Some found.0) = c.in_err-process_of-in-Some.ensures.only found.0 found.2 found.3 found.4 in
    absurd (cc)

pub returns-in_ok-process_of-in-Some-clause-only : goal.returns-in_ok-process_of-in-Some-clause-only
returns-in_ok-process_of-in-Some-clause-only c v is =
    let found = only_process c.args.word.now c.in-Some.digits.now v c.in-Some.ensures is in
    let some : ◌≡◌ {A = Option ℕ} (Some c.in_ok-process_of-in-Some.field-0) (Some found.0) = c.in_ok-process_of-in-Some.ensures.only found.0 found.2 found.3 found.4 in
    let same : c.in_ok-process_of-in-Some.field-0 ≡ found.0 = cc in
    ap Some (ap Proc same ∙ sym found.1)

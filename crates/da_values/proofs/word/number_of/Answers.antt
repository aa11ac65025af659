use Rattle.std.specs.Prelude.{◌≡◌, ℤ, Bool, List, ℕ, Some, Ok}
use Rattle.std.specs.Bool.{then_some}
use Rattle.std.specs.Cmp.Lexicographic.{pointwise}
use Rattle.std.specs.Fmt.{signed_decimal}
use Rattle.std.specs.Int.{w128}
use Rattle.std.specs.Str.{IsAscii}
use Rattle.std.proofs.Common.{◌∙◌, ap, sym, subst, eqb, to_z, of_z}
use Rattle.std.proofs.lemmas.Bool.Decides.{Decides-eqb}
use Rattle.std.proofs.lemmas.Int.{to_z-of_z}
use Rattle.std.proofs.lemmas.Slice.Eq.{slice_eq-Decides}
use Rattle.std.proofs.lemmas.Str.{IsUtf8-from_ascii}
use Rattle.da_values.proofs.Numerals.{parse-signed_decimal_wide, IsAscii-signed_decimal_wide}
use Rattle.da_values.proofs.word.number_of.Goals as goal

pub returns-in_default-clause-only : goal.returns-in_default-clause-only
returns-in_default-clause-only c number fits is =
    absurd (c.in_default.ensures.cases.0 (IsUtf8-from_ascii c.args.word.now (subst IsAscii (sym is) (IsAscii-signed_decimal_wide number fits))))

pub returns-in_default-parse-clause-only : goal.returns-in_default-parse-clause-only
returns-in_default-parse-clause-only c number fits is =
    absurd (c.in_default-parse.not-Ok number (parse-signed_decimal_wide number c.in-Ok.text.now c.parse.result fits (c.in-Ok.ensures.cases.0 ∙ is) c.parse.ensures.value.0))

-- the number that was read is written, and gives the word again
same_word : (number : ℤ) (text word : List ℕ) (b : Bool) → text ≡ word → b ≡ pointwise eqb text word → then_some b number ≡ Some number
same_word number text word b same tested = ap (λ t. then_some t number) ((slice_eq-Decides Decides-eqb text word b tested).1 same)

pub returns-clause-only : goal.returns-clause-only
returns-clause-only c number fits is =
    let parsed : Ok c.in-Ok-parse.number ≡ Ok number = sym c.in-Ok-parse.is ∙ parse-signed_decimal_wide number c.in-Ok.text.now c.parse.result fits (c.in-Ok.ensures.cases.0 ∙ is) c.parse.ensures.value.0 in
    let same : c.in-Ok-parse.number ≡ number = cc in
    let there : to_z w128 (of_z w128 c.in-Ok-parse.number) ≡ number = ap (λ z. to_z w128 (of_z w128 z)) same ∙ to_z-of_z w128 number fits in
    c.then_some.ensures
    ∙ ap (then_some c.eq.result) there
    ∙ same_word number c.as_bytes.result.now c.args.word.now c.eq.result (c.as_bytes.ensures.value ∙ c.format.ensures.text ∙ ap signed_decimal there ∙ sym is) c.eq.ensures

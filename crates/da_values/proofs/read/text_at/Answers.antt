use Rattle.std.specs.Prelude.{◌≢◌, Err}
use Rattle.std.specs.List.{All}
use Rattle.std.proofs.Common.{◌∙◌, ap, subst, sym}
use Rattle.da_values.specs.Str.{IsTextByte}
use Rattle.da_values.proofs.ReadLaws.{text_parts, quote_somewhere, text_found, text_only}
use Rattle.da_values.proofs.read.text_at.Goals as goal

pub returns-in_default-clause-only : goal.returns-in_default-clause-only
returns-in_default-clause-only c t s spelled =
    absurd (quote_somewhere t s (subst (All (λ byte. byte ≢ 39)) (text_parts 0 t c.args.bytes.now s spelled).1 c.in_default.ensures.none))

pub returns-in-Ok-clause-front : goal.returns-in-Ok-clause-front
returns-in-Ok-clause-front c =
    text_found c.in-Some.text.now c.args.bytes.now c.in-Some.rest.now c.in-Some.ensures.some c.in-Ok.text c.in-Ok.ensures.ok c.in-Ok.ensures.allowed

pub returns-in-Ok-clause-only : goal.returns-in-Ok-clause-only
returns-in-Ok-clause-only c t s spelled =
    let found = text_only c.in-Some.text.now c.args.bytes.now c.in-Some.rest.now c.in-Some.ensures.some c.in-Some.ensures.none t s spelled in
    (c.in-Ok.ensures.ok ∙ found.1, found.2)

pub returns-in-Err-BadText-clause-only : goal.returns-in-Err-BadText-clause-only
returns-in-Err-BadText-clause-only c t s spelled =
    let found = text_only c.in-Some.text.now c.args.bytes.now c.in-Some.rest.now c.in-Some.ensures.some c.in-Some.ensures.none t s spelled in
    absurd (c.in-Err-BadText.ensures.bad (ap Err c.in-Err-BadText.field-0-is) (subst (All IsTextByte) (sym found.1) found.0))

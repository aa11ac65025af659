use Rattle.std.proofs.Common.{◌∙◌, ap, rules}
use Rattle.std.specs.Prelude.{Err}
use Rattle.da_values.specs.declared.value.Value.TheVariants as kept
use Rattle.msg_codec.proofs.ReadLaws.{text_only}
use Rattle.msg_codec.proofs.reading.text_at.Goals as goal

pub returns-in-Ok-clause-only : goal.returns-in-Ok-clause-only
returns-in-Ok-clause-only c depth v rest there =
    let split = c.in-Some-split_at_checked.ensures.cases in
    let found = text_only _ _ _ _ _ c.requires (search rules) c.in-Some.ensures split.1 split.2 depth v rest there in
    (ap kept.Text c.in-Ok.ensures.ok ∙ found.0, found.1)

pub returns-in-Err-BadText-clause-only : goal.returns-in-Err-BadText-clause-only
returns-in-Err-BadText-clause-only c depth v rest there =
    let split = c.in-Some-split_at_checked.ensures.cases in
    let found = text_only _ _ _ _ _ c.requires (search rules) c.in-Some.ensures split.1 split.2 depth v rest there in
    absurd (c.in-Err-BadText.ensures.bad (ap Err c.in-Err-BadText.field-0-is) found.2)

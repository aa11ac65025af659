use Rattle.std.proofs.Common.{◌∙◌}
use Rattle.trace_page.specs.Sheets.{actions_at}
use Rattle.trace_page.proofs.SheetLemmas.{end_found}
use Rattle.trace_page.proofs.sheet.is_ended.Goals as goal

pub returns : goal.returns
returns c =
    c.contains.ensures ∙ end_found c.args.sheet.now.ends (actions_at c.args.sheet.now.spots) c.args.p c.args.t c.key_of.result c.requires.ends c.key_of.ensures.few c.key_of.ensures.value

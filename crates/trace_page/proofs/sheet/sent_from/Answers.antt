use Rattle.std.proofs.Common.{◌∙◌}
use Rattle.trace_page.specs.Sheets.{actions_at}
use Rattle.trace_page.proofs.SheetLemmas.{sent_found}
use Rattle.trace_page.proofs.sheet.sent_from.Goals as goal

pub returns : goal.returns
returns c =
    c.copied.ensures ∙ c.get.ensures.value
    ∙ sent_found c.args.sheet.now.sends (actions_at c.args.sheet.now.spots) c.args.p c.args.t c.key_of.result c.requires.sends c.key_of.ensures.few c.key_of.ensures.value

use Rattle.std.proofs.Common.{◌∙◌}
use Rattle.std.proofs.lemmas.Result.{on_ok_weaker}
use Rattle.run_page.proofs.WalkLemmas.{change_made}
use Rattle.run_page.proofs.changes.put_change.Goals as goal

pub returns : goal.returns
returns c =
    on_ok_weaker c.push.result
    (change_made c.args.process c.args.place c.args.cell.now c.in_ok-name.name c.in_ok-value.value c.args.found.now c.push.new.self (c.in_ok-name.ensures ∙ c.as_slice.ensures) (c.in_ok-value.ensures ∙ c.as_slice-2.ensures)) c.push.ensures.ok

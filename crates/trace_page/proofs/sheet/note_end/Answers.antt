use Rattle.std.proofs.Common.{subst, sym}
use Rattle.std.specs.BTreeSet.{Updates}
use Rattle.std.specs.Ordering.{nat_cmp}
use Rattle.std.specs.Prelude.{true}
use Rattle.trace_page.specs.Sheets.{action_at}
use Rattle.trace_page.proofs.SheetLemmas.{end_added, no_end}
use Rattle.trace_page.proofs.sheet.note_end.Goals as goal

pub returns-in_default : goal.returns-in_default
returns-in_default c = no_end (action_at c.args.at.now) c.args.ends.now (sym c.in_default.ensures)

pub returns-in-Ok : goal.returns-in-Ok
returns-in-Ok c =
    end_added (action_at c.args.at.now) c.in-Some.message.process c.in-Some.message.time c.args.ends.now c.insert.new.self c.key_of.ensures.few (sym c.in-Some.ensures)
    (subst (λ k. Updates nat_cmp c.args.ends.now c.insert.new.self k true) c.key_of.ensures.value c.in-Ok.ensures.updates)

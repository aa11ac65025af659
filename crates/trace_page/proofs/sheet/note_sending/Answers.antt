use Rattle.std.proofs.Common.{subst, sym}
use Rattle.std.specs.BTreeMap.{Updates}
use Rattle.std.specs.Ordering.{nat_cmp}
use Rattle.std.specs.Prelude.{Some}
use Rattle.trace_page.specs.Arrows.{place_of}
use Rattle.trace_page.specs.Sheets.{action_at}
use Rattle.trace_page.proofs.SheetLemmas.{no_sending, sending_added}
use Rattle.trace_page.proofs.sheet.note_sending.Goals as goal

pub returns-in_default : goal.returns-in_default
returns-in_default c = no_sending (action_at c.args.at.now) c.args.sends.now (sym c.in_default.ensures)

pub returns-in-Ok : goal.returns-in-Ok
returns-in-Ok c =
    sending_added (action_at c.args.at.now) c.in-Some.message.process c.in-Some.message.time c.args.sends.now c.insert.new.self c.key_of.ensures.few (sym c.in-Some.ensures)
    (subst (λ k. Updates nat_cmp c.args.sends.now c.insert.new.self k (Some (place_of (action_at c.args.at.now)))) c.key_of.ensures.value c.in-Ok.ensures.updates)

use Rattle.std.proofs.Common.{sym}
use Rattle.query_plan.proofs.EntryLaws.{joins_nodes}
use Rattle.query_plan.proofs.twins.joined_at.Goals as goal

pub returns : goal.returns
returns c =
    joins_nodes c.args.filled c.args.entries.now c.args.parent c.args.child c.in-Some.over.now c.in-Some-child_entry.under.now c.in_ok-found.found (sym c.in-Some.ensures.value) (sym c.in-Some-child_entry.ensures)
    c.in_ok-found.ensures

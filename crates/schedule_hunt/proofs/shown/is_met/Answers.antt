use Rattle.std.proofs.Common.{refl}
use Rattle.schedule_hunt.proofs.ShownLaws.{first_of, is_never, is_no, is_yes, met_ends, met_here, met_never, met_on}
use Rattle.schedule_hunt.proofs.shown.is_met.Goals as goal

pub returns-then-enters_beside : goal.returns-then-enters_beside
returns-then-enters_beside c = is_yes (met_here _ _ _ _ _ _ _ (first_of _ _ _ c.in-len1-up.len_at_least c.action-item.is) c.actions.invariant (c.if-enters_beside.ensures.0 refl))

pub returns-then-leaves : goal.returns-then-leaves
returns-then-leaves c = is_never (met_ends _ _ _ _ _ _ _ (first_of _ _ _ c.in-len1-up.len_at_least c.action-item.is) c.actions.invariant (is_no c.if-enters_beside.ensures) (c.if-leaves.ensures.0 refl))

pub actions-preserved : goal.actions-preserved
actions-preserved c = met_on _ _ _ _ _ _ _ (first_of _ _ _ c.in-len1-up.len_at_least c.action-item.is) c.actions.invariant (is_no c.if-enters_beside.ensures) (is_no c.if-leaves.ensures)

pub returns : goal.returns
returns c = is_never (met_never _ _ _ _ _ c.in_default.len_below c.actions.invariant)

use Rattle.std.proofs.Common.{refl}
use Rattle.schedule_hunt.proofs.ShownLaws.{first_of, is_never, is_no, is_yes, overlap_here, overlap_never, overlap_on}
use Rattle.schedule_hunt.proofs.shown.overlaps.Goals as goal

pub returns-then-enters_and_is_met : goal.returns-then-enters_and_is_met
returns-then-enters_and_is_met c = is_yes (overlap_here _ _ _ _ _ _ (first_of _ _ _ c.in-len1-up.len_at_least c.action-item.is) c.actions.invariant (c.if-enters_and_is_met.ensures.0 refl))

pub actions-preserved : goal.actions-preserved
actions-preserved c = overlap_on _ _ _ _ _ _ (first_of _ _ _ c.in-len1-up.len_at_least c.action-item.is) c.actions.invariant (is_no c.if-enters_and_is_met.ensures)

pub returns : goal.returns
returns c = is_never (overlap_never _ _ _ _ c.in_default.len_below c.actions.invariant)

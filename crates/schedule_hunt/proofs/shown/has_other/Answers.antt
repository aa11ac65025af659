use Rattle.std.proofs.Common.{refl}
use Rattle.schedule_hunt.specs.ShownSteps.{IsOtherOutput}
use Rattle.schedule_hunt.proofs.ShownLaws.{any_found, any_never, any_on, first_of, is_never, is_no, is_yes}
use Rattle.schedule_hunt.proofs.shown.has_other.Goals as goal

pub returns-then-is_other : goal.returns-then-is_other
returns-then-is_other c = is_yes (any_found (IsOtherOutput c.args.value.now) _ _ _ _ (first_of _ _ _ c.in-len1-up.len_at_least c.action-item.is) c.actions.invariant (c.if-is_other.ensures.0 refl))

pub actions-preserved : goal.actions-preserved
actions-preserved c = any_on (IsOtherOutput c.args.value.now) _ _ _ _ (first_of _ _ _ c.in-len1-up.len_at_least c.action-item.is) c.actions.invariant (is_no c.if-is_other.ensures)

pub returns : goal.returns
returns c = is_never (any_never (IsOtherOutput c.args.value.now) _ _ c.in_default.len_below c.actions.invariant)

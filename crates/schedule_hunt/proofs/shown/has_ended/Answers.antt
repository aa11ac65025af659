use Rattle.std.proofs.Common.{◌≡◌, refl}
use Rattle.da_lang.specs.declared.event.Action.TheVariants.{End}
use Rattle.schedule_hunt.proofs.ShownLaws.{any_found, any_never, any_on, first_of, is_never, is_no, is_yes}
use Rattle.schedule_hunt.proofs.shown.has_ended.Goals as goal

pub returns-then-is_end_of : goal.returns-then-is_end_of
returns-then-is_end_of c = is_yes (any_found (λ a. a ≡ End c.args.p) _ _ _ _ (first_of _ _ _ c.in-len1-up.len_at_least c.action-item.is) c.actions.invariant (c.if-is_end_of.ensures.0 refl))

pub actions-preserved : goal.actions-preserved
actions-preserved c = any_on (λ a. a ≡ End c.args.p) _ _ _ _ (first_of _ _ _ c.in-len1-up.len_at_least c.action-item.is) c.actions.invariant (is_no c.if-is_end_of.ensures)

pub returns : goal.returns
returns c = is_never (any_never (λ a. a ≡ End c.args.p) _ _ c.in_default.len_below c.actions.invariant)

use Rattle.schedule_hunt.specs.ShownSteps.{IsOutput}
use Rattle.schedule_hunt.proofs.ShownLaws.{all_left, any_never, any_on, first_of, left_in, puts_here}
use Rattle.schedule_hunt.proofs.shown.first_output.Goals as goal

pub actions-init : goal.actions-init
actions-init c = record { some = all_left; each = λ v found. found }

pub returns-in-Out : goal.returns-in-Out
returns-in-Out c = c.actions.invariant.each c.in-Out.v (puts_here _ _ _ _ _ (first_of _ _ _ c.in-len1-up.len_at_least c.action-item.is) c.in-Out.is)

pub actions-preserved : goal.actions-preserved
actions-preserved c =
    let cut = first_of _ _ _ c.in-len1-up.len_at_least c.action-item.is in
    record {
      some = any_on IsOutput _ _ _ _ cut c.actions.invariant.some (λ found. c.in_default-action.not-Out found.1.0 found.0 found.1.1);
      each = λ v found. c.actions.invariant.each v (left_in _ _ _ _ cut found);
    }

pub returns : goal.returns
returns c = any_never IsOutput _ _ c.in_default.len_below c.actions.invariant.some

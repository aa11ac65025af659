use Rattle.std.proofs.Common.{ap, ℕ}
use Rattle.schedule_pick.specs.declared.budget.Budget.{Budget}
use Rattle.schedule_pick.proofs.budget.Budget.after_loss.Goals as goal

pub returns : goal.returns
returns c = ap (λ (n : ℕ). let b : Budget = record { losses = n; repetitions = c.args.self.repetitions } in b) c.saturating_sub-losses.ensures

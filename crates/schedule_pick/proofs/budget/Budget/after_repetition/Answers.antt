use Rattle.std.proofs.Common.{ap, ℕ}
use Rattle.schedule_pick.specs.declared.budget.Budget.{Budget}
use Rattle.schedule_pick.proofs.budget.Budget.after_repetition.Goals as goal

pub returns : goal.returns
returns c = ap (λ (n : ℕ). let b : Budget = record { losses = c.args.self.losses; repetitions = n } in b) c.saturating_sub-repetitions.ensures

use Rattle.std.proofs.Common.{subst, sym}
use Rattle.std.specs.Prelude.{◌↔◌, IsTrue}
use Rattle.sched_text.specs.EventText.{HasNames}
use Rattle.schedule_walk.proofs.naming.has_names.Goals as goal

pub returns-in-Deliver : goal.returns-in-Deliver
returns-in-Deliver c = subst (λ e. IsTrue c.are_three_named.result ↔ HasNames e) (sym c.in-Deliver.is) c.are_three_named.ensures

pub returns-in-Lose : goal.returns-in-Lose
returns-in-Lose c = subst (λ e. IsTrue c.are_three_named-in-Lose.result ↔ HasNames e) (sym c.in-Lose.is) c.are_three_named-in-Lose.ensures

pub returns-in-Repeat : goal.returns-in-Repeat
returns-in-Repeat c = subst (λ e. IsTrue c.are_three_named-in-Repeat.result ↔ HasNames e) (sym c.in-Repeat.is) c.are_three_named-in-Repeat.ensures

use Rattle.std.proofs.Common.{refl}
use Rattle.da_core.proofs.ClockLaws.{ready_at_zero, stands_at_zero}
use Rattle.da_core.proofs.process.Core.forget_clock.Goals as goal

pub returns-clause-worlds : goal.returns-clause-worlds
returns-clause-worlds c = λ w stands. stands_at_zero c.args.self.now w stands

pub returns-clause-ready : goal.returns-clause-ready
returns-clause-ready c = λ ready. ready_at_zero c.args.self.now ready

pub returns-clause-compiled : goal.returns-clause-compiled
returns-clause-compiled c = refl

use Rattle.da_system.specs.State.{program_of}
use Rattle.da_system.specs.SystemStep.{sys_step}
use Rattle.da_system.proofs.AcceptedStates.{stays_sound}
use Rattle.da_system.proofs.AnswerLemmas.{allowed_after, forbidden_after, memory_after, ready_after, steps_after}
use Rattle.da_system.proofs.system.System.step.Goals as goal

pub returns-clause-ready : goal.returns-clause-ready
returns-clause-ready c = ready_after (λ s. sys_step (program_of c.args.self.now) s c.args.e.now) c.args.self.now c.execute.new.self c.args.out.now c.execute.new.out c.execute.result c.requires c.if-spent.false c.execute.ensures.answers

pub returns-clause-steps : goal.returns-clause-steps
returns-clause-steps c = steps_after (λ s. sys_step (program_of c.args.self.now) s c.args.e.now) c.args.self.now c.execute.new.self c.args.out.now c.execute.new.out c.execute.result c.execute.ensures.answers

pub returns-clause-forbidden : goal.returns-clause-forbidden
returns-clause-forbidden c = λ is. (forbidden_after (λ s. sys_step (program_of c.args.self.now) s c.args.e.now) c.args.self.now c.execute.new.self c.args.out.now c.execute.new.out c.execute.result c.execute.ensures.answers is).0

pub returns-clause-allowed : goal.returns-clause-allowed
returns-clause-allowed c = allowed_after (λ s. sys_step (program_of c.args.self.now) s c.args.e.now) c.args.self.now c.execute.new.self c.args.out.now c.execute.new.out c.execute.result c.execute.ensures.answers

pub returns-clause-same : goal.returns-clause-same
returns-clause-same c = λ is. (let told = forbidden_after (λ s. sys_step (program_of c.args.self.now) s c.args.e.now) c.args.self.now c.execute.new.self c.args.out.now c.execute.new.out c.execute.result c.execute.ensures.answers is in (told.1, told.2))

pub returns-clause-memory : goal.returns-clause-memory
returns-clause-memory c = λ is. (memory_after (λ s. sys_step (program_of c.args.self.now) s c.args.e.now) c.args.self.now c.execute.new.self c.args.out.now c.execute.new.out c.execute.result c.execute.ensures.answers is).0

pub returns-clause-prefix : goal.returns-clause-prefix
returns-clause-prefix c = λ is. (memory_after (λ s. sys_step (program_of c.args.self.now) s c.args.e.now) c.args.self.now c.execute.new.self c.args.out.now c.execute.new.out c.execute.result c.execute.ensures.answers is).1

pub returns-clause-sound : goal.returns-clause-sound
returns-clause-sound c = stays_sound (program_of c.args.self.now) c.args.self.now c.args.e.now

use Rattle.std.proofs.Common.{arith, refl}
use Rattle.da_system.specs.State.{program_of}
use Rattle.da_system.specs.SystemStep.{sys_step}
use Rattle.da_system.proofs.SystemLemmas.{failed_on, longer, stepped_on}
use Rattle.da_system.proofs.system.System.execute.Goals as goal

pub execute-requires-clause-ready : goal.execute-requires-clause-ready
execute-requires-clause-ready c = λ unspent. (let (s, stands) = c.requires.ready unspent in (s, stands.runs))

pub follow-requires : goal.follow-requires
follow-requires c =
    let (s, stands) = c.requires.ready c.requires.unspent in
    let has = c.in-Ok.ensures.answers s stands.runs in
    omega (arith, c.len-told.ensures, longer c.args.out.now c.execute.new.out has.after.actions has.added)

pub returns-in-Ok-clause-answers : goal.returns-in-Ok-clause-answers
returns-in-Ok-clause-answers c = λ s stands.
    stepped_on c.args.self.now _ c.execute.ensures.program s c.args.e.now c.args.out.now c.execute.new.out c.len-told.result stands c.len-told.ensures (c.in-Ok.ensures.answers s stands.runs)
    c.follow.ensures.keeps c.follow.ensures.made

pub returns-in-Err-clause-answers : goal.returns-in-Err-clause-answers
returns-in-Err-clause-answers c =
    failed_on c.args.self.now _ c.execute.ensures.program (λ s. sys_step (program_of c.args.self.now) s c.args.e.now) c.args.out.now c.execute.new.out c.in-Err.fault refl c.in-Err.ensures.answers

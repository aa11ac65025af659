use Rattle.std.proofs.Common.{rules, []}
use Rattle.da_system.specs.State.{HasStepped, Whichever, program_of}
use Rattle.da_system.specs.SystemStep.{sys_step}
use Rattle.run_watch.proofs.telling.step_of.Goals as goal

pub returns-in-Ok-clause-stepped : goal.returns-in-Ok-clause-stepped
returns-in-Ok-clause-stepped c =
    let stepped : Whichever c.args.system.now (λ s. HasStepped (sys_step (program_of c.args.system.now) s c.args.event.now) c.step.new.self [] c.step.new.out) = rw (← c.new-actions.ensures) c.in-Ok.ensures.steps in
    stepped

pub returns-in-Err-Forbidden-clause-stepped : goal.returns-in-Err-Forbidden-clause-stepped
returns-in-Err-Forbidden-clause-stepped c = λ s stands. c.in-Err-Forbidden.ensures.forbidden (search rules) s stands

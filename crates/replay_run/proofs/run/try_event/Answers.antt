use Rattle.std.proofs.Common.{List, [], ap, refl, rules, subst}
use Rattle.std.specs.Prelude.{Some}
use Rattle.da_lang.specs.declared.event.Action.{Action}
use Rattle.da_system.specs.State.{HasStepped, Whichever, program_of}
use Rattle.da_system.specs.SystemStep.{sys_step}
use Rattle.replay_run.proofs.RunLemmas.{is_done}
use Rattle.replay_run.proofs.run.try_event.Goals as goal

pub returns-in-Err-Forbidden-clause-tried : goal.returns-in-Err-Forbidden-clause-tried
returns-in-Err-Forbidden-clause-tried c = λ s stands. record {
  is = c.in-Err-Forbidden.ensures.forbidden (search rules) s stands;
  stands = ((c.in-Err-Forbidden.ensures.same (search rules)).0 s).0 stands;
  unwritten = refl;
}

pub returns-clause-tried : goal.returns-clause-tried
returns-clause-tried c =
    let stepped : Whichever c.args.system.now (λ s. HasStepped (sys_step (program_of c.args.system.now) s c.args.event.now) c.step.new.self [] c.step.new.out) = subst (λ (before : List Action). Whichever c.args.system.now (λ s. HasStepped (sys_step (program_of c.args.system.now) s c.args.event.now) c.step.new.self before c.step.new.out)) c.empty.ensures c.in-Ok.ensures.steps in
    is_done (program_of c.args.system.now) c.args.event.now _ _ _ _ stepped c.as_slice.ensures (Some c.args.text.now) (Some c.add_lines.new.text) (ap Some c.in_ok-add_lines.ensures)

use Rattle.std.proofs.Common.{subst, sym, ◌≡◌, ◌∙◌}
use Rattle.da_core.specs.Compiled.{program_of}
use Rattle.da_outside.specs.Outside.{HasCause}
use Rattle.da_system.specs.StressRun.{stress_text}
use Rattle.da_commands.specs.declared.status.Status.TheVariants.{Done, WriteFault}
use Rattle.da_commands.specs.Replies.{IsEnd}
use Rattle.da_commands.specs.Told.{HasSaid}
use Rattle.da_commands.proofs.ReplyLemmas.{run_cause, run_ends, run_unread, stressed}
use Rattle.da_commands.proofs.tasks.answer_stress.Goals as goal

pub returns-clause-said : goal.returns-clause-said
returns-clause-said g c =
    let program = program_of c.args.compiled.now in
    subst (λ s. HasSaid Done (stress_text program c.args.start c.args.most) s (g.K.Sink.taken c.args.out.now) (g.K.Sink.taken c.stress.new.sink)) (sym c.status_of_run.ensures)
    (stressed program _ _ c.in-Ok.ensures.program c.in-Ok.ensures.start c.args.start c.args.most c.stress.result c.stress.new.system _ _ c.stress.ensures.ran c.stress.ensures.done c.stress.ensures.prefix)

pub returns-clause-ends : goal.returns-clause-ends
returns-clause-ends g c = subst IsEnd (sym c.status_of_run.ensures) (run_ends c.stress.result)

pub returns-clause-read : goal.returns-clause-read
returns-clause-read g c = λ is. run_unread c.stress.result (sym c.status_of_run.ensures ∙ is)

pub returns-clause-write : goal.returns-clause-write
returns-clause-write g c = subst (λ s. HasCause (g.K.Sink.faults c.args.out.now) (g.K.Sink.faults c.stress.new.sink) (s ≡ WriteFault)) (sym c.status_of_run.ensures) (run_cause c.stress.result _ _ c.stress.ensures.write)

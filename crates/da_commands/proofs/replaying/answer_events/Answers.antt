use Rattle.std.proofs.Common.{subst, sym, ◌≡◌, ◌∙◌}
use Rattle.da_core.specs.Compiled.{program_of}
use Rattle.da_outside.specs.Outside.{HasCause}
use Rattle.da_commands.specs.declared.status.Status.TheVariants.{WriteFault}
use Rattle.da_commands.specs.Replies.{IsEnd, run_status, run_text}
use Rattle.da_commands.specs.Told.{HasSaid}
use Rattle.da_commands.proofs.ReplyLemmas.{replayed, run_cause, run_ends, run_unread}
use Rattle.da_commands.proofs.replaying.answer_events.Goals as goal

pub returns-clause-said : goal.returns-clause-said
returns-clause-said g c =
    let events = c.args.events.now in
    let program = program_of c.args.compiled.now in
    subst (λ s. HasSaid (run_status program events) (run_text program events) s (g.K.Sink.taken c.args.out.now) (g.K.Sink.taken c.replay.new.sink)) (sym c.status_of_run.ensures)
    (replayed program _ _ c.in-Ok.ensures.program c.in-Ok.ensures.start events c.replay.result c.replay.new.system _ _ c.replay.ensures.ran c.replay.ensures.prefix)

pub returns-clause-ends : goal.returns-clause-ends
returns-clause-ends g c = subst IsEnd (sym c.status_of_run.ensures) (run_ends c.replay.result)

pub returns-clause-read : goal.returns-clause-read
returns-clause-read g c = λ is. run_unread c.replay.result (sym c.status_of_run.ensures ∙ is)

pub returns-clause-write : goal.returns-clause-write
returns-clause-write g c = subst (λ s. HasCause (g.K.Sink.faults c.args.out.now) (g.K.Sink.faults c.replay.new.sink) (s ≡ WriteFault)) (sym c.status_of_run.ensures) (run_cause c.replay.result _ _ c.replay.ensures.write)

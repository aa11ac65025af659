use Rattle.std.proofs.Common.{subst, sym}
use Rattle.std.specs.Prelude.{Err}
use Rattle.da_commands.specs.declared.status.Status.TheVariants.{BadSchedule}
use Rattle.da_core.specs.Compiled.{program_of}
use Rattle.da_commands.specs.Lines.{badline_text}
use Rattle.da_commands.specs.Replies.{RunReply, bad_schedule, ran, run_status, run_text}
use Rattle.sched_text.specs.Reading.{IsRead}
use Rattle.sched_text.specs.ScheduleText.{IsBadSchedule, SpellsSchedule}
use Rattle.da_commands.proofs.ReplyLemmas.{bad_within, run_answers, schedule_within}
use Rattle.da_commands.proofs.ToldLemmas.{said_replied}
use Rattle.da_commands.proofs.replaying.answer_schedule.Goals as goal

pub returns-in-Ok-clause-replies : goal.returns-in-Ok-clause-replies
returns-in-Ok-clause-replies g c = λ whole is.
    let events = c.as_slice.result.now in
    let program = program_of c.args.compiled.now in
    said_replied (RunReply program whole) _ _ (run_status program events) (run_text program events) _ (run_answers program events)
    (ran events (schedule_within _ whole _ is (subst (SpellsSchedule c.args.text.now) (sym c.as_slice.ensures) c.in-Ok.ensures.read))) c.answer_events.ensures.said

pub returns-in-Err-BadLine-clause-replies : goal.returns-in-Err-BadLine-clause-replies
returns-in-Err-BadLine-clause-replies g c = λ whole is.
    let read : IsRead c.args.text.now (Err c.in-Err-BadLine.field-0) = c.in-Err-BadLine.ensures.read in
    let line = c.in-Err-BadLine.line in
    let wrong : IsBadSchedule whole line = bad_within _ whole _ is (subst (λ e. IsRead c.args.text.now (Err e)) c.in-Err-BadLine.field-0-is read) in
    said_replied (RunReply (program_of c.args.compiled.now) whole) _ _ (BadSchedule line) (badline_text line) _ tt (bad_schedule line wrong) c.refuse_schedule.ensures.said

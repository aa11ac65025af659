use Rattle.std.proofs.Common.{subst, sym}
use Rattle.std.specs.Prelude.{Err}
use Rattle.da_core.specs.Compiled.{program_of}
use Rattle.da_commands.specs.Lines.{badline_text}
use Rattle.da_commands.proofs.ReplyLemmas.{bad_within, schedule_within}
use Rattle.sched_text.specs.Reading.{IsRead}
use Rattle.sched_text.specs.ScheduleText.{IsBadSchedule, SpellsSchedule}
use Rattle.scout_commands.specs.declared.status.Status.TheVariants.{BadLine}
use Rattle.scout_commands.specs.Replies.{WatchReply}
use Rattle.scout_commands.proofs.ReplyLemmas.{said_answers}
use Rattle.scout_commands.proofs.watching.run_events.Goals as goal

pub returns-in-Ok-clause-replies : goal.returns-in-Ok-clause-replies
returns-in-Ok-clause-replies g c = λ t v s accepts beside is.
    c.tell_events.ensures.replies t v s accepts beside (schedule_within _ s _ is (subst (SpellsSchedule c.args.schedule.now) (sym c.as_slice.ensures) c.in-Ok.ensures.read))

pub returns-in-Err-BadLine-clause-replies : goal.returns-in-Err-BadLine-clause-replies
returns-in-Err-BadLine-clause-replies g c = λ t v s accepts beside is.
    let read : IsRead c.args.schedule.now (Err c.in-Err-BadLine.field-0) = c.in-Err-BadLine.ensures.read in
    let line = c.in-Err-BadLine.line in
    let wrong : IsBadSchedule s line = bad_within _ s _ is (subst (λ e. IsRead c.args.schedule.now (Err e)) c.in-Err-BadLine.field-0-is read) in
    said_answers (WatchReply t v s) (BadLine line) (badline_text line) _ _ _ (WatchReply.bad_schedule (program_of c.args.compiled.now) (program_of c.args.watch.now) line accepts beside wrong) c.refuse_line.ensures.said

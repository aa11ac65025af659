use Rattle.std.proofs.Common.{◌∙◌}
use Rattle.da_commands.proofs.ToldLemmas.{of_read}
use Rattle.sched_text.specs.ScheduleText.{schedule_limit}
use Rattle.scout_commands.specs.Replies.{WatchReply}
use Rattle.scout_commands.specs.Told.{Answers}
use Rattle.scout_commands.proofs.watching.run_schedule.Goals as goal

pub returns-in-Ok-clause-replies : goal.returns-in-Ok-clause-replies
returns-in-Ok-clause-replies g c = λ t v accepts beside.
    of_read (g.F.Files.told c.args.files.now c.args.schedule.now) (λ s. Answers (WatchReply t v s) c.run_events.result (g.K.Sink.taken c.args.out.now) (g.K.Sink.taken c.run_events.new.out)) schedule_limit c.in-Ok.text c.in-Ok.ensures.whole
    (λ s read. c.run_events.ensures.replies t v s accepts beside (c.as_slice.ensures ∙ read))

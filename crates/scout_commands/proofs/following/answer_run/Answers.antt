use Rattle.std.proofs.Common.{subst, sym}
use Rattle.da_core.specs.Compiled.{program_of}
use Rattle.da_commands.proofs.ReplyLemmas.{schedule_within}
use Rattle.scout_commands.specs.Replies.{RunReply}
use Rattle.scout_commands.specs.Told.{Answers}
use Rattle.scout_commands.proofs.ReplyLemmas.{shown_of}
use Rattle.scout_commands.proofs.following.answer_run.Goals as goal

pub returns-in-Next-clause-replies : goal.returns-in-Next-clause-replies
returns-in-Next-clause-replies g c = λ t s whole accepts is spells.
    subst (λ q. Answers (RunReply t s q) c.answer_events.result (g.K.Sink.taken c.args.out.now) (g.K.Sink.taken c.answer_events.new.out)) (sym c.in-Next.is)
    (c.answer_events.ensures.replies t s accepts (schedule_within c.args.schedule.now s c.args.events.now is spells))

pub returns-in-Show-clause-replies : goal.returns-in-Show-clause-replies
returns-in-Show-clause-replies g c = λ t s whole accepts is spells.
    subst (λ q. Answers (RunReply t s q) c.answer_show.result (g.K.Sink.taken c.args.out.now) (g.K.Sink.taken c.answer_show.new.out)) (sym c.in-Show.is)
    (shown_of t s c.args.text.now c.args.schedule.now whole is (program_of c.args.compiled.now) accepts c.args.events.now spells c.answer_show.result (g.K.Sink.taken c.args.out.now) (g.K.Sink.taken c.answer_show.new.out) c.answer_show.ensures.replies)

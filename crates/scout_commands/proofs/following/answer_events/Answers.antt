use Rattle.std.proofs.Common.{subst, sym}
use Rattle.da_core.specs.Compiled.{program_of}
use Rattle.scout_commands.specs.Replies.{RunReply}
use Rattle.scout_commands.specs.declared.words.Question.TheVariants.{Next}
use Rattle.scout_commands.specs.Told.{Answers}
use Rattle.scout_commands.proofs.ReplyLemmas.{next_replied}
use Rattle.scout_commands.proofs.following.answer_events.Goals as goal

pub returns-clause-replies : goal.returns-clause-replies
returns-clause-replies g c = λ t s accepts spells.
    subst (λ x. Answers (RunReply t s Next) x (g.K.Sink.taken c.args.out.now) (g.K.Sink.taken c.next.new.sink)) (sym c.status_of_next.ensures)
    (next_replied t s (program_of c.args.compiled.now) c.args.events.now c.next.result _ _ accepts spells c.next.ensures.replies)

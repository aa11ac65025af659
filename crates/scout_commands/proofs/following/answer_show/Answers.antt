use Rattle.std.proofs.Common.{subst, sym}
use Rattle.da_core.specs.Compiled.{program_of}
use Rattle.scout_commands.specs.declared.words.Question.TheVariants.{Show}
use Rattle.scout_commands.specs.Replies.{RunReply}
use Rattle.scout_commands.specs.Told.{Answers}
use Rattle.scout_commands.proofs.ReplyLemmas.{memory_replied, show_replied}
use Rattle.scout_commands.proofs.following.answer_show.Goals as goal

pub returns-in_default-clause-replies : goal.returns-in_default-clause-replies
returns-in_default-clause-replies g c = λ accepts spells. memory_replied (RunReply c.args.text.now c.args.schedule.now Show) _ _

pub returns-clause-replies : goal.returns-clause-replies
returns-clause-replies g c = λ accepts spells.
    subst (λ x. Answers (RunReply c.args.text.now c.args.schedule.now Show) x (g.K.Sink.taken c.args.out.now) (g.K.Sink.taken c.show.new.sink)) (sym c.status_of_run.ensures)
    (show_replied c.args.text.now c.args.schedule.now (program_of c.args.compiled.now) c.in-Ok.tree c.args.events.now accepts c.in-Ok.ensures.ok spells c.show.result _ _ c.show.ensures.shown c.show.ensures.begun)

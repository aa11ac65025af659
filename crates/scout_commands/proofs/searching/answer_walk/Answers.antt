use Rattle.std.proofs.Common.{subst, sym}
use Rattle.da_core.specs.Compiled.{program_of}
use Rattle.scout_commands.specs.declared.words.Search.TheVariants.{Walk}
use Rattle.scout_commands.specs.Replies.{SearchReply}
use Rattle.scout_commands.specs.Told.{Answers}
use Rattle.scout_commands.proofs.ReplyLemmas.{walk_replied}
use Rattle.scout_commands.proofs.searching.answer_walk.Goals as goal

pub walk-requires : goal.walk-requires
walk-requires g c = record { ready = c.in-Ok.ensures.ready; unspent = c.in-Ok.ensures.start.runs.unspent }

pub returns-clause-replies : goal.returns-clause-replies
returns-clause-replies g c = λ t w accepts.
    subst (λ s. Answers (SearchReply t w (Walk c.args.start c.args.most)) s (g.K.Sink.taken c.args.out.now) (g.K.Sink.taken c.walk.new.sink)) (sym c.status_of_run.ensures)
    (walk_replied t w (program_of c.args.compiled.now) _ _ c.in-Ok.ensures.program c.in-Ok.ensures.start accepts c.args.start c.args.most c.walk.new.system _ _ c.walk.result c.walk.ensures.ran c.walk.ensures.done c.walk.ensures.prefix)

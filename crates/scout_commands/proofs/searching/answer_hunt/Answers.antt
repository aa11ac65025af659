use Rattle.std.proofs.Common.{subst, sym}
use Rattle.da_core.specs.Compiled.{program_of}
use Rattle.scout_commands.specs.Replies.{HuntReply}
use Rattle.scout_commands.specs.Told.{Answers}
use Rattle.scout_commands.proofs.ReplyLemmas.{hunt_replied}
use Rattle.scout_commands.proofs.searching.answer_hunt.Goals as goal

pub returns-clause-replies : goal.returns-clause-replies
returns-clause-replies g c =
    subst (λ s. Answers (HuntReply (program_of c.args.compiled.now) c.args.trials c.args.goal.now) s (g.K.Sink.taken c.args.out.now) (g.K.Sink.taken c.hunt.new.sink)) (sym c.status_of_hunt.ensures)
    (hunt_replied (program_of c.args.compiled.now) c.args.trials c.args.goal.now _ _ c.hunt.result c.hunt.ensures.found c.hunt.ensures.none c.hunt.ensures.unspelled c.hunt.ensures.prefix)

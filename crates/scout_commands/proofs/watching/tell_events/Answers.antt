use Rattle.std.proofs.Common.{subst, sym}
use Rattle.da_core.specs.Compiled.{program_of}
use Rattle.scout_commands.specs.Replies.{WatchReply}
use Rattle.scout_commands.specs.Told.{Answers}
use Rattle.scout_commands.proofs.ReplyLemmas.{watch_replied}
use Rattle.scout_commands.proofs.watching.tell_events.Goals as goal

pub returns-clause-replies : goal.returns-clause-replies
returns-clause-replies g c = λ t v s accepts beside spells.
    subst (λ x. Answers (WatchReply t v s) x (g.K.Sink.taken c.args.out.now) (g.K.Sink.taken c.tell_watched.new.sink)) (sym c.status_of_run.ensures)
    (watch_replied t v s (program_of c.args.compiled.now) (program_of c.args.watch.now) c.args.events.now c.tell_watched.result _ _ accepts beside spells c.tell_watched.ensures.told c.tell_watched.ensures.stops c.tell_watched.ensures.prefix)

use Rattle.std.proofs.Common.{◌≡◌, subst, sym}
use Rattle.da_core.specs.Compiled.{program_of}
use Rattle.schedule_walk.specs.Next.{HasSaid, NextReply}
use Rattle.schedule_walk.proofs.NextLemmas.{answered_as, ended_reply}
use Rattle.schedule_walk.proofs.following.next.Goals as goal

pub say-requires : goal.say-requires
say-requires g c = ended_reply _ _ _ _ c.in-Ok-answer_to.ensures

pub returns-in-Ok-answer_to-clause-replies : goal.returns-in-Ok-answer_to-clause-replies
returns-in-Ok-answer_to-clause-replies g c =
    answered_as (NextReply (program_of c.args.compiled.now) c.args.events.now) _ _ c.say.result _ _ c.in-Ok-answer_to.ensures
    (subst (λ bytes. HasSaid c.in-Ok-answer_to.answer.outcome bytes c.say.result (g.K.Sink.taken c.args.sink.now) (g.K.Sink.taken c.say.new.sink)) c.as_slice.ensures c.say.ensures.said)

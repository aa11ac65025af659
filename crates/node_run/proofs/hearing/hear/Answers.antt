use Rattle.std.proofs.lemmas.Result.{IfErr-weaker}
use Rattle.node_run.specs.Hearing.{behind}
use Rattle.node_run.proofs.HearingLaws.{cut_so}
use Rattle.node_run.proofs.TalkLaws.{carries_then}
use Rattle.node_run.proofs.hearing.hear.Goals as goal

pub returns-in-Err-arrive-clause-cut : goal.returns-in-Err-arrive-clause-cut
returns-in-Err-arrive-clause-cut g c = λ node stood. behind _ _ (rw c.in-Ok-Datagram.field-0-is at c.in-Ok-Datagram.ensures.adds) (c.in-Err-arrive.ensures.cut _ _ node stood)

pub returns-in-Ok-Nothing-clause-cut : goal.returns-in-Ok-Nothing-clause-cut
returns-in-Ok-Nothing-clause-cut g c =
    IfErr-weaker c.move_on.result _ _ (λ fault cut node stood. behind _ _ (rw c.in-Ok-Nothing.field-0-is at c.in-Ok-Nothing.ensures.adds) (cut_so _ c.args.running.now node fault _ _ _ _ _ stood cut)) c.move_on.ensures.cut

pub returns-in-Ok-Nothing-clause-carries : goal.returns-in-Ok-Nothing-clause-carries
returns-in-Ok-Nothing-clause-carries g c = carries_then _ _ _ c.take.ensures.carries c.move_on.ensures.carries

use Rattle.type_choice.proofs.VisitLaws.{queued_of}
use Rattle.type_choice.proofs.order.queue.Goals as goal

pub returns : goal.returns
returns c =
    queued_of c.args.waits.now c.replace-waiting.new.self _ c.args.part c.args.pair _ c.replace-waiting.result c.push.new.self c.replace-waiting.ensures.value c.replace-waiting.ensures.put c.in_ok-push.ensures.ok c.set.ensures

use Rattle.schedule_hunt.proofs.remark.tell.Goals as goal

pub loop-event-init : goal.loop-event-init
loop-event-init c = λ unspent. (_, c.in_ok-run.ensures.stands)

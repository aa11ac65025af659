use Rattle.msg_codec.proofs.PacketLaws.{time_after}
use Rattle.msg_codec.proofs.front.head_at.Goals as goal

pub returns-in_err-clock : goal.returns-in_err-clock
returns-in_err-clock c =
    rw c.from_residual-in_err-clock.ensures
    (λ s clock rest head. c.in_err-clock.ensures clock rest (time_after c.in_ok-sender.sender s clock c.args.bytes.now c.in_ok-rest.rest.now c.in_ok-sender.rest.now rest c.in_ok-rest.ensures c.in_ok-sender.ensures head))

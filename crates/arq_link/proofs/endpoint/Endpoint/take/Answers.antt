use Rattle.std.specs.Prelude.{refl, take}
use Rattle.da_outside.specs.Link.{answer_of}
use Rattle.da_outside.specs.declared.link.LinkAnswer.TheVariants as answers
use Rattle.arq_link.specs.Frames.{frame_of}
use Rattle.arq_link.proofs.HearLaws.{has_failed, has_taken, turn_at}
use Rattle.arq_link.proofs.ResultLaws.{if_ok_both, on_err, on_err_one}
use Rattle.arq_link.proofs.endpoint.Endpoint.take.Goals as goal

pub returns-in_err-hear_nothing-in-Nothing-clause-failed : goal.returns-in_err-hear_nothing-in-Nothing-clause-failed
returns-in_err-hear_nothing-in-Nothing-clause-failed g c = on_err c.from_residual-in_err-hear_nothing-in-Nothing.result _
    (has_failed c.args.self.now.me _ _ _ _ _ answers.Nothing _ refl (rw c.in-Nothing.is at c.in_ok-taken.ensures.adds) _ refl
    c.in_err-hear_nothing-in-Nothing.ensures.cut)

pub returns-in-Datagram-clause-taken : goal.returns-in-Datagram-clause-taken
returns-in-Datagram-clause-taken g c = if_ok_both c.hear_datagram.result _ _ _
    (λ taken played answers. has_taken c.args.self.now.me _ _ _ _ _ _ _
    (turn_at c.args.self.now.me 0 c.args.self.now.idle c.args.self.now.sessions (frame_of (take c.in-Datagram.len c.take.new.buf)))
    (rw c.in-Datagram.is at c.in_ok-taken.ensures.adds)
    (answer_of taken c.hear_datagram.new.buf) played answers)
    c.hear_datagram.ensures.played c.hear_datagram.ensures.answers

pub returns-in-Datagram-clause-failed : goal.returns-in-Datagram-clause-failed
returns-in-Datagram-clause-failed g c = on_err_one c.hear_datagram.result _ _
    (λ cut. has_failed c.args.self.now.me _ _ _ _ _ _ _
    (turn_at c.args.self.now.me 0 c.args.self.now.idle c.args.self.now.sessions (frame_of (take c.in-Datagram.len c.take.new.buf)))
    (rw c.in-Datagram.is at c.in_ok-taken.ensures.adds) _ refl cut)
    c.hear_datagram.ensures.cut

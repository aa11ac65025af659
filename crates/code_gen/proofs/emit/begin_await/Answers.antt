use Rattle.code_gen.proofs.PointCode.{await_begun}
use Rattle.code_gen.proofs.emit.begin_await.Goals as goal

pub returns : goal.returns
returns c =
    await_begun _ _ _ _ _ _ c.next_number-number.ensures c.new.ensures c.in_ok-add_point.ensures c.in_ok-put.ensures c.len-at.ensures c.new-2.ensures c.new-3.ensures

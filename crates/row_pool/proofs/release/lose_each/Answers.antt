use Rattle.std.proofs.Common.{◌∙◌, add-one, drop-cons, refl}
use Rattle.row_pool.proofs.ReleaseLaws.{all_gone, next_goes, none_go}
use Rattle.row_pool.proofs.release.lose_each.Goals as goal

pub loop-key-init : goal.loop-key-init
loop-key-init c = (λ find. none_go find c.args.cells.now.slots c.args.first c.args.keys.now, refl, λ numbers marks. marks)

pub loop-key-preserved : goal.loop-key-preserved
loop-key-preserved c = (
  λ find. next_goes find _ _ _ _ _ _ _ _ _ _ (c.loop-key.invariant.0 find) (rw add-one (drop-cons c.args.keys.now c.loop-key.key-index 0 c.loop-key-test.true)) c.lose_holder-next.ensures.loses,
  c.lose_holder-next.ensures.len ∙ c.loop-key.invariant.1,
  λ numbers marks. c.lose_holder-next.ensures.marked numbers (c.loop-key.invariant.2 numbers marks),
)

pub returns-clause-loses : goal.returns-clause-loses
returns-clause-loses c = λ find. all_gone find _ _ _ _ _ c.loop-key.key-index (c.loop-key.invariant.0 find) c.loop-key-test.false

pub returns-clause-marked : goal.returns-clause-marked
returns-clause-marked c = c.loop-key.invariant.2

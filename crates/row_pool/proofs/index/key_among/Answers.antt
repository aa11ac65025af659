use Rattle.std.proofs.Common.{◌+◌, add-one, drop, drop-cons, get_or}
use Rattle.da_values.specs.Value.{val_of}
use Rattle.row_pool.proofs.NumberLaws.{none_left, passes_value}
use Rattle.row_pool.proofs.ReleaseLaws.{drop_all}
use Rattle.row_pool.proofs.index.key_among.Goals as goal

pub loop-key-init : goal.loop-key-init
loop-key-init c = λ k has at. has

pub loop-key-preserved : goal.loop-key-preserved
loop-key-preserved c =
    passes_value c.args.cells.now.slots (val_of c.args.v.now) c.args.keys.now (drop c.loop-key.key-index c.args.keys.now) (drop (c.loop-key.key-index + 1) c.args.keys.now)
    (get_or c.args.keys.now c.loop-key.key-index 0) c.loop-key.invariant (rw add-one (drop-cons c.args.keys.now c.loop-key.key-index 0 c.loop-key-test.true)) (c.has_value.ensures.not c.if-has_value.false)

pub returns-then-has_value : goal.returns-then-has_value
returns-then-has_value c = c.has_value.ensures.yes c.if-has_value.true

pub returns : goal.returns
returns c = λ k has at.
    none_left c.args.keys.now (drop c.loop-key.key-index c.args.keys.now) k (λ there. c.loop-key.invariant k there at) (drop_all c.args.keys.now c.loop-key.key-index c.loop-key-test.false) has

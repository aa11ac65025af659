use Rattle.std.specs.Prelude.{Some}
use Rattle.std.proofs.Common.{◌+◌, ◌∙◌, add-one, ap, arith, drop, drop-cons, get_or}
use Rattle.std.proofs.lemmas.Option.{slice_get-get_or}
use Rattle.row_pool.proofs.NumberLaws.{none_left, passes}
use Rattle.row_pool.proofs.ReleaseLaws.{drop_all}
use Rattle.row_pool.proofs.index.place_of.Goals as goal

pub loop-place-init : goal.loop-place-init
loop-place-init c = λ has. has

pub loop-place-preserved : goal.loop-place-preserved
loop-place-preserved c =
    passes c.args.keys.now (drop c.loop-place.place c.args.keys.now) (drop (c.loop-place.place + 1) c.args.keys.now) (get_or c.args.keys.now c.loop-place.place 0) c.args.key c.loop-place.invariant
    (rw add-one (drop-cons c.args.keys.now c.loop-place.place 0 c.loop-place-test.true)) (c.is_one.ensures.not c.if-is_one.false)

pub returns-then-is_one : goal.returns-then-is_one
returns-then-is_one c = slice_get-get_or c.args.keys.now c.loop-place.place 0 c.loop-place-test.true ∙ ap Some (c.is_one.ensures.yes c.if-is_one.true)

pub returns : goal.returns
returns c = λ has. none_left c.args.keys.now (drop c.loop-place.place c.args.keys.now) c.args.key c.loop-place.invariant (drop_all c.args.keys.now c.loop-place.place (omega (arith, c.loop-place-test.false))) has

use Rattle.std.proofs.Common.{arith}
use Rattle.da_pattern.proofs.TakenAt.{found_here, goes_after, no_part, no_values}
use Rattle.da_pattern.proofs.taken.+taken.Goals as goal

pub taken_of_parts-returns-then-place-values : goal.taken_of_parts-returns-then-place-values
taken_of_parts-returns-then-place-values t c = no_values c.args.parts.now c.args.values.now c.args.at c.loop-place.left c.loop-place.place c.loop-place.invariant (omega (arith, c.if-place-values.true))

pub taken_of_parts-returns-in-Ok : goal.taken_of_parts-returns-in-Ok
taken_of_parts-returns-in-Ok t c =
    found_here c.args.parts.now c.args.values.now c.args.at c.loop-place.left c.loop-place.place c.loop-place.invariant _ _ (omega (arith, c.loop-place-test.true)) (omega (arith, c.if-place-values.false)) _ _ c.index-parts-place.is c.index-values-place.is c.in-Ok.found c.in-Ok.ensures

pub taken_of_parts-loop-place-preserved : goal.taken_of_parts-loop-place-preserved
taken_of_parts-loop-place-preserved t c =
    goes_after c.args.parts.now c.args.values.now c.args.at c.loop-place.left c.loop-place.place c.loop-place.invariant _ _ (omega (arith, c.loop-place-test.true)) (omega (arith, c.if-place-values.false)) _ _ c.index-parts-place.is c.index-values-place.is c.in-Err.behind c.in-Err.ensures

pub taken_of_parts-returns : goal.taken_of_parts-returns
taken_of_parts-returns t c = no_part c.args.parts.now c.args.values.now c.args.at c.loop-place.left c.loop-place.place c.loop-place.invariant (omega (arith, c.loop-place-test.false))

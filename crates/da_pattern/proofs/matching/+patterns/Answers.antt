use Rattle.std.proofs.Common.{arith, rules}
use Rattle.da_pattern.proofs.PatternsAt.{one_more, other_kind, parts_differ, tuple_matches}
use Rattle.da_pattern.proofs.RowsAt.{row-Behind}
use Rattle.da_pattern.specs.RowView.{row_of}
use Rattle.da_pattern.proofs.matching.+patterns.Goals as goal

pub fits-returns-in-Tuple-v : goal.fits-returns-in-Tuple-v
fits-returns-in-Tuple-v t c = tuple_matches _ _ _ c.args.p.now c.args.v.now _ c.in-Tuple.is c.in-Tuple-v.values c.as_slice.result.now _ _ c.in-Tuple-v.is c.as_slice.ensures c.as_slice-in-Tuple-v.ensures c.parts_fit.ensures

pub fits-returns-in_default : goal.fits-returns-in_default
fits-returns-in_default t c = other_kind _ _ _ c.args.p.now c.args.v.now _ c.in-Tuple.is c.in_default.not-Tuple

pub parts_fit-returns-then-parts-values : goal.parts_fit-returns-then-parts-values
parts_fit-returns-then-parts-values t c = parts_differ _ _ _ c.args.parts.now c.args.values.now c.if-parts-values.true

pub parts_fit-loop-place-preserved : goal.parts_fit-loop-place-preserved
parts_fit-loop-place-preserved t c =
    one_more c.args.process.now.me c.args.process.now.slots.now (row_of c.args.row.now) c.args.parts.now c.args.values.now (search rules) c.loop-place.place c.loop-place.invariant _ _ (omega (arith, c.loop-place-test.true)) _ _ c.index-parts-place.is c.index-values-place.is _ (row-Behind _ _ _) _ c.fits.ensures (search rules)

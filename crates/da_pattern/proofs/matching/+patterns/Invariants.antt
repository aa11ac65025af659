use Rattle.da_pattern.specs.RowView.{row_of}
use Rattle.da_pattern.proofs.PatternsAt.{PartsFit}
use Rattle.da_pattern.proofs.matching.+patterns.Given as goal

abbrev pub invariant-parts_fit-loop-place : goal.invariant-parts_fit-loop-place
invariant-parts_fit-loop-place l = PartsFit l.process.me l.process.slots.now (row_of l.row) l.parts l.values l.place

use Rattle.std.proofs.Common.{drop}
use Rattle.da_values.specs.Sets.{Has}
use Rattle.row_pool.proofs.index.place_of.Given as goal

abbrev pub invariant-loop-place : goal.invariant-loop-place
invariant-loop-place l = Has l.keys l.key → Has (drop l.place l.keys) l.key

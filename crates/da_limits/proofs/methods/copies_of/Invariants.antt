use Rattle.std.proofs.Common.{◌≡◌}
use Rattle.da_calls.specs.CallGraph.{methods_in, number_of}
use Rattle.da_limits.proofs.MethodExtents.{Filled}
use Rattle.da_limits.proofs.methods.copies_of.Given as goal

abbrev pub invariant-loop-number : goal.invariant-loop-number
invariant-loop-number l = record {
  graph : l.copies.graph ≡ l.initial.copies.graph;
  filled : Filled l.graph.class.now (methods_in l.graph) (number_of l.graph) l.number-items l.number-index l.copies.extents;
}

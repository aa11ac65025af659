use Rattle.std.proofs.Common.{◌≡◌, ◌++◌, drop}
use Rattle.type_demands.specs.Demands.{at_line}
use Rattle.type_demands.specs.KnownView.{context_of}
use Rattle.type_demands.specs.Terms.{gens_sym}
use Rattle.type_demands.proofs.patterns.gens_demands.Given as goal

abbrev pub invariant-loop-generator : goal.invariant-loop-generator
invariant-loop-generator l =
    let context = context_of l.known in
    let left = gens_sym context (drop l.generator-index l.gens) l.row in
    (left.row ≡ (gens_sym context l.gens l.fn.row).row)
    × (l.demands ++ at_line l.known.line left.demands ≡ l.fn.demands ++ at_line l.known.line (gens_sym context l.gens l.fn.row).demands)

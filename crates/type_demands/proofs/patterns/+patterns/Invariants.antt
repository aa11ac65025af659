use Rattle.std.proofs.Common.{◌≡◌, ◌++◌, map, drop}
use Rattle.type_demands.specs.Demands.{at_line}
use Rattle.type_demands.specs.KnownView.{context_of}
use Rattle.type_demands.specs.Terms.{parts_sym, pattern_sym}
use Rattle.type_demands.proofs.patterns.+patterns.Given as goal

abbrev pub invariant-parts_demands-loop-pattern : goal.invariant-parts_demands-loop-pattern
invariant-parts_demands-loop-pattern l =
    let syms = map (pattern_sym (context_of l.known)) l.patterns in
    let left = parts_sym l.at l.count l.asked (map (pattern_sym (context_of l.known)) (drop l.pattern-index l.patterns)) l.row in
    (l.at ≡ l.pattern-index)
    × (left.row ≡ (parts_sym 0 l.count l.asked syms l.fn.row).row)
    × (l.demands ++ at_line l.known.line left.demands ≡ l.fn.demands ++ at_line l.known.line (parts_sym 0 l.count l.asked syms l.fn.row).demands)

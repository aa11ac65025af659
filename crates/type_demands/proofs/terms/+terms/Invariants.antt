use Rattle.std.proofs.Common.{◌≡◌, ◌++◌, map, take}
use Rattle.type_demands.specs.Demands.{at_line}
use Rattle.type_demands.specs.KnownView.{context_of}
use Rattle.type_demands.specs.Syms.{demands_in, schemes_in}
use Rattle.type_demands.specs.Terms.{term_sym}
use Rattle.type_demands.proofs.terms.+terms.Given as goal

abbrev pub invariant-terms_demands-loop-term : goal.invariant-terms_demands-loop-term
invariant-terms_demands-loop-term l =
    (l.schemes ≡ schemes_in (map (λ x. term_sym (context_of l.known) x l.row) (take l.term-index l.terms)))
    × (l.demands ≡ l.fn.demands ++ at_line l.known.line (demands_in (map (λ x. term_sym (context_of l.known) x l.row) (take l.term-index l.terms))))

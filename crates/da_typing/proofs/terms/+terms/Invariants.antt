use Rattle.std.proofs.Common.{map, drop}
use Rattle.da_lang.specs.QueryTypes.{all_types, term_type}
use Rattle.da_typing.specs.KnownView.{known_of}
use Rattle.da_typing.proofs.Walks.{Gathers}
use Rattle.da_typing.proofs.terms.+terms.Given as goal

abbrev pub invariant-term_types-loop-term : goal.invariant-term_types-loop-term
invariant-term_types-loop-term l = Gathers l.types (map (λ x. term_type (known_of l.known) x l.row) (drop l.term-index l.terms)) (all_types (map (λ x. term_type (known_of l.known) x l.row) l.terms))

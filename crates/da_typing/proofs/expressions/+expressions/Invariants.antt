use Rattle.std.proofs.Common.{◌≡◌, true, map, take, drop}
use Rattle.std.specs.List.{list_all}
use Rattle.da_lang.specs.ExprTypes.{parts_fit, truth, typing}
use Rattle.da_lang.specs.QueryTypes.{all_types}
use Rattle.da_typing.specs.Chains.{chain_holds}
use Rattle.da_typing.specs.KnownView.{known_of}
use Rattle.da_typing.proofs.Walks.{Gathers}
use Rattle.da_typing.proofs.expressions.+expressions.Given as goal

abbrev pub invariant-truth_of_all-loop-x : goal.invariant-truth_of_all-loop-x
invariant-truth_of_all-loop-x l = list_all (λ x. truth (typing (known_of l.known) l.queries x)) (take l.x-index l.xs) ≡ true

abbrev pub invariant-all_fit-loop-x : goal.invariant-all_fit-loop-x
invariant-all_fit-loop-x l = list_all (λ x. (typing (known_of l.known) l.queries x).fits l.ty) (take l.x-index l.xs) ≡ true

abbrev pub invariant-are_operands-loop-part : goal.invariant-are_operands-loop-part
invariant-are_operands-loop-part l = chain_holds (known_of l.known) l.queries l.ty (take l.part-index l.more) ≡ true

abbrev pub invariant-expr_types-loop-x : goal.invariant-expr_types-loop-x
invariant-expr_types-loop-x l =
    Gathers l.types (map (λ x. (typing (known_of l.known) l.queries x).type_) (drop l.x-index l.xs)) (all_types (map (λ x. (typing (known_of l.known) l.queries x).type_) l.xs))

abbrev pub invariant-parts_fit-loop-x : goal.invariant-parts_fit-loop-x
invariant-parts_fit-loop-x l = parts_fit (map (typing (known_of l.known) l.queries) (drop l.x-index l.xs)) l.rest ≡ parts_fit (map (typing (known_of l.known) l.queries) l.xs) l.types

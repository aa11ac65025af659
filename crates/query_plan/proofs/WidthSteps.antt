-- Sums over lists of patterns, and widths of nodes, that a loop goes through.
use Rattle.std.specs.Prelude.{◌≡◌, ◌<◌, ◌+◌, ℕ, List, [], ◌∷◌, ◌++◌, length, take, get_or, slice_index_or}
use Rattle.std.specs.List.{sum_by}
use Rattle.std.proofs.Common.{◌∙◌, ap, sym}
use Rattle.std.proofs.lemmas.List.{take_more}
use Rattle.std.proofs.lemmas.List.Sums.{sum-map, sum_by_more}
use Rattle.da_lang.specs.declared.query.Node.{Node}
use Rattle.da_lang.specs.declared.query.Pattern.{Pattern}
use Rattle.da_lang.specs.declared.query.Pattern.TheVariants as pattern
use Rattle.query_plan.specs.Nodes.{binds, in_order, width_step}
use Rattle.query_plan.proofs.NodeLaws.{in_order-append}
use Rattle.query_plan.proofs.WidthLaws.{binds-Any, binds-Bind, binds-Const, binds-Me, binds-Equal, binds-Tuple}

pub tuple_binds : (parts : List Pattern) → binds (pattern.Tuple parts) ≡ sum_by binds parts
tuple_binds parts = binds-Tuple parts ∙ sum-map binds parts

pub ruleset binding = (binds-Any, binds-Bind, binds-Const, binds-Me, binds-Equal, tuple_binds)

pub ruleset summing = (sum_by_more)

-- a further node has the next width
pub widths_more : (nodes : List Node) (i : ℕ) (n : Node) (widths new : List ℕ) (w : ℕ) → n ≡ slice_index_or nodes i n → i < length nodes
    → widths ≡ in_order 0 width_step [] (take i nodes) → w ≡ width_step (λ j. get_or widths j 0) n → new ≡ widths ++ w ∷ []
    → new ≡ in_order 0 width_step [] (take (i + 1) nodes)
widths_more nodes i n widths new w here inside so_far width grown =
    grown ∙ ap (λ x. widths ++ x ∷ []) width
    ∙ ap (λ known. in_order 0 width_step known (n ∷ [])) so_far
    ∙ sym (in_order-append 0 width_step (take i nodes) (n ∷ []) [])
    ∙ ap (in_order 0 width_step []) (sym (take_more nodes i n inside ∙ ap (λ x. take i nodes ++ x ∷ []) (sym here)))

-- What the functions that add a node do, in the words of the definitions.
use Rattle.std.specs.Prelude.{◌≡◌, ◌==◌, ℕ, Bool, true, false, if◌then◌else◌, List, position, Option, Some, refl}
use Rattle.std.proofs.Common.{ap, sym, ◌∙◌}
use Rattle.std.proofs.lemmas.Bool.{eqb-false, eqb-true}
use Rattle.da_lang.specs.declared.query.Cond.{Cond}
use Rattle.da_lang.specs.declared.query.Node.{Node}
use Rattle.da_lang.specs.declared.query.Node.TheVariants as node
use Rattle.query_plan.specs.Plans.{Place, placed, added, filter_on, semi_on, compared}
use Rattle.query_plan.specs.Spelled.{same_node}

-- a node that is there, and one that is not
pub found_there : (nodes read : List Node) (n : Node) (place : Option ℕ) (k number : ℕ) → place ≡ position (same_node n) read → read ≡ nodes → place ≡ Some k → number ≡ k → ◌≡◌ {A = List Node × ℕ} (added nodes n) (nodes, number)
found_there nodes read n place k number e r f g = ap (placed n nodes) (ap (position (same_node n)) (sym r) ∙ sym e ∙ f) ∙ ap {B = List Node × ℕ} (λ (i : ℕ). (nodes, i)) (sym g)

-- a comparison without aggregates, and one after some
pub compared_here : (at last : Place) (b : Cond) (nodes : List Node) (end : List Node × ℕ) → at.node ≡ last.node → added nodes (node.Filter at.node b) ≡ end → compared at last b nodes ≡ end
compared_here at last b nodes end same made = choose (at.node == last.node) refl
  where
    choose : (flat : Bool) → (at.node == last.node) ≡ flat → (if flat then filter_on b at nodes else semi_on at (filter_on b last nodes)) ≡ end
    choose true e = made
    choose false e = absurd (eqb-false at.node last.node e same)

pub compared_after : (at last : Place) (b : Cond) (nodes first : List Node) (child : ℕ) (end : List Node × ℕ) → (at.node ≡ last.node → ⊥) → ◌≡◌ {A = List Node × ℕ} (added nodes (node.Filter last.node b)) (first, child) → added first (node.Semi at.node child) ≡ end → compared at last b nodes ≡ end
compared_after at last b nodes first child end differ inner made = choose (at.node == last.node) refl
  where
    choose : (flat : Bool) → (at.node == last.node) ≡ flat → (if flat then filter_on b at nodes else semi_on at (filter_on b last nodes)) ≡ end
    choose true e = absurd (differ (eqb-true at.node last.node e))
    choose false e = ap (semi_on at) inner ∙ made

-- Where a plan is that of a class, what is told by its nodes is what the queries of the class give.
use Rattle.std.specs.Prelude.{◌≡◌, ℕ, zero, suc, List, [], ◌∷◌, map, slice_get, Option, Some, None, refl}
use Rattle.std.specs.List.{AllZip}
use Rattle.std.proofs.Common.{ap}
use Rattle.da_values.specs.declared.val.Val.TheVariants as val
use Rattle.da_lang.specs.declared.program.Class.{Class}
use Rattle.da_lang.specs.declared.query.Node.{Node}
use Rattle.da_lang.specs.declared.query.Query.{Query}
use Rattle.da_lang.specs.declared.query.QueryNode.{QueryNode}
use Rattle.da_lang.specs.Queries.{least_of_numbered, least_row, query_value, shown_of_numbered, shown_set, value_of_numbered}
use Rattle.da_lang.specs.World.{Data, at_number}
use Rattle.delta_rules.specs.Told.{asked, least_found, least_of_node, set_listed, shown_of_node, value_of_node}
use Rattle.query_plan.specs.declared.plan.Plan.{Plan}
use Rattle.query_plan.specs.Told.{IsPlanOf, TellsQuery}

-- of two lists that go together, both have a member at a place, or neither has
module _ {A B : Type 0} (R : A → B → Type 0) where
  abbrev pub Together : Option A → Option B → Type 0
  Together None None = Unit {0}
  Together None (Some y) = ⊥
  Together (Some x) None = ⊥
  Together (Some x) (Some y) = R x y

  pub zipped_at : (xs : List A) (ys : List B) → AllZip R xs ys → (i : ℕ) → Together (slice_get xs i) (slice_get ys i)
  zipped_at [] [] all i = tt
  zipped_at [] (y ∷ ys) all i = absurd all
  zipped_at (x ∷ xs) [] all i = absurd all
  zipped_at (x ∷ xs) (y ∷ ys) all zero = all.0
  zipped_at (x ∷ xs) (y ∷ ys) all (suc i) = zipped_at xs ys all.1 i

  pub numbered_at : (xs : List A) (ys : List B) → AllZip R xs ys → (n : ℕ) → Together (at_number xs n) (at_number ys n)
  numbered_at xs ys all zero = tt
  numbered_at xs ys all (suc i) = zipped_at xs ys all i

module _ (d : Data) (nodes : List Node) where
  values_told : (o : Option Query) (p : Option QueryNode) → Together (TellsQuery d nodes) o p → value_of_node d nodes p ≡ value_of_numbered d o
  values_told None None both = refl
  values_told None (Some p) both = absurd both
  values_told (Some q) None both = absurd both
  values_told (Some q) (Some p) both = both.value

  least_told : (o : Option Query) (p : Option QueryNode) → Together (TellsQuery d nodes) o p → least_of_node d nodes p ≡ least_of_numbered d o
  least_told None None both = refl
  least_told None (Some p) both = absurd both
  least_told (Some q) None both = absurd both
  least_told (Some q) (Some p) both = both.least

  shown_told : (o : Option Query) (p : Option QueryNode) → Together (TellsQuery d nodes) o p → shown_of_node d nodes p ≡ shown_of_numbered d o
  shown_told None None both = refl
  shown_told None (Some p) both = absurd both
  shown_told (Some q) None both = absurd both
  shown_told (Some q) (Some p) both = both.shown

module _ (class : Class) (plan : Plan) (of : IsPlanOf class plan) (d : Data) where
  -- the value of each numbered query, its least row, and what `show` lists of it
  pub value_asked : (q : ℕ) → asked d plan q ≡ query_value class.queries q d
  value_asked q = values_told d plan.nodes (at_number class.queries q) (at_number plan.queries q) (numbered_at (TellsQuery d plan.nodes) class.queries plan.queries (of.queries d) q)

  pub row_found : (q : ℕ) → least_found d plan q ≡ least_row class.queries q d
  row_found q = least_told d plan.nodes (at_number class.queries q) (at_number plan.queries q) (numbered_at (TellsQuery d plan.nodes) class.queries plan.queries (of.queries d) q)

  pub set_shown : (q : ℕ) → set_listed d plan q ≡ shown_set class.queries q d
  set_shown q = ap (map val.Tuple) (shown_told d plan.nodes (at_number class.queries q) (at_number plan.queries q) (numbered_at (TellsQuery d plan.nodes) class.queries plan.queries (of.queries d) q))

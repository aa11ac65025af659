-- From conditions to nodes.
use Rattle.std.specs.Prelude.{ℕ, suc, ◌+◌, ◌==◌, true, if◌then◌else◌, List, [], ◌∷◌, ◌++◌, length, position, Option, Some, None}
use Rattle.std.specs.List.{range_with_len}
use Rattle.da_values.specs.declared.value.Value.TheVariants as kept
use Rattle.da_lang.specs.declared.query.Agg.{Agg}
use Rattle.da_lang.specs.declared.query.Cond.{Cond}
use Rattle.da_lang.specs.declared.query.Cond.TheVariants as cond
use Rattle.da_lang.specs.declared.query.Cond.TheOpen.{Cond-F, Operand-F, Agg-F, SignedOperand-F}
use Rattle.da_lang.specs.declared.query.Cond.TheFolds.{fold-Cond, fold-Operand, fold-Agg, fold-SignedOperand}
use Rattle.da_lang.specs.declared.query.Node.{Node}
use Rattle.da_lang.specs.declared.query.Node.TheVariants as node
use Rattle.da_lang.specs.declared.query.Operand.{Operand}
use Rattle.da_lang.specs.declared.query.Operand.TheVariants as operand
use Rattle.da_lang.specs.declared.query.Pattern.{Pattern}
use Rattle.da_lang.specs.declared.query.Pattern.TheVariants as made
use Rattle.da_lang.specs.declared.query.Pattern.TheOpen as pattern
use Rattle.da_lang.specs.declared.query.Pattern.TheOpen.{Pattern-F}
use Rattle.da_lang.specs.declared.query.Pattern.TheFolds.{fold-Pattern}
use Rattle.da_lang.specs.declared.query.RGen.{RGen}
use Rattle.da_lang.specs.declared.query.SignedOperand.{SignedOperand, roll-SignedOperand}
use Rattle.da_lang.specs.declared.query.Term.{Term}
use Rattle.da_lang.specs.declared.query.Term.TheVariants as term
use Rattle.da_lang.specs.declared.query.Term.TheOpen as layer
use Rattle.da_lang.specs.declared.query.Term.TheOpen.{Term-F}
use Rattle.da_lang.specs.declared.query.Term.TheFolds.{fold-Term}
use Rattle.da_lang.specs.World.{at_number}
use Rattle.query_plan.specs.Nodes.{parts_added}
use Rattle.query_plan.specs.Spelled.{same_node}

-- A node, how many parts its rows have, and for each variable in scope the part in which it stands. An AggBind adds a
-- part that is no variable, so a variable may stand further on than its number among the variables says.
pub record Place : Type 0 where
  pub node : ℕ
  pub width : ℕ
  pub vars : List ℕ

-- Terms and patterns with the parts of rows in the place of variables.

-- the part of a variable, where there is one
abbrev pub part_of : Option ℕ → Term
part_of None = term.Foreign
part_of (Some part) = term.Part part

-- variable k, where the variables stand in these parts
abbrev pub known : List ℕ → ℕ → Term
known vars k = part_of (at_number vars k)

abbrev pub rename_step : (ℕ → Term) → Term-F Term → Term
rename_step f (layer.Const c) = term.Const c
rename_step f layer.Me = term.Me
rename_step f (layer.Slot s) = term.Slot s
rename_step f (layer.Part k) = f k
rename_step f (layer.Tuple parts) = term.Tuple parts
rename_step f layer.Foreign = term.Foreign

-- a term with what f gives of each variable
abbrev pub rename : (ℕ → Term) → Term → Term
rename f = fold-Term Term (rename_step f)

abbrev pub rename_other : (ℕ → Term) → Option Term → Option Term
rename_other f None = None
rename_other f (Some t) = Some (rename f t)

abbrev pub rename_pattern_step : (ℕ → Term) → Pattern-F Pattern → Pattern
rename_pattern_step f pattern.Any = made.Any
rename_pattern_step f pattern.Bind = made.Bind
rename_pattern_step f (pattern.Const c) = made.Const c
rename_pattern_step f pattern.Me = made.Me
rename_pattern_step f (pattern.Equal t) = made.Equal (rename f t)
rename_pattern_step f (pattern.Tuple parts) = made.Tuple parts

abbrev pub rename_pattern : (ℕ → Term) → Pattern → Pattern
rename_pattern f = fold-Pattern Pattern (rename_pattern_step f)

abbrev pub rename_gen : (ℕ → Term) → RGen → RGen
rename_gen f g = record { source = g.source; message = rename_pattern f g.message; peer = rename_pattern f g.peer }

-- Nodes are added to those that are there, which come first.

-- nodes with a further one, and its number; or the number of one of them
abbrev pub placed : Node → List Node → Option ℕ → List Node × ℕ
placed n nodes None = (nodes ++ n ∷ [], length nodes)
placed n nodes (Some k) = (nodes, k)

-- nodes with this one: where one of them is equal to it, that is the one
abbrev pub added : List Node → Node → List Node × ℕ
added nodes n = placed n nodes (position (same_node n) nodes)

-- the nodes for a condition at a place, and the node of the place's rows for which it holds
abbrev pub Norm : Type 0
Norm = Place → List Node → List Node × ℕ

-- another node with the same parts
abbrev pub at_node : Place → ℕ → Place
at_node at k = record at { node = k }

abbrev pub filter_on : Cond → Norm
filter_on b at nodes = added nodes (node.Filter at.node b)

-- the rows of the place that some row of the other node extends, and those that none does
abbrev pub semi_on : Place → List Node × ℕ → List Node × ℕ
semi_on at child = added child.0 (node.Semi at.node child.1)

abbrev pub anti_on : Place → List Node × ℕ → List Node × ℕ
anti_on at child = added child.0 (node.Anti at.node child.1)

-- the variables after a generator: its own stand in the parts that it adds
abbrev pub vars_after : Place → RGen → List ℕ
vars_after at g = at.vars ++ range_with_len (suc at.width) (parts_added g)

-- after a generator, at its node
abbrev pub place_after : Place → RGen → ℕ → Place
place_after at g k = record { node = k; width = at.width + parts_added g; vars = vars_after at g }

-- the node of a generator
abbrev pub gen_node : Place → RGen → Node
gen_node at g = node.Gen at.node (rename_gen (known (vars_after at g)) g)

-- the chain of the generators
abbrev pub gens_on : List RGen → Place → List Node → List Node × Place
gens_on [] at nodes = (nodes, at)
gens_on (g ∷ gs) at nodes = let first = added nodes (gen_node at g) in gens_on gs (place_after at g first.1) first.0

-- one condition after the other
abbrev pub all_on : List Norm → Norm
all_on [] at nodes = (nodes, at.node)
all_on (f ∷ fs) at nodes = let first = f at nodes in all_on fs (at_node at first.1) first.0

-- the rows of a node, and those of the place for which one of the conditions holds
abbrev pub or_on : List Norm → Place → List Node × ℕ → List Node × ℕ
or_on [] at left = left
or_on (f ∷ fs) at left = let right = f at left.0 in or_on fs at (added right.0 (node.Union left.1 right.1))

-- (an `or` has a part; of none no row is left)
abbrev pub any_on : List Norm → Norm
any_on [] at nodes = anti_on at (nodes, at.node)
any_on (f ∷ fs) at nodes = or_on fs at (f at nodes)

-- a condition that is left out holds of every row
abbrev pub test_on : Option Norm → Norm
test_on None at nodes = (nodes, at.node)
test_on (Some f) at nodes = f at nodes

-- the rows for which it does not hold; here one that is left out is written `true`
abbrev pub denied_on : Option Norm → Norm
denied_on None at nodes = anti_on at (filter_on (cond.Truth (term.Const (kept.Bool true))) at nodes)
denied_on (Some f) at nodes = anti_on at (f at nodes)

abbrev pub some_on : List RGen → Option Norm → Norm
some_on gens f at nodes = let last = gens_on gens at nodes in semi_on at (test_on f last.1 last.0)

abbrev pub each_on : List RGen → Option Norm → Norm
each_on gens f at nodes = let last = gens_on gens at nodes in anti_on at (denied_on f last.1 last.0)

-- The aggregates of an operand are bound from left to right, and the new parts stand in their places. This gives the
-- nodes, the place after the last one, and what the operand becomes.
abbrev pub Binding : Type 0 → Type 0
Binding A = Place → List Node → List Node × Place × A

abbrev pub all_bound : {A : Type 0} → List (Binding A) → Binding (List A)
all_bound [] at nodes = (nodes, at, [])
all_bound (f ∷ fs) at nodes = let first = f at nodes in let others = all_bound fs first.1 first.0 in (others.0, others.1, first.2 ∷ others.2)

-- A comparison, at the place after the aggregates of its operands. Where there are none, that is the first place.
abbrev pub compared : Place → Place → Cond → List Node → List Node × ℕ
compared at last b nodes = if at.node == last.node then filter_on b at nodes else semi_on at (filter_on b last nodes)

abbrev pub cond_step : Cond-F Norm (Binding Operand) (Binding Operand) (Binding SignedOperand) → Norm
cond_step (Cond-F.Truth t) at nodes = filter_on (cond.Truth (rename (known at.vars) t)) at nodes
cond_step (Cond-F.Cmp op a b) at nodes =
    let left = a at nodes in
    let right = b left.1 left.0 in
    compared at right.1 (cond.Cmp op left.2 right.2) right.0
cond_step (Cond-F.Not f) at nodes = anti_on at (f at nodes)
cond_step (Cond-F.And fs) at nodes = all_on fs at nodes
cond_step (Cond-F.Or fs) at nodes = any_on fs at nodes
cond_step (Cond-F.Quant each gens f) at nodes = if each then each_on gens f at nodes else some_on gens f at nodes

abbrev pub operand_step : Operand-F Norm (Binding Operand) (Binding Operand) (Binding SignedOperand) → Binding Operand
operand_step (Operand-F.Term t) at nodes = (nodes, at, operand.Term (rename (known at.vars) t))
operand_step (Operand-F.Agg a) at nodes = a at nodes
operand_step (Operand-F.Chain a more) at nodes =
    let first = a at nodes in
    let others = all_bound more first.1 first.0 in
    (others.0, others.1, operand.Chain first.2 others.2)

-- the node of an aggregate over a node, whose variables stand in these parts
abbrev pub agg_node : Agg-F Norm (Binding Operand) (Binding Operand) (Binding SignedOperand) → Place → List ℕ → ℕ → Node
agg_node a at vars child = node.AggBind at.node child a.op (rename (known vars) a.term) (rename_other (known at.vars) a.other)

-- after an aggregate, at its node
abbrev pub after_agg : Place → ℕ → Place
after_agg at k = record { node = k; width = suc at.width; vars = at.vars }

abbrev pub agg_step : Agg-F Norm (Binding Operand) (Binding Operand) (Binding SignedOperand) → Binding Operand
agg_step a at nodes =
    let last = gens_on a.gens at nodes in
    let child = test_on a.cond last.1 last.0 in
    let end = added child.0 (agg_node a at last.1.vars child.1) in
    (end.0, after_agg at end.1, operand.Term (term.Part (suc at.width)))

abbrev pub signed_step : SignedOperand-F Norm (Binding Operand) (Binding Operand) (Binding SignedOperand) → Binding SignedOperand
signed_step s at nodes = let only = s.operand at nodes in (only.0, only.1, roll-SignedOperand (record { minus = s.minus; operand = only.2 }))

-- the nodes for a condition
abbrev pub norm : Cond → Norm
norm = fold-Cond Norm (Binding Operand) (Binding Operand) (Binding SignedOperand) cond_step operand_step agg_step signed_step

-- the nodes for the aggregates of an operand, for an aggregate, for a further operand of a chain
abbrev pub operand_bound : Operand → Binding Operand
operand_bound = fold-Operand Norm (Binding Operand) (Binding Operand) (Binding SignedOperand) cond_step operand_step agg_step signed_step

abbrev pub agg_bound : Agg → Binding Operand
agg_bound = fold-Agg Norm (Binding Operand) (Binding Operand) (Binding SignedOperand) cond_step operand_step agg_step signed_step

abbrev pub signed_bound : SignedOperand → Binding SignedOperand
signed_bound = fold-SignedOperand Norm (Binding Operand) (Binding Operand) (Binding SignedOperand) cond_step operand_step agg_step signed_step

-- of a condition that may be left out
abbrev pub norm_if : Option Cond → Option Norm
norm_if None = None
norm_if (Some b) = Some (norm b)

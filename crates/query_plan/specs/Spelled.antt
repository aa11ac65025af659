-- Nodes as values. Two nodes are one where they are spelled alike, and they are compared by the order of values.
use Rattle.std.specs.Prelude.{ℕ, pos, Bool, List, [], ◌∷◌, map, Option, Some, None}
use Rattle.da_values.specs.declared.val.Val.{Val}
use Rattle.da_values.specs.declared.val.Val.TheVariants as val
use Rattle.da_lang.specs.declared.query.AggOp.{AggOp}
use Rattle.da_lang.specs.declared.query.AggOp.TheVariants.{Count, Sum, Min, Max}
use Rattle.da_lang.specs.declared.query.Cond.{Cond}
use Rattle.da_lang.specs.declared.query.Cond.TheOpen.{Cond-F, Operand-F, Agg-F, SignedOperand-F}
use Rattle.da_lang.specs.declared.query.Cond.TheFolds.{fold-Cond}
use Rattle.da_lang.specs.declared.query.LivePattern.{LivePattern}
use Rattle.da_lang.specs.declared.query.Node.{Node}
use Rattle.da_lang.specs.declared.query.Node.TheVariants as node
use Rattle.da_lang.specs.declared.query.RGen.{RGen}
use Rattle.da_lang.specs.declared.query.Term.{Term}
use Rattle.da_lang.specs.declared.tree.CmpOp.{CmpOp}
use Rattle.da_lang.specs.declared.tree.CmpOp.TheVariants.{Eq, Ne, Lt, Le, Gt, Ge}
use Rattle.da_lang.specs.Live.{tagged, term_spelled, live_spelled}
use Rattle.da_lang.specs.Matching.{is_same}

abbrev pub number : ℕ → Val
number n = val.Int (pos n)

abbrev pub agg_op_number : AggOp → ℕ
agg_op_number Count = 0
agg_op_number Sum = 1
agg_op_number Min = 2
agg_op_number Max = 3

abbrev pub cmp_op_number : CmpOp → ℕ
cmp_op_number Eq = 0
cmp_op_number Ne = 1
cmp_op_number Lt = 2
cmp_op_number Le = 3
cmp_op_number Gt = 4
cmp_op_number Ge = 5

-- what may be left out
abbrev pub option_spelled : Option Val → Val
option_spelled None = val.Tuple []
option_spelled (Some x) = val.Tuple (x ∷ [])

abbrev pub other_spelled : Option Term → Val
other_spelled None = option_spelled None
other_spelled (Some t) = option_spelled (Some (term_spelled t))

-- a generator is spelled as the three parts of a live pattern are
abbrev pub three_parts : RGen → LivePattern
three_parts g = record { source = g.source; message = g.message; peer = g.peer }

abbrev pub gen_spelled : RGen → Val
gen_spelled g = live_spelled (three_parts g)

abbrev pub gens_spelled : List RGen → Val
gens_spelled gens = val.Tuple (map gen_spelled gens)

-- one layer of a condition, of an operand, of an aggregate, of a further operand
abbrev pub cond_spelled_step : Cond-F Val Val Val Val → Val
cond_spelled_step (Cond-F.Truth t) = tagged 0 (term_spelled t ∷ [])
cond_spelled_step (Cond-F.Cmp op a b) = tagged 1 (number (cmp_op_number op) ∷ a ∷ b ∷ [])
cond_spelled_step (Cond-F.Not b) = tagged 2 (b ∷ [])
cond_spelled_step (Cond-F.And bs) = tagged 3 bs
cond_spelled_step (Cond-F.Or bs) = tagged 4 bs
cond_spelled_step (Cond-F.Quant each gens b) = tagged 5 (val.Bool each ∷ gens_spelled gens ∷ option_spelled b ∷ [])

abbrev pub operand_spelled_step : Operand-F Val Val Val Val → Val
operand_spelled_step (Operand-F.Term t) = tagged 0 (term_spelled t ∷ [])
operand_spelled_step (Operand-F.Agg a) = tagged 1 (a ∷ [])
operand_spelled_step (Operand-F.Chain a more) = tagged 2 (a ∷ more)

abbrev pub agg_spelled_step : Agg-F Val Val Val Val → Val
agg_spelled_step a = val.Tuple (number (agg_op_number a.op) ∷ gens_spelled a.gens ∷ option_spelled a.cond ∷ term_spelled a.term ∷ other_spelled a.other ∷ [])

abbrev pub signed_spelled_step : SignedOperand-F Val Val Val Val → Val
signed_spelled_step s = val.Tuple (val.Bool s.minus ∷ s.operand ∷ [])

-- a condition as a value, and what stands in one
abbrev pub cond_spelled : Cond → Val
cond_spelled = fold-Cond Val Val Val Val cond_spelled_step operand_spelled_step agg_spelled_step signed_spelled_step

-- a node as a value
abbrev pub node_spelled : Node → Val
node_spelled node.Root = tagged 0 []
node_spelled (node.Gen p g) = tagged 1 (number p ∷ gen_spelled g ∷ [])
node_spelled (node.Filter p b) = tagged 2 (number p ∷ cond_spelled b ∷ [])
node_spelled (node.Semi p c) = tagged 3 (number p ∷ number c ∷ [])
node_spelled (node.Anti p c) = tagged 4 (number p ∷ number c ∷ [])
node_spelled (node.Union a b) = tagged 5 (number a ∷ number b ∷ [])
node_spelled (node.AggBind p c op t other) = tagged 6 (number p ∷ number c ∷ number (agg_op_number op) ∷ term_spelled t ∷ other_spelled other ∷ [])

-- whether two nodes are one
abbrev pub same_node : Node → Node → Bool
same_node a b = is_same (node_spelled a) (node_spelled b)

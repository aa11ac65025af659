-- The texts of the nodes and of the numbered queries of a plan, and of live patterns. `?` stands for what the plan of a
-- class of a typed program has not: `Foreign`, and conditions of filters that are neither terms nor comparisons without
-- aggregates.
use Rattle.std.specs.Prelude.{ℕ, suc, ◌==◌, Bool, true, false, if◌then◌else◌, List, [], ◌∷◌, ◌++◌, map, length, codes, decimal, Option, Some, None}
use Rattle.std.specs.List.{flat_map}
use Rattle.da_values.specs.Text.{separated, value_text}
use Rattle.da_values.specs.Value.{val_of}
use Rattle.da_lang.specs.declared.query.AggOp.{AggOp}
use Rattle.da_lang.specs.declared.query.AggOp.TheVariants.{Count, Sum, Min, Max}
use Rattle.da_lang.specs.declared.query.Cond.{Cond}
use Rattle.da_lang.specs.declared.query.Cond.TheFolds.{fold-Cond, fold-Operand}
use Rattle.da_lang.specs.declared.query.Cond.TheOpen.{Cond-F, Operand-F, Agg-F, SignedOperand-F}
use Rattle.da_lang.specs.declared.query.LivePattern.{LivePattern}
use Rattle.da_lang.specs.declared.query.Node.{Node}
use Rattle.da_lang.specs.declared.query.Node.TheVariants as node
use Rattle.da_lang.specs.declared.query.Operand.{Operand}
use Rattle.da_lang.specs.declared.query.Pattern.{Pattern}
use Rattle.da_lang.specs.declared.query.Pattern.TheFolds.{fold-Pattern}
use Rattle.da_lang.specs.declared.query.Pattern.TheOpen as pattern
use Rattle.da_lang.specs.declared.query.Pattern.TheOpen.{Pattern-F}
use Rattle.da_lang.specs.declared.query.QueryNode.{QueryNode}
use Rattle.da_lang.specs.declared.query.Shape.{Shape}
use Rattle.da_lang.specs.declared.query.Shape.TheVariants as shape
use Rattle.da_lang.specs.declared.query.SignedOperand.{SignedOperand, out-SignedOperand}
use Rattle.da_lang.specs.declared.query.Source.{Source}
use Rattle.da_lang.specs.declared.query.Source.TheVariants as source
use Rattle.da_lang.specs.declared.query.Term.{Term}
use Rattle.da_lang.specs.declared.query.Term.TheFolds.{fold-Term}
use Rattle.da_lang.specs.declared.query.Term.TheOpen as term
use Rattle.da_lang.specs.declared.query.Term.TheOpen.{Term-F}
use Rattle.da_lang.specs.declared.tree.CmpOp.{CmpOp}
use Rattle.da_lang.specs.declared.tree.CmpOp.TheVariants.{Eq, Ne, Lt, Le, Gt, Ge}
use Rattle.query_plan.specs.Nodes.{width_of}

-- Terms.

-- a slot, and a part of the row, counted from 1
abbrev pub slot_text : ℕ → List ℕ
slot_text s = codes "#" ++ decimal s

abbrev pub part_text : ℕ → List ℕ
part_text k = codes "$" ++ decimal k

-- what closes a tuple of so many parts: one part alone has a comma after it
unfoldable pub tuple_end : ℕ → List ℕ
tuple_end parts = if parts == 1 then codes ",)" else codes ")"

abbrev pub tuple_text : List (List ℕ) → List ℕ
tuple_text parts = codes "(" ++ separated parts ++ tuple_end (length parts)

abbrev pub term_step : Term-F (List ℕ) → List ℕ
term_step (term.Const c) = value_text (val_of c)
term_step term.Me = codes "self"
term_step (term.Slot s) = slot_text s
term_step (term.Part k) = part_text k
term_step (term.Tuple parts) = tuple_text parts
term_step term.Foreign = codes "?"

unfoldable pub term_text : Term → List ℕ
term_text = fold-Term (List ℕ) term_step

-- Patterns. A new variable is written as its part.

-- what is written after a row of so many parts, and how many parts the row has then
abbrev pub Written : Type 0
Written = ℕ → List ℕ × ℕ

-- one pattern after the other, each with the parts of those before it
abbrev pub all_written : List Written → ℕ → List (List ℕ) × ℕ
all_written [] k = ([], k)
all_written (p ∷ ps) k = let first = p k in let rest = all_written ps first.1 in (first.0 ∷ rest.0, rest.1)

abbrev pub pattern_step : Pattern-F Written → Written
pattern_step pattern.Any k = (codes "_", k)
pattern_step pattern.Bind k = (part_text (suc k), suc k)
pattern_step (pattern.Const c) k = (value_text (val_of c), k)
pattern_step pattern.Me k = (codes "self", k)
pattern_step (pattern.Equal t) k = (codes "=" ++ term_text t, k)
pattern_step (pattern.Tuple parts) k = let all = all_written parts k in (tuple_text all.0, all.1)

abbrev pub written : Pattern → Written
written = fold-Pattern Written pattern_step

-- the text of a pattern after a row of k parts, and how many parts the row has then
unfoldable pub pattern_text : Pattern → ℕ → List ℕ
pattern_text p k = (written p k).0

unfoldable pub parts_behind : Pattern → ℕ → ℕ
parts_behind p k = (written p k).1

-- the same of patterns one after the other
unfoldable pub pattern_texts : List Pattern → ℕ → List (List ℕ)
pattern_texts ps k = (all_written (map written ps) k).0

unfoldable pub parts_after_all : List Pattern → ℕ → ℕ
parts_after_all ps k = (all_written (map written ps) k).1

-- Conditions.

-- the sign of a comparison, with the spaces round it
unfoldable pub sign_text : CmpOp → List ℕ
sign_text Eq = codes " == "
sign_text Ne = codes " != "
sign_text Lt = codes " < "
sign_text Le = codes " <= "
sign_text Gt = codes " > "
sign_text Ge = codes " >= "

-- what stands round a chain, where it is itself an operand of one
unfoldable pub opening : Bool → List ℕ
opening within = if within then codes "(" else []

unfoldable pub ending : Bool → List ℕ
ending within = if within then codes ")" else []

-- between two operands
unfoldable pub link_text : Bool → List ℕ
link_text minus = if minus then codes " - " else codes " + "

-- an operand as an operand of a chain (true), or as a side of a comparison (false)
abbrev pub Side : Type 0
Side = Bool → List ℕ

abbrev pub cond_step : Cond-F (List ℕ) Side (List ℕ) (List ℕ) → List ℕ
cond_step (Cond-F.Truth t) = term_text t
cond_step (Cond-F.Cmp op a b) = a false ++ sign_text op ++ b false
cond_step _ = codes "?"

abbrev pub operand_step : Operand-F (List ℕ) Side (List ℕ) (List ℕ) → Side
operand_step (Operand-F.Term t) within = term_text t
operand_step (Operand-F.Agg a) within = codes "?"
operand_step (Operand-F.Chain a more) within = opening within ++ a true ++ flat_map (λ s. s) more ++ ending within

abbrev pub agg_step : Agg-F (List ℕ) Side (List ℕ) (List ℕ) → List ℕ
agg_step a = codes "?"

abbrev pub signed_step : SignedOperand-F (List ℕ) Side (List ℕ) (List ℕ) → List ℕ
signed_step s = link_text s.minus ++ s.operand true

unfoldable pub cond_text : Cond → List ℕ
cond_text = fold-Cond (List ℕ) Side (List ℕ) (List ℕ) cond_step operand_step agg_step signed_step

unfoldable pub operand_text : Operand → Bool → List ℕ
operand_text = fold-Operand (List ℕ) Side (List ℕ) (List ℕ) cond_step operand_step agg_step signed_step

-- a further operand of a chain, with the sign before it
unfoldable pub signed_text : SignedOperand → List ℕ
signed_text s = link_text (out-SignedOperand s).minus ++ operand_text (out-SignedOperand s).operand true

-- Generators.

unfoldable pub source_text : Source → List ℕ
source_text source.Received = codes "received"
source_text source.Sent = codes "sent"
source_text (source.Slot s) = slot_text s

-- the pattern of the other process, which an element of a slot has not
unfoldable pub peer_text : Source → Pattern → ℕ → List ℕ
peer_text source.Received peer k = codes " from " ++ pattern_text peer k
peer_text source.Sent peer k = codes " to " ++ pattern_text peer k
peer_text (source.Slot s) peer k = []

-- a source and its patterns, after a row of k parts
unfoldable pub gen_text : Source → Pattern → Pattern → ℕ → List ℕ
gen_text from message peer k = source_text from ++ codes " " ++ pattern_text message k ++ peer_text from peer (parts_behind message k)

-- a live pattern has its own variables alone
abbrev pub live_text : LivePattern → List ℕ
live_text p = gen_text p.source p.message p.peer 0

-- Nodes, by the widths of the rows of those that they read, and queries.

-- what an aggregate makes of a set, with the spaces round it
unfoldable pub agg_word : AggOp → List ℕ
agg_word Count = codes " count "
agg_word Sum = codes " sum "
agg_word Min = codes " min "
agg_word Max = codes " max "

-- the value for the empty set, which `count` and `sum` have not
unfoldable pub other_text : Option Term → List ℕ
other_text None = []
other_text (Some t) = codes " " ++ term_text t

-- a word and the numbers of two nodes
unfoldable pub two_nodes : List ℕ → ℕ → ℕ → List ℕ
two_nodes word a b = word ++ decimal a ++ codes " " ++ decimal b

unfoldable pub node_text : (ℕ → ℕ) → Node → List ℕ
node_text widths node.Root = codes "root"
node_text widths (node.Gen p g) = codes "gen " ++ decimal p ++ codes " " ++ gen_text g.source g.message g.peer (widths p)
node_text widths (node.Filter p b) = codes "filter " ++ decimal p ++ codes " " ++ cond_text b
node_text widths (node.Semi p c) = two_nodes (codes "semi ") p c
node_text widths (node.Anti p c) = two_nodes (codes "anti ") p c
node_text widths (node.Union a b) = two_nodes (codes "union ") a b
node_text widths (node.AggBind p c op t other) = two_nodes (codes "agg ") p c ++ agg_word op ++ term_text t ++ other_text other

-- the texts of nodes, in order
abbrev pub node_texts : List Node → List (List ℕ)
node_texts nodes = map (node_text (width_of nodes)) nodes

unfoldable pub shape_text : ℕ → Shape → List ℕ
shape_text n shape.Exists = codes "some " ++ decimal n
shape_text n shape.Each = codes "each " ++ decimal n
shape_text n (shape.Comp t) = codes "set " ++ decimal n ++ codes " " ++ term_text t
shape_text n shape.Agg = codes "agg " ++ decimal n

abbrev pub query_text : QueryNode → List ℕ
query_text q = shape_text q.node q.shape

-- the texts of queries, in order
abbrev pub query_texts : List QueryNode → List (List ℕ)
query_texts = map query_text

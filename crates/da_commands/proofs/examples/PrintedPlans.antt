-- The printed plan of a class P that waits for some ('pong', n) with n > 5.
use Rattle.std.specs.Prelude.{◌≡◌, ℕ, pos, List, [], ◌∷◌, ◌++◌, codes, map, refl}
use Rattle.std.specs.Fmt.{digits}
use Rattle.serde_json.specs.View.{items_of}
use Rattle.serde_json.specs.Data.{Data, string, array, object, no_members, member}
use Rattle.serde_json.specs.Written.{compact_text}
use Rattle.serde_json.proofs.OnLiterals.{serde_json_on_literals}
use Rattle.da_values.specs.declared.value.Value.TheVariants as literal
use Rattle.da_values.proofs.TextLemmas.{value_text_of}
use Rattle.da_lang.specs.declared.query.Cond.TheVariants as cond
use Rattle.da_lang.specs.declared.query.Node.{Node}
use Rattle.da_lang.specs.declared.query.Node.TheVariants as node
use Rattle.da_lang.specs.declared.query.Operand.TheVariants as operand
use Rattle.da_lang.specs.declared.query.Pattern.{Pattern}
use Rattle.da_lang.specs.declared.query.Pattern.TheVariants as pattern
use Rattle.da_lang.specs.declared.query.RGen.{RGen}
use Rattle.da_lang.specs.declared.query.Shape.TheVariants as shape
use Rattle.da_lang.specs.declared.query.Source.TheVariants as source
use Rattle.da_lang.specs.declared.query.Term.TheVariants as term
use Rattle.da_lang.specs.declared.tree.CmpOp.TheVariants.{Gt}
use Rattle.query_plan.specs.declared.plan.Plan.{Plan}
use Rattle.query_plan.specs.PlanLive.{plan_live}
use Rattle.query_plan.specs.PlanText.{gen_text, live_text, node_text, node_texts, parts_behind, pattern_text, pattern_texts, peer_text, query_texts, shape_text, sign_text, source_text, tuple_end, two_nodes}
use Rattle.query_plan.proofs.PlanTextAt.{cond_rules, pattern_rules, term_rules}
use Rattle.query_plan.proofs.WidthLaws.{binding}
use Rattle.history_live.proofs.LiveAt.{pattern_rules as live_rules}
use Rattle.da_commands.specs.PlanJson.{texts, numbers, named_plan}

abbrev pong : RGen
pong = record { source = source.Received; message = pattern.Tuple (pattern.Const (literal.Text (codes "pong")) ∷ pattern.Bind ∷ []); peer = pattern.Any }

abbrev nodes : List Node
nodes =
    node.Root
    ∷ node.Gen 0 pong
    ∷ node.Filter 1 (cond.Cmp Gt (operand.Term (term.Part 1)) (operand.Term (term.Const (literal.Int (pos 5)))))
    ∷ node.Semi 0 2
    ∷ []

abbrev waiting : Plan
waiting = record { nodes = nodes; queries = record { node = 2; shape = shape.Exists } ∷ []; flags = 3 ∷ [] }

-- patterns one after the other
texts_of_none : (k : ℕ) → pattern_texts [] k ≡ []
unfolding pattern_texts
texts_of_none k = refl

texts_of_more : (p : Pattern) (ps : List Pattern) (k : ℕ) → pattern_texts (p ∷ ps) k ≡ pattern_text p k ∷ pattern_texts ps (parts_behind p k)
unfolding pattern_texts pattern_text parts_behind
texts_of_more p ps k = refl

ruleset printing = (texts_of_none, texts_of_more, pattern_rules, term_rules, cond_rules, value_text_of, live_rules, binding)

pong_text : gen_text source.Received pong.message pong.peer 0 ≡ codes "received ('pong', $1) from _"
unfolding gen_text source_text peer_text tuple_end digits
pong_text = simp printing

live : map live_text (plan_live nodes) ≡ codes "received ('pong', $1) from _" ∷ []
live = simp (live_rules, pong_text)

node_lines : node_texts nodes ≡ codes "root" ∷ codes "gen 0 received ('pong', $1) from _" ∷ codes "filter 1 $1 > 5" ∷ codes "semi 0 2" ∷ []
unfolding node_text two_nodes sign_text digits
node_lines = simp (printing, pong_text)

queries : query_texts waiting.queries ≡ codes "some 2" ∷ []
unfolding shape_text digits
queries = refl

-- the members of a plan whose texts are these
abbrev with_texts : List ℕ → List ℕ → List (List ℕ) → List (List ℕ) → List (List ℕ) → Data
with_texts name flags lives nodes queries =
    object
    (member (codes "class") (string name)
    (member (codes "flags") (numbers flags)
    (member (codes "live") (texts lives)
    (member (codes "nodes") (texts nodes)
    (member (codes "queries") (texts queries)
    no_members)))))

has_texts : (name : List ℕ) (plan : Plan) (lives lines asked : List (List ℕ)) → map live_text (plan_live plan.nodes) ≡ lives → node_texts plan.nodes ≡ lines → query_texts plan.queries ≡ asked
    → named_plan name plan ≡ with_texts name plan.flags lives lines asked
unfolding named_plan
has_texts name plan lives lines asked l n q = rw (l, n, q) refl

abbrev parts : Data
parts =
    with_texts (codes "P") (3 ∷ [])
    (codes "received ('pong', $1) from _" ∷ [])
    (codes "root" ∷ codes "gen 0 received ('pong', $1) from _" ∷ codes "filter 1 $1 > 5" ∷ codes "semi 0 2" ∷ [])
    (codes "some 2" ∷ [])

has_parts : named_plan (codes "P") waiting ≡ parts
has_parts = has_texts (codes "P") waiting _ _ _ live node_lines queries

abbrev line : List ℕ
line = codes "[{\"class\":\"P\",\"flags\":[3],\"live\":[\"received ('pong', $1) from _\"],\"nodes\":[\"root\",\"gen 0 received ('pong', $1) from _\",\"filter 1 $1 > 5\",\"semi 0 2\"],\"queries\":[\"some 2\"]}]\n"

parts_printed : compact_text (array (items_of (parts ∷ []))) ++ codes "\n" ≡ line
unfolding serde_json_on_literals digits
parts_printed = refl

printed : compact_text (array (items_of (named_plan (codes "P") waiting ∷ []))) ++ codes "\n" ≡ line
printed = rw has_parts parts_printed

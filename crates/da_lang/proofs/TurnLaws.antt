-- A turn changes no more than statements can.
use Rattle.std.specs.Prelude.{ℕ, Bool, true, false, nat_le, cond, List, [], ◌∷◌, Option, Some, None, Ok, Err}
use Rattle.da_values.specs.declared.val.Val.{Val}
use Rattle.da_values.specs.declared.val.Val.TheVariants as val
use Rattle.da_values.specs.Order.{val_cmp}
use Rattle.da_values.specs.Sets.{set_insert, set_remove}
use Rattle.da_values.specs.Views.{truth_of, elements_of}
use Rattle.da_lang.specs.declared.program.Alt.{Alt}
use Rattle.da_lang.specs.declared.program.Class.{Class}
use Rattle.da_lang.specs.declared.program.Item.{Item}
use Rattle.da_lang.specs.declared.program.ItemKind.{ItemKind}
use Rattle.da_lang.specs.declared.program.ItemKind.TheOpen.{ItemKind-F, Assign, Add, Del, Send, Output, If, While, For, Call, Await, Label, Pass}
use Rattle.da_lang.specs.declared.program.ItemKind.TheViews.{out-RBranch}
use Rattle.da_lang.specs.declared.program.RBranch.{RBranch}
use Rattle.da_lang.specs.declared.program.RExpr.{RExpr}
use Rattle.da_lang.specs.declared.query.Query.{Query}
use Rattle.da_lang.specs.Arithmetic.{Outcome}
use Rattle.da_lang.specs.Changes.{Changes, none, puts, sends}
use Rattle.da_lang.specs.Evaluation.{Outcomes, eval, eval_all}
use Rattle.da_lang.specs.Matching.{Row}
use Rattle.da_lang.specs.Queries.{least_row}
use Rattle.da_lang.specs.Turns.{AfterTurn, bind_all, bind_row, bind_found, later, sent_at, sent_to, recipients, packet_len, max_packet, with_outcome, with_outcomes, with_value, send_if, choose, enter, kind_turn, kind_of, line_of, loop_turn, turn}
use Rattle.da_lang.specs.World.{Data, Task, Do, Loop, Prepare, put_slot, slot_of}
use Rattle.da_lang.proofs.ChangeLaws.{changes_then}

pub bind_all_changes : (ss : List ℕ) (vs : List Val) (d : Data) → Changes d (bind_all ss vs d)
bind_all_changes [] vs d = none
bind_all_changes (s ∷ ss) [] d = none
bind_all_changes (s ∷ ss) (v ∷ vs) d = changes_then (puts d s v none) (bind_all_changes ss vs (put_slot d s v))

bind_row_changes : (ss : List ℕ) (row : Option Row) (d : Data) → Changes d (bind_row ss row d)
bind_row_changes ss None d = none
bind_row_changes ss (Some row) d = bind_all_changes ss row d

pub bind_found_changes : (queries : List Query) (n : Option ℕ) (ss : List ℕ) (d : Data) → Changes d (bind_found queries n ss d)
bind_found_changes queries None ss d = none
bind_found_changes queries (Some n) ss d = bind_row_changes ss (least_row queries n d) d

pub sent_to_changes : (m : Val) (ps : List ℕ) (d : Data) → Changes d (sent_to m ps d)
sent_to_changes m [] d = none
sent_to_changes m (p ∷ ps) d = changes_then (sends d m p none) (sent_to_changes m ps (sent_at m p (later d.clock) d))

module _ (class : Class) (line : ℕ) (d : Data) (todo : List Task) where
  abbrev Keeps : AfterTurn → Type 0
  Keeps after = Changes d after.data'

  outcome_keeps : (found : Outcome) (go : Val → AfterTurn) → ((v : Val) → Keeps (go v)) → Keeps (with_outcome class line d todo found go)
  outcome_keeps (Err kind) go keeps = none
  outcome_keeps (Ok v) go keeps = keeps v

  outcomes_keep : (found : Outcomes) (go : List Val → AfterTurn) → ((vs : List Val) → Keeps (go vs)) → Keeps (with_outcomes class line d todo found go)
  outcomes_keep (Err kind) go keeps = none
  outcomes_keep (Ok vs) go keeps = keeps vs

  value_keeps : (e : RExpr) (go : Val → AfterTurn) → ((v : Val) → Keeps (go v)) → Keeps (with_value class line d todo e go)
  value_keeps e go keeps = outcome_keeps (eval class.queries e d) go keeps

  enter_keeps : (args : List RExpr) (params : List ℕ) (body : List Item) → Keeps (enter class line d todo args params body)
  enter_keeps args params body = outcomes_keep (eval_all class.queries args d) _ (λ vs. bind_all_changes params vs d)

  send_if_keeps : (small : Bool) (m : Val) (ps : List ℕ) → Keeps (send_if class line d todo small m ps)
  send_if_keeps true m ps = sent_to_changes m ps d
  send_if_keeps false m ps = none

  chosen_keeps : (b : Bool) (taken others : AfterTurn) → Keeps taken → Keeps others → Keeps (cond b taken others)
  chosen_keeps true taken others keeps keep = keeps
  chosen_keeps false taken others keeps keep = keep

  choose_keeps : (bs : List RBranch) (otherwise : List Item) → Keeps (choose class line d todo bs otherwise)
  choose_keeps [] otherwise = none
  choose_keeps (b ∷ bs) otherwise =
      value_keeps (out-RBranch b).cond _
      (λ v. chosen_keeps (truth_of v) _ _ (bind_found_changes class.queries (out-RBranch b).found (out-RBranch b).binds d) (choose_keeps bs otherwise))

  kind_keeps : (itself : Task) (kind : ItemKind-F ItemKind Alt Item RBranch) → Keeps (kind_turn class line d todo itself kind)
  kind_keeps itself (Assign s e) = value_keeps e _ (λ v. puts d s v none)
  kind_keeps itself (Add s e) = value_keeps e _ (λ v. puts d s (val.Set (set_insert val_cmp (elements_of (slot_of d s)) v)) none)
  kind_keeps itself (Del s e) = value_keeps e _ (λ v. puts d s (val.Set (set_remove val_cmp (elements_of (slot_of d s)) v)) none)
  kind_keeps itself (Send m e) = value_keeps m _ (λ v. value_keeps e _ (λ w. send_if_keeps (nat_le (packet_len v) max_packet) v (recipients w)))
  kind_keeps itself (Output e) = value_keeps e _ (λ v. none)
  kind_keeps itself (If branches otherwise) = choose_keeps branches otherwise
  kind_keeps itself (While e body) = value_keeps e _ (λ v. none)
  kind_keeps itself (For s e body) = value_keeps e _ (λ v. none)
  kind_keeps itself (Call args body) = enter_keeps _ _ body
  kind_keeps itself (Await alts timeout label) = none
  kind_keeps itself (Label l) = none
  kind_keeps itself Pass = none

  loop_keeps : (s : ℕ) (left : List Val) (body : List Item) → Keeps (loop_turn class line d todo s left body)
  loop_keeps s [] body = none
  loop_keeps s (x ∷ xs) body = puts d s x none

pub turn_changes : (class : Class) (t : Task) (d : Data) (todo : List Task) → Changes d (turn class t d todo).data'
turn_changes class (Do i) d todo = kind_keeps class (line_of i) d todo (Do i) (kind_of i)
turn_changes class (Loop s left body line) d todo = loop_keeps class line d todo s left body
turn_changes class (Prepare call) d todo = enter_keeps class call.line d todo call.args class.params class.setup

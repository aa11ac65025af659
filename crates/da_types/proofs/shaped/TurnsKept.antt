-- A turn of a shaped process leaves it shaped, and what it sends may be sent.
use Rattle.std.specs.Prelude.{◌≡◌, refl, ℕ, ◌≤◌, Bool, true, false, nat_le, if◌then◌else◌, List, [], ◌∷◌, map, Option, Some, None, Ok, Err}
use Rattle.std.specs.List.{All}
use Rattle.std.proofs.Common.{◌∙◌, ap, sym, subst, inl, inr}
use Rattle.std.proofs.lemmas.Bool.{leb-true}
use Rattle.std.proofs.lemmas.List.Elements.{All-nil, All-cons, All-head, All-tail}
use Rattle.da_values.specs.declared.val.Val.{Val}
use Rattle.da_values.specs.declared.val.Val.TheVariants as val
use Rattle.da_values.specs.Order.{val_cmp}
use Rattle.da_values.specs.Sets.{Has, set_insert, set_remove}
use Rattle.da_values.specs.Value.{value_of}
use Rattle.da_values.specs.Views.{truth_of, elements_of}
use Rattle.da_values.proofs.ViewLaws.{val_of-value_of}
use Rattle.da_lang.specs.declared.event.Action.TheVariants.{Sent, Out}
use Rattle.da_lang.specs.declared.event.FaultKind.{FaultKind}
use Rattle.da_lang.specs.declared.event.FaultKind.TheVariants.{Message}
use Rattle.da_lang.specs.declared.program.Alt.{Alt}
use Rattle.da_lang.specs.declared.program.Class.{Class}
use Rattle.da_lang.specs.declared.program.Item.{Item}
use Rattle.da_lang.specs.declared.program.ItemKind.{ItemKind}
use Rattle.da_lang.specs.declared.program.ItemKind.TheOpen.{ItemKind-F, Assign, Add, Del, Send, Output, If, While, For, Call, Await, Label, Pass}
use Rattle.da_lang.specs.declared.program.ItemKind.TheVariants as it
use Rattle.da_lang.specs.declared.program.ItemKind.TheViews.{out-RBranch}
use Rattle.da_lang.specs.declared.program.Program.{Program}
use Rattle.da_lang.specs.declared.program.RBranch.{RBranch}
use Rattle.da_lang.specs.declared.program.RExpr.{RExpr}
use Rattle.da_lang.specs.declared.ty.Ty.{Ty}
use Rattle.da_lang.specs.Arithmetic.{Outcome}
use Rattle.da_lang.specs.BodyMeaning.{item_at}
use Rattle.da_lang.specs.Evaluation.{Outcomes, eval, eval_all}
use Rattle.da_lang.specs.Matching.{Row}
use Rattle.da_lang.specs.Queries.{least_row}
use Rattle.da_lang.specs.Shaped.{ShapedData, ShapedTasks, IsItemOf, IsLoop, IsOf, IsTask, blocks_of}
use Rattle.da_lang.specs.Turns.{AfterTurn, bind_all, bind_found, bind_row, choose, do_all, enter, failed, kind_of, kind_turn, later, line_of, loop_turn, max_packet, packet_len, quiet, recipients, send_if, sending, slot_of_arg, turn, value_of_arg, with_outcome, with_outcomes}
use Rattle.da_lang.specs.World.{Data, Task, Do, Loop, Prepare, put_slot, slot_of}
use Rattle.da_types.specs.KeepsShaped.{FitSlots, IsSending, LeavesShaped, MaySend, MayTell}
use Rattle.da_types.proofs.shaped.DataKept.{bound-me, bound_shaped, fitting_suits, inserted_fits, later_below, put_shaped, removed_fits, sent-me, sent_shaped}
use Rattle.da_types.proofs.shaped.Known.{IsWholeProgram}
use Rattle.da_types.proofs.shaped.StatementValues.{added_fits, args_fit_params, assigned_fits, branch_row_fits, deleted_fits, elements_fit, sent_fits, setup_args_fit}
use Rattle.da_types.proofs.shaped.TasksKept.{block_tasks, branch_block, call_block, do_all_tasks, for_block, for_item, other_block, setup_item, while_block}

module _ (p : Program) where
  -- what is told of a message that may be sent
  pub sending_told : (me : ℕ) (m : Val) (to : List ℕ) (clock : ℕ) → packet_len m ≤ max_packet → MaySend p m to → All (MayTell p me) (sending me m to clock)
  sending_told me m [] clock small may = All-nil (MayTell p me)
  sending_told me m (q ∷ qs) clock small may =
      let is : IsSending p me me q (later clock) m = record { from_me = refl; there = may.receivers q (inl refl); proper = may.proper; typed = may.typed; nested = may.nested; in_time = later_below clock; small = small } in
      let others = sending_told me m qs (later clock) small (record { proper = may.proper; typed = may.typed; nested = may.nested; receivers = λ r h. may.receivers r (inr h) }) in
      All-cons (MayTell p me) (Sent me q (later clock) (value_of m)) (sending me m qs (later clock)) (subst (IsSending p me me q (later clock)) (sym (val_of-value_of m)) is) others

module _ (p : Program) (c : Class) where
  -- what a turn leaves
  abbrev pub TurnLeaves : ℕ → AfterTurn → Type 0
  TurnLeaves me after = LeavesShaped p c me after.data' after.todo after.actions

  -- slots that are bound to the parts of a row
  abbrev Binds : Data → Data → Type 0
  Binds d after = ShapedData p c after × (after.me ≡ d.me)

  row_bound : (binds : List ℕ) (d : Data) (row : Option Row) → ShapedData p c d → ((r : Row) → row ≡ Some r → FitSlots p c binds r) → Binds d (bind_row binds row d)
  row_bound binds d None s fits = (s, refl)
  row_bound binds d (Some r) s fits = (bound_shaped p c binds r d s (fits r refl), bound-me p c binds r d)

  pub found_bound : (found : Option ℕ) (binds : List ℕ) (d : Data) → ShapedData p c d → ((n : ℕ) (r : Row) → found ≡ Some n → least_row c.queries n d ≡ Some r → FitSlots p c binds r) → Binds d (bind_found c.queries found binds d)
  found_bound None binds d s fits = (s, refl)
  found_bound (Some n) binds d s fits = row_bound binds d (least_row c.queries n d) s (λ r e. fits n r refl e)

module _ (p : Program) (c : Class) (f : IsWholeProgram p) (line : ℕ) (d : Data) (todo : List Task) (s : ShapedData p c d) (rest : ShapedTasks p c d.me todo) where
  abbrev Leaves : AfterTurn → Type 0
  Leaves after = TurnLeaves p c d.me after

  failed_leaves : (kind : FaultKind) → Leaves (failed c line d todo kind)
  failed_leaves kind = record { same = refl; knows = s; tasks = rest; tells = All-nil (MayTell p d.me) }

  quiet_leaves : (after : Data) (tasks : List Task) → after.me ≡ d.me → ShapedData p c after → ShapedTasks p c d.me tasks → Leaves (quiet after tasks)
  quiet_leaves after tasks same knows has = record { same = same; knows = knows; tasks = has; tells = All-nil (MayTell p d.me) }

  outcome_leaves : (o : Outcome) (go : Val → AfterTurn) → ((v : Val) → o ≡ Ok v → Leaves (go v)) → Leaves (with_outcome c line d todo o go)
  outcome_leaves (Err kind) go each = failed_leaves kind
  outcome_leaves (Ok v) go each = each v refl

  outcomes_leave : (o : Outcomes) (go : List Val → AfterTurn) → ((vs : List Val) → o ≡ Ok vs → Leaves (go vs)) → Leaves (with_outcomes c line d todo o go)
  outcomes_leave (Err kind) go each = failed_leaves kind
  outcomes_leave (Ok vs) go each = each vs refl

  chosen_leaves : (b : Bool) (x y : AfterTurn) → Leaves x → Leaves y → Leaves (if b then x else y)
  chosen_leaves true x y first second = first
  chosen_leaves false x y first second = second

  send_leaves : (small : Bool) (m : Val) (to : List ℕ) → nat_le (packet_len m) max_packet ≡ small → MaySend p m to → Leaves (send_if c line d todo small m to)
  send_leaves true m to is may = record { same = sent-me p c m to d; knows = sent_shaped p c m to d s may; tasks = rest; tells = sending_told p d.me m to d.clock (leb-true (packet_len m) max_packet is) may }
  send_leaves false m to is may = failed_leaves Message

  enter_leaves : (args : List RExpr) (params : List ℕ) (body : List Item) → ((vs : List Val) → eval_all c.queries args d ≡ Ok vs → FitSlots p c params vs) → ShapedTasks p c d.me (do_all body todo) → Leaves (enter c line d todo args params body)
  enter_leaves args params body fits has =
      outcomes_leave (eval_all c.queries args d) _ (λ vs e. quiet_leaves (bind_all params vs d) (do_all body todo) (bound-me p c params vs d) (bound_shaped p c params vs d s (fits vs e)) has)

  -- the rest of a loop
  module _ (slot : ℕ) (body : List Item) where
    abbrev IsRest : List Val → Type 0
    IsRest left = IsLoop p c slot left body line

    rest_of : (x : Val) (xs : List Val) → IsRest (x ∷ xs) → IsRest xs
    rest_of x xs loop = record { over = loop.over; stands = loop.stands; elements = λ ty has. All-tail (IsOf p ty) x xs (loop.elements ty has) }

    for_block_is : (over : RExpr) → kind_of (item_at line (it.For slot over body)) ≡ For slot over body
    for_block_is over = rw it.outs-For refl

    loop_leaves : (left : List Val) → IsRest left → Leaves (loop_turn c line d todo slot left body)
    loop_leaves [] loop = quiet_leaves d todo refl s rest
    loop_leaves (x ∷ xs) loop =
        let again = All-cons (IsTask p c d.me) (Loop slot xs body line) todo (rest_of x xs loop) rest in
        let i = item_at line (it.For slot loop.over body) in
        quiet_leaves (put_slot d slot x) (do_all body (Loop slot xs body line ∷ todo)) refl
        (put_shaped p c d slot x s (λ ty has. All-head (IsOf p ty) x xs (loop.elements ty has)))
        (block_tasks p c d.me i body (Loop slot xs body line ∷ todo) loop.stands (for_block i slot loop.over body (for_block_is loop.over)) again)

  -- a statement of the class, which stands on this line
  module _ (i : Item) (stands : IsItemOf c i) (here : line ≡ line_of i) where
    abbrev value : RExpr → Outcome
    value x = eval c.queries x d

    -- the first branch whose condition is true
    choose_leaves : (branches bs : List RBranch) (other : List Item) → kind_of i ≡ If branches other → ((b : RBranch) → Has bs b → Has branches b) → Leaves (choose c line d todo bs other)
    choose_leaves branches [] other is among = quiet_leaves d (do_all other todo) refl s (block_tasks p c d.me i other todo stands (other_block i branches other is) rest)
    choose_leaves branches (b ∷ bs) other is among =
        let r = out-RBranch b in
        let h = among b (inl refl) in
        let bound = found_bound p c r.found r.binds d s (λ n row finds found. branch_row_fits p c d f s i stands branches other b n row is h finds found) in
        outcome_leaves (value r.cond) _
        (λ v e. chosen_leaves (truth_of v) _ _
        (quiet_leaves (bind_found c.queries r.found r.binds d) (do_all r.body todo) bound.1 bound.0 (block_tasks p c d.me i r.body todo stands (branch_block i branches other b is h) rest))
        (choose_leaves branches bs other is (λ a k. among a (inr k))))

    while_tasks : (body : List Item) → Has (blocks_of i) body → (b : Bool) → ShapedTasks p c d.me (if b then do_all body (Do i ∷ todo) else todo)
    while_tasks body block true = block_tasks p c d.me i body (Do i ∷ todo) stands block (All-cons (IsTask p c d.me) (Do i) todo stands rest)
    while_tasks body block false = rest

    loop_begins : (slot : ℕ) (x : RExpr) (body : List Item) (v : Val) → kind_of i ≡ For slot x body → value x ≡ Ok v → IsLoop p c slot (elements_of v) body line
    loop_begins slot x body v is e =
        let (element, has, all) = elements_fit p c d f s i stands slot x body v is e in
        record {
          over = x;
          stands = subst (IsItemOf c) (for_item i slot x body is ∙ ap (λ n. item_at n (it.For slot x body)) (sym here)) stands;
          elements = λ ty at. (let both : ◌≡◌ {A = Option Ty} (Some element) (Some ty) = sym has ∙ at in let same : element ≡ ty = cc in subst (λ z. All (IsOf p z) (elements_of v)) same all);
        }

    kind_leaves : (kind : ItemKind-F ItemKind Alt Item RBranch) → kind_of i ≡ kind → Leaves (kind_turn c line d todo (Do i) kind)
    kind_leaves (Assign slot x) is =
        outcome_leaves (value x) _ (λ v e. quiet_leaves (put_slot d slot v) todo refl (put_shaped p c d slot v s (fitting_suits p c slot v (assigned_fits p c d f s i stands slot x v is e))) rest)
    kind_leaves (Add slot x) is =
        outcome_leaves (value x) _
        (λ v e. (let new = val.Set (set_insert val_cmp (elements_of (slot_of d slot)) v) in
        quiet_leaves (put_slot d slot new) todo refl (put_shaped p c d slot new s (fitting_suits p c slot new (inserted_fits p c d slot v s (added_fits p c d f s i stands slot x v is e)))) rest))
    kind_leaves (Del slot x) is =
        outcome_leaves (value x) _
        (λ v e. (let new = val.Set (set_remove val_cmp (elements_of (slot_of d slot)) v) in
        quiet_leaves (put_slot d slot new) todo refl (put_shaped p c d slot new s (fitting_suits p c slot new (removed_fits p c d slot v s (deleted_fits p c d f s i stands slot x v is e)))) rest))
    kind_leaves (Send x to) is =
        outcome_leaves (value x) _
        (λ m e. outcome_leaves (value to) _ (λ w e_to. send_leaves (nat_le (packet_len m) max_packet) m (recipients w) refl (sent_fits p c d f s i stands x to m w is e e_to)))
    kind_leaves (Output x) is = outcome_leaves (value x) _ (λ v e. record { same = refl; knows = s; tasks = rest; tells = All-cons (MayTell p d.me) (Out d.me (value_of v)) [] tt (All-nil (MayTell p d.me)) })
    kind_leaves (If branches other) is = choose_leaves branches branches other is (λ b h. h)
    kind_leaves (While x body) is = outcome_leaves (value x) _ (λ v e. quiet_leaves d _ refl s (while_tasks body (while_block i x body is) (truth_of v)))
    kind_leaves (For slot x body) is =
        outcome_leaves (value x) _ (λ v e. quiet_leaves d (Loop slot (elements_of v) body line ∷ todo) refl s (All-cons (IsTask p c d.me) (Loop slot (elements_of v) body line) todo (loop_begins slot x body v is e) rest))
    kind_leaves (Call args body) is =
        enter_leaves (map value_of_arg args) (map slot_of_arg args) body (λ vs e. args_fit_params p c d f s i stands args body vs is e) (block_tasks p c d.me i body todo stands (call_block i args body is) rest)
    kind_leaves (Await alts timeout label) is = quiet_leaves d todo refl s rest
    kind_leaves (Label l) is = quiet_leaves d todo refl s rest
    kind_leaves Pass is = quiet_leaves d todo refl s rest

-- A TURN KEEPS WORLDS SHAPED
pub turn_leaves : (p : Program) (c : Class) → IsWholeProgram p → (t : Task) (d : Data) (todo : List Task) → ShapedData p c d → IsTask p c d.me t → ShapedTasks p c d.me todo → TurnLeaves p c d.me (turn c t d todo)
turn_leaves p c f (Do i) d todo s is rest = kind_leaves p c f (line_of i) d todo s rest i is refl (kind_of i) refl
turn_leaves p c f (Loop slot left body line) d todo s is rest = loop_leaves p c f line d todo s rest slot body left is
turn_leaves p c f (Prepare call) d todo s is rest =
    enter_leaves p c f call.line d todo s rest call.args c.params c.setup (λ vs e. setup_args_fit p c d f s call vs is e) (do_all_tasks p c d.me c.setup todo (λ j h. setup_item c j h) rest)

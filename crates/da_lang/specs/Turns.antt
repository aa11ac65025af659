-- One turn: what becomes of the world when the first thing that is to do is taken.
use Rattle.std.specs.Prelude.{ℕ, ◌+◌, min, ◌-◌, ◌^◌, Bool, true, false, nat_le, if◌then◌else◌, List, [], ◌∷◌, ◌++◌, map, Option, Some, None, Ok, Err}
use Rattle.da_values.specs.declared.val.Val.{Val, out-Val}
use Rattle.da_values.specs.declared.val.Val.TheVariants as val
use Rattle.da_values.specs.declared.val.Val.TheOpen.{Val-F, Proc, Set}
use Rattle.da_values.specs.Lengths.{encoded_len}
use Rattle.da_values.specs.Order.{val_cmp}
use Rattle.da_values.specs.Sets.{set_insert, set_remove}
use Rattle.da_values.specs.Value.{value_of}
use Rattle.da_values.specs.Views.{proc_of, truth_of, elements_of}
use Rattle.da_lang.specs.declared.event.Action.{Action}
use Rattle.da_lang.specs.declared.event.Action.TheVariants.{Sent, Out}
use Rattle.da_lang.specs.declared.event.FaultKind.{FaultKind}
use Rattle.da_lang.specs.declared.event.FaultKind.TheVariants.{Message}
use Rattle.da_lang.specs.declared.program.BindArg.{BindArg}
use Rattle.da_lang.specs.declared.program.Class.{Class}
use Rattle.da_lang.specs.declared.program.Item.{Item}
use Rattle.da_lang.specs.declared.program.ItemKind.{ItemKind}
use Rattle.da_lang.specs.declared.program.Alt.{Alt}
use Rattle.da_lang.specs.declared.program.RBranch.{RBranch}
use Rattle.da_lang.specs.declared.program.RExpr.{RExpr}
use Rattle.da_lang.specs.declared.query.Query.{Query}
use Rattle.da_lang.specs.declared.program.ItemKind.TheOpen.{ItemKind-F, Assign, Add, Del, Send, Output, If, While, For, Call, Await, Label, Pass}
use Rattle.da_lang.specs.declared.program.ItemKind.TheViews.{out-ItemKind, out-Item, out-RBranch}
use Rattle.da_lang.specs.Arithmetic.{Outcome}
use Rattle.da_lang.specs.Evaluation.{Outcomes, eval, eval_all}
use Rattle.da_lang.specs.Matching.{Row}
use Rattle.da_lang.specs.Queries.{least_row}
use Rattle.da_lang.specs.World.{Data, Task, Do, Loop, Prepare, slot_of, put_slot}

-- what a turn leaves and does, and its fault with the line
pub record AfterTurn : Type 0 where
  pub data' : Data
  pub todo : List Task
  pub actions : List Action
  pub fault : Option (FaultKind × ℕ)

-- a turn that does nothing which is seen outside
abbrev pub quiet : Data → List Task → AfterTurn
quiet d todo = record { data' = d; todo = todo; actions = []; fault = None }

-- these statements, and then the rest
abbrev pub do_all : List Item → List Task → List Task
do_all items todo = map Do items ++ todo

-- slots get values one by one, as many as there are of both
abbrev pub bind_all : List ℕ → List Val → Data → Data
bind_all [] vs d = d
bind_all (s ∷ ss) [] d = d
bind_all (s ∷ ss) (v ∷ vs) d = bind_all ss vs (put_slot d s v)

-- slots get the parts of a row that was found
abbrev pub bind_row : List ℕ → Option Row → Data → Data
bind_row slots None d = d
bind_row slots (Some row) d = bind_all slots row d

-- slots get the parts of the least row of the numbered `some`, if there is one to bind
abbrev pub bind_found : List Query → Option ℕ → List ℕ → Data → Data
bind_found queries None slots d = d
bind_found queries (Some n) slots d = bind_row slots (least_row queries n d) d

-- the greatest time of a clock
unfoldable pub last_time : ℕ
last_time = 2 ^ 63 - 1

abbrev pub later : ℕ → ℕ
later time = min (time + 1) last_time

-- the processes that a message goes to, ascending
abbrev pub recipients_in : Val-F Val → List ℕ
recipients_in (Proc p) = p ∷ []
recipients_in (Set xs) = map proc_of xs
recipients_in _ = []

abbrev pub recipients : Val → List ℕ
recipients v = recipients_in (out-Val v)

-- a message to a process is an entry with its time, to which the clock has risen
abbrev pub sent_at : Val → ℕ → ℕ → Data → Data
sent_at m p time d = record d { clock = time; sent = d.sent ++ record { message = m; peer = p; time = time } ∷ [] }

-- a message to each of these, one after the other
abbrev pub sent_to : Val → List ℕ → Data → Data
sent_to m [] d = d
sent_to m (p ∷ ps) d = sent_to m ps (sent_at m p (later d.clock) d)

-- the actions of it, from this clock on
abbrev pub sending : ℕ → Val → List ℕ → ℕ → List Action
sending me m [] clock = []
sending me m (p ∷ ps) clock = Sent me p (later clock) (value_of m) ∷ sending me m ps (later clock)

-- the bytes of a packet: 3 to begin with, 2 for the sender, 8 for the clock, and the value
abbrev pub packet_len : Val → ℕ
packet_len m = 3 + 2 + 8 + encoded_len m

unfoldable pub max_packet : ℕ
max_packet = 60000

-- a set slot with an element more, or one less
abbrev pub with_element : ℕ → Val → Data → Data
with_element s v d = put_slot d s (val.Set (set_insert val_cmp (elements_of (slot_of d s)) v))

abbrev pub without_element : ℕ → Val → Data → Data
without_element s v d = put_slot d s (val.Set (set_remove val_cmp (elements_of (slot_of d s)) v))

abbrev pub value_of_arg : BindArg → RExpr
value_of_arg arg = arg.value

abbrev pub slot_of_arg : BindArg → ℕ
slot_of_arg arg = arg.slot

abbrev pub kind_of : Item → ItemKind-F ItemKind Alt Item RBranch
kind_of i = out-ItemKind (out-Item i).kind

abbrev pub line_of : Item → ℕ
line_of i = (out-Item i).line

-- a turn in a class, of a thing on this line, with what is to do after it
module _ (class : Class) (line : ℕ) (d : Data) (todo : List Task) where
  -- a fault leaves all as it was, and what was taken off is gone
  abbrev pub failed : FaultKind → AfterTurn
  failed kind = record { data' = d; todo = todo; actions = []; fault = Some (kind, line) }

  abbrev pub with_outcome : Outcome → (Val → AfterTurn) → AfterTurn
  with_outcome (Err kind) go = failed kind
  with_outcome (Ok v) go = go v

  abbrev pub with_outcomes : Outcomes → (List Val → AfterTurn) → AfterTurn
  with_outcomes (Err kind) go = failed kind
  with_outcomes (Ok vs) go = go vs

  -- goes on with the value of an expression, or with those of all
  abbrev pub with_value : RExpr → (Val → AfterTurn) → AfterTurn
  with_value e go = with_outcome (eval class.queries e d) go

  abbrev pub with_values : List RExpr → (List Val → AfterTurn) → AfterTurn
  with_values es go = with_outcomes (eval_all class.queries es d) go

  -- the message m to these processes, if it is small enough
  abbrev pub send_if : Bool → Val → List ℕ → AfterTurn
  send_if true m ps = record { data' = sent_to m ps d; todo = todo; actions = sending d.me m ps d.clock; fault = None }
  send_if false m ps = failed Message

  abbrev pub send : Val → List ℕ → AfterTurn
  send m ps = send_if (nat_le (packet_len m) max_packet) m ps

  abbrev pub output : Val → AfterTurn
  output v = record { data' = d; todo = todo; actions = Out d.me (value_of v) ∷ []; fault = None }

  -- the first branch whose condition is true, and else the last block
  abbrev pub choose : List RBranch → List Item → AfterTurn
  choose [] otherwise = quiet d (do_all otherwise todo)
  choose (b ∷ bs) otherwise =
      with_value (out-RBranch b).cond
      (λ v. if truth_of v then quiet (bind_found class.queries (out-RBranch b).found (out-RBranch b).binds d) (do_all (out-RBranch b).body todo)
      else choose bs otherwise)

  -- parameters get the values of all arguments, and then the body is to do
  abbrev pub enter : List RExpr → List ℕ → List Item → AfterTurn
  enter args params body = with_values args (λ vs. quiet (bind_all params vs d) (do_all body todo))

  -- a statement, by its kind; `itself` is the statement as it stood first
  abbrev pub kind_turn : Task → ItemKind-F ItemKind Alt Item RBranch → AfterTurn
  kind_turn itself (Assign s e) = with_value e (λ v. quiet (put_slot d s v) todo)
  kind_turn itself (Add s e) = with_value e (λ v. quiet (with_element s v d) todo)
  kind_turn itself (Del s e) = with_value e (λ v. quiet (without_element s v d) todo)
  kind_turn itself (Send m e) = with_value m (λ v. with_value e (λ w. send v (recipients w)))
  kind_turn itself (Output e) = with_value e output
  kind_turn itself (If branches otherwise) = choose branches otherwise
  kind_turn itself (While e body) = with_value e (λ v. quiet d (if truth_of v then do_all body (itself ∷ todo) else todo))
  kind_turn itself (For s e body) = with_value e (λ v. quiet d (Loop s (elements_of v) body line ∷ todo))
  kind_turn itself (Call args body) = enter (map value_of_arg args) (map slot_of_arg args) body
  -- a run stops before these, and never takes them by a turn
  kind_turn itself (Await alts timeout label) = quiet d todo
  kind_turn itself (Label l) = quiet d todo
  kind_turn itself Pass = quiet d todo

  -- the rest of a loop: its first element is bound, and after the body comes what is left then
  abbrev pub loop_turn : ℕ → List Val → List Item → AfterTurn
  loop_turn s [] body = quiet d todo
  loop_turn s (x ∷ xs) body = quiet (put_slot d s x) (do_all body (Loop s xs body line ∷ todo))

-- the line of what is to do; that of a line of `setup` stands in `main`
abbrev pub line_of_task : Task → ℕ
line_of_task (Do i) = line_of i
line_of_task (Loop s left body line) = line
line_of_task (Prepare call) = call.line

-- the turn of a process of this class that takes the first thing to do, and leaves the others
abbrev pub turn : Class → Task → Data → List Task → AfterTurn
turn class (Do i) d todo = kind_turn class (line_of i) d todo (Do i) (kind_of i)
turn class (Loop s left body line) d todo = loop_turn class line d todo s left body
turn class (Prepare call) d todo = enter class call.line d todo call.args class.params class.setup

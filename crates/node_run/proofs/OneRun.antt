-- A list of answers has one run at most: what a node does is settled by its program, its bounds, and what its link answers.
use Rattle.std.specs.Prelude.{◌≡◌, ℕ, List, ◌∷◌, Option, Some, None}
use Rattle.std.proofs.Common.{◌∙◌, ap, refl, subst, sym}
use Rattle.std.proofs.lemmas.Option.{none-some, same_Some}
use Rattle.da_values.specs.declared.val.Val.{Val}
use Rattle.da_lang.specs.declared.event.Action.{Action}
use Rattle.da_lang.specs.declared.program.Program.{Program}
use Rattle.da_lang.specs.Steps.{Go, Step, Stepped, proc_step}
use Rattle.da_lang.specs.World.{opening}
use Rattle.da_outside.specs.declared.link.LinkAnswer.{LinkAnswer}
use Rattle.msg_codec.proofs.Decided.{packet_once}
use Rattle.node_run.specs.HeldPackets.{Held, arrival_of, held_with}
use Rattle.node_run.specs.NodeRun.{Node, NodeEnd, Hears, comes_in, drops, steps, idles, GoesOn, stays, delivers, hears, IsMessage, NodeRun, Round, after_datagram, after_delivery, after_step, answer_round, end_of, event_round, first_node, next_held}

-- a step has one outcome
stepped_once : (outcome : Option Stepped) (x y : Stepped) → outcome ≡ Some x → outcome ≡ Some y → x ≡ y
stepped_once outcome x y one other = same_Some x y (sym one ∙ other)

-- the bytes of a datagram have one message
abbrev held_at : Val → ℕ → ℕ → Held
held_at message sender time = record { message = message; sender = sender; time = time }

held_once : (x y : Held) → x.sender ≡ y.sender → x.time ≡ y.time → x.message ≡ y.message → x ≡ y
held_once x y sender time message =
    ap (λ s. held_at x.message s x.time) sender ∙ ap (λ t. held_at x.message y.sender t) time ∙ ap (λ m. held_at m y.sender y.time) message

message_once : {program : Program} {bytes : List ℕ} {x y : Held} → IsMessage program bytes x → IsMessage program bytes y → x ≡ y
message_once {x = x} {y} one other = let (senders, times, messages) = packet_once one.packet other.packet in held_once x y senders times messages

-- a node takes one step where nothing comes
taken_once : (program : Program) (node : Node) {s t : Step} {x y : Stepped} {chosen : Option Step} → chosen ≡ Some s → chosen ≡ Some t
    → proc_step program node.process s ≡ Some x → proc_step program node.process t ≡ Some y → x ≡ y
taken_once program node {s} {t} {x} {y} one other leads others =
    stepped_once (proc_step program node.process s) x y leads (ap (λ step. proc_step program node.process step) (same_Some s t (sym one ∙ other)) ∙ others)

module _ {program : Program} {node : Node} where
  -- what is done at one answer
  heard_once : {answer : LinkAnswer} {one other : List Action} {then' there : Node} → Hears program node answer one then' → Hears program node answer other there → (one ≡ other) × (then' ≡ there)
  heard_once (comes_in bytes x is) (comes_in _ y other) = (refl, ap (λ z. after_datagram node (held_with program.kind node.held z)) (message_once is other))
  heard_once (comes_in bytes x is) (drops _ nothing) = absurd (nothing x is)
  heard_once (drops bytes nothing) (comes_in _ x is) = absurd (nothing x is)
  heard_once (drops bytes nothing) (drops _ never) = (refl, refl)
  heard_once (steps s x is leads) (steps t y other others) =
      let same = taken_once program node is other leads others in
      (ap (λ step. step.actions) same, ap (λ step. after_step node step.world) same)
  heard_once (steps s x is leads) (idles nothing) = absurd (none-some s (sym nothing ∙ is))
  heard_once (idles nothing) (steps s x is leads) = absurd (none-some s (sym nothing ∙ is))
  heard_once (idles nothing) (idles never) = (refl, refl)

-- and what is delivered where no answer is needed
delivered_once : (program : Program) (node : Node) {x y : Held} {one other : List Held} {a b : Stepped} → next_held program node ≡ Some (x, one) → next_held program node ≡ Some (y, other)
    → proc_step program node.process (arrival_of x) ≡ Some a → proc_step program node.process (arrival_of y) ≡ Some b → (a ≡ b) × (one ≡ other)
delivered_once program node {x} {y} {one} {other} {a} {b} found others leads step =
    let same : (x, one) ≡ (y, other) = same_Some (x, one) (y, other) (sym found ∙ others) in
    (stepped_once (proc_step program node.process (arrival_of x)) a b leads (ap (λ p. proc_step program node.process (arrival_of p.0)) same ∙ step), ap (λ p. p.1) same)

module _ {program : Program} {idle turns : ℕ} where
  -- and round by round, up to where nothing is delivered
  all_once : {node last end : Node} {answers : List LinkAnswer} {xs ys : List Round} → GoesOn program idle turns node answers xs last → next_held program last ≡ None
      → GoesOn program idle turns node answers ys end → next_held program end ≡ None → (xs ≡ ys) × (last ≡ end)
  all_once (stays node) rests (stays _) stops = (refl, refl)
  all_once (stays node) rests (delivers _ end x held after answers rounds found leads goes) stops = absurd (none-some (x, held) (sym rests ∙ found))
  all_once (delivers node last x held after answers rounds found leads goes) rests (stays _) stops = absurd (none-some (x, held) (sym stops ∙ found))
  all_once (delivers node last x held after answers rounds found leads goes) rests (delivers _ end y kept other _ later others step on) stops =
      let (same, left) = delivered_once program node found others leads step in
      let nodes : after_delivery node held after.world ≡ after_delivery node kept other.world =
      ap (λ (s : Stepped). after_delivery node held s.world) same ∙ ap (λ l. after_delivery node l other.world) left in
      let (xs, ends) = all_once goes rests (subst (λ n. GoesOn program idle turns n answers later end) (sym nodes) on) stops in
      (ap (λ (s : Stepped). event_round s.actions ∷ rounds) same ∙ ap (λ l. event_round other.actions ∷ l) xs, ends)
  all_once (delivers node last x held after answers rounds found leads goes) rests (hears _ then' end answer more actions later none asks heard on) stops =
      absurd (none-some (x, held) (sym none ∙ found))
  all_once (hears node then' last answer answers actions rounds none asks heard goes) rests (delivers _ end x held after _ later found leads on) stops =
      absurd (none-some (x, held) (sym none ∙ found))
  all_once (hears node then' last answer answers actions rounds none asks heard goes) rests (hears _ there end _ _ others later _ _ hear on) stops =
      let (same, nodes) = heard_once heard hear in
      let (xs, ends) = all_once goes rests (subst (λ n. GoesOn program idle turns n answers later end) (sym nodes) on) stops in
      (ap (λ a. answer_round answer a ∷ rounds) same ∙ ap (λ l. answer_round answer others ∷ l) xs, ends)

-- A list of answers has one run at most, and one end.
pub run_once : (program : Program) (me idle turns : ℕ) (answers : List LinkAnswer) (xs ys : List Round) (e f : NodeEnd)
    → NodeRun program me idle turns answers xs e → NodeRun program me idle turns answers ys f → (xs ≡ ys) × (e ≡ f)
run_once program me idle turns answers xs ys e f one other =
    let same : one.started ≡ other.started = stepped_once (proc_step program (opening program me) Go) one.started other.started one.start other.start in
    let goes = subst (λ (s : Stepped). GoesOn program idle turns (first_node s.world) answers other.later other.last) (sym same) other.goes in
    let (later, last) = all_once one.goes one.rests goes other.rests in (
      one.rounds_are
          ∙ ap (λ (s : Stepped). event_round s.actions ∷ one.later) same
          ∙ ap (λ l. event_round other.started.actions ∷ l) later
          ∙ sym other.rounds_are,
      one.end_is ∙ ap (end_of idle turns) last ∙ sym other.end_is,
    )

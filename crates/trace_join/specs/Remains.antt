-- What is left in a channel, and how one run of a system may be ahead of another.
use Rattle.std.specs.Prelude.{◌≡◌, ◌⊎◌, ℕ, ◌+◌, List, [], ◌∷◌, ◌++◌, Some}
use Rattle.da_values.specs.Sets.{Has}
use Rattle.da_lang.specs.declared.event.Action.{Action}
use Rattle.da_lang.specs.declared.program.Program.{Program}
use Rattle.da_lang.specs.declared.ty.ChannelKind.{ChannelKind}
use Rattle.da_lang.specs.declared.ty.ChannelKind.TheVariants.{FifoReliable, UnorderedReliable, FifoUnreliable, UnorderedUnreliable}
use Rattle.da_lang.specs.Steps.{Step, Deliver, Stepped}
use Rattle.da_lang.specs.World.{World, at_number}
use Rattle.da_system.specs.Channels.{MessageInFlight, channel}
use Rattle.da_system.specs.SystemStep.{SystemState}
use Rattle.trace_join.specs.Cuts.{Follows, Leads, Transition, sent_to, taken_from}
use Rattle.trace_join.specs.Traces.{messages_from}

-- the first list is the second with some left out
abbrev pub IsSublist : {A : Type 0} → List A → List A → Type 0
IsSublist [] ys = Unit {0}
IsSublist (x ∷ xs) [] = ⊥
IsSublist (x ∷ xs) (y ∷ ys) = ((x ≡ y) × IsSublist xs ys) ⊎ IsSublist (x ∷ xs) ys

-- how much messages weigh together
abbrev pub weight_of : (MessageInFlight → ℕ) → List MessageInFlight → ℕ
weight_of weight [] = 0
weight_of weight (l ∷ messages) = weight l + weight_of weight messages

-- In a channel there were some messages before, others were sent later, and some were taken. Those that are there after are
-- enough: whatever could still be taken and is wanted, can be taken from them.
abbrev pub Remains : ChannelKind → (before sent taken after wanted : List MessageInFlight) → Type 0
Remains FifoReliable before sent taken after wanted = before ++ sent ≡ taken ++ after
Remains UnorderedReliable before sent taken after wanted =
    (weight : MessageInFlight → ℕ) → weight_of weight before + weight_of weight sent ≡ weight_of weight taken + weight_of weight after
Remains FifoUnreliable before sent taken after wanted = (more : List MessageInFlight) → IsSublist (taken ++ more) (before ++ sent) → IsSublist more after
Remains UnorderedUnreliable before sent taken after wanted = (l : MessageInFlight) → Has (before ++ sent) l → Has wanted l → Has after l

-- the message can be delivered, in `fifo unreliable` after the loss of those before it
abbrev pub CanArrive : ChannelKind → List MessageInFlight → MessageInFlight → Type 0
CanArrive FifoReliable messages l = (rest : List MessageInFlight) × (messages ≡ l ∷ rest)
CanArrive _ messages l = Has messages l

-- the channels allow process p this step: a delivery needs its message
abbrev pub AllowStep : SystemState → ℕ → Step → Type 0
AllowStep s p (Deliver m from time) = CanArrive s.kind (channel s.channels from p) (record { message = m; time = time })
AllowStep s p _ = Unit {0}

-- process p is there
abbrev pub IsThere : SystemState → ℕ → Type 0
IsThere s p = (w : World) × (at_number s.worlds p ≡ Some w)

-- The second state is where the transitions of each process lead from the first one, along its trace, and in its channels
-- there is enough.
pub record Ahead (program : Program) (s ahead : SystemState) (traces lefts : ℕ → List Action) (transitions : ℕ → List Transition) : Type 0 where
  pub kind : s.kind ≡ ahead.kind
  pub worlds : (p : ℕ) (w : World) → at_number s.worlds p ≡ Some w
      → (w' : World) × (at_number ahead.worlds p ≡ Some w') × Leads program w (traces p) (transitions p) w' (lefts p)
  pub messages : (p q : ℕ) → IsThere s p → IsThere s q
      → Remains s.kind (channel s.channels p q) (sent_to q (transitions p)) (taken_from p (transitions q)) (channel ahead.channels p q)
      (messages_from p (lefts q))

-- no process can go on along what is left of its trace
abbrev pub IsStuck : Program → SystemState → (ℕ → List Action) → Type 0
IsStuck program s lefts = (p : ℕ) (w : World) (step : Step) (r : Stepped) (left : List Action)
    → at_number s.worlds p ≡ Some w → Follows program w (lefts p) step r left → AllowStep s p step → ⊥

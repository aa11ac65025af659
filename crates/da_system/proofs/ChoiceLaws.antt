-- Which events may be picked: the moves and timeouts that are allowed, and the deliveries that are allowed of one of the first four messages
-- of a channel.
use Rattle.std.proofs.Common.{◌≡◌, refl, sym, ◌∙◌, ap, subst, ℕ, zero, suc, ◌+◌, ◌<◌, ◌≤◌, inl, inr, Bool, true, false, cond, List, [], ◌∷◌, length, map, arith}
use Rattle.std.specs.Prelude.{◌↔◌, ◌⊎◌, Option, Some, None, IsSome, is_some}
use Rattle.std.specs.List.{flat_map, range_with_len}
use Rattle.std.proofs.lemmas.Bool.{false≢true}
use Rattle.da_values.specs.Sets.{Has}
use Rattle.da_values.proofs.Members.{Has-append_left, Has-append_right, Has-filter, Has-flat_map, Has-map, of_append, of_filter, of_flat_map, of_map}
use Rattle.da_lang.specs.declared.event.Event.{Event}
use Rattle.da_lang.specs.declared.event.Event.TheVariants.{Move, Take, Timeout, Deliver, Lose, Repeat, Show, Stat}
use Rattle.da_lang.specs.declared.program.Alt.{Alt}
use Rattle.da_lang.specs.declared.program.Class.{Class}
use Rattle.da_lang.specs.declared.program.Item.{Item}
use Rattle.da_lang.specs.declared.program.ItemKind.{ItemKind}
use Rattle.da_lang.specs.declared.program.ItemKind.TheOpen.{ItemKind-F, Await}
use Rattle.da_lang.specs.declared.program.Program.{Program}
use Rattle.da_lang.specs.declared.program.RBranch.{RBranch}
use Rattle.da_lang.specs.Steps.{Step, Go, class_step, past_await, proc_step, step_in, take_alternative, take_waiting}
use Rattle.da_lang.specs.Steps as step
use Rattle.da_lang.specs.Turns.{kind_of}
use Rattle.da_lang.specs.World.{Data, Task, Do, Loop, Prepare, World, Phase, New, Waiting, Ended, Faulted, at_number, class_of}
use Rattle.da_system.specs.Channels.{MessageInFlight, channel, may_arrive, or_empty, without_message}
use Rattle.da_system.specs.Choices.{alternatives, alternatives_at, alternatives_in, candidates, choices, deliveries_from, deliveries_to, is_allowed, moves_of, processes}
use Rattle.da_system.specs.SoundState.{IsSoundState}
use Rattle.da_system.specs.SystemStep.{SystemState, arrive, step_of, sys_step}
use Rattle.da_system.proofs.MessageLemmas.{stepped_some}
use Rattle.da_system.proofs.PlaceLemmas.{within_numbers}
use Rattle.da_system.proofs.WorldLemmas.{numbered_none}

-- an event of a kind that may be picked
abbrev pub IsPickable : Event → Type 0
IsPickable (Move p) = Unit {0}
IsPickable (Take p k) = Unit {0}
IsPickable (Timeout p) = Unit {0}
IsPickable (Deliver p q i) = i ≤ 4
IsPickable _ = ⊥

-- NUMBERS

has_place : (a n d : ℕ) → d < n → Has (range_with_len a n) (a + d)
has_place a zero d inside = absurd (omega (arith, inside))
has_place a (suc n) zero inside = inl (let here : a + 0 ≡ a = omega arith in here)
has_place a (suc n) (suc d) inside = inr (subst (Has (range_with_len (a + 1) n)) (let here : a + 1 + d ≡ a + suc d = omega arith in here) (has_place (a + 1) n d (omega (arith, inside))))

has_number : (n k : ℕ) → 0 < k → k ≤ n → Has (range_with_len 1 n) k
has_number n zero some few = absurd (omega (arith, some))
has_number n (suc d) some few = subst (Has (range_with_len 1 n)) (let here : 1 + d ≡ suc d = omega arith in here) (has_place 1 n d (omega (arith, few)))

of_numbers : (a n k : ℕ) → Has (range_with_len a n) k → k < a + n
of_numbers a zero k has = absurd has
of_numbers a (suc n) k (inl is) = omega (arith, is)
of_numbers a (suc n) k (inr has) = let less = of_numbers (a + 1) n k has in omega (arith, less)

-- WHERE A STEP IS ALLOWED

step_there : (program : Program) (s : SystemState) (p : ℕ) (o : Option World) (x : Step) → is_some (step_of program s p o x) ≡ true → is_some o ≡ true
step_there program s p None x is = is
step_there program s p (Some w) x is = refl

taken_kind : (class : Class) (d : Data) (todo : List Task) (k : ℕ) (kind : ItemKind-F ItemKind Alt Item RBranch) → is_some (past_await class d todo k kind) ≡ true → (0 < k) × (k ≤ alternatives_in kind)
taken_kind class d todo k (Await alts timeout label) is = of (at_number alts k) refl is
  where
    of : (alt : Option Alt) → at_number alts k ≡ alt → is_some (take_alternative class d todo k alt) ≡ true → (0 < k) × (k ≤ length alts)
    of None there is = absurd (false≢true is)
    of (Some alt) there is = within_numbers alts k (ap is_some there)
taken_kind class d todo k _ is = absurd (false≢true is)

taken_waiting : (class : Class) (d : Data) (k : ℕ) (todo : List Task) → is_some (take_waiting class d k todo) ≡ true → (0 < k) × (k ≤ alternatives Waiting todo)
taken_waiting class d k [] is = absurd (false≢true is)
taken_waiting class d k (Do i ∷ todo) is = taken_kind class d todo k (kind_of i) is
taken_waiting class d k (Loop slot left body line ∷ todo) is = absurd (false≢true is)
taken_waiting class d k (Prepare call ∷ todo) is = absurd (false≢true is)

taken_in : (program : Program) (class : Class) (w : World) (k : ℕ) (phase : Phase) → is_some (class_step program class w (step.Take k) phase) ≡ true → (0 < k) × (k ≤ alternatives phase w.todo)
taken_in program class w k New is = absurd (false≢true is)
taken_in program class w k Waiting is = taken_waiting class w.data' k w.todo is
taken_in program class w k Ended is = absurd (false≢true is)
taken_in program class w k Faulted is = absurd (false≢true is)

taken : (program : Program) (w : World) (k : ℕ) (class : Option Class) → is_some (step_in program w (step.Take k) class) ≡ true → (0 < k) × (k ≤ alternatives w.phase w.todo)
taken program w k None is = absurd (false≢true is)
taken program w k (Some class) is = taken_in program class w k w.phase is

taken_at : (program : Program) (s : SystemState) (p k : ℕ) (o : Option World) → is_some (step_of program s p o (step.Take k)) ≡ true → (0 < k) × (k ≤ alternatives_at o)
taken_at program s p k None is = absurd (false≢true is)
taken_at program s p k (Some w) is = taken program w k (class_of program w.data'.me) (sym (stepped_some s p (proc_step program w (step.Take k))) ∙ is)

arrived : (program : Program) (s : SystemState) (p q i : ℕ) (may : Bool) (o : Option MessageInFlight) → is_some (cond may (arrive program s p q i o) None) ≡ true → (is_some o ≡ true) × (is_some (at_number s.worlds q) ≡ true)
arrived program s p q i true None is = absurd (false≢true is)
arrived program s p q i true (Some message) is = (refl, step_there program (record s { channels = without_message s.channels p q i }) q (at_number s.worlds q) (step.Deliver message.message p message.time) is)
arrived program s p q i false o is = absurd (false≢true is)

-- there is a sender where there is a message
sent_from : (rows : List (List (List MessageInFlight))) (p q i : ℕ) → is_some (at_number (channel rows p q) i) ≡ true → (0 < p) × (p ≤ length rows)
sent_from rows p q i is = of (at_number rows p) refl is
  where
    of : (row : Option (List (List MessageInFlight))) → at_number rows p ≡ row → is_some (at_number (or_empty (at_number (or_empty row) q)) i) ≡ true → (0 < p) × (p ≤ length rows)
    of None there is = absurd (false≢true (sym (ap is_some (ap (λ (messages : Option (List MessageInFlight)). at_number (or_empty messages) i) (numbered_none q) ∙ numbered_none i)) ∙ is))
    of (Some row) there is = within_numbers rows p (ap is_some there)

-- THE EVENTS THAT MAY BE PICKED

module _ (program : Program) (s : SystemState) (sound : IsSoundState program s) where
  has_process : (p : ℕ) → is_some (at_number s.worlds p) ≡ true → Has (processes s) p
  has_process p there = let (some, few) = within_numbers s.worlds p there in has_number (length s.worlds) p some few

  among : (e : Event) → IsPickable e → is_allowed program s e ≡ true → Has (candidates s) e
  among (Move p) kind is =
      let here = has_process p (step_there program s p (at_number s.worlds p) Go is) in
      Has-append_left (flat_map (moves_of s) (processes s)) (flat_map (deliveries_from s) (processes s)) (Move p)
      (Has-flat_map (moves_of s) (processes s) p (Move p) here (inl refl))
  among (Take p k) kind is =
      let here = has_process p (step_there program s p (at_number s.worlds p) (step.Take k) is) in
      let (some, few) = taken_at program s p k (at_number s.worlds p) is in
      let numbers = range_with_len 1 (alternatives_at (at_number s.worlds p)) in
      Has-append_left (flat_map (moves_of s) (processes s)) (flat_map (deliveries_from s) (processes s)) (Take p k)
      (Has-flat_map (moves_of s) (processes s) p (Take p k) here
      (Has-append_left (Move p ∷ map (Take p) numbers) (Timeout p ∷ []) (Take p k) (inr (Has-map (Take p) numbers k (has_number (alternatives_at (at_number s.worlds p)) k some few)))))
  among (Timeout p) kind is =
      let here = has_process p (step_there program s p (at_number s.worlds p) step.TimeOut is) in
      let takes = Move p ∷ map (Take p) (range_with_len 1 (alternatives_at (at_number s.worlds p))) in
      Has-append_left (flat_map (moves_of s) (processes s)) (flat_map (deliveries_from s) (processes s)) (Timeout p)
      (Has-flat_map (moves_of s) (processes s) p (Timeout p) here (Has-append_right takes (Timeout p ∷ []) (Timeout p) (inl refl)))
  among (Deliver p q i) kind is =
      let (message, receiver) = arrived program s p q i (may_arrive s.kind i) (at_number (channel s.channels p q) i) is in
      let (some, few) = sent_from s.channels p q i message in
      let sender = has_number (length s.worlds) p some (omega (arith, few, sound.square.senders, sound.each)) in
      let numbered = within_numbers (channel s.channels p q) i message in
      Has-append_right (flat_map (moves_of s) (processes s)) (flat_map (deliveries_from s) (processes s)) (Deliver p q i)
      (Has-flat_map (deliveries_from s) (processes s) p (Deliver p q i) sender
      (Has-flat_map (deliveries_to p) (processes s) q (Deliver p q i) (has_process q receiver)
      (Has-map (Deliver p q) (range_with_len 1 4) i (has_number 4 i numbered.0 kind))))
  among (Lose p q i) kind is = absurd kind
  among (Repeat p q i) kind is = absurd kind
  among (Show p) kind is = absurd kind
  among (Stat p) kind is = absurd kind

  take_kind : (p : ℕ) (e : Event) → Has (Move p ∷ map (Take p) (range_with_len 1 (alternatives_at (at_number s.worlds p)))) e → IsPickable e
  take_kind p e (inl is) = subst IsPickable (sym is) tt
  take_kind p e (inr has) = let (k, there, is) = of_map (Take p) (range_with_len 1 (alternatives_at (at_number s.worlds p))) e has in subst IsPickable (sym is) tt

  one_kind : (p : ℕ) (e : Event) → Has (Timeout p ∷ []) e → IsPickable e
  one_kind p e (inl is) = subst IsPickable (sym is) tt
  one_kind p e (inr none) = absurd none

  move_kind : (p : ℕ) (e : Event) → Has (moves_of s p) e → IsPickable e
  move_kind p e has = elim (of_append (Move p ∷ map (Take p) (range_with_len 1 (alternatives_at (at_number s.worlds p)))) (Timeout p ∷ []) e has) [
    | inl take ↦ take_kind p e take
    | inr timeout ↦ one_kind p e timeout
  ]

  delivery_kind : (p : ℕ) (e : Event) → Has (deliveries_from s p) e → IsPickable e
  delivery_kind p e has =
      let (q, there, to) = of_flat_map (deliveries_to p) (processes s) e has in
      let (i, inside, is) = of_map (Deliver p q) (range_with_len 1 4) e to in
      subst IsPickable (sym is) (let few : i ≤ 4 = omega (arith, of_numbers 1 4 i inside) in few)

  kind_of_candidate : (e : Event) → Has (flat_map (moves_of s) (processes s)) e ⊎ Has (flat_map (deliveries_from s) (processes s)) e → IsPickable e
  kind_of_candidate e (inl has) = let (p, there, here) = of_flat_map (moves_of s) (processes s) e has in move_kind p e here
  kind_of_candidate e (inr has) = let (p, there, here) = of_flat_map (deliveries_from s) (processes s) e has in delivery_kind p e here

  pub choices_are : (e : Event) → Has (choices program s) e ↔ (IsPickable e × IsSome (sys_step program s e))
  choices_are e = (
    λ has. (
        let (candidate, allowed) = of_filter (is_allowed program s) (candidates s) e has in
        (kind_of_candidate e (of_append (flat_map (moves_of s) (processes s)) (flat_map (deliveries_from s) (processes s)) e candidate), allowed)),
    λ both. Has-filter (is_allowed program s) (candidates s) e (among e both.0 both.1) both.1,
  )

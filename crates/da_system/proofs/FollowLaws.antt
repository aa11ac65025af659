-- The counts of the state after an event: what it did not touch may be picked as often as before.
use Rattle.std.proofs.Common.{◌≡◌, refl, sym, ◌∙◌, ap, subst, ℕ, Bool, true, false, cond, List, [], ◌∷◌, ◌++◌, length, map, inl, inr}
use Rattle.std.specs.Prelude.{◌⊎◌, Option, Some, None, is_some}
use Rattle.std.specs.List.{AllByRecursion, filter}
use Rattle.std.proofs.lemmas.Bool.{cases_eq, false≢true}
use Rattle.da_values.specs.Value.{val_of}
use Rattle.da_lang.specs.declared.event.Action.{Action}
use Rattle.da_lang.specs.declared.event.Action.TheVariants.{Again, Kept, Lost, Sent}
use Rattle.da_lang.specs.declared.event.Event.{Event}
use Rattle.da_lang.specs.declared.event.Event.TheVariants as event
use Rattle.da_lang.specs.declared.program.Program.{Program}
use Rattle.da_lang.specs.Steps.{Deliver, Go, Step, Stepped, Take, TimeOut, proc_step}
use Rattle.da_lang.specs.World.{Data, World, at_number, class_of}
use Rattle.da_core.specs.Told.{answers_of, kept_of, numbers_to}
use Rattle.da_system.specs.Channels.{Channels, MessageInFlight, after_action, after_actions, channel, may_arrive, may_lose, may_repeat, put_numbered, with_channel, with_message, without_message, without_numbered}
use Rattle.da_system.specs.Choices.{alternatives_at, deliveries_to, is_allowed, moves_of}
use Rattle.da_system.specs.Counted.{Counted}
use Rattle.da_system.specs.Counts.{AreCounts, CountsChannel, CountsDeliveries, CountsMoves, CountsProcess, CountsSent, CountsStep, HasSizes, KeepsCounts, allowed_in}
use Rattle.da_system.specs.Queues.{IsAmong}
use Rattle.da_system.specs.SystemStep.{AfterEvent, SystemState, arrive, copy_message, drop_message, process_step, step_of, stepped, sys_step, told}
use Rattle.da_system.proofs.MessageLemmas.{stepped_some}
use Rattle.da_system.proofs.NumberLaws.{channel_other, put_other}

-- WHAT A STEP ASKS OF A STATE

filter_same : (f g : Event → Bool) (es : List Event) → AllByRecursion (λ e. f e ≡ g e) es → filter f es ≡ filter g es
filter_same f g [] all = refl
filter_same f g (e ∷ es) all =
    ap (λ b. cond b (e ∷ filter f es) (filter f es)) all.0 ∙ ap (λ (rest : List Event). cond (g e) (e ∷ rest) rest) (filter_same f g es all.1)

all_mapped : (P : Event → Type 0) (f : ℕ → Event) (ns : List ℕ) → ((n : ℕ) → P (f n)) → AllByRecursion P (map f ns)
all_mapped P f [] holds = tt
all_mapped P f (n ∷ ns) holds = (holds n, all_mapped P f ns holds)

all_then : (P : Event → Type 0) (xs ys : List Event) → AllByRecursion P xs → AllByRecursion P ys → AllByRecursion P (xs ++ ys)
all_then P [] ys first next = next
all_then P (x ∷ xs) ys first next = (first.0, all_then P xs ys first.1 next)

-- a process may do what it may by its world alone
step_as : (program : Program) (s next : SystemState) (p : ℕ) (step : Step) → at_number s.worlds p ≡ at_number next.worlds p → is_some (process_step program s p step) ≡ is_some (process_step program next p step)
step_as program s next p step same = ap (λ (o : Option World). is_some (step_of program s p o step)) same ∙ either (at_number next.worlds p)
  where
    either : (o : Option World) → is_some (step_of program s p o step) ≡ is_some (step_of program next p o step)
    either None = refl
    either (Some w) = stepped_some s p (proc_step program w step) ∙ sym (stepped_some next p (proc_step program w step))

module _ (program : Program) (s next : SystemState) where
  abbrev Alike : Event → Type 0
  Alike e = is_allowed program s e ≡ is_allowed program next e

  moves_as : (p : ℕ) → at_number s.worlds p ≡ at_number next.worlds p → allowed_in program s (moves_of s p) ≡ allowed_in program next (moves_of next p)
  moves_as p same =
      let takes : List Event = map (event.Take p) (numbers_to (alternatives_at (at_number next.worlds p))) in
      let list : moves_of s p ≡ moves_of next p = ap (λ (o : Option World). event.Move p ∷ map (event.Take p) (numbers_to (alternatives_at o)) ++ event.Timeout p ∷ []) same in
      let each : AllByRecursion Alike (moves_of next p) =
      (step_as program s next p Go same, all_then Alike takes (event.Timeout p ∷ []) (all_mapped Alike (event.Take p) (numbers_to (alternatives_at (at_number next.worlds p))) (λ k. step_as program s next p (Take k) same)) (step_as program s next p TimeOut same, tt)) in
      ap (λ (es : List Event). length (filter (is_allowed program s) es)) list ∙ ap length (filter_same (is_allowed program s) (is_allowed program next) (moves_of next p) each)

  -- a message may arrive by the kind, its channel and the world of the recipient
  module _ (p q : ℕ) (kind : s.kind ≡ next.kind) (world : at_number s.worlds q ≡ at_number next.worlds q) (same : channel s.channels p q ≡ channel next.channels p q) where
    either_arrives : (i : ℕ) (b : Bool) (o : Option MessageInFlight) → is_some (cond b (arrive program s p q i o) None) ≡ is_some (cond b (arrive program next p q i o) None)
    either_arrives i true None = refl
    either_arrives i true (Some message) =
        step_as program (record s { channels = without_message s.channels p q i }) (record next { channels = without_message next.channels p q i }) q (Deliver message.message p message.time) world
    either_arrives i false o = refl

    arrives_as : (i : ℕ) → Alike (event.Deliver p q i)
    arrives_as i =
        ap (λ k. is_some (cond (may_arrive k i) (arrive program s p q i (at_number (channel s.channels p q) i)) None)) kind
        ∙ ap (λ (messages : List MessageInFlight). is_some (cond (may_arrive next.kind i) (arrive program s p q i (at_number messages i)) None)) same
        ∙ either_arrives i (may_arrive next.kind i) (at_number (channel next.channels p q) i)

    deliveries_as : allowed_in program s (deliveries_to p q) ≡ allowed_in program next (deliveries_to p q)
    deliveries_as = ap length (filter_same (is_allowed program s) (is_allowed program next) (deliveries_to p q) (all_mapped Alike (event.Deliver p q) (numbers_to 4) arrives_as))

-- THE COUNTS, by what an event leaves alone

module _ (program : Program) (s next : SystemState) (kind : s.kind ≡ next.kind) (many : length next.worlds ≡ length s.worlds) (old new : Counted) (counts : AreCounts program s old) (keeps : KeepsCounts program next old new) where
  abbrev IsHere : ℕ → Type 0
  IsHere p = IsAmong (length next.worlds) p

  abbrev WasHere : ℕ → Type 0
  WasHere p = IsAmong (length s.worlds) p

  was_here : (p : ℕ) → IsHere p → WasHere p
  was_here p here = subst (λ k. IsAmong k p) many here

  sizes_stay : HasSizes (length next.worlds) new
  sizes_stay = subst (λ k. HasSizes k new) (sym many) (keeps.sizes (length s.worlds) counts.sizes)

  moves_stay : (p : ℕ) → at_number next.worlds p ≡ at_number s.worlds p → IsHere p → CountsMoves program next new p
  moves_stay p same here = keeps.moves p (counts.moves p (was_here p here) ∙ ap Some (moves_as program s next p (sym same)))

  deliveries_stay : (p q : ℕ) → at_number next.worlds q ≡ at_number s.worlds q → channel next.channels p q ≡ channel s.channels p q → IsHere p → IsHere q → CountsDeliveries program next new p q
  deliveries_stay p q world same from to =
      keeps.deliveries p q (counts.deliveries p q (was_here p from) (was_here q to) ∙ ap Some (deliveries_as program s next p q kind (sym world) (sym same)))

  -- a channel is as it was before the actions, or its count was made after them
  one_or : (a : Action) (base : Channels) (p q : ℕ) → IsHere p → IsHere q → CountsSent program next new a → (channel (after_action base a) p q ≡ channel base p q) ⊎ CountsDeliveries program next new p q
  one_or (Sent from to time m) base p q here there counted = elim (cases_eq p from) [
    | inr other ↦ inl (channel_other base from to (channel base from to ++ record { message = val_of m; time = time } ∷ []) p q (λ both. other both.0))
    | inl same ↦ elim (cases_eq q to) [
      | inr other ↦ inl (channel_other base from to (channel base from to ++ record { message = val_of m; time = time } ∷ []) p q (λ both. other both.1))
      | inl too ↦ inr (subst (λ k. CountsDeliveries program next new k q) (sym same) (subst (λ k. CountsDeliveries program next new from k) (sym too)
          (counted (subst IsHere same here) (subst IsHere too there))))
    ]
  ]
  one_or _ base p q here there counted = inl refl

  sent_or : (actions : List Action) (base : Channels) (p q : ℕ) → IsHere p → IsHere q → AllByRecursion (CountsSent program next new) actions
      → (channel (after_actions base actions) p q ≡ channel base p q) ⊎ CountsDeliveries program next new p q
  sent_or [] base p q here there all = inl refl
  sent_or (a ∷ others) base p q here there all = elim (sent_or others (after_action base a) p q here there all.1) [
    | inr counted ↦ inr counted
    | inl rest ↦ elim (one_or a base p q here there all.0) [
      | inr counted ↦ inr counted
      | inl first ↦ inl (rest ∙ first)
    ]
  ]

  -- process p has another world, and the actions have sent
  process_follows : (p : ℕ) (base : Channels) (actions : List Action) → ((a : ℕ) → (a ≡ p → ⊥) → at_number next.worlds a ≡ at_number s.worlds a) → next.channels ≡ after_actions base actions
      → ((a b : ℕ) → (b ≡ p → ⊥) → channel base a b ≡ channel s.channels a b) → CountsProcess program next new p → AllByRecursion (CountsSent program next new) actions → AreCounts program next new
  process_follows p base actions worlds channels others its sent = record {
    sizes = sizes_stay;
    moves = λ a here. elim (cases_eq a p) [
      | inl same ↦ subst (CountsMoves program next new) (sym same) (its.moves (subst IsHere same here))
      | inr other ↦ moves_stay a (worlds a other) here
    ];
    deliveries = λ a b from to. elim (cases_eq b p) [
      | inl same ↦ subst (CountsDeliveries program next new a) (sym same) (its.arriving a from (subst IsHere same to))
      | inr other ↦ elim (sent_or actions base a b from to sent) [
        | inl rest ↦ deliveries_stay a b (worlds b other) (ap (λ (cs : Channels). channel cs a b) channels ∙ rest ∙ others a b other) from to
        | inr counted ↦ counted
      ]
    ];
  }

  -- one channel is another one
  channel_follows : (p q : ℕ) → next.worlds ≡ s.worlds → ((a b : ℕ) → ((a ≡ p) × (b ≡ q) → ⊥) → channel next.channels a b ≡ channel s.channels a b) → CountsChannel program next new p q → AreCounts program next new
  channel_follows p q worlds others counted = record {
    sizes = sizes_stay;
    moves = λ a here. moves_stay a (ap (λ (ws : List World). at_number ws a) worlds) here;
    deliveries = λ a b from to. elim (cases_eq a p) [
      | inr other ↦ deliveries_stay a b (ap (λ (ws : List World). at_number ws b) worlds) (others a b (λ both. other both.0)) from to
      | inl same ↦ elim (cases_eq b q) [
        | inr other ↦ deliveries_stay a b (ap (λ (ws : List World). at_number ws b) worlds) (others a b (λ both. other both.1)) from to
        | inl too ↦ subst (λ k. CountsDeliveries program next new k b) (sym same) (subst (CountsDeliveries program next new p) (sym too) (counted (subst IsHere same from) (subst IsHere too to)))
      ]
    ];
  }

  -- nothing is another one
  nothing_follows : next ≡ s → AreCounts program next new
  nothing_follows same = record {
    sizes = sizes_stay;
    moves = λ a here. moves_stay a (ap (λ (t : SystemState). at_number t.worlds a) same) here;
    deliveries = λ a b from to. deliveries_stay a b (ap (λ (t : SystemState). at_number t.worlds b) same) (ap (λ (t : SystemState). channel t.channels a b) same) from to;
  }

-- WHAT EACH EVENT LEAVES

same_some : {A : Type 0} (x y : A) → ◌≡◌ {A = Option A} (Some x) (Some y) → x ≡ y
same_some x y is = cc

-- the step of process p gives it another world, and its actions send
abbrev HasPut : SystemState → ℕ → Channels → AfterEvent → Type 0
HasPut s p base after = (w : World) × (after.state.worlds ≡ put_numbered s.worlds p w) × (after.state.channels ≡ after_actions base after.actions)

stepped_put : (s : SystemState) (base : Channels) (p : ℕ) (r : Option Stepped) (after : AfterEvent) → stepped (record s { channels = base }) p r ≡ Some after → HasPut s p base after
stepped_put s base p None after is = absurd (false≢true (ap is_some is))
stepped_put s base p (Some step) after is =
    let same = same_some {A = AfterEvent} (record {
      state = record s { worlds = put_numbered s.worlds p step.world; channels = after_actions base step.actions };
      actions = step.actions;
    }) after is in (
      step.world,
      sym (ap (λ (a : AfterEvent). a.state.worlds) same),
      sym (ap (λ (a : AfterEvent). a.state.channels) same) ∙ ap (λ (a : AfterEvent). after_actions base a.actions) same,
    )

step_put : (program : Program) (s : SystemState) (base : Channels) (p : ℕ) (step : Step) (o : Option World) (after : AfterEvent) → step_of program (record s { channels = base }) p o step ≡ Some after → HasPut s p base after
step_put program s base p step None after is = absurd (false≢true (ap is_some is))
step_put program s base p step (Some w) after is = stepped_put s base p (proc_step program w step) after is

module _ (program : Program) (s : SystemState) (old new : Counted) (counts : AreCounts program s old) (after : AfterEvent) (kind : s.kind ≡ after.state.kind) (many : length after.state.worlds ≡ length s.worlds)
    (keeps : KeepsCounts program after.state old new) where
  put_follows : (p : ℕ) (base : Channels) → HasPut s p base after → ((a b : ℕ) → (b ≡ p → ⊥) → channel base a b ≡ channel s.channels a b)
      → CountsProcess program after.state new p → AllByRecursion (CountsSent program after.state new) after.actions → AreCounts program after.state new
  put_follows p base (w, put, channels) others its sent =
      process_follows program s after.state kind many old new counts keeps p base after.actions
      (λ a other. ap (λ (ws : List World). at_number ws a) put ∙ put_other s.worlds a p w other) channels others its sent

  moved : (p : ℕ) (step : Step) → process_step program s p step ≡ Some after → CountsProcess program after.state new p → AllByRecursion (CountsSent program after.state new) after.actions
      → AreCounts program after.state new
  moved p step is its sent = put_follows p s.channels (step_put program s s.channels p step (at_number s.worlds p) after is) (λ a b other. refl) its sent

  arrived : (p q i : ℕ) (b : Bool) (o : Option MessageInFlight) → cond b (arrive program s p q i o) None ≡ Some after → HasPut s q (without_message s.channels p q i) after
  arrived p q i true None is = absurd (false≢true (ap is_some is))
  arrived p q i true (Some message) is = step_put program s (without_message s.channels p q i) q (Deliver message.message p message.time) (at_number s.worlds q) after is
  arrived p q i false o is = absurd (false≢true (ap is_some is))

  lost : (p q i : ℕ) (b : Bool) (o : Option MessageInFlight) → cond b (drop_message s p q i o) None ≡ Some after → (after.state.worlds ≡ s.worlds) × (after.state.channels ≡ without_message s.channels p q i)
  lost p q i true None is = absurd (false≢true (ap is_some is))
  lost p q i true (Some message) is =
      let same = same_some {A = AfterEvent} (record { state = record s { channels = without_message s.channels p q i }; actions = Lost p q message.time ∷ [] }) after is in
      (sym (ap (λ (a : AfterEvent). a.state.worlds) same), sym (ap (λ (a : AfterEvent). a.state.channels) same))
  lost p q i false o is = absurd (false≢true (ap is_some is))

  doubled : (p q : ℕ) (b : Bool) (o : Option MessageInFlight) → cond b (copy_message s p q o) None ≡ Some after
      → (after.state.worlds ≡ s.worlds) × ((messages : List MessageInFlight) × (after.state.channels ≡ with_channel s.channels p q messages))
  doubled p q true None is = absurd (false≢true (ap is_some is))
  doubled p q true (Some message) is =
      let same = same_some {A = AfterEvent} (record { state = record s { channels = with_message s.channels p q message }; actions = Again p q message.time ∷ [] }) after is in
      (sym (ap (λ (a : AfterEvent). a.state.worlds) same), (channel s.channels p q ++ message ∷ [], sym (ap (λ (a : AfterEvent). a.state.channels) same)))
  doubled p q false o is = absurd (false≢true (ap is_some is))

  said : (o : Option World) (tell : Data → List Action) → told s o tell ≡ Some after → after.state ≡ s
  said None tell is = absurd (false≢true (ap is_some is))
  said (Some w) tell is = sym (ap (λ (a : AfterEvent). a.state) (same_some {A = AfterEvent} (record { state = s; actions = tell w.data' }) after is))

  -- one channel has other messages
  channel_put : (p q : ℕ) (messages : List MessageInFlight) → after.state.worlds ≡ s.worlds → after.state.channels ≡ with_channel s.channels p q messages
      → CountsChannel program after.state new p q → AreCounts program after.state new
  channel_put p q messages worlds channels counted =
      channel_follows program s after.state kind many old new counts keeps p q worlds
      (λ a b other. ap (λ (cs : Channels). channel cs a b) channels ∙ channel_other s.channels p q messages a b other) counted

  -- THE COUNTS OF THE STATE AFTER AN EVENT, where what it may have changed was counted anew
  pub counts_follow : (e : Event) → sys_step program s e ≡ Some after → CountsStep program after.state e after.actions new → AreCounts program after.state new
  counts_follow (event.Move p) is made = moved p Go is made.event made.sent
  counts_follow (event.Take p k) is made = moved p (Take k) is made.event made.sent
  counts_follow (event.Timeout p) is made = moved p TimeOut is made.event made.sent
  counts_follow (event.Deliver p q i) is made =
      put_follows q (without_message s.channels p q i) (arrived p q i (may_arrive s.kind i) (at_number (channel s.channels p q) i) is)
      (λ a b other. channel_other s.channels p q (without_numbered (channel s.channels p q) i) a b (λ both. other both.1)) made.event made.sent
  counts_follow (event.Lose p q i) is made =
      let (worlds, channels) = lost p q i (may_lose s.kind) (at_number (channel s.channels p q) i) is in
      channel_put p q (without_numbered (channel s.channels p q) i) worlds channels made.event
  counts_follow (event.Repeat p q i) is made =
      let (worlds, (messages, channels)) = doubled p q (may_repeat s.kind) (at_number (channel s.channels p q) i) is in
      channel_put p q messages worlds channels made.event
  counts_follow (event.Show p) is made = nothing_follows program s after.state kind many old new counts keeps (said (at_number s.worlds p) (answers_of p (class_of program p)) is)
  counts_follow (event.Stat p) is made = nothing_follows program s after.state kind many old new counts keeps (said (at_number s.worlds p) (λ d. Kept p (kept_of (class_of program p) d) ∷ []) is)

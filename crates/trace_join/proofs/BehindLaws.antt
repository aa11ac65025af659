-- One run of a system stays behind another one which is stuck, whatever events it takes along the same traces.
use Rattle.std.specs.Prelude.{◌≡◌, ℕ, zero, suc, ◌+◌, Bool, true, false, cond, List, [], ◌∷◌, ◌++◌, Option, Some, None, refl}
use Rattle.std.specs.List.{AllByRecursion}
use Rattle.std.proofs.Common.{sym, ap, ◌∙◌, subst, inl, inr, append_assoc}
use Rattle.std.proofs.lemmas.Bool.{cases_eq, eq-eqb, ne_eqb}
use Rattle.da_values.specs.declared.val.Val.{Val}
use Rattle.da_values.specs.declared.value.Value.{Value}
use Rattle.da_values.specs.Sets.{Has}
use Rattle.da_values.specs.Value.{val_of}
use Rattle.da_values.proofs.Members.{Has-append_left}
use Rattle.da_lang.specs.declared.event.Action.{Action}
use Rattle.da_lang.specs.declared.event.Action.TheVariants.{Again, Got, Lost, Took}
use Rattle.da_lang.specs.declared.event.Event.{Event}
use Rattle.da_lang.specs.declared.program.Program.{Program}
use Rattle.da_lang.specs.declared.ty.ChannelKind.{ChannelKind}
use Rattle.da_lang.specs.Accepted.{IsAccepted}
use Rattle.da_lang.specs.Steps.{Deliver, Go, Step, Stepped, Take, TimeOut, proc_step}
use Rattle.da_lang.specs.World.{World, at_number}
use Rattle.da_system.specs.Channels.{Channels, MessageInFlight, after_actions, channel, may_arrive, put_numbered, with_channel, without_message, without_numbered}
use Rattle.da_system.specs.SoundState.{IsSoundState}
use Rattle.da_system.specs.SourceRun.{SrcRun, at_event, src_run_from}
use Rattle.da_system.specs.SystemStep.{AfterEvent, SystemState, sys_step}
use Rattle.trace_join.specs.Cuts.{Follows, Leads, Transition, awaits, sent_to, step_asked, taken_by, taken_from}
use Rattle.trace_join.specs.Joins.{IsPlain}
use Rattle.trace_join.specs.Remains.{Ahead, AllowStep, CanArrive, IsStuck, IsThere, Remains}
use Rattle.trace_join.specs.Traces.{message_from, messages_from, messages_to, part}
use Rattle.trace_join.proofs.ChannelLaws.{AreOwn, HasChannel, channel-other, channel-sent, channel-there, channel-unsent, channel_between, has-with, message_has, put_other, put_there, put_was, sender_there}
use Rattle.trace_join.proofs.EventLaws.{Happens, IsFetch, acts, after_step, doubles, happens, loses, part-other, part-own, stays_there}
use Rattle.trace_join.proofs.LeadLaws.{BeginsWithStep, first_transition, leads_within}
use Rattle.trace_join.proofs.RemainsLaws.{arrives_ahead, behind_doubles, behind_loses, behind_sends, behind_takes, remains_as}
use Rattle.trace_join.proofs.SoundRuns.{sound_then}
use Rattle.trace_join.proofs.StepLaws.{step_told}
use Rattle.trace_join.proofs.Sublists.{none_there}
use Rattle.trace_join.proofs.Updates.{updated, updated-other, updated-there}

got_message : (q p t : ℕ) (v : Value) (m : Val) (from time : ℕ) (rest : List Action) → val_of v ≡ m → p ≡ from → t ≡ time
    → Has (messages_from from (Got q p t v ∷ rest)) (record { message = m; time = time })
got_message q p t v m from time rest messages senders times =
    Has-append_left (message_from from (Got q p t v)) (messages_from from rest) (record { message = m; time = time })
    (subst (λ (b : Bool). Has {A = MessageInFlight} (cond b (record { message = val_of v; time = t } ∷ []) []) (record { message = m; time = time }))
    (sym (eq-eqb p from senders))
    (inl (ap (λ (x : Val). record { message = x; time = time }) (sym messages) ∙ ap (λ n. record { message = val_of v; time = n }) (sym times))))

-- a trace that asks for a delivery tells of the message
asks_message : (w : World) (trace : List Action) (m : Val) (from time : ℕ) → step_asked w trace ≡ Some (Deliver m from time)
    → Has (messages_from from trace) (record { message = m; time = time })
asks_message w [] m from time is = none_there is
asks_message w (Took p zero ∷ rest) m from time is = absurd (let same : Go ≡ Deliver m from time = cc in cc)
asks_message w (Took p (suc k) ∷ rest) m from time is = of (awaits w.phase w.todo k) is
  where
    of : (b : Bool) → Some (cond b TimeOut (Take (suc k))) ≡ Some (Deliver m from time)
        → Has (messages_from from (Took p (suc k) ∷ rest)) (record { message = m; time = time })
    of true same = absurd (let steps : TimeOut ≡ Deliver m from time = cc in cc)
    of false same = absurd (let steps : Take (suc k) ≡ Deliver m from time = cc in cc)
asks_message w (Got q p t v ∷ rest) m from time is =
    let steps : Deliver (val_of v) p t ≡ Deliver m from time = cc in
    got_message q p t v m from time rest (cc) (cc) (cc)
asks_message w (_ ∷ rest) m from time is = none_there is

-- A MESSAGE IS LOST OR DOUBLED: one channel is another

module _ (s : SystemState) (p q : ℕ) (messages : List MessageInFlight) (has : HasChannel s.channels p q)
    (kept : (sent taken after wanted : List MessageInFlight) → Remains s.kind (channel s.channels p q) sent taken after wanted
    → Remains s.kind messages sent taken after wanted) where
  remains_with : (a b : ℕ) (sent taken after wanted : List MessageInFlight) → Remains s.kind (channel s.channels a b) sent taken after wanted
      → Remains s.kind (channel (with_channel s.channels p q messages) a b) sent taken after wanted
  remains_with a b sent taken after wanted remains = elim (cases_eq a p) [
    | inr stranger ↦ unchanged (λ both. stranger both.0)
    | inl sender ↦ elim (cases_eq b q) [
      | inr other ↦ unchanged (λ both. other both.1)
      | inl recipient ↦ changed sender recipient
    ]
  ]
    where
      unchanged : ((a ≡ p) × (b ≡ q) → ⊥) → Remains s.kind (channel (with_channel s.channels p q messages) a b) sent taken after wanted
      unchanged other = remains_as s.kind after wanted (sym (channel-other s.channels p q messages a b other)) refl refl remains

      here : (channels : Channels) → a ≡ p → b ≡ q → channel channels a b ≡ channel channels p q
      here channels sender recipient = ap (λ n. channel channels n b) sender ∙ ap (channel channels p) recipient

      changed : a ≡ p → b ≡ q → Remains s.kind (channel (with_channel s.channels p q messages) a b) sent taken after wanted
      changed sender recipient =
          remains_as s.kind after wanted (sym (here (with_channel s.channels p q messages) sender recipient
          ∙ channel-there s.channels p q messages has)) refl refl
          (kept sent taken after wanted (remains_as s.kind after wanted (here s.channels sender recipient) refl refl remains))

  -- such an event leaves the run behind
  behind_with : (program : Program) (g : SystemState) (traces lefts : ℕ → List Action) (transitions : ℕ → List Transition)
      → Ahead program s g traces lefts transitions → Ahead program (record s { channels = with_channel s.channels p q messages }) g traces lefts transitions
  behind_with program g traces lefts transitions ahead = record {
    kind = ahead.kind;
    worlds = ahead.worlds;
    messages = λ a b there_a there_b.
        remains_with a b (sent_to b (transitions a)) (taken_from a (transitions b)) (channel g.channels a b) (messages_from a (lefts b))
        (ahead.messages a b there_a there_b);
  }

-- A PROCESS MAKES A STEP

module _ (program : Program) (s g : SystemState) (traces lefts : ℕ → List Action)
    (transitions : ℕ → List Transition) (sound : IsSoundState program s) (ahead : Ahead program s g traces lefts transitions)
    (p : ℕ) (w : World) (at : at_number s.worlds p ≡ Some w) (r : Stepped) (channels : Channels) where
  -- where its transitions are at an end, the other run allows the step as well
  allows : (step : Step) → IsFetch s p step channels → step_asked w (lefts p) ≡ Some step → transitions p ≡ [] → AllowStep g p step
  allows Go fetch asks none = tt
  allows (Take k) fetch asks none = tt
  allows TimeOut fetch asks none = tt
  allows (Deliver m from time) (i, may, there, is) asks none =
      subst (λ (kind : ChannelKind). CanArrive kind (channel g.channels from p) (record { message = m; time = time })) ahead.kind
      (arrives_ahead s.kind (channel s.channels from p) (sent_to p (transitions from)) (channel g.channels from p) (messages_from from (lefts p)) i
      (record { message = m; time = time }) may there
      (asks_message w (lefts p) m from time asks)
      (remains_as s.kind (channel g.channels from p) (messages_from from (lefts p)) refl refl (ap (taken_from from) none)
      (ahead.messages from p (sender_there program s sound from p i (record { message = m; time = time }) there) (w, at))))

  module _ (step : Step) (others : List Transition) (begins : transitions p ≡ record { step = step; actions = r.actions } ∷ others) where
    abbrev next : ℕ → List Transition
    next = updated p others transitions

    taken_elsewhere : (a b : ℕ) → (b ≡ p → ⊥) → taken_from a (transitions b) ≡ taken_from a (next b)
    taken_elsewhere a b other = ap (taken_from a) (sym (updated-other p others transitions b other))

    taken_here : (a : ℕ) → taken_from a (transitions p) ≡ taken_by a step ++ taken_from a (next p)
    taken_here a = ap (taken_from a) begins ∙ ap (λ (ts : List Transition). taken_by a step ++ taken_from a ts) (sym (updated-there p others transitions))

    -- what remains after the fetch
    abbrev Fetched : ℕ → ℕ → Type 0
    Fetched a b = Remains s.kind (channel channels a b) (sent_to b (transitions a)) (taken_from a (next b)) (channel g.channels a b) (messages_from a (lefts b))

    -- where nothing was taken from
    unfetched : (a b : ℕ) → channel channels a b ≡ channel s.channels a b → (b ≡ p → taken_by a step ≡ []) → IsThere s a → IsThere s b → Fetched a b
    unfetched a b same none there_a there_b =
        remains_as s.kind (channel g.channels a b) (messages_from a (lefts b)) (sym same) refl (elim (cases_eq b p) [
          | inr other ↦ taken_elsewhere a b other
          | inl here ↦ ap (λ n. taken_from a (transitions n)) here ∙ taken_here a ∙ ap (λ (l : List MessageInFlight). l ++ taken_from a (next p)) (none here)
              ∙ ap (λ n. taken_from a (next n)) (sym here)
        ]) (ahead.messages a b there_a there_b)

  module _ (l : MessageInFlight) (from : ℕ) (others : List Transition)
      (begins : transitions p ≡ record { step = Deliver l.message from l.time; actions = r.actions } ∷ others)
      (i : ℕ) (may : may_arrive s.kind i ≡ true) (there : at_number (channel s.channels from p) i ≡ Some l)
      (is : channels ≡ without_message s.channels from p i) where
    abbrev delivery : Step
    delivery = Deliver l.message from l.time

    abbrev rest : List MessageInFlight
    rest = without_numbered (channel s.channels from p) i

    elsewhere : (a b : ℕ) → ((a ≡ from) × (b ≡ p) → ⊥) → channel channels a b ≡ channel s.channels a b
    elsewhere a b other = ap (λ (c : Channels). channel c a b) is ∙ channel-other s.channels from p rest a b other

    fetched_here : IsThere s from → Fetched delivery others begins from p
    fetched_here there_from =
        remains_as s.kind (channel g.channels from p) (messages_from from (lefts p))
        (sym (ap (λ (c : Channels). channel c from p) is ∙ channel-there s.channels from p rest (message_has s.channels from p i l there))) refl refl
        (behind_takes s.kind (channel s.channels from p) (sent_to p (transitions from)) (taken_from from (next delivery others begins p))
        (channel g.channels from p) (messages_from from (lefts p)) i l may there
        (remains_as s.kind (channel g.channels from p) (messages_from from (lefts p)) refl refl
        (taken_here delivery others begins from ∙ ap (λ (b : Bool). cond b (l ∷ []) [] ++ taken_from from (next delivery others begins p))
        (eq-eqb from from refl))
        (ahead.messages from p there_from (w, at))))

    fetched_one : (a b : ℕ) → IsThere s a → IsThere s b → Fetched delivery others begins a b
    fetched_one a b there_a there_b = elim (cases_eq b p) [
      | inr other ↦ unfetched delivery others begins a b (elsewhere a b (λ both. other both.1)) (λ here. absurd (other here)) there_a there_b
      | inl here ↦ elim (cases_eq a from) [
        | inr stranger ↦ unfetched delivery others begins a b (elsewhere a b (λ both. stranger both.0))
            (λ same. ap (λ (b : Bool). cond b (l ∷ []) []) (ne_eqb from a (λ e. stranger (sym e)))) there_a there_b
        | inl sender ↦ subst (λ n. Fetched delivery others begins a n) (sym here)
            (subst (λ n. Fetched delivery others begins n p) (sym sender) (fetched_here (subst (IsThere s) sender there_a)))
      ]
    ]

  fetched : (step : Step) (others : List Transition) → IsFetch s p step channels
      → (begins : transitions p ≡ record { step = step; actions = r.actions } ∷ others)
      → (a b : ℕ) → IsThere s a → IsThere s b → Fetched step others begins a b
  fetched Go others fetch begins a b there_a there_b = unfetched Go others begins a b (ap (λ (c : Channels). channel c a b) fetch)
      (λ here. refl) there_a there_b
  fetched (Take k) others fetch begins a b there_a there_b = unfetched (Take k) others begins a b (ap (λ (c : Channels). channel c a b) fetch)
      (λ here. refl) there_a there_b
  fetched TimeOut others fetch begins a b there_a there_b = unfetched TimeOut others begins a b (ap (λ (c : Channels). channel c a b) fetch)
      (λ here. refl) there_a there_b
  fetched (Deliver m from time) others (i, may, there, is) begins a b there_a there_b = fetched_one
      (record { message = m; time = time }) from others begins i may there is a b there_a there_b

  fetch_has : (step : Step) → IsFetch s p step channels → (a b : ℕ) → HasChannel s.channels a b → HasChannel channels a b
  fetch_has Go fetch a b has = subst (λ (c : Channels). HasChannel c a b) (sym fetch) has
  fetch_has (Take k) fetch a b has = subst (λ (c : Channels). HasChannel c a b) (sym fetch) has
  fetch_has TimeOut fetch a b has = subst (λ (c : Channels). HasChannel c a b) (sym fetch) has
  fetch_has (Deliver m from time) (i, may, there, is) a b has = subst (λ (c : Channels). HasChannel c a b) (sym is)
      (has-with s.channels from p (without_numbered (channel s.channels from p) i) a b has)

  was_there : (a : ℕ) → IsThere (after_step s p channels r) a → IsThere s a
  was_there a (v, there) = put_was s.worlds a p r.world v there

  module _ (step : Step) (others : List Transition) (fetch : IsFetch s p step channels)
      (begins : transitions p ≡ record { step = step; actions = r.actions } ∷ others) (own : AreOwn p r.actions) where
    abbrev then : ℕ → List Transition
    then = updated p others transitions

    -- what remains after the step
    abbrev Remained : ℕ → ℕ → Type 0
    Remained a b = Remains s.kind (channel (after_actions channels r.actions) a b) (sent_to b (then a)) (taken_from a (then b)) (channel g.channels a b)
        (messages_from a (lefts b))

    remained_from : (b : ℕ) → IsThere s p → IsThere s b → Remained p b
    remained_from b there_p there_b =
        remains_as s.kind (channel g.channels p b) (messages_from p (lefts b))
        (sym (channel-sent channels r.actions p b own (fetch_has step fetch p b (channel_between program s sound p b there_p there_b))))
        (ap (sent_to b) (sym (updated-there p others transitions))) refl
        (behind_sends s.kind (channel channels p b) (messages_to b r.actions) (sent_to b others) (taken_from p (then b)) (channel g.channels p b)
        (messages_from p (lefts b))
        (remains_as s.kind (channel g.channels p b) (messages_from p (lefts b)) refl (ap (sent_to b) begins) refl
        (fetched step others fetch begins p b there_p there_b)))

    remained : (a b : ℕ) → IsThere s a → IsThere s b → Remained a b
    remained a b there_a there_b = elim (cases_eq a p) [
      | inr other ↦ remains_as s.kind (channel g.channels a b) (messages_from a (lefts b)) (sym (channel-unsent channels r.actions p a b own other))
          (ap (sent_to b) (sym (updated-other p others transitions a other))) refl
          (fetched step others fetch begins a b there_a there_b)
      | inl same ↦ subst (λ n. Remained n b) (sym same) (remained_from b (subst (IsThere s) same there_a) there_b)
    ]

    -- the step is one of those that the other run is ahead by, so this run stays behind
    behind_step : (traces' : ℕ → List Action) (w' : World) → at_number g.worlds p ≡ Some w' → Leads program r.world (traces' p) others w' (lefts p)
        → ((q : ℕ) → (q ≡ p → ⊥) → traces q ≡ traces' q) → Ahead program (after_step s p channels r) g traces' lefts then
    behind_step traces' w' there_ahead leads same = record {
      kind = ahead.kind;
      worlds = λ q v there. elim (cases_eq q p) [
        | inr other ↦ elsewhere_leads q v other (ahead.worlds q v (sym (put_other s.worlds q p r.world other) ∙ there))
        | inl here ↦ here_leads q v here there
      ];
      messages = λ a b there_a there_b. remained a b (was_there a there_a) (was_there b there_b);
    }
      where
        elsewhere_leads : (q : ℕ) (v : World) → (q ≡ p → ⊥) → (v' : World) × (at_number g.worlds q ≡ Some v') × Leads program v (traces q) (transitions q) v'
            (lefts q)
            → (v' : World) × (at_number g.worlds q ≡ Some v') × Leads program v (traces' q) (then q) v' (lefts q)
        elsewhere_leads q v other (v', there', leads') = (
          v',
          there',
          subst (λ (ts : List Transition). Leads program v (traces' q) ts v' (lefts q)) (sym (updated-other p others transitions q other))
              (subst (λ (t : List Action). Leads program v t (transitions q) v' (lefts q)) (same q other) leads'),
        )

        here_leads : (q : ℕ) (v : World) → q ≡ p → at_number (put_numbered s.worlds p r.world) q ≡ Some v
            → (v' : World) × (at_number g.worlds q ≡ Some v') × Leads program v (traces' q) (then q) v' (lefts q)
        here_leads q v here there =
            let equal : Some v ≡ Some r.world = sym there ∙ ap (at_number (put_numbered s.worlds p r.world)) here ∙ put_there s.worlds p r.world w at in
            let worlds : v ≡ r.world = cc in (
              w',
              ap (at_number g.worlds) here ∙ there_ahead,
              subst (λ n. Leads program v (traces' n) (then n) w' (lefts n)) (sym here)
                  (subst (λ (ts : List Transition). Leads program v (traces' p) ts w' (lefts p)) (sym (updated-there p others transitions))
                  (subst (λ (x : World). Leads program x (traces' p) others w' (lefts p)) (sym worlds) leads)),
            )

-- AN EVENT of the run that is behind, where the other one is stuck

abbrev pub to_come : List Action → (ℕ → List Action) → ℕ → List Action
to_come actions ends p = part p actions ++ ends p

module _ (program : Program) (s g : SystemState) (others : List Action)
    (ends lefts : ℕ → List Action) (sound : IsSoundState program s) (stuck : IsStuck program g lefts) where
  abbrev StaysBehind : AfterEvent → Type 0
  StaysBehind after = (transitions : ℕ → List Transition) × Ahead program after.state g (to_come others ends) lefts transitions

  module _ (transitions : ℕ → List Transition) (p : ℕ) (w : World) (step : Step) (r : Stepped) (channels : Channels) (at : at_number s.worlds p ≡ Some w)
      (makes : proc_step program w step ≡ Some r) (fetch : IsFetch s p step channels)
      (ahead : Ahead program s g (to_come (r.actions ++ others) ends) lefts transitions) where
    own : AreOwn p r.actions
    own = subst (λ n. AreOwn n r.actions) (sound.numbers p w at) (step_told program w step r makes).own

    abbrev trace : List Action
    trace = to_come (r.actions ++ others) ends p

    follows : Follows program w trace step r (to_come others ends p)
    follows =
        let is : to_come (r.actions ++ others) ends p ≡ r.actions ++ to_come others ends p = ap (λ (l : List Action). l ++ ends p)
        (part-own p r.actions others own) ∙ append_assoc r.actions (part p others) (ends p) in
        record { asks = ap (step_asked w) is ∙ (step_told program w step r makes).asks (to_come others ends p); makes = makes; tells = is }

    same_others : (q : ℕ) → (q ≡ p → ⊥) → to_come (r.actions ++ others) ends q ≡ to_come others ends q
    same_others q other = ap (λ (l : List Action). l ++ ends q) (part-other q p r.actions others own other)

    step_behind : (w' : World) → at_number g.worlds p ≡ Some w' → BeginsWithStep program w trace (transitions p) w' (lefts p) step r (to_come others ends p)
        → StaysBehind (record { state = after_step s p channels r; actions = r.actions })
    step_behind w' there (inl (none, worlds, traces)) = absurd
        (stuck p w' step r (to_come others ends p) there
        (subst (λ (t : List Action). Follows program w' t step r (to_come others ends p)) traces
        (subst (λ (x : World). Follows program x trace step r (to_come others ends p)) worlds follows))
        (allows program s g (to_come (r.actions ++ others) ends) lefts transitions sound ahead p w at r channels step fetch (ap (step_asked w) (sym traces)
        ∙ follows.asks) none))
    step_behind w' there (inr (rest, begins, leads)) = (
      updated p rest transitions,
      behind_step program s g (to_come
          (r.actions ++ others) ends) lefts transitions sound ahead p w at r channels step rest fetch begins own
          (to_come others ends) w' there leads same_others,
    )

  pub event_behind : (after : AfterEvent) (transitions : ℕ → List Transition) → Happens program s after
      → Ahead program s g (to_come (after.actions ++ others) ends) lefts transitions → StaysBehind after
  event_behind after transitions (acts p w step r channels at makes fetch is) ahead =
      let before : Ahead program s g (to_come (r.actions ++ others) ends) lefts transitions = subst
      (λ (x : AfterEvent). Ahead program s g (to_come (x.actions ++ others) ends) lefts transitions) (sym is) ahead in
      let (w', there, leads) = before.worlds p w at in
      subst StaysBehind is (step_behind transitions p w step r channels at makes fetch before w' there
      (first_transition leads (follows transitions p w step r channels at makes fetch before)))
  event_behind after transitions (loses p q i l may there is) ahead =
      let before : Ahead program s g (to_come (Lost p q l.time ∷ others) ends) lefts transitions = subst
      (λ (x : AfterEvent). Ahead program s g (to_come (x.actions ++ others) ends) lefts transitions) (sym is) ahead in
      subst StaysBehind is (
        transitions,
        behind_with s p q (without_numbered (channel s.channels p q) i) (message_has s.channels p q i l there)
            (λ sent taken later wanted. behind_loses s.kind (channel s.channels p q) sent taken later wanted i l may there) program g
            (to_come others ends) lefts transitions before,
      )
  event_behind after transitions (doubles p q i l may there is) ahead =
      let before : Ahead program s g (to_come (Again p q l.time ∷ others) ends) lefts transitions = subst
      (λ (x : AfterEvent). Ahead program s g (to_come (x.actions ++ others) ends) lefts transitions) (sym is) ahead in
      subst StaysBehind is (
        transitions,
        behind_with s p q (channel s.channels p q ++ l ∷ []) (message_has s.channels p q i l there)
            (λ sent taken later wanted. behind_doubles s.kind (channel s.channels p q) sent taken later wanted i l may there) program g
            (to_come others ends) lefts transitions before,
      )

-- A RUN

-- what is left of each trace after the other run is left after this one too
abbrev pub LeavesMore : SystemState → (ends lefts : ℕ → List Action) → Type 0
LeavesMore s ends lefts = (p : ℕ) → IsThere s p → (front : List Action) × (ends p ≡ front ++ lefts p)

module _ (program : Program) (accepted : IsAccepted program) (g : SystemState) (ends lefts : ℕ → List Action) (stuck : IsStuck program g lefts) where
  abbrev Behind : SystemState → SrcRun → Type 0
  Behind s run = (transitions : ℕ → List Transition) → IsSoundState program s → Ahead program s g (to_come run.actions ends) lefts transitions
      → run.stop ≡ None → LeavesMore s ends lefts

  by_event : (i : ℕ) (s : SystemState) (e : Event) (step : Option AfterEvent) (run : SystemState → SrcRun) → IsPlain e → sys_step program s e ≡ step
      → ((after : AfterEvent) → Behind after.state (run after.state)) → Behind s (at_event i s step run)
  by_event i s e None run plain is others transitions sound ahead whole = none_there (sym whole)
  by_event i s e (Some after) run plain is others transitions sound ahead whole =
      let event : Happens program s after = happens program s after e plain is in
      let (transitions', ahead') = event_behind program s g (run after.state).actions ends lefts sound stuck after transitions event ahead in
      λ p there. others after transitions' (sound_then program accepted s e after sound is) ahead' whole p (stays_there program s after event p there)

  -- HOWEVER EVENTS ARE CHOSEN, no process gets further along its trace than in a run that is stuck
  pub run_behind : (i : ℕ) (s : SystemState) (events : List Event) → AllByRecursion IsPlain events → Behind s (src_run_from program i s events)
  run_behind i s [] plains = λ transitions sound ahead whole p there. leads_within (ahead.worlds p there.0 there.1).2
  run_behind i s (e ∷ events) plains = by_event i s e (sys_step program s e) (λ next. src_run_from program (i + 1) next events) plains.0 refl
      (λ after. run_behind (i + 1) after.state events plains.1)

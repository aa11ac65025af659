-- The run that is ahead goes on along the traces, and stays ahead.
use Rattle.std.specs.Prelude.{◌≡◌, ℕ, Bool, cond, List, [], ◌∷◌, ◌++◌, Some, refl}
use Rattle.std.specs.List.{flat_map}
use Rattle.std.proofs.Common.{sym, ap, ◌∙◌, subst, inl, inr, append_assoc, append-nil}
use Rattle.std.proofs.lemmas.Bool.{cases_eq, eq-eqb, ne_eqb}
use Rattle.da_values.specs.Sets.{Has}
use Rattle.da_values.proofs.Members.{Has-append_right}
use Rattle.da_lang.specs.declared.event.Action.{Action}
use Rattle.da_lang.specs.declared.program.Program.{Program}
use Rattle.da_lang.specs.declared.ty.ChannelKind.{ChannelKind}
use Rattle.da_lang.specs.Steps.{Deliver, Go, Step, Stepped, Take, TimeOut}
use Rattle.da_lang.specs.World.{World, at_number}
use Rattle.da_system.specs.Channels.{Channels, MessageInFlight, after_actions, channel, put_numbered}
use Rattle.da_system.specs.SystemStep.{SystemState}
use Rattle.trace_join.specs.Cuts.{Follows, Leads, Transition, sent_to, stays, taken_by, taken_from}
use Rattle.trace_join.specs.Remains.{Ahead, IsThere, Remains}
use Rattle.trace_join.specs.Traces.{message_from, messages_from, messages_to}
use Rattle.trace_join.proofs.ChannelLaws.{AreOwn, HasChannel, channel-sent, channel-unsent, put_other, put_there}
use Rattle.trace_join.proofs.DeliveryLaws.{Elsewhere}
use Rattle.trace_join.proofs.EventLaws.{after_step}
use Rattle.trace_join.proofs.LeadLaws.{leads_on}
use Rattle.trace_join.proofs.RemainsLaws.{Serves, ahead_sends, ahead_takes, ahead_wants, remains_all, remains_as}
use Rattle.trace_join.proofs.Updates.{updated, updated-other, updated-there}

flat_map-append : {A B : Type 0} (f : A → List B) (xs ys : List A) → flat_map f (xs ++ ys) ≡ flat_map f xs ++ flat_map f ys
flat_map-append f [] ys = refl
flat_map-append f (x ∷ xs) ys = ap (λ (l : List _). f x ++ l) (flat_map-append f xs ys) ∙ sym (append_assoc (f x) (flat_map f xs) (flat_map f ys))

-- one transition more sends and takes what it sends and takes
sent-more : (q : ℕ) (transitions : List Transition) (t : Transition) → sent_to q (transitions ++ t ∷ []) ≡ sent_to q transitions ++ messages_to q t.actions
sent-more q transitions t =
    flat_map-append (λ (x : Transition). messages_to q x.actions) transitions (t ∷ [])
    ∙ ap (λ (l : List MessageInFlight). sent_to q transitions ++ l) (append-nil (messages_to q t.actions))

taken-more : (p : ℕ) (transitions : List Transition) (t : Transition) → taken_from p (transitions ++ t ∷ []) ≡ taken_from p transitions ++ taken_by p t.step
taken-more p transitions t =
    flat_map-append (λ (x : Transition). taken_by p x.step) transitions (t ∷ [])
    ∙ ap (λ (l : List MessageInFlight). taken_from p transitions ++ l) (append-nil (taken_by p t.step))

-- the channels after the fetch of a step of process p, of whose trace this is left then
abbrev pub IsServed : SystemState → ℕ → Step → List Action → Channels → Type 0
IsServed g p (Deliver m from time) left channels =
    Serves g.kind (channel g.channels from p) (record { message = m; time = time }) (messages_from from left) (channel channels from p)
    × Elsewhere from p g.channels channels
IsServed g p _ left channels = channels ≡ g.channels

module _ (program : Program) (s g : SystemState) (traces lefts : ℕ → List Action)
    (transitions : ℕ → List Transition) (ahead : Ahead program s g traces lefts transitions)
    (p : ℕ) (w : World) (at : at_number g.worlds p ≡ Some w) (left : List Action) (channels : Channels) where
  abbrev lefts' : ℕ → List Action
  lefts' = updated p left lefts

  module _ (r : Stepped) (is : lefts p ≡ r.actions ++ left) where
    wants_less : (a b : ℕ) (l : MessageInFlight) → Has (messages_from a (lefts' b)) l → Has (messages_from a (lefts b)) l
    wants_less a b l has = elim (cases_eq b p) [
      | inr other ↦ subst (λ (t : List Action). Has (messages_from a t) l) (updated-other p left lefts b other) has
      | inl same ↦ subst (λ (t : List Action). Has (messages_from a t) l) (sym is ∙ ap lefts (sym same))
          (subst (λ (ls : List MessageInFlight). Has ls l) (sym (flat_map-append (message_from a) r.actions left))
          (Has-append_right (messages_from a r.actions) (messages_from a left) l
          (subst (λ (t : List Action). Has (messages_from a t) l) (ap lefts' same ∙ updated-there p left lefts) has)))
    ]

    before : (a b : ℕ) → IsThere s a → IsThere s b
        → Remains s.kind (channel s.channels a b) (sent_to b (transitions a)) (taken_from a (transitions b)) (channel g.channels a b)
        (messages_from a (lefts' b))
    before a b there_a there_b =
        ahead_wants s.kind (channel s.channels a b) (sent_to b (transitions a)) (taken_from a (transitions b)) (channel g.channels a b)
        (messages_from a (lefts b)) (messages_from a (lefts' b))
        (wants_less a b) (ahead.messages a b there_a there_b)

    module _ (step : Step) where
      abbrev longer : List Transition
      longer = transitions p ++ record { step = step; actions = r.actions } ∷ []

      abbrev transitions' : ℕ → List Transition
      transitions' = updated p longer transitions

      -- what remains after the fetch
      abbrev Fetched : ℕ → ℕ → Type 0
      Fetched a b = Remains s.kind (channel s.channels a b) (sent_to b (transitions a)) (taken_from a (transitions' b)) (channel channels a b)
          (messages_from a (lefts' b))

      taken_then : (a : ℕ) → taken_from a (transitions' p) ≡ taken_from a (transitions p) ++ taken_by a step
      taken_then a = ap (taken_from a) (updated-there p longer transitions) ∙ taken-more a (transitions p) (record { step = step; actions = r.actions })

      -- where the step takes nothing from there
      fetched_none : (a b : ℕ) → channel channels a b ≡ channel g.channels a b → (b ≡ p → taken_by a step ≡ []) → IsThere s a → IsThere s b → Fetched a b
      fetched_none a b same none there_a there_b =
          subst (λ (l : List MessageInFlight). Remains s.kind (channel s.channels a b) (sent_to b (transitions a)) (taken_from a (transitions' b)) l
          (messages_from a (lefts' b))) (sym same)
          (remains_as s.kind (channel g.channels a b) (messages_from a (lefts' b)) refl refl (elim (cases_eq b p) [
            | inr other ↦ ap (taken_from a) (sym (updated-other p longer transitions b other))
            | inl here ↦ ap (λ n. taken_from a (transitions n)) here ∙ sym (append-nil (taken_from a (transitions p)))
                ∙ ap (λ (l : List MessageInFlight). taken_from a (transitions p) ++ l) (sym (none here)) ∙ sym (taken_then a)
                ∙ ap (λ n. taken_from a (transitions' n)) (sym here)
          ]) (before a b there_a there_b))

    module _ (l : MessageInFlight) (from : ℕ) (served : IsServed g p (Deliver l.message from l.time) left channels) where
      abbrev delivery : Step
      delivery = Deliver l.message from l.time

      taken_one : taken_by from delivery ≡ l ∷ []
      taken_one = ap (λ (b : Bool). cond b (l ∷ []) []) (eq-eqb from from refl)

      taken_none : (a : ℕ) → (a ≡ from → ⊥) → taken_by a delivery ≡ []
      taken_none a other = ap (λ (b : Bool). cond b (l ∷ []) []) (ne_eqb from a (λ same. other (sym same)))

      fetched_here : IsThere s from → IsThere s p → Fetched delivery from p
      fetched_here there_from there_p =
          remains_as s.kind (channel channels from p) (messages_from from (lefts' p)) refl refl
          (ap (λ (ls : List MessageInFlight). taken_from from (transitions p) ++ ls) (sym taken_one) ∙ sym (taken_then delivery from))
          (ahead_takes s.kind (channel s.channels from p) (sent_to p (transitions from)) (taken_from from (transitions p)) (channel g.channels from p)
          (messages_from from (lefts' p)) l (channel channels from p)
          (subst (λ (t : List Action). Serves s.kind (channel g.channels from p) l (messages_from from t) (channel channels from p))
          (sym (updated-there p left lefts))
          (subst (λ (k : ChannelKind). Serves k (channel g.channels from p) l (messages_from from left) (channel channels from p)) (sym ahead.kind) served.0))
          (before from p there_from there_p))

      fetched_one : (a b : ℕ) → IsThere s a → IsThere s b → Fetched delivery a b
      fetched_one a b there_a there_b = elim (cases_eq b p) [
        | inr other ↦ fetched_none delivery a b (served.1 a b (λ both. other both.1)) (λ here. absurd (other here)) there_a there_b
        | inl here ↦ elim (cases_eq a from) [
          | inr stranger ↦ fetched_none delivery a b (served.1 a b (λ both. stranger both.0)) (λ same. taken_none a stranger) there_a there_b
          | inl sender ↦ subst (λ n. Fetched delivery a n) (sym here) (subst (λ n. Fetched delivery n p) (sym sender)
              (fetched_here (subst (IsThere s) sender there_a) (subst (IsThere s) here there_b)))
        ]
      ]

    fetched : (step : Step) → IsServed g p step left channels → (a b : ℕ) → IsThere s a → IsThere s b → Fetched step a b
    fetched Go served a b there_a there_b = fetched_none Go a b (ap (λ (c : Channels). channel c a b) served) (λ here. refl) there_a there_b
    fetched (Take k) served a b there_a there_b = fetched_none (Take k) a b (ap (λ (c : Channels). channel c a b) served) (λ here. refl) there_a there_b
    fetched TimeOut served a b there_a there_b = fetched_none TimeOut a b (ap (λ (c : Channels). channel c a b) served) (λ here. refl) there_a there_b
    fetched (Deliver m from time) served a b there_a there_b = fetched_one (record { message = m; time = time }) from served a b there_a there_b

  module _ (step : Step) (r : Stepped) (follows : Follows program w (lefts p) step r left) (served : IsServed g p step left channels) (own : AreOwn p r.actions)
      (has : (a b : ℕ) → IsThere g a → IsThere g b → HasChannel channels a b) where
    abbrev one_more : List Transition
    one_more = transitions p ++ record { step = step; actions = r.actions } ∷ []

    abbrev now : ℕ → List Transition
    now = updated p one_more transitions

    -- what remains after the step
    abbrev Remained : ℕ → ℕ → Type 0
    Remained a b = Remains s.kind (channel s.channels a b) (sent_to b (now a)) (taken_from a (now b)) (channel (after_actions channels r.actions) a b)
        (messages_from a (lefts' b))

    there_ahead : (a : ℕ) → IsThere s a → IsThere g a
    there_ahead a (v, there) = let (v', there', leads) = ahead.worlds a v there in (v', there')

    from_sender : (b : ℕ) → IsThere s p → IsThere s b → Remained p b
    from_sender b there_p there_b =
        subst (λ (l : List MessageInFlight). Remains s.kind (channel s.channels p b) (sent_to b (now p)) (taken_from p (now b)) l (messages_from p (lefts' b)))
        (sym (channel-sent channels r.actions p b own (has p b (w, at) (there_ahead b there_b))))
        (remains_as s.kind (channel channels p b ++ messages_to b r.actions) (messages_from p (lefts' b)) refl
        (sym (sent-more b (transitions p) (record { step = step; actions = r.actions })) ∙ ap (sent_to b) (sym (updated-there p one_more transitions))) refl
        (ahead_sends s.kind (channel s.channels p b) (sent_to b (transitions p)) (messages_to b r.actions) (taken_from p (now b)) (channel channels p b)
        (messages_from p (lefts' b))
        (fetched r follows.tells step served p b there_p there_b)))

    from_others : (a b : ℕ) → (a ≡ p → ⊥) → IsThere s a → IsThere s b → Remained a b
    from_others a b other there_a there_b =
        subst (λ (l : List MessageInFlight). Remains s.kind (channel s.channels a b) (sent_to b (now a)) (taken_from a (now b)) l (messages_from a (lefts' b)))
        (sym (channel-unsent channels r.actions p a b own other))
        (remains_as s.kind (channel channels a b) (messages_from a (lefts' b)) refl (ap (sent_to b) (sym (updated-other p one_more transitions a other))) refl
        (fetched r follows.tells step served a b there_a there_b))

    abbrev IsReached : ℕ → World → Type 0
    IsReached q v = (v' : World) × (at_number (put_numbered g.worlds p r.world) q ≡ Some v') × Leads program v (traces q) (now q) v' (lefts' q)

    reached : (q : ℕ) (v : World) → (v' : World) × (at_number g.worlds q ≡ Some v') × Leads program v (traces q) (transitions q) v' (lefts q) → IsReached q v
    reached q v (v', there, leads) = elim (cases_eq q p) [
      | inr other ↦ (
        v',
        put_other g.worlds q p r.world other ∙ there,
        subst (λ (ts : List Transition). Leads program v (traces q) ts v' (lefts' q)) (sym (updated-other p one_more transitions q other))
            (subst (λ (t : List Action). Leads program v (traces q) (transitions q) v' t) (sym (updated-other p left lefts q other)) leads),
      )
      | inl same ↦ (
        r.world,
        ap (at_number (put_numbered g.worlds p r.world)) same ∙ put_there g.worlds p r.world w at,
        subst (λ n. Leads program v (traces q) (now n) r.world (lefts' n)) (sym same)
            (subst (λ (ts : List Transition). Leads program v (traces q) ts r.world (lefts' p)) (sym (updated-there p one_more transitions))
            (subst (λ (t : List Action). Leads program v (traces q) one_more r.world t) (sym (updated-there p left lefts))
            (leads_on
            (subst (λ (x : World). Leads program v (traces q) (transitions p) x (lefts p)) (let equal : Some v' ≡ Some w = sym there
            ∙ ap (at_number g.worlds) same ∙ at in let worlds : v' ≡ w = cc in worlds)
            (subst (λ n. Leads program v (traces q) (transitions n) v' (lefts n)) same leads)) follows))),
      )
    ]

    pub ahead_goes : Ahead program s (after_step g p channels r) traces (updated p left lefts)
        (updated p (transitions p ++ record { step = step; actions = r.actions } ∷ []) transitions)
    ahead_goes = record {
      kind = ahead.kind;
      worlds = λ q v there. reached q v (ahead.worlds q v there);
      messages = λ a b there_a there_b. elim (cases_eq a p) [
        | inr other ↦ from_others a b other there_a there_b
        | inl same ↦ subst (λ n. Remained n b) (sym same) (from_sender b (subst (IsThere s) same there_a) there_b)
      ];
    }

-- at the opening nothing was done
pub ahead_opens : (program : Program) (s : SystemState) (traces : ℕ → List Action) → Ahead program s s traces traces (λ p. [])
ahead_opens program s traces = record {
  kind = refl;
  worlds = λ p w there. (w, there, stays w (traces p));
  messages = λ p q there_p there_q. remains_all s.kind (channel s.channels p q) (messages_from p (traces q));
}

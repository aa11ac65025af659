-- How far a join has come: what holds at the opening, after each step along the traces, and where no process can go on.
use Rattle.std.specs.Prelude.{◌≡◌, ◌⊎◌, ℕ, zero, suc, Bool, true, false, cond, List, [], ◌∷◌, ◌++◌, Some, refl}
use Rattle.std.proofs.Common.{sym, ap, ◌∙◌, subst, inl, inr, append_assoc, append-nil}
use Rattle.std.proofs.lemmas.Bool.{cases_eq}
use Rattle.da_values.specs.Value.{val_of}
use Rattle.da_values.specs.Sets.{Has}
use Rattle.da_lang.specs.declared.event.Action.{Action}
use Rattle.da_lang.specs.declared.event.Action.TheVariants.{Got, Took}
use Rattle.da_lang.specs.declared.event.Event.{Event}
use Rattle.da_lang.specs.declared.event.Event.TheVariants as event
use Rattle.da_lang.specs.declared.program.Program.{Program}
use Rattle.da_lang.specs.declared.ty.ChannelKind.{ChannelKind}
use Rattle.da_lang.specs.declared.ty.ChannelKind.TheVariants.{FifoReliable, UnorderedReliable, FifoUnreliable, UnorderedUnreliable}
use Rattle.da_lang.specs.Accepted.{IsAccepted}
use Rattle.da_lang.specs.Shaped.{IsEntry}
use Rattle.da_lang.specs.Steps.{Deliver, Go, Step, Stepped, Take, TimeOut, proc_step}
use Rattle.da_lang.specs.World.{World, at_number}
use Rattle.da_system.specs.Channels.{Channels, MessageInFlight, channel, or_empty}
use Rattle.da_system.specs.SoundState.{IsSoundState}
use Rattle.da_system.specs.SystemStep.{SystemState, start}
use Rattle.trace_join.specs.Cuts.{AsksInVain, Follows, IsOver, awaits, is_timeout, move_asked, step_asked}
use Rattle.trace_join.specs.Progress.{Came, Exhausts, Reaches, moves, rests, took_event, trace_of}
use Rattle.trace_join.specs.Remains.{AllowStep, CanArrive, IsStuck, IsThere}
use Rattle.trace_join.specs.Traces.{messages_from, part}
use Rattle.trace_join.proofs.AheadLaws.{IsServed, ahead_goes, ahead_opens}
use Rattle.trace_join.proofs.ChannelLaws.{AreOwn, HasChannel, channel_between, message_lawful, sender_there}
use Rattle.trace_join.proofs.DeliveryLaws.{Fetching, Untold, reaches-actions, reaches-plain, reaches-whole, reaches_by, reaches_on}
use Rattle.trace_join.proofs.EventLaws.{after_step, moves_by, part-append, part-other, part-own}
use Rattle.trace_join.proofs.RemainsLaws.{Serves}
use Rattle.trace_join.proofs.SoundRuns.{sound_opening, sound_then}
use Rattle.trace_join.proofs.StepLaws.{step_told}
use Rattle.trace_join.proofs.Sublists.{number_of}
use Rattle.trace_join.proofs.Updates.{updated, updated-other, updated-there}

module _ (program : Program) (accepted : IsAccepted program) where
  reaches_sound : {s s' : SystemState} {events : List Event} {actions : List Action} → Reaches program s events s' actions → IsSoundState program s
      → IsSoundState program s'
  reaches_sound (rests s) sound = sound
  reaches_sound (moves s s' e events after actions plain is others) sound = reaches_sound others (sound_then program accepted s e after sound is)

  -- the state is sound
  pub came_sound : {traces : List (List Action)} {events : List Event} {g : SystemState} {lefts : ℕ → List Action} → Came program traces events g lefts
      → IsSoundState program g
  came_sound came = reaches_sound came.reaches (sound_opening program accepted)

-- BEFORE ANY EVENT

pub came_opens : (program : Program) (traces : List (List Action)) → Came program traces [] (start program) (trace_of traces)
came_opens program traces = record {
  actions = [];
  transitions = λ p. [];
  reaches = rests (start program);
  told = λ p trace at. ap or_empty (sym at);
  ahead = ahead_opens program (start program) (trace_of traces);
}

-- ONE PROCESS GOES ON

pub can_has : (kind : ChannelKind) (messages : List MessageInFlight) (l : MessageInFlight) → CanArrive kind messages l → Has messages l
can_has FifoReliable messages l (rest, is) = subst (λ (ls : List MessageInFlight). Has ls l) (sym is) (inl refl)
can_has UnorderedReliable messages l has = has
can_has FifoUnreliable messages l has = has
can_has UnorderedUnreliable messages l has = has

module _ (program : Program) (accepted : IsAccepted program) {traces : List (List Action)} {events : List Event} {g : SystemState} {lefts : ℕ → List Action}
    (came : Came program traces events g lefts) (p : ℕ) (w : World) (at : at_number g.worlds p ≡ Some w) where
  -- what a step tells is of its process
  pub goes_own : (step : Step) (r : Stepped) → proc_step program w step ≡ Some r → AreOwn p r.actions
  goes_own step r makes = subst (λ n. AreOwn n r.actions) ((came_sound program accepted came).numbers p w at) (step_told program w step r makes).own

  pub has_channels : (a b : ℕ) → IsThere g a → IsThere g b → HasChannel g.channels a b
  has_channels a b there_a there_b = channel_between program g (came_sound program accepted came) a b there_a there_b

  came_on : (step : Step) (r : Stepped) (left : List Action) (channels : Channels) (new : List Event) (before : List Action)
      → Follows program w (lefts p) step r left → IsServed g p step left channels → ((a b : ℕ) → IsThere g a → IsThere g b → HasChannel channels a b)
      → Untold before
      → Reaches program g new (after_step g p channels r) (before ++ r.actions)
      → Came program traces (events ++ new) (after_step g p channels r) (updated p left lefts)
  came_on step r left channels new before follows served has untold reaches = record {
    actions = came.actions ++ (before ++ r.actions);
    transitions = updated p (came.transitions p ++ record { step = step; actions = r.actions } ∷ []) came.transitions;
    reaches = reaches_on came.reaches reaches;
    told = λ q trace there. told q trace (came.told q trace there);
    ahead = ahead_goes program (start program) g (trace_of traces) lefts came.transitions came.ahead p w at left channels step r follows served own has;
  }
    where
      own : AreOwn p r.actions
      own = goes_own step r follows.makes

      part_then : (q : ℕ) → part q (came.actions ++ (before ++ r.actions)) ≡ part q came.actions ++ part q r.actions
      part_then q =
          part-append q came.actions (before ++ r.actions)
          ∙ ap (λ (l : List Action). part q came.actions ++ l) (part-append q before r.actions ∙ ap (λ (l : List Action). l ++ part q r.actions) (untold q))

      mine : part p r.actions ≡ r.actions
      mine = ap (part p) (sym (append-nil r.actions)) ∙ part-own p r.actions [] own ∙ append-nil r.actions

      theirs : (q : ℕ) → (q ≡ p → ⊥) → part q r.actions ≡ []
      theirs q other = ap (part q) (sym (append-nil r.actions)) ∙ part-other q p r.actions [] own other

      -- what was left of each trace is what was told now and what is left
      goes : (q : ℕ) → lefts q ≡ part q r.actions ++ updated p left lefts q
      goes q = elim (cases_eq q p) [
        | inl same ↦ subst (λ n. lefts n ≡ part n r.actions ++ updated p left lefts n) (sym same)
            (follows.tells ∙ ap (λ (l : List Action). l ++ left) (sym mine)
            ∙ ap (λ (l : List Action). part p r.actions ++ l) (sym (updated-there p left lefts)))
        | inr other ↦ sym (updated-other p left lefts q other) ∙ ap (λ (l : List Action). l ++ updated p left lefts q) (sym (theirs q other))
      ]

      told : (q : ℕ) (trace : List Action) → trace ≡ part q came.actions ++ lefts q
          → trace ≡ part q (came.actions ++ (before ++ r.actions)) ++ updated p left lefts q
      told q trace is =
          is ∙ ap (λ (l : List Action). part q came.actions ++ l) (goes q)
          ∙ sym (append_assoc (part q came.actions) (part q r.actions) (updated p left lefts q))
          ∙ ap (λ (l : List Action). l ++ updated p left lefts q) (sym (part_then q))

  -- by a move
  pub came_moves : (r : Stepped) (left : List Action) → Follows program w (lefts p) Go r left
      → Came program traces (events ++ event.Move p ∷ []) (after_step g p g.channels r) (updated p left lefts)
  came_moves r left follows = came_on Go r left g.channels (event.Move p ∷ []) [] follows refl has_channels (λ q. refl)
      (reaches_by program g (event.Move p) (record { state = after_step g p g.channels r; actions = r.actions }) tt
      (moves_by program g p w r at Go follows.makes))

  -- by an alternative
  pub came_takes : (k : ℕ) (r : Stepped) (left : List Action) → Follows program w (lefts p) (Take k) r left
      → Came program traces (events ++ event.Take p k ∷ []) (after_step g p g.channels r) (updated p left lefts)
  came_takes k r left follows = came_on (Take k) r left g.channels (event.Take p k ∷ []) [] follows refl has_channels (λ q. refl)
      (reaches_by program g (event.Take p k) (record { state = after_step g p g.channels r; actions = r.actions }) tt
      (moves_by program g p w r at (Take k) follows.makes))

  -- by a timeout
  pub came_times_out : (r : Stepped) (left : List Action) → Follows program w (lefts p) TimeOut r left
      → Came program traces (events ++ event.Timeout p ∷ []) (after_step g p g.channels r) (updated p left lefts)
  came_times_out r left follows = came_on TimeOut r left g.channels (event.Timeout p ∷ []) [] follows refl has_channels (λ q. refl)
      (reaches_by program g (event.Timeout p) (record { state = after_step g p g.channels r; actions = r.actions }) tt
      (moves_by program g p w r at TimeOut follows.makes))

  -- by whichever of them its trace asks for with `took`
  pub came_took : (q k : ℕ) (others : List Action) (step : Step) (r : Stepped) (left : List Action) → lefts p ≡ Took q k ∷ others
      → Follows program w (lefts p) step r left
      → Came program traces (events ++ took_event p k (is_timeout step) ∷ []) (after_step g p g.channels r) (updated p left lefts)
  came_took q k others step r left asks follows = subst Goal (sym steps) (of k (subst (λ (s : Step). Follows program w (lefts p) s r left) steps follows))
    where
      steps : step ≡ move_asked w k
      steps = let same : Some step ≡ Some (move_asked w k) = sym follows.asks ∙ ap (step_asked w) asks in cc

      Goal : Step → Type 0
      Goal s = Came program traces (events ++ took_event p k (is_timeout s) ∷ []) (after_step g p g.channels r) (updated p left lefts)

      of : (n : ℕ) → Follows program w (lefts p) (move_asked w n) r left
          → Came program traces (events ++ took_event p n (is_timeout (move_asked w n)) ∷ []) (after_step g p g.channels r) (updated p left lefts)
      of zero follows' = came_moves r left follows'
      of (suc n) follows' = waiting (awaits w.phase w.todo n) follows'
        where
          waiting : (b : Bool) → Follows program w (lefts p) (cond b TimeOut (Take (suc n))) r left
              → Came program traces (events ++ took_event p (suc n) (is_timeout (cond b TimeOut (Take (suc n)))) ∷ []) (after_step g p g.channels r)
              (updated p left lefts)
          waiting true follows2 = came_times_out r left follows2
          waiting false follows2 = came_takes (suc n) r left follows2

  -- by a message that is fetched
  pub came_delivers : (l : MessageInFlight) (from : ℕ) (r : Stepped) (left : List Action) (messages : List MessageInFlight) (new : List Event)
      → Follows program w (lefts p) (Deliver l.message from l.time) r left
      → (fetching : Fetching program g from p l left messages new) → Came program traces (events ++ new) (after_step g p fetching.channels r)
      (updated p left lefts)
  came_delivers l from r left messages new follows fetching =
      came_on (Deliver l.message from l.time) r left fetching.channels new fetching.before follows (
        subst (λ (ls : List MessageInFlight). Serves g.kind (channel g.channels from p) l (messages_from from left) ls)
            (sym fetching.now) fetching.serves,
        fetching.elsewhere,
      )
      (λ a b there_a there_b. fetching.keeps a b (has_channels a b there_a there_b)) fetching.untold (fetching.reaches w r at follows.makes)

  -- a message that can arrive is one that may
  arrives_lawful : (from : ℕ) (l : MessageInFlight) → CanArrive g.kind (channel g.channels from p) l
      → IsEntry program (record { message = l.message; peer = from; time = l.time })
  arrives_lawful from l can =
      let has : Has (channel g.channels from p) l = can_has g.kind (channel g.channels from p) l can in
      let (i, there) = number_of (channel g.channels from p) l has in
      message_lawful program g (came_sound program accepted came) from p l (sender_there program g (came_sound program accepted came) from p i l there)
      (w, at) has

  -- so a process whose trace asks for a message that none can send cannot go on
  pub stuck_in_vain : (step : Step) (r : Stepped) (left : List Action) → AsksInVain program (lefts p) → Follows program w (lefts p) step r left
      → AllowStep g p step → ⊥
  stuck_in_vain step r left vain follows allows = of (lefts p) vain follows.asks
    where
      of : (trace : List Action) → AsksInVain program trace → step_asked w trace ≡ Some step → ⊥
      of (Got q from time m ∷ rest) vain' asks =
          let steps : step ≡ Deliver (val_of m) from time = cc in
          vain' (arrives_lawful from (record { message = val_of m; time = time }) (subst (AllowStep g p) steps allows))
      of [] vain' asks = vain'
      of (_ ∷ rest) vain' asks = vain'

-- WHERE NO PROCESS CAN GO ON

-- the trace goes on with a message that cannot arrive
abbrev pub Lacks : SystemState → ℕ → List Action → Type 0
Lacks g p (Got q from time m ∷ rest) = CanArrive g.kind (channel g.channels from p) (record { message = val_of m; time = time }) → ⊥
Lacks g p _ = ⊥

lacks_stuck : (g : SystemState) (p : ℕ) (w : World) (trace : List Action) (step : Step) → Lacks g p trace → step_asked w trace ≡ Some step
    → AllowStep g p step → ⊥
lacks_stuck g p w (Got q from time m ∷ rest) step lacks asks allows =
    let steps : step ≡ Deliver (val_of m) from time = cc in
    lacks (subst (AllowStep g p) steps allows)
lacks_stuck g p w [] step lacks asks allows = lacks
lacks_stuck g p w (_ ∷ rest) step lacks asks allows = lacks

-- each process is over, asks for a message that none can send, or for one that cannot arrive
pub came_stuck : (program : Program) → IsAccepted program → {traces : List (List Action)} {events : List Event} {g : SystemState} {lefts : ℕ → List Action}
    → Came program traces events g lefts
    → ((p : ℕ) (w : World) → at_number g.worlds p ≡ Some w → IsOver program w (lefts p) ⊎ (AsksInVain program (lefts p) ⊎ Lacks g p (lefts p)))
    → IsStuck program g lefts
came_stuck program accepted {g = g} {lefts = lefts} came ends = λ p w step r left at follows allows. elim (ends p w at) [
  | inl over ↦ over step r left follows
  | inr waits ↦ elim waits [
    | inl vain ↦ stuck_in_vain program accepted came p w at step r left vain follows allows
    | inr lacks ↦ lacks_stuck g p w (lefts p) step lacks follows.asks allows
  ]
]

abbrev pub came_ends : (program : Program) (traces : List (List Action)) (events : List Event) (g : SystemState) (lefts : ℕ → List Action)
    → Came program traces events g lefts → IsStuck program g lefts → Exhausts program traces events
came_ends program traces events g lefts came stuck = record {
  runs = record { plain = reaches-plain came.reaches; whole = reaches-whole came.reaches 1 };
  state = g;
  lefts = lefts;
  transitions = came.transitions;
  told = λ p trace at. came.told p trace at ∙ ap (λ (l : List Action). part p l ++ lefts p) (sym (reaches-actions came.reaches 1));
  ahead = came.ahead;
  stuck = stuck;
}

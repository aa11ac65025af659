-- What happens at a plain event: a process makes a step, or a message is lost or doubled.
use Rattle.std.specs.Prelude.{◌≡◌, ℕ, Bool, true, false, cond, List, [], ◌∷◌, ◌++◌, Option, Some, None, is_some, refl}
use Rattle.std.proofs.Common.{sym, ap, ◌∙◌, subst}
use Rattle.std.proofs.lemmas.Bool.{eq-eqb, false≢true, ne_eqb}
use Rattle.da_lang.specs.declared.event.Action.{Action}
use Rattle.da_lang.specs.declared.event.Action.TheVariants.{Again, Lost}
use Rattle.da_lang.specs.declared.event.Event.{Event}
use Rattle.da_lang.specs.declared.event.Event.TheVariants as event
use Rattle.da_lang.specs.declared.program.Program.{Program}
use Rattle.da_lang.specs.Steps.{Deliver, Go, Step, Stepped, Take, TimeOut, proc_step}
use Rattle.da_lang.specs.World.{World, at_number}
use Rattle.da_system.specs.Channels.{Channels, MessageInFlight, after_actions, channel, may_arrive, may_lose, may_repeat, put_numbered, with_message, without_message}
use Rattle.sched_text.specs.TraceText.{teller}
use Rattle.da_system.specs.SystemStep.{AfterEvent, SystemState, arrive, copy_message, drop_message, process_step, step_of, stepped, sys_step}
use Rattle.trace_join.specs.Joins.{IsPlain}
use Rattle.trace_join.specs.Remains.{IsThere}
use Rattle.trace_join.specs.Traces.{is_teller, part}
use Rattle.trace_join.proofs.ChannelLaws.{AreOwn, put_stays}

-- PARTS OF A RUN

pub part-own : (p : ℕ) (xs ys : List Action) → AreOwn p xs → part p (xs ++ ys) ≡ xs ++ part p ys
part-own p [] ys own = refl
part-own p (x ∷ xs) ys own =
    ap (λ (b : Bool). cond b (x ∷ part p (xs ++ ys)) (part p (xs ++ ys))) (ap (is_teller p) own.0 ∙ eq-eqb p p refl)
    ∙ ap (λ (l : List Action). x ∷ l) (part-own p xs ys own.1)

pub part-other : (p q : ℕ) (xs ys : List Action) → AreOwn q xs → (p ≡ q → ⊥) → part p (xs ++ ys) ≡ part p ys
part-other p q [] ys own other = refl
part-other p q (x ∷ xs) ys own other =
    ap (λ (b : Bool). cond b (x ∷ part p (xs ++ ys)) (part p (xs ++ ys))) (ap (is_teller p) own.0 ∙ ne_eqb q p (λ same. other (sym same)))
    ∙ part-other p q xs ys own.1 other

pub part-append : (p : ℕ) (xs ys : List Action) → part p (xs ++ ys) ≡ part p xs ++ part p ys
part-append p [] ys = refl
part-append p (x ∷ xs) ys = of (is_teller p (teller x)) (part-append p xs ys)
  where
    of : (b : Bool) → part p (xs ++ ys) ≡ part p xs ++ part p ys
        → cond b (x ∷ part p (xs ++ ys)) (part p (xs ++ ys)) ≡ cond b (x ∷ part p xs) (part p xs) ++ part p ys
    of true is = ap (λ (l : List Action). x ∷ l) is
    of false is = is

-- EVENTS

-- the channels after the fetch of a step: for a delivery a message leaves its channel
abbrev pub IsFetch : SystemState → ℕ → Step → Channels → Type 0
IsFetch s p (Deliver m from time) channels =
    (i : ℕ) × (may_arrive s.kind i ≡ true) × (at_number (channel s.channels from p) i ≡ Some (record { message = m; time = time })) ×
    (channels ≡ without_message s.channels from p i)
IsFetch s p _ channels = channels ≡ s.channels

-- the state when process p has made the step, where the fetch left these channels
abbrev pub after_step : SystemState → ℕ → Channels → Stepped → SystemState
after_step s p channels r = record { kind = s.kind; worlds = put_numbered s.worlds p r.world; channels = after_actions channels r.actions }

pub data Happens (program : Program) (s : SystemState) (after : AfterEvent) : Type 0 where
  acts : (p : ℕ) (w : World) (step : Step) (r : Stepped) (channels : Channels) → at_number s.worlds p ≡ Some w → proc_step program w step ≡ Some r
      → IsFetch s p step channels
      → record { state = after_step s p channels r; actions = r.actions } ≡ after → Happens program s after
  loses : (p q i : ℕ) (l : MessageInFlight) → may_lose s.kind ≡ true → at_number (channel s.channels p q) i ≡ Some l
      → record { state = record s { channels = without_message s.channels p q i }; actions = Lost p q l.time ∷ [] } ≡ after → Happens program s after
  doubles : (p q i : ℕ) (l : MessageInFlight) → may_repeat s.kind ≡ true → at_number (channel s.channels p q) i ≡ Some l
      → record { state = record s { channels = with_message s.channels p q l }; actions = Again p q l.time ∷ [] } ≡ after → Happens program s after

module _ (program : Program) (s : SystemState) (after : AfterEvent) where
  forbidden : {A : Type 0} → ◌≡◌ {A = Option AfterEvent} None (Some after) → A
  forbidden none = absurd (false≢true (ap is_some none))

  of_step : (channels : Channels) (p : ℕ) (w : World) (step : Step) (found : Option Stepped) → at_number s.worlds p ≡ Some w → IsFetch s p step channels
      → proc_step program w step ≡ found → stepped (record s { channels = channels }) p found ≡ Some after → Happens program s after
  of_step channels p w step None at fetch makes is = forbidden is
  of_step channels p w step (Some r) at fetch makes is = acts p w step r channels at makes fetch cc

  of_process : (channels : Channels) (p : ℕ) (step : Step) (found : Option World) → IsFetch s p step channels
      → at_number s.worlds p ≡ found → step_of program (record s { channels = channels }) p found step ≡ Some after → Happens program s after
  of_process channels p step None fetch at is = forbidden is
  of_process channels p step (Some w) fetch at is = of_step channels p w step (proc_step program w step) at fetch refl is

  of_arrival : (p q i : ℕ) (found : Option MessageInFlight) → may_arrive s.kind i ≡ true → at_number (channel s.channels p q) i ≡ found
      → arrive program s p q i found ≡ Some after → Happens program s after
  of_arrival p q i None may there is = forbidden is
  of_arrival p q i (Some l) may there is = of_process (without_message s.channels p q i) q (Deliver l.message p l.time) (at_number s.worlds q)
      (i, may, there, refl) refl is

  of_loss : (p q i : ℕ) (found : Option MessageInFlight) → may_lose s.kind ≡ true → at_number (channel s.channels p q) i ≡ found
      → drop_message s p q i found ≡ Some after → Happens program s after
  of_loss p q i None may there is = forbidden is
  of_loss p q i (Some l) may there is = loses p q i l may there cc

  of_copy : (p q i : ℕ) (found : Option MessageInFlight) → may_repeat s.kind ≡ true → at_number (channel s.channels p q) i ≡ found
      → copy_message s p q found ≡ Some after → Happens program s after
  of_copy p q i None may there is = forbidden is
  of_copy p q i (Some l) may there is = doubles p q i l may there cc

  if_allowed : (b : Bool) (step : Option AfterEvent) → (b ≡ true → step ≡ Some after → Happens program s after) → cond b step None ≡ Some after
      → Happens program s after
  if_allowed true step so is = so refl is
  if_allowed false step so is = forbidden is

  pub happens : (e : Event) → IsPlain e → sys_step program s e ≡ Some after → Happens program s after
  happens (event.Move p) plain is = of_process s.channels p Go (at_number s.worlds p) refl refl is
  happens (event.Take p k) plain is = of_process s.channels p (Take k) (at_number s.worlds p) refl refl is
  happens (event.Timeout p) plain is = of_process s.channels p TimeOut (at_number s.worlds p) refl refl is
  happens (event.Deliver p q i) plain is = if_allowed (may_arrive s.kind i) _ (λ may so. of_arrival p q i (at_number (channel s.channels p q) i) may refl so) is
  happens (event.Lose p q i) plain is = if_allowed (may_lose s.kind) _ (λ may so. of_loss p q i (at_number (channel s.channels p q) i) may refl so) is
  happens (event.Repeat p q i) plain is = if_allowed (may_repeat s.kind) _ (λ may so. of_copy p q i (at_number (channel s.channels p q) i) may refl so) is
  happens (event.Show p) plain is = absurd plain
  happens (event.Stat p) plain is = absurd plain

  -- each process stays there
  pub stays_there : Happens program s after → (p : ℕ) → IsThere s p → IsThere after.state p
  stays_there (acts q v step r channels at makes fetch is) p (w, there) = subst (λ (x : AfterEvent). IsThere x.state p) is
      (put_stays s.worlds p q r.world w there)
  stays_there (loses a b i l may there is) p at = subst (λ (x : AfterEvent). IsThere x.state p) is at
  stays_there (doubles a b i l may there is) p at = subst (λ (x : AfterEvent). IsThere x.state p) is at

-- THE EVENT OF A STEP

module _ (program : Program) (s : SystemState) (p : ℕ) (w : World) (r : Stepped) (at : at_number s.worlds p ≡ Some w) where
  abbrev Becomes : Channels → Option AfterEvent → Type 0
  Becomes channels step = step ≡ Some (record { state = after_step s p channels r; actions = r.actions })

  pub moves_by : (step : Step) → proc_step program w step ≡ Some r → Becomes s.channels (process_step program s p step)
  moves_by step makes = rw (at, makes) refl

  pub delivers_by : (from i : ℕ) (l : MessageInFlight) → may_arrive s.kind i ≡ true → at_number (channel s.channels from p) i ≡ Some l
      → proc_step program w (Deliver l.message from l.time) ≡ Some r
      → Becomes (without_message s.channels from p i) (sys_step program s (event.Deliver from p i))
  delivers_by from i l may there makes = rw (may, there, at, makes) refl

pub loses_by : (program : Program) (s : SystemState) (p q i : ℕ) (l : MessageInFlight) → may_lose s.kind ≡ true → at_number (channel s.channels p q) i ≡ Some l
    → sys_step program s (event.Lose p q i) ≡ Some (record { state = record s { channels = without_message s.channels p q i }; actions = Lost p q l.time ∷ [] })
loses_by program s p q i l may there = rw (may, there) refl

pub doubles_by : (program : Program) (s : SystemState) (p q i : ℕ) (l : MessageInFlight) → may_repeat s.kind ≡ true → at_number (channel s.channels p q) i ≡ Some l
    → sys_step program s (event.Repeat p q i) ≡ Some (record { state = record s { channels = with_message s.channels p q l }; actions = Again p q l.time ∷ [] })
doubles_by program s p q i l may there = rw (may, there) refl

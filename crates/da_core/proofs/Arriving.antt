-- The run of the handlers, one after the other.
use Rattle.std.proofs.Common.{◌≡◌, ◌⊎◌, ℕ, suc, ◌+◌, ◌<◌, ◌≤◌, List, [], ◌∷◌, ◌++◌, length, Some, None, refl, sym, ap, ◌∙◌, subst, inl, inr, append_assoc, append-nil, arith}
use Rattle.std.specs.Prelude.{true, false, cond, nat_lt, if◌then◌else◌, slice_get}
use Rattle.std.specs.List.{filter}
use Rattle.std.proofs.lemmas.Bool.{le-ltb, lt-ltb}
use Rattle.std.proofs.lemmas.List.Elements.{All-nil}
use Rattle.da_values.specs.Value.{val_of}
use Rattle.da_lang.specs.declared.event.Action.{Action}
use Rattle.da_lang.specs.declared.event.FaultKind.{FaultKind}
use Rattle.da_lang.specs.declared.event.FaultKind.TheVariants.{TooLong}
use Rattle.da_lang.specs.declared.program.Class.{Class}
use Rattle.da_lang.specs.declared.program.Handler.{Handler}
use Rattle.da_lang.specs.declared.program.Program.{Program}
use Rattle.da_lang.specs.Labels.{is_open}
use Rattle.da_lang.specs.Matching.{Row}
use Rattle.da_lang.specs.Runs.{Halt, AtYield, UsedUp, Faults, Ran, ran_after, max_turns, run_to_yield}
use Rattle.da_lang.specs.Shaped.{IsTask, ShapedData, ShapedTasks}
use Rattle.da_lang.specs.Steps.{after_halt, handle, try_handler}
use Rattle.da_lang.specs.Turns.{bind_all, do_all}
use Rattle.da_lang.specs.World.{Data, Task}
use Rattle.da_types.specs.KeepsShaped.{LeavesShaped}
use Rattle.da_types.proofs.shaped.DataKept.{bound-me, bound_shaped}
use Rattle.da_types.proofs.shaped.StatementValues.{handler_row_fits}
use Rattle.da_types.proofs.shaped.TasksKept.{do_all_tasks, handler_item}
use Rattle.da_machine.specs.declared.machine.Machine.{Machine}
use Rattle.da_machine.specs.declared.machine.Stop.{Stop}
use Rattle.da_machine.specs.CodeFor.{CodeFor}
use Rattle.da_machine.specs.RunsTo.{AddsPrefix}
use Rattle.da_machine.proofs.Prefixes.{prefix_as, prefix_before, part_prefix_of}
use Rattle.da_machine.specs.Stops.{CanRun, IsRun, IsStop}
use Rattle.da_core.specs.declared.deliveries.Delivery.{Delivery}
use Rattle.da_core.specs.declared.deliveries.Handled.{Handled}
use Rattle.da_core.specs.declared.deliveries.Handled.TheVariants as handled
use Rattle.da_core.specs.declared.known.Known.{Known}
use Rattle.da_core.specs.Arrivals.{CanHandle, HasEntry, HasHandled, HasTried, IsAlike, MayHandle, Whoever, all_handled, goes_on, handled_as, row_for, tried}
use Rattle.da_core.specs.Known.{Each, Knows}
use Rattle.da_core.proofs.KnownLaws.{me_is}
use Rattle.da_core.proofs.Laws.{is_whole, keeps_shaped}
use Rattle.da_core.proofs.Tasks.{has_at}

-- RUNS THAT ARE ALIKE

same_run : (ran other : Ran) → ran ≡ other → IsAlike ran other
same_run ran other is = record { data' = ap (λ (r : Ran). r.data') is; actions = ap (λ (r : Ran). r.actions) is; halt = ap (λ (r : Ran). r.halt) is }

then_alike : (a b c : Ran) → IsAlike a b → IsAlike b c → IsAlike a c
then_alike a b c one two = record { data' = one.data' ∙ two.data'; actions = one.actions ∙ two.actions; halt = one.halt ∙ two.halt }

after_both : (actions more : List Action) (ran other : Ran) → IsAlike ran (ran_after more other) → IsAlike (ran_after actions ran) (ran_after (actions ++ more) other)
after_both actions more ran other is = record {
  data' = is.data';
  actions = ap (λ xs. actions ++ xs) is.actions ∙ sym (append_assoc actions more other.actions);
  halt = is.halt;
}

-- a prefix of the actions of a handler was added, whatever comes after it
abbrev pub TriedPart : Delivery → Handler → ℕ → Known → List Action → Type 0
TriedPart x h n old new = Whoever x old (λ p d. (go : ℕ → Data → Ran) → AddsPrefix old.actions new (tried x h n d go).actions)

-- ONE HANDLER WHOSE PATTERNS DO NOT MATCH

pub not_tried : (x : Delivery) (h : Handler) (n : ℕ) (known : Known) → Each known (λ p class d. None ≡ row_for x h d) → Whoever x known (λ p d. HasTried p x h n d known known (handled.Through n))
not_tried x h n known none p d may = record {
  mine = refl;
  after = d;
  may = may;
  actions = [];
  added = sym (append-nil known.actions);
  run = λ go. same_run (tried x h n d go) (go n d) (ap (λ row. try_handler x.class.now h n d row go) (sym (none p x.class.now d may.knows)));
}

-- ONE WHOSE PATTERNS DO

-- how the run of a body stops as a machine does
module _ (x : Delivery) (ran : Ran) (turns : ℕ) (m : Machine) (count : turns ≡ ran.turns) (go : ℕ → Data → Ran) where
  passes : (stop : Stop) → handled_as stop turns ≡ handled.Through turns → IsAlike (ran_after ran.actions (go ran.turns ran.data')) (goes_on (handled_as stop turns) ran.actions ran.data' go)
  passes stop is =
      subst (λ answer. IsAlike (ran_after ran.actions (go ran.turns ran.data')) (goes_on answer ran.actions ran.data' go)) (sym is)
      (same_run (ran_after ran.actions (go ran.turns ran.data')) (ran_after ran.actions (go turns ran.data')) (ap (λ k. ran_after ran.actions (go k ran.data')) (sym count)))

  as_stopped : (stop : Stop) (halt : Halt) → ran.halt ≡ halt → IsStop x.code.now.code x.class.now stop m ran.todo halt → IsAlike (after_halt halt ran go) (goes_on (handled_as stop turns) ran.actions ran.data' go)
  as_stopped stop AtYield is stops = passes stop (ap (λ s. handled_as s turns) stops.1)
  as_stopped stop UsedUp is stops = passes stop (ap (λ s. handled_as s turns) stops)
  as_stopped stop (Faults kind line) is stops =
      subst (λ s. IsAlike ran (goes_on (handled_as s turns) ran.actions ran.data' go)) (sym stops)
      (record { data' = refl; actions = refl; halt = is })

-- after a body its actions stand first
body_first : (halt : Halt) (ran : Ran) (go : ℕ → Data → Ran) → (more : List Action) × ((after_halt halt ran go).actions ≡ ran.actions ++ more)
body_first AtYield ran go = ((go ran.turns ran.data').actions, refl)
body_first UsedUp ran go = ((go ran.turns ran.data').actions, refl)
body_first (Faults kind line) ran go = ([], sym (append-nil ran.actions))

-- for one process that may handle the message, which knows what it has bound
module _ (x : Delivery) (h : Handler) (entry n : ℕ) (old : Known) (p : Program) (d : Data) (may : MayHandle p x old d) (there : HasEntry x h entry) (row : Row) (matches : row_for x h d ≡ Some row)
    (bound : Known) (binds : Knows bound p x.class.now (bind_all h.binds row d)) (stays : bound.actions ≡ old.actions) where
  abbrev class : Class
  class = x.class.now

  abbrev now : Data
  now = bind_all h.binds row d

  abbrev todo : List Task
  todo = do_all h.body []

  abbrev ran : Ran
  ran = run_to_yield class n now todo

  shaped : ShapedData p class now
  shaped = bound_shaped p class h.binds row d may.shaped (handler_row_fits p class d (is_whole p may.accepted) may.shaped h _ row there.among may.arrives matches)

  tasks : ShapedTasks p class now.me todo
  tasks = do_all_tasks p class now.me h.body [] (λ j k. handler_item class h j there.among k) (All-nil (IsTask p class now.me))

  pub ready : (m : Machine) → m.place ≡ entry → m.loops ≡ [] → CanRun p class x.code.now.code m now todo
  ready m place loops = record {
    accepted = may.accepted;
    knows = shaped;
    tasks = tasks;
    code_for =
        subst (λ ls. CodeFor x.code.now.code class m.place ls todo) (sym loops) (subst (λ k. CodeFor x.code.now.code class k [] todo) (sym place) there.code_for);
  }

  left : LeavesShaped p class now.me ran.data' ran.todo ran.actions
  left = (keeps_shaped p may.accepted).runs class n now todo shaped tasks

  -- the handler is tried as the run of its body and what comes after it
  tried_as : (go : ℕ → Data → Ran) → tried x h n d go ≡ after_halt ran.halt ran go
  tried_as go = ap (λ found. try_handler class h n d found go) matches

  module _ (after : Known) (m : Machine) (stop : Stop) (run : IsRun class x.code.now.code stop m (Knows after p class) bound.actions after.actions ran) where
    pub has_tried : HasTried p x h n d old after (handled_as stop m.turns)
    has_tried = record {
      mine = sym (me_is after p class ran.data' run.known) ∙ left.same ∙ bound-me p class h.binds row d ∙ me_is old p class d may.knows;
      after = ran.data';
      may = record {
        accepted = may.accepted;
        knows = run.known;
        shaped = left.knows;
        among = may.among;
        forward = may.forward;
        enters = may.enters;
        arrives = may.arrives;
      };
      actions = ran.actions;
      added = run.actions ∙ ap (λ xs. xs ++ ran.actions) stays;
      run = λ go.
          then_alike (tried x h n d go) (after_halt ran.halt ran go) (goes_on (handled_as stop m.turns) ran.actions ran.data' go)
          (same_run (tried x h n d go) (after_halt ran.halt ran go) (tried_as go))
          (as_stopped x ran m.turns m run.turns go stop ran.halt refl run.stops);
    }

  pub tried_part : (new : List Action) → AddsPrefix bound.actions new ran.actions → (go : ℕ → Data → Ran) → AddsPrefix old.actions new (tried x h n d go).actions
  tried_part new front go =
      let (rest, first) = body_first ran.halt ran go in
      prefix_as old.actions new (ran.actions ++ rest) (tried x h n d go).actions (sym first ∙ sym (ap (λ (r : Ran). r.actions) (tried_as go)))
      (prefix_before old.actions new ran.actions rest (subst (λ xs. AddsPrefix xs new ran.actions) stays front))

-- ALL OF THEM

-- each of these handlers has the entry at the same place
abbrev pub AreEntered : Delivery → List Handler → List ℕ → Type 0
AreEntered x [] [] = Unit {0}
AreEntered x [] (e ∷ es) = ⊥
AreEntered x (h ∷ hs) [] = ⊥
AreEntered x (h ∷ hs) (e ∷ es) = HasEntry x h e × AreEntered x hs es

each_entered : (x : Delivery) (hs : List Handler) (es : List ℕ) → length es ≡ length hs
    → ((k : ℕ) (h : Handler) (e : ℕ) → slice_get hs k ≡ Some h → slice_get es k ≡ Some e → HasEntry x h e) → AreEntered x hs es
each_entered x [] [] same each = tt
each_entered x [] (e ∷ es) same each = absurd (omega (arith, same))
each_entered x (h ∷ hs) [] same each = absurd (omega (arith, same))
each_entered x (h ∷ hs) (e ∷ es) same each = (each 0 h e refl refl, each_entered x hs es (omega (arith, same)) (λ k. each (suc k)))

-- these handlers are left, where n turns were taken: those of them that are open are run
abbrev pub rest_handled : Delivery → List Handler → ℕ → Data → Ran
rest_handled x hs n d = handle x.class.now (val_of x.message.now) x.from (filter (is_open x.label) hs) n d

-- where the first one is open, or closed
with_open : (x : Delivery) (h : Handler) (hs : List Handler) → is_open x.label h ≡ true → filter (is_open x.label) (h ∷ hs) ≡ h ∷ filter (is_open x.label) hs
with_open x h hs is = ap (λ b. cond b (h ∷ filter (is_open x.label) hs) (filter (is_open x.label) hs)) is

but_closed : (x : Delivery) (h : Handler) (hs : List Handler) → is_open x.label h ≡ false → filter (is_open x.label) (h ∷ hs) ≡ filter (is_open x.label) hs
but_closed x h hs is = ap (λ b. cond b (h ∷ filter (is_open x.label) hs) (filter (is_open x.label) hs)) is

-- Some handlers were tried, and n turns were taken: the run of all is their actions, and the run of those that are left. So it is for
-- one process that knew d,
pub record CameBy (p : Program) (x : Delivery) (left : List Handler) (n : ℕ) (d : Data) (first now : Known) : Type 0 where
  pub so_far : Data
  pub may : MayHandle p x now so_far
  pub mine : now.answers.me ≡ first.answers.me
  pub actions : List Action
  pub added : now.actions ≡ first.actions ++ actions
  pub rest : IsAlike (all_handled x d) (ran_after actions (rest_handled x left n so_far))

-- and for each.
pub record Came (x : Delivery) (left : List Handler) (entries : List ℕ) (n : ℕ) (first now : Known) : Type 0 where
  pub can : CanHandle x now
  pub entered : AreEntered x left entries
  pub each : Whoever x first (λ p d. CameBy p x left n d first now)

in_time : (n : ℕ) (a b : Ran) → n < max_turns → (if nat_lt n max_turns then a else b) ≡ a
in_time n a b less = rw (lt-ltb n max_turns less) refl

-- FOR ONE PROCESS

module _ (x : Delivery) (first now : Known) (n : ℕ) (p : Program) (d : Data) where
  abbrev all : Ran
  all = all_handled x d

  -- a closed one is passed over
  one_closed : (h : Handler) (hs : List Handler) → CameBy p x (h ∷ hs) n d first now → is_open x.label h ≡ false → CameBy p x hs n d first now
  one_closed h hs by closed = record {
    so_far = by.so_far;
    may = by.may;
    mine = by.mine;
    actions = by.actions;
    added = by.added;
    rest =
        then_alike all (ran_after by.actions (rest_handled x (h ∷ hs) n by.so_far)) (ran_after by.actions (rest_handled x hs n by.so_far)) by.rest
        (same_run _ _ (ap (λ l. ran_after by.actions (handle x.class.now (val_of x.message.now) x.from l n by.so_far)) (but_closed x h hs closed)));
  }

  module _ (h : Handler) (hs : List Handler) (by : CameBy p x (h ∷ hs) n d first now) (is_open_here : is_open x.label h ≡ true) where
    abbrev go : ℕ → Data → Ran
    go = rest_handled x hs

    -- the run of those that are left, by its first one
    by_first : rest_handled x (h ∷ hs) n by.so_far ≡ handle x.class.now (val_of x.message.now) x.from (h ∷ filter (is_open x.label) hs) n by.so_far
    by_first = ap (λ l. handle x.class.now (val_of x.message.now) x.from l n by.so_far) (with_open x h hs is_open_here)

    -- the turns are used up
    one_too_long : max_turns ≤ n → HasHandled p x all first now (handled.Fault TooLong h.line)
    one_too_long past = record {
      mine = by.mine;
      known = subst (Knows now p x.class.now) (sym (by.rest.data' ∙ ap (λ (r : Ran). r.data') stops)) by.may.knows;
      actions = by.added ∙ ap (λ xs. first.actions ++ xs) (sym (by.rest.actions ∙ ap (λ (r : Ran). by.actions ++ r.actions) stops ∙ append-nil by.actions));
      halt = by.rest.halt ∙ ap (λ (r : Ran). r.halt) stops;
    }
      where
        past_end : handle x.class.now (val_of x.message.now) x.from (h ∷ filter (is_open x.label) hs) n by.so_far
            ≡ record { data' = by.so_far; todo = []; actions = []; turns = n; halt = Faults TooLong h.line }
        past_end = rw (le-ltb n max_turns past) refl

        stops : rest_handled x (h ∷ hs) n by.so_far ≡ record { data' = by.so_far; todo = []; actions = []; turns = n; halt = Faults TooLong h.line }
        stops = by_first ∙ past_end

    module _ (early : n < max_turns) where
      abbrev next_run : Ran
      next_run = tried x h (n + 1) by.so_far go

      next_tried : rest_handled x (h ∷ hs) n by.so_far ≡ next_run
      next_tried = by_first ∙ in_time n next_run _ early

      next_rest : IsAlike all (ran_after by.actions next_run)
      next_rest =
          then_alike all (ran_after by.actions (rest_handled x (h ∷ hs) n by.so_far)) (ran_after by.actions next_run) by.rest
          (same_run _ _ (ap (ran_after by.actions) next_tried))

      one_part : (new : List Action) → ((go : ℕ → Data → Ran) → AddsPrefix now.actions new (tried x h (n + 1) by.so_far go).actions) → AddsPrefix first.actions new all.actions
      one_part new front =
          part_prefix_of first.actions now.actions new all.actions next_run.actions (by.actions, by.added, next_rest.actions) (front go)

      module _ (next : Known) (answer : Handled) (one : HasTried p x h (n + 1) by.so_far now next answer) where
        added : next.actions ≡ first.actions ++ (by.actions ++ one.actions)
        added = one.added ∙ ap (λ xs. xs ++ one.actions) by.added ∙ append_assoc first.actions by.actions one.actions

        one_on : (turns : ℕ) → answer ≡ handled.Through turns → CameBy p x hs turns d first next
        one_on turns is = record {
          so_far = one.after;
          may = one.may;
          mine = one.mine ∙ by.mine;
          actions = by.actions ++ one.actions;
          added = added;
          rest =
              then_alike all (ran_after by.actions next_run) (ran_after (by.actions ++ one.actions) (go turns one.after)) next_rest
              (after_both by.actions one.actions next_run (go turns one.after)
              (subst (λ a. IsAlike next_run (goes_on a one.actions one.after go)) is (one.run go)));
        }

        one_fault : (kind : FaultKind) (line : ℕ) → answer ≡ handled.Fault kind line → HasHandled p x all first next (handled.Fault kind line)
        one_fault kind line is =
            let ends = subst (λ a. IsAlike next_run (goes_on a one.actions one.after go)) is (one.run go) in
            record {
              mine = one.mine ∙ by.mine;
              known = subst (Knows next p x.class.now) (sym (next_rest.data' ∙ ends.data')) one.may.knows;
              actions = added ∙ ap (λ xs. first.actions ++ xs) (sym (next_rest.actions ∙ ap (λ xs. by.actions ++ xs) ends.actions));
              halt = next_rest.halt ∙ ends.halt;
            }

  one_through : CameBy p x [] n d first now → HasHandled p x all first now (handled.Through n)
  one_through by = record {
    mine = by.mine;
    known = subst (Knows now p x.class.now) (sym by.rest.data') by.may.knows;
    actions = by.added ∙ ap (λ xs. first.actions ++ xs) (sym (by.rest.actions ∙ append-nil by.actions));
    halt = by.rest.halt;
  }

-- FOR EACH

module _ (x : Delivery) (first now : Known) (n : ℕ) where
  module _ (h : Handler) (e : ℕ) (hs : List Handler) (es : List ℕ) (came : Came x (h ∷ hs) (e ∷ es) n first now) where
    -- a closed one is passed over
    pub came_past : is_open x.label h ≡ false → Came x hs es n first now
    came_past closed = record {
      can = came.can;
      entered = came.entered.1;
      each = λ p d may. one_closed x first now n p d h hs (came.each p d may) closed;
    }

    module _ (is_open_here : is_open x.label h ≡ true) where
      pub too_long : max_turns ≤ n → Whoever x first (λ p d. HasHandled p x (all_handled x d) first now (handled.Fault TooLong h.line))
      too_long past p d may = one_too_long x first now n p d h hs (came.each p d may) is_open_here past

      module _ (early : n < max_turns) where
        pub handled_part : (new : List Action) → TriedPart x h (n + 1) now new → Whoever x first (λ p d. AddsPrefix first.actions new (all_handled x d).actions)
        handled_part new front p d may = let by = came.each p d may in one_part x first now n p d h hs by is_open_here early new (front p by.so_far by.may)

        module _ (next : Known) (answer : Handled) (one : Whoever x now (λ p d. HasTried p x h (n + 1) d now next answer)) where
          can_next : CanHandle x next
          can_next = let (p, d, may) = came.can in let tried_one = one p d may in (p, tried_one.after, tried_one.may)

          pub came_on : (turns : ℕ) → answer ≡ handled.Through turns → Came x hs es turns first next
          came_on turns is = record {
            can = can_next;
            entered = came.entered.1;
            each = λ p d may. (let by = came.each p d may in one_on x first now n p d h hs by is_open_here early next answer (one p by.so_far by.may) turns is);
          }

          pub faults_here : (kind : FaultKind) (line : ℕ) → answer ≡ handled.Fault kind line → Whoever x first (λ p d. HasHandled p x (all_handled x d) first next (handled.Fault kind line))
          faults_here kind line is p d may = let by = came.each p d may in one_fault x first now n p d h hs by is_open_here early next answer (one p by.so_far by.may) kind line is

  pub came_through : (left : List Handler) (entries : List ℕ) → Came x left entries n first now → (left ≡ []) ⊎ (entries ≡ []) → Whoever x first (λ p d. HasHandled p x (all_handled x d) first now (handled.Through n))
  came_through [] entries came past = λ p d may. one_through x first now n p d (came.each p d may)
  came_through (h ∷ hs) entries came (inl is) = absurd (let none : ◌≡◌ {A = List Handler} (h ∷ hs) [] = is in cc)
  came_through (h ∷ hs) entries came (inr is) = absurd (subst (AreEntered x (h ∷ hs)) is came.entered)

pub came_first : (x : Delivery) (first : Known) → CanHandle x first → (these : List Handler) (entries : List ℕ) → these ≡ x.class.now.handlers → entries ≡ x.code.now.code.handlers
    → Came x these entries 0 first first
came_first x first can these entries hs es =
    subst (λ l. Came x l entries 0 first first) (sym hs) (subst (λ l. Came x x.class.now.handlers l 0 first first) (sym es) (record {
      can = can;
      entered = each_entered x x.class.now.handlers x.code.now.code.handlers can.2.enters.one_each (λ k h e at there. record { among = has_at x.class.now.handlers k h at; code_for = can.2.enters.stands k h e at there });
      each = λ p d may. record {
        so_far = d;
        may = may;
        mine = refl;
        actions = [];
        added = sym (append-nil first.actions);
        rest = same_run _ _ refl;
      };
    }))

-- before a handler and its entry
pub came_here : (x : Delivery) (left hs : List Handler) (entries es : List ℕ) (h : Handler) (e n : ℕ) (first now : Known) → left ≡ h ∷ hs → entries ≡ e ∷ es
    → Came x left entries n first now → Came x (h ∷ hs) (e ∷ es) n first now
came_here x left hs entries es h e n first now is those came =
    subst (λ l. Came x l (e ∷ es) n first now) is (subst (λ l. Came x left l n first now) those came)

-- THE TURNS OF ONE EVENT

pub turns_left : (n : ℕ) → n < 1000000 → n < max_turns
unfolding max_turns
turns_left n less = less

pub one_more : (n : ℕ) → n < 1000000 → n + 1 ≤ max_turns
unfolding max_turns
one_more n less = omega (arith, less)

pub turns_taken : (n : ℕ) → 1000000 ≤ n → max_turns ≤ n
unfolding max_turns
turns_taken n past = past

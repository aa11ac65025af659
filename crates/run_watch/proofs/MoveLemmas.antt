-- The moves that a watch makes by itself.
use Rattle.std.proofs.Common.{◌≡◌, refl, sym, ◌∙◌, ap, subst, ℕ, zero, suc, ◌+◌, ◌<◌, ◌≤◌, Bool, true, false, List, [], ◌∷◌, ◌++◌, map, arith, append-nil, append_assoc}
use Rattle.std.specs.Prelude.{◌↔◌, Option, Some, None, IsSome, IsTrue}
use Rattle.std.specs.List.{range_with_len}
use Rattle.std.proofs.lemmas.Bool.{false≢true}
use Rattle.da_lang.specs.declared.event.Action.{Action}
use Rattle.da_lang.specs.declared.event.Action.TheVariants.{Fault}
use Rattle.da_lang.specs.declared.event.FaultKind.TheVariants.{TooLong}
use Rattle.da_lang.specs.declared.program.Program.{Program}
use Rattle.da_lang.specs.Runs.{max_turns}
use Rattle.da_lang.specs.Steps.{Go, Stepped, move_step, proc_step}
use Rattle.da_lang.specs.World.{World, class_of, opening}
use Rattle.da_core.specs.Compiled.{program_of}
use Rattle.da_core.specs.Made as made
use Rattle.da_core.specs.StandsFor.{Whichever}
use Rattle.da_core.specs.StandsFor as core
use Rattle.da_core.specs.Told.{numbers_to}
use Rattle.da_core.specs.declared.place.Stopped.{Stopped}
use Rattle.da_core.specs.declared.process.Core.{Core}
use Rattle.da_system.specs.Choices.{alternatives}
use Rattle.run_watch.specs.declared.watcher.Watcher.{Watcher}
use Rattle.run_watch.specs.Beside.{HasCome, HasDone, HasMoved, IsFirst, worn}
use Rattle.run_watch.specs.Watching.{at_step, begun, class_line, first_allowed, or_else, own_move, settled, then_on, watcher, worn_out}
use Rattle.run_watch.proofs.WatchLemmas.{done_still, made_done, made_leads, still, then_still, then_then, works_on}

-- WHICH MOVE IS ALLOWED FIRST

some_step : (o : Option Stepped) → IsSome o → (after : Stepped) × (o ≡ Some after)
some_step None is = absurd (false≢true is)
some_step (Some after) is = (after, refl)

none_step : (b : Bool) (o : Option Stepped) → (IsTrue b ↔ IsSome o) → b ≡ false → o ≡ None
none_step b None both is = refl
none_step b (Some after) both is = absurd (false≢true (sym is ∙ both.1 refl))

-- the moves from this alternative on are left
pub record LeftFrom (program : Program) (w : World) (turn : ℕ) : Type 0 where
  pub rest : ℕ
  pub sum : turn + rest ≡ alternatives w.phase w.todo
  pub whole : own_move program w ≡ first_allowed program w (map move_step (range_with_len (turn + 1) rest))

module _ (program : Program) (w : World) where
  abbrev others : Option Stepped
  others = first_allowed program w (map move_step (numbers_to (alternatives w.phase w.todo)))

  pub goes_first : (b : Bool) → (IsTrue b ↔ IsSome (proc_step program w Go)) → b ≡ true → IsFirst program w (Some 0)
  goes_first b both is =
      let (after, there) = some_step (proc_step program w Go) (both.0 is) in
      (after, ap (λ (o : Option Stepped). or_else o others) there, there)

  pub left_first : (b : Bool) → (IsTrue b ↔ IsSome (proc_step program w Go)) → b ≡ false → LeftFrom program w 0
  left_first b both is = record {
    rest = alternatives w.phase w.todo;
    sum = omega arith;
    whole = ap (λ (o : Option Stepped). or_else o others) (none_step b (proc_step program w Go) both is);
  }

  module _ (turn : ℕ) (left : LeftFrom program w turn) where
    pub left_on : (b : Bool) → turn < alternatives w.phase w.todo → (IsTrue b ↔ IsSome (proc_step program w (move_step (turn + 1)))) → b ≡ false → LeftFrom program w (turn + 1)
    left_on b inside both is = of left.rest left.sum left.whole
      where
        of : (rest : ℕ) → turn + rest ≡ alternatives w.phase w.todo → own_move program w ≡ first_allowed program w (map move_step (range_with_len (turn + 1) rest)) → LeftFrom program w (turn + 1)
        of zero sum whole = absurd (omega (arith, sum, inside))
        of (suc r) sum whole = record {
          rest = r;
          sum = omega (arith, sum);
          whole = whole ∙ ap (λ (o : Option Stepped). or_else o (first_allowed program w (map move_step (range_with_len (turn + 1 + 1) r)))) (none_step b (proc_step program w (move_step (turn + 1))) both is);
        }

    pub left_here : (b : Bool) → turn < alternatives w.phase w.todo → (IsTrue b ↔ IsSome (proc_step program w (move_step (turn + 1)))) → b ≡ true → IsFirst program w (Some (turn + 1))
    left_here b inside both is = of left.rest left.sum left.whole
      where
        of : (rest : ℕ) → turn + rest ≡ alternatives w.phase w.todo → own_move program w ≡ first_allowed program w (map move_step (range_with_len (turn + 1) rest)) → IsFirst program w (Some (turn + 1))
        of zero sum whole = absurd (omega (arith, sum, inside))
        of (suc r) sum whole =
            let (after, there) = some_step (proc_step program w (move_step (turn + 1))) (both.0 is) in
            (after, whole ∙ ap (λ (o : Option Stepped). or_else o (first_allowed program w (map move_step (range_with_len (turn + 1 + 1) r)))) there, there)

    pub left_none : alternatives w.phase w.todo ≤ turn → IsFirst program w None
    left_none end = of left.rest left.sum left.whole
      where
        of : (rest : ℕ) → turn + rest ≡ alternatives w.phase w.todo → own_move program w ≡ first_allowed program w (map move_step (range_with_len (turn + 1) rest)) → own_move program w ≡ None
        of zero sum whole = whole
        of (suc r) sum whole = absurd (omega (arith, sum, end))

-- of a watch that is not worn
pub first_of : (program : Program) (w : World) (watch : Watcher) (found : Option ℕ) → HasCome program w watch → watch.worn ≡ false → Whichever watch.core (λ x. IsFirst (core.program_of watch.core) x found) → IsFirst program w found
first_of program w watch found come fresh first = subst (λ p. IsFirst p w found) come.core_is (first w (works_on watch w come.stands fresh))

-- it has made the first one
pub moved_on : (program : Program) (w : World) (watch : Watcher) (k : ℕ) (next : Core) (answer : Stopped) (old new : List Action) → IsFirst program w (Some k) → HasCome program w watch → watch.worn ≡ false
    → Whichever watch.core (λ x. made.HasMade watch.core x (move_step k) next answer old new) → core.program_of next ≡ core.program_of watch.core → HasMoved program w (own_move program w) true (record watch { core = next }) old new
moved_on program w watch k next answer old new (after, first, leads) come fresh done kept =
    (_, first ∙ sym leads ∙ made_leads program w watch (move_step k) next answer old new come fresh done kept, made_done program w watch (move_step k) next answer old new come fresh done kept)

-- IT SETTLES

settled_zero : (program : Program) (w : World) → settled program 0 w ≡ worn_out program w (own_move program w)
unfolding settled
settled_zero program w = refl

settled_suc : (program : Program) (n : ℕ) (w : World) → settled program (suc n) w ≡ at_step w (own_move program w) (λ after. settled program n after)
unfolding settled
settled_suc program n w = refl

settled_still : (program : Program) (n : ℕ) (w : World) → own_move program w ≡ None → settled program n w ≡ still w
settled_still program zero w none = settled_zero program w ∙ ap (worn_out program w) none
settled_still program (suc n) w none = settled_suc program n w ∙ ap (λ (o : Option Stepped). at_step w o (λ after. settled program n after)) none

-- how many moves it may make
pub turns_are : max_turns ≡ 1000000
unfolding max_turns
turns_are = refl

-- so many moves were made
pub record Settles (program : Program) (most : ℕ) (w : World) (turn : ℕ) (watch : Watcher) (old new : List Action) : Type 0 where
  pub rest : ℕ
  pub sum : turn + rest ≡ most
  pub now : World
  pub told : List Action
  pub come : HasCome program now watch
  pub added : new ≡ old ++ told
  pub whole : settled program most w ≡ then_on told (settled program rest now)

pub settles_first : (program : Program) (most : ℕ) (w : World) (watch : Watcher) (out : List Action) → HasCome program w watch → Settles program most w 0 watch out out
settles_first program most w watch out come = record { rest = most; sum = omega arith; now = w; told = []; come = come; added = sym (append-nil out); whole = refl }

module _ (program : Program) (most : ℕ) (w : World) (turn : ℕ) (mid : Watcher) (old middle : List Action) (so : Settles program most w turn mid old middle) where
  pub settles_on : (moved : Bool) (watch : Watcher) (new : List Action) → turn < most → HasMoved program so.now (own_move program so.now) moved watch middle new → moved ≡ true → Settles program most w (turn + 1) watch old new
  settles_on false watch new inside has is = absurd (false≢true is)
  settles_on true watch new inside (after, there, makes) is = of so.rest so.sum so.whole
    where
      of : (rest : ℕ) → turn + rest ≡ most → settled program most w ≡ then_on so.told (settled program rest so.now) → Settles program most w (turn + 1) watch old new
      of zero sum whole = absurd (omega (arith, sum, inside))
      of (suc r) sum whole = record {
        rest = r;
        sum = omega (arith, sum);
        now = after.world;
        told = so.told ++ after.actions;
        come = makes.come;
        added = makes.added ∙ ap (λ xs. xs ++ after.actions) so.added ∙ append_assoc old so.told after.actions;
        whole =
            whole ∙ ap (then_on so.told) (settled_suc program r so.now ∙ ap (λ (o : Option Stepped). at_step so.now o (λ x. settled program r x)) there)
            ∙ then_then so.told after.actions (settled program r after.world);
      }

  pub settles_here : (moved : Bool) (watch : Watcher) (new : List Action) → HasMoved program so.now (own_move program so.now) moved watch middle new → moved ≡ false → HasDone program (settled program most w) watch old new
  settles_here true watch new has is = absurd (false≢true (sym is))
  settles_here false watch new (none, come, same) is =
      let whole : settled program most w ≡ record { world = so.now; actions = so.told } = so.whole ∙ ap (then_on so.told) (settled_still program so.rest so.now none) ∙ then_still so.told so.now in
      let here : HasDone program (record { world = so.now; actions = so.told }) watch old new = record { come = come; added = same ∙ so.added } in
      subst (λ (s : Stepped). HasDone program s watch old new) (sym whole) here

  pub settles_last : (watch : Watcher) (new : List Action) → most ≤ turn → HasDone program (worn_out program so.now (own_move program so.now)) watch middle new → HasDone program (settled program most w) watch old new
  settles_last watch new end wears = of so.rest so.sum so.whole
    where
      of : (rest : ℕ) → turn + rest ≡ most → settled program most w ≡ then_on so.told (settled program rest so.now) → HasDone program (settled program most w) watch old new
      of zero sum whole =
          let last = worn_out program so.now (own_move program so.now) in
          let here : HasDone program (then_on so.told last) watch old new = record {
            come = wears.come;
            added = wears.added ∙ ap (λ xs. xs ++ last.actions) so.added ∙ append_assoc old so.told last.actions;
          } in
          subst (λ (s : Stepped). HasDone program s watch old new) (sym (whole ∙ ap (then_on so.told) (settled_zero program so.now))) here
      of (suc r) sum whole = absurd (omega (arith, sum, end))

pub begun_as : (program : Program) (me : ℕ) (watch : Watcher) (old new : List Action) → me ≡ watcher program → HasDone program (settled program max_turns (opening program me)) watch old new → HasDone program (begun program) watch old new
begun_as program me watch old new same done = subst (λ n. HasDone program (settled program max_turns (opening program n)) watch old new) same done

-- IT WEARS OUT

pub wears_not : (program : Program) (w : World) (watch : Watcher) (out : List Action) → IsFirst program w None → HasCome program w watch → HasDone program (worn_out program w (own_move program w)) watch out out
wears_not program w watch out none come = done_still program (worn_out program w (own_move program w)) w watch out (ap (worn_out program w) none) come

pub wears : (program : Program) (w : World) (watch : Watcher) (k : ℕ) (fault : Action) (old new : List Action) → IsFirst program w (Some k) → HasCome program w watch
    → fault ≡ Fault watch.me TooLong (class_line (class_of (program_of watch.compiled.now) watch.me)) → new ≡ old ++ fault ∷ [] → HasDone program (worn_out program w (own_move program w)) (record watch { worn = true }) old new
wears program w watch k fault old new (after, first, leads) come is added =
    let me : watch.me ≡ w.data'.me = come.me ∙ sym come.number in
    let told : fault ≡ Fault w.data'.me TooLong (class_line (class_of program w.data'.me)) =
    is ∙ ap (λ (p : Program). Fault watch.me TooLong (class_line (class_of p watch.me))) come.program_is ∙ ap (λ n. Fault n TooLong (class_line (class_of program n))) me in
    let here : HasDone program (worn_out program w (Some after)) (record watch { worn = true }) old new = record {
      come = record { program_is = come.program_is; core_is = come.core_is; me = come.me; number = come.number; stands = worn refl refl };
      added = added ∙ ap (λ a. old ++ a ∷ []) told;
    } in
    subst (λ (o : Option Stepped). HasDone program (worn_out program w o) (record watch { worn = true }) old new) (sym first) here

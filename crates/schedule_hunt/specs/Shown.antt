-- What a run shows, by its actions and the state after it.
use Rattle.std.specs.Prelude.{◌≡◌, ℕ, ◌<◌, ◌⊎◌, true, List, ◌∷◌, None, IsTrue, count_by}
use Rattle.std.specs.List.{list_any}
use Rattle.da_values.specs.declared.val.Val.{Val, out-Val}
use Rattle.da_values.specs.declared.val.Val.TheOpen.{Val-F, Tuple}
use Rattle.da_values.specs.declared.value.Value.{Value}
use Rattle.da_values.specs.Value.{val_of}
use Rattle.da_lang.specs.declared.event.Action.{Action}
use Rattle.da_lang.specs.declared.event.Action.TheVariants.{Out, End}
use Rattle.da_lang.specs.declared.event.Event.{Event}
use Rattle.da_lang.specs.declared.program.Program.{Program}
use Rattle.da_lang.specs.Shaped.{IsProcess}
use Rattle.da_core.specs.Compiled.{program_of}
use Rattle.da_system.specs.SourceRun.{SrcRun}
use Rattle.da_system.specs.StressRun.{is_fault, is_out}
use Rattle.da_system.specs.SystemStep.{sys_step}
use Rattle.run_watch.specs.Beside.{IsWatchOf}
use Rattle.run_watch.specs.Watching.{Complains, at_quiet, beside}
use Rattle.schedule_walk.specs.Rest.{IsAtRest, goes_on}
use Rattle.schedule_hunt.specs.declared.what.Goal.{Goal}
use Rattle.schedule_hunt.specs.declared.what.Goal.TheVariants.{Shown, Watched}
use Rattle.schedule_hunt.specs.declared.what.What.{What}
use Rattle.schedule_hunt.specs.declared.what.What.TheVariants.{Fault, Stuck, Overlap, Differ, More}

-- one of these actions is so
pub data AnyOf (IsSo : Action → Type 0) : List Action → Type 0 where
  here : (a : Action) (rest : List Action) → IsSo a → AnyOf IsSo (a ∷ rest)
  later : (a : Action) (rest : List Action) → AnyOf IsSo rest → AnyOf IsSo (a ∷ rest)

-- WORDS

-- the first part of a tuple is this word
abbrev pub BeginsWith : Val → Val-F Val → Type 0
BeginsWith word (Tuple (first ∷ others)) = first ≡ word
BeginsWith word _ = ⊥

-- a value counts as a word where it is that value, or a tuple whose first part is
abbrev pub CountsAs : Val → Val → Type 0
CountsAs word v = (v ≡ word) ⊎ BeginsWith word (out-Val v)

-- the action puts out the word, and it is process p that does
abbrev pub Says : Val → ℕ → Action → Type 0
Says word p a = (v : Value) × (a ≡ Out p v) × CountsAs word (val_of v)

-- OVERLAPS

-- another process than q enters
abbrev pub EntersBeside : Val → ℕ → Action → Type 0
EntersBeside enter q a = (p : ℕ) × Says enter p a × (p ≡ q → ⊥)

-- while process q is inside another one enters: q has not left before
pub data IsMet (enter leave : Val) (q : ℕ) : List Action → Type 0 where
  meets : (a : Action) (rest : List Action) → EntersBeside enter q a → IsMet enter leave q (a ∷ rest)
  stays : (a : Action) (rest : List Action) → (Says leave q a → ⊥) → IsMet enter leave q rest → IsMet enter leave q (a ∷ rest)

-- a process enters, and is met by another one
pub data Overlaps (enter leave : Val) : List Action → Type 0 where
  enters : (a : Action) (rest : List Action) (q : ℕ) → Says enter q a → IsMet enter leave q rest → Overlaps enter leave (a ∷ rest)
  later : (a : Action) (rest : List Action) → Overlaps enter leave rest → Overlaps enter leave (a ∷ rest)

-- OUTPUTS

-- a process puts out this value
abbrev pub PutsOut : Value → Action → Type 0
PutsOut v a = (p : ℕ) × (a ≡ Out p v)

-- two outputs are not equal
pub record OutputsDiffer (actions : List Action) : Type 0 where
  pub one : Value
  pub other : Value
  pub first : AnyOf (PutsOut one) actions
  pub second : AnyOf (PutsOut other) actions
  pub unequal : val_of one ≡ val_of other → ⊥

-- ENDS

-- process p has used up its statements; a fault does not do that
abbrev pub HasEnded : ℕ → List Action → Type 0
HasEnded p actions = AnyOf (λ a. a ≡ End p) actions

-- no move, no timeout and no delivery is allowed after the run, whatever the process and the message; and a process has not ended
pub record IsStuck (program : Program) (run : SrcRun) : Type 0 where
  pub none : (e : Event) → IsTrue (goes_on e) → sys_step program run.state e ≡ None
  pub process : ℕ
  pub there : IsProcess program process
  pub unended : HasEnded process run.actions → ⊥

-- WATCHES

-- a watch has something to say of what the run puts out; or all is quiet after it, and the watch has something to say then
abbrev pub IsBroken : Program → Program → SrcRun → Type 0
IsBroken program watch run = Complains (beside watch run.actions) ⊎ (IsAtRest program run.state × Complains (at_quiet watch run.actions))

-- WHAT IS LOOKED FOR

abbrev pub Shows : Program → What → SrcRun → Type 0
Shows program Fault run = list_any is_fault run.actions ≡ true
Shows program Stuck run = IsStuck program run
Shows program (Overlap enter leave) run = Overlaps (val_of enter) (val_of leave) run.actions
Shows program Differ run = OutputsDiffer run.actions
Shows program (More k) run = k < count_by is_out run.actions

abbrev pub Reaches : Program → Goal → SrcRun → Type 0
Reaches program (Shown what) run = Shows program what.now run
Reaches program (Watched watch) run = IsBroken program (program_of watch.now) run

-- the compiled program of a watch is one beside the program
abbrev pub IsReady : Program → Goal → Type 0
IsReady program (Shown what) = Unit {0}
IsReady program (Watched watch) = IsWatchOf program watch.now

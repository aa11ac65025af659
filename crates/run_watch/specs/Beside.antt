-- A watch in code.
use Rattle.std.specs.Prelude.{◌≡◌, ℕ, ◌+◌, Bool, false, true, List, ◌++◌, length, Option, Some, None}
use Rattle.da_lang.specs.declared.event.Action.{Action}
use Rattle.da_lang.specs.declared.program.Program.{Program}
use Rattle.da_lang.specs.Steps.{Stepped, move_step, proc_step}
use Rattle.da_lang.specs.World.{Faulted, World}
use Rattle.da_core.specs.Compiled.{IsCompiled, program_of}
use Rattle.da_core.specs.StandsFor.{StandsFor}
use Rattle.da_core.specs.StandsFor as core
use Rattle.da_core.specs.declared.compiled.Compiled.{Compiled}
use Rattle.run_watch.specs.declared.watcher.Watcher.{Watcher}
use Rattle.run_watch.specs.Watching.{own_move, watcher}

-- the compiled program of a watch beside a program
pub record IsWatchOf (program : Program) (watch : Compiled) : Type 0 where
  pub compiled : IsCompiled watch
  pub count : length (program_of watch).procs ≡ length program.procs + 1

-- a watch in code stands in this world: its process does, or it has made too many moves, and does nothing more
pub data StandsIn (watch : Watcher) (w : World) : Type 0 where
  works : watch.worn ≡ false → StandsFor watch.core w → StandsIn watch w
  worn : watch.worn ≡ true → w.phase ≡ Faulted → StandsIn watch w

-- it is the last process of this program, and stands in this world
pub record HasCome (program : Program) (w : World) (watch : Watcher) : Type 0 where
  pub program_is : program_of watch.compiled.now ≡ program
  pub core_is : core.program_of watch.core ≡ program
  pub me : watch.me ≡ watcher program
  pub number : w.data'.me ≡ watcher program
  pub stands : StandsIn watch w

-- it stands somewhere
abbrev pub IsThere : Watcher → Type 0
IsThere watch = (program : Program) × (w : World) × HasCome program w watch

-- it has come to where this leads, and has told its actions
pub record HasDone (program : Program) (step : Stepped) (watch : Watcher) (old new : List Action) : Type 0 where
  pub come : HasCome program step.world watch
  pub added : new ≡ old ++ step.actions

-- the first move that is allowed is the one of this number, or there is none
abbrev pub IsFirst : Program → World → Option ℕ → Type 0
IsFirst program w None = own_move program w ≡ None
IsFirst program w (Some k) = (after : Stepped) × (own_move program w ≡ Some after) × (proc_step program w (move_step k) ≡ Some after)

-- it has made this move, or there is none and nothing has changed
abbrev pub HasMoved : Program → World → Option Stepped → Bool → Watcher → List Action → List Action → Type 0
HasMoved program w step false watch old new = (step ≡ None) × HasCome program w watch × (new ≡ old)
HasMoved program w step true watch old new = (after : Stepped) × (step ≡ Some after) × HasDone program after watch old new

-- A watch beside a run: what it is handed, what it does by itself, and what it says of the run.
--
-- The program of a watch has as many processes as the program that is watched, and one more. The last one watches. The others
-- never begin: they are there so that a process has the same number in both.
use Rattle.std.specs.Prelude.{◌≡◌, ℕ, zero, suc, Bool, true, false, if◌then◌else◌, List, [], ◌∷◌, ◌++◌, codes, length, map, Option, Some, None}
use Rattle.std.specs.List.{flat_map, list_any}
use Rattle.da_values.specs.declared.val.Val.{Val}
use Rattle.da_values.specs.declared.val.Val.TheVariants as val
use Rattle.da_values.specs.Value.{val_of}
use Rattle.da_lang.specs.declared.event.Action.{Action}
use Rattle.da_lang.specs.declared.event.Action.TheVariants.{Fault, Out}
use Rattle.da_lang.specs.declared.event.FaultKind.TheVariants.{TooLong}
use Rattle.da_lang.specs.declared.program.Class.{Class}
use Rattle.da_lang.specs.declared.program.Program.{Program}
use Rattle.da_lang.specs.Runs.{max_turns}
use Rattle.da_lang.specs.Shaped.{well_typed}
use Rattle.da_lang.specs.Steps.{Step, Deliver, Stepped, move_step, proc_step}
use Rattle.da_lang.specs.World.{Faulted, World, class_of, opening}
use Rattle.da_core.specs.Told.{numbers_to}
use Rattle.da_system.specs.Choices.{alternatives}

-- the number of the process that watches
abbrev pub watcher : Program → ℕ
watcher watch = length watch.procs

-- WHAT IT IS HANDED

-- a message from process p, which arrives at once; messages of its program alone are handed on
abbrev pub message_from : Program → ℕ → Val → List Step
message_from watch p v = if well_typed watch v then Deliver v p 0 ∷ [] else []

-- for an action of the program that is watched: what it puts out
abbrev pub handed_for : Program → Action → List Step
handed_for watch (Out p v) = message_from watch p (val_of v)
handed_for watch _ = []

abbrev pub handed : Program → List Action → List Step
handed watch actions = flat_map (handed_for watch) actions

-- `('quiet',)`, from itself
abbrev pub quiet_val : Val
quiet_val = val.Tuple (val.Text (codes "quiet") ∷ [])

abbrev pub quiet : Program → List Step
quiet watch = message_from watch (watcher watch) quiet_val

-- WHAT IT DOES BY ITSELF

-- the moves that a process may have, in their order: the one from the opening or a label, and then each alternative
abbrev pub moves : World → List Step
moves w = map move_step (0 ∷ numbers_to (alternatives w.phase w.todo))

-- the first of some steps that is allowed
abbrev pub or_else : Option Stepped → Option Stepped → Option Stepped
or_else None other = other
or_else (Some step) other = Some step

abbrev pub first_allowed : Program → World → List Step → Option Stepped
first_allowed watch w [] = None
first_allowed watch w (step ∷ steps) = or_else (proc_step watch w step) (first_allowed watch w steps)

abbrev pub own_move : Program → World → Option Stepped
own_move watch w = first_allowed watch w (moves w)

-- these actions, and then what the rest does
abbrev pub then_on : List Action → Stepped → Stepped
then_on actions rest = record rest { actions = actions ++ rest.actions }

-- a step, if it is allowed, and then the rest
abbrev pub at_step : World → Option Stepped → (World → Stepped) → Stepped
at_step w None rest = record { world = w; actions = [] }
at_step w (Some step) rest = then_on step.actions (rest step.world)

-- a process that a fault has ended, at the line of its class
abbrev pub class_line : Option Class → ℕ
class_line None = 0
class_line (Some class) = class.line

abbrev pub faulted : Program → World → Stepped
faulted watch w = record { world = record w { phase = Faulted }; actions = Fault w.data'.me TooLong (class_line (class_of watch w.data'.me)) ∷ [] }

-- one move more would be one too many
abbrev pub worn_out : Program → World → Option Stepped → Stepped
worn_out watch w None = record { world = w; actions = [] }
worn_out watch w (Some step) = faulted watch w

-- it moves until no move is allowed; after so many a further one is one too many
unfoldable pub settled : Program → ℕ → World → Stepped
settled watch zero w = worn_out watch w (own_move watch w)
settled watch (suc left) w = at_step w (own_move watch w) (λ after. settled watch left after)

-- WHAT IT DOES BESIDE A RUN

-- it takes a message in, where it may, and settles
abbrev pub hears : Program → World → Step → Stepped
hears watch w message = at_step w (proc_step watch w message) (λ after. settled watch max_turns after)

-- one message after the other
abbrev pub hears_all : Program → World → List Step → Stepped
hears_all watch w [] = record { world = w; actions = [] }
hears_all watch w (message ∷ messages) = let first = hears watch w message in then_on first.actions (hears_all watch first.world messages)

-- before any event it begins, and settles
abbrev pub begun : Program → Stepped
begun watch = settled watch max_turns (opening watch (watcher watch))

-- beside these actions
abbrev pub beside : Program → List Action → Stepped
beside watch actions = let first = begun watch in then_on first.actions (hears_all watch first.world (handed watch actions))

-- and when all is quiet after them
abbrev pub at_quiet : Program → List Action → Stepped
at_quiet watch actions = hears_all watch (beside watch actions).world (quiet watch)

-- WHAT IT SAYS: what it puts out, and a fault of its own

abbrev pub is_said : Action → Bool
is_said (Out p v) = true
is_said (Fault p kind line) = true
is_said _ = false

abbrev pub Complains : Stepped → Type 0
Complains after = list_any is_said after.actions ≡ true

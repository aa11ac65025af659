-- What is told of a run beside a watch, event by event.
use Rattle.std.specs.Prelude.{ℕ, ◌+◌, Bool, not, if◌then◌else◌, List, [], ◌∷◌, ◌++◌, Option, Some, None}
use Rattle.std.specs.List.{filter, list_any}
use Rattle.da_lang.specs.declared.event.Action.{Action}
use Rattle.da_lang.specs.declared.event.Action.TheVariants.{Stop}
use Rattle.da_lang.specs.declared.event.Event.{Event}
use Rattle.da_lang.specs.declared.program.Program.{Program}
use Rattle.da_lang.specs.Steps.{Stepped}
use Rattle.da_lang.specs.World.{World}
use Rattle.da_system.specs.SystemStep.{AfterEvent, SystemState, start, sys_step}
use Rattle.schedule_walk.specs.Allowed.{allowed}
use Rattle.schedule_walk.specs.Rest.{goes_on}
use Rattle.run_watch.specs.Watching.{begun, handed, hears_all, is_said, quiet}

-- no move, no timeout and no delivery is allowed
abbrev pub is_at_rest : Program → SystemState → Bool
is_at_rest program s = not (list_any goes_on (allowed program s))

-- of what a watch does, what it says
abbrev pub said : Stepped → List Action
said after = filter is_said after.actions

-- at the end, what it says when all is quiet
abbrev pub told_at_end : Program → Program → SystemState → World → List Action
told_at_end program watch s w = if is_at_rest program s then said (hears_all watch w (quiet watch)) else []

-- at event i the actions of the event, and then what the watch says of them; a run that stops is told up to there
abbrev pub at_event : ℕ → Program → World → Option AfterEvent → (SystemState → World → List Action) → List Action
at_event i watch w None rest = Stop i ∷ []
at_event i watch w (Some after) rest =
    let heard = hears_all watch w (handed watch after.actions) in
    after.actions ++ said heard ++ rest after.state heard.world

-- the events from this state, where the watch stands so; they are numbered from i on
abbrev pub told_from : Program → Program → ℕ → SystemState → World → List Event → List Action
told_from program watch i s w [] = told_at_end program watch s w
told_from program watch i s w (e ∷ es) = at_event i watch w (sys_step program s e) (λ next after. told_from program watch (i + 1) next after es)

-- what the watch says at its beginning comes first
abbrev pub told : Program → Program → List Event → List Action
told program watch events = let first = begun watch in said first ++ told_from program watch 1 (start program) first.world events

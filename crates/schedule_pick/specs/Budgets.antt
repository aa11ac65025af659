-- The events that may be picked: all that are allowed, whatever their place in a channel, as long as there are no more losses and
-- repetitions than a budget has.
use Rattle.std.specs.Prelude.{◌≡◌, ◌↔◌, ◌-◌, nat_lt, Bool, true, List, [], ◌∷◌, IsSome, IsTrue}
use Rattle.std.specs.List.{filter}
use Rattle.da_values.specs.Sets.{Has}
use Rattle.da_lang.specs.declared.event.Event.{Event}
use Rattle.da_lang.specs.declared.event.Event.TheVariants.{Lose, Repeat}
use Rattle.da_lang.specs.declared.program.Program.{Program}
use Rattle.da_system.specs.SystemStep.{SystemState, sys_step}
use Rattle.schedule_pick.specs.declared.budget.Budget.{Budget}
use Rattle.schedule_walk.specs.Allowed.{allowed}
use Rattle.trace_join.specs.Joins.{IsPlain}

-- an event is within a budget: losses and repetitions ask for some of it
abbrev pub is_within : Budget → Event → Bool
is_within budget (Lose p q i) = nat_lt 0 budget.losses
is_within budget (Repeat p q i) = nat_lt 0 budget.repetitions
is_within budget _ = true

-- what an event leaves of it
abbrev pub without_loss : Budget → Budget
without_loss budget = record budget { losses = budget.losses - 1 }

abbrev pub without_repetition : Budget → Budget
without_repetition budget = record budget { repetitions = budget.repetitions - 1 }

abbrev pub spent : Budget → Event → Budget
spent budget (Lose p q i) = without_loss budget
spent budget (Repeat p q i) = without_repetition budget
spent budget _ = budget

-- THE EVENTS: all that are allowed but for `show` and `stat`, in their order, within the budget
abbrev pub pickable : Program → SystemState → Budget → List Event
pickable program s budget = filter (is_within budget) (allowed program s)

-- the list is all there is: an event is among them exactly where it is no `show` or `stat`, has a step, and is within the budget
pub record ListsPickable (program : Program) (s : SystemState) (budget : Budget) (events : List Event) : Type 0 where
  pub are : events ≡ pickable program s budget
  pub all : (e : Event) → Has events e ↔ (IsPlain e × IsSome (sys_step program s e) × IsTrue (is_within budget e))

-- HOW MANY LOSSES AND REPETITIONS A SCHEDULE HAS: each of its events is within what those before it have left
abbrev pub KeepsTo : Budget → List Event → Type 0
KeepsTo budget [] = Unit {0}
KeepsTo budget (e ∷ es) = IsTrue (is_within budget e) × KeepsTo (spent budget e) es

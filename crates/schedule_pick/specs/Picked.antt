-- The schedule that a number generates for a hunt.
use Rattle.std.specs.Prelude.{ℕ, zero, suc, ◌+◌, ◌%◌, ◌==◌, if◌then◌else◌, List, [], ◌∷◌, length, Option, Some, None}
use Rattle.std.specs.List.{list_any}
use Rattle.da_lang.specs.declared.event.Event.{Event}
use Rattle.da_lang.specs.declared.program.Program.{Program}
use Rattle.da_system.specs.StressRun.{next_number, pick, state_after}
use Rattle.da_system.specs.SystemStep.{SystemState, start, sys_step}
use Rattle.schedule_pick.specs.declared.budget.Budget.{Budget}
use Rattle.schedule_pick.specs.declared.order.Actor.{Actor}
use Rattle.schedule_pick.specs.declared.picker.Picker.{Picker}
use Rattle.schedule_pick.specs.declared.strategy.Setting.{Setting}
use Rattle.schedule_pick.specs.declared.strategy.Strategy.{Strategy}
use Rattle.schedule_pick.specs.declared.strategy.Strategy.TheVariants.{Uniform, Priorities, Turns}
use Rattle.schedule_pick.specs.Budgets.{pickable, spent}
use Rattle.schedule_pick.specs.Orders.{actors, fallen, foremost, number_after, places, shuffled}

-- HOW IT IS PICKED: without an order, or by one in which so many fall. By turns that goes by the number.

abbrev pub falls_by_turn : ℕ → Option ℕ
falls_by_turn zero = None
falls_by_turn (suc n) = Some (suc n)

abbrev pub falls_of : Strategy → ℕ → Option ℕ
falls_of Uniform number = None
falls_of (Priorities falls) number = Some falls
falls_of Turns number = falls_by_turn (number % 4)

-- BEFORE THE FIRST EVENT: the first numbers make the order, the next ones the places where one falls, and the others pick the events
abbrev pub picker_by : Option ℕ → ℕ → Budget → ℕ → ℕ → Picker
picker_by None count budget most number = record { number = number; budget = budget; order = []; falls = []; place = 0 }
picker_by (Some falls) count budget most number =
    let all = actors count budget in
    let ordered = number_after (length all) number in
    record { number = number_after falls ordered; budget = budget; order = shuffled (length all) number all; falls = places falls ordered most; place = 0 }

abbrev pub first_picker : ℕ → Setting → ℕ → ℕ → Picker
first_picker count setting most number = picker_by (falls_of setting.strategy number) count setting.budget most number

-- ONE EVENT: at a place where one falls, it does so before the event is picked

abbrev pub order_for : Picker → List Event → List Actor
order_for picker events = if list_any (λ place. place == picker.place) picker.falls then fallen picker.order events else picker.order

abbrev pub with_order : Picker → List Actor → Picker
with_order picker order = record picker { order = order }

abbrev pub picked : Picker → List Event → Option Event
picked picker events = pick (foremost (order_for picker events) events) (next_number picker.number)

abbrev pub picker_after : Picker → List Event → Event → Picker
picker_after picker events e = record {
  number = next_number picker.number;
  budget = spent picker.budget e;
  order = order_for picker events;
  falls = picker.falls;
  place = picker.place + 1;
}

-- THE SCHEDULE ends where no event was picked

abbrev pub at_event : Option Event → (Event → List Event) → List Event
at_event None go = []
at_event (Some e) go = e ∷ go e

-- at most n events from this state
abbrev pub picked_from : Program → ℕ → Picker → SystemState → List Event
picked_from program zero picker s = []
picked_from program (suc n) picker s =
    let events = pickable program s picker.budget in
    at_event (picked picker events) (λ e. picked_from program n (picker_after picker events e) (state_after s (sys_step program s e)))

abbrev pub hunted : Program → Setting → ℕ → ℕ → List Event
hunted program setting most number = picked_from program most (first_picker (length program.procs) setting most number) (start program)

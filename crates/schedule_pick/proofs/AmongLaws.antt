-- What is picked is one of the events that are allowed.
use Rattle.std.proofs.Common.{◌≡◌, refl, ℕ, zero, suc, inl, inr, List, [], ◌∷◌, length}
use Rattle.std.specs.Prelude.{◌⊎◌, Option, Some, None, IsSome, IsTrue, slice_get}
use Rattle.std.specs.List.{filter}
use Rattle.da_values.specs.Sets.{Has}
use Rattle.da_values.proofs.Members.{of_filter}
use Rattle.da_lang.specs.declared.event.Event.{Event}
use Rattle.da_lang.specs.declared.program.Program.{Program}
use Rattle.da_system.specs.Choices.{is_allowed}
use Rattle.da_system.specs.StressRun.{next_number, place_in, state_after}
use Rattle.da_system.specs.SystemStep.{SystemState, sys_step}
use Rattle.schedule_walk.specs.Allowed.{allowed, candidates}
use Rattle.schedule_pick.specs.declared.order.Actor.{Actor}
use Rattle.schedule_pick.specs.declared.picker.Picker.{Picker}
use Rattle.schedule_pick.specs.Budgets.{KeepsTo, is_within, pickable, spent}
use Rattle.schedule_pick.specs.Orders.{foremost, is_of, or_those}
use Rattle.schedule_pick.specs.Picked.{at_event, order_for, picked, picked_from, picker_after}

has_at : (events : List Event) (place : ℕ) (e : Event) → slice_get events place ≡ Some e → Has events e
has_at [] place e there = let clash : ◌≡◌ {A = Option Event} None (Some e) = there in absurd (cc)
has_at (x ∷ xs) zero e there = let same : ◌≡◌ {A = Option Event} (Some x) (Some e) = there in let first : e ≡ x = cc in inl first
has_at (x ∷ xs) (suc place) e there = inr (has_at xs place e there)

of_either : (xs ys : List Event) (e : Event) → Has (or_those xs ys) e → Has xs e ⊎ Has ys e
of_either [] ys e has = inr has
of_either (x ∷ xs) ys e has = inl has

of_foremost : (order : List Actor) (events : List Event) (e : Event) → Has (foremost order events) e → Has events e
of_foremost [] events e has = has
of_foremost (actor ∷ order) events e has = of (λ later. of_foremost order events e later) (of_either (filter (is_of actor) events) (foremost order events) e has)
  where
    of : (Has (foremost order events) e → Has events e) → Has (filter (is_of actor) events) e ⊎ Has (foremost order events) e → Has events e
    of behind (inl first) = (of_filter (is_of actor) events e first).0
    of behind (inr later) = behind later

has_picked : (program : Program) (s : SystemState) (picker : Picker) (e : Event) → picked picker (pickable program s picker.budget) ≡ Some e → Has (pickable program s picker.budget) e
has_picked program s picker e is =
    let events = pickable program s picker.budget in
    let order = order_for picker events in
    of_foremost order events e (has_at (foremost order events) (place_in (length (foremost order events)) (next_number picker.number)) e is)

-- a picked event is allowed, and within the budget
pub allowed_picked : (program : Program) (s : SystemState) (picker : Picker) (e : Event) → picked picker (pickable program s picker.budget) ≡ Some e → IsSome (sys_step program s e)
allowed_picked program s picker e is =
    (of_filter (is_allowed program s) (candidates s) e (of_filter (is_within picker.budget) (allowed program s) e (has_picked program s picker e is)).0).1

within_picked : (program : Program) (s : SystemState) (picker : Picker) (e : Event) → picked picker (pickable program s picker.budget) ≡ Some e → IsTrue (is_within picker.budget e)
within_picked program s picker e is = (of_filter (is_within picker.budget) (allowed program s) e (has_picked program s picker e is)).1

-- so each generated schedule keeps to its budget
pub keeps_to : (program : Program) (n : ℕ) (picker : Picker) (s : SystemState) → KeepsTo picker.budget (picked_from program n picker s)
keeps_to program zero picker s = tt
keeps_to program (suc n) picker s = of (λ e. keeps_to program n (picker_after picker (pickable program s picker.budget) e) (state_after s (sys_step program s e))) (picked picker (pickable program s picker.budget)) refl
  where
    of : ((e : Event) → KeepsTo (spent picker.budget e) (picked_from program n (picker_after picker (pickable program s picker.budget) e) (state_after s (sys_step program s e)))) → (found : Option Event) → picked picker (pickable program s picker.budget) ≡ found
        → KeepsTo picker.budget (at_event found (λ e. picked_from program n (picker_after picker (pickable program s picker.budget) e) (state_after s (sys_step program s e))))
    of behind None is = tt
    of behind (Some e) is = (within_picked program s picker e is, behind e)

-- Who is the first in an order that has an event.
use Rattle.std.specs.Prelude.{◌≡◌, ℕ, true, false, List, Some, slice_get, take}
use Rattle.std.specs.List.{All, list_any}
use Rattle.da_lang.specs.declared.event.Event.{Event}
use Rattle.schedule_pick.specs.declared.order.Actor.{Actor}
use Rattle.schedule_pick.specs.Orders.{is_of}

-- an actor has none of these events
abbrev pub HasNone : List Event → Actor → Type 0
HasNone events actor = list_any (is_of actor) events ≡ false

-- the one at this place has one of them, and those before it have none
pub record IsFirstOf (events : List Event) (order : List Actor) (place : ℕ) : Type 0 where
  pub actor : Actor
  pub there : slice_get order place ≡ Some actor
  pub has : list_any (is_of actor) events ≡ true
  pub before : All (HasNone events) (take place order)

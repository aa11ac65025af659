-- Who goes before whom: the processes and the channels of a program in an order that numbers make, in which some fall to the end. A
-- channel has a place for its deliveries, and one each for its losses and its repetitions where there may be some.
use Rattle.std.specs.Prelude.{ℕ, zero, suc, ◌==◌, ◌&&◌, nat_lt, Bool, true, if◌then◌else◌, List, [], ◌∷◌, ◌++◌, length, map, slice_get, Option, Some, None}
use Rattle.std.specs.List.{filter, flat_map, list_any, remove}
use Rattle.da_core.specs.Told.{numbers_to}
use Rattle.da_lang.specs.declared.event.Event.{Event}
use Rattle.da_lang.specs.declared.event.Event.TheVariants.{Move, Take, Timeout, Deliver, Lose, Repeat, Show, Stat}
use Rattle.da_system.specs.StressRun.{next_number, place_in}
use Rattle.schedule_pick.specs.declared.budget.Budget.{Budget}
use Rattle.schedule_pick.specs.declared.order.Actor.{Actor}

-- ACTORS: a process; or one way to deal with the channel from one process to another, which delivers (0), loses (1) or repeats (2)

abbrev pub process : ℕ → Actor
process p = record { from = p; to = 0; way = 0 }

abbrev pub channel : ℕ → ℕ → ℕ → Actor
channel way p q = record { from = p; to = q; way = way }

-- whose event it is
abbrev pub actor_of : Event → Actor
actor_of (Move p) = process p
actor_of (Take p k) = process p
actor_of (Timeout p) = process p
actor_of (Deliver p q i) = channel 0 p q
actor_of (Lose p q i) = channel 1 p q
actor_of (Repeat p q i) = channel 2 p q
actor_of (Show p) = process p
actor_of (Stat p) = process p

abbrev pub same_actor : Actor → Actor → Bool
same_actor one other = one.from == other.from && one.to == other.to && one.way == other.way

abbrev pub is_of : Actor → Event → Bool
is_of actor e = same_actor (actor_of e) actor

-- those of so many processes: the processes, and then each way, as far as the budget has it, with the channels by the numbers of
-- their senders and recipients
abbrev pub channels_from : ℕ → ℕ → ℕ → List Actor
channels_from way count p = map (channel way p) (numbers_to count)

abbrev pub channels_if : Bool → ℕ → ℕ → List Actor
channels_if wanted way count = if wanted then flat_map (channels_from way count) (numbers_to count) else []

abbrev pub actors : ℕ → Budget → List Actor
actors count budget =
    map process (numbers_to count)
    ++ channels_if true 0 count
    ++ channels_if (nat_lt 0 budget.losses) 1 count
    ++ channels_if (nat_lt 0 budget.repetitions) 2 count

-- NUMBERS

-- the number that comes so many after x
abbrev pub number_after : ℕ → ℕ → ℕ
number_after zero x = x
number_after (suc k) x = number_after k (next_number x)

abbrev pub at_actor : Option Actor → (Actor → List Actor) → List Actor
at_actor None go = []
at_actor (Some actor) go = actor ∷ go actor

-- the number after x picks the first, the one after it the second of those that are left, and so on
abbrev pub shuffled : ℕ → ℕ → List Actor → List Actor
shuffled zero x left = []
shuffled (suc n) x left =
    let next = next_number x in
    let place = place_in (length left) next in
    at_actor (slice_get left place) (λ actor. shuffled n next (remove left place))

-- so many places in a schedule of at most so many events, counted from 0
abbrev pub places : ℕ → ℕ → ℕ → List ℕ
places zero x most = []
places (suc n) x most = let next = next_number x in place_in most next ∷ places n next most

-- THE FIRST

-- the events of the first in the order that has some; without an order all of them
abbrev pub or_those : List Event → List Event → List Event
or_those [] others = others
or_those (e ∷ es) others = e ∷ es

abbrev pub foremost : List Actor → List Event → List Event
foremost [] events = events
foremost (actor ∷ order) events = or_those (filter (is_of actor) events) (foremost order events)

-- the first that has some falls to the end
abbrev pub fallen : List Actor → List Event → List Actor
fallen [] events = []
fallen (actor ∷ order) events = if list_any (is_of actor) events then order ++ actor ∷ [] else actor ∷ fallen order events

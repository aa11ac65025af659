-- The first in an order that has one of some events.
use Rattle.std.proofs.Common.{◌≡◌, refl, sym, ◌∙◌, ap, subst, ℕ, zero, suc, ◌+◌, ◌<◌, ◌≤◌, Bool, true, false, cond, List, [], ◌∷◌, ◌++◌, length, get_or, take, take_all}
use Rattle.std.specs.Prelude.{◌||◌, Option, Some, None, slice_get}
use Rattle.std.specs.List.{All, filter, list_any, remove}
use Rattle.std.proofs.lemmas.Bool.{false≢true}
use Rattle.std.proofs.lemmas.List.{take_more}
use Rattle.std.proofs.lemmas.List.Elements.{All-head, All-tail, filter-append}
use Rattle.std.proofs.lemmas.List.Folds.{list_any_at, list_any_more}
use Rattle.std.proofs.lemmas.Option.{slice_get-get_or}
use Rattle.da_lang.specs.declared.event.Event.{Event}
use Rattle.schedule_pick.specs.declared.order.Actor.{Actor}
use Rattle.schedule_pick.specs.Orders.{fallen, foremost, is_of, or_those}
use Rattle.schedule_pick.specs.OrderSteps.{HasNone, IsFirstOf}

-- THOSE OF AN ACTOR, one event after the other
pub kept_on : (test : Event → Bool) (events : List Event) (i : ℕ) (d : Event) (mid new : List Event) → i < length events → mid ≡ filter test (take i events) → new ≡ mid ++ filter test (get_or events i d ∷ [])
    → new ≡ filter test (take (i + 1) events)
kept_on test events i d mid new inside before added =
    added ∙ ap (λ es. es ++ filter test (get_or events i d ∷ [])) before ∙ sym (filter-append test (take i events) (get_or events i d ∷ [])) ∙ ap (filter test) (sym (take_more events i d inside))

pub kept_all : (test : Event → Bool) (events : List Event) (i : ℕ) (found : List Event) → length events ≤ i → found ≡ filter test (take i events) → found ≡ filter test events
kept_all test events i found end is = is ∙ ap (filter test) (take_all i events end)

-- SOME EVENT PASSES A TEST

-- no event so far, and none at this place
pub none_more : (test : Event → Bool) (events : List Event) (i : ℕ) (d : Event) (b : Bool) → i < length events → list_any test (take i events) ≡ false → b ≡ test (get_or events i d) → b ≡ false
    → list_any test (take (i + 1) events) ≡ false
none_more test events i d b inside none told never = list_any_more test events i d inside ∙ ap (λ x. x || test (get_or events i d)) none ∙ sym told ∙ never

-- the one at this place
pub some_here : (test : Event → Bool) (events : List Event) (i : ℕ) (d : Event) (b : Bool) → i < length events → b ≡ test (get_or events i d) → b ≡ true → true ≡ list_any test events
some_here test events i d b inside told is = sym (list_any_at test events i d inside (sym told ∙ is))

-- none at all
pub none_there : (test : Event → Bool) (events : List Event) (i : ℕ) → length events ≤ i → list_any test (take i events) ≡ false → false ≡ list_any test events
none_there test events i end none = sym (ap (list_any test) (sym (take_all i events end)) ∙ none)

none_of : (test : Event → Bool) (events : List Event) → list_any test events ≡ false → filter test events ≡ []
none_of test [] never = refl
none_of test (e ∷ es) never = go (test e) never (none_of test es)
  where
    go : (b : Bool) → (b || list_any test es) ≡ false → (list_any test es ≡ false → filter test es ≡ []) → cond b (e ∷ filter test es) (filter test es) ≡ []
    go true never rest = absurd (false≢true (sym never))
    go false never rest = rest never

or_some : (test : Event → Bool) (events others : List Event) → list_any test events ≡ true → or_those (filter test events) others ≡ filter test events
or_some test [] others some = absurd (false≢true some)
or_some test (e ∷ es) others some = go (test e) some (or_some test es others)
  where
    go : (b : Bool) → (b || list_any test es) ≡ true → (list_any test es ≡ true → or_those (filter test es) others ≡ filter test es) → or_those (cond b (e ∷ filter test es) (filter test es)) others ≡ cond b (e ∷ filter test es) (filter test es)
    go true some rest = refl
    go false some rest = rest some

-- THE FIRST

pub first_here : (events : List Event) (order : List Actor) (place : ℕ) (d : Actor) (b : Bool) → place < length order → b ≡ list_any (is_of (get_or order place d)) events → b ≡ true → All (HasNone events) (take place order)
    → IsFirstOf events order place
first_here events order place d b inside told is before = record { actor = get_or order place d; there = slice_get-get_or order place d inside; has = sym told ∙ is; before = before }

pub none_first : (events : List Event) (order : List Actor) (place : ℕ) → length order ≤ place → All (HasNone events) (take place order) → All (HasNone events) order
none_first events order place end before = subst (All (HasNone events)) (take_all place order end) before

-- what is so of one that has none, and of one that has some
at_none : (events : List Event) (actor : Actor) (order : List Actor) → HasNone events actor → foremost (actor ∷ order) events ≡ foremost order events
at_none events actor order none = ap (λ es. or_those es (foremost order events)) (none_of (is_of actor) events none)

fallen_on : (events : List Event) (actor : Actor) (order : List Actor) → HasNone events actor → fallen (actor ∷ order) events ≡ actor ∷ fallen order events
fallen_on events actor order none = ap (λ b. cond b (order ++ actor ∷ []) (actor ∷ fallen order events)) none

fallen_here : (events : List Event) (actor : Actor) (order : List Actor) → list_any (is_of actor) events ≡ true → fallen (actor ∷ order) events ≡ order ++ actor ∷ []
fallen_here events actor order some = ap (λ b. cond b (order ++ actor ∷ []) (actor ∷ fallen order events)) some

pub foremost_none : (events : List Event) (order : List Actor) → All (HasNone events) order → foremost order events ≡ events
foremost_none events [] none = refl
foremost_none events (actor ∷ order) none = at_none events actor order (All-head (HasNone events) actor order none) ∙ foremost_none events order (All-tail (HasNone events) actor order none)

pub fallen_none : (events : List Event) (order : List Actor) → All (HasNone events) order → order ≡ fallen order events
fallen_none events [] none = refl
fallen_none events (actor ∷ order) none =
    sym (fallen_on events actor order (All-head (HasNone events) actor order none) ∙ ap (λ others. actor ∷ others) (sym (fallen_none events order (All-tail (HasNone events) actor order none))))

same_some : (a b : Actor) → ◌≡◌ {A = Option Actor} (Some a) (Some b) → a ≡ b
same_some a b is = cc

no_actor : (a : Actor) → ◌≡◌ {A = Option Actor} None (Some a) → ⊥
no_actor a is = cc

-- by the place of the first
module _ (events : List Event) (actor : Actor) (has : list_any (is_of actor) events ≡ true) where
  foremost_in : (order : List Actor) (place : ℕ) → slice_get order place ≡ Some actor → All (HasNone events) (take place order) → foremost order events ≡ filter (is_of actor) events
  foremost_in [] place there before = absurd (no_actor actor there)
  foremost_in (a ∷ order) zero there before =
      let same : a ≡ actor = same_some a actor there in
      ap (λ x. foremost (x ∷ order) events) same ∙ or_some (is_of actor) events (foremost order events) has
  foremost_in (a ∷ order) (suc place) there before =
      at_none events a order (All-head (HasNone events) a (take place order) before) ∙ foremost_in order place there (All-tail (HasNone events) a (take place order) before)

  fallen_in : (order : List Actor) (place : ℕ) → slice_get order place ≡ Some actor → All (HasNone events) (take place order) → remove order place ++ actor ∷ [] ≡ fallen order events
  fallen_in [] place there before = absurd (no_actor actor there)
  fallen_in (a ∷ order) zero there before =
      let same : a ≡ actor = same_some a actor there in
      ap (λ x. order ++ x ∷ []) (sym same) ∙ sym (fallen_here events a order (subst (λ x. list_any (is_of x) events ≡ true) (sym same) has))
  fallen_in (a ∷ order) (suc place) there before =
      ap (λ others. a ∷ others) (fallen_in order place there (All-tail (HasNone events) a (take place order) before)) ∙ sym (fallen_on events a order (All-head (HasNone events) a (take place order) before))

pub foremost_at : (events : List Event) (order : List Actor) (place : ℕ) (d : Actor) → place < length order → IsFirstOf events order place → foremost order events ≡ filter (is_of (get_or order place d)) events
foremost_at events order place d inside first =
    let same : first.actor ≡ get_or order place d = same_some first.actor (get_or order place d) (sym first.there ∙ slice_get-get_or order place d inside) in
    foremost_in events first.actor first.has order place first.there first.before ∙ ap (λ a. filter (is_of a) events) same

pub falls_to_end : (events : List Event) (order : List Actor) (place : ℕ) (actor : Actor) (rest new : List Actor) → IsFirstOf events order place → slice_get order place ≡ Some actor → rest ≡ remove order place → new ≡ rest ++ actor ∷ []
    → new ≡ fallen order events
falls_to_end events order place actor rest new first there taken added =
    let same : first.actor ≡ actor = same_some first.actor actor (sym first.there ∙ there) in
    let has : list_any (is_of actor) events ≡ true = subst (λ a. list_any (is_of a) events ≡ true) same first.has in
    added ∙ ap (λ xs. xs ++ actor ∷ []) taken ∙ fallen_in events actor has order place there first.before

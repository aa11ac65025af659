-- The events that may be picked, and how one is.
use Rattle.std.proofs.Common.{◌≡◌, refl, sym, ◌∙◌, ap, subst, ℕ, zero, suc, ◌+◌, ◌<◌, Bool, true, false, cond, List, [], ◌∷◌, length, get_or, arith}
use Rattle.std.specs.Prelude.{◌==◌, Option, Some, None, nat_lt, slice_get}
use Rattle.std.specs.List.{list_any}
use Rattle.std.proofs.lemmas.Option.{slice_get-get_or}
use Rattle.da_values.proofs.Members.{Has-filter, of_filter}
use Rattle.da_values.specs.Sets.{Has}
use Rattle.da_lang.specs.declared.event.Event.{Event}
use Rattle.da_lang.specs.declared.program.Program.{Program}
use Rattle.da_system.specs.SoundState.{IsSoundState}
use Rattle.da_system.specs.StressRun.{next_number, pick, place_in}
use Rattle.da_system.specs.SystemStep.{SystemState}
use Rattle.schedule_walk.specs.Allowed.{allowed, allowed_with}
use Rattle.schedule_walk.proofs.AllowedLaws.{lists_allowed}
use Rattle.schedule_walk.proofs.WithinLaws.{within_is}
use Rattle.schedule_pick.specs.declared.budget.Budget.{Budget}
use Rattle.schedule_pick.specs.declared.order.Actor.{Actor}
use Rattle.schedule_pick.specs.declared.picker.Picker.{Picker}
use Rattle.schedule_pick.specs.declared.strategy.Setting.{Setting}
use Rattle.schedule_pick.specs.Budgets.{ListsPickable, is_within, pickable, spent}
use Rattle.schedule_pick.specs.Orders.{actors, fallen, foremost, number_after, places, shuffled}
use Rattle.schedule_pick.specs.Picked.{falls_by_turn, falls_of, first_picker, order_for, picked, picker_after, picker_by, with_order}

-- WHAT IS WITHIN A BUDGET

-- the list without what the budget has none of is that of the events within it
pickable_is : (program : Program) (s : SystemState) (budget : Budget) → allowed_with (nat_lt 0 budget.losses) (nat_lt 0 budget.repetitions) program s ≡ pickable program s budget
pickable_is program s budget =
    within_is (is_within budget) (nat_lt 0 budget.losses) (nat_lt 0 budget.repetitions) (λ p. refl) (λ p k. refl) (λ p. refl) (λ p q i. refl) (λ p q i. refl) (λ p q i. refl) s program

pub lists_pickable : (program : Program) (s : SystemState) → IsSoundState program s → (budget : Budget) (losses repetitions : Bool) → losses ≡ nat_lt 0 budget.losses → repetitions ≡ nat_lt 0 budget.repetitions
    → (events : List Event) → events ≡ allowed_with losses repetitions program s → ListsPickable program s budget events
lists_pickable program s sound budget losses repetitions some_losses some_repetitions events listed =
    let are : events ≡ pickable program s budget =
    listed ∙ ap (λ l. allowed_with l repetitions program s) some_losses ∙ ap (λ r. allowed_with (nat_lt 0 budget.losses) r program s) some_repetitions ∙ pickable_is program s budget in
    let all = lists_allowed program s sound (allowed program s) refl in
    record {
      are = are;
      all = λ e. (
        λ has.
            let (among, is) = of_filter (is_within budget) (allowed program s) e (subst (λ es. Has es e) are has) in
            let (plain, there) = (all.all e).0 among in
            (plain, there, is),
        λ three. subst (λ es. Has es e) (sym are) (Has-filter (is_within budget) (allowed program s) e ((all.all e).1 (three.0, three.1)) three.2),
      );
    }

-- BEFORE THE FIRST EVENT

pub falls_none : (turn : ℕ) → turn ≡ 0 → ◌≡◌ {A = Option ℕ} None (falls_by_turn turn)
falls_none zero is = refl
falls_none (suc n) is = absurd (omega (arith, is))

pub falls_some : (turn : ℕ) → (turn ≡ 0 → ⊥) → ◌≡◌ {A = Option ℕ} (Some turn) (falls_by_turn turn)
falls_some zero never = absurd (never refl)
falls_some (suc n) never = refl

pub plain_is : (number : ℕ) (budget : Budget) (order : List Actor) (falls : List ℕ) (picker : Picker) → picker ≡ record { number = number; budget = budget; order = order; falls = falls; place = 0 } → order ≡ [] → falls ≡ []
    → (count most : ℕ) → picker ≡ picker_by None count budget most number
plain_is number budget order falls picker is no_order no_falls count most =
    is ∙ ap (λ (o : List Actor). let p : Picker = record { number = number; budget = budget; order = o; falls = falls; place = 0 } in p) no_order
    ∙ ap (λ (f : List ℕ). let p : Picker = record { number = number; budget = budget; order = []; falls = f; place = 0 } in p) no_falls

pub first_is : (setting : Setting) (count most number : ℕ) (falls form : Option ℕ) (picker : Picker) → falls ≡ falls_of setting.strategy number → falls ≡ form → picker ≡ picker_by form count setting.budget most number
    → picker ≡ first_picker count setting most number
first_is setting count most number falls form picker told is made = made ∙ ap (λ (o : Option ℕ). picker_by o count setting.budget most number) (sym is ∙ told)

-- the picker of this order
abbrev by_order : ℕ → Budget → ℕ → ℕ → List Actor → ℕ → Picker
by_order falls budget most number all ordered = record { number = number_after falls ordered; budget = budget; order = shuffled (length all) number all; falls = places falls ordered most; place = 0 }

pub ordered_is : (count falls most number : ℕ) (budget : Budget) (all order : List Actor) (chosen : List ℕ) (ordered last : ℕ) → all ≡ actors count budget → order ≡ shuffled (length all) number all
    → ordered ≡ number_after (length all) number → chosen ≡ places falls ordered most → last ≡ number_after falls ordered
    → (picker : Picker) → picker ≡ record { number = last; budget = budget; order = order; falls = chosen; place = 0 } → picker ≡ picker_by (Some falls) count budget most number
ordered_is count falls most number budget all order chosen ordered last all_is order_is here chosen_is last_is picker is =
    is
    ∙ ap (λ (n : ℕ). let p : Picker = record { number = n; budget = budget; order = order; falls = chosen; place = 0 } in p) last_is
    ∙ ap (λ (o : List Actor). let p : Picker = record { number = number_after falls ordered; budget = budget; order = o; falls = chosen; place = 0 } in p) order_is
    ∙ ap (λ (f : List ℕ). let p : Picker = record { number = number_after falls ordered; budget = budget; order = shuffled (length all) number all; falls = f; place = 0 } in p) chosen_is
    ∙ ap (by_order falls budget most number all) here
    ∙ ap (λ (xs : List Actor). by_order falls budget most number xs (number_after (length xs) number)) all_is

-- ONE EVENT

pub none_some : (e : Event) → ◌≡◌ {A = Option Event} None (Some e) → ⊥
none_some e is = cc

pub picked_none : (events : List Event) (number count : ℕ) → count ≡ length events → count ≡ 0 → ◌≡◌ {A = Option Event} None (pick events number)
picked_none [] number count size none = refl
picked_none (e ∷ es) number count size none = absurd (omega (arith, size, none))

pub picked_one : (events : List Event) (number place count : ℕ) (d : Event) → count ≡ length events → place ≡ place_in count number → place < count → ◌≡◌ {A = Option Event} (Some (get_or events place d)) (pick events number)
picked_one events number place count d size is inside =
    sym (slice_get-get_or events place d (omega (arith, size, inside))) ∙ ap (slice_get events) (is ∙ ap (λ n. place_in n number) size)

module _ (picker : Picker) (events : List Event) (falls : Bool) (told : falls ≡ list_any (λ place. place == picker.place) picker.falls) where
  pub order_stays : falls ≡ false → picker ≡ with_order picker (order_for picker events)
  order_stays never = ap (λ b. with_order picker (cond b (fallen picker.order events) picker.order)) (sym never ∙ told)

  pub order_falls : (new : Picker) (order : List Actor) → new ≡ with_order picker order → falls ≡ true → order ≡ fallen picker.order events → new ≡ with_order picker (order_for picker events)
  order_falls new order is it order_is = is ∙ ap (with_order picker) (order_is ∙ ap (λ b. cond b (fallen picker.order events) picker.order) (sym it ∙ told))

module _ (old mid : Picker) (events : List Event) (settled : mid ≡ with_order old (order_for old events)) (number : ℕ) (number_is : number ≡ next_number mid.number) where
  pub picks : (order : List Actor) (found : Option Event) → order ≡ mid.order → found ≡ pick (foremost order events) number → found ≡ picked old events
  picks order found same is =
      is ∙ ap (λ (o : List Actor). pick (foremost o events) number) same ∙ ap (pick (foremost mid.order events)) number_is
      ∙ ap (λ (p : Picker). pick (foremost p.order events) (next_number p.number)) settled

  -- what the picker is after an event
  abbrev after_it : ℕ → Budget → Picker
  after_it n budget = record mid { number = n; budget = budget; place = mid.place + 1 }

  pub picked_after : (e f : Event) (budget : Budget) (found : Option Event) (new : Picker) → new ≡ after_it number budget → budget ≡ spent mid.budget f → found ≡ Some f → found ≡ Some e → new ≡ picker_after old events e
  picked_after e f budget found new is budget_is here also =
      let both : ◌≡◌ {A = Option Event} (Some f) (Some e) = sym here ∙ also in
      let same : f ≡ e = cc in
      is ∙ ap (λ n. after_it n budget) number_is ∙ ap (after_it (next_number mid.number)) (budget_is ∙ ap (spent mid.budget) same)
      ∙ ap (λ (p : Picker). let next : Picker = record p { number = next_number p.number; budget = spent p.budget e; place = p.place + 1 } in next) settled

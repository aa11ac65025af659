-- Processes and channels in their order, and what numbers make of it.
use Rattle.std.proofs.Common.{◌≡◌, refl, sym, ◌∙◌, ap, subst, ℕ, zero, suc, ◌+◌, ◌<◌, ◌≤◌, Bool, true, false, List, [], ◌∷◌, ◌++◌, length, map, arith, append_assoc, append-nil}
use Rattle.std.specs.Prelude.{Some, nat_lt, slice_get}
use Rattle.std.specs.List.{flat_map, remove}
use Rattle.std.proofs.lemmas.Bool.{false≢true}
use Rattle.std.proofs.lemmas.List.{flat_map_more, map-append}
use Rattle.std.proofs.lemmas.List.Edits.{length-remove}
use Rattle.da_core.specs.Told.{numbers_to}
use Rattle.da_system.specs.StressRun.{next_number, place_in}
use Rattle.schedule_walk.proofs.AllowedLemmas.{numbers_last}
use Rattle.schedule_pick.specs.declared.budget.Budget.{Budget}
use Rattle.schedule_pick.specs.declared.order.Actor.{Actor}
use Rattle.schedule_pick.specs.Orders.{actors, at_actor, channels_from, channels_if, number_after, places, process, shuffled}

-- ONE MORE NUMBER

pub map_next : (f : ℕ → Actor) (n : ℕ) (old mid new : List Actor) → mid ≡ old ++ map f (numbers_to n) → new ≡ mid ++ f (n + 1) ∷ [] → new ≡ old ++ map f (numbers_to (n + 1))
map_next f n old mid new before added =
    added ∙ ap (λ xs. xs ++ f (n + 1) ∷ []) before ∙ append_assoc old (map f (numbers_to n)) (f (n + 1) ∷ [])
    ∙ ap (λ xs. old ++ xs) (sym (map-append f (numbers_to n) ((n + 1) ∷ [])) ∙ ap (map f) (sym (numbers_last n)))

pub flat_next : (f : ℕ → List Actor) (n : ℕ) (old mid new : List Actor) → mid ≡ old ++ flat_map f (numbers_to n) → new ≡ mid ++ f (n + 1) → new ≡ old ++ flat_map f (numbers_to (n + 1))
flat_next f n old mid new before added =
    added ∙ ap (λ xs. xs ++ f (n + 1)) before ∙ flat_map_more f old (numbers_to n) (n + 1) ∙ ap (λ ns. old ++ flat_map f ns) (sym (numbers_last n))

pub map_all : (f : ℕ → Actor) (n count : ℕ) (old new : List Actor) → n ≡ count → new ≡ old ++ map f (numbers_to n) → new ≡ old ++ map f (numbers_to count)
map_all f n count old new same added = subst (λ k. new ≡ old ++ map f (numbers_to k)) same added

pub flat_all : (f : ℕ → List Actor) (n count : ℕ) (old new : List Actor) → n ≡ count → new ≡ old ++ flat_map f (numbers_to n) → new ≡ old ++ flat_map f (numbers_to count)
flat_all f n count old new same added = subst (λ k. new ≡ old ++ flat_map f (numbers_to k)) same added

-- ALL ACTORS

pub unwanted_way : (wanted : Bool) (way count : ℕ) (old : List Actor) → wanted ≡ false → old ≡ old ++ channels_if wanted way count
unwanted_way true way count old is = absurd (false≢true (sym is))
unwanted_way false way count old is = sym (append-nil old)

pub wanted_way : (wanted : Bool) (way count : ℕ) (old new : List Actor) → wanted ≡ true → new ≡ old ++ flat_map (channels_from way count) (numbers_to count) → new ≡ old ++ channels_if wanted way count
wanted_way true way count old new is added = added
wanted_way false way count old new is added = absurd (false≢true is)

pub all_actors : (count : ℕ) (budget : Budget) (losses repetitions : Bool) (e a b c d : List Actor) → losses ≡ nat_lt 0 budget.losses → repetitions ≡ nat_lt 0 budget.repetitions → e ≡ []
    → a ≡ e ++ map process (numbers_to count) → b ≡ a ++ channels_if true 0 count → c ≡ b ++ channels_if losses 1 count → d ≡ c ++ channels_if repetitions 2 count → d ≡ actors count budget
all_actors count budget losses repetitions e a b c d some_losses some_repetitions empty first second third fourth =
    fourth
    ∙ ap (λ r. c ++ channels_if r 2 count) some_repetitions
    ∙ ap (λ xs. xs ++ channels_if (nat_lt 0 budget.repetitions) 2 count)
    (third ∙ ap (λ l. b ++ channels_if l 1 count) some_losses
    ∙ ap (λ xs. xs ++ channels_if (nat_lt 0 budget.losses) 1 count) (second ∙ ap (λ xs. xs ++ channels_if true 0 count) (first ∙ ap (λ xs. xs ++ map process (numbers_to count)) empty)))

-- THE ORDER

-- so many are drawn, and these are left: the numbers go on from here
pub record Drawn (all : List Actor) (last turn : ℕ) (left order : List Actor) (number : ℕ) : Type 0 where
  pub size : length left + turn ≡ length all
  pub whole : shuffled (length all) last all ≡ order ++ shuffled (length left) number left
  pub ending : number_after (length all) last ≡ number_after (length left) number

pub drawn_first : (all : List Actor) (last : ℕ) (order : List Actor) → order ≡ [] → Drawn all last 0 all order last
drawn_first all last order none = record { size = omega arith; whole = ap (λ xs. xs ++ shuffled (length all) last all) (sym none); ending = refl }

draws : (n : ℕ) (left : List Actor) (x next place : ℕ) (actor : Actor) → next ≡ next_number x → place ≡ place_in (length left) next → slice_get left place ≡ Some actor
    → shuffled (suc n) x left ≡ actor ∷ shuffled n next (remove left place)
draws n left x next place actor is_next is_place there =
    ap (λ k. at_actor (slice_get left (place_in (length left) k)) (λ a. shuffled n k (remove left (place_in (length left) k)))) (sym is_next)
    ∙ ap (λ k. at_actor (slice_get left k) (λ a. shuffled n next (remove left k))) (sym is_place)
    ∙ ap (λ o. at_actor o (λ a. shuffled n next (remove left place))) there

module _ (all : List Actor) (last turn : ℕ) (left order : List Actor) (number : ℕ) (drawn : Drawn all last turn left order number) where
  drawn_by : (n next place : ℕ) (actor : Actor) → length left ≡ suc n → next ≡ next_number number → place ≡ place_in (length left) next → slice_get left place ≡ Some actor → length (remove left place) ≡ n
      → Drawn all last (turn + 1) (remove left place) (order ++ actor ∷ []) next
  drawn_by n next place actor some is_next is_place there fewer =
      let size : length left + turn ≡ length all = drawn.size in
      record {
        size = omega (arith, size, some, fewer);
        whole =
            drawn.whole ∙ ap (λ k. order ++ shuffled k number left) some ∙ ap (λ xs. order ++ xs) (draws n left number next place actor is_next is_place there)
            ∙ sym (append_assoc order (actor ∷ []) (shuffled n next (remove left place))) ∙ ap (λ k. (order ++ actor ∷ []) ++ shuffled k next (remove left place)) (sym fewer);
        ending = drawn.ending ∙ ap (λ k. number_after k number) some ∙ ap (number_after n) (sym is_next) ∙ ap (λ k. number_after k next) (sym fewer);
      }

  pub drawn_on : (next place : ℕ) (actor : Actor) (rest new : List Actor) → next ≡ next_number number → place ≡ place_in (length left) next → place < length left → slice_get left place ≡ Some actor → rest ≡ remove left place
      → new ≡ order ++ actor ∷ [] → Drawn all last (turn + 1) rest new next
  drawn_on next place actor rest new is_next is_place inside there taken added =
      let fewer : length (remove left place) + 1 ≡ length left = length-remove left place inside in
      let one : length left ≡ suc (length (remove left place)) = omega (arith, fewer) in
      subst (λ xs. Drawn all last (turn + 1) xs new next) (sym taken)
      (subst (λ xs. Drawn all last (turn + 1) (remove left place) xs next) (sym added) (drawn_by (length (remove left place)) next place actor one is_next is_place there refl))

  none_left : (xs : List Actor) → xs ≡ left → length xs ≡ 0 → (shuffled (length all) last all ≡ order) × (number_after (length all) last ≡ number)
  none_left [] same none =
      (drawn.whole ∙ ap (λ xs. order ++ shuffled (length xs) number xs) (sym same) ∙ append-nil order, drawn.ending ∙ ap (λ xs. number_after (length xs) number) (sym same))
  none_left (x ∷ xs) same none = absurd (omega (arith, none))

  pub drawn_ends : (count : ℕ) → count ≡ length all → count ≤ turn → (order ≡ shuffled (length all) last all) × (number ≡ number_after (length all) last)
  drawn_ends count counted end =
      let size : length left + turn ≡ length all = drawn.size in
      let (first, second) = none_left left refl (omega (arith, size, counted, end)) in
      (sym first, sym second)

-- THE PLACES

pub record Placed (count last most turn : ℕ) (made : List ℕ) (number : ℕ) : Type 0 where
  pub rest : ℕ
  pub sum : turn + rest ≡ count
  pub whole : places count last most ≡ made ++ places rest number most
  pub ending : number_after count last ≡ number_after rest number

pub placed_first : (count last most : ℕ) (made : List ℕ) → made ≡ [] → Placed count last most 0 made last
placed_first count last most made none = record { rest = count; sum = omega arith; whole = ap (λ xs. xs ++ places count last most) (sym none); ending = refl }

module _ (count last most turn : ℕ) (made : List ℕ) (number : ℕ) (placed : Placed count last most turn made number) where
  pub placed_on : (next place : ℕ) (new : List ℕ) → turn < count → next ≡ next_number number → place ≡ place_in most next → new ≡ made ++ place ∷ [] → Placed count last most (turn + 1) new next
  placed_on next place new inside is_next is_place added = of placed.rest placed.sum placed.whole placed.ending
    where
      of : (rest : ℕ) → turn + rest ≡ count → places count last most ≡ made ++ places rest number most → number_after count last ≡ number_after rest number → Placed count last most (turn + 1) new next
      of zero sum whole ending = absurd (omega (arith, sum, inside))
      of (suc r) sum whole ending = record {
        rest = r;
        sum = omega (arith, sum);
        whole =
            whole ∙ ap (λ k. made ++ (place_in most k ∷ places r k most)) (sym is_next) ∙ ap (λ p. made ++ (p ∷ places r next most)) (sym is_place)
            ∙ sym (append_assoc made (place ∷ []) (places r next most)) ∙ ap (λ xs. xs ++ places r next most) (sym added);
        ending = ending ∙ ap (number_after r) (sym is_next);
      }

  pub placed_ends : count ≤ turn → (made ≡ places count last most) × (number ≡ number_after count last)
  placed_ends end = of placed.rest placed.sum placed.whole placed.ending
    where
      of : (rest : ℕ) → turn + rest ≡ count → places count last most ≡ made ++ places rest number most → number_after count last ≡ number_after rest number → (made ≡ places count last most) × (number ≡ number_after count last)
      of zero sum whole ending = (sym (whole ∙ append-nil made), sym ending)
      of (suc r) sum whole ending = absurd (omega (arith, sum, end))

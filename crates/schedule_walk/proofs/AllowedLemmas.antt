-- The events that are allowed: the moves among those that may be picked, and then what may be done with the messages of each
-- channel.
use Rattle.std.proofs.Common.{◌≡◌, refl, sym, ◌∙◌, ap, subst, ℕ, zero, suc, ◌+◌, ◌≤◌, Bool, true, false, cond, List, [], ◌∷◌, ◌++◌, length, length-append, map, arith, append-nil, append_assoc}
use Rattle.std.specs.Prelude.{◌↔◌, Some, IsTrue, is_some, slice_get}
use Rattle.std.specs.List.{AllByRecursion, filter, flat_map, range_with_len}
use Rattle.std.proofs.lemmas.Bool.{false_from_ne_true, false≢true}
use Rattle.std.proofs.lemmas.Grind.{flat_map-append}
use Rattle.std.proofs.lemmas.List.Elements.{filter-append}
use Rattle.da_lang.specs.declared.event.Event.{Event}
use Rattle.da_lang.specs.declared.event.Event.TheVariants as event
use Rattle.da_lang.specs.declared.program.Program.{Program}
use Rattle.da_lang.specs.World.{at_number}
use Rattle.da_core.specs.Told.{numbers_to}
use Rattle.da_system.specs.Channels.{channel}
use Rattle.da_system.specs.Choices.{alternatives_at, choices, deliveries_from, deliveries_to, is_allowed, moves_of, processes}
use Rattle.da_system.specs.SystemStep.{SystemState}
use Rattle.da_system.proofs.FindLemmas.{single_pieces}
use Rattle.schedule_walk.specs.declared.allowed.Deed.{Deed}
use Rattle.schedule_walk.specs.Allowed.{deed_event, deeds, deeds_if, deeds_to, is_move, moves}

-- what is not enabled is not allowed
pub not_allowed : (b allowed : Bool) → (IsTrue b ↔ (allowed ≡ true)) → b ≡ false → allowed ≡ false
not_allowed b allowed both never = false_from_ne_true allowed (λ is. false≢true (sym never ∙ both.1 is))

-- PIECE BY PIECE

range_last : (a n : ℕ) → range_with_len a (suc n) ≡ range_with_len a n ++ (a + n) ∷ []
range_last a zero = ap (λ k. k ∷ []) (let here : a ≡ a + 0 = omega arith in here)
range_last a (suc n) = ap (λ ns. a ∷ ns) (range_last (a + 1) n) ∙ ap (λ k. a ∷ range_with_len (a + 1) n ++ k ∷ []) (let here : a + 1 + n ≡ a + suc n = omega arith in here)

pub numbers_last : (n : ℕ) → numbers_to (n + 1) ≡ numbers_to n ++ (n + 1) ∷ []
numbers_last n = ap numbers_to (let here : n + 1 ≡ suc n = omega arith in here) ∙ range_last 1 n ∙ ap (λ k. numbers_to n ++ k ∷ []) (let here : 1 + n ≡ n + 1 = omega arith in here)

module _ (test : Event → Bool) (pieces : ℕ → List Event) where
  -- those of the pieces of the first so many numbers that pass were added
  abbrev pub AddsUpTo : ℕ → List Event → List Event → Type 0
  AddsUpTo place old new = new ≡ old ++ filter test (flat_map pieces (numbers_to place))

  pub adds_none : (old : List Event) → AddsUpTo 0 old old
  adds_none old = sym (append-nil old)

  pub adds_on : (place : ℕ) (old mid new : List Event) → AddsUpTo place old mid → new ≡ mid ++ filter test (pieces (place + 1)) → AddsUpTo (place + 1) old new
  adds_on place old mid new before added =
      added ∙ ap (λ es. es ++ filter test (pieces (place + 1))) before ∙ append_assoc old (filter test (flat_map pieces (numbers_to place))) (filter test (pieces (place + 1)))
      ∙ ap (λ es. old ++ es)
      (sym (filter-append test (flat_map pieces (numbers_to place)) (pieces (place + 1)))
      ∙ ap (filter test) (ap (λ es. flat_map pieces (numbers_to place) ++ es) (sym (append-nil (pieces (place + 1))))
      ∙ sym (flat_map-append pieces (numbers_to place) ((place + 1) ∷ [])) ∙ ap (flat_map pieces) (sym (numbers_last place))))

  pub adds_all : (place count : ℕ) (old new : List Event) → place ≡ count → AddsUpTo place old new → new ≡ old ++ filter test (flat_map pieces (numbers_to count))
  adds_all place count old new same added = subst (λ k. AddsUpTo k old new) same added

-- ALL KINDS, one after the other

pub adds_four : (test : Event → Bool) (ms ds ls rs a b c d : List Event) → a ≡ [] ++ filter test ms → b ≡ a ++ filter test ds → c ≡ b ++ filter test ls → d ≡ c ++ filter test rs → d ≡ filter test (ms ++ ds ++ ls ++ rs)
adds_four test ms ds ls rs a b c d first second third fourth =
    fourth ∙ ap (λ es. es ++ filter test rs) (third ∙ ap (λ es. es ++ filter test ls) (second ∙ ap (λ es. es ++ filter test ds) first))
    ∙ sym (filter-append test (ms ++ ds ++ ls) rs ∙ ap (λ es. es ++ filter test rs) (filter-append test (ms ++ ds) ls ∙ ap (λ es. es ++ filter test ls) (filter-append test ms ds)))

-- those that are wanted, or none
module _ (test : Event → Bool) (deed : Deed) (s : SystemState) where
  pub unwanted : (wanted : Bool) (old : List Event) → wanted ≡ false → old ≡ old ++ filter test (deeds_if wanted deed s)
  unwanted true old is = absurd (false≢true (sym is))
  unwanted false old is = sym (append-nil old)

  pub wanted_added : (wanted : Bool) (old new : List Event) → wanted ≡ true → new ≡ old ++ filter test (deeds deed s) → new ≡ old ++ filter test (deeds_if wanted deed s)
  wanted_added true old new is added = added
  wanted_added false old new is added = absurd (false≢true is)

-- THE MESSAGES OF A CHANNEL

module _ (test : Event → Bool) (e : Event) (old : List Event) where
  pub one_added : (new : List Event) → test e ≡ true → new ≡ old ++ e ∷ [] → new ≡ old ++ filter test (e ∷ [])
  one_added new is added = added ∙ ap (λ b. old ++ cond b (e ∷ []) []) (sym is)

  pub none_added : test e ≡ false → old ≡ old ++ filter test (e ∷ [])
  none_added is = sym (append-nil old) ∙ ap (λ b. old ++ cond b (e ∷ []) []) (sym is)

-- one piece for each message
abbrev pub one_deed : Deed → ℕ → ℕ → ℕ → List Event
one_deed deed p q i = deed_event deed p q i ∷ []

pub deed_added : (test : Event → Bool) (deed : Deed) (p q place : ℕ) (e : Event) (old mid new : List Event) → AddsUpTo test (one_deed deed p q) place old mid → e ≡ deed_event deed p q (place + 1) → new ≡ mid ++ filter test (e ∷ [])
    → AddsUpTo test (one_deed deed p q) (place + 1) old new
deed_added test deed p q place e old mid new before is added = adds_on test (one_deed deed p q) place old mid new before (added ∙ ap (λ x. mid ++ filter test (x ∷ [])) is)

pub deeds_added : (test : Event → Bool) (deed : Deed) (s : SystemState) (p q place count : ℕ) (old new : List Event) → place ≡ count → count ≡ length (channel s.channels p q) → AddsUpTo test (one_deed deed p q) place old new
    → new ≡ old ++ filter test (deeds_to deed s p q)
deeds_added test deed s p q place count old new same counted added =
    adds_all test (one_deed deed p q) place (length (channel s.channels p q)) old new (same ∙ counted) added
    ∙ ap (λ es. old ++ filter test es) (single_pieces (deed_event deed p q) (numbers_to (length (channel s.channels p q))))

-- THE MOVES, which are the first of the events that may be picked

abbrev AllMoves : List Event → Type 0
AllMoves = AllByRecursion (λ e. is_move e ≡ true)

abbrev NoMoves : List Event → Type 0
NoMoves = AllByRecursion (λ e. is_move e ≡ false)

module _ (P : Event → Type 0) where
  pub all_append : (xs ys : List Event) → AllByRecursion P xs → AllByRecursion P ys → AllByRecursion P (xs ++ ys)
  all_append [] ys one other = other
  all_append (x ∷ xs) ys one other = (one.0, all_append xs ys one.1 other)

  pub all_flat : (f : ℕ → List Event) → ((n : ℕ) → AllByRecursion P (f n)) → (ns : List ℕ) → AllByRecursion P (flat_map f ns)
  all_flat f each [] = tt
  all_flat f each (n ∷ ns) = all_append (f n) (flat_map f ns) (each n) (all_flat f each ns)

  pub all_map : (f : ℕ → Event) → ((n : ℕ) → P (f n)) → (ns : List ℕ) → AllByRecursion P (map f ns)
  all_map f each [] = tt
  all_map f each (n ∷ ns) = (each n, all_map f each ns)

  all_filter : (test : Event → Bool) (xs : List Event) → AllByRecursion P xs → AllByRecursion P (filter test xs)
  all_filter test [] all = tt
  all_filter test (x ∷ xs) all = of (test x) (all_filter test xs all.1)
    where
      of : (b : Bool) → AllByRecursion P (filter test xs) → AllByRecursion P (cond b (x ∷ filter test xs) (filter test xs))
      of true others = (all.0, others)
      of false others = others

moves_are : (s : SystemState) → AllMoves (moves s)
moves_are s =
    all_flat (λ e. is_move e ≡ true) (moves_of s)
    (λ p. all_append (λ e. is_move e ≡ true) (event.Move p ∷ map (event.Take p) (numbers_to (alternatives_at (at_number s.worlds p)))) (event.Timeout p ∷ [])
    (refl, all_map (λ e. is_move e ≡ true) (event.Take p) (λ k. refl) (numbers_to (alternatives_at (at_number s.worlds p)))) (refl, tt)) (processes s)

pub deliveries_are_not : (s : SystemState) → NoMoves (flat_map (deliveries_from s) (processes s))
deliveries_are_not s =
    all_flat (λ e. is_move e ≡ false) (deliveries_from s) (λ p. all_flat (λ e. is_move e ≡ false) (deliveries_to p) (λ q. all_map (λ e. is_move e ≡ false) (event.Deliver p q) (λ i. refl) (numbers_to 4)) (processes s)) (processes s)

abbrev BeginsWithNone : List Event → Type 0
BeginsWithNone [] = Unit {0}
BeginsWithNone (e ∷ es) = is_move e ≡ false

same_prefix : (xs ys ms rest : List Event) → xs ++ ys ≡ ms ++ rest → AllMoves xs → NoMoves ys → AllMoves ms → BeginsWithNone rest → ms ≡ xs
same_prefix [] ys [] rest same moves none all begins = refl
same_prefix [] [] (m ∷ ms) rest same moves none all begins = absurd (let clash : [] ≡ m ∷ ms ++ rest = same in cc)
same_prefix [] (b ∷ ys) (m ∷ ms) rest same moves none all begins =
    let first : b ≡ m = cc in
    absurd (false≢true (sym none.0 ∙ ap is_move first ∙ all.0))
same_prefix (a ∷ xs) ys [] [] same moves none all begins = absurd (let clash : a ∷ xs ++ ys ≡ [] = same in cc)
same_prefix (a ∷ xs) ys [] (r ∷ rest) same moves none all begins =
    let first : a ≡ r = cc in
    absurd (false≢true (sym begins ∙ sym (ap is_move first) ∙ moves.0))
same_prefix (a ∷ xs) ys (m ∷ ms) rest same moves none all begins =
    let first : m ≡ a = cc in
    let others : xs ++ ys ≡ ms ++ rest = cc in
    ap (λ x. x ∷ ms) first ∙ ap (λ es. a ∷ es) (same_prefix xs ys ms rest others moves.1 none all.1 begins)

-- so many moves from the start were added
pub record Prefixes (whole : List Event) (place : ℕ) (old new : List Event) : Type 0 where
  pub front : List Event
  pub rest : List Event
  pub cut : whole ≡ front ++ rest
  pub many : length front ≡ place
  pub all : AllMoves front
  pub added : new ≡ old ++ front

pub fronts_first : (whole old : List Event) → Prefixes whole 0 old old
fronts_first whole old = record { front = []; rest = whole; cut = refl; many = refl; all = tt; added = sym (append-nil old) }

next_of : (front rest : List Event) (e : Event) → slice_get (front ++ rest) (length front) ≡ Some e → (more : List Event) × (rest ≡ e ∷ more)
next_of [] [] e there = absurd (false≢true (ap is_some there))
next_of [] (x ∷ xs) e there = let same : x ≡ e = cc in (xs, ap (λ y. y ∷ xs) same)
next_of (m ∷ ms) rest e there = next_of ms rest e there

module _ (whole : List Event) (place : ℕ) (old mid : List Event) (fronts : Prefixes whole place old mid) where
  behind : (e : Event) → slice_get whole place ≡ Some e → (more : List Event) × (fronts.rest ≡ e ∷ more)
  behind e there = next_of fronts.front fronts.rest e (subst (λ n. slice_get (fronts.front ++ fronts.rest) n ≡ Some e) (sym fronts.many) (subst (λ es. slice_get es place ≡ Some e) fronts.cut there))

  pub fronts_on : (e : Event) (new : List Event) → slice_get whole place ≡ Some e → is_move e ≡ true → new ≡ mid ++ e ∷ [] → Prefixes whole (place + 1) old new
  fronts_on e new there is more =
      let (others, rest_is) = behind e there in
      record {
        front = fronts.front ++ e ∷ [];
        rest = others;
        cut = fronts.cut ∙ ap (λ es. fronts.front ++ es) rest_is ∙ sym (append_assoc fronts.front (e ∷ []) others);
        many = length-append fronts.front (e ∷ []) ∙ ap (λ n. n + 1) fronts.many;
        all = all_append (λ x. is_move x ≡ true) fronts.front (e ∷ []) fronts.all (is, tt);
        added = more ∙ ap (λ es. es ++ e ∷ []) fronts.added ∙ append_assoc old fronts.front (e ∷ []);
      }

  -- the next one is no move
  pub fronts_end : (e : Event) (xs ys : List Event) → slice_get whole place ≡ Some e → is_move e ≡ false → whole ≡ xs ++ ys → AllMoves xs → NoMoves ys → mid ≡ old ++ xs
  fronts_end e xs ys there never cut moves none =
      let (others, rest_is) = behind e there in
      fronts.added ∙ ap (λ es. old ++ es) (same_prefix xs ys fronts.front fronts.rest (sym cut ∙ fronts.cut) moves none fronts.all (subst BeginsWithNone (sym rest_is) never))

  -- there is no other
  pub fronts_over : (xs ys : List Event) → length whole ≤ place → whole ≡ xs ++ ys → AllMoves xs → NoMoves ys → mid ≡ old ++ xs
  fronts_over xs ys past cut moves none = fronts.added ∙ ap (λ es. old ++ es) (same_prefix xs ys fronts.front fronts.rest (sym cut ∙ fronts.cut) moves none fronts.all (over fronts.rest refl))
    where
      over : (rest : List Event) → fronts.rest ≡ rest → BeginsWithNone fronts.rest
      over [] is = subst BeginsWithNone (sym is) tt
      over (r ∷ rest) is =
          let size : length whole ≡ length fronts.front + length fronts.rest = ap length fronts.cut ∙ length-append fronts.front fronts.rest in
          let more : length fronts.rest ≡ suc (length rest) = ap length is in
          absurd (omega (arith, size, more, fronts.many, past))

module _ (program : Program) (s : SystemState) where
  choices_cut : choices program s ≡ filter (is_allowed program s) (moves s) ++ filter (is_allowed program s) (flat_map (deliveries_from s) (processes s))
  choices_cut = filter-append (is_allowed program s) (moves s) (flat_map (deliveries_from s) (processes s))

  module _ (place : ℕ) (old mid : List Event) (fronts : Prefixes (choices program s) place old mid) where
    pub moves_end : (e : Event) → slice_get (choices program s) place ≡ Some e → is_move e ≡ false → mid ≡ old ++ filter (is_allowed program s) (moves s)
    moves_end e there never =
        fronts_end (choices program s) place old mid fronts e _ _ there never choices_cut
        (all_filter (λ x. is_move x ≡ true) (is_allowed program s) (moves s) (moves_are s))
        (all_filter (λ x. is_move x ≡ false) (is_allowed program s) (flat_map (deliveries_from s) (processes s)) (deliveries_are_not s))

    pub moves_over : length (choices program s) ≤ place → mid ≡ old ++ filter (is_allowed program s) (moves s)
    moves_over past =
        fronts_over (choices program s) place old mid fronts _ _ past choices_cut
        (all_filter (λ x. is_move x ≡ true) (is_allowed program s) (moves s) (moves_are s))
        (all_filter (λ x. is_move x ≡ false) (is_allowed program s) (flat_map (deliveries_from s) (processes s)) (deliveries_are_not s))

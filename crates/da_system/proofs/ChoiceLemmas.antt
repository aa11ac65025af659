-- The events that may be picked in a state for which a network stands.
use Rattle.std.proofs.Common.{◌≡◌, refl, sym, ◌∙◌, ap, subst, ℕ, zero, suc, ◌+◌, Bool, true, false, cond, List, [], ◌∷◌, ◌++◌, length, map, arith}
use Rattle.std.specs.Prelude.{◌↔◌, Some, Result, Ok, Err, IsSome, IsTrue, is_some, slice_get}
use Rattle.std.specs.List.{filter, flat_map, range_with_len}
use Rattle.std.proofs.lemmas.Bool.{false_from_ne_true, false≢true}
use Rattle.da_lang.specs.declared.event.Event.{Event}
use Rattle.da_lang.specs.declared.event.Event.TheVariants.{Move, Take, Timeout, Deliver}
use Rattle.da_lang.specs.declared.program.Program.{Program}
use Rattle.da_lang.specs.World.{Task, Phase, New, Waiting, Ended, Faulted, at_number}
use Rattle.da_core.specs.declared.place.Place.{Place}
use Rattle.da_core.specs.declared.place.Place.TheVariants as place
use Rattle.da_core.specs.StandsFor.{IsPlace}
use Rattle.da_system.specs.declared.network.Network.{Network}
use Rattle.da_system.specs.Channels.{channel}
use Rattle.da_system.specs.Choices.{alternatives, alternatives_in, alternatives_at, candidates, choices, deliveries_from, deliveries_to, is_allowed, moves_of, processes}
use Rattle.da_system.specs.Picking.{Finds, alternatives_of}
use Rattle.da_system.specs.Network.{Stands, program_of}
use Rattle.da_system.specs.SystemStep.{SystemState, sys_step}
use Rattle.da_system.proofs.FindLemmas.{Leads, LeadsFrom, leads_all, leads_here, leads_on, left_all, pieces_start, single_pieces}
use Rattle.da_system.proofs.MessageLemmas.{none_in_flight}

-- ONE EVENT

module _ (program : Program) (s : SystemState) (e : Event) (b : Bool) (both : IsTrue b ↔ IsSome (sys_step program s e)) where
  pub is_one : b ≡ true → is_allowed program s e ≡ true
  is_one is = both.0 is

  pub not_one : b ≡ false → is_allowed program s e ≡ false
  not_one is = false_from_ne_true (is_allowed program s e) (λ there. false≢true (sym is ∙ both.1 there))

module _ (allowed : Event → Bool) (e : Event) (j : ℕ) where
  pub one_out : allowed e ≡ false → Finds (filter allowed (e ∷ [])) j (Err j)
  one_out is = subst (λ b. Finds (cond b (e ∷ []) []) j (Err j)) (sym is) (let here : j ≡ 0 + j = omega arith in here)

  pub one_here : allowed e ≡ true → j ≡ 0 → Finds (filter allowed (e ∷ [])) j (Ok e)
  one_here is first = subst (λ b. Finds (cond b (e ∷ []) []) j (Ok e)) (sym is) (ap (slice_get (e ∷ [])) first)

  pub one_past : (past : ℕ) → allowed e ≡ true → j ≡ past + 1 → Finds (filter allowed (e ∷ [])) j (Err past)
  one_past past is next = subst (λ b. Finds (cond b (e ∷ []) []) j (Err past)) (sym is) (let here : j ≡ 1 + past = omega (arith, next) in here)

-- THE MOVES OF A PROCESS

-- one piece for each alternative
abbrev pub one_take : ℕ → ℕ → List Event
one_take p k = Take p k ∷ []

-- the moves alone
abbrev pub takes_of : SystemState → ℕ → List Event
takes_of s p = Move p ∷ map (Take p) (range_with_len 1 (alternatives_at (at_number s.worlds p)))

module _ (program : Program) (s : SystemState) (p count j : ℕ) (many : count ≡ alternatives_at (at_number s.worlds p)) where
  abbrev all : List Event
  all = filter (is_allowed program s) (takes_of s p)

  abbrev LeadsAll : ℕ → ℕ → Type 0
  LeadsAll = LeadsFrom (is_allowed program s) (one_take p) all j count

  moves_are : takes_of s p ≡ (Move p ∷ []) ++ flat_map (one_take p) (range_with_len 1 count)
  moves_are =
      ap (λ es. Move p ∷ es)
      (ap (λ n. map (Take p) (range_with_len 1 n)) (sym many) ∙ sym (single_pieces (Take p) (range_with_len 1 count)))

  pub after_first : (past : ℕ) → Finds (filter (is_allowed program s) (Move p ∷ [])) j (Err past) → LeadsAll 0 past
  after_first past found =
      subst (λ ns. Leads all j (filter (is_allowed program s) (flat_map (one_take p) ns)) past) (sym (left_all count))
      (leads_on (is_allowed program s) all j (Move p ∷ []) (flat_map (one_take p) (range_with_len 1 count)) j
      (subst (λ es. Leads all j (filter (is_allowed program s) es) j) moves_are (leads_all all j)) past found)

-- the timeout after them
module _ (program : Program) (s : SystemState) (p j : ℕ) where
  abbrev with_timeout : List Event
  with_timeout = filter (is_allowed program s) (moves_of s p)

  pub among_moves : (e : Event) → Finds (filter (is_allowed program s) (takes_of s p)) j (Ok e) → Finds with_timeout j (Ok e)
  among_moves e found = leads_here (is_allowed program s) with_timeout j (takes_of s p) (Timeout p ∷ []) j (leads_all with_timeout j) e found

  pub first_move : (e : Event) → Finds (filter (is_allowed program s) (Move p ∷ [])) j (Ok e) → Finds with_timeout j (Ok e)
  first_move e found =
      leads_here (is_allowed program s) with_timeout j (Move p ∷ []) (map (Take p) (range_with_len 1 (alternatives_at (at_number s.worlds p))) ++ Timeout p ∷ []) j (leads_all with_timeout j) e found

  pub after_moves : (past : ℕ) (r : Result Event ℕ) → Finds (filter (is_allowed program s) (takes_of s p)) j (Err past) → Finds (filter (is_allowed program s) (Timeout p ∷ [])) past r → Finds with_timeout j r
  after_moves past r over found = leads_on (is_allowed program s) with_timeout j (takes_of s p) (Timeout p ∷ []) j (leads_all with_timeout j) past over r found

-- ONE CHANNEL

-- one piece for each message
abbrev pub one_message : ℕ → ℕ → ℕ → List Event
one_message p q i = Deliver p q i ∷ []

pub messages_start : (allowed : Event → Bool) (p q j count : ℕ) → count ≡ 4 → LeadsFrom allowed (one_message p q) (filter allowed (deliveries_to p q)) j count 0 j
messages_start allowed p q j count is = pieces_start allowed (one_message p q) count 4 j is

-- where nothing is in flight, none may be picked
filter_none : (allowed : Event → Bool) (f : ℕ → Event) (ns : List ℕ) → ((n : ℕ) → allowed (f n) ≡ false) → filter allowed (map f ns) ≡ []
filter_none allowed f [] none = refl
filter_none allowed f (n ∷ ns) none = let rest = filter allowed (map f ns) in ap (λ b. cond b (f n ∷ rest) rest) (none n) ∙ filter_none allowed f ns none

pub no_messages : (network : Network) (s : SystemState) → Stands network s → (p q j number : ℕ) → number ≡ length (channel s.channels p q) → number ≡ 0
    → Finds (filter (is_allowed (program_of network) s) (deliveries_to p q)) j (Err j)
no_messages network s stands p q j number counted none =
    subst (λ es. Finds es j (Err j)) (sym (filter_none (is_allowed (program_of network) s) (Deliver p q) (range_with_len 1 4) (λ i. ap is_some (none_in_flight network s stands p q i (sym counted ∙ none)))))
    (let here : j ≡ 0 + j = omega arith in here)

-- AN EVENT THAT WAS FOUND

pub passes : (allowed : Event → Bool) (es : List Event) (j : ℕ) (e : Event) → slice_get (filter allowed es) j ≡ Some e → allowed e ≡ true
passes allowed [] j e there = absurd (false≢true (ap is_some there))
passes allowed (x ∷ xs) j e there = of (allowed x) refl j there (λ k. passes allowed xs k e)
  where
    of : (b : Bool) → allowed x ≡ b → (j : ℕ) → slice_get (cond b (x ∷ filter allowed xs) (filter allowed xs)) j ≡ Some e
        → ((k : ℕ) → slice_get (filter allowed xs) k ≡ Some e → allowed e ≡ true) → allowed e ≡ true
    of true is zero there others = let same : x ≡ e = cc in subst (λ y. allowed y ≡ true) same is
    of true is (suc k) there others = others k there
    of false is k there others = others k there

pub is_choice : (program : Program) (s : SystemState) (j : ℕ) (e : Event) → slice_get (choices program s) j ≡ Some e → IsSome (sys_step program s e)
is_choice program s j e there = passes (is_allowed program s) (candidates s) j e there

-- WHERE A PROCESS STANDS

pub alternatives_are : (todo : List Task) (at : Place) (phase : Phase) → IsPlace todo at phase → alternatives_of at ≡ alternatives phase todo
alternatives_are todo place.New New is = refl
alternatives_are todo place.Label Waiting is = sym (ap (alternatives Waiting) is.1.first ∙ ap alternatives_in is.1.is)
alternatives_are todo (place.Await count) Waiting is = sym (ap (alternatives Waiting) is.begins.first ∙ ap alternatives_in is.begins.is ∙ is.size)
alternatives_are todo place.Ended Ended is = refl
alternatives_are todo place.Faulted Faulted is = refl
alternatives_are todo _ _ is = absurd is

-- FIRST THE MOVES AND THEN THE DELIVERIES

module _ (program : Program) (s : SystemState) (j : ℕ) where
  abbrev allowed : Event → Bool
  allowed = is_allowed program s

  abbrev all_moves : List Event
  all_moves = flat_map (moves_of s) (processes s)

  abbrev all_deliveries : List Event
  all_deliveries = flat_map (deliveries_from s) (processes s)

  pub choice_of_moves : (e : Event) → Finds (filter allowed all_moves) j (Ok e) → Finds (choices program s) j (Ok e)
  choice_of_moves e found = leads_here allowed (choices program s) j all_moves all_deliveries j (leads_all (choices program s) j) e found

  pub choice_of_deliveries : (past : ℕ) (r : Result Event ℕ) → Finds (filter allowed all_moves) j (Err past) → Finds (filter allowed all_deliveries) past r → Finds (choices program s) j r
  choice_of_deliveries past r over found = leads_on allowed (choices program s) j all_moves all_deliveries j (leads_all (choices program s) j) past over r found

-- What is in flight to a process: channel by channel, and message by message.
use Rattle.std.proofs.Common.{◌≡◌, refl, sym, ◌∙◌, ap, ℕ, suc, ◌+◌, ◌≤◌, List, [], ◌∷◌, ◌++◌, drop, length, map, arith, append_assoc, append-nil, zero}
use Rattle.std.proofs.lemmas.List.{drop_all, drop_more, map-append}
use Rattle.std.proofs.lemmas.Option.{get_or_from_slice_get, slice_get_within}
use Rattle.std.specs.List.{flat_map, range_with_len, slice_get}
use Rattle.std.specs.Prelude.{None, Option, Some}
use Rattle.da_lang.specs.World.{at_number}
use Rattle.da_core.specs.Told.{numbers_to}
use Rattle.da_system.specs.Channels.{MessageInFlight}
use Rattle.da_system.specs.SystemStep.{SystemState}
use Rattle.run_page.specs.declared.cells.Cell.{Cell}
use Rattle.run_page.specs.Cells.{flight_cell, message_text, text_at}

-- the numbers up to one more
range_last : (a n : ℕ) → range_with_len a (suc n) ≡ range_with_len a n ++ (a + n) ∷ []
range_last a zero = ap (λ k. k ∷ []) (let here : a ≡ a + 0 = omega arith in here)
range_last a (suc n) = ap (λ ns. a ∷ ns) (range_last (a + 1) n) ∙ ap (λ k. a ∷ range_with_len (a + 1) n ++ k ∷ []) (let here : a + 1 + n ≡ a + suc n = omega arith in here)

pub numbers_last : (n : ℕ) → numbers_to (n + 1) ≡ numbers_to n ++ (n + 1) ∷ []
numbers_last n = ap numbers_to (let here : n + 1 ≡ suc n = omega arith in here) ∙ range_last 1 n ∙ ap (λ k. numbers_to n ++ k ∷ []) (let here : 1 + n ≡ n + 1 = omega arith in here)

-- ONE CHANNEL AFTER THE OTHER

module _ (s : SystemState) (p : ℕ) where
  abbrev pub FlightsUpTo : ℕ → List Cell → List Cell → Type 0
  FlightsUpTo place old new = new ≡ old ++ map (flight_cell s p) (numbers_to place)

  pub flights_first : (old : List Cell) → FlightsUpTo 0 old old
  flights_first old = sym (append-nil old)

  pub flights_on : (place q : ℕ) (old mid new : List Cell) (c : Cell) → FlightsUpTo place old mid → q ≡ place + 1 → c ≡ flight_cell s p q → new ≡ mid ++ c ∷ [] → FlightsUpTo (place + 1) old new
  flights_on place q old mid new c so_far number is adds =
      adds ∙ ap (λ x. mid ++ x ∷ []) (is ∙ ap (flight_cell s p) number) ∙ ap (λ x. x ++ flight_cell s p (place + 1) ∷ []) so_far
      ∙ append_assoc old (map (flight_cell s p) (numbers_to place)) (flight_cell s p (place + 1) ∷ [])
      ∙ ap (λ x. old ++ x) (sym (map-append (flight_cell s p) (numbers_to place) ((place + 1) ∷ [])) ∙ ap (map (flight_cell s p)) (sym (numbers_last place)))

  pub flights_all : (place count : ℕ) (old new : List Cell) → place ≡ count → FlightsUpTo place old new → new ≡ old ++ map (flight_cell s p) (numbers_to count)
  flights_all place count old new all so_far = so_far ∙ ap (λ n. old ++ map (flight_cell s p) (numbers_to n)) all

-- ONE MESSAGE AFTER THE OTHER

-- a message that is there, or none
pub put_one : (found : Option MessageInFlight) (m : MessageInFlight) (old new : List ℕ) → Some m ≡ found → new ≡ old ++ message_text m → new ≡ old ++ text_at found
put_one found m old new is adds = adds ∙ ap (λ o. old ++ text_at o) is

pub put_none : (found : Option MessageInFlight) (old : List ℕ) → None ≡ found → old ≡ old ++ text_at found
put_none found old is = sym (append-nil old) ∙ ap (λ o. old ++ text_at o) is

module _ (messages : List MessageInFlight) where
  -- the text of the first messages, where the others are left
  abbrev pub TextUpTo : ℕ → List ℕ → Type 0
  TextUpTo place text = text ++ flat_map message_text (drop place messages) ≡ flat_map message_text messages

  pub text_first : (text : List ℕ) → text ≡ [] → TextUpTo 0 text
  text_first text empty = ap (λ x. x ++ flat_map message_text messages) empty

  pub text_on : (place i : ℕ) (old new : List ℕ) → i ≡ place + 1 → TextUpTo place old → new ≡ old ++ text_at (at_number messages i) → TextUpTo (place + 1) new
  text_on place i old new number so_far adds = at (slice_get messages place) refl
    where
      adds_here : new ≡ old ++ text_at (slice_get messages place)
      adds_here = adds ∙ ap (λ n. old ++ text_at (at_number messages n)) (let is : i ≡ suc place = omega (arith, number) in is)

      none_there : (ms : List MessageInFlight) (n : ℕ) → slice_get ms n ≡ None → length ms ≤ n
      none_there [] n none = omega arith
      none_there (m ∷ ms) zero none = absurd (let clash : ◌≡◌ {A = Option MessageInFlight} (Some m) None = none in cc)
      none_there (m ∷ ms) (suc n) none = let others : length ms ≤ n = none_there ms n none in omega (arith, others)

      at : (found : Option MessageInFlight) → slice_get messages place ≡ found → TextUpTo (place + 1) new
      at None nowhere =
          let past : length messages ≤ place = none_there messages place nowhere in
          let later : length messages ≤ place + 1 = omega (arith, past) in
          ap (λ x. x ++ flat_map message_text (drop (place + 1) messages)) (adds_here ∙ ap (λ o. old ++ text_at o) nowhere ∙ append-nil old)
          ∙ ap (λ ms. old ++ flat_map message_text ms) (drop_all (place + 1) messages later ∙ sym (drop_all place messages past)) ∙ so_far
      at (Some m) here =
          let first : drop place messages ≡ m ∷ drop (place + 1) messages =
          drop_more messages place m (slice_get_within messages place m here) ∙ ap (λ x. x ∷ drop (place + 1) messages) (get_or_from_slice_get messages place m m here) in
          ap (λ x. x ++ flat_map message_text (drop (place + 1) messages)) (adds_here ∙ ap (λ o. old ++ text_at o) here)
          ∙ append_assoc old (message_text m) (flat_map message_text (drop (place + 1) messages)) ∙ ap (λ ms. old ++ flat_map message_text ms) (sym first) ∙ so_far

  pub text_all : (place : ℕ) (text : List ℕ) → length messages ≤ place → TextUpTo place text → text ≡ flat_map message_text messages
  text_all place text past so_far = sym (append-nil text) ∙ ap (λ ms. text ++ flat_map message_text ms) (sym (drop_all place messages past)) ∙ so_far

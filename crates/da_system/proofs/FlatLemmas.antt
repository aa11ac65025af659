-- The channels as one list.
use Rattle.std.proofs.Common.{◌≡◌, refl, sym, ◌∙◌, ap, ℕ, zero, suc, ◌+◌, ◌*◌, ◌-◌, ◌<◌, ◌≤◌, List, [], ◌∷◌, ◌++◌, length, arith}
use Rattle.std.specs.Prelude.{slice_get, slice_set}
use Rattle.std.specs.List.{AllByRecursion}
use Rattle.da_lang.specs.declared.program.Program.{Program}
use Rattle.da_system.specs.Channels.{Channels, MessageInFlight, channel, or_empty, with_channel}
use Rattle.da_system.specs.FlatChannels.{StandFlat, flat, place_of}
use Rattle.da_system.specs.SoundState.{IsSquare}

module _ {A : Type 0} where
  pub get_after : (xs ys : List A) (k : ℕ) → slice_get (xs ++ ys) (length xs + k) ≡ slice_get ys k
  get_after [] ys k = ap (slice_get ys) (let same : 0 + k ≡ k = omega arith in same)
  get_after (x ∷ xs) ys k = ap (slice_get (x ∷ (xs ++ ys))) (let same : suc (length xs) + k ≡ suc (length xs + k) = omega arith in same) ∙ get_after xs ys k

  pub get_front : (xs ys : List A) (k : ℕ) → k < length xs → slice_get (xs ++ ys) k ≡ slice_get xs k
  get_front [] ys k inside = absurd (omega (arith, inside))
  get_front (x ∷ xs) ys zero inside = refl
  get_front (x ∷ xs) ys (suc k) inside = get_front xs ys k (omega (arith, inside))

  set_after : (xs ys : List A) (k : ℕ) (y : A) → slice_set (xs ++ ys) (length xs + k) y ≡ xs ++ slice_set ys k y
  set_after [] ys k y = ap (λ n. slice_set ys n y) (let same : 0 + k ≡ k = omega arith in same)
  set_after (x ∷ xs) ys k y =
      ap (λ n. slice_set (x ∷ (xs ++ ys)) n y) (let same : suc (length xs) + k ≡ suc (length xs + k) = omega arith in same) ∙ ap (λ zs. x ∷ zs) (set_after xs ys k y)

  set_front : (xs ys : List A) (k : ℕ) (y : A) → k < length xs → slice_set (xs ++ ys) k y ≡ slice_set xs k y ++ ys
  set_front [] ys k y inside = absurd (omega (arith, inside))
  set_front (x ∷ xs) ys zero y inside = refl
  set_front (x ∷ xs) ys (suc k) y inside = ap (λ zs. x ∷ zs) (set_front xs ys k y (omega (arith, inside)))

module _ (count : ℕ) where
  abbrev Fits : List (List MessageInFlight) → Type 0
  Fits row = length row ≡ count

  next_place : (p q : ℕ) → suc p * count + q ≡ count + (p * count + q)
  next_place p q = omega arith

  -- the channel of a sender and a recipient, both counted from 0
  get_flat : (rows : Channels) (p q : ℕ) → AllByRecursion Fits rows → p < length rows → q < count → slice_get (flat rows) (p * count + q) ≡ slice_get (or_empty (slice_get rows p)) q
  get_flat [] p q all inside few = absurd (omega (arith, inside))
  get_flat (row ∷ rows) zero q all inside few =
      ap (slice_get (row ++ flat rows)) (let same : 0 * count + q ≡ q = omega arith in same) ∙ get_front row (flat rows) q (omega (arith, all.0, few))
  get_flat (row ∷ rows) (suc p) q all inside few =
      ap (slice_get (row ++ flat rows)) (next_place p q ∙ ap (λ n. n + (p * count + q)) (sym all.0)) ∙ get_after row (flat rows) (p * count + q)
      ∙ get_flat rows p q all.1 (omega (arith, inside)) few

  set_flat : (rows : Channels) (p q : ℕ) (messages : List MessageInFlight) → AllByRecursion Fits rows → p < length rows → q < count
      → flat (slice_set rows p (slice_set (or_empty (slice_get rows p)) q messages)) ≡ slice_set (flat rows) (p * count + q) messages
  set_flat [] p q messages all inside few = absurd (omega (arith, inside))
  set_flat (row ∷ rows) zero q messages all inside few =
      sym (ap (λ n. slice_set (row ++ flat rows) n messages) (let same : 0 * count + q ≡ q = omega arith in same) ∙ set_front row (flat rows) q messages (omega (arith, all.0, few)))
  set_flat (row ∷ rows) (suc p) q messages all inside few =
      ap (λ fs. row ++ fs) (set_flat rows p q messages all.1 (omega (arith, inside)) few)
      ∙ sym (ap (λ n. slice_set (row ++ flat rows) n messages) (next_place p q ∙ ap (λ n. n + (p * count + q)) (sym all.0)) ∙ set_after row (flat rows) (p * count + q) messages)

  module _ (channels : Channels) (square : IsSquare count channels) where
    -- the channel from p to q stands at its place
    pub channel-flat : (p q : ℕ) → 0 < p → p ≤ count → 0 < q → q ≤ count → or_empty (slice_get (flat channels) (place_of count p q)) ≡ channel channels p q
    channel-flat zero q some most any few = absurd (omega (arith, some))
    channel-flat (suc p) zero some most any few = absurd (omega (arith, any))
    channel-flat (suc p) (suc q) some most any few =
        ap or_empty (ap (slice_get (flat channels)) (let same : place_of count (suc p) (suc q) ≡ p * count + q = ap (λ n. n * count + (suc q - 1)) (let one : suc p - 1 ≡ p = omega arith in one) ∙ ap (λ n. p * count + n) (let one : suc q - 1 ≡ q = omega arith in one) in same)
        ∙ get_flat channels p q square.recipients (omega (arith, square.senders, most)) (omega (arith, few)))

    -- with other messages it is a list with another member there
    pub flat-with_channel : (p q : ℕ) (messages : List MessageInFlight) → 0 < p → p ≤ count → 0 < q → q ≤ count → flat (with_channel channels p q messages) ≡ slice_set (flat channels) (place_of count p q) messages
    flat-with_channel zero q messages some most any few = absurd (omega (arith, some))
    flat-with_channel (suc p) zero messages some most any few = absurd (omega (arith, any))
    flat-with_channel (suc p) (suc q) messages some most any few =
        set_flat channels p q messages square.recipients (omega (arith, square.senders, most)) (omega (arith, few))
        ∙ ap (λ n. slice_set (flat channels) n messages) (sym (let same : place_of count (suc p) (suc q) ≡ p * count + q = ap (λ n. n * count + (suc q - 1)) (let one : suc p - 1 ≡ p = omega arith in one) ∙ ap (λ n. p * count + n) (let one : suc q - 1 ≡ q = omega arith in one) in same))

-- so they stand as one list in a system
pub stand_flat : (program : Program) (channels : Channels) → IsSquare (length program.procs) channels → StandFlat program channels
stand_flat program channels square = record {
  at_place = λ p q is also. channel-flat (length program.procs) channels square p q is.0 is.1 also.0 also.1;
  changed = λ p q messages is also. flat-with_channel (length program.procs) channels square p q messages is.0 is.1 also.0 also.1;
}

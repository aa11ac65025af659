-- Numbers of two, four and eight bytes at the front of some bytes: what is read there, and that nothing else stands there.
use Rattle.std.proofs.Common.{◌≡◌, ◌∙◌, ap, sym, ℕ, zero, suc, ◌^◌, ◌<◌, ◌≤◌, List, [], ◌∷◌, ◌++◌, take, drop, length, Fits, w8, arith}
use Rattle.std.specs.Prelude.{slice_index_or}
use Rattle.std.specs.Int.{w16, w32, w64, to_be_bytes, from_be_bytes}
use Rattle.std.proofs.lemmas.Nat.{be_bytes_2, be_bytes_4, be_bytes_8, from_be_bytes-to_be_bytes_2, from_be_bytes-to_be_bytes_4, from_be_bytes-to_be_bytes_8}
use Rattle.std.proofs.lemmas.List.{length-take-le, take-append-drop}

-- each is a byte
abbrev AreBytes : List ℕ → Type 0
AreBytes bytes = (i : ℕ) → Fits w8 (slice_index_or bytes i 0)

front_bytes : (bytes : List ℕ) (k i : ℕ) → AreBytes bytes → slice_index_or (take k bytes) i 0 < 256
front_bytes bytes zero i each = omega arith
front_bytes [] (suc k) i each = omega arith
front_bytes (b ∷ bs) (suc k) zero each = (each 0).fits
front_bytes (b ∷ bs) (suc k) (suc i) each = front_bytes bs k i (λ j. each (suc j))

-- WHAT IS READ

module _ (bytes digits rest : List ℕ) (number k : ℕ) (each : AreBytes bytes) (long : k ≤ length bytes) (front : digits ≡ take k bytes) (back : rest ≡ drop k bytes) where
  whole : (written : List ℕ) → written ≡ take k bytes → bytes ≡ written ++ rest
  whole written is = rw (is, back) (sym (take-append-drop k bytes))

  pub short_read : k ≡ 2 → number ≡ from_be_bytes w16 digits → bytes ≡ to_be_bytes w16 number ++ rest
  short_read two is = whole _ (be_bytes_2 (take k bytes) number (length-take-le k bytes long ∙ two) (λ i. front_bytes bytes k i each) (is ∙ ap (from_be_bytes w16) front))

  pub word_read : k ≡ 4 → number ≡ from_be_bytes w32 digits → bytes ≡ to_be_bytes w32 number ++ rest
  word_read four is = whole _ (be_bytes_4 (take k bytes) number (length-take-le k bytes long ∙ four) (λ i. front_bytes bytes k i each) (is ∙ ap (from_be_bytes w32) front))

  pub long_read : k ≡ 8 → number ≡ from_be_bytes w64 digits → bytes ≡ to_be_bytes w64 number ++ rest
  long_read eight is = whole _ (be_bytes_8 (take k bytes) number (length-take-le k bytes long ∙ eight) (λ i. front_bytes bytes k i each) (is ∙ ap (from_be_bytes w64) front))

-- NOTHING ELSE STANDS THERE

module _ (n m : ℕ) (r s : List ℕ) where
  pub same_short : n < 2 ^ 16 → m < 2 ^ 16 → to_be_bytes w16 n ++ r ≡ to_be_bytes w16 m ++ s → (n ≡ m) × (r ≡ s)
  same_short fits fits' same = (
    sym (from_be_bytes-to_be_bytes_2 n fits) ∙ ap (λ bytes. from_be_bytes w16 (take 2 bytes)) same ∙ from_be_bytes-to_be_bytes_2 m fits',
    ap (drop 2) same,
  )

  pub same_word : n < 2 ^ 32 → m < 2 ^ 32 → to_be_bytes w32 n ++ r ≡ to_be_bytes w32 m ++ s → (n ≡ m) × (r ≡ s)
  same_word fits fits' same = (
    sym (from_be_bytes-to_be_bytes_4 n fits) ∙ ap (λ bytes. from_be_bytes w32 (take 4 bytes)) same ∙ from_be_bytes-to_be_bytes_4 m fits',
    ap (drop 4) same,
  )

  pub same_long : n < 2 ^ 64 → m < 2 ^ 64 → to_be_bytes w64 n ++ r ≡ to_be_bytes w64 m ++ s → (n ≡ m) × (r ≡ s)
  same_long fits fits' same = (
    sym (from_be_bytes-to_be_bytes_8 n fits) ∙ ap (λ bytes. from_be_bytes w64 (take 8 bytes)) same ∙ from_be_bytes-to_be_bytes_8 m fits',
    ap (drop 8) same,
  )

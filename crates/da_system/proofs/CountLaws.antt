-- Lists of counts, their sums, and a count that is put into one.
use Rattle.std.proofs.Common.{◌≡◌, refl, sym, ◌∙◌, ap, subst, ℕ, zero, suc, ◌+◌, ◌-◌, ◌*◌, ◌<◌, ◌≤◌, ◌^◌, List, [], ◌∷◌, length, replicate, arith}
use Rattle.std.specs.Prelude.{Option, Some, is_some, slice_get, slice_index_or, slice_set, sum}
use Rattle.std.specs.List.{AllByRecursion}
use Rattle.std.proofs.lemmas.Bool.{false≢true}
use Rattle.std.proofs.lemmas.List.{length-replicate, length-set}
use Rattle.std.proofs.lemmas.List.Sums.{sum_by-cons}
use Rattle.da_lang.specs.World.{at_number}
use Rattle.da_system.specs.Channels.{or_empty, put_numbered}
use Rattle.da_system.specs.Counted.{Counted, IsFewMoves, IsTally, moves_at, no_counts, row_at, with_deliveries, with_moves}
use Rattle.da_system.specs.Queues.{IsAmong}
use Rattle.da_system.proofs.PlaceLemmas.{get_is, numbered_put}
use Rattle.da_system.proofs.SystemLaws.{all_replicate, all_set}

-- MEMBERS

pub numbered_get : {A : Type 0} (xs : List A) (p place : ℕ) → p ≡ place + 1 → at_number xs p ≡ slice_get xs place
numbered_get xs zero place is = absurd (omega (arith, is))
numbered_get xs (suc k) place is = ap (slice_get xs) (let here : k ≡ place = omega (arith, is) in here)

-- nothing is put where there is no member
set_out : {A : Type 0} (xs : List A) (k : ℕ) (x : A) → (k < length xs → ⊥) → slice_set xs k x ≡ xs
set_out [] k x none = refl
set_out (y ∷ ys) zero x none = absurd (none (omega arith))
set_out (y ∷ ys) (suc k) x none = ap (λ t. y ∷ t) (set_out ys k x (λ less. none (omega (arith, less))))

pub put_out : {A : Type 0} (xs : List A) (p : ℕ) (x : A) → (IsAmong (length xs) p → ⊥) → put_numbered xs p x ≡ xs
put_out xs zero x none = refl
put_out xs (suc k) x none = set_out xs k x (λ less. none (omega arith, omega (arith, less)))

pub all_there : {A : Type 0} (P : A → Type 0) (xs : List A) (k : ℕ) (x : A) → AllByRecursion P xs → slice_get xs k ≡ Some x → P x
all_there P [] k x all there = absurd (false≢true (ap is_some there))
all_there P (y ∷ ys) zero x all there = subst P (let same : y ≡ x = cc in same) all.0
all_there P (y ∷ ys) (suc k) x all there = all_there P ys k x all.1 there

-- ZEROS

sum_zeros : (n : ℕ) → sum (replicate n 0) ≡ 0
sum_zeros zero = refl
sum_zeros (suc n) = sum_by-cons (λ k. k) 0 (replicate n 0) ∙ ap (λ k. 0 + k) (sum_zeros n)

pub few_zeros : (moves : List ℕ) (n : ℕ) → moves ≡ replicate n 0 → AllByRecursion IsFewMoves moves
few_zeros moves n is = subst (AllByRecursion IsFewMoves) (sym is) (all_replicate IsFewMoves n 0 (omega arith))

pub tally_zeros : (counts : List ℕ) (n : ℕ) → n < 2 ^ 16 → counts ≡ replicate n 0 → IsTally counts 0
tally_zeros counts n few is = record {
  total_is = sym (ap sum is ∙ sum_zeros n);
  few = subst (AllByRecursion (λ k. k ≤ 4)) (sym is) (all_replicate (λ (k : ℕ). k ≤ 4) n 0 (omega arith));
  short = omega (arith, ap length is, length-replicate {A = ℕ} n 0, few);
}

-- SUMS

pub part_of : (xs : List ℕ) (k old : ℕ) → slice_get xs k ≡ Some old → old ≤ sum xs
part_of [] k old there = absurd (false≢true (ap is_some there))
part_of (x ∷ xs) zero old there = let same : x ≡ old = cc in omega (arith, same, sum_by-cons (λ n. n) x xs)
part_of (x ∷ xs) (suc k) old there = omega (arith, part_of xs k old there, sum_by-cons (λ n. n) x xs)

set_sum : (xs : List ℕ) (k old n : ℕ) → slice_get xs k ≡ Some old → sum (slice_set xs k n) + old ≡ sum xs + n
set_sum [] k old n there = absurd (false≢true (ap is_some there))
set_sum (x ∷ xs) zero old n there =
    let same : x ≡ old = cc in
    let here : sum (n ∷ xs) + old ≡ sum (x ∷ xs) + n = omega (arith, same, sum_by-cons (λ m. m) x xs, sum_by-cons (λ m. m) n xs) in
    here
set_sum (x ∷ xs) (suc k) old n there =
    let rest = set_sum xs k old n there in
    let whole : sum (x ∷ slice_set xs k n) + old ≡ sum (x ∷ xs) + n = omega (arith, rest, sum_by-cons (λ m. m) x xs, sum_by-cons (λ m. m) x (slice_set xs k n)) in
    whole

sum_few : (xs : List ℕ) → AllByRecursion (λ n. n ≤ 4) xs → sum xs ≤ length xs * 4
sum_few [] all = omega arith
sum_few (x ∷ xs) all = omega (arith, all.0, sum_few xs all.1, sum_by-cons (λ n. n) x xs)

pub tally_few : (counts : List ℕ) (total : ℕ) → IsTally counts total → total ≤ 2 ^ 18
tally_few counts total tally = omega (arith, tally.total_is, sum_few counts tally.few, tally.short)

-- another count, and the sum with it
pub tally_put : (counts next : List ℕ) (k total old n : ℕ) → next ≡ slice_set counts k n → slice_get counts k ≡ Some old → n ≤ 4 → IsTally counts total → IsTally next (total - old + n)
tally_put counts next k total old n is there small tally =
    let sums : sum next + old ≡ sum counts + n = ap (λ (ns : List ℕ). sum ns + old) is ∙ set_sum counts k old n there in
    record {
      total_is = omega (arith, sums, part_of counts k old there, tally.total_is);
      few = subst (AllByRecursion (λ m. m ≤ 4)) (sym is) (all_set (λ (m : ℕ). m ≤ 4) counts k n tally.few (λ was at kept. small));
      short = omega (arith, ap length is, length-set counts k n, tally.short);
    }

-- ALL COUNTS

abbrev pub counted : List ℕ → List (List ℕ) → Counted
counted moves deliveries = record { moves = moves; deliveries = deliveries }

pub zeros_are : (moves : List ℕ) (rows : List (List ℕ)) (count : ℕ) → moves ≡ replicate count 0 → rows ≡ replicate count (replicate count 0) → counted moves rows ≡ no_counts count
zeros_are moves rows count none nothing = ap (λ (ms : List ℕ). counted ms rows) none ∙ ap (λ (rs : List (List ℕ)). counted (replicate count 0) rs) nothing

-- another count of moves, at a place, and where there is none
pub moves_as : (moves next : List ℕ) (rows : List (List ℕ)) (now : Counted) (place n : ℕ) → counted moves rows ≡ now → next ≡ slice_set moves place n → counted next rows ≡ moves_at now place n
moves_as moves next rows now place n same is = ap (λ (ms : List ℕ). counted ms rows) is ∙ ap (λ (z : Counted). moves_at z place n) same

pub moves_there : (now : Counted) (p place n : ℕ) → p ≡ place + 1 → moves_at now place n ≡ with_moves now p n
moves_there now p place n at = ap (λ (ms : List ℕ). counted ms now.deliveries) (numbered_put now.moves p place n at)

pub moves_none : (now : Counted) (p n : ℕ) → (IsAmong (length now.moves) p → ⊥) → now ≡ with_moves now p n
moves_none now p n none = ap (λ (ms : List ℕ). counted ms now.deliveries) (sym (put_out now.moves p n none))

-- another count in a row, at a place, and where there is none
pub row_as : (moves : List ℕ) (rows : List (List ℕ)) (now : Counted) (place q n : ℕ) (here next : List ℕ) → counted moves rows ≡ now → place < length rows → here ≡ slice_index_or rows place here → next ≡ put_numbered here q n
    → counted moves (slice_set rows place next) ≡ row_at now place q n
row_as moves rows now place q n here next same inside was is =
    let both : Some here ≡ Some (slice_index_or rows place []) = ap Some was ∙ sym (get_is rows place here inside) ∙ get_is rows place [] inside in
    let read : here ≡ slice_index_or rows place [] = cc both in
    ap (λ (r : List ℕ). counted moves (slice_set rows place r)) (is ∙ ap (λ (h : List ℕ). put_numbered h q n) read) ∙ ap (λ (z : Counted). row_at z place q n) same

pub row_there : (now : Counted) (p q place n : ℕ) → p ≡ place + 1 → place < length now.deliveries → row_at now place q n ≡ with_deliveries now p q n
row_there now p q place n at inside =
    let there : at_number now.deliveries p ≡ Some (slice_index_or now.deliveries place []) = numbered_get now.deliveries p place at ∙ get_is now.deliveries place [] inside in
    ap (λ (rs : List (List ℕ)). counted now.moves rs)
    (numbered_put now.deliveries p place (put_numbered (slice_index_or now.deliveries place []) q n) at
    ∙ ap (λ (o : Option (List ℕ)). put_numbered now.deliveries p (put_numbered (or_empty o) q n)) (sym there))

pub row_none : (now : Counted) (p q n : ℕ) → (IsAmong (length now.deliveries) p → ⊥) → now ≡ with_deliveries now p q n
row_none now p q n none = ap (λ (rs : List (List ℕ)). counted now.moves rs) (sym (put_out now.deliveries p (put_numbered (or_empty (at_number now.deliveries p)) q n) none))

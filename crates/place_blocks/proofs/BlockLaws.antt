-- Blocks of places: which one has a place of their order, and what an edit of one changes in the order.
use Rattle.std.specs.Prelude.{◌≡◌, ℕ, zero, suc, ◌+◌, ◌-◌, ◌<◌, ◌≤◌, true, false, nat_le, List, [], ◌∷◌, ◌++◌, length, take, drop, insert, remove, slice_get, slice_index_or, slice_set, Some, refl}
use Rattle.std.specs.List.{All}
use Rattle.std.specs.List.Sorted.{IsPartitionPoint, IsPartitionedBy}
use Rattle.std.proofs.Common.{sym, ap, ◌∙◌, subst, inl, inr, append_assoc, length-append, arith}
use Rattle.std.proofs.lemmas.Bool.{cases_lt, le-leb, leb-false, leb-true}
use Rattle.std.proofs.lemmas.List.{set-append_left, set-append_right, set-get_or, take-set}
use Rattle.std.proofs.lemmas.List.Edits.{insert-append_left, insert-append_right, remove-append_left, remove-append_right}
use Rattle.std.proofs.lemmas.List.Elements.{All-append, All-cons, All-drop, All-nil, All-set, All-take}
use Rattle.std.proofs.lemmas.Option.{slice_get-get_or}
use Rattle.place_blocks.specs.Blocks.{AreBegun, AreBlocks, IsBlockAt, in_blocks}
use Rattle.place_blocks.specs.declared.block.Block.{Block}

abbrev pub IsFilled : Block → Type 0
IsFilled block = 0 < length block.places

-- Blocks, one by one.

pub some_blocks : (blocks : List Block) (at : ℕ) → at < length (in_blocks blocks) → 0 < length blocks
some_blocks [] at inside = absurd (omega (arith, inside))
some_blocks (b ∷ blocks) at inside = omega arith

pub many_blocks : (blocks : List Block) (from : ℕ) → AreBlocks from blocks → length blocks ≤ length (in_blocks blocks)
many_blocks [] from are = omega arith
many_blocks (b ∷ blocks) from are = omega (arith, are.0.filled, many_blocks blocks (from + length b.places) are.1, length-append b.places (in_blocks blocks))

pub all_filled : (blocks : List Block) (from : ℕ) → AreBlocks from blocks → All IsFilled blocks
all_filled [] from are = All-nil IsFilled
all_filled (b ∷ blocks) from are = All-cons IsFilled b blocks are.0.filled (all_filled blocks (from + length b.places) are.1)

take_blocks : (blocks : List Block) (from k : ℕ) → AreBlocks from blocks → AreBlocks from (take k blocks)
take_blocks blocks from zero are = tt
take_blocks [] from (suc k) are = tt
take_blocks (b ∷ blocks) from (suc k) are = (are.0, take_blocks blocks (from + length b.places) k are.1)

take_removed : (blocks : List Block) (k : ℕ) → take k (remove blocks k) ≡ take k blocks
take_removed blocks zero = refl
take_removed [] (suc k) = refl
take_removed (b ∷ blocks) (suc k) = ap (λ bs. b ∷ bs) (take_removed blocks k)

-- a block with as many places as before stands for one
pub kept_blocks : (blocks : List Block) (from k : ℕ) (block new : Block) → AreBlocks from blocks → block ≡ slice_index_or blocks k block → new.before ≡ block.before
    → length new.places ≡ length block.places → AreBlocks from (slice_set blocks k new)
kept_blocks [] from k block new are is before long = tt
kept_blocks (b ∷ blocks) from zero block new are is before long =
    let begins : block.before ≡ b.before = ap (λ (z : Block). z.before) is in
    let size : length block.places ≡ length b.places = ap (λ (z : Block). length z.places) is in
    let next : from + length b.places ≡ from + length new.places = omega (arith, size, long) in (
      record { begins = omega (arith, before, begins, are.0.begins); filled = omega (arith, long, size, are.0.filled) },
      subst (λ n. AreBlocks n blocks) next are.1,
    )
kept_blocks (b ∷ blocks) from (suc k) block new are is before long = (are.0, kept_blocks blocks (from + length b.places) k block new are.1 is before long)

-- the same block stands there again
pub same_blocks : (blocks : List Block) (k : ℕ) (block new : Block) → block ≡ slice_index_or blocks k block → new ≡ block → slice_set blocks k new ≡ blocks
same_blocks blocks k block new is same = ap (slice_set blocks k) (same ∙ is) ∙ set-get_or blocks k block

-- Which block has a place.

first_least : (blocks : List Block) (from k : ℕ) (other : Block) → AreBlocks from blocks → k < length blocks → from ≤ (slice_index_or blocks k other).before
first_least [] from k other are inside = absurd (omega (arith, inside))
first_least (b ∷ blocks) from zero other are inside = omega (arith, are.0.begins)
first_least (b ∷ blocks) from (suc k) other are inside = omega (arith, first_least blocks (from + length b.places) k other are.1 (omega (arith, inside)))

rises : (blocks : List Block) (from i j : ℕ) (other : Block) → AreBlocks from blocks → i ≤ j → j < length blocks → (slice_index_or blocks i other).before ≤ (slice_index_or blocks j other).before
rises [] from i j other are low inside = absurd (omega (arith, inside))
rises (b ∷ blocks) from zero j other are low inside = omega (arith, are.0.begins, first_least (b ∷ blocks) from j other are inside)
rises (b ∷ blocks) from (suc i) zero other are low inside = absurd (omega (arith, low))
rises (b ∷ blocks) from (suc i) (suc j) other are low inside = rises blocks (from + length b.places) i j other are.1 (omega (arith, low)) (omega (arith, inside))

-- what a search for the last block that begins at a place or before it asks
pub parted_blocks : (blocks : List Block) (from at : ℕ) → AreBlocks from blocks → IsPartitionedBy (λ (block : Block). nat_le block.before at) blocks
parted_blocks blocks from at are i j other low inside begun =
    let later : (slice_index_or blocks j other).before ≤ at = leb-true (slice_index_or blocks j other).before at begun in
    le-leb (slice_index_or blocks i other).before at (omega (arith, later, rises blocks from i j other are low inside))

-- the next block begins where one ends, and the last one ends where all do
next_begins : (blocks : List Block) (from k : ℕ) (block other : Block) → AreBlocks from blocks → block ≡ slice_index_or blocks k block → suc k < length blocks
    → (slice_index_or blocks (suc k) other).before ≡ block.before + length block.places
next_begins [] from k block other are is inside = absurd (omega (arith, inside))
next_begins (b ∷ []) from k block other are is inside = absurd (omega (arith, inside))
next_begins (b ∷ d ∷ blocks) from zero block other are is inside =
    let begins : block.before ≡ b.before = ap (λ (z : Block). z.before) is in
    let size : length block.places ≡ length b.places = ap (λ (z : Block). length z.places) is in
    let rest : AreBlocks (from + length b.places) (d ∷ blocks) = are.1 in
    omega (arith, begins, size, are.0.begins, rest.0.begins)
next_begins (b ∷ d ∷ blocks) from (suc k) block other are is inside = next_begins (d ∷ blocks) (from + length b.places) k block other are.1 is (omega (arith, inside))

last_ends : (blocks : List Block) (from k : ℕ) (block : Block) → AreBlocks from blocks → block ≡ slice_index_or blocks k block → suc k ≡ length blocks
    → block.before + length block.places ≡ from + length (in_blocks blocks)
last_ends [] from k block are is end = absurd (omega (arith, end))
last_ends (b ∷ []) from zero block are is end =
    let begins : block.before ≡ b.before = ap (λ (z : Block). z.before) is in
    let size : length block.places ≡ length b.places = ap (λ (z : Block). length z.places) is in
    omega (arith, begins, size, are.0.begins, length-append b.places [])
last_ends (b ∷ []) from (suc k) block are is end = absurd (omega (arith, end))
last_ends (b ∷ d ∷ blocks) from zero block are is end = absurd (omega (arith, end))
last_ends (b ∷ d ∷ blocks) from (suc k) block are is end =
    omega (arith, last_ends (d ∷ blocks) (from + length b.places) k block are.1 is (omega (arith, end)), length-append b.places (in_blocks (d ∷ blocks)))

-- at least one block begins at the place or before it
some_begun : (blocks : List Block) (at begun : ℕ) → AreBlocks 0 blocks → 0 < length blocks
    → IsPartitionPoint (λ (block : Block). nat_le block.before at ≡ true) (λ (block : Block). nat_le block.before at ≡ false) blocks begun → 0 < begun
some_begun [] at begun are some parts = absurd (omega (arith, some))
some_begun (b ∷ blocks) at zero are some parts = absurd (let late : at < b.before = leb-false b.before at (parts.1 0 b (omega arith) (omega arith)) in omega (arith, late, are.0.begins))
some_begun (b ∷ blocks) at (suc begun) are some parts = omega arith

pub block_there : (blocks : List Block) (at begun k : ℕ) → AreBlocks 0 blocks → 0 < length blocks → at ≤ length (in_blocks blocks) → begun ≤ length blocks
    → IsPartitionPoint (λ (block : Block). nat_le block.before at ≡ true) (λ (block : Block). nat_le block.before at ≡ false) blocks begun → k ≡ begun - 1 → IsBlockAt blocks at k
block_there blocks at begun k are some fits bound parts is =
    let one : 0 < begun = some_begun blocks at begun are some parts in
    let next : suc k ≡ begun = omega (arith, is, one) in
    record {
      within = omega (arith, next, bound);
      begun = λ block here. (let early : (slice_index_or blocks k block).before ≤ at = leb-true (slice_index_or blocks k block).before at (parts.0 k block (omega arith) (omega (arith, next))) in
          subst (λ (z : Block). z.before ≤ at) (sym here) early);
      ended = λ block here. elim (cases_lt begun (length blocks)) [
        | inl more ↦ (let late = behind block here next more in omega (arith, late))
        | inr all ↦ omega (arith, last_ends blocks 0 k block are here (omega (arith, next, all, bound)), fits)
      ];
      inside = λ less block here. elim (cases_lt begun (length blocks)) [
        | inl more ↦ behind block here next more
        | inr all ↦ omega (arith, last_ends blocks 0 k block are here (omega (arith, next, all, bound)), less)
      ];
    }
  where
    behind : (block : Block) → block ≡ slice_index_or blocks k block → suc k ≡ begun → begun < length blocks → at < block.before + length block.places
    behind block here next more =
        let late : at < (slice_index_or blocks begun block).before = leb-false (slice_index_or blocks begun block).before at (parts.1 begun block (omega arith) more) in
        let same : (slice_index_or blocks begun block).before ≡ (slice_index_or blocks (suc k) block).before = ap (λ n. (slice_index_or blocks n block).before) (sym next) in
        omega (arith, late, same, next_begins blocks 0 k block block are here (omega (arith, next, more)))

-- The places before a block, and those behind it.

pub record IsRound (from : ℕ) (blocks : List Block) (k : ℕ) (block : Block) : Type 0 where
  pub front : List ℕ
  pub back : List ℕ
  pub whole : in_blocks blocks ≡ front ++ (block.places ++ back)
  pub put : (new : Block) → in_blocks (slice_set blocks k new) ≡ front ++ (new.places ++ back)
  pub out : in_blocks (remove blocks k) ≡ front ++ back
  pub first : in_blocks (take k blocks) ≡ front
  pub long : from + length front ≡ block.before

pub round : (blocks : List Block) (from k : ℕ) (block : Block) → AreBlocks from blocks → k < length blocks → block ≡ slice_index_or blocks k block → IsRound from blocks k block
round [] from k block are inside is = absurd (omega (arith, inside))
round (b ∷ blocks) from zero block are inside is = record {
  front = [];
  back = in_blocks blocks;
  whole = ap (λ (z : Block). z.places ++ in_blocks blocks) (sym is);
  put = λ new. refl;
  out = refl;
  first = refl;
  long = let begins : block.before ≡ b.before = ap (λ (z : Block). z.before) is in omega (arith, begins, are.0.begins);
}
round (b ∷ blocks) from (suc k) block are inside is =
    let r = round blocks (from + length b.places) k block are.1 (omega (arith, inside)) is in
    record {
      front = b.places ++ r.front;
      back = r.back;
      whole = ap (λ zs. b.places ++ zs) r.whole ∙ sym (append_assoc b.places r.front (block.places ++ r.back));
      put = λ new. ap (λ zs. b.places ++ zs) (r.put new) ∙ sym (append_assoc b.places r.front (new.places ++ r.back));
      out = ap (λ zs. b.places ++ zs) r.out ∙ sym (append_assoc b.places r.front r.back);
      first = ap (λ zs. b.places ++ zs) r.first;
      long = omega (arith, r.long, length-append b.places r.front);
    }

-- Reads.

get_behind : (xs ys : List ℕ) (i j : ℕ) → i ≡ length xs + j → slice_get (xs ++ ys) i ≡ slice_get ys j
get_behind [] ys i j sum = let same : i ≡ j = omega (arith, sum) in ap (slice_get ys) same
get_behind (x ∷ xs) ys zero j sum = absurd (omega (arith, sum))
get_behind (x ∷ xs) ys (suc i) j sum = get_behind xs ys i j (omega (arith, sum))

get_before : (xs ys : List ℕ) (j : ℕ) → j < length xs → slice_get (xs ++ ys) j ≡ slice_get xs j
get_before [] ys j inside = absurd (omega (arith, inside))
get_before (x ∷ xs) ys zero inside = refl
get_before (x ∷ xs) ys (suc j) inside = get_before xs ys j (omega (arith, inside))

pub place_read : (blocks : List Block) (at k : ℕ) (block : Block) (seen : List ℕ) → AreBlocks 0 blocks → at < length (in_blocks blocks) → IsBlockAt blocks at k → block ≡ slice_index_or blocks k block
    → seen ≡ block.places → slice_get (in_blocks blocks) at ≡ Some (slice_index_or seen (at - block.before) 0)
place_read blocks at k block seen are inside there is same =
    let r = round blocks 0 k block are there.within is in
    let begun : block.before ≤ at = there.begun block is in
    let ends : at < block.before + length block.places = there.inside inside block is in
    let here : at - block.before < length block.places = omega (arith, begun, ends) in
    ap (λ zs. slice_get zs at) r.whole
    ∙ get_behind r.front (block.places ++ r.back) at (at - block.before) (omega (arith, begun, r.long))
    ∙ get_before block.places r.back (at - block.before) here
    ∙ slice_get-get_or block.places (at - block.before) 0 here
    ∙ ap (λ zs. Some (slice_index_or zs (at - block.before) 0)) (sym same)

-- Edits within a block.
module _ (blocks : List Block) (at k : ℕ) (block : Block) (are : AreBlocks 0 blocks) (there : IsBlockAt blocks at k) (is : block ≡ slice_index_or blocks k block) where
  here : IsRound 0 blocks k block
  here = round blocks 0 k block are there.within is

  front_long : length here.front ≡ block.before
  front_long = omega (arith, here.long)

  front_behind : length here.front ≤ at
  front_behind = omega (arith, front_long, there.begun block is)

  offset : at - length here.front ≡ at - block.before
  offset = ap (λ n. at - n) front_long

  pub put_in_blocks : (new : Block) (place : ℕ) → new.places ≡ insert block.places (at - block.before) place → in_blocks (slice_set blocks k new) ≡ insert (in_blocks blocks) at place
  put_in_blocks new place put =
      here.put new
      ∙ ap (λ zs. here.front ++ (zs ++ here.back)) put
      ∙ ap (λ zs. here.front ++ zs) (sym (insert-append_left block.places here.back (at - block.before) place (omega (arith, there.begun block is, there.ended block is))))
      ∙ ap (λ n. here.front ++ insert (block.places ++ here.back) n place) (sym offset)
      ∙ sym (insert-append_right here.front (block.places ++ here.back) (length here.front) at place refl front_behind)
      ∙ ap (λ zs. insert zs at place) (sym here.whole)

  module _ (inside : at < length (in_blocks blocks)) where
    inner : at - block.before < length block.places
    inner = omega (arith, there.begun block is, there.inside inside block is)

    cut_out : here.front ++ (remove block.places (at - block.before) ++ here.back) ≡ remove (in_blocks blocks) at
    cut_out =
        ap (λ zs. here.front ++ zs) (sym (remove-append_left block.places here.back (at - block.before) inner))
        ∙ ap (λ n. here.front ++ remove (block.places ++ here.back) n) (sym offset)
        ∙ sym (remove-append_right here.front (block.places ++ here.back) (length here.front) at refl front_behind)
        ∙ ap (λ zs. remove zs at) (sym here.whole)

    pub taken_from_blocks : (new : Block) → new.places ≡ remove block.places (at - block.before) → in_blocks (slice_set blocks k new) ≡ remove (in_blocks blocks) at
    taken_from_blocks new taken = here.put new ∙ ap (λ zs. here.front ++ (zs ++ here.back)) taken ∙ cut_out

    pub dropped_from_blocks : length block.places ≡ 1 → in_blocks (remove blocks k) ≡ remove (in_blocks blocks) at
    dropped_from_blocks one =
        here.out ∙ ap (λ zs. here.front ++ (zs ++ here.back)) (sym (none_left block.places (at - block.before) one inner)) ∙ cut_out
      where
        none_left : (xs : List ℕ) (i : ℕ) → length xs ≡ 1 → i < length xs → remove xs i ≡ []
        none_left [] i one less = absurd (omega (arith, one))
        none_left (x ∷ []) zero one less = refl
        none_left (x ∷ []) (suc i) one less = absurd (omega (arith, less))
        none_left (x ∷ y ∷ xs) i one less = absurd (omega (arith, one))

    pub set_in_blocks : (new : Block) (place : ℕ) → new.places ≡ slice_set block.places (at - block.before) place → in_blocks (slice_set blocks k new) ≡ slice_set (in_blocks blocks) at place
    set_in_blocks new place put =
        here.put new
        ∙ ap (λ zs. here.front ++ (zs ++ here.back)) put
        ∙ ap (λ zs. here.front ++ zs) (sym (set-append_left block.places here.back (at - block.before) place inner))
        ∙ ap (λ n. here.front ++ slice_set (block.places ++ here.back) n place) (sym offset)
        ∙ sym (set-append_right here.front (block.places ++ here.back) (length here.front) at place refl front_behind)
        ∙ ap (λ zs. slice_set zs at place) (sym here.whole)

-- What a block with other places, or none, leaves to be counted.
module _ (blocks : List Block) (k before : ℕ) (block : Block) (are : AreBlocks 0 blocks) (inside : k < length blocks) (is : block ≡ slice_index_or blocks k block) (before_is : before ≡ block.before) where
  first_whole : length (in_blocks (take k blocks)) ≡ before
  first_whole =
      let r = round blocks 0 k block are inside is in
      let long : length (in_blocks (take k blocks)) ≡ length r.front = ap length r.first in
      omega (arith, long, r.long, before_is)

  pub dropped_fewer : length (in_blocks (remove blocks k)) ≤ length (in_blocks blocks)
  dropped_fewer =
      let r = round blocks 0 k block are inside is in
      let all : length (in_blocks blocks) ≡ length (r.front ++ (block.places ++ r.back)) = ap length r.whole in
      let left : length (in_blocks (remove blocks k)) ≡ length (r.front ++ r.back) = ap length r.out in
      omega (arith, all, left, length-append r.front (block.places ++ r.back), length-append block.places r.back, length-append r.front r.back)

  pub begun_put : (new : Block) → 0 < length new.places → AreBegun k before (slice_set blocks k new)
  begun_put new some = record {
    begun = subst (AreBlocks 0) (sym (take-set blocks k new)) (take_blocks blocks 0 k are);
    whole = ap (λ bs. length (in_blocks bs)) (take-set blocks k new) ∙ first_whole;
    filled = All-set IsFilled blocks k new some (all_filled blocks 0 are);
  }

  pub begun_dropped : AreBegun k before (remove blocks k)
  begun_dropped = record {
    begun = subst (AreBlocks 0) (sym (take_removed blocks k)) (take_blocks blocks 0 k are);
    whole = ap (λ bs. length (in_blocks bs)) (take_removed blocks k) ∙ first_whole;
    filled = All-append IsFilled (take k blocks) (drop (suc k) blocks) (All-take IsFilled k blocks (all_filled blocks 0 are)) (All-drop IsFilled (suc k) blocks (all_filled blocks 0 are));
  }

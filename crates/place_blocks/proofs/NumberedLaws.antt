-- Blocks that are told one by one how many places stand before them, and how many places there are in all.
use Rattle.std.specs.Prelude.{◌≡◌, ℕ, zero, suc, ◌+◌, ◌-◌, ◌<◌, ◌≤◌, ◌^◌, List, [], ◌∷◌, ◌++◌, length, take, insert, remove, slice_index_or, slice_set, refl}
use Rattle.std.specs.List.{All}
use Rattle.std.proofs.Common.{sym, ap, ◌∙◌, subst, length-append, arith}
use Rattle.std.proofs.lemmas.List.{length-set, take_all, take_more_set}
use Rattle.std.proofs.lemmas.List.Edits.{length-insert, length-remove}
use Rattle.std.proofs.lemmas.List.Elements.{All-set}
use Rattle.place_blocks.specs.Blocks.{AreBegun, AreBlocks, AreCounted, in_blocks}
use Rattle.place_blocks.specs.declared.block.Block.{Block}
use Rattle.place_blocks.proofs.BlockLaws.{IsFilled}

-- One more block.

blocks_more : (blocks : List Block) (from : ℕ) (block : Block) → AreBlocks from blocks → block.before ≡ from + length (in_blocks blocks) → 0 < length block.places → AreBlocks from (blocks ++ block ∷ [])
blocks_more [] from block are begins some = let first : block.before ≡ from + 0 = begins in (record { begins = omega (arith, first); filled = some }, tt)
blocks_more (b ∷ blocks) from block are begins some =
    (are.0, blocks_more blocks (from + length b.places) block are.1 (omega (arith, begins, length-append b.places (in_blocks blocks))) some)

long_more : (blocks : List Block) (block : Block) → length (in_blocks (blocks ++ block ∷ [])) ≡ length (in_blocks blocks) + length block.places
long_more [] block = omega (arith, length-append block.places [])
long_more (b ∷ blocks) block =
    omega (arith, long_more blocks block, length-append b.places (in_blocks (blocks ++ block ∷ [])), length-append b.places (in_blocks blocks))

set_same : (blocks : List Block) (k : ℕ) (block new : Block) → block ≡ slice_index_or blocks k block → new.places ≡ block.places → in_blocks (slice_set blocks k new) ≡ in_blocks blocks
set_same [] k block new is same = refl
set_same (b ∷ blocks) zero block new is same = ap (λ zs. zs ++ in_blocks blocks) (same ∙ ap (λ (z : Block). z.places) is)
set_same (b ∷ blocks) (suc k) block new is same = ap (λ zs. b.places ++ zs) (set_same blocks k block new is same)

part_short : (blocks : List Block) (k : ℕ) (block : Block) → k < length blocks → block ≡ slice_index_or blocks k block → length (in_blocks (take k blocks)) + length block.places ≤ length (in_blocks blocks)
part_short [] k block inside is = absurd (omega (arith, inside))
part_short (b ∷ blocks) zero block inside is =
    let size : length block.places ≡ length b.places = ap (λ (z : Block). length z.places) is in omega (arith, size, length-append b.places (in_blocks blocks))
part_short (b ∷ blocks) (suc k) block inside is =
    omega (arith, part_short blocks k block (omega (arith, inside)) is, length-append b.places (in_blocks (take k blocks)), length-append b.places (in_blocks blocks))

-- The first blocks of those that were there count, and so many places stand in them.
pub record AreNumbered (old now : List Block) (k next : ℕ) : Type 0 where
  pub begun : AreBlocks 0 (take k now)
  pub told : length (in_blocks (take k now)) ≡ next
  pub filled : All IsFilled now
  pub long : length now ≡ length old
  pub same : in_blocks now ≡ in_blocks old

pub numbered_start : (blocks : List Block) (first before : ℕ) → AreBegun first before blocks → AreNumbered blocks blocks first before
numbered_start blocks first before begun = record { begun = begun.begun; told = begun.whole; filled = begun.filled; long = refl; same = refl }

module _ (old now : List Block) (k next : ℕ) (numbered : AreNumbered old now k next) where
  pub numbered_room : (block : Block) → k < length now → block ≡ slice_index_or now k block → length (in_blocks old) < 2 ^ 64 → next + length block.places < 2 ^ 64
  numbered_room block inside is room =
      let whole : length (in_blocks now) ≡ length (in_blocks old) = ap length numbered.same in
      omega (arith, part_short now k block inside is, numbered.told, whole, room)

  pub numbered_more : (block new : Block) (after : ℕ) → k < length now → block ≡ slice_index_or now k block → new.before ≡ next → new.places ≡ block.places → after ≡ next + length block.places
      → AreNumbered old (slice_set now k new) (k + 1) after
  numbered_more block new after inside is before places after_is =
      let more : take (k + 1) (slice_set now k new) ≡ take k now ++ new ∷ [] = take_more_set now k new inside in
      let size : length new.places ≡ length block.places = ap length places in
      let here : 0 < length (slice_index_or now k block).places = numbered.filled k block inside in
      let same : length block.places ≡ length (slice_index_or now k block).places = ap (λ (z : Block). length z.places) is in
      let some : 0 < length new.places = omega (arith, size, here, same) in
      record {
        begun = subst (AreBlocks 0) (sym more) (blocks_more (take k now) 0 new numbered.begun (omega (arith, before, numbered.told)) some);
        told = ap (λ bs. length (in_blocks bs)) more ∙ omega (arith, long_more (take k now) new, numbered.told, size, after_is);
        filled = All-set IsFilled now k new some numbered.filled;
        long = length-set now k new ∙ numbered.long;
        same = set_same now k block new is places ∙ numbered.same;
      }

  pub numbered_all : length now ≤ k → AreBlocks 0 now
  numbered_all far = subst (AreBlocks 0) (take_all k now far) numbered.begun

-- How many places there are after an edit.
module _ (count : ℕ) (old new : List Block) (counted : AreCounted count old) (are : AreBlocks 0 new) where
  pub counted_same : in_blocks new ≡ in_blocks old → AreCounted count new
  counted_same same = record { blocks_are = are; whole = ap length same ∙ counted.whole; room = counted.room }

  pub counted_more : (more at place : ℕ) → at ≤ length (in_blocks old) → more ≡ count + 1 → count + 1 < 2 ^ 64 → in_blocks new ≡ insert (in_blocks old) at place → AreCounted more new
  counted_more more at place fits is room put =
      let whole : length (in_blocks new) ≡ length (in_blocks old) + 1 = ap length put ∙ length-insert (in_blocks old) at place fits in
      record { blocks_are = are; whole = omega (arith, whole, counted.whole, is); room = omega (arith, is, room) }

  pub counted_less : (at : ℕ) → at < length (in_blocks old) → in_blocks new ≡ remove (in_blocks old) at → AreCounted (count - 1) new
  counted_less at inside taken =
      let gone : length (remove (in_blocks old) at) + 1 ≡ length (in_blocks old) = length-remove (in_blocks old) at inside in
      let whole : length (in_blocks new) ≡ length (remove (in_blocks old) at) = ap length taken in
      record { blocks_are = are; whole = omega (arith, whole, gone, counted.whole); room = omega (arith, counted.room) }

  pub counted_set : (at place : ℕ) → in_blocks new ≡ slice_set (in_blocks old) at place → AreCounted count new
  counted_set at place put = record { blocks_are = are; whole = ap length put ∙ length-set (in_blocks old) at place ∙ counted.whole; room = counted.room }

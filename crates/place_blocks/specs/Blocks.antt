-- Places of an order, as blocks one behind the other.
use Rattle.std.specs.Prelude.{◌≡◌, ◌+◌, ◌<◌, ◌≤◌, ◌^◌, ℕ, List, [], ◌∷◌, ◌++◌, length, slice_index_or, take}
use Rattle.std.specs.List.{All}
use Rattle.place_blocks.specs.declared.block.Block.{Block}

-- the places of all of them
abbrev pub in_blocks : List Block → List ℕ
in_blocks [] = []
in_blocks (block ∷ blocks) = block.places ++ in_blocks blocks

-- a block with places, before which so many stand
pub record IsBlock (from : ℕ) (block : Block) : Type 0 where
  pub begins : block.before ≡ from
  pub filled : 0 < length block.places

-- each of them, where so many places stand before the first
abbrev pub AreBlocks : ℕ → List Block → Type 0
AreBlocks from [] = Unit {0}
AreBlocks from (block ∷ blocks) = IsBlock from block × AreBlocks (from + length block.places) blocks

-- the number of a block in which a place of the order is, or behind whose places it would be
pub record IsBlockAt (blocks : List Block) (at k : ℕ) : Type 0 where
  pub within : k < length blocks
  pub begun : (block : Block) → block ≡ slice_index_or blocks k block → block.before ≤ at
  pub ended : (block : Block) → block ≡ slice_index_or blocks k block → at ≤ block.before + length block.places
  pub inside : at < length (in_blocks blocks) → (block : Block) → block ≡ slice_index_or blocks k block
      → at < block.before + length block.places

-- blocks of which the first ones, with so many places, count those before them, and of which none is empty
pub record AreBegun (first before : ℕ) (blocks : List Block) : Type 0 where
  pub begun : AreBlocks 0 (take first blocks)
  pub whole : length (in_blocks (take first blocks)) ≡ before
  pub filled : All (λ (block : Block). 0 < length block.places) blocks

-- all of them, with so many places, for which a number of the machine has place
pub record AreCounted (count : ℕ) (blocks : List Block) : Type 0 where
  pub blocks_are : AreBlocks 0 blocks
  pub whole : length (in_blocks blocks) ≡ count
  pub room : count < 2 ^ 64

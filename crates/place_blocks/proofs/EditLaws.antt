-- What the code of an edit reads of blocks.
use Rattle.std.specs.Prelude.{◌≡◌, ℕ, zero, suc, ◌<◌, List, [], ◌∷◌, length, slice_index_or, Result, Ok, Err, OnErr, refl}
use Rattle.std.proofs.Common.{sym, ap, ◌∙◌, subst, arith}
use Rattle.place_blocks.specs.Blocks.{IsBlockAt}
use Rattle.place_blocks.specs.declared.block.Block.{Block}

module _ (blocks seen : List Block) (same : seen ≡ blocks) where
  pub seen_at : (at k : ℕ) → IsBlockAt seen at k → IsBlockAt blocks at k
  seen_at at k there = subst (λ bs. IsBlockAt bs at k) same there

  pub before_seen : (k before : ℕ) → ((other : Block) → before ≡ (slice_index_or seen k other).before) → (block : Block) → block ≡ slice_index_or blocks k block → before ≡ block.before
  before_seen k before is block here =
      is block ∙ ap (λ (bs : List Block). (slice_index_or bs k block).before) same ∙ ap (λ (z : Block). z.before) (sym here)

  pub length_seen : (k long : ℕ) → ((other : Block) → long ≡ length (slice_index_or seen k other).places) → (block : Block) → block ≡ slice_index_or blocks k block → long ≡ length block.places
  length_seen k long is block here =
      is block ∙ ap (λ (bs : List Block). length (slice_index_or bs k block).places) same ∙ ap (λ (z : Block). length z.places) (sym here)

  pub length_there : (k long : ℕ) → ((other : Block) → long ≡ length (slice_index_or seen k other).places) → (other : Block) → long ≡ length (slice_index_or blocks k other).places
  length_there k long is other = is other ∙ ap (λ (bs : List Block). length (slice_index_or bs k other).places) same

  pub before_there : (k : ℕ) (other : Block) → (slice_index_or seen k other).before ≡ (slice_index_or blocks k other).before
  before_there k other = ap (λ (bs : List Block). (slice_index_or bs k other).before) same

  pub places_there : (k : ℕ) (other : Block) → (slice_index_or seen k other).places ≡ (slice_index_or blocks k other).places
  places_there k other = ap (λ (bs : List Block). (slice_index_or bs k other).places) same

-- where memory was refused
pub at_err : {T E : Type 0} (P : Type 0) (r : Result T E) → P → OnErr r P
at_err P (Ok x) p = tt
at_err P (Err e) p = p

-- a block that is there, as an element of its own
pub a_block : (blocks : List Block) (k : ℕ) → k < length blocks → (block : Block) × (block ≡ slice_index_or blocks k block)
a_block [] k inside = absurd (omega (arith, inside))
a_block (b ∷ blocks) zero inside = (b, refl)
a_block (b ∷ blocks) (suc k) inside = a_block blocks k (omega (arith, inside))

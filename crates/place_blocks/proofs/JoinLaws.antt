-- Blocks that are parted in two, or made one, count as before, and stand for the same order.
use Rattle.std.specs.Prelude.{◌≡◌, ℕ, zero, suc, ◌+◌, ◌-◌, ◌<◌, ◌≤◌, List, [], ◌∷◌, ◌++◌, length, take, drop, insert, remove, slice_index_or, slice_set, refl}
use Rattle.std.proofs.Common.{sym, ap, ◌∙◌, subst, append_assoc, length-append, length-drop, take-append-drop, arith}
use Rattle.std.proofs.lemmas.List.{get_or_default, length-take-le}
use Rattle.place_blocks.specs.Blocks.{AreBlocks, in_blocks}
use Rattle.place_blocks.specs.declared.block.Block.{Block}
use Rattle.place_blocks.proofs.BlockLaws.{round}
use Rattle.place_blocks.proofs.EditLaws.{a_block}

-- One block in two.
module _ (lower : ℕ) (low upper block : Block) (some : 0 < lower) (more : lower < length block.places) (low_before : low.before ≡ block.before) (low_is : low.places ≡ take lower block.places)
    (upper_before : upper.before ≡ block.before + lower) (upper_is : upper.places ≡ drop lower block.places) where
  low_long : length low.places ≡ lower
  low_long = ap length low_is ∙ length-take-le lower block.places (omega (arith, more))

  upper_long : length upper.places ≡ length block.places - lower
  upper_long = ap length upper_is ∙ length-drop lower block.places

  both_are : low.places ++ upper.places ≡ block.places
  both_are = ap (λ zs. zs ++ upper.places) low_is ∙ ap (λ zs. take lower block.places ++ zs) upper_is ∙ take-append-drop lower block.places

  halves_are : (blocks : List Block) (from k : ℕ) → AreBlocks from blocks → k < length blocks → block ≡ slice_index_or blocks k block → AreBlocks from (slice_set (insert blocks (suc k) upper) k low)
  halves_are [] from k are inside is = absurd (omega (arith, inside))
  halves_are (b ∷ blocks) from zero are inside is =
      let begins : block.before ≡ b.before = ap (λ (z : Block). z.before) is in
      let size : length block.places ≡ length b.places = ap (λ (z : Block). length z.places) is in
      let next : from + length b.places ≡ from + length low.places + length upper.places = omega (arith, size, low_long, upper_long, more) in
      let second : upper.before ≡ from + length low.places = omega (arith, upper_before, begins, are.0.begins, low_long) in
      let first : low.before ≡ from = omega (arith, low_before, begins, are.0.begins) in
      (record { begins = first; filled = omega (arith, low_long, some) }, (record { begins = second; filled = omega (arith, upper_long, more) }, subst (λ n. AreBlocks n blocks) next are.1))
  halves_are (b ∷ blocks) from (suc k) are inside is = (are.0, halves_are blocks (from + length b.places) k are.1 (omega (arith, inside)) is)

  halves_same : (blocks : List Block) (k : ℕ) → k < length blocks → block ≡ slice_index_or blocks k block → in_blocks (slice_set (insert blocks (suc k) upper) k low) ≡ in_blocks blocks
  halves_same [] k inside is = absurd (omega (arith, inside))
  halves_same (b ∷ blocks) zero inside is =
      sym (append_assoc low.places upper.places (in_blocks blocks)) ∙ ap (λ zs. zs ++ in_blocks blocks) (both_are ∙ ap (λ (z : Block). z.places) is)
  halves_same (b ∷ blocks) (suc k) inside is = ap (λ zs. b.places ++ zs) (halves_same blocks k (omega (arith, inside)) is)

  module _ (blocks : List Block) (k next : ℕ) (next_is : next ≡ suc k) (inside : k < length blocks) (is : block ≡ slice_index_or blocks k block) where
    pub split_are : AreBlocks 0 blocks → AreBlocks 0 (slice_set (insert blocks next upper) k low)
    split_are are = subst (λ n. AreBlocks 0 (slice_set (insert blocks n upper) k low)) (sym next_is) (halves_are blocks 0 k are inside is)

    pub split_same : in_blocks (slice_set (insert blocks next upper) k low) ≡ in_blocks blocks
    split_same = ap (λ n. in_blocks (slice_set (insert blocks n upper) k low)) next_is ∙ halves_same blocks k inside is

-- a block behind which one is put stands where it stood
stands_still : (blocks : List Block) (k : ℕ) (upper other : Block) → k < length blocks → slice_index_or (insert blocks (suc k) upper) k other ≡ slice_index_or blocks k other
stands_still [] k upper other inside = absurd (omega (arith, inside))
stands_still (b ∷ blocks) zero upper other inside = refl
stands_still (b ∷ blocks) (suc k) upper other inside = stands_still blocks k upper other (omega (arith, inside))

pub stays_there : (blocks : List Block) (k next : ℕ) (upper other : Block) → next ≡ suc k → k < length blocks → slice_index_or (insert blocks next upper) k other ≡ slice_index_or blocks k other
stays_there blocks k next upper other next_is inside = ap (λ n. slice_index_or (insert blocks n upper) k other) next_is ∙ stands_still blocks k upper other inside

-- no place of a block is past all
pub ends_within : (blocks : List Block) (k : ℕ) (block : Block) → AreBlocks 0 blocks → k < length blocks → block ≡ slice_index_or blocks k block → block.before + length block.places ≤ length (in_blocks blocks)
ends_within blocks k block are inside is =
    let r = round blocks 0 k block are inside is in
    let whole : length (in_blocks blocks) ≡ length (r.front ++ (block.places ++ r.back)) = ap length r.whole in
    omega (arith, whole, r.long, length-append r.front (block.places ++ r.back), length-append block.places r.back)

-- Two blocks in one.
module _ (block other both : Block) (before : both.before ≡ block.before) (places : both.places ≡ block.places ++ other.places) where
  both_long : length both.places ≡ length block.places + length other.places
  both_long = ap length places ∙ length-append block.places other.places

  one_are : (blocks : List Block) (from k : ℕ) → AreBlocks from blocks → suc k < length blocks → block ≡ slice_index_or blocks k block → other ≡ slice_index_or blocks (suc k) other
      → AreBlocks from (remove (slice_set blocks k both) (suc k))
  one_are [] from k are inside is is_next = absurd (omega (arith, inside))
  one_are (b ∷ []) from k are inside is is_next = absurd (omega (arith, inside))
  one_are (b ∷ d ∷ blocks) from zero are inside is is_next =
      let begins : block.before ≡ b.before = ap (λ (z : Block). z.before) is in
      let size : length block.places ≡ length b.places = ap (λ (z : Block). length z.places) is in
      let size_next : length other.places ≡ length d.places = ap (λ (z : Block). length z.places) is_next in
      let rest : AreBlocks (from + length b.places) (d ∷ blocks) = are.1 in
      let next : from + length b.places + length d.places ≡ from + length both.places = omega (arith, size, size_next, both_long) in
      (record { begins = omega (arith, before, begins, are.0.begins); filled = omega (arith, both_long, size, are.0.filled) }, subst (λ n. AreBlocks n blocks) next rest.1)
  one_are (b ∷ d ∷ blocks) from (suc k) are inside is is_next = (are.0, one_are (d ∷ blocks) (from + length b.places) k are.1 (omega (arith, inside)) is is_next)

  one_same : (blocks : List Block) (k : ℕ) → suc k < length blocks → block ≡ slice_index_or blocks k block → other ≡ slice_index_or blocks (suc k) other
      → in_blocks (remove (slice_set blocks k both) (suc k)) ≡ in_blocks blocks
  one_same [] k inside is is_next = absurd (omega (arith, inside))
  one_same (b ∷ []) k inside is is_next = absurd (omega (arith, inside))
  one_same (b ∷ d ∷ blocks) zero inside is is_next =
      ap (λ zs. zs ++ in_blocks blocks) (places ∙ ap (λ (z : Block). z.places ++ other.places) is ∙ ap (λ (z : Block). b.places ++ z.places) is_next)
      ∙ append_assoc b.places d.places (in_blocks blocks)
  one_same (b ∷ d ∷ blocks) (suc k) inside is is_next = ap (λ zs. b.places ++ zs) (one_same (d ∷ blocks) k (omega (arith, inside)) is is_next)

  module _ (blocks : List Block) (k next : ℕ) (next_is : next ≡ suc k) (inside : next < length blocks) (is : block ≡ slice_index_or blocks k block) (is_next : other ≡ slice_index_or blocks next other) where
    within : suc k < length blocks
    within = omega (arith, next_is, inside)

    there : other ≡ slice_index_or blocks (suc k) other
    there = is_next ∙ ap (λ n. slice_index_or blocks n other) next_is

    pub joined_are : AreBlocks 0 blocks → AreBlocks 0 (remove (slice_set blocks k both) next)
    joined_are are = subst (λ n. AreBlocks 0 (remove (slice_set blocks k both) n)) (sym next_is) (one_are blocks 0 k are within is there)

    pub joined_same : in_blocks (remove (slice_set blocks k both) next) ≡ in_blocks blocks
    joined_same = ap (λ n. in_blocks (remove (slice_set blocks k both) n)) next_is ∙ one_same blocks k within is there

-- What the code reads of a block that it parts.
module _ (blocks seen : List Block) (k lower : ℕ) (same : seen ≡ blocks) (are : AreBlocks 0 blocks) (inside : k < length blocks) (more : (other : Block) → lower < length (slice_index_or blocks k other).places) where
  pub room_there : (other : Block) → (slice_index_or seen k other).before + lower ≤ length (in_blocks blocks)
  room_there other =
      let here : slice_index_or blocks k other ≡ slice_index_or blocks k (slice_index_or blocks k other) = get_or_default blocks k other (slice_index_or blocks k other) inside in
      let before : (slice_index_or seen k other).before ≡ (slice_index_or blocks k other).before = ap (λ (bs : List Block). (slice_index_or bs k other).before) same in
      omega (arith, before, more other, ends_within blocks k (slice_index_or blocks k other) are inside here)

  module _ (mid : List Block) (next : ℕ) (upper entry low : Block) (some : 0 < lower) (next_is : next ≡ suc k) (before : (other : Block) → upper.before ≡ (slice_index_or seen k other).before + lower)
      (places : (other : Block) → upper.places ≡ drop lower (slice_index_or seen k other).places) (put : mid ≡ insert blocks next upper) (there : entry ≡ slice_index_or mid k entry)
      (low_places : low.places ≡ take lower entry.places) (low_before : low.before ≡ entry.before) where
    entry_is : entry ≡ slice_index_or blocks k entry
    entry_is = there ∙ ap (λ (bs : List Block). slice_index_or bs k entry) put ∙ stays_there blocks k next upper entry next_is inside

    entry_long : lower < length entry.places
    entry_long = let size : length entry.places ≡ length (slice_index_or blocks k entry).places = ap (λ (z : Block). length z.places) entry_is in omega (arith, more entry, size)

    upper_begins : upper.before ≡ entry.before + lower
    upper_begins = before entry ∙ ap (λ (bs : List Block). (slice_index_or bs k entry).before + lower) same ∙ ap (λ (z : Block). z.before + lower) (sym entry_is)

    upper_places : upper.places ≡ drop lower entry.places
    upper_places = places entry ∙ ap (λ (bs : List Block). drop lower (slice_index_or bs k entry).places) same ∙ ap (λ (z : Block). drop lower z.places) (sym entry_is)

    pub parted_are : AreBlocks 0 (slice_set mid k low)
    parted_are =
        subst (λ (bs : List Block). AreBlocks 0 (slice_set bs k low)) (sym put)
        (split_are lower low upper entry some entry_long low_before low_places upper_begins upper_places blocks k next next_is inside entry_is are)

    pub parted_same : in_blocks (slice_set mid k low) ≡ in_blocks blocks
    parted_same =
        ap (λ (bs : List Block). in_blocks (slice_set bs k low)) put
        ∙ split_same lower low upper entry some entry_long low_before low_places upper_begins upper_places blocks k next next_is inside entry_is

-- What the code reads of two blocks that it makes one.
module _ (blocks seen after : List Block) (k next : ℕ) (list : List ℕ) (entry new : Block) (same : seen ≡ blocks) (next_is : next ≡ suc k) (inside : next < length blocks)
    (both : (other : Block) → list ≡ (slice_index_or seen k other).places ++ (slice_index_or seen next other).places) (there : entry ≡ slice_index_or blocks k entry)
    (places : new.places ≡ list) (before : new.before ≡ entry.before) (is : after ≡ remove (slice_set blocks k new) next) where
  both_places : (other : Block) → other ≡ slice_index_or blocks next other → new.places ≡ entry.places ++ other.places
  both_places other here =
      let first : (slice_index_or seen k entry).places ≡ entry.places = ap (λ (bs : List Block). (slice_index_or bs k entry).places) same ∙ ap (λ (z : Block). z.places) (sym there) in
      let second : (slice_index_or seen next entry).places ≡ other.places =
      ap (λ (bs : List Block). (slice_index_or bs next entry).places) same ∙ ap (λ (z : Block). z.places) (get_or_default blocks next entry other inside ∙ sym here) in
      places ∙ both entry ∙ ap (λ zs. zs ++ (slice_index_or seen next entry).places) first ∙ ap (λ zs. entry.places ++ zs) second

  pub made_one_are : AreBlocks 0 blocks → AreBlocks 0 after
  made_one_are are =
      let (other, here) = a_block blocks next inside in
      subst (AreBlocks 0) (sym is) (joined_are entry other new before (both_places other here) blocks k next next_is inside there here are)

  pub made_one_same : in_blocks after ≡ in_blocks blocks
  made_one_same =
      let (other, here) = a_block blocks next inside in
      ap in_blocks is ∙ joined_same entry other new before (both_places other here) blocks k next next_is inside there here

-- An id ties with itself, and the parts of a cell name the children of its value, place by place.
use Rattle.std.specs.Prelude.{◌≡◌, ℕ, zero, suc, List, [], ◌∷◌, map, Option, Some, None, slice_get, IsSome, is_some, refl}
use Rattle.std.specs.declared.cmp.Ordering.TheVariants.{Equal}
use Rattle.std.proofs.Common.{sym, ap, ◌∙◌}
use Rattle.std.proofs.lemmas.Cmp.{tied_itself}
use Rattle.da_values.specs.Order.{val_cmp}
use Rattle.da_values.specs.OrderLaws.{val_order}
use Rattle.da_values.specs.Value.{val_of}
use Rattle.da_values.specs.declared.val.Val.{Val}
use Rattle.row_pool.specs.declared.cell.Cell.{Cell}
use Rattle.row_pool.specs.Cells.{Cells, cell_at, value_in, value_at, children, IsPool}
use Rattle.row_pool.specs.Pool.{or_no_value, val_at}

pub ties : (s : Cells) (a b : ℕ) → a ≡ b → Equal ≡ val_cmp (val_at s a) (val_at s b)
ties s a b same = sym (ap (λ k. val_cmp (val_at s a) (val_at s k)) (sym same) ∙ tied_itself val_order (val_at s a))

module _ (f : ℕ → Option Val) where
  none_at : (ps : List ℕ) (xs : List Val) (i : ℕ) → map f ps ≡ map Some xs → slice_get ps i ≡ None → slice_get xs i ≡ None
  none_at [] [] i is at = refl
  none_at [] (x ∷ xs) i is at = absurd (cc is)
  none_at (p ∷ ps) [] i is at = refl
  none_at (p ∷ ps) (x ∷ xs) zero is at = absurd (cc at)
  none_at (p ∷ ps) (x ∷ xs) (suc i) is at = let rest : map f ps ≡ map Some xs = cc is in none_at ps xs i rest at

  value_of_part : (ps : List ℕ) (xs : List Val) (i k : ℕ) → map f ps ≡ map Some xs → slice_get ps i ≡ Some k → slice_get xs i ≡ f k
  value_of_part [] xs i k is at = absurd (cc at)
  value_of_part (p ∷ ps) [] i k is at = absurd (cc is)
  value_of_part (p ∷ ps) (x ∷ xs) zero k is at =
      let first : f p ≡ Some x = cc is in
      let key : p ≡ k = cc at in
      sym first ∙ ap f key
  value_of_part (p ∷ ps) (x ∷ xs) (suc i) k is at = let rest : map f ps ≡ map Some xs = cc is in value_of_part ps xs i k rest at

  part_has_value : (ps : List ℕ) (xs : List Val) (i k : ℕ) → map f ps ≡ map Some xs → slice_get ps i ≡ Some k → IsSome (f k)
  part_has_value [] xs i k is at = absurd (cc at)
  part_has_value (p ∷ ps) [] i k is at = absurd (cc is)
  part_has_value (p ∷ ps) (x ∷ xs) zero k is at =
      let first : f p ≡ Some x = cc is in
      let key : p ≡ k = cc at in
      ap is_some (ap f (sym key) ∙ first)
  part_has_value (p ∷ ps) (x ∷ xs) (suc i) k is at = let rest : map f ps ≡ map Some xs = cc is in part_has_value ps xs i k rest at

-- what is found at a place among the parts of the cell that an id names
module _ (find : Val → Option ℕ) (s now : Cells) (key id i : ℕ) (same : s ≡ now) (is : key ≡ id) (pool : IsPool find s) (used : IsSome (value_at now id)) (o : Option ℕ) (at : (c : Cell) → cell_at s key ≡ Some c → o ≡ slice_get c.parts i) where
  cell_by : (r : Option Cell) → cell_at s key ≡ r → IsSome (value_in r) → (c : Cell) × (cell_at s key ≡ Some c)
  cell_by None there some = absurd (cc)
  cell_by (Some c) there some = (c, there)

  named : (c : Cell) × (cell_at s key ≡ Some c)
  named = cell_by (cell_at s key) refl (rw (same, is) used)

  its_value : (c : Cell) → cell_at s key ≡ Some c → val_of c.value ≡ val_at now id
  its_value c there = sym (ap (λ r. or_no_value (value_in r)) there) ∙ ap (val_at s) is ∙ ap (λ n. val_at n id) same

  its_parts : (c : Cell) → cell_at s key ≡ Some c → map (value_at s) c.parts ≡ map Some (children (val_at now id))
  its_parts c there = pool.agrees.whole key c there ∙ ap (λ y. map Some (children y)) (its_value c there)

  pub part_none : o ≡ None → slice_get (children (val_at now id)) i ≡ None
  part_none none = let (c, there) = named in none_at (value_at s) c.parts (children (val_at now id)) i (its_parts c there) (sym (at c there) ∙ none)

  pub part_some : (k : ℕ) → o ≡ Some k → slice_get (children (val_at now id)) i ≡ value_at s k
  part_some k some = let (c, there) = named in value_of_part (value_at s) c.parts (children (val_at now id)) i k (its_parts c there) (sym (at c there) ∙ some)

  pub part_used : (k : ℕ) → o ≡ Some k → IsSome (value_at s k)
  part_used k some = let (c, there) = named in part_has_value (value_at s) c.parts (children (val_at now id)) i k (its_parts c there) (sym (at c there) ∙ some)

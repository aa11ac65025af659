-- The values of a pool: each is under one id, and within one that is held from outside.
use Rattle.std.specs.Prelude.{◌≡◌, ◌⊎◌, ℕ, zero, suc, ◌+◌, ◌<◌, ◌≤◌, List, [], ◌∷◌, ◌++◌, map, Option, Some, None, refl}
use Rattle.std.proofs.Common.{sym, ap, ◌∙◌, subst, inl, inr, arith}
use Rattle.std.proofs.lemmas.Bool.{cases_eq, cases_lt}
use Rattle.da_values.specs.Sets.{Has}
use Rattle.da_values.specs.Value.{val_of, weight, weights, weight_step}
use Rattle.da_values.specs.Views.{parts_in, elements_in}
use Rattle.da_values.specs.declared.val.Val.{Val, out-Val}
use Rattle.da_values.specs.declared.val.Val.TheOpen.{Val-F, Int, Bool as Truth, Text, Proc, Tuple, Set}
use Rattle.da_values.specs.declared.val.Val.TheFolds.{fold_out-Val, map-Val}
use Rattle.row_pool.specs.declared.cell.Cell.{Cell}
use Rattle.row_pool.specs.Cells as row
use Rattle.row_pool.specs.Cells.{Cells, cell_at, value_in, holders_in, value_at, holders_at, count, inside, outside, children, Agrees, IsPool}
use Rattle.row_pool.specs.InUse.{Within, itself, inner, IsHeld, InUse, IsCounted, IsOne}
use Rattle.row_pool.proofs.CountLaws.{count_more, count_other}

-- no value of the pool weighs more than all of them
weight_in : Option Cell → ℕ
weight_in None = 0
weight_in (Some c) = weight (val_of c.value)

bound : Cells → ℕ
bound [] = 0
bound (c ∷ cs) = weight_in c + bound cs

bounded_by : (o : Option Cell) (x : Val) → value_in o ≡ Some x → weight x ≤ weight_in o
unfolding weight_in
bounded_by None x is = absurd (cc is)
bounded_by (Some c) x is = let same : val_of c.value ≡ x = cc is in omega (arith, ap weight same)

bounded : (s : Cells) (k : ℕ) (x : Val) → value_at s k ≡ Some x → weight x ≤ bound s
unfolding bound
bounded [] k x is = absurd (cc is)
bounded (c ∷ cs) zero x is = omega (arith, bounded_by c x is)
bounded (c ∷ cs) (suc k) x is = omega (arith, bounded cs k x is)

-- a child weighs less
has_weight : (xs : List Val) (x : Val) → Has xs x → weight x < weights xs
has_weight [] x has = absurd has
has_weight (y ∷ ys) x (inl e) = omega (arith, ap weight e)
has_weight (y ∷ ys) x (inr h) = omega (arith, has_weight ys x h)

append_nil : (xs : List Val) → xs ++ [] ≡ xs
append_nil [] = refl
append_nil (x ∷ xs) = ap (λ ys. x ∷ ys) (append_nil xs)

lighter_by : (l : Val-F Val) (x : Val) → Has (parts_in l ++ elements_in l) x → weight x < weight_step (map-Val Val ℕ weight l)
lighter_by (Tuple parts) x has = omega (arith, has_weight parts x (subst (λ ys. Has ys x) (append_nil parts) has))
lighter_by (Set elements) x has = omega (arith, has_weight elements x has)
lighter_by (Int number) x has = absurd has
lighter_by (Truth truth) x has = absurd has
lighter_by (Text text) x has = absurd has
lighter_by (Proc process) x has = absurd has

pub lighter : (y x : Val) → Has (children y) x → weight x < weight y
lighter y x has = omega (arith, lighter_by (out-Val y) x has, fold_out-Val ℕ weight_step y)

-- what is within a value weighs no more
pub within_weighs : (z x : Val) → Within z x → weight x ≤ weight z
within_weighs z x (itself _ same) = omega (arith, ap weight same)
within_weighs z x (inner _ y child within) = omega (arith, lighter y x child, within_weighs z y within)

-- a holder inside is a cell with this part
holder : (s : Cells) (k : ℕ) → 0 < inside s k → (j : ℕ) × (c : Cell) × (cell_at s j ≡ Some c) × (0 < count k c.parts)
holder [] k some = absurd (omega (arith, some))
holder (None ∷ cs) k some = let (j, c, at, more) = holder cs k (omega (arith, some)) in (suc j, c, at, more)
holder (Some d ∷ cs) k some = go (cases_lt 0 (count k d.parts)) (λ few. holder cs k (omega (arith, some, few)))
  where
    go : (0 < count k d.parts) ⊎ (count k d.parts ≤ 0) → (count k d.parts ≤ 0 → (j : ℕ) × (c : Cell) × (cell_at cs j ≡ Some c) × (0 < count k c.parts)) → (j : ℕ) × (c : Cell) × (cell_at (Some d ∷ cs) j ≡ Some c) × (0 < count k c.parts)
    go (inl more) later = (zero, d, refl, more)
    go (inr few) later = let (j, c, at, more) = later few in (suc j, c, at, more)

-- the parts of a cell and the children of its value
module _ (f : ℕ → Option Val) where
  pub in_children : (ps : List ℕ) (xs : List Val) (k : ℕ) (x : Val) → map f ps ≡ map Some xs → 0 < count k ps → f k ≡ Some x → Has xs x
  in_children [] xs k x is some at = absurd (omega (arith, some))
  in_children (p ∷ ps) [] k x is some at = absurd (cc is)
  in_children (p ∷ ps) (y ∷ ys) k x is some at = go (cases_eq k p) (λ more. in_children ps ys k x (cc is) more at)
    where
      go : (k ≡ p) ⊎ (k ≡ p → ⊥) → (0 < count k ps → Has ys x) → Has (y ∷ ys) x
      go (inl e) later = let both : Some x ≡ Some y = sym at ∙ ap f e ∙ (cc is) in inl (cc both)
      go (inr ne) later = inr (later (omega (arith, some, count_more k p ps, count_other k p ne)))

  child_key : (ps : List ℕ) (xs : List Val) (x : Val) → map f ps ≡ map Some xs → Has xs x → (k : ℕ) × (f k ≡ Some x)
  child_key [] [] x is has = absurd has
  child_key [] (y ∷ ys) x is has = absurd (cc is)
  child_key (p ∷ ps) [] x is has = absurd has
  child_key (p ∷ ps) (y ∷ ys) x is (inl e) = let first : f p ≡ Some y = cc is in (p, first ∙ ap Some (sym e))
  child_key (p ∷ ps) (y ∷ ys) x is (inr h) = child_key ps ys x (cc is) h

pub cell_of : (s : Cells) (k : ℕ) (x : Val) (o : Option Cell) → cell_at s k ≡ o → value_in o ≡ Some x → (c : Cell) × (cell_at s k ≡ Some c) × (val_of c.value ≡ x)
cell_of s k x None at is = absurd (cc is)
cell_of s k x (Some c) at is = (c, at, cc is)

module _ (find : Val → Option ℕ) (s : Cells) (agrees : Agrees find s) where
  pub found_at : (k : ℕ) (x : Val) → value_at s k ≡ Some x → find x ≡ Some k
  found_at k x is = let (c, at, same) = cell_of s k x (cell_at s k) refl is in ap find (sym same) ∙ agrees.indexed k c at

  -- equal values have one id
  pub one_id : (j k : ℕ) (x : Val) → value_at s j ≡ Some x → value_at s k ≡ Some x → j ≡ k
  one_id j k x p q = let both : Some j ≡ Some k = sym (found_at j x p) ∙ found_at k x q in cc both

  -- what is within a value of the pool has an id
  pub key_within : (z x : Val) → Within z x → (j : ℕ) → value_at s j ≡ Some z → (k : ℕ) × (value_at s k ≡ Some x)
  key_within z x (itself _ same) j is = (j, is ∙ ap Some (sym same))
  key_within z x (inner _ y child within) j is =
      let (k, at) = key_within z y within j is in
      let (c, there, same) = cell_of s k y (cell_at s k) refl at in
      child_key (value_at s) c.parts (children y) x (agrees.whole k c there ∙ ap (λ v. map Some (children v)) same) child

-- what someone outside holds has a value
pub named_by : (s : Cells) (k : ℕ) (o : Option Cell) → cell_at s k ≡ o → 0 < outside s k → (x : Val) × (value_at s k ≡ Some x)
named_by s k None at some = let none : holders_at s k ≡ 0 = ap holders_in at in absurd (omega (arith, some, none))
named_by s k (Some c) at some = (val_of c.value, ap value_in at)

module _ (find : Val → Option ℕ) (s : Cells) (pool : IsPool find s) where
  from_outside : (n k : ℕ) (x : Val) → value_at s k ≡ Some x → bound s < n + weight x → IsHeld s [] x
  from_outside zero k x is small = absurd (omega (arith, small, bounded s k x is))
  from_outside (suc n) k x is small = go (cases_lt 0 (outside s k)) (λ j y at less. from_outside n j y at less)
    where
      go : (0 < outside s k) ⊎ (outside s k ≤ 0) → ((j : ℕ) (y : Val) → value_at s j ≡ Some y → bound s < n + weight y → IsHeld s [] y) → IsHeld s [] x
      go (inl more) later = record { key = k; value = x; there = is; held = more; within = itself x refl }
      go (inr none) later =
          let (c, at, same) = cell_of s k x (cell_at s k) refl is in
          let held : holders_at s k ≡ c.holders = ap holders_in at in
          let (j, d, there, some) = holder s k (omega (arith, none, held, pool.all_held.held k c at, pool.balanced.counted k)) in
          let child : Has (children (val_of d.value)) x = in_children (value_at s) d.parts (children (val_of d.value)) k x (pool.agrees.whole j d there) some is in
          let above = later j (val_of d.value) (ap value_in there) (omega (arith, small, lighter (val_of d.value) x child)) in
          record { key = above.key; value = above.value; there = above.there; held = above.held; within = inner x (val_of d.value) child above.within }

  pub all_held : (k : ℕ) (x : Val) → value_at s k ≡ Some x → IsHeld s [] x
  all_held k x is = from_outside (suc (bound s)) k x is (omega arith)

  pub all_used : (x : Val) → IsHeld s [] x → (k : ℕ) × (value_at s k ≡ Some x)
  all_used x h = key_within find s pool.agrees h.value x h.within h.key h.there

pub in_use : (find : Val → Option ℕ) (s now : Cells) → s ≡ now → IsPool find s → InUse now
in_use find s now same pool = subst InUse same (record { held = all_held find s pool; used = all_used find s pool })

pub is_one : (find : Val → Option ℕ) (s now : Cells) → s ≡ now → IsPool find s → IsOne now
is_one find s now same pool = subst IsOne same (record { one = one_id find s pool.agrees })

pub is_counted : (find : Val → Option ℕ) (s now : Cells) → s ≡ now → IsPool find s → IsCounted now
is_counted find s now same pool = subst IsCounted same (record {
  counted = pool.balanced.counted;
  held = λ k x is. let (c, at, value) = cell_of s k x (cell_at s k) refl is in
      let n : holders_at s k ≡ c.holders = ap holders_in at in
      omega (arith, n, pool.all_held.held k c at);
  parts = λ k x is. let (c, at, value) = cell_of s k x (cell_at s k) refl is in
      ap (λ o. map (value_at s) (row.parts_in o)) at ∙ pool.agrees.whole k c at ∙ ap (λ y. map Some (children y)) value;
})

-- One more holder outside.
use Rattle.std.specs.Prelude.{◌≡◌, ℕ, ◌+◌, [], ◌∷◌, Option, Some, None, IsSome, refl}
use Rattle.std.proofs.Common.{ap, ◌∙◌, subst, arith}
use Rattle.std.proofs.lemmas.Bool.{cases_eq}
use Rattle.da_values.specs.declared.val.Val.{Val}
use Rattle.row_pool.specs.declared.cell.Cell.{Cell}
use Rattle.row_pool.specs.Cells.{Cells, cell_at, value_in, value_at, count, outside, Becomes, IsBalanced, IsPool}
use Rattle.row_pool.specs.Pool.{Trades}
use Rattle.row_pool.proofs.CellLaws.{outside_is, to_outside, rehold_value, rehold_inside, rehold_agrees, rehold_held, rehold_holders}

abbrev pub one_more : Cell → Cell
one_more c = record c { holders = c.holders + 1 }

module _ (find : Val → Option ℕ) (s t : Cells) (i : ℕ) (becomes : (c : Cell) → cell_at s i ≡ Some c → Becomes s t i (Some (one_more c))) where
  kept_at : (c : Cell) → cell_at s i ≡ Some c → IsPool find s → IsPool find t × Trades s [] t (i ∷ [])
  kept_at c was pool =
      let p : Becomes s t i (Some (one_more c)) = becomes c was in
      let b : IsBalanced t (λ k. outside s k + count k (i ∷ [])) = record { counted = λ k. omega (arith, pool.balanced.counted k, rehold_inside find s t i c (one_more c) p was refl refl k, rehold_holders find s t i c (one_more c) p was refl refl k 1 0 (omega arith) (cases_eq k i)) } in (
        record { agrees = rehold_agrees find s t i c (one_more c) p was refl refl pool.agrees; balanced = to_outside t _ b; all_held = rehold_held find s t i c (one_more c) p was refl refl (omega arith) pool.all_held },
        record { balance = λ k. omega (arith, outside_is t _ b k); kept = λ k x h is. rehold_value find s t i c (one_more c) p was refl refl k ∙ is },
      )

  at_used : (o : Option Cell) → cell_at s i ≡ o → IsSome (value_in o) → IsPool find s → IsPool find t × Trades s [] t (i ∷ [])
  at_used None was used pool = absurd (cc)
  at_used (Some c) was used pool = kept_at c was pool

  pub keeps : (now : Cells) (id : ℕ) → s ≡ now → i ≡ id → IsPool find s → IsSome (value_at now id) → IsPool find t × Trades now [] t (i ∷ [])
  keeps now id same key pool used =
      let here : IsSome (value_at s i) = rw (same, key) used in
      let both = at_used (cell_at s i) refl here pool in
      (both.0, subst (λ (x : Cells). Trades x [] t (i ∷ [])) same both.1)

  value_at_used : (o : Option Cell) → cell_at s i ≡ o → IsSome (value_in o) → (k : ℕ) → value_at t k ≡ value_at s k
  value_at_used None was used k = absurd (cc)
  value_at_used (Some c) was used k = rehold_value find s t i c (one_more c) (becomes c was) was refl refl k

  pub more_value : (now : Cells) (id : ℕ) → s ≡ now → i ≡ id → IsPool find s → IsSome (value_at now id) → (k : ℕ) → value_at t k ≡ value_at now k
  more_value now id same key pool used k =
      let here : IsSome (value_at s i) = rw (same, key) used in
      value_at_used (cell_at s i) refl here k ∙ ap (λ n. value_at n k) same

-- Slots as ids of a pool: a value that is put into one, and the old one given back.
use Rattle.std.specs.Prelude.{◌≡◌, ℕ, zero, suc, ◌<◌, ◌≤◌, List, [], ◌∷◌, length, slice_get, slice_set, Some, refl}
use Rattle.std.proofs.Common.{ap, sym, ◌∙◌, arith}
use Rattle.std.proofs.lemmas.List.{length-map}
use Rattle.da_values.specs.declared.val.Val.{Val}
use Rattle.da_lang.specs.World.{with_slot}
use Rattle.row_pool.specs.Cells.{Cells, count, value_at}
use Rattle.row_pool.specs.Pool.{Holds, Trades, or_no_value, val_at}
use Rattle.row_pool.proofs.CountLaws.{count_more}
use Rattle.row_pool.proofs.TradeLaws.{then_trades}
use Rattle.answer_index.specs.Rows.{row_of}
use Rattle.answer_index.proofs.RowLaws.{row_stays, wider}

-- an id is put in the place of another
put_place : (pool : Cells) (ids : List ℕ) (place id : ℕ) → row_of pool (slice_set ids place id) ≡ slice_set (row_of pool ids) place (val_at pool id)
put_place pool [] place id = refl
put_place pool (i ∷ ids) zero id = refl
put_place pool (i ∷ ids) (suc place) id = ap (λ zs. val_at pool i ∷ zs) (put_place pool ids place id)

put_nowhere : {A : Type 0} (xs : List A) (place : ℕ) (x : A) → length xs ≤ place → slice_set xs place x ≡ xs
put_nowhere [] place x past = refl
put_nowhere (y ∷ xs) zero x past = absurd (omega (arith, past))
put_nowhere (y ∷ xs) (suc place) x past = ap (λ zs. y ∷ zs) (put_nowhere xs place x (omega (arith, past)))

put_count : (ids : List ℕ) (place id out : ℕ) → slice_get ids place ≡ Some out → (k : ℕ) → count k (out ∷ slice_set ids place id) ≡ count k (id ∷ ids)
put_count [] place id out there k = absurd (cc there)
put_count (i ∷ ids) zero id out there k =
    let same : i ≡ out = cc there in
    omega (arith, ap (λ z. count k (z ∷ [])) same, count_more k out (id ∷ ids), count_more k id ids, count_more k id (i ∷ ids), count_more k i ids)
put_count (i ∷ ids) (suc place) id out there k =
    omega (
      arith,
      put_count ids place id out there k,
      count_more k out (i ∷ slice_set ids place id),
      count_more k i (slice_set ids place id),
      count_more k out (slice_set ids place id),
      count_more k id (i ∷ ids),
      count_more k i ids,
      count_more k id ids,
    )

-- there is a slot, as ids and as values
pub slot_there : (pool : Cells) (ids : List ℕ) (s : ℕ) → (0 < s) × (s ≤ length ids) → (0 < s) × (s ≤ length (row_of pool ids))
slot_there pool ids s there = (there.0, omega (arith, there.1, length-map ids (val_at pool)))

-- the three ways in which an id is put into slot s
pub values_put : (ids new : List ℕ) (s place id : ℕ) → s ≡ suc place → new ≡ slice_set ids place id → (pool : Cells) → row_of pool new ≡ with_slot (row_of pool ids) s (val_at pool id)
values_put ids new s place id at is pool = ap (row_of pool) is ∙ put_place pool ids place id ∙ ap (λ n. with_slot (row_of pool ids) n (val_at pool id)) (sym at)

pub values_past : (ids : List ℕ) (s place id : ℕ) → s ≡ suc place → length ids ≤ place → (pool : Cells) → row_of pool ids ≡ with_slot (row_of pool ids) s (val_at pool id)
values_past ids s place id at past pool =
    sym (put_nowhere (row_of pool ids) place (val_at pool id) (omega (arith, past, length-map ids (val_at pool)))) ∙ ap (λ n. with_slot (row_of pool ids) n (val_at pool id)) (sym at)

pub values_none : (ids : List ℕ) (s id : ℕ) → s ≡ 0 → (pool : Cells) → row_of pool ids ≡ with_slot (row_of pool ids) s (val_at pool id)
values_none ids s id none pool = ap (λ n. with_slot (row_of pool ids) n (val_at pool id)) (sym none)

pub counts_put : (ids new : List ℕ) (place id out : ℕ) → slice_get ids place ≡ Some out → new ≡ slice_set ids place id → (k : ℕ) → count k (out ∷ new) ≡ count k (id ∷ ids)
counts_put ids new place id out there is k = ap (λ zs. count k (out ∷ zs)) is ∙ put_count ids place id out there k

-- A new id came, was put among those of the slots, and the one that it took the place of is given back.
module _ (a b : Cells) (ids new : List ℕ) (id out : ℕ) (holds : Holds a ids) (came : Trades a [] b (id ∷ [])) (same : (k : ℕ) → count k (out ∷ new) ≡ count k (id ∷ ids)) where
  both_held : Holds b (out ∷ new)
  both_held = record { held = λ k. omega (arith, holds.held k, came.balance k, same k, count_more k id ids) }

  pub out_held : Holds b (out ∷ [])
  out_held = record { held = λ k. omega (arith, both_held.held k, count_more k out new) }

  module _ (c : Cells) (back : Trades b (out ∷ []) c []) where
    pub slots_trade : Trades a ids c new
    slots_trade =
        then_trades a b c ids (id ∷ ids) new
        (wider a b [] (id ∷ []) ids (id ∷ ids) (λ k. omega arith) (λ k. omega (arith, count_more k id ids)) came)
        (wider b c (out ∷ []) [] (id ∷ ids) new (λ k. omega (arith, same k, count_more k out new)) (λ k. omega (arith, same k, count_more k out new)) back)

    pub slots_put : (s : ℕ) (x : Val) → value_at b id ≡ Some x → row_of b new ≡ with_slot (row_of b ids) s (val_at b id) → row_of c new ≡ with_slot (row_of a ids) s x
    slots_put s x named put =
        row_stays b c (out ∷ []) [] back new both_held ∙ put
        ∙ ap (λ zs. with_slot zs s (val_at b id)) (row_stays a b [] (id ∷ []) came ids holds)
        ∙ ap (λ o. with_slot (row_of a ids) s (or_no_value o)) named

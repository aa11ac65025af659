-- Slots as ids of a pool: the id of a set that changes, and what else the slots hold.
use Rattle.std.specs.Prelude.{◌≡◌, ℕ, zero, suc, ◌-◌, ◌<◌, ◌≤◌, List, [], ◌∷◌, length, slice_get, slice_set, Option, Some, None, option_map, OnOk, Result, Ok, Err, refl}
use Rattle.std.proofs.Common.{ap, sym, ◌∙◌, subst, arith}
use Rattle.std.proofs.lemmas.Option.{slice_get-map, slice_get_past}
use Rattle.da_values.specs.declared.val.Val.{Val}
use Rattle.da_lang.specs.World.{at_number, or_nothing, value_in, with_slot}
use Rattle.row_pool.specs.Cells.{Cells, count, value_at}
use Rattle.row_pool.specs.Pool.{Holds, Trades, or_no_value, val_at}
use Rattle.row_pool.proofs.CountLaws.{count_more, count_remove, count_self}
use Rattle.row_pool.proofs.TradeLaws.{kept_value}
use Rattle.answer_index.specs.Rows.{row_of}
use Rattle.answer_index.proofs.RowLaws.{row_stays, wider}

-- WHAT IS IN A SLOT

-- the id in a slot, by its place
pub number_read : (ids : List ℕ) (s at place : ℕ) (found : Option ℕ) → (1 ≤ s) × (at ≡ s - 1) → place ≡ at → found ≡ slice_get ids place → found ≡ at_number ids s
number_read ids s at place found above same is =
    let number : suc place ≡ s = omega (arith, above.0, above.1, same) in
    is ∙ ap (at_number ids) number

-- its value
pub number_value : (pool : Cells) (ids : List ℕ) (s : ℕ) → option_map (val_at pool) (at_number ids s) ≡ at_number (row_of pool ids) s
number_value pool ids zero = refl
number_value pool ids (suc place) = sym (slice_get-map (val_at pool) ids place)

pub slot_value : (pool : Cells) (ids : List ℕ) (s id : ℕ) → at_number ids s ≡ Some id → val_at pool id ≡ value_in (row_of pool ids) s
slot_value pool ids s id at = ap (λ (o : Option ℕ). or_nothing (option_map (val_at pool) o)) (sym at) ∙ ap or_nothing (number_value pool ids s)

-- a slot that is there has an id, and the other way round
id_at : (ids : List ℕ) (place : ℕ) → place < length ids → (id : ℕ) × (slice_get ids place ≡ Some id)
id_at [] place within = absurd (omega (arith, within))
id_at (i ∷ ids) zero within = (i, refl)
id_at (i ∷ ids) (suc place) within = id_at ids place (omega (arith, within))

pub some_id : (ids : List ℕ) (s : ℕ) → (0 < s) × (s ≤ length ids) → (id : ℕ) × (at_number ids s ≡ Some id)
some_id ids zero there = absurd (omega (arith, there.0))
some_id ids (suc place) there = id_at ids place (omega (arith, there.1))

-- the id that was in a slot, where another one is put into it
pub out_there : (ids : List ℕ) (s place out old : ℕ) → s ≡ suc place → slice_get ids place ≡ Some out → at_number ids s ≡ Some old → out ≡ old
out_there ids s place out old at there is =
    let both : Some out ≡ Some old = sym there ∙ ap (at_number ids) (sym at) ∙ is in
    cc both

pub out_past : (ids : List ℕ) (s place out old : ℕ) → s ≡ suc place → length ids ≤ place → at_number ids s ≡ Some old → out ≡ old
out_past ids s place out old at past is =
    let clash : None ≡ Some old = sym (slice_get_past ids place past) ∙ ap (at_number ids) (sym at) ∙ is in
    absurd (cc clash)

pub out_none : (ids : List ℕ) (s out old : ℕ) → s ≡ 0 → at_number ids s ≡ Some old → out ≡ old
out_none ids s out old none is =
    let clash : None ≡ Some old = sym (ap (at_number ids) none) ∙ is in
    absurd (cc clash)

-- IDS THAT ARE HELD

id_counted : (ids : List ℕ) (s id : ℕ) → at_number ids s ≡ Some id → (k : ℕ) → count k (id ∷ []) ≤ count k ids
id_counted ids zero id at k = absurd (cc at)
id_counted ids (suc place) id at k = omega (arith, count_remove ids place id at k)

pub one_held : (a : Cells) (ids : List ℕ) (s id : ℕ) → Holds a ids → at_number ids s ≡ Some id → Holds a (id ∷ [])
one_held a ids s id holds at = record { held = λ k. omega (arith, holds.held k, id_counted ids s id at k) }

-- AN ID FOR ANOTHER ONE

-- The other slots keep their values.
module _ (a b : Cells) (id to : ℕ) (trades : Trades a (id ∷ []) b (to ∷ [])) where
  beside_place : (ids : List ℕ) (place : ℕ) → slice_get ids place ≡ Some id → Holds a ids → (y : Val) → slice_set (row_of b ids) place y ≡ slice_set (row_of a ids) place y
  beside_place [] place at holds y = refl
  beside_place (i ∷ ids) zero at holds y =
      let same : i ≡ id = cc at in
      ap (λ (zs : List Val). y ∷ zs) (row_stays a b (id ∷ []) (to ∷ []) trades ids (record { held = λ k. omega (arith, holds.held k, count_more k i ids, count_more k id ids, ap (λ (j : ℕ). count k (j ∷ [])) same) }))
  beside_place (i ∷ ids) (suc place) at holds y =
      let here : val_at b i ≡ val_at a i = ap or_no_value (kept_value a b (id ∷ []) (to ∷ []) trades i (omega (arith, holds.held i, count_more i i ids, count_self i, count_remove ids place id at i))) in
      let rest : slice_set (row_of b ids) place y ≡ slice_set (row_of a ids) place y = beside_place ids place at (record { held = λ k. omega (arith, holds.held k, count_more k i ids) }) y in
      ap (λ (z : Val). z ∷ slice_set (row_of b ids) place y) here ∙ ap (λ (zs : List Val). val_at a i ∷ zs) rest

  beside_slot : (ids : List ℕ) (s : ℕ) → at_number ids s ≡ Some id → Holds a ids → (y : Val) → with_slot (row_of b ids) s y ≡ with_slot (row_of a ids) s y
  beside_slot ids zero at holds y = absurd (cc at)
  beside_slot ids (suc place) at holds y = beside_place ids place at holds y

  slots_with : (ids new : List ℕ) (s : ℕ) (x : Val) → at_number ids s ≡ Some id → Holds a ids → value_at b to ≡ Some x → row_of b new ≡ with_slot (row_of b ids) s (val_at b to) → row_of b new ≡ with_slot (row_of a ids) s x
  slots_with ids new s x at holds named put = put ∙ beside_slot ids s at holds (val_at b to) ∙ ap (λ (o : Option Val). with_slot (row_of a ids) s (or_no_value o)) named

  trades_with : (ids new : List ℕ) (s : ℕ) → at_number ids s ≡ Some id → ((k : ℕ) → count k (id ∷ new) ≡ count k (to ∷ ids)) → Trades a ids b new
  trades_with ids new s at same =
      wider a b (id ∷ []) (to ∷ []) ids new (id_counted ids s id at) (λ k. omega (arith, same k, count_more k id new, count_more k to ids)) trades

-- The same of the slot that is there.
module _ (a b : Cells) (ids new : List ℕ) (s to out : ℕ) (there : (0 < s) × (s ≤ length ids)) (trades : (id : ℕ) → at_number ids s ≡ Some id → Trades a (id ∷ []) b (to ∷ [])) where
  pub slots_exchanged : (x : Val) → Holds a ids → value_at b to ≡ Some x → row_of b new ≡ with_slot (row_of b ids) s (val_at b to) → row_of b new ≡ with_slot (row_of a ids) s x
  slots_exchanged x holds named put =
      let (id, at) = some_id ids s there in
      slots_with a b id to (trades id at) ids new s x at holds named put

  pub trades_exchanged : ((k : ℕ) → count k (out ∷ new) ≡ count k (to ∷ ids)) → ((old : ℕ) → at_number ids s ≡ Some old → out ≡ old) → Trades a ids b new
  trades_exchanged same out_is =
      let (id, at) = some_id ids s there in
      trades_with a b id to (trades id at) ids new s at (λ k. ap (λ (j : ℕ). count k (j ∷ new)) (sym (out_is id at)) ∙ same k)

-- one id in a slot
pub same_id : (a b : Cells) (ids : List ℕ) (s id other to : ℕ) → at_number ids s ≡ Some id → at_number ids s ≡ Some other → Trades a (id ∷ []) b (to ∷ []) → Trades a (other ∷ []) b (to ∷ [])
same_id a b ids s id other to at is trades =
    let both : Some id ≡ Some other = sym at ∙ is in
    let same : id ≡ other = cc both in
    subst (λ (j : ℕ). Trades a (j ∷ []) b (to ∷ [])) same trades

-- what holds anyway
pub on_any : {A E : Type 0} (r : Result A E) (P : Type 0) → P → OnOk r P
on_any (Ok x) P p = p
on_any (Err e) P p = tt

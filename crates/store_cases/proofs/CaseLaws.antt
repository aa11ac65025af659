-- A set beside what else is interned, taken and given back.
use Rattle.std.specs.Prelude.{◌≡◌, ℕ, List, [], ◌++◌}
use Rattle.std.proofs.Common.{subst, sym, arith}
use Rattle.row_pool.specs.Cells.{Cells, count}
use Rattle.row_pool.specs.Pool.{Holds, Trades}
use Rattle.row_pool.proofs.TradeLaws.{holds_on}
use Rattle.answer_index.specs.Answers.{IsSet, ids_of}
use Rattle.answer_index.specs.declared.set.AnswerSet.{AnswerSet}
use Rattle.answer_index.proofs.ChoiceLaws.{swapped}
use Rattle.answer_index.proofs.HolderLaws.{holds_rest, set_stays}

-- A row was interned, and the set was changed by it.
module _ (a b c : Cells) (ids : List ℕ) (set new : AnswerSet) (interned : Trades a [] b ids) (holds : Holds a (ids_of set)) (took : Trades b (ids_of set) c (ids_of new)) where
  pub row_held : Holds c (ids_of new ++ ids)
  row_held = holds_on b c (ids_of set) (ids_of new) ids took (swapped b ids (ids_of set) (holds_on a b [] ids (ids_of set) interned holds))

  pub row_left : Holds c ids
  row_left = holds_rest c (ids_of new) ids row_held

  -- and the row was given back
  module _ (d : Cells) (back : Trades c ids d []) where
    pub left_set : IsSet new c → IsSet new d
    left_set = set_stays c d ids [] new back (swapped c (ids_of new) ids row_held)

    pub left_held : Holds d (ids_of new)
    left_held = holds_on c d ids [] (ids_of new) back (swapped c (ids_of new) ids row_held)

-- A row was interned and given back, and the set is the same.
module _ (a b c : Cells) (ids : List ℕ) (set : AnswerSet) (interned : Trades a [] b ids) (holds : Holds a (ids_of set)) (back : Trades b ids c []) where
  kept_beside : Holds b (ids ++ ids_of set)
  kept_beside = holds_on a b [] ids (ids_of set) interned holds

  pub kept_set : IsSet set a → IsSet set c
  kept_set is = set_stays b c ids [] set back kept_beside (set_stays a b [] ids set interned holds is)

  pub kept_held : Holds c (ids_of set)
  kept_held = holds_on b c ids [] (ids_of set) back kept_beside

pub holds_none : (a : Cells) (ids : List ℕ) → ids ≡ [] → Holds a ids
holds_none a ids none = subst (Holds a) (sym none) (record { held = λ k. omega arith })

-- A set that takes the place of another one: trades in a row, and what stays.
use Rattle.std.specs.Prelude.{◌≡◌, ℕ, ◌+◌, ◌%◌, ◌^◌, ◌<◌, Bool, true, false, List, [], ◌∷◌, ◌++◌, MatchBool, Some, refl}
use Rattle.std.proofs.Common.{sym, ap, ◌∙◌, subst, arith}
use Rattle.da_values.specs.Order.{val_cmp}
use Rattle.da_values.specs.Places.{IsAt, IsBetween}
use Rattle.da_values.specs.Sets.{Has, set_insert, set_remove}
use Rattle.da_values.specs.Views.{elements_of}
use Rattle.da_values.specs.declared.val.Val.{Val}
use Rattle.da_values.specs.declared.val.Val.TheVariants as val
use Rattle.row_pool.specs.declared.cell.Cell.{Cell}
use Rattle.row_pool.specs.Cells.{Cells, cell_at, count, outside, value_at}
use Rattle.row_pool.specs.Index.{AreMarked}
use Rattle.row_pool.specs.InUse.{IsHeld}
use Rattle.row_pool.specs.Marks.{hashed, mark}
use Rattle.row_pool.specs.Pool.{Holds, Trades, or_no_value, val_at}
use Rattle.row_pool.specs.Sets.{is_set, set_with, set_without}
use Rattle.row_pool.proofs.CountLaws.{count_append, count_more, count_self}
use Rattle.row_pool.proofs.KindLaws.{filled_set, mark_grown, mark_shrunk, named_set, set_is}
use Rattle.row_pool.proofs.TradeLaws.{held_less, kept_value}
use Rattle.row_pool.proofs.UseLaws.{named_by}

-- a fact of the pool and the id as contracts see them
pub seen_as : (P : Cells → ℕ → Type 0) (s now : Cells) (key id : ℕ) → s ≡ now → key ≡ id → P s key → P now id
seen_as P s now key id same is p = subst (λ (k : ℕ). P now k) is (subst (λ (a : Cells). P a key) same p)

-- IDS THAT ARE HELD

pub holds_more : (a b : Cells) (xs ys : List ℕ) → Trades a [] b ys → Holds a xs → Holds b xs
holds_more a b xs ys trades holds = record { held = λ k. omega (arith, holds.held k, trades.balance k) }

pub holds_both : (a b : Cells) (id part : ℕ) → Trades a [] b (part ∷ []) → Holds a (id ∷ []) → Holds b (id ∷ part ∷ [])
holds_both a b id part trades holds = record { held = λ k. omega (arith, holds.held k, trades.balance k, count_more k id (part ∷ [])) }

pub holds_second : (a : Cells) (id part : ℕ) → Holds a (id ∷ part ∷ []) → Holds a (part ∷ [])
holds_second a id part holds = record { held = λ k. omega (arith, holds.held k, count_more k id (part ∷ [])) }

pub holds_left : (a b : Cells) (id part : ℕ) → Holds a (id ∷ part ∷ []) → Trades a (part ∷ []) b [] → Holds b (id ∷ [])
holds_left a b id part holds trades = record { held = λ k. omega (arith, holds.held k, trades.balance k, count_more k id (part ∷ [])) }

-- what a held id names
pub held_value : (a : Cells) (id : ℕ) → Holds a (id ∷ []) → value_at a id ≡ Some (val_at a id)
held_value a id holds =
    let (x, is) = named_by a id (cell_at a id) refl (omega (arith, holds.held id, count_self id)) in
    is ∙ ap Some (sym (ap or_no_value is))

-- It names that still where it is not taken.
pub same_value_at : (a b : Cells) (id : ℕ) (xs ys : List ℕ) → Trades a xs b ys → count id xs < outside a id → val_at b id ≡ val_at a id
same_value_at a b id xs ys trades more = ap or_no_value (kept_value a b xs ys trades id more)

pub still_names : (a b : Cells) (id : ℕ) (ys : List ℕ) → Trades a [] b ys → Holds a (id ∷ []) → val_at b id ≡ val_at a id
still_names a b id ys trades holds = same_value_at a b id [] ys trades (omega (arith, holds.held id, count_self id))

pub names_beside : (a b : Cells) (id part : ℕ) → Trades a (part ∷ []) b [] → Holds a (id ∷ part ∷ []) → val_at b id ≡ val_at a id
names_beside a b id part trades holds = same_value_at a b id (part ∷ []) [] trades (omega (arith, holds.held id, count_more id id (part ∷ []), count_self id))

-- TRADES

-- The second takes what the first gave, and more.
pub then_all : (a b c : Cells) (xs ys zs : List ℕ) → Trades a [] b ys → Trades b (xs ++ ys) c zs → Trades a xs c zs
then_all a b c xs ys zs first second = record {
  balance = λ k. omega (arith, first.balance k, second.balance k, count_append k xs ys);
  kept = λ k x h is. second.kept k x (still_held x h) (first.kept k x (held_less a xs [] x (λ j. omega arith) h) is);
}
  where
    still_held : (x : Val) → IsHeld a xs x → IsHeld b (xs ++ ys) x
    still_held x h = record {
      key = h.key;
      value = h.value;
      there = kept_value a b [] ys first h.key (omega (arith, h.held)) ∙ h.there;
      held = omega (arith, h.held, first.balance h.key, count_append h.key xs ys);
      within = h.within;
    }

-- Ids that take no part are taken and given back.
pub with_others : (a b : Cells) (xs ys zs : List ℕ) → Trades a xs b zs → Trades a (xs ++ ys) b (zs ++ ys)
with_others a b xs ys zs trades = record {
  balance = λ k. omega (arith, trades.balance k, count_append k xs ys, count_append k zs ys);
  kept = λ k x h is. trades.kept k x (held_less a (xs ++ ys) xs x (λ j. omega (arith, count_append j xs ys)) h) is;
}

-- An id is given, and another one is taken for it.
pub for_another : (a b c : Cells) (id to : ℕ) → Trades a [] b (to ∷ []) → Trades b (id ∷ []) c [] → Trades a (id ∷ []) c (to ∷ [])
for_another a b c id to first second = then_all a b c (id ∷ []) (to ∷ []) (to ∷ []) first (with_others b c (id ∷ []) (to ∷ []) [] second)

-- One of two ids goes, and then the other one is taken for another.
pub then_other : (a b c : Cells) (id part : ℕ) (zs : List ℕ) → Trades a (part ∷ []) b [] → Trades b (id ∷ []) c zs → Trades a (id ∷ part ∷ []) c zs
then_other a b c id part zs first second = record {
  balance = λ k. omega (arith, first.balance k, second.balance k, count_more k id (part ∷ []));
  kept = λ k x h is. second.kept k x (still_held x h) (first.kept k x (held_less a (id ∷ part ∷ []) (part ∷ []) x (λ j. omega (arith, count_more j id (part ∷ []))) h) is);
}
  where
    still_held : (x : Val) → IsHeld a (id ∷ part ∷ []) x → IsHeld b (id ∷ []) x
    still_held x h = record {
      key = h.key;
      value = h.value;
      there = kept_value a b (part ∷ []) [] first h.key (omega (arith, h.held, count_more h.key id (part ∷ []))) ∙ h.there;
      held = omega (arith, h.held, first.balance h.key, count_more h.key id (part ∷ []));
      within = h.within;
    }

-- the id that is given
pub gives_as : (a b : Cells) (xs : List ℕ) (to as_well : ℕ) → to ≡ as_well → Trades a xs b (as_well ∷ []) → Trades a xs b (to ∷ [])
gives_as a b xs to as_well same trades = subst (λ (k : ℕ). Trades a xs b (k ∷ [])) (sym same) trades

-- A value that was given keeps its id where another id is given back.
pub given_stays : (a b c : Cells) (id to : ℕ) (x : Val) → Holds a (id ∷ []) → Trades a [] b (to ∷ []) → value_at b to ≡ Some x → Trades b (id ∷ []) c [] → value_at c to ≡ Some x
given_stays a b c id to x holds first is second = kept_value b c (id ∷ []) [] second to (omega (arith, holds.held to, first.balance to, count_self to)) ∙ is

-- The set stays where its element is given back.
pub set_stays : (a b c : Cells) (id part : ℕ) (x : Val) → Holds a (id ∷ []) → Trades a (id ∷ []) b (part ∷ id ∷ []) → value_at b id ≡ Some x → Trades b (part ∷ []) c [] → value_at c id ≡ Some x
set_stays a b c id part x holds first is second = kept_value b c (part ∷ []) [] second id (omega (arith, holds.held id, first.balance id, count_more id part (id ∷ []), count_self id)) ∙ is

-- WHAT IS THERE, OR NOT

pub with_there : (s : Cells) (id at : ℕ) (x : Val) → Holds s (id ∷ []) → IsAt val_cmp (elements_of (val_at s id)) x at → value_at s id ≡ Some (set_with s id x)
with_there s id at x holds place = held_value s id holds ∙ ap Some (set_is (val_at s id) (filled_set (val_at s id) x place.there) ∙ ap val.Set (sym place.inserted))

pub without_absent : (s : Cells) (id : ℕ) (x : Val) → Holds s (id ∷ []) → is_set (val_at s id) ≡ true → set_remove val_cmp (elements_of (val_at s id)) x ≡ elements_of (val_at s id) → value_at s id ≡ Some (set_without s id x)
without_absent s id x holds set absent = held_value s id holds ∙ ap Some (set_is (val_at s id) set ∙ ap val.Set (sym absent))

-- what is said of whether an element came, and whether it left
pub fresh_true : (xs : List Val) (x : Val) (moved : Bool) → moved ≡ true → (Has xs x → ⊥) → MatchBool moved (Has xs x → ⊥) (Has xs x)
fresh_true xs x moved is absent = subst (λ (b : Bool). MatchBool b (Has xs x → ⊥) (Has xs x)) (sym is) absent

pub fresh_false : (xs : List Val) (x : Val) (moved : Bool) → moved ≡ false → Has xs x → MatchBool moved (Has xs x → ⊥) (Has xs x)
fresh_false xs x moved is there = subst (λ (b : Bool). MatchBool b (Has xs x → ⊥) (Has xs x)) (sym is) there

pub there_true : (xs : List Val) (x : Val) (moved : Bool) → moved ≡ true → Has xs x → MatchBool moved (Has xs x) (Has xs x → ⊥)
there_true xs x moved is there = subst (λ (b : Bool). MatchBool b (Has xs x) (Has xs x → ⊥)) (sym is) there

pub there_false : (xs : List Val) (x : Val) (moved : Bool) → moved ≡ false → (Has xs x → ⊥) → MatchBool moved (Has xs x) (Has xs x → ⊥)
there_false xs x moved is absent = subst (λ (b : Bool). MatchBool b (Has xs x) (Has xs x → ⊥)) (sym is) absent

-- A set that is the same in two pools is so with an element more.
pub set_with_same : (a b : Cells) (id : ℕ) (x : Val) → val_at b id ≡ val_at a id → set_with b id x ≡ set_with a id x
set_with_same a b id x same = ap (λ (y : Val). val.Set (set_insert val_cmp (elements_of y) x)) same

-- NUMBERS OF SETS

module _ (keys : ℕ → List ℕ) (s now : Cells) (key id : ℕ) (x : Val) (m hash n : ℕ) (same : s ≡ now) (is : key ≡ id) (marks : AreMarked keys s) (its : (c : Cell) → cell_at s key ≡ Some c → m ≡ c.mark) (hash_is : hash ≡ hashed x) where
  old_mark : is_set (val_at s key) ≡ true → m ≡ mark (val_at s key)
  old_mark set =
      let (c, was, value) = named_set s key (cell_at s key) refl set in
      its c was ∙ marks.marked key c was ∙ ap mark value

  at_id : val_at s key ≡ val_at now id
  at_id = ap (λ (a : Cells). val_at a key) same ∙ ap (val_at now) is

  pub number_with : n ≡ (m + hash) % 2 ^ 64 → is_set (val_at now id) ≡ true → (at : ℕ) → IsBetween val_cmp (elements_of (val_at now id)) x at → n ≡ mark (set_with now id x)
  number_with sum set at between =
      let here : is_set (val_at s key) ≡ true = ap is_set at_id ∙ set in
      mark_grown (val_at now id) x at m hash n set (old_mark here ∙ ap mark at_id) hash_is sum between

  pub number_without : (n + hash) % 2 ^ 64 ≡ m → n < 2 ^ 64 → (at : ℕ) → IsAt val_cmp (elements_of (val_at now id)) x at → n ≡ mark (set_without now id x)
  number_without sum small at place =
      let set : is_set (val_at now id) ≡ true = filled_set (val_at now id) x place.there in
      let here : is_set (val_at s key) ≡ true = ap is_set at_id ∙ set in
      mark_shrunk (val_at now id) x m hash n place.there (old_mark here ∙ ap mark at_id) hash_is sum small

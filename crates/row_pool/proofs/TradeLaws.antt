-- Trades one after another.
use Rattle.std.specs.Prelude.{◌≡◌, ℕ, ◌<◌, ◌≤◌, List, [], ◌∷◌, ◌++◌, map, Option, Some, None, Result, Ok, Err, OnErr, refl}
use Rattle.std.proofs.Common.{sym, ap, ◌∙◌, subst, arith}
use Rattle.da_values.specs.declared.val.Val.{Val}
use Rattle.row_pool.specs.Cells.{Cells, cell_at, value_at, count, outside, IsPool}
use Rattle.row_pool.specs.InUse.{IsHeld, itself}
use Rattle.row_pool.specs.Pool.{Holds, Trades, AreGiven, IsGivenNext, IsUnchanged}
use Rattle.row_pool.proofs.CountLaws.{count_append, count_more, count_self}
use Rattle.row_pool.proofs.UseLaws.{named_by, all_held, all_used, one_id}

-- who holds it besides more ids holds it besides fewer
pub held_less : (s : Cells) (xs ys : List ℕ) (x : Val) → ((k : ℕ) → count k ys ≤ count k xs) → IsHeld s xs x → IsHeld s ys x
held_less s xs ys x fewer h = record { key = h.key; value = h.value; there = h.there; held = omega (arith, h.held, fewer h.key); within = h.within }

module _ (a b : Cells) (xs ys : List ℕ) (trades : Trades a xs b ys) where
  -- another holder's value has its id as before
  pub kept_value : (k : ℕ) → count k xs < outside a k → value_at b k ≡ value_at a k
  kept_value k more =
      let (z, is) = named_by a k (cell_at a k) refl (omega (arith, more)) in
      trades.kept k z (record { key = k; value = z; there = is; held = more; within = itself z refl }) is ∙ sym is

  -- what another holds is held besides those that were given
  held_on : (x : Val) → IsHeld a xs x → IsHeld b ys x
  held_on x h = record {
    key = h.key;
    value = h.value;
    there = kept_value h.key h.held ∙ h.there;
    held = omega (arith, h.held, trades.balance h.key);
    within = h.within;
  }

pub trades_none : (a : Cells) (xs : List ℕ) → Trades a xs a xs
trades_none a xs = record { balance = λ k. refl; kept = λ k x h is. is }

-- what the second takes is what the first gave
pub then_trades : (a b c : Cells) (xs ys zs : List ℕ) → Trades a xs b ys → Trades b ys c zs → Trades a xs c zs
then_trades a b c xs ys zs first second = record {
  balance = λ k. omega (arith, first.balance k, second.balance k);
  kept = λ k x h is. second.kept k x (held_on a b xs ys first x h) (first.kept k x h is);
}

-- the second takes nothing
pub then_more : (a b c : Cells) (xs ys zs : List ℕ) → Trades a xs b ys → Trades b [] c zs → Trades a xs c (ys ++ zs)
then_more a b c xs ys zs first second = record {
  balance = λ k. omega (arith, first.balance k, second.balance k, count_append k ys zs);
  kept = λ k x h is. second.kept k x (held_less b ys [] x (λ j. omega arith) (held_on a b xs ys first x h)) (first.kept k x h is);
}

-- the second takes the first id that was given
pub then_one_less : (a b c : Cells) (xs rest : List ℕ) (key : ℕ) → Trades a xs b (key ∷ rest) → Trades b (key ∷ []) c [] → Trades a xs c rest
then_one_less a b c xs rest key first second = record {
  balance = λ k. omega (arith, first.balance k, second.balance k, count_more k key rest);
  kept = λ k x h is. second.kept k x (held_less b (key ∷ rest) (key ∷ []) x (λ j. omega (arith, count_more j key rest)) (held_on a b xs (key ∷ rest) first x h)) (first.kept k x h is);
}

-- ids that take no part are taken and given back
pub beside : (a b : Cells) (xs : List ℕ) → Trades a [] b [] → Trades a xs b xs
beside a b xs trades = record {
  balance = λ k. omega (arith, trades.balance k);
  kept = λ k x h is. trades.kept k x (held_less a xs [] x (λ j. omega arith) h) is;
}

pub holds_after : (a b : Cells) (xs ys : List ℕ) → Holds a xs → Trades a xs b ys → Holds b ys
holds_after a b xs ys holds trades = record { held = λ k. omega (arith, holds.held k, trades.balance k) }

pub holds_given : (a b : Cells) (ys : List ℕ) → Trades a [] b ys → Holds b ys
holds_given a b ys trades = record { held = λ k. omega (arith, trades.balance k) }

pub holds_first : (a : Cells) (key : ℕ) (rest : List ℕ) → Holds a (key ∷ rest) → Holds a (key ∷ [])
holds_first a key rest holds = record { held = λ k. omega (arith, holds.held k, count_more k key rest) }

-- whose ids take no part in a trade still holds them, and they name what they named: all that others need of a call
module _ (a b : Cells) (xs ys mine : List ℕ) (trades : Trades a xs b ys) (holds : Holds a (xs ++ mine)) where
  pub holds_on : Holds b (ys ++ mine)
  holds_on = record { held = λ k. omega (arith, holds.held k, trades.balance k, count_append k xs mine, count_append k ys mine) }

  same_each : (ks : List ℕ) → ((k : ℕ) → count k ks ≤ count k mine) → map (value_at b) ks ≡ map (value_at a) ks
  same_each [] some = refl
  same_each (k ∷ ks) some =
      let here : value_at b k ≡ value_at a k = kept_value a b xs ys trades k (omega (arith, holds.held k, count_append k xs mine, some k, count_more k k ks, count_self k)) in
      let rest : map (value_at b) ks ≡ map (value_at a) ks = same_each ks (λ j. omega (arith, some j, count_more j k ks)) in
      rw (here, rest) refl

  pub values_stay : map (value_at b) mine ≡ map (value_at a) mine
  values_stay = same_each mine (λ k. omega arith)

pub given_none : (a : Cells) → AreGiven a a [] []
given_none a = record { values = refl; trades = trades_none a [] }

map_append : (f : ℕ → Option Val) (ks : List ℕ) (k : ℕ) (xs : List Val) (x : Val) → map f ks ≡ map Some xs → f k ≡ Some x → map f (ks ++ k ∷ []) ≡ map Some (xs ++ x ∷ [])
map_append f [] k [] x is here = rw here refl
map_append f [] k (y ∷ ys) x is here = absurd (cc is)
map_append f (j ∷ js) k [] x is here = absurd (cc is)
map_append f (j ∷ js) k (y ∷ ys) x is here =
    let one : f j ≡ Some y = cc is in
    let tail : map f js ≡ map Some ys = cc is in
    let rest : map f (js ++ k ∷ []) ≡ map Some (ys ++ x ∷ []) = map_append f js k ys x tail here in
    rw (one, rest) refl

pub given_next : (a b c : Cells) (xs : List Val) (ks ls : List ℕ) (v : Val) → AreGiven a b xs ks → IsGivenNext b ks c ls v → AreGiven a c (xs ++ v ∷ []) ls
given_next a b c xs ks ls v given next =
    let stay : map (value_at c) ks ≡ map (value_at b) ks = values_stay b c [] (next.key ∷ []) ks next.trades (holds_given a b ks given.trades) in
    rw next.grown (record {
      values = map_append (value_at c) ks next.key xs v (stay ∙ given.values) next.value;
      trades = then_more a b c [] ks (next.key ∷ []) given.trades next.trades;
    })

-- where nothing was taken or given, all is as it was
module _ (f g : Val → Option ℕ) (a b : Cells) (before : IsPool f a) (after : IsPool g b) (trades : Trades a [] b []) where
  stays : (k : ℕ) (x : Val) → value_at a k ≡ Some x → value_at b k ≡ Some x
  stays k x is = trades.kept k x (all_held f a before k x is) is

  -- who holds it now held it before
  held_before : (x : Val) → IsHeld b [] x → IsHeld a [] x
  held_before x h =
      let more : 0 < outside a h.key = omega (arith, h.held, trades.balance h.key) in
      record { key = h.key; value = h.value; there = sym (kept_value a b [] [] trades h.key more) ∙ h.there; held = more; within = h.within }

  was_there : (k : ℕ) (x : Val) → value_at b k ≡ Some x → value_at a k ≡ Some x
  was_there k x is =
      let (m, at) = all_used f a before x (held_before x (all_held g b after k x is)) in
      let same : m ≡ k = one_id g b after.agrees m k x (stays m x at) is in
      ap (value_at a) (sym same) ∙ at

  same_at : (k : ℕ) (o p : Option Val) → value_at a k ≡ o → value_at b k ≡ p → p ≡ o
  same_at k None None at now = refl
  same_at k None (Some y) at now = let clash : None ≡ Some y = sym at ∙ was_there k y now in absurd (cc clash)
  same_at k (Some x) p at now = sym now ∙ stays k x at

  pub nothing_changed : IsUnchanged a b
  nothing_changed = record { values = λ k. same_at k (value_at a k) (value_at b k) refl refl; holders = λ k. omega (arith, trades.balance k) }

-- the same with the pools as contracts see them
pub unchanged : (f g : Val → Option ℕ) (a b old new : Cells) → a ≡ old → b ≡ new → IsPool f a → IsPool g b → Trades old [] new [] → IsUnchanged old new
unchanged f g a b old new is was before after trades =
    subst (λ x. IsUnchanged x new) is (subst (IsUnchanged a) was (nothing_changed f g a b before after (subst (λ x. Trades x [] b []) (sym is) (subst (λ y. Trades old [] y []) (sym was) trades))))

pub on_err : {A E : Type 0} (r : Result A E) (P Q : Type 0) → (P → Q) → OnErr r P → OnErr r Q
on_err (Ok x) P Q weaker h = tt
on_err (Err e) P Q weaker h = weaker h

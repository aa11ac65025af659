-- A value that is looked up: it is there and held once more, or it is not and comes in.
use Rattle.std.specs.Prelude.{◌≡◌, ◌⊎◌, ℕ, ◌+◌, ◌-◌, ◌<◌, ◌≤◌, ◌^◌, length, List, [], ◌∷◌, map, Option, Some, None, is_some, IsSome, refl}
use Rattle.std.proofs.Common.{sym, ap, ◌∙◌, subst, inl, inr, arith}
use Rattle.std.proofs.lemmas.Bool.{cases_eq, cases_lt}
use Rattle.da_values.specs.Sets.{Has}
use Rattle.da_values.specs.Value.{val_of}
use Rattle.da_values.specs.declared.val.Val.{Val}
use Rattle.row_pool.specs.declared.cell.Cell.{Cell}
use Rattle.row_pool.specs.Cells.{Cells, cell_at, value_in, holders_in, parts_in, value_at, holders_at, count, inside, outside, children, Becomes, Agrees, IsBalanced, AllHeld, IsPool, Finds}
use Rattle.row_pool.specs.InUse.{IsHeld}
use Rattle.row_pool.specs.Index.{IsIndexed, SameCounts}
use Rattle.row_pool.specs.Pool.{AreGiven, Holds, Trades}
use Rattle.row_pool.proofs.CellLaws.{inside_becomes, map_kept, to_outside, outside_is}
use Rattle.row_pool.proofs.CountLaws.{count_self, count_other}
use Rattle.row_pool.proofs.IndexLaws.{same_or_not}
use Rattle.row_pool.proofs.KeepLaws.{keeps, one_more, more_value}
use Rattle.row_pool.proofs.MarkLaws.{same_marked}
use Rattle.row_pool.proofs.TradeLaws.{kept_value}
use Rattle.row_pool.proofs.UseLaws.{found_at, in_children, lighter, within_weighs, all_held, all_used}

-- what is not found is not there, and the other way round
pub not_there : (f : Val → Option ℕ) (s now : Cells) → s ≡ now → Agrees f s → (x : Val) → f x ≡ None → (k : ℕ) → value_at now k ≡ Some x → ⊥
not_there f s now same agrees x none k is =
    let clash : None ≡ Some k = sym none ∙ found_at f s agrees k x (ap (λ n. value_at n k) same ∙ is) in
    cc clash

none_by : (f : Val → Option ℕ) (s : Cells) → Agrees f s → (x : Val) → ((k : ℕ) → value_at s k ≡ Some x → ⊥) → (o : Option ℕ) → f x ≡ o → o ≡ None
none_by f s agrees x absent None is = refl
none_by f s agrees x absent (Some k) is = absurd (absent k (agrees.found x k is))

pub not_found : (f : Val → Option ℕ) (s now : Cells) → s ≡ now → Agrees f s → (x : Val) → ((k : ℕ) → value_at now k ≡ Some x → ⊥) → f x ≡ None
not_found f s now same agrees x absent = none_by f s agrees x (λ k is. absent k (ap (λ n. value_at n k) (sym same) ∙ is)) (f x) refl

-- the value is there, and is held once more
module _ (f : Val → Option ℕ) (s t now : Cells) (x : Val) (key : ℕ) (same : s ≡ now) (pool : IsPool f s) (seen : f x ≡ Some key) (becomes : (c : Cell) → cell_at s key ≡ Some c → Becomes s t key (Some (one_more c))) where
  is_used : value_at now key ≡ Some x
  is_used = ap (λ n. value_at n key) (sym same) ∙ pool.agrees.found x key seen

  used : IsSome (value_at now key)
  used = ap is_some is_used

  pub once_more : IsPool f t × Trades now [] t (key ∷ [])
  once_more = keeps f s t key becomes now key same refl pool used

  pub still_there : value_at t key ≡ Some x
  still_there = more_value f s t key becomes now key same refl pool used key ∙ is_used

-- a new cell
module _ (f g : Val → Option ℕ) (s t : Cells) (k : ℕ) (c : Cell) (becomes : Becomes s t k (Some c)) (was : cell_at s k ≡ None) (finds : Finds f g (val_of c.value) (Some k)) (absent : f (val_of c.value) ≡ None) (one : c.holders ≡ 1) (few : length c.parts < 2 ^ 62) (pool : IsPool f s) (held : Holds s c.parts) (parts : map (value_at s) c.parts ≡ map Some (children (val_of c.value))) where
  away : (j : ℕ) (y : Val) → value_at s j ≡ Some y → j ≡ k → ⊥
  away j y is same = let clash : None ≡ Some y = sym (ap value_in was) ∙ ap (value_at s) (sym same) ∙ is in cc clash

  stays : (j : ℕ) (y : Val) → value_at s j ≡ Some y → value_at t j ≡ Some y
  stays j y is = ap value_in (becomes.others j (away j y is)) ∙ is

  here : (j : ℕ) (e : Cell) → cell_at t j ≡ Some e → j ≡ k → e ≡ c
  here j e at same = let both : Some e ≡ Some c = sym at ∙ ap (cell_at t) same ∙ becomes.changed in cc both

  pub added_agrees : Agrees g t
  added_agrees = record {
    indexed = λ j e at. indexed j e at (cases_eq j k);
    found = λ y j is. found y j is (same_or_not y (val_of c.value));
    whole = λ j e at. whole j e at (cases_eq j k);
    short = λ j e at. short j e at (cases_eq j k);
  }
    where
      short : (j : ℕ) (e : Cell) → cell_at t j ≡ Some e → (j ≡ k) ⊎ (j ≡ k → ⊥) → length e.parts < 2 ^ 62
      short j e at (inl same) = let n : length e.parts ≡ length c.parts = ap (λ (x : Cell). length x.parts) (here j e at same) in omega (arith, n, few)
      short j e at (inr ne) = pool.agrees.short j e (sym (becomes.others j ne) ∙ at)

      indexed : (j : ℕ) (e : Cell) → cell_at t j ≡ Some e → (j ≡ k) ⊎ (j ≡ k → ⊥) → g (val_of e.value) ≡ Some j
      indexed j e at (inl same) = ap (λ (x : Cell). g (val_of x.value)) (here j e at same) ∙ finds.changed ∙ ap Some (sym same)
      indexed j e at (inr ne) =
          let before : f (val_of e.value) ≡ Some j = pool.agrees.indexed j e (sym (becomes.others j ne) ∙ at) in
          finds.others (val_of e.value) (λ e'. let clash : None ≡ Some j = sym absent ∙ ap f (sym e') ∙ before in cc clash) ∙ before

      found : (y : Val) (j : ℕ) → g y ≡ Some j → (y ≡ val_of c.value) ⊎ (y ≡ val_of c.value → ⊥) → value_at t j ≡ Some y
      found y j is (inl same) =
          let both : Some k ≡ Some j = sym finds.changed ∙ ap g (sym same) ∙ is in
          let jk : k ≡ j = cc both in
          ap (value_at t) (sym jk) ∙ ap value_in becomes.changed ∙ ap Some (sym same)
      found y j is (inr ne) = stays j y (pool.agrees.found y j (sym (finds.others y ne) ∙ is))

      whole : (j : ℕ) (e : Cell) → cell_at t j ≡ Some e → (j ≡ k) ⊎ (j ≡ k → ⊥) → map (value_at t) e.parts ≡ map Some (children (val_of e.value))
      whole j e at (inl same) =
          ap (λ (x : Cell). map (value_at t) x.parts) (here j e at same) ∙ map_kept (value_at s) (value_at t) c.parts (children (val_of c.value)) parts stays ∙ ap (λ (x : Cell). map Some (children (val_of x.value))) (sym (here j e at same))
      whole j e at (inr ne) = map_kept (value_at s) (value_at t) e.parts (children (val_of e.value)) (pool.agrees.whole j e (sym (becomes.others j ne) ∙ at)) stays

  counted : (j : ℕ) → (j ≡ k) ⊎ (j ≡ k → ⊥) → holders_at t j ≡ inside t j + ((outside s j - count j c.parts) + count j (k ∷ []))
  counted j (inl same) =
      let now : holders_at t j ≡ 1 = ap (holders_at t) same ∙ ap holders_in becomes.changed ∙ one in
      let before : holders_at s j ≡ 0 = ap (holders_at s) same ∙ ap holders_in was in
      let none : count j (parts_in (cell_at s k)) ≡ 0 = ap (λ o. count j (parts_in o)) was in
      let single : count j (k ∷ []) ≡ 1 = ap (λ n. count j (n ∷ [])) (sym same) ∙ count_self j in
      omega (arith, now, before, none, single, inside_becomes s t k (Some c) becomes j, pool.balanced.counted j, held.held j)
  counted j (inr ne) =
      let now : holders_at t j ≡ holders_at s j = ap holders_in (becomes.others j ne) in
      let none : count j (parts_in (cell_at s k)) ≡ 0 = ap (λ o. count j (parts_in o)) was in
      omega (arith, now, none, count_other j k ne, inside_becomes s t k (Some c) becomes j, pool.balanced.counted j, held.held j)

  pub added_balance : IsBalanced t (λ j. (outside s j - count j c.parts) + count j (k ∷ []))
  added_balance = record { counted = λ j. counted j (cases_eq j k) }

  pub added_held : AllHeld t
  added_held = record { held = λ j e at. go j e at (cases_eq j k) }
    where
      go : (j : ℕ) (e : Cell) → cell_at t j ≡ Some e → (j ≡ k) ⊎ (j ≡ k → ⊥) → 0 < e.holders
      go j e at (inl same) = let n : e.holders ≡ 1 = ap (λ (x : Cell). x.holders) (here j e at same) ∙ one in omega (arith, n)
      go j e at (inr ne) = pool.all_held.held j e (sym (becomes.others j ne) ∙ at)

  pub added_pool : IsPool g t
  added_pool = record { agrees = added_agrees; balanced = to_outside t _ added_balance; all_held = added_held }

  pub added_value : value_at t k ≡ Some (val_of c.value)
  added_value = ap value_in becomes.changed

  pub added_trades : Trades s c.parts t (k ∷ [])
  added_trades = record {
    balance = λ j. omega (arith, outside_is t _ added_balance j, held.held j);
    kept = λ j y h is. stays j y is;
  }

-- the same with the pool as contracts see it
module _ (f g : Val → Option ℕ) (s t now : Cells) (x : Val) (c : Cell) (same : s ≡ now) (value : val_of c.value ≡ x) (one : c.holders ≡ 1) (few : length c.parts < 2 ^ 62) (pool : IsPool f s) (held : Holds now c.parts) (parts : map (value_at now) c.parts ≡ map Some (children x)) where
  pub added_into : (k : ℕ) → Becomes s t k (Some c) → cell_at s k ≡ None → Finds f g x (Some k) → f x ≡ None → IsPool g t × Trades now c.parts t (k ∷ [])
  added_into k becomes was finds absent =
      let fs : Finds f g (val_of c.value) (Some k) = subst (λ y. Finds f g y (Some k)) (sym value) finds in
      let no : f (val_of c.value) ≡ None = ap f value ∙ absent in
      let h : Holds s c.parts = subst (λ n. Holds n c.parts) (sym same) held in
      let p : map (value_at s) c.parts ≡ map Some (children (val_of c.value)) = ap (λ n. map (value_at n) c.parts) same ∙ parts ∙ ap (λ y. map Some (children y)) (sym value) in
      (added_pool f g s t k c becomes was fs no one few pool h p, subst (λ n. Trades n c.parts t (k ∷ [])) same (added_trades f g s t k c becomes was fs no one few pool h p))

-- the same cells, with the same ids under each number, are the same pool
pub nothing_added : (keys new : ℕ → List ℕ) (s t : Cells) → SameCounts keys new → t ≡ s → IsIndexed keys s → IsIndexed new t
nothing_added keys new s t same cells indexed =
    subst (λ (u : Cells). IsIndexed new u) (sym cells) (record { find = indexed.find; pool = indexed.pool; marks = same_marked keys new s same indexed.marks })

-- no cells, and no ids under any number
pub empty_indexed : (keys : ℕ → List ℕ) (s : Cells) → s ≡ [] → ((n : ℕ) → keys n ≡ []) → IsIndexed keys s
empty_indexed keys s empty none =
    subst (λ (u : Cells). IsIndexed keys u) (sym empty) (record {
      find = λ x. None;
      pool = record {
        agrees = record {
          indexed = λ k c at. absurd (no_cell k c at);
          found = λ x k is. let clash : None ≡ Some k = is in absurd (cc clash);
          whole = λ k c at. absurd (no_cell k c at);
          short = λ k c at. absurd (no_cell k c at);
        };
        balanced = record { counted = λ k. refl };
        all_held = record { held = λ k c at. absurd (no_cell k c at) };
      };
      marks = record {
        marked = λ k c at. absurd (no_cell k c at);
        there = λ k c at. absurd (no_cell k c at);
        only = λ n k has. absurd (subst (λ (ks : List ℕ). Has ks k) (none n) has);
      };
    })
  where
    no_cell : (k : ℕ) (c : Cell) → cell_at [] k ≡ Some c → ⊥
    no_cell k c at = let clash : None ≡ Some c = at in cc clash

-- a value that was not there is not there once its children are: it is within none of them
module _ (f g : Val → Option ℕ) (s t old new : Cells) (same : s ≡ old) (is : t ≡ new) (before : IsPool f s) (after : IsPool g t) (v : Val) (parts : List ℕ) (given : AreGiven old new (children v) parts) (absent : (k : ℕ) → value_at old k ≡ Some v → ⊥) where
  not_held : IsHeld old [] v → ⊥
  not_held h = let (k, at) = all_used f s before v (subst (λ a. IsHeld a [] v) (sym same) h) in absent k (ap (λ a. value_at a k) (sym same) ∙ at)

  not_within : (h : IsHeld new [] v) → (0 < count h.key parts) ⊎ (count h.key parts ≤ 0) → ⊥
  not_within h (inl some) =
      let child : Has (children v) h.value = in_children (value_at new) parts (children v) h.key h.value given.values some h.there in
      absurd (omega (arith, lighter v h.value child, within_weighs h.value v h.within))
  not_within h (inr none) =
      let more : 0 < outside old h.key = omega (arith, none, h.held, given.trades.balance h.key) in
      not_held (record { key = h.key; value = h.value; there = sym (kept_value old new [] parts given.trades h.key more) ∙ h.there; held = more; within = h.within })

  pub still_absent : (k : ℕ) → value_at new k ≡ Some v → ⊥
  still_absent k at =
      let h : IsHeld new [] v = subst (λ a. IsHeld a [] v) is (all_held g t after k v (ap (λ a. value_at a k) is ∙ at)) in
      not_within h (cases_lt 0 (count h.key parts))

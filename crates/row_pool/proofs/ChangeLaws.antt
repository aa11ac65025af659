-- A cell that one alone holds gets another value, with other parts.
use Rattle.std.specs.Prelude.{◌≡◌, ◌⊎◌, ℕ, ◌+◌, ◌-◌, ◌<◌, ◌^◌, length, List, [], ◌∷◌, map, Option, Some, None, refl}
use Rattle.std.proofs.Common.{sym, ap, ◌∙◌, subst, inl, inr, arith}
use Rattle.std.proofs.lemmas.Bool.{cases_eq}
use Rattle.da_values.specs.Sets.{Has}
use Rattle.da_values.specs.Value.{val_of}
use Rattle.da_values.specs.declared.val.Val.{Val}
use Rattle.row_pool.specs.declared.cell.Cell.{Cell}
use Rattle.row_pool.specs.Cells.{Agrees, AllHeld, Becomes, Cells, Finds, IsBalanced, IsPool, cell_at, children, count, holders_at, holders_in, inside, outside, parts_in, value_at, value_in}
use Rattle.row_pool.specs.InUse.{IsHeld, Within, inner, itself}
use Rattle.row_pool.specs.Pool.{Holds, Trades}
use Rattle.row_pool.proofs.CellLaws.{inside_becomes, map_but, outside_is, part_counted, to_outside}
use Rattle.row_pool.proofs.CountLaws.{count_more, count_self}
use Rattle.row_pool.proofs.IndexLaws.{same_or_not}
use Rattle.row_pool.proofs.MarkLaws.{finds_with, found_with}
use Rattle.row_pool.proofs.UseLaws.{cell_of, key_within, one_id}

-- The id of a child is among the parts.
child_counted : (f : ℕ → Option Val) (ps : List ℕ) (xs : List Val) (x : Val) → map f ps ≡ map Some xs → Has xs x → (k : ℕ) × (f k ≡ Some x) × (0 < count k ps)
child_counted f [] [] x is has = absurd has
child_counted f [] (y ∷ ys) x is has = absurd (cc is)
child_counted f (p ∷ ps) [] x is has = absurd has
child_counted f (p ∷ ps) (y ∷ ys) x is (inl e) = let first : f p ≡ Some y = cc is in (p, first ∙ ap Some (sym e), omega (arith, count_more p p ps, count_self p))
child_counted f (p ∷ ps) (y ∷ ys) x is (inr h) =
    let rest : map f ps ≡ map Some ys = cc is in
    let (k, at, some) = child_counted f ps ys x rest h in
    (k, at, omega (arith, some, count_more k p ps))

-- One value is found no more, and another one is found here.
abbrev pub found_for : (Val → Option ℕ) → Val → Val → ℕ → Val → Option ℕ
found_for f old new k = found_with (found_with f old None) new (Some k)

module _ (f : Val → Option ℕ) (s t : Cells) (k : ℕ) (c d : Cell) (taken given : List ℕ) (becomes : Becomes s t k (Some d)) (was : cell_at s k ≡ Some c) (pool : IsPool f s) (held : Holds s taken) (mine : 0 < count k taken) (one : c.holders ≡ 1) (same : d.holders ≡ c.holders) (few : length d.parts < 2 ^ 62) (absent : (j : ℕ) → value_at s j ≡ Some (val_of d.value) → ⊥) (named : map (value_at s) d.parts ≡ map Some (children (val_of d.value))) (apart : count k d.parts ≡ 0) (moved : (j : ℕ) → count j c.parts + count j taken ≡ count j d.parts + count j given) where
  there : value_at s k ≡ Some (val_of c.value)
  there = ap value_in was

  holders_one : holders_at s k ≡ 1
  holders_one = ap holders_in was ∙ one

  -- it is no part of anything
  alone : inside s k ≡ 0
  alone = omega (arith, holders_one, pool.balanced.counted k, held.held k, mine)

  no_part : (j : ℕ) (e : Cell) → cell_at s j ≡ Some e → count k e.parts ≡ 0
  no_part j e at = omega (arith, alone, part_counted s j e at k)

  left : Finds f (found_with f (val_of c.value) None) (val_of c.value) None
  left = finds_with f (val_of c.value) None

  came : Finds (found_with f (val_of c.value) None) (found_for f (val_of c.value) (val_of d.value) k) (val_of d.value) (Some k)
  came = finds_with (found_with f (val_of c.value) None) (val_of d.value) (Some k)

  here : (j : ℕ) (e : Cell) → cell_at t j ≡ Some e → j ≡ k → e ≡ d
  here j e at is = let both : Some e ≡ Some d = sym at ∙ ap (cell_at t) is ∙ becomes.changed in cc both

  away : (j : ℕ) → (j ≡ k → ⊥) → value_at t j ≡ value_at s j
  away j ne = ap value_in (becomes.others j ne)

  -- another cell has another value than this one had
  other_value : (j : ℕ) (y : Val) → value_at s j ≡ Some y → (j ≡ k → ⊥) → y ≡ val_of c.value → ⊥
  other_value j y is ne e = ne (one_id f s pool.agrees j k (val_of c.value) (is ∙ ap Some e) there)

  changed_agrees : Agrees (found_for f (val_of c.value) (val_of d.value) k) t
  changed_agrees = record {
    indexed = λ j e at. indexed j e at (cases_eq j k);
    found = λ y j is. found y j is (same_or_not y (val_of d.value)) (same_or_not y (val_of c.value));
    whole = λ j e at. whole j e at (cases_eq j k);
    short = λ j e at. short j e at (cases_eq j k);
  }
    where
      indexed : (j : ℕ) (e : Cell) → cell_at t j ≡ Some e → (j ≡ k) ⊎ (j ≡ k → ⊥) → found_for f (val_of c.value) (val_of d.value) k (val_of e.value) ≡ Some j
      indexed j e at (inl is) = ap (λ (x : Cell). found_for f (val_of c.value) (val_of d.value) k (val_of x.value)) (here j e at is) ∙ came.changed ∙ ap Some (sym is)
      indexed j e at (inr ne) =
          let before : cell_at s j ≡ Some e = sym (becomes.others j ne) ∙ at in
          came.others (val_of e.value) (λ new. absent j (ap value_in before ∙ ap Some new)) ∙ left.others (val_of e.value) (other_value j (val_of e.value) (ap value_in before) ne) ∙ pool.agrees.indexed j e before

      found : (y : Val) (j : ℕ) → found_for f (val_of c.value) (val_of d.value) k y ≡ Some j → (y ≡ val_of d.value) ⊎ (y ≡ val_of d.value → ⊥) → (y ≡ val_of c.value) ⊎ (y ≡ val_of c.value → ⊥) → value_at t j ≡ Some y
      found y j is (inl new) old =
          let both : Some k ≡ Some j = sym came.changed ∙ ap (found_for f (val_of c.value) (val_of d.value) k) (sym new) ∙ is in
          let jk : k ≡ j = cc both in
          ap (value_at t) (sym jk) ∙ ap value_in becomes.changed ∙ ap Some (sym new)
      found y j is (inr not_new) (inl old) =
          let clash : Some j ≡ None = sym is ∙ came.others y not_new ∙ ap (found_with f (val_of c.value) None) old ∙ left.changed in
          absurd (cc clash)
      found y j is (inr not_new) (inr not_old) =
          let before : f y ≡ Some j = sym (left.others y not_old) ∙ sym (came.others y not_new) ∙ is in
          let at : value_at s j ≡ Some y = pool.agrees.found y j before in
          away j (λ jk. not_old (was_old y j at jk)) ∙ at
        where
          was_old : (y : Val) (j : ℕ) → value_at s j ≡ Some y → j ≡ k → y ≡ val_of c.value
          was_old y j at jk = let both : Some y ≡ Some (val_of c.value) = sym at ∙ ap (value_at s) jk ∙ there in cc both

      whole : (j : ℕ) (e : Cell) → cell_at t j ≡ Some e → (j ≡ k) ⊎ (j ≡ k → ⊥) → map (value_at t) e.parts ≡ map Some (children (val_of e.value))
      whole j e at (inl is) =
          ap (λ (x : Cell). map (value_at t) x.parts) (here j e at is) ∙ map_but (value_at s) (value_at t) k d.parts apart away ∙ named ∙ ap (λ (x : Cell). map Some (children (val_of x.value))) (sym (here j e at is))
      whole j e at (inr ne) =
          let before : cell_at s j ≡ Some e = sym (becomes.others j ne) ∙ at in
          map_but (value_at s) (value_at t) k e.parts (no_part j e before) away ∙ pool.agrees.whole j e before

      short : (j : ℕ) (e : Cell) → cell_at t j ≡ Some e → (j ≡ k) ⊎ (j ≡ k → ⊥) → length e.parts < 2 ^ 62
      short j e at (inl is) = let n : length e.parts ≡ length d.parts = ap (λ (x : Cell). length x.parts) (here j e at is) in omega (arith, n, few)
      short j e at (inr ne) = pool.agrees.short j e (sym (becomes.others j ne) ∙ at)

  holders_stay : (j : ℕ) → (j ≡ k) ⊎ (j ≡ k → ⊥) → holders_at t j ≡ holders_at s j
  holders_stay j (inl is) = ap (holders_at t) is ∙ ap holders_in becomes.changed ∙ same ∙ sym (ap (holders_at s) is ∙ ap holders_in was)
  holders_stay j (inr ne) = ap holders_in (becomes.others j ne)

  changed_balance : IsBalanced t (λ j. (outside s j - count j taken) + count j given)
  changed_balance = record { counted = λ j. counted j (holders_stay j (cases_eq j k)) }
    where
      counted : (j : ℕ) → holders_at t j ≡ holders_at s j → holders_at t j ≡ inside t j + ((outside s j - count j taken) + count j given)
      counted j stay =
          let parts : count j (parts_in (cell_at s k)) ≡ count j c.parts = ap (λ o. count j (parts_in o)) was in
          omega (arith, stay, parts, inside_becomes s t k (Some d) becomes j, pool.balanced.counted j, held.held j, moved j)

  changed_held : AllHeld t
  changed_held = record { held = λ j e at. go j e at (cases_eq j k) }
    where
      go : (j : ℕ) (e : Cell) → cell_at t j ≡ Some e → (j ≡ k) ⊎ (j ≡ k → ⊥) → 0 < e.holders
      go j e at (inl is) = let n : e.holders ≡ 1 = ap (λ (x : Cell). x.holders) (here j e at is) ∙ same ∙ one in omega (arith, n)
      go j e at (inr ne) = pool.all_held.held j e (sym (becomes.others j ne) ∙ at)

  pub changed_pool : IsPool (found_for f (val_of c.value) (val_of d.value) k) t
  changed_pool = record { agrees = changed_agrees; balanced = to_outside t _ changed_balance; all_held = changed_held }

  -- the value is within nothing but itself
  within_none : (z x : Val) → Within z x → x ≡ val_of c.value → (m : ℕ) → value_at s m ≡ Some z → m ≡ k
  within_none z x (itself _ is) old m at = one_id f s pool.agrees m k (val_of c.value) (at ∙ ap Some (sym is ∙ old)) there
  within_none z x (inner _ y child within) old m at =
      let (n, its) = key_within f s pool.agrees z y within m at in
      let (e, cell, value) = cell_of s n y (cell_at s n) refl its in
      let (j, name, some) = child_counted (value_at s) e.parts (children y) x (pool.agrees.whole n e cell ∙ ap (λ v. map Some (children v)) value) child in
      let jk : j ≡ k = one_id f s pool.agrees j k (val_of c.value) (name ∙ ap Some old) there in
      absurd (omega (arith, some, no_part n e cell, ap (λ i. count i e.parts) jk))

  -- so nobody else holds it
  not_else : IsHeld s taken (val_of c.value) → ⊥
  not_else h =
      let mk : h.key ≡ k = within_none h.value (val_of c.value) h.within refl h.key h.there in
      let less : count k taken < outside s k = subst (λ (i : ℕ). count i taken < outside s i) mk h.held in
      absurd (omega (arith, less, mine, holders_one, pool.balanced.counted k))

  pub changed_trades : Trades s taken t given
  changed_trades = record {
    balance = λ j. omega (arith, outside_is t _ changed_balance j, held.held j);
    kept = λ j y h is. go j y h is (cases_eq j k);
  }
    where
      go : (j : ℕ) (y : Val) → IsHeld s taken y → value_at s j ≡ Some y → (j ≡ k) ⊎ (j ≡ k → ⊥) → value_at t j ≡ Some y
      go j y h is (inr ne) = away j ne ∙ is
      go j y h is (inl jk) =
          let both : Some y ≡ Some (val_of c.value) = sym is ∙ ap (value_at s) jk ∙ there in
          let old : y ≡ val_of c.value = cc both in
          absurd (not_else (subst (IsHeld s taken) old h))

  pub changed_value : value_at t k ≡ Some (val_of d.value)
  changed_value = ap value_in becomes.changed

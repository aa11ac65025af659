-- How holders go and cells leave, step by step.
use Rattle.std.specs.Prelude.{◌≡◌, ◌⊎◌, ℕ, zero, suc, ◌+◌, ◌-◌, ◌<◌, ◌≤◌, List, [], ◌∷◌, length, drop, Option, Some, None, refl}
use Rattle.std.proofs.Common.{sym, ap, ◌∙◌, subst, inl, inr, arith}
use Rattle.std.proofs.lemmas.Bool.{cases_eq, cases_lt}
use Rattle.da_values.specs.Sets.{Has}
use Rattle.da_values.specs.Value.{val_of}
use Rattle.da_values.specs.declared.val.Val.{Val}
use Rattle.row_pool.specs.declared.cell.Cell.{Cell}
use Rattle.row_pool.specs.Cells.{Cells, cell_at, value_in, holders_in, parts_in, value_at, holders_at, count, inside, outside, Becomes, Agrees, IsBalanced, IsPool, Finds}
use Rattle.row_pool.specs.Release.{IsChain, IsReleasing, Spares, Releases, LosesHolder}
use Rattle.row_pool.specs.Pool.{Holds, Trades}
use Rattle.row_pool.proofs.CellLaws.{outside_is, to_outside, part_counted, inside_becomes, map_but, rehold_value, rehold_inside, rehold_agrees, rehold_holders}
use Rattle.row_pool.proofs.CountLaws.{count_more, count_self}
use Rattle.row_pool.proofs.UseLaws.{key_within, one_id}

-- a cell that is not in the chain may change
chain_kept : (s t : Cells) (i : ℕ) (slot : Option Cell) → Becomes s t i slot → (line : List ℕ) (first : Option ℕ) → (Has line i → ⊥) → IsChain s first line → IsChain t first line
chain_kept s t i slot becomes [] first none chain = chain
chain_kept s t i slot becomes (p ∷ ps) first none chain =
    let (is, fresh, rest) = chain in
    let (c, at, no_holder, more) = rest in
    (is, fresh, (c, becomes.others p (λ e. none (inl (sym e))) ∙ at, no_holder, chain_kept s t i slot becomes ps c.next (λ h. none (inr h)) more))

-- a cell of the chain has no holder
chain_dead : (s : Cells) (line : List ℕ) (first : Option ℕ) → IsChain s first line → (k : ℕ) (c : Cell) → Has line k → cell_at s k ≡ Some c → c.holders ≡ 0
chain_dead s [] first chain k c has at = absurd has
chain_dead s (p ∷ ps) first chain k c (inl e) at =
    let (d, there, no_holder, more) = chain.2 in
    let here : Some c ≡ Some d = sym at ∙ ap (cell_at s) e ∙ there in
    let same : c ≡ d = cc here in
    ap (λ (x : Cell). x.holders) same ∙ no_holder
chain_dead s (p ∷ ps) first chain k c (inr h) at = chain_dead s ps _ chain.2.3 k c h at

spares : (find : Val → Option ℕ) (s t : Cells) (i : ℕ) (c d : Cell) → Becomes s t i (Some d) → cell_at s i ≡ Some c → d.value ≡ c.value → d.parts ≡ c.parts → (owed : ℕ → ℕ) → Spares owed s t
spares find s t i c d becomes was value parts owed =
    let same : (k : ℕ) → value_at t k ≡ value_at s k = rehold_value find s t i c d becomes was value parts in
    record { same = λ k _. same k; none_new = λ k x is. sym (same k) ∙ is }

-- one holder goes
module _ (find : Val → Option ℕ) (s t : Cells) (first first' : Option ℕ) (key : ℕ) (rest : List ℕ) (owed : ℕ → ℕ) (goes : LosesHolder s first key t first') (old : IsReleasing find s (λ k. owed k + count k (key ∷ rest)) first) where
  last : (c : Cell) → cell_at s key ≡ Some c → c.holders ≡ 1 → IsReleasing find t (λ k. owed k + count k rest) first' × Spares owed s t
  last c was one =
      let d : Cell = record c { holders = 0; next = first } in
      let becomes : Becomes s t key (Some d) = (goes.last c was one).0 in
      let apart : Has old.line key → ⊥ = λ h. absurd (omega (arith, one, chain_dead s old.line first old.chain key c h was)) in (
        record {
          agrees = rehold_agrees find s t key c d becomes was refl refl old.agrees;
          balanced = record { counted = λ k. omega (arith, old.balanced.counted k, count_more k key rest, rehold_inside find s t key c d becomes was refl refl k, rehold_holders find s t key c d becomes was refl refl k 0 1 (omega (arith, one)) (cases_eq k key)) };
          line = key ∷ old.line;
          chain = ((goes.last c was one).1, apart, (d, becomes.changed, refl, chain_kept s t key (Some d) becomes old.line first apart old.chain));
          only = λ k e at no_holder. only_last k e at no_holder becomes (cases_eq k key);
        },
        spares find s t key c d becomes was refl refl owed,
      )
    where
      only_last : {d : Cell} (k : ℕ) (e : Cell) → cell_at t k ≡ Some e → e.holders ≡ 0 → Becomes s t key (Some d) → (k ≡ key) ⊎ (k ≡ key → ⊥) → Has (key ∷ old.line) k
      only_last k e at no_holder becomes (inl same) = inl same
      only_last k e at no_holder becomes (inr ne) = inr (old.only k e (sym (becomes.others k ne) ∙ at) no_holder)

  more : (c : Cell) → cell_at s key ≡ Some c → 1 < c.holders → IsReleasing find t (λ k. owed k + count k rest) first' × Spares owed s t
  more c was many =
      let d : Cell = record c { holders = c.holders - 1 } in
      let becomes : Becomes s t key (Some d) = (goes.more c was many).0 in
      let apart : Has old.line key → ⊥ = λ h. absurd (omega (arith, many, chain_dead s old.line first old.chain key c h was)) in (
        record {
          agrees = rehold_agrees find s t key c d becomes was refl refl old.agrees;
          balanced = record { counted = λ k. omega (arith, old.balanced.counted k, count_more k key rest, rehold_inside find s t key c d becomes was refl refl k, rehold_holders find s t key c d becomes was refl refl k 0 1 (omega (arith, many)) (cases_eq k key)) };
          line = old.line;
          chain = subst (λ f. IsChain t f old.line) (sym (goes.more c was many).1) (chain_kept s t key (Some d) becomes old.line first apart old.chain);
          only = λ k e at no_holder. only_more k e at no_holder becomes many (cases_eq k key);
        },
        spares find s t key c d becomes was refl refl owed,
      )
    where
      only_more : (k : ℕ) (e : Cell) → cell_at t k ≡ Some e → e.holders ≡ 0 → Becomes s t key (Some (record c { holders = c.holders - 1 })) → 1 < c.holders → (k ≡ key) ⊎ (k ≡ key → ⊥) → Has old.line k
      only_more k e at no_holder becomes many (inl same) =
          let here : Some e ≡ Some (record c { holders = c.holders - 1 }) = sym at ∙ ap (cell_at t) same ∙ becomes.changed in
          let ed : e ≡ record c { holders = c.holders - 1 } = cc here in
          let n : e.holders ≡ c.holders - 1 = ap (λ (x : Cell). x.holders) ed in
          absurd (omega (arith, n, no_holder, many))
      only_more k e at no_holder becomes many (inr ne) = old.only k e (sym (becomes.others k ne) ∙ at) no_holder

  by_cell : (o : Option Cell) → cell_at s key ≡ o → IsReleasing find t (λ k. owed k + count k rest) first' × Spares owed s t
  by_cell None was =
      let none : holders_at s key ≡ 0 = ap holders_in was in
      absurd (omega (arith, none, old.balanced.counted key, count_more key key rest, count_self key))
  by_cell (Some c) was =
      let held : holders_at s key ≡ c.holders = ap holders_in was in
      by_count c was (cases_lt 1 c.holders) (omega (arith, held, old.balanced.counted key, count_more key key rest, count_self key))
    where
      by_count : (c : Cell) → cell_at s key ≡ Some c → (1 < c.holders) ⊎ (c.holders ≤ 1) → 0 < c.holders → IsReleasing find t (λ k. owed k + count k rest) first' × Spares owed s t
      by_count c was (inl many) some = more c was many
      by_count c was (inr few) some = last c was (omega (arith, few, some))

  pub one_goes : IsReleasing find t (λ k. owed k + count k rest) first' × Spares owed s t
  one_goes = by_cell (cell_at s key) refl

-- one cell is taken out
module _ (find find' : Val → Option ℕ) (s t : Cells) (key : ℕ) (c : Cell) (was : cell_at s key ≡ Some c) (becomes : Becomes s t key None) (finds : Finds find find' (val_of c.value) None) (owed : ℕ → ℕ) (old : IsReleasing find s owed (Some key)) where
  apart : (j : ℕ) (e : Cell) → cell_at t j ≡ Some e → j ≡ key → ⊥
  apart j e at same = let clash : None ≡ Some e = sym becomes.changed ∙ ap (cell_at t) (sym same) ∙ at in cc clash

  stood : (k : ℕ) (x : Val) → value_at t k ≡ Some x → (k ≡ key) ⊎ (k ≡ key → ⊥) → value_at s k ≡ Some x
  stood k x is (inl same) = let clash : None ≡ Some x = sym (ap value_in becomes.changed) ∙ ap (value_at t) (sym same) ∙ is in absurd (cc clash)
  stood k x is (inr ne) = sym (ap value_in (becomes.others k ne)) ∙ is

  no_part : c.holders ≡ 0 → (j : ℕ) (e : Cell) → cell_at s j ≡ Some e → count key e.parts ≡ 0
  no_part no_holder j e at =
      let held : holders_at s key ≡ 0 = ap holders_in was ∙ no_holder in
      omega (arith, held, old.balanced.counted key, part_counted s j e at key)

  agrees_out : c.holders ≡ 0 → Agrees find' t
  agrees_out no_holder = record {
    indexed = λ j e at. finds.others (val_of e.value) (λ same. other_value j e at same) ∙ old.agrees.indexed j e (sym (becomes.others j (apart j e at)) ∙ at);
    found = λ x j is. let g : find x ≡ Some j = sym (finds.others x (λ same. not_gone x j is same)) ∙ is in
        ap value_in (becomes.others j (λ same. not_gone x j is (there x j g same))) ∙ old.agrees.found x j g;
    whole = λ j e at. let before : cell_at s j ≡ Some e = sym (becomes.others j (apart j e at)) ∙ at in
        map_but (value_at s) (value_at t) key e.parts (no_part no_holder j e before) (λ k ne. ap value_in (becomes.others k ne)) ∙ old.agrees.whole j e before;
    short = λ j e at. old.agrees.short j e (sym (becomes.others j (apart j e at)) ∙ at);
  }
    where
      other_value : (j : ℕ) (e : Cell) → cell_at t j ≡ Some e → val_of e.value ≡ val_of c.value → ⊥
      other_value j e at same =
          let before : cell_at s j ≡ Some e = sym (becomes.others j (apart j e at)) ∙ at in
          let both : Some j ≡ Some key = sym (old.agrees.indexed j e before) ∙ ap find same ∙ old.agrees.indexed key c was in
          let eq : j ≡ key = cc both in
          apart j e at eq

      not_gone : (x : Val) (j : ℕ) → find' x ≡ Some j → x ≡ val_of c.value → ⊥
      not_gone x j is same = let clash : Some j ≡ None = sym is ∙ ap find' same ∙ finds.changed in cc clash

      there : (x : Val) (j : ℕ) → find x ≡ Some j → j ≡ key → x ≡ val_of c.value
      there x j g same =
          let both : Some x ≡ Some (val_of c.value) = sym (old.agrees.found x j g) ∙ ap (value_at s) same ∙ ap value_in was in
          cc both

  balanced_out : c.holders ≡ 0 → IsBalanced t (λ k. owed k + count k c.parts)
  balanced_out no_holder = record { counted = λ j. go j (cases_eq j key) }
    where
      go : (j : ℕ) → (j ≡ key) ⊎ (j ≡ key → ⊥) → holders_at t j ≡ inside t j + (owed j + count j c.parts)
      go j (inl same) =
          let gone : holders_at t j ≡ 0 = ap (holders_at t) same ∙ ap holders_in becomes.changed in
          let before : holders_at s j ≡ 0 = ap (holders_at s) same ∙ ap holders_in was ∙ no_holder in
          let parts : count j (parts_in (cell_at s key)) ≡ count j c.parts = ap (λ o. count j (parts_in o)) was in
          omega (arith, gone, before, parts, inside_becomes s t key None becomes j, old.balanced.counted j)
      go j (inr ne) =
          let kept : holders_at t j ≡ holders_at s j = ap holders_in (becomes.others j ne) in
          let parts : count j (parts_in (cell_at s key)) ≡ count j c.parts = ap (λ o. count j (parts_in o)) was in
          omega (arith, kept, parts, inside_becomes s t key None becomes j, old.balanced.counted j)

  out : (line : List ℕ) → IsChain s (Some key) line → ((k : ℕ) (e : Cell) → cell_at s k ≡ Some e → e.holders ≡ 0 → Has line k) → IsReleasing find' t (λ k. owed k + count k c.parts) c.next × Spares owed s t
  out [] chain only = absurd (cc chain)
  out (p ∷ ps) chain only =
      let (is, fresh, rest) = chain in
      let (d, at, no_holder, more) = rest in
      let first : key ≡ p = cc is in
      let here : Some c ≡ Some d = sym was ∙ ap (cell_at s) first ∙ at in
      let same : c ≡ d = cc here in
      let none : c.holders ≡ 0 = ap (λ (x : Cell). x.holders) same ∙ no_holder in
      let held : holders_at s key ≡ 0 = ap holders_in was ∙ none in
      let away : Has ps key → ⊥ = λ h. fresh (subst (Has ps) first h) in (
        record {
          agrees = agrees_out none;
          balanced = balanced_out none;
          line = ps;
          chain = subst (λ f. IsChain t f ps) (ap (λ (x : Cell). x.next) (sym same)) (chain_kept s t key None becomes ps d.next away more);
          only = λ k e there no_holder'. shorter k e there (only k e (sym (becomes.others k (apart k e there)) ∙ there) no_holder') first;
        },
        record {
          same = λ k some. ap value_in (becomes.others k (λ e. absurd (omega (arith, some, held, old.balanced.counted key, ap owed e))));
          none_new = λ k x is. stood k x is (cases_eq k key);
        },
      )
    where
      shorter : (k : ℕ) (e : Cell) → cell_at t k ≡ Some e → Has (p ∷ ps) k → key ≡ p → Has ps k
      shorter k e there (inl h) first = absurd (apart k e there (h ∙ sym first))
      shorter k e there (inr h) first = h

  pub cell_leaves : IsReleasing find' t (λ k. owed k + count k c.parts) c.next × Spares owed s t
  cell_leaves = out old.line old.chain old.only

-- the same numbers, said in another way
same_owed : (f : Val → Option ℕ) (s : Cells) (first : Option ℕ) (o p : ℕ → ℕ) → ((k : ℕ) → p k ≡ o k) → IsReleasing f s o first → IsReleasing f s p first
same_owed f s first o p same old = record { agrees = old.agrees; balanced = record { counted = λ k. old.balanced.counted k ∙ ap (λ n. inside s k + n) (sym (same k)) }; line = old.line; chain = old.chain; only = old.only }

pub none_go : (f : Val → Option ℕ) (s : Cells) (first : Option ℕ) (keys : List ℕ) → Releases f s first keys f s first keys
none_go f s first keys owed old = (old, record { same = λ k _. refl; none_new = λ k x is. is })

module _ (f g h : Val → Option ℕ) (s t u : Cells) (a b c : Option ℕ) (ks ls ms : List ℕ) where
  pub then_release : Releases f s a ks g t b ls → Releases g t b ls h u c ms → Releases f s a ks h u c ms
  then_release one two owed old =
      let x = one owed old in
      let y = two owed x.0 in
      (y.0, record { same = λ k some. y.1.same k some ∙ x.1.same k some; none_new = λ k v is. x.1.none_new k v (y.1.none_new k v is) })

pub next_goes : (f : Val → Option ℕ) (s t u : Cells) (a b c : Option ℕ) (keys ls : List ℕ) (key : ℕ) (rest : List ℕ) → Releases f s a keys f t b ls → ls ≡ key ∷ rest → LosesHolder t b key u c → Releases f s a keys f u c rest
next_goes f s t u a b c keys ls key rest before is goes =
    then_release f f f s t u a b c keys (key ∷ rest) rest (subst (λ l. Releases f s a keys f t b l) is before) (λ owed old. one_goes f t u b c key rest owed goes old)

-- one cell leaves, and gives its parts back
pub taken_out : (f0 f g : Val → Option ℕ) (s0 s t u : Cells) (a next : Option ℕ) (key : ℕ) (c : Cell) → Releases f0 s0 a [] f s (Some key) [] → cell_at s key ≡ Some c → Becomes s t key None → Finds f g (val_of c.value) None → Releases g t c.next c.parts g u next [] → Releases f0 s0 a [] g u next []
taken_out f0 f g s0 s t u a next key c before was becomes finds after owed old =
    let x = before owed old in
    let plain = same_owed f s (Some key) (λ k. owed k + count k []) owed (λ k. omega arith) x.0 in
    let y = cell_leaves f g s t key c was becomes finds owed plain in
    let z = after owed y.0 in
    (z.0, record { same = λ k some. z.1.same k some ∙ y.1.same k some ∙ x.1.same k some; none_new = λ k v is. x.1.none_new k v (y.1.none_new k v (z.1.none_new k v is)) })

-- a cell that is to leave is there
pub named : (f0 f : Val → Option ℕ) (s0 s : Cells) (a : Option ℕ) (key : ℕ) → Releases f0 s0 a [] f s (Some key) [] → cell_at s key ≡ None → (g : Val → Option ℕ) (t : Cells) (b : Option ℕ) → Releases f0 s0 a [] g t b []
named f0 f s0 s a key before gone g t b owed old = let x = before owed old in go x.0.line x.0.chain
  where
    go : (line : List ℕ) → IsChain s (Some key) line → IsReleasing g t (λ k. owed k + count k []) b × Spares owed s0 t
    go [] chain = absurd (cc chain)
    go (p ∷ ps) chain =
        let first : key ≡ p = cc chain.0 in
        let (d, at, no_holder, more) = chain.2 in
        let clash : None ≡ Some d = sym gone ∙ ap (cell_at s) first ∙ at in
        absurd (cc clash)

-- where no cell is left to leave there is a pool again
module _ (f g : Val → Option ℕ) (s t : Cells) (id : ℕ) where
  pub given : IsPool f s → ((k : ℕ) → count k (id ∷ []) ≤ outside s k) → Releases f s None (id ∷ []) g t None [] → IsPool g t × Trades s (id ∷ []) t []
  given pool held leaves =
      let none : (k : ℕ) (c : Cell) → cell_at s k ≡ Some c → c.holders ≡ 0 → Has [] k = λ k c at no. absurd (omega (arith, no, pool.all_held.held k c at)) in
      let start : IsReleasing f s (λ k. (outside s k - count k (id ∷ [])) + count k (id ∷ [])) None = record { agrees = pool.agrees; balanced = record { counted = λ k. omega (arith, held k, pool.balanced.counted k) }; line = []; chain = refl; only = none } in
      let end = leaves (λ k. outside s k - count k (id ∷ [])) start in
      ended held end.0 end.1 end.0.line end.0.chain end.0.only
    where
      ended : ((k : ℕ) → count k (id ∷ []) ≤ outside s k) → IsReleasing g t (λ k. (outside s k - count k (id ∷ [])) + count k []) None → Spares (λ k. outside s k - count k (id ∷ [])) s t → (line : List ℕ) → IsChain t None line → ((k : ℕ) (c : Cell) → cell_at t k ≡ Some c → c.holders ≡ 0 → Has line k) → IsPool g t × Trades s (id ∷ []) t []
      ended held end keeps [] chain only = (
        record { agrees = end.agrees; balanced = to_outside t _ end.balanced; all_held = record { held = λ k c at. some k c at (cases_lt 0 c.holders) only } },
        record {
          balance = λ k. omega (arith, held k, outside_is t _ end.balanced k);
          kept = λ k x h is.
              let there : value_at t h.key ≡ Some h.value = keeps.same h.key (omega (arith, h.held)) ∙ h.there in
              let (m, at) = key_within g t end.agrees h.value x h.within h.key there in
              let same : m ≡ k = one_id f s pool.agrees m k x (keeps.none_new m x at) is in
              ap (value_at t) (sym same) ∙ at;
        },
      )
        where
          some : (k : ℕ) (c : Cell) → cell_at t k ≡ Some c → (0 < c.holders) ⊎ (c.holders ≤ 0) → ((k : ℕ) (c : Cell) → cell_at t k ≡ Some c → c.holders ≡ 0 → Has [] k) → 0 < c.holders
          some k c at (inl h) only = h
          some k c at (inr h) only = absurd (only k c at (omega (arith, h)))
      ended held end keeps (p ∷ ps) chain only = absurd (cc chain.0)

pub drop_all : (keys : List ℕ) (i : ℕ) → length keys ≤ i → drop i keys ≡ []
drop_all [] zero past = refl
drop_all [] (suc i) past = refl
drop_all (k ∷ ks) zero past = absurd (omega (arith, past))
drop_all (k ∷ ks) (suc i) past = drop_all ks i (omega (arith, past))

pub all_gone : (f : Val → Option ℕ) (s t : Cells) (a b : Option ℕ) (keys : List ℕ) (i : ℕ) → Releases f s a keys f t b (drop i keys) → length keys ≤ i → Releases f s a keys f t b []
all_gone f s t a b keys i leaves past = subst (λ l. Releases f s a keys f t b l) (drop_all keys i past) leaves

pub taken_out_on : (f0 f g : Val → Option ℕ) (s0 s t u : Cells) (a next o : Option ℕ) (key : ℕ) (r : Option Cell) (c : Cell) (keys : List ℕ) → Releases f0 s0 a [] f s o [] → o ≡ Some key → r ≡ cell_at s key → r ≡ Some c → Becomes s t key None → Finds f g (val_of c.value) None → keys ≡ c.parts → Releases g t c.next keys g u next [] → Releases f0 s0 a [] g u next []
taken_out_on f0 f g s0 s t u a next o key r c keys before is taken some becomes finds parts after =
    taken_out f0 f g s0 s t u a next key c (subst (λ o. Releases f0 s0 a [] f s o []) is before) (sym taken ∙ some) becomes finds (subst (λ l. Releases g t c.next l g u next []) parts after)

pub missing : (f0 f : Val → Option ℕ) (s0 s : Cells) (a o : Option ℕ) (key : ℕ) (r : Option Cell) → Releases f0 s0 a [] f s o [] → o ≡ Some key → r ≡ cell_at s key → r ≡ None → (g : Val → Option ℕ) (t : Cells) (b : Option ℕ) → Releases f0 s0 a [] g t b []
missing f0 f s0 s a o key r before is taken none = named f0 f s0 s a key (subst (λ o. Releases f0 s0 a [] f s o []) is before) (sym taken ∙ none)

pub gives_back : (f g : Val → Option ℕ) (s t u now : Cells) (key id : ℕ) (first : Option ℕ) → s ≡ now → key ≡ id → IsPool f s → Holds now (id ∷ []) → LosesHolder s None key t first → Releases f t first [] g u None [] → IsPool g u × Trades now (id ∷ []) u []
gives_back f g s t u now key id first same is pool holds goes leaves =
    let here : Holds s (key ∷ []) = rw (same, is) holds in
    let one : Releases f s None (key ∷ []) f t first [] = next_goes f s s t None None first (key ∷ []) (key ∷ []) key [] (none_go f s None (key ∷ [])) refl goes in
    let both = given f g s u key pool here.held (then_release f f g s t u None first None (key ∷ []) [] [] one leaves) in
    (both.0, subst (λ (x : Cells). Trades x (id ∷ []) u []) same (subst (λ k. Trades s (k ∷ []) u []) is both.1))

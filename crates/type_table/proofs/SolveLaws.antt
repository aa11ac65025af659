-- An equation is put into a table.
use Rattle.std.specs.Prelude.{◌≡◌, refl, ℕ, zero, suc, ◌+◌, ◌<◌, ◌≤◌, ◌⊎◌, true, false, List, [], ◌∷◌, ◌++◌, length, zip, Option, Some, None, slice_get}
use Rattle.std.proofs.Common.{inl, inr, ◌∙◌, ap, sym, subst, arith, take, get_or, add-one}
use Rattle.std.proofs.lemmas.Bool.{cases_eq}
use Rattle.std.proofs.lemmas.List.{length-append}
use Rattle.da_lang.specs.declared.ty.Ty.TheVariants as t
use Rattle.type_table.specs.declared.form.Form.{Form}
use Rattle.type_table.specs.declared.form.Form.TheVariants as f
use Rattle.type_table.specs.Fits.{Meaning, Fits, HasForm, IsTable, IsWithin, AreSame, AreWithin}
use Rattle.type_table.specs.Joins.{IsRoot, link, joins, kept, paired}
use Rattle.type_table.specs.Links.{Found, Linked, InOrder, Equated}
use Rattle.type_table.specs.Solves.{Alike, Clashes}
use Rattle.type_table.specs.Weight.{weight}
use Rattle.type_table.proofs.FormLaws.{both_keep, both_give, none_has, kept_weighs, moved_within, ways, Ways, kept_first, kept_second}
use Rattle.type_table.proofs.TableLaws.{some_form, same_both, same_prefix, same_back, within_both, within_front, within_back, paired_within}

-- two numbers in any order
order_same : (m : Meaning) (first second low high : ℕ) → InOrder first second low high → m first ≡ m second → m low ≡ m high
order_same m first second low high (inl e) same = ap m e.0 ∙ same ∙ sym (ap m e.1)
order_same m first second low high (inr e) same = ap m e.0 ∙ sym same ∙ sym (ap m e.1)

same_order : (m : Meaning) (first second low high : ℕ) → InOrder first second low high → m low ≡ m high → m first ≡ m second
same_order m first second low high (inl e) same = sym (ap m e.0) ∙ same ∙ ap m e.1
same_order m first second low high (inr e) same = sym (ap m e.1) ∙ sym same ∙ ap m e.0

pub order_of : (P : ℕ → Type 0) (first second low high : ℕ) → InOrder first second low high → P first → P second → P low × P high
order_of P first second low high (inl e) p q = (subst P (sym e.0) p, subst P (sym e.1) q)
order_of P first second low high (inr e) p q = (subst P (sym e.0) q, subst P (sym e.1) p)

-- the roots of two numbers, one after the other
module _ (old mid now : List Form) (first second one other low high : ℕ) (a : Found old first mid one) (b : Found mid second now other) (order : InOrder one other low high) where
  pub both_now : (m : Meaning) → Fits m old → m first ≡ m second → Fits m now × (m low ≡ m high)
  both_now m fits same =
      let fits_mid = (a.alike.keeps m fits tt).0 in
      let fits_now = (b.alike.keeps m fits_mid tt).0 in
      (fits_now, order_same m one other low high order (sym (a.same m fits_mid) ∙ same ∙ b.same m fits_now))

  pub both_old : (m : Meaning) → Fits m now → m low ≡ m high → Fits m old × (m first ≡ m second)
  both_old m fits same =
      let fits_mid = (b.alike.gives m fits tt).0 in
      ((a.alike.gives m fits_mid tt).0, a.same m fits_mid ∙ same_order m one other low high order same ∙ sym (b.same m fits))

  pub roots_size : length now ≡ length old
  roots_size = b.size ∙ a.size

  pub roots_last : IsRoot mid one → one < length mid → IsRoot now other → IsRoot now low × IsRoot now high
  roots_last one_last inside other_last = order_of (IsRoot now) one other low high order one_now other_last
    where
      one_now : IsRoot now one
      one_now form at = go (slice_get mid one) refl
        where
          go : (o : Option Form) → slice_get mid one ≡ o → link form ≡ None
          go None e = absurd (none_there (get_none mid one e) inside)
            where
              none_there : length mid ≤ one → one < length mid → ⊥
              none_there past inside = omega (arith, past, inside)

              get_none : (xs : List Form) (k : ℕ) → slice_get xs k ≡ None → length xs ≤ k
              get_none [] k e = omega arith
              get_none (x ∷ xs) zero e = absurd (cc)
              get_none (x ∷ xs) (suc k) e = omega (arith, get_none xs k e)
          go (Some x) e = subst (λ z. link z ≡ None) (some_form (sym (b.roots one x e (one_last x e)) ∙ at)) (one_last x e)

  -- both have one root already
  pub roots_equal : (todo left : List (ℕ × ℕ)) → low ≡ high → AreWithin (length old) todo → left ≡ todo → Equated old ((first, second) ∷ todo) now left
  roots_equal todo left equal within is = subst (Equated old ((first, second) ∷ todo) now) (sym is) (record {
    within = subst (λ n. AreWithin n todo) (sym roots_size) within;
    less = omega (arith, a.weighs, b.weighs);
    alike = record {
      keeps = λ m fits same. ((both_now m fits same.0).0, same.1);
      gives = λ m fits same. let found = both_old m fits (ap m equal) in (found.0, (found.1, same));
    };
  })

  module _ (x y : Form) (at_low : slice_get now low ≡ Some x) (at_high : slice_get now high ≡ Some y) (x_root : link x ≡ None) (y_root : link y ≡ None) where
    pub roots_clash : joins x y ≡ false → Clashes old ((first, second) ∷ [])
    roots_clash cannot m fits same =
        let found = both_now m fits same.0 in
        none_has m x y (m low) x_root y_root cannot (found.0 low x at_low) (subst (HasForm m y) (sym found.1) (found.0 high y at_high))

    module _ (next : List Form) (todo left : List (ℕ × ℕ)) (apart : low < high) (can : joins x y ≡ true) (linked : Linked now low high next) (grown : left ≡ todo ++ paired x y) where
      low_is : slice_get next low ≡ Some (kept x y)
      low_is = linked.at_low x y at_low at_high

      -- what the new table tells of a number
      data At (k : ℕ) (form : Form) : Type 0 where
        low_one : k ≡ low → kept x y ≡ form → At k form
        high_one : k ≡ high → f.Same low ≡ form → At k form
        other_one : slice_get now k ≡ Some form → At k form

      places : (k : ℕ) (form : Form) → slice_get next k ≡ Some form → At k form
      places k form e = go (cases_eq k low) (cases_eq k high)
        where
          go : ((k ≡ low) ⊎ (k ≡ low → ⊥)) → ((k ≡ high) ⊎ (k ≡ high → ⊥)) → At k form
          go (inl here) _ = low_one here (some_form (sym low_is ∙ ap (slice_get next) (sym here) ∙ e))
          go (inr off) (inl here) = high_one here (some_form (sym linked.at_high ∙ ap (slice_get next) (sym here) ∙ e))
          go (inr off) (inr neither) = other_one (sym (linked.others k off neither) ∙ e)

      linked_keeps : (m : Meaning) → Fits m now → m low ≡ m high → Fits m next × AreSame m (paired x y)
      linked_keeps m fits same = (λ k form e. at k form (places k form e), both.1)
        where
          both : HasForm m (kept x y) (m low) × AreSame m (paired x y)
          both = both_keep m x y (m low) x_root y_root (fits low x at_low) (subst (HasForm m y) (sym same) (fits high y at_high))

          at : (k : ℕ) (form : Form) → At k form → HasForm m form (m k)
          at k form (low_one here is) = subst (λ z. HasForm m z (m k)) is (subst (HasForm m (kept x y)) (sym (ap m here)) both.0)
          at k form (high_one here is) = subst (λ z. HasForm m z (m k)) is (ap m here ∙ sym same)
          at k form (other_one old) = fits k form old

      linked_gives : (m : Meaning) → Fits m next → AreSame m (paired x y) → Fits m now × (m low ≡ m high)
      linked_gives m fits same = (λ k form e. at k form e (cases_eq k low) (cases_eq k high), sym is_low)
        where
          is_low : m high ≡ m low
          is_low = fits high (f.Same low) linked.at_high

          both : HasForm m x (m low) × HasForm m y (m low)
          both = both_give m x y (m low) x_root y_root can (fits low (kept x y) low_is) same

          at : (k : ℕ) (form : Form) → slice_get now k ≡ Some form → ((k ≡ low) ⊎ (k ≡ low → ⊥)) → ((k ≡ high) ⊎ (k ≡ high → ⊥)) → HasForm m form (m k)
          at k form e (inl here) _ =
              let is : x ≡ form = some_form (sym at_low ∙ ap (slice_get now) (sym here) ∙ e) in
              subst (λ z. HasForm m z (m k)) is (subst (HasForm m x) (sym (ap m here)) both.0)
          at k form e (inr off) (inl here) =
              let is : y ≡ form = some_form (sym at_high ∙ ap (slice_get now) (sym here) ∙ e) in
              subst (λ z. HasForm m z (m k)) is (subst (HasForm m y) (sym is_low ∙ sym (ap m here)) both.1)
          at k form e (inr off) (inr neither) = fits k form (linked.others k off neither ∙ e)

      pub linked_table : IsTable next
      linked_table k form e = subst (λ n. IsWithin n k form) (sym linked.size) (at (places k form e))
        where
          at : At k form → IsWithin (length now) k form
          at (low_one here is) = subst (λ z. IsWithin (length now) k z) is (subst (λ z. IsWithin (length now) z (kept x y)) (sym here) (left_in (ways x y)))
            where
              left_in : Ways x y → IsWithin (length now) low (kept x y)
              left_in (Ways.first none) = subst (IsWithin (length now) low) (sym (kept_second x y none)) (moved_within (length now) high low y y_root (b.table high y at_high))
              left_in (Ways.second off none) = subst (IsWithin (length now) low) (sym (kept_first x y off)) (b.table low x at_low)
              left_in (Ways.both off none) = subst (IsWithin (length now) low) (sym (kept_first x y off)) (b.table low x at_low)
          at (high_one here is) = subst (λ z. IsWithin (length now) k z) is (subst (λ z. low < z) (sym here) apart)
          at (other_one old) = b.table k form old

      pub linked_equates : AreWithin (length old) todo → Equated old ((first, second) ∷ todo) next left
      linked_equates within = subst (Equated old ((first, second) ∷ todo) next) (sym grown) (record {
        within = subst (λ n. AreWithin n (todo ++ paired x y)) (sym linked.size) (within_both (length now) todo (paired x y) (subst (λ n. AreWithin n todo) (sym roots_size) within) (paired_within (length now) low high x y (b.table low x at_low) (b.table high y at_high)));
        less =
            let pairs : length (todo ++ paired x y) ≡ length todo + length (paired x y) = length-append todo (paired x y) in
            omega (arith, pairs, a.weighs, b.weighs, linked.weighs x y at_low at_high, kept_weighs (λ k. t.Int) x y x_root y_root);
        alike = record {
          keeps = λ m fits same.
              let found = both_now m fits same.0 in
              let more = linked_keeps m found.0 found.1 in
              (more.0, same_both m todo (paired x y) same.1 more.1);
          gives = λ m fits same.
              let found = linked_gives m fits (same_back m todo (paired x y) same) in
              let before = both_old m found.0 found.1 in
              (before.0, (before.1, same_prefix m todo (paired x y) same));
        };
      })

-- the loop: how far an equation is solved
pub record Solving (start : List Form) (first second : ℕ) (now : List Form) (todo : List (ℕ × ℕ)) : Type 0 where
  pub table : IsTable now
  pub size : length now ≡ length start
  pub within : AreWithin (length now) todo
  pub alike : Alike start ((first, second) ∷ []) now todo

pub solving_begins : (forms : List Form) (first second : ℕ) (todo : List (ℕ × ℕ)) → IsTable forms → first < length forms → second < length forms → todo ≡ [] ++ (first, second) ∷ [] → Solving forms first second forms todo
solving_begins forms first second todo table first_in second_in is =
    record {
      table = table;
      size = refl;
      within = subst (AreWithin (length forms)) (sym is) (first_in, second_in, tt);
      alike = subst (Alike forms ((first, second) ∷ []) forms) (sym is) (record { keeps = λ m fits same. (fits, same); gives = λ m fits same. (fits, same) });
    }

module _ (start now : List Form) (first second one other : ℕ) (todo rest : List (ℕ × ℕ)) (taken : todo ≡ rest ++ (one, other) ∷ []) (so_far : Solving start first second now todo) where
  apart_now : AreWithin (length now) (rest ++ (one, other) ∷ [])
  apart_now = subst (AreWithin (length now)) taken so_far.within

  pub taken_within : (one < length now) × (other < length now)
  taken_within = let last = within_back (length now) rest ((one, other) ∷ []) apart_now in (last.0, last.1)

  pub rest_within : AreWithin (length now) rest
  rest_within = within_front (length now) rest ((one, other) ∷ []) apart_now

  pub solving_goes : (next : List Form) (left : List (ℕ × ℕ)) → IsTable next → length next ≡ length now → Equated now ((one, other) ∷ rest) next left → Solving start first second next left
  solving_goes next left table size done =
      record {
        table = table;
        size = size ∙ so_far.size;
        within = done.within;
        alike = record {
          keeps = λ m fits same.
              let found = so_far.alike.keeps m fits same in
              let all = subst (AreSame m) taken found.1 in
              done.alike.keeps m found.0 ((same_back m rest ((one, other) ∷ []) all).0, same_prefix m rest ((one, other) ∷ []) all);
          gives = λ m fits same.
              let found = done.alike.gives m fits same in
              so_far.alike.gives m found.0 (subst (AreSame m) (sym taken) (same_both m rest ((one, other) ∷ []) found.1.1 (found.1.0, tt)));
        };
      }

  pub solving_less : (next : List Form) (left : List (ℕ × ℕ)) → Equated now ((one, other) ∷ rest) next left → weight next + length left < weight now + length todo
  solving_less next left done =
      let size : length todo ≡ length rest + 1 = ap length taken ∙ length-append rest ((one, other) ∷ []) in
      omega (arith, size, done.less)

  pub solving_clashes : Clashes now ((one, other) ∷ []) → Clashes start ((first, second) ∷ [])
  solving_clashes clash m fits same =
      let found = so_far.alike.keeps m fits same in
      let last = (same_back m rest ((one, other) ∷ []) (subst (AreSame m) taken found.1)).0 in
      clash m found.0 (last, tt)

-- pairs of numbers so far
pub zip_more : (xs ys : List ℕ) (i : ℕ) → i < length xs → i < length ys → zip (take (i + 1) xs) (take (i + 1) ys) ≡ zip (take i xs) (take i ys) ++ (get_or xs i 0, get_or ys i 0) ∷ []
zip_more xs ys i x y = subst (λ n. zip (take n xs) (take n ys) ≡ zip (take i xs) (take i ys) ++ (get_or xs i 0, get_or ys i 0) ∷ []) (sym (add-one i)) (go xs ys i x y)
  where
    go : (xs ys : List ℕ) (i : ℕ) → i < length xs → i < length ys → zip (take (suc i) xs) (take (suc i) ys) ≡ zip (take i xs) (take i ys) ++ (get_or xs i 0, get_or ys i 0) ∷ []
    go [] ys i x y = absurd (omega (arith, x))
    go (a ∷ xs) [] i x y = absurd (omega (arith, y))
    go (a ∷ xs) (b ∷ ys) zero x y = refl
    go (a ∷ xs) (b ∷ ys) (suc i) x y = ap (λ zs. (a, b) ∷ zs) (go xs ys i (omega (arith, x)) (omega (arith, y)))

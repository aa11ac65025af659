-- What stands under the numbers of values, where a cell comes, leaves or changes.
use Rattle.std.specs.Prelude.{◌≡◌, ◌⊎◌, ℕ, ◌+◌, ◌<◌, ◌≤◌, Bool, true, false, if◌then◌else◌, List, [], ◌∷◌, Option, Some, None, IsSome, refl}
use Rattle.std.proofs.Common.{sym, ap, ◌∙◌, subst, inl, inr, arith}
use Rattle.std.proofs.lemmas.Bool.{cases_eq, cases_lt}
use Rattle.da_values.specs.Keys.{same_value, same_value-is}
use Rattle.da_values.specs.Sets.{Has}
use Rattle.da_values.specs.Value.{val_of}
use Rattle.da_values.specs.declared.val.Val.{Val}
use Rattle.row_pool.specs.declared.cell.Cell.{Cell}
use Rattle.row_pool.specs.Cells.{Becomes, Cells, Finds, cell_at, count, value_at, value_in}
use Rattle.row_pool.specs.Index.{AreMarked, Comes, Goes, IsIndexed, SameCounts}
use Rattle.row_pool.specs.Marks.{IsFree, mark}
use Rattle.row_pool.specs.Sets.{Moves}
use Rattle.row_pool.proofs.CountLaws.{count_more, count_other, count_self}
use Rattle.row_pool.proofs.KeepLaws.{keeps, one_more}
use Rattle.row_pool.proofs.UseLaws.{found_at}

-- WHERE VALUES ARE FOUND

-- Another place for one value.
abbrev pub found_with : (Val → Option ℕ) → Val → Option ℕ → Val → Option ℕ
found_with f x slot y = if same_value y x then slot else f y

apart_by : (y x : Val) → (y ≡ x → ⊥) → (b : Bool) → same_value y x ≡ b → b ≡ false
apart_by y x other true is = absurd (other ((same_value-is y x).0 is))
apart_by y x other false is = refl

pub finds_with : (f : Val → Option ℕ) (x : Val) (slot : Option ℕ) → Finds f (found_with f x slot) x slot
finds_with f x slot = record {
  changed = ap (λ (b : Bool). if b then slot else f x) ((same_value-is x x).1 refl);
  others = λ y other. ap (λ (b : Bool). if b then slot else f y) (apart_by y x other (same_value y x) refl);
}

-- IDS THAT ARE COUNTED

pub counted_has : (k : ℕ) (xs : List ℕ) → 0 < count k xs → Has xs k
counted_has k [] some = absurd (omega (arith, some))
counted_has k (x ∷ xs) some = go (cases_eq k x) (λ more. counted_has k xs more)
  where
    go : (k ≡ x) ⊎ (k ≡ x → ⊥) → (0 < count k xs → Has xs k) → Has (x ∷ xs) k
    go (inl same) later = inl same
    go (inr ne) later = inr (later (omega (arith, some, count_more k x xs, count_other k x ne)))

pub has_counted : (k : ℕ) (xs : List ℕ) → Has xs k → 0 < count k xs
has_counted k [] has = absurd has
has_counted k (x ∷ xs) (inl same) = omega (arith, count_more k x xs, ap (λ n. count k (n ∷ [])) same, count_self k)
has_counted k (x ∷ xs) (inr more) = omega (arith, count_more k x xs, has_counted k xs more)

-- THE SAME IDS

pub same_marked : (keys new : ℕ → List ℕ) (s : Cells) → SameCounts keys new → AreMarked keys s → AreMarked new s
same_marked keys new s same marks = record {
  marked = marks.marked;
  there = λ k c at. same c.mark k ∙ marks.there k c at;
  only = λ n k has. marks.only n k (counted_has k (keys n) (omega (arith, has_counted k (new n) has, same n k)));
}

-- A cell is under its number.
pub listed : (keys : ℕ → List ℕ) (s : Cells) (k : ℕ) (c : Cell) → AreMarked keys s → cell_at s k ≡ Some c → Has (keys c.mark) k
listed keys s k c marks at = counted_has k (keys c.mark) (omega (arith, marks.there k c at))

-- A CELL THAT KEEPS ITS VALUE AND ITS NUMBER

module _ (keys : ℕ → List ℕ) (s t : Cells) (i : ℕ) (c d : Cell) (becomes : Becomes s t i (Some d)) (was : cell_at s i ≡ Some c) (value : d.value ≡ c.value) (number : d.mark ≡ c.mark) where
  stood : (k : ℕ) (e : Cell) → cell_at t k ≡ Some e → (k ≡ i) ⊎ (k ≡ i → ⊥) → (b : Cell) × (cell_at s k ≡ Some b) × (e.value ≡ b.value) × (e.mark ≡ b.mark)
  stood k e at (inl same) =
      let here : Some e ≡ Some d = sym at ∙ ap (cell_at t) same ∙ becomes.changed in
      let ed : e ≡ d = cc here in
      (c, ap (cell_at s) same ∙ was, ap (λ (x : Cell). x.value) ed ∙ value, ap (λ (x : Cell). x.mark) ed ∙ number)
  stood k e at (inr ne) = (e, sym (becomes.others k ne) ∙ at, refl, refl)

  stands : (k : ℕ) (b : Cell) → cell_at s k ≡ Some b → (k ≡ i) ⊎ (k ≡ i → ⊥) → (e : Cell) × (cell_at t k ≡ Some e) × (e.mark ≡ b.mark)
  stands k b at (inl same) =
      let here : Some b ≡ Some c = sym at ∙ ap (cell_at s) same ∙ was in
      let bc : b ≡ c = cc here in
      (d, ap (cell_at t) same ∙ becomes.changed, number ∙ ap (λ (x : Cell). x.mark) (sym bc))
  stands k b at (inr ne) = (b, becomes.others k ne ∙ at, refl)

  pub rehold_marked : AreMarked keys s → AreMarked keys t
  rehold_marked marks = record {
    marked = λ k e at. let (b, before, v, m) = stood k e at (cases_eq k i) in m ∙ marks.marked k b before ∙ ap (λ v. mark (val_of v)) (sym v);
    there = λ k e at. let (b, before, v, m) = stood k e at (cases_eq k i) in ap (λ n. count k (keys n)) m ∙ marks.there k b before;
    only = λ n k has.
        let (b, before, m) = marks.only n k has in
        let (e, at, same) = stands k b before (cases_eq k i) in
        (e, at, same ∙ m);
  }

-- A NEW CELL

module _ (old new : ℕ → List ℕ) (s t : Cells) (k : ℕ) (c : Cell) (becomes : Becomes s t k (Some c)) (was : cell_at s k ≡ None) (comes : Comes old new c.mark k) (number : c.mark ≡ mark (val_of c.value)) (marks : AreMarked old s) where
  no_cell : (e : Cell) → cell_at s k ≡ Some e → ⊥
  no_cell e at = let clash : None ≡ Some e = sym was ∙ at in cc clash

  none_by : (n : ℕ) → (0 < count k (old n)) ⊎ (count k (old n) ≤ 0) → count k (old n) ≡ 0
  none_by n (inl some) = let (e, at, m) = marks.only n k (counted_has k (old n) some) in absurd (no_cell e at)
  none_by n (inr none) = omega (arith, none)

  none_before : (n : ℕ) → count k (old n) ≡ 0
  none_before n = none_by n (cases_lt 0 (count k (old n)))

  is_new : (j : ℕ) (e : Cell) → cell_at t j ≡ Some e → j ≡ k → e ≡ c
  is_new j e at same = let both : Some e ≡ Some c = sym at ∙ ap (cell_at t) same ∙ becomes.changed in cc both

  there_new : (j : ℕ) (e : Cell) → cell_at t j ≡ Some e → (j ≡ k) ⊎ (j ≡ k → ⊥) → count j (new e.mark) ≡ 1
  there_new j e at (inl same) =
      let whole : count j (new e.mark) ≡ count k (new c.mark) = ap (λ (x : Cell). count j (new x.mark)) (is_new j e at same) ∙ ap (λ n. count n (new c.mark)) same in
      omega (arith, whole, comes.here k, none_before c.mark, count_self k)
  there_new j e at (inr ne) = go (cases_eq e.mark c.mark)
    where
      before : cell_at s j ≡ Some e
      before = sym (becomes.others j ne) ∙ at

      go : (e.mark ≡ c.mark) ⊎ (e.mark ≡ c.mark → ⊥) → count j (new e.mark) ≡ 1
      go (inl m) = omega (arith, ap (λ n. count j (new n)) m, ap (λ n. count j (old n)) m, comes.here j, marks.there j e before, count_other j k ne)
      go (inr other) = ap (count j) (comes.others e.mark other) ∙ marks.there j e before

  was_only : (n j : ℕ) → Has (old n) j → (e : Cell) × (cell_at t j ≡ Some e) × (e.mark ≡ n)
  was_only n j has =
      let (e, at, m) = marks.only n j has in
      (e, becomes.others j (λ same. no_cell e (ap (cell_at s) (sym same) ∙ at)) ∙ at, m)

  only_new : (n j : ℕ) → Has (new n) j → (n ≡ c.mark) ⊎ (n ≡ c.mark → ⊥) → (e : Cell) × (cell_at t j ≡ Some e) × (e.mark ≡ n)
  only_new n j has (inr other) = was_only n j (subst (λ xs. Has xs j) (comes.others n other) has)
  only_new n j has (inl m) = go (cases_eq j k)
    where
      go : (j ≡ k) ⊎ (j ≡ k → ⊥) → (e : Cell) × (cell_at t j ≡ Some e) × (e.mark ≡ n)
      go (inl same) = (c, ap (cell_at t) same ∙ becomes.changed, sym m)
      go (inr ne) =
          was_only n j (counted_has j (old n)
          (omega (arith, has_counted j (new n) has, ap (λ x. count j (new x)) m, ap (λ x. count j (old x)) m, comes.here j, count_other j k ne)))

  pub comes_marked : AreMarked new t
  comes_marked = record {
    marked = λ j e at. marked_new j e at (cases_eq j k);
    there = λ j e at. there_new j e at (cases_eq j k);
    only = λ n j has. only_new n j has (cases_eq n c.mark);
  }
    where
      marked_new : (j : ℕ) (e : Cell) → cell_at t j ≡ Some e → (j ≡ k) ⊎ (j ≡ k → ⊥) → e.mark ≡ mark (val_of e.value)
      marked_new j e at (inl same) =
          let ec = is_new j e at same in
          ap (λ (x : Cell). x.mark) ec ∙ number ∙ ap (λ (x : Cell). mark (val_of x.value)) (sym ec)
      marked_new j e at (inr ne) = marks.marked j e (sym (becomes.others j ne) ∙ at)

-- A CELL THAT LEAVES

module _ (old new : ℕ → List ℕ) (s t : Cells) (k : ℕ) (c : Cell) (becomes : Becomes s t k None) (was : cell_at s k ≡ Some c) (goes : Goes old new c.mark k) (marks : AreMarked old s) where
  other : (j : ℕ) (e : Cell) → cell_at t j ≡ Some e → j ≡ k → ⊥
  other j e at same = let clash : None ≡ Some e = sym becomes.changed ∙ ap (cell_at t) (sym same) ∙ at in cc clash

  -- its id is under no number any more
  gone : (n : ℕ) → Has (new n) k → (n ≡ c.mark) ⊎ (n ≡ c.mark → ⊥) → ⊥
  gone n has (inl m) =
      absurd (omega (arith, has_counted k (new n) has, ap (λ x. count k (new x)) m, goes.here k, marks.there k c was, count_self k))
  gone n has (inr apart) =
      let (e, at, m) = marks.only n k (subst (λ xs. Has xs k) (goes.others n apart) has) in
      let both : Some e ≡ Some c = sym at ∙ was in
      let ec : e ≡ c = cc both in
      apart (sym m ∙ ap (λ (x : Cell). x.mark) ec)

  had : (n j : ℕ) → Has (new n) j → (n ≡ c.mark) ⊎ (n ≡ c.mark → ⊥) → Has (old n) j
  had n j has (inl m) = counted_has j (old n) (omega (arith, has_counted j (new n) has, ap (λ x. count j (new x)) m, ap (λ x. count j (old x)) m, goes.here j))
  had n j has (inr apart) = subst (λ xs. Has xs j) (goes.others n apart) has

  there_still : (j : ℕ) (e : Cell) → cell_at t j ≡ Some e → (e.mark ≡ c.mark) ⊎ (e.mark ≡ c.mark → ⊥) → count j (new e.mark) ≡ 1
  there_still j e at (inl m) =
      omega (arith, ap (λ n. count j (new n)) m, ap (λ n. count j (old n)) m, goes.here j, marks.there j e (sym (becomes.others j (other j e at)) ∙ at), count_other j k (other j e at))
  there_still j e at (inr apart) = ap (count j) (goes.others e.mark apart) ∙ marks.there j e (sym (becomes.others j (other j e at)) ∙ at)

  pub goes_marked : AreMarked new t
  goes_marked = record {
    marked = λ j e at. marks.marked j e (sym (becomes.others j (other j e at)) ∙ at);
    there = λ j e at. there_still j e at (cases_eq e.mark c.mark);
    only = λ n j has.
        let (e, at, m) = marks.only n j (had n j has (cases_eq n c.mark)) in
        (e, becomes.others j (λ same. gone n (subst (Has (new n)) same has) (cases_eq n c.mark)) ∙ at, m);
  }

-- A CELL THAT GETS ANOTHER VALUE AND ANOTHER NUMBER, UNDER WHICH NOTHING STOOD

module _ (old new : ℕ → List ℕ) (s t : Cells) (k : ℕ) (c d : Cell) (becomes : Becomes s t k (Some d)) (was : cell_at s k ≡ Some c) (moves : Moves old new c.mark d.mark k) (free : old d.mark ≡ []) (number : d.mark ≡ mark (val_of d.value)) (marks : AreMarked old s) where
  -- so it is another number
  differs : d.mark ≡ c.mark → ⊥
  differs same =
      let none : count k (old c.mark) ≡ 0 = ap (λ n. count k (old n)) (sym same) ∙ ap (count k) free in
      absurd (omega (arith, none, marks.there k c was))

  -- under the new number there is this id alone, under the old one it is no more, and elsewhere nothing changed
  new_here : (j : ℕ) → count j (new d.mark) ≡ count j (k ∷ [])
  new_here j =
      let none : count j (old d.mark) ≡ 0 = ap (count j) free in
      omega (arith, none, moves.comes.here j, ap (count j) (moves.goes.others d.mark differs))

  new_there : (j : ℕ) → count j (old c.mark) ≡ count j (new c.mark) + count j (k ∷ [])
  new_there j = omega (arith, moves.goes.here j, ap (count j) (moves.comes.others c.mark (λ same. differs (sym same))))

  new_else : (n : ℕ) → (n ≡ d.mark → ⊥) → (n ≡ c.mark → ⊥) → new n ≡ old n
  new_else n one two = moves.goes.others n two ∙ moves.comes.others n one

  is_d : (j : ℕ) (e : Cell) → cell_at t j ≡ Some e → j ≡ k → e ≡ d
  is_d j e at same = let both : Some e ≡ Some d = sym at ∙ ap (cell_at t) same ∙ becomes.changed in cc both

  is_c : (e : Cell) → cell_at s k ≡ Some e → e ≡ c
  is_c e at = let both : Some e ≡ Some c = sym at ∙ was in cc both

  -- the number of another cell is not the new one
  apart : (j : ℕ) (e : Cell) → cell_at s j ≡ Some e → e.mark ≡ d.mark → ⊥
  apart j e at same =
      let none : count j (old e.mark) ≡ 0 = ap (λ n. count j (old n)) same ∙ ap (count j) free in
      absurd (omega (arith, none, marks.there j e at))

  there_moved : (j : ℕ) (e : Cell) → cell_at t j ≡ Some e → (j ≡ k) ⊎ (j ≡ k → ⊥) → count j (new e.mark) ≡ 1
  there_moved j e at (inl same) =
      let whole : count j (new e.mark) ≡ count k (new d.mark) = ap (λ (x : Cell). count j (new x.mark)) (is_d j e at same) ∙ ap (λ n. count n (new d.mark)) same in
      omega (arith, whole, new_here k, count_self k)
  there_moved j e at (inr ne) = go (cases_eq e.mark c.mark)
    where
      before : cell_at s j ≡ Some e
      before = sym (becomes.others j ne) ∙ at

      go : (e.mark ≡ c.mark) ⊎ (e.mark ≡ c.mark → ⊥) → count j (new e.mark) ≡ 1
      go (inl m) = omega (arith, ap (λ n. count j (new n)) m, ap (λ n. count j (old n)) m, new_there j, marks.there j e before, count_other j k ne)
      go (inr other) = ap (count j) (new_else e.mark (apart j e before) other) ∙ marks.there j e before

  only_moved : (n j : ℕ) → Has (new n) j → (n ≡ d.mark) ⊎ (n ≡ d.mark → ⊥) → (n ≡ c.mark) ⊎ (n ≡ c.mark → ⊥) → (j ≡ k) ⊎ (j ≡ k → ⊥) → (e : Cell) × (cell_at t j ≡ Some e) × (e.mark ≡ n)
  only_moved n j has (inl m) two (inl same) = (d, ap (cell_at t) same ∙ becomes.changed, sym m)
  only_moved n j has (inl m) two (inr ne) = absurd (omega (arith, has_counted j (new n) has, ap (λ x. count j (new x)) m, new_here j, count_other j k ne))
  only_moved n j has (inr one) (inl m) (inl same) =
      let had : count j (old c.mark) ≡ 1 = ap (λ i. count i (old c.mark)) same ∙ marks.there k c was in
      let self : count j (k ∷ []) ≡ 1 = ap (λ i. count j (i ∷ [])) (sym same) ∙ count_self j in
      absurd (omega (arith, has_counted j (new n) has, ap (λ x. count j (new x)) m, new_there j, had, self))
  only_moved n j has (inr one) (inl m) (inr ne) =
      let (e, at, number) = marks.only n j (counted_has j (old n) (omega (arith, has_counted j (new n) has, ap (λ x. count j (new x)) m, ap (λ x. count j (old x)) m, new_there j))) in
      (e, becomes.others j ne ∙ at, number)
  only_moved n j has (inr one) (inr two) by = go by (marks.only n j (subst (λ xs. Has xs j) (new_else n one two) has))
    where
      go : (j ≡ k) ⊎ (j ≡ k → ⊥) → (e : Cell) × (cell_at s j ≡ Some e) × (e.mark ≡ n) → (e : Cell) × (cell_at t j ≡ Some e) × (e.mark ≡ n)
      go (inr ne) (e, at, number) = (e, becomes.others j ne ∙ at, number)
      go (inl same) (e, at, number) = absurd (two (sym number ∙ ap (λ (x : Cell). x.mark) (is_c e (ap (cell_at s) (sym same) ∙ at))))

  pub moved_marked : AreMarked new t
  moved_marked = record {
    marked = λ j e at. marked_moved j e at (cases_eq j k);
    there = λ j e at. there_moved j e at (cases_eq j k);
    only = λ n j has. only_moved n j has (cases_eq n d.mark) (cases_eq n c.mark) (cases_eq j k);
  }
    where
      marked_moved : (j : ℕ) (e : Cell) → cell_at t j ≡ Some e → (j ≡ k) ⊎ (j ≡ k → ⊥) → e.mark ≡ mark (val_of e.value)
      marked_moved j e at (inl same) =
          let ed = is_d j e at same in
          ap (λ (x : Cell). x.mark) ed ∙ number ∙ ap (λ (x : Cell). mark (val_of x.value)) (sym ed)
      marked_moved j e at (inr ne) = marks.marked j e (sym (becomes.others j ne) ∙ at)

-- ONE MORE HOLDER

more_marked : (keys : ℕ → List ℕ) (s t : Cells) (i : ℕ) → ((c : Cell) → cell_at s i ≡ Some c → Becomes s t i (Some (one_more c))) → (o : Option Cell) → cell_at s i ≡ o → IsSome (value_in o) → AreMarked keys s → AreMarked keys t
more_marked keys s t i becomes None was used marks = absurd (cc)
more_marked keys s t i becomes (Some c) was used marks = rehold_marked keys s t i c (one_more c) (becomes c was) was refl refl marks

pub kept_indexed : (keys : ℕ → List ℕ) (s t : Cells) (i : ℕ) → ((c : Cell) → cell_at s i ≡ Some c → Becomes s t i (Some (one_more c))) → (now : Cells) (id : ℕ) → s ≡ now → i ≡ id → IsIndexed keys s → IsSome (value_at now id) → IsIndexed keys t
kept_indexed keys s t i becomes now id same key indexed used =
    let here : IsSome (value_at s i) = rw (same, key) used in
    record {
      find = indexed.find;
      pool = (keeps indexed.find s t i becomes now id same key indexed.pool used).0;
      marks = more_marked keys s t i becomes (cell_at s i) refl here indexed.marks;
    }

-- NUMBERS THAT NO VALUE HAS

none_has : (xs : List ℕ) → ((k : ℕ) → Has xs k → ⊥) → xs ≡ []
none_has [] none = refl
none_has (x ∷ xs) none = absurd (none x (inl refl))

pub free_under : (keys : ℕ → List ℕ) (s : Cells) (n : ℕ) → AreMarked keys s → IsFree s n → keys n ≡ []
free_under keys s n marks free = none_has (keys n) (λ k has.
    let (c, at, number) = marks.only n k has in
    free k (val_of c.value) (ap value_in at) (sym (marks.marked k c at) ∙ number))

-- and the other way round
pub free_at : (keys : ℕ → List ℕ) (s : Cells) (n : ℕ) → AreMarked keys s → keys n ≡ [] → IsFree s n
free_at keys s n marks none k x at number = by_cell (cell_at s k) refl
  where
    by_cell : (o : Option Cell) → cell_at s k ≡ o → ⊥
    by_cell None was = let clash : None ≡ Some x = sym (ap value_in was) ∙ at in cc clash
    by_cell (Some c) was =
        let same : Some (val_of c.value) ≡ Some x = sym (ap value_in was) ∙ at in
        let value : val_of c.value ≡ x = cc same in
        let here : c.mark ≡ n = marks.marked k c was ∙ ap mark value ∙ number in
        let empty : count k (keys c.mark) ≡ 0 = ap (λ m. count k (keys m)) here ∙ ap (count k) none in
        absurd (omega (arith, empty, marks.there k c was))

-- WHERE A VALUE IS FOUND

-- what the look-up answers is where the value is
pub found_by : (keys : ℕ → List ℕ) (s now : Cells) → s ≡ now → (indexed : IsIndexed keys s) → (x : Val) (k : ℕ) → value_at now k ≡ Some x → indexed.find x ≡ Some k
found_by keys s now same indexed x k is = found_at indexed.find s indexed.pool.agrees k x (ap (λ n. value_at n k) same ∙ is)

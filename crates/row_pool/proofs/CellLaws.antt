-- What is counted, and what each id names, where one cell becomes another.
use Rattle.std.specs.Prelude.{◌≡◌, ◌⊎◌, ℕ, zero, suc, ◌+◌, ◌*◌, ◌<◌, ◌≤◌, ◌^◌, length, is_some, cond, List, [], ◌∷◌, map, Option, Some, None, refl}
use Rattle.std.proofs.Common.{sym, ap, ◌∙◌, subst, inl, inr, arith}
use Rattle.std.proofs.lemmas.List.Recursion.{is_count_by}
use Rattle.std.proofs.lemmas.Bool.{cases_eq}
use Rattle.da_values.specs.Value.{val_of}
use Rattle.da_values.specs.declared.val.Val.{Val}
use Rattle.row_pool.specs.declared.cell.Cell.{Cell}
use Rattle.row_pool.proofs.CountLaws.{count_self, count_other, count_more, count_most}
use Rattle.row_pool.specs.Cells.{Cells, cell_at, value_in, holders_in, parts_in, value_at, holders_at, count, inside, outside, live_in, children, Becomes, Agrees, IsBalanced, AllHeld, IsPool}

-- the cells after the first
tail : Cells → Cells
tail [] = []
tail (c ∷ cs) = cs

inside_step : (s : Cells) (j : ℕ) → inside s j ≡ count j (parts_in (cell_at s 0)) + inside (tail s) j
unfolding tail
inside_step [] j = refl
inside_step (c ∷ cs) j = refl

tail_at : (s : Cells) (k : ℕ) → cell_at (tail s) k ≡ cell_at s (suc k)
unfolding tail
tail_at [] k = refl
tail_at (c ∷ cs) k = refl

-- no cell, no holder inside; and the same cells, the same holders
inside_none : (s : Cells) → ((k : ℕ) → cell_at s k ≡ None) → (j : ℕ) → inside s j ≡ 0
inside_none [] h j = refl
inside_none (c ∷ cs) h j = let e : c ≡ None = h zero in let r : inside cs j ≡ 0 = inside_none cs (λ k. h (suc k)) j in rw (e, r) refl

inside_same : (s t : Cells) → ((k : ℕ) → cell_at t k ≡ cell_at s k) → (j : ℕ) → inside t j ≡ inside s j
inside_same [] t h j = inside_none t h j
inside_same (c ∷ cs) [] h j = sym (inside_none (c ∷ cs) (λ k. sym (h k)) j)
inside_same (c ∷ cs) (d ∷ ds) h j = let e : d ≡ c = h zero in let r : inside ds j ≡ inside cs j = inside_same cs ds (λ k. h (suc k)) j in rw (e, r) refl

-- the parts of the old cell hold no more, and those of the new one do
pub inside_becomes : (s t : Cells) (i : ℕ) (slot : Option Cell) → Becomes s t i slot → (j : ℕ) → inside t j + count j (parts_in (cell_at s i)) ≡ inside s j + count j (parts_in slot)
inside_becomes s t zero slot p j =
    let same : inside (tail t) j ≡ inside (tail s) j = inside_same (tail s) (tail t) (λ k. tail_at t k ∙ p.others (suc k) (λ e. absurd (omega (arith, e))) ∙ sym (tail_at s k)) j in
    let changed : count j (parts_in (cell_at t 0)) ≡ count j (parts_in slot) = ap (λ c. count j (parts_in c)) p.changed in
    omega (arith, inside_step s j, inside_step t j, same, changed)
inside_becomes s t (suc i) slot p j =
    let deeper : Becomes (tail s) (tail t) i slot = record { changed = tail_at t i ∙ p.changed; others = λ k ne. tail_at t k ∙ p.others (suc k) (λ e. ne (omega (arith, e))) ∙ sym (tail_at s k) } in
    let h = inside_becomes (tail s) (tail t) i slot deeper j in
    let first : count j (parts_in (cell_at t 0)) ≡ count j (parts_in (cell_at s 0)) = ap (λ c. count j (parts_in c)) (p.others 0 (λ e. absurd (omega (arith, e)))) in
    let here : count j (parts_in (cell_at (tail s) i)) ≡ count j (parts_in (cell_at s (suc i))) = ap (λ c. count j (parts_in c)) (tail_at s i) in
    omega (arith, inside_step s j, inside_step t j, h, first, here)

-- a part is held inside
pub part_counted : (s : Cells) (k : ℕ) (c : Cell) → cell_at s k ≡ Some c → (j : ℕ) → count j c.parts ≤ inside s j
part_counted s zero c is j = let e : count j (parts_in (cell_at s 0)) ≡ count j c.parts = ap (λ c. count j (parts_in c)) is in omega (arith, inside_step s j, e)
part_counted s (suc k) c is j = omega (arith, inside_step s j, part_counted (tail s) k c (tail_at s k ∙ is) j)

-- what the ids of a list name
module _ (f g : ℕ → Option Val) where
  pub map_same : (ps : List ℕ) → ((k : ℕ) → g k ≡ f k) → map g ps ≡ map f ps
  map_same [] same = refl
  map_same (p ∷ ps) same = rw (same p, map_same ps same) refl

  pub map_but : (i : ℕ) (ps : List ℕ) → count i ps ≡ 0 → ((k : ℕ) → (k ≡ i → ⊥) → g k ≡ f k) → map g ps ≡ map f ps
  map_but i [] none same = refl
  map_but i (p ∷ ps) none same =
      let e : g p ≡ f p = same p (λ e. absurd (omega (arith, none, count_more i p ps, count_self i, ap (λ n. count i (n ∷ [])) e))) in
      let r : map g ps ≡ map f ps = map_but i ps (omega (arith, none, count_more i p ps)) same in
      rw (e, r) refl

  pub map_kept : (ps : List ℕ) (xs : List Val) → map f ps ≡ map Some xs → ((k : ℕ) (x : Val) → f k ≡ Some x → g k ≡ Some x) → map g ps ≡ map Some xs
  map_kept [] [] is kept = refl
  map_kept [] (x ∷ xs) is kept = absurd (cc)
  map_kept (p ∷ ps) [] is kept = absurd (cc)
  map_kept (p ∷ ps) (x ∷ xs) is kept =
      let e : g p ≡ Some x = kept p x (cc) in
      let r : map g ps ≡ map Some xs = map_kept ps xs (cc) kept in
      rw (e, r) refl

-- so many others is the number outside
pub outside_is : (s : Cells) (owed : ℕ → ℕ) → IsBalanced s owed → (k : ℕ) → outside s k ≡ owed k
outside_is s owed b k = omega (arith, b.counted k)

pub to_outside : (s : Cells) (owed : ℕ → ℕ) → IsBalanced s owed → IsBalanced s (outside s)
to_outside s owed b = record { counted = λ k. omega (arith, b.counted k) }

-- a cell whose value and parts stay, whatever becomes of its holders
module _ (find : Val → Option ℕ) (s t : Cells) (i : ℕ) (c d : Cell) (becomes : Becomes s t i (Some d)) (was : cell_at s i ≡ Some c) (value : d.value ≡ c.value) (parts : d.parts ≡ c.parts) where
  pub rehold_value : (k : ℕ) → value_at t k ≡ value_at s k
  rehold_value k = go (cases_eq k i)
    where
      go : (k ≡ i) ⊎ (k ≡ i → ⊥) → value_at t k ≡ value_at s k
      go (inl e) = rw (e, becomes.changed, was, value) refl
      go (inr ne) = ap value_in (becomes.others k ne)

  pub rehold_inside : (j : ℕ) → inside t j ≡ inside s j
  rehold_inside j =
      let a : count j (parts_in (cell_at s i)) ≡ count j c.parts = ap (λ c. count j (parts_in c)) was in
      let b : count j d.parts ≡ count j c.parts = ap (count j) parts in
      omega (arith, inside_becomes s t i (Some d) becomes j, a, b)

  pub was_there : (k : ℕ) (e : Cell) → cell_at t k ≡ Some e → (b : Cell) × (cell_at s k ≡ Some b) × (e.value ≡ b.value) × (e.parts ≡ b.parts)
  was_there k e is = go (cases_eq k i)
    where
      go : (k ≡ i) ⊎ (k ≡ i → ⊥) → (b : Cell) × (cell_at s k ≡ Some b) × (e.value ≡ b.value) × (e.parts ≡ b.parts)
      go (inl same) =
          let here : Some e ≡ Some d = sym is ∙ ap (cell_at t) same ∙ becomes.changed in
          let ed : e ≡ d = cc here in
          (c, ap (cell_at s) same ∙ was, ap (λ (x : Cell). x.value) ed ∙ value, ap (λ (x : Cell). x.parts) ed ∙ parts)
      go (inr ne) = (e, sym (becomes.others k ne) ∙ is, refl, refl)

  pub rehold_agrees : Agrees find s → Agrees find t
  rehold_agrees agrees = record {
    indexed = λ k e is. let (b, at, v, p) = was_there k e is in ap (λ v. find (val_of v)) v ∙ agrees.indexed k b at;
    found = λ x k is. rehold_value k ∙ agrees.found x k is;
    whole = λ k e is. let (b, at, v, p) = was_there k e is in ap (map (value_at t)) p ∙ map_same (value_at s) (value_at t) b.parts rehold_value ∙ agrees.whole k b at ∙ ap (λ v. map Some (children (val_of v))) (sym v);
    short = λ k e is. let (b, at, v, p) = was_there k e is in let n : length e.parts ≡ length b.parts = ap length p in omega (arith, n, agrees.short k b at);
  }

  pub rehold_held : 0 < d.holders → AllHeld s → AllHeld t
  rehold_held some all = record { held = λ k e is. go k e is (cases_eq k i) }
    where
      go : (k : ℕ) (e : Cell) → cell_at t k ≡ Some e → (k ≡ i) ⊎ (k ≡ i → ⊥) → 0 < e.holders
      go k e is (inl same) =
          let here : Some e ≡ Some d = sym is ∙ ap (cell_at t) same ∙ becomes.changed in
          let ed : d ≡ e = cc here in
          subst (λ (x : Cell). 0 < x.holders) ed some
      go k e is (inr ne) = all.held k e (sym (becomes.others k ne) ∙ is)

  pub rehold_holders : (k : ℕ) → (more less : ℕ) → d.holders + less ≡ c.holders + more → (k ≡ i) ⊎ (k ≡ i → ⊥) → holders_at t k + less * count k (i ∷ []) ≡ holders_at s k + more * count k (i ∷ [])
  rehold_holders k more less sums (inl e) =
      let a : holders_at t k ≡ d.holders = ap (holders_at t) e ∙ ap holders_in becomes.changed in
      let b : holders_at s k ≡ c.holders = ap (holders_at s) e ∙ ap holders_in was in
      let one : count k (i ∷ []) ≡ 1 = ap (λ n. count k (n ∷ [])) (sym e) ∙ count_self k in
      rw (a, b, one) (omega (arith, sums))
  rehold_holders k more less sums (inr ne) =
      let a : holders_at t k ≡ holders_at s k = ap holders_in (becomes.others k ne) in
      let none : count k (i ∷ []) ≡ 0 = count_other k i ne in
      rw (a, none) (omega arith)

-- the holders inside are at most the cells times the longest list of parts, so they and 2^126 others can be counted
-- how many cells there are, by recursion
unfoldable pub alive : Cells → ℕ
alive [] = 0
alive (c ∷ cs) = cond (is_some c) (1 + alive cs) (alive cs)

pub alive_is : (s : Cells) → alive s ≡ live_in s
unfolding alive
alive_is s = is_count_by alive is_some refl (λ x xs. refl) s

suc_times : (n m : ℕ) → (1 + n) * m ≡ m + n * m
suc_times n m = grind arith

inside_most : (s : Cells) (m : ℕ) → ((j : ℕ) (c : Cell) → cell_at s j ≡ Some c → length c.parts ≤ m) → (k : ℕ) → inside s k ≤ alive s * m
unfolding alive
inside_most [] m short k = omega arith
inside_most (None ∷ cs) m short k = omega (arith, inside_most cs m (λ j. short (suc j)) k)
inside_most (Some c ∷ cs) m short k = let step : (1 + alive cs) * m ≡ m + alive cs * m = suc_times (alive cs) m in omega (arith, step, inside_most cs m (λ j. short (suc j)) k, count_most k c.parts, short 0 c refl)

pub holders_most : (find : Val → Option ℕ) (s now : Cells) (key id : ℕ) → s ≡ now → key ≡ id → IsPool find s → (n : ℕ) → n ≡ live_in s → n < 2 ^ 64 → outside now id < 2 ^ 126 → holders_at s key < 2 ^ 127
holders_most find s now key id same is pool n count live few =
    let here : outside s key < 2 ^ 126 = rw (same, is) few in
    let most : inside s key ≤ alive s * 2 ^ 62 = inside_most s (2 ^ 62) (λ j c at. omega (arith, pool.agrees.short j c at)) key in
    omega (arith, most, alive_is s, count, live, pool.balanced.counted key, here)

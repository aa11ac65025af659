-- A cell that is written where it stands.
use Rattle.std.specs.Prelude.{◌≡◌, ℕ, zero, suc, ◌+◌, ◌-◌, ◌<◌, ◌≤◌, List, [], ◌∷◌, insert, length, remove, slice_set, Option, Some, None, Result, Ok, Err, IfOk, OnErr, OnOk, IsSome, refl}
use Rattle.std.proofs.Common.{sym, ap, ◌∙◌, subst, arith}
use Rattle.da_values.specs.declared.val.Val.{Val}
use Rattle.da_values.specs.declared.value.Value.{Value}
use Rattle.slab.specs.Slab.{Slab, Updates}
use Rattle.row_pool.specs.declared.cell.Cell.{Cell}
use Rattle.row_pool.specs.Cells.{Becomes, Cells, cell_at, value_in, value_at}
use Rattle.da_values.specs.Sets.{Has}
use Rattle.row_pool.specs.Index.{AreMarked, Comes}
use Rattle.row_pool.specs.Release.{LosesHolder}
use Rattle.row_pool.specs.Sets.{Grows, PutsIn, Shrinks, TakesOut}
use Rattle.row_pool.proofs.CellLaws.{alive}
use Rattle.row_pool.proofs.MarkLaws.{rehold_marked}
use Rattle.row_pool.proofs.NumberLaws.{still_has}

-- what a slab's clause says, of the cells alone
pub becomes_by : (m n : Slab Cell) (key : ℕ) (o : Option Cell) → Updates m n key o → Becomes m.slots n.slots key o
becomes_by m n key o updates = record { changed = updates.changed; others = updates.others }

at_put : (s : Cells) (k : ℕ) (o : Option Cell) (c : Cell) → cell_at s k ≡ Some c → cell_at (slice_set s k o) k ≡ o
at_put [] k o c at = absurd (cc at)
at_put (x ∷ s) zero o c at = refl
at_put (x ∷ s) (suc k) o c at = at_put s k o c at

beside_put : (s : Cells) (k : ℕ) (o : Option Cell) (j : ℕ) → (j ≡ k → ⊥) → cell_at (slice_set s k o) j ≡ cell_at s j
beside_put [] k o j ne = refl
beside_put (x ∷ s) zero o zero ne = absurd (ne refl)
beside_put (x ∷ s) zero o (suc j) ne = refl
beside_put (x ∷ s) (suc k) o zero ne = refl
beside_put (x ∷ s) (suc k) o (suc j) ne = beside_put s k o j (λ same. ne (ap suc same))

put_same : (s : Cells) (k : ℕ) (c : Cell) → cell_at s k ≡ Some c → slice_set s k (Some c) ≡ s
put_same [] k c at = refl
put_same (x ∷ s) zero c at = ap (λ (o : Option Cell). o ∷ s) (sym at)
put_same (x ∷ s) (suc k) c at = ap (λ (t : Cells). x ∷ t) (put_same s k c at)

alive_put : (s : Cells) (k : ℕ) (c d : Cell) → cell_at s k ≡ Some c → alive (slice_set s k (Some d)) ≡ alive s
unfolding alive
alive_put [] k c d at = refl
alive_put (None ∷ s) zero c d at = absurd (cc at)
alive_put (Some e ∷ s) zero c d at = refl
alive_put (None ∷ s) (suc k) c d at = alive_put s k c d at
alive_put (Some e ∷ s) (suc k) c d at = ap (λ (n : ℕ). 1 + n) (alive_put s k c d at)

-- The cell under a key is another one, and nothing else changed.
module _ (s : Cells) (key : ℕ) (cell new : Cell) (at : cell_at s key ≡ Some cell) where
  pub put_becomes : Becomes s (slice_set s key (Some new)) key (Some new)
  put_becomes = record { changed = at_put s key (Some new) cell at; others = λ j ne. beside_put s key (Some new) j ne }

  pub as_many : alive (slice_set s key (Some new)) ≡ alive s
  as_many = alive_put s key cell new at

  pub put_nothing : new ≡ cell → slice_set s key (Some new) ≡ s
  put_nothing same = ap (λ (c : Cell). slice_set s key (Some c)) same ∙ put_same s key cell at

  is_it : (c : Cell) → cell_at s key ≡ Some c → cell ≡ c
  is_it c was = let both : Some cell ≡ Some c = sym at ∙ was in cc both

  pub put_marked : (keys : ℕ → List ℕ) → new.value ≡ cell.value → new.mark ≡ cell.mark → AreMarked keys s → AreMarked keys (slice_set s key (Some new))
  put_marked keys value number marks = rehold_marked keys s (slice_set s key (Some new)) key cell new put_becomes at value number marks

  -- One holder fewer.
  pub loses_by : (first r : Option ℕ) → (cell.holders ≡ 1 → (new ≡ record cell { holders = 0; next = first }) × (r ≡ Some key)) → (1 < cell.holders → (new ≡ record cell { holders = cell.holders - 1 }) × (r ≡ first))
      → LosesHolder s first key (slice_set s key (Some new)) r
  loses_by first r last more = record {
    last = λ c was one.
        let same : cell ≡ c = is_it c was in
        let both = last (ap (λ (x : Cell). x.holders) same ∙ one) in
        let new_is : new ≡ record c { holders = 0; next = first } = both.0 ∙ ap (λ (x : Cell). record x { holders = 0; next = first }) same in
        (subst (λ (d : Cell). Becomes s (slice_set s key (Some new)) key (Some d)) new_is put_becomes, both.1);
    more = λ c was many.
        let same : cell ≡ c = is_it c was in
        let both = more (subst (λ (x : Cell). 1 < x.holders) (sym same) many) in
        let new_is : new ≡ record c { holders = c.holders - 1 } = both.0 ∙ ap (λ (x : Cell). record x { holders = x.holders - 1 }) same in
        (subst (λ (d : Cell). Becomes s (slice_set s key (Some new)) key (Some d)) new_is put_becomes, both.1);
  }

  -- An element more, and an element fewer.
  pub takes_out : (at_place : ℕ) (x : Val) (n was part : ℕ) → was ≡ cell.mark → Shrinks cell new at_place x n part → (c : Cell) → cell_at s key ≡ Some c → TakesOut s (slice_set s key (Some new)) key c at_place x n was part
  takes_out at_place x n was part number shrinks c there = record {
    cell = new;
    becomes = put_becomes;
    shrinks = subst (λ (d : Cell). Shrinks d new at_place x n part) (is_it c there) shrinks;
    old = number ∙ ap (λ (d : Cell). d.mark) (is_it c there);
  }

  pub puts_in : {E : Type 0} (at_place : ℕ) (x : Val) (part n : ℕ) (r : Result ℕ E) → OnOk r (Grows cell new at_place x part n) → IfOk r (λ was. was ≡ cell.mark)
      → IfOk r (λ was. (c : Cell) → cell_at s key ≡ Some c → PutsIn s (slice_set s key (Some new)) key c at_place x part n was)
  puts_in at_place x part n (Ok was) grows number = λ c there. record {
    cell = new;
    becomes = put_becomes;
    grows = subst (λ (d : Cell). Grows d new at_place x part n) (is_it c there) grows;
    old = number ∙ ap (λ (d : Cell). d.mark) (is_it c there);
  }
  puts_in at_place x part n (Err e) grows number = tt

-- A CELL AS IT WAS

pub at_err : {T E : Type 0} (r : Result T E) (P : Type 0) → P → OnErr r P
at_err (Ok x) P p = tt
at_err (Err e) P p = p

pub at_ok : {T E : Type 0} (r : Result T E) (P : Type 0) → P → OnOk r P
at_ok (Ok x) P p = p
at_ok (Err e) P p = tt

pub not_ok : {T E : Type 0} (r : Result T E) (P : Type 0) (e : E) → r ≡ Err e → OnOk r P
not_ok r P e is = subst (λ z. OnOk z P) (sym is) tt

pub not_err : {T E : Type 0} (r : Result T E) (P : Type 0) (x : T) → r ≡ Ok x → OnErr r P
not_err r P x is = subst (λ z. OnErr z P) (sym is) tt

pub if_ok : {T E : Type 0} (r : Result T E) (P : T → Type 0) (x : T) → r ≡ Ok x → P x → IfOk r P
if_ok r P x is p = subst (λ z. IfOk z P) (sym is) p

pub if_not_ok : {T E : Type 0} (r : Result T E) (P : T → Type 0) (e : E) → r ≡ Err e → IfOk r P
if_not_ok r P e is = subst (λ z. IfOk z P) (sym is) tt

pub same_cell : (c : Cell) (parts : List ℕ) (value : Value) → parts ≡ c.parts → value ≡ c.value → record c { parts = parts; value = value } ≡ c
same_cell c parts value same_parts same_value =
    ap (λ (ps : List ℕ). record c { parts = ps; value = value }) same_parts ∙ ap (λ (v : Value). record c { value = v }) same_value

-- PARTS THAT COME IN AND GO OUT

pub remove_insert : (xs : List ℕ) (at p : ℕ) → at ≤ length xs → remove (insert xs at p) at ≡ xs
remove_insert xs zero p within = refl
remove_insert [] (suc at) p within = absurd (omega (arith, within))
remove_insert (x ∷ xs) (suc at) p within = ap (λ (zs : List ℕ). x ∷ zs) (remove_insert xs at p (omega (arith, within)))

-- A cell that has a value is there.
pub there_by : (s : Cells) (k : ℕ) (o : Option Cell) → cell_at s k ≡ o → IsSome (value_in o) → (c : Cell) × (cell_at s k ≡ Some c)
there_by s k None at some = absurd (cc)
there_by s k (Some c) at some = (c, at)

-- The id of a cell is under the number that it had, where it came under another one too.
pub left_under : (keys between : ℕ → List ℕ) (s : Cells) (number key was : ℕ) → IsSome (value_at s key) → ((c : Cell) → cell_at s key ≡ Some c → Has (keys c.mark) key) → Comes keys between number key
    → ((c : Cell) → cell_at s key ≡ Some c → was ≡ c.mark) → Has (between was) key
left_under keys between s number key was used there comes its =
    let (c, at) = there_by s key (cell_at s key) refl used in
    subst (λ (n : ℕ). Has (between n) key) (sym (its c at)) (still_has keys between number key c.mark key comes (there c at))

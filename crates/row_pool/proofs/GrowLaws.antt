-- A set that gets an element where it stands, or loses one.
use Rattle.std.specs.Prelude.{◌≡◌, ℕ, zero, suc, ◌+◌, ◌<◌, ◌≤◌, ◌^◌, true, length, List, [], ◌∷◌, insert, map, remove, Option, Some, IsSome, is_some, refl}
use Rattle.std.proofs.Common.{sym, ap, ◌∙◌, subst, arith}
use Rattle.da_values.specs.Order.{val_cmp}
use Rattle.da_values.specs.Sets.{set_insert, set_remove}
use Rattle.da_values.specs.Value.{val_of}
use Rattle.da_values.specs.Views.{elements_of}
use Rattle.da_values.specs.declared.val.Val.{Val}
use Rattle.da_values.specs.declared.val.Val.TheVariants as val
use Rattle.row_pool.specs.declared.cell.Cell.{Cell}
use Rattle.row_pool.specs.Cells.{Cells, IsPool, cell_at, children, count, holders_in, value_at, value_in}
use Rattle.row_pool.specs.Index.{AreMarked, Comes, Goes, IsIndexed}
use Rattle.row_pool.specs.Marks.{mark}
use Rattle.row_pool.specs.Pool.{Trades, val_at}
use Rattle.row_pool.specs.Sets.{CanGrow, CanShrink, Grows, GrowsTo, Moves, PutsIn, ShrinksTo, TakesOut, is_set, set_with, set_without}
use Rattle.row_pool.proofs.CellLaws.{part_counted}
use Rattle.row_pool.proofs.ChangeLaws.{changed_pool, changed_trades, changed_value, found_for}
use Rattle.row_pool.proofs.ChildLaws.{children_Set}
use Rattle.row_pool.proofs.CountLaws.{count_more, count_other, count_remove, count_self}
use Rattle.row_pool.proofs.KindLaws.{filled_set, named_set, set_is}
use Rattle.row_pool.proofs.MarkLaws.{free_under, moved_marked}

-- PARTS WITH ONE MORE, AND WITH ONE FEWER

as_long : (f : ℕ → Option Val) (ps : List ℕ) (xs : List Val) → map f ps ≡ map Some xs → length ps ≡ length xs
as_long f [] [] is = refl
as_long f [] (x ∷ xs) is = absurd (cc is)
as_long f (p ∷ ps) [] is = absurd (cc is)
as_long f (p ∷ ps) (x ∷ xs) is = let rest : map f ps ≡ map Some xs = cc is in omega (arith, as_long f ps xs rest)

map_insert : (f : ℕ → Option Val) (ps : List ℕ) (xs : List Val) (at p : ℕ) (x : Val) → map f ps ≡ map Some xs → f p ≡ Some x → map f (insert ps at p) ≡ map Some (insert xs at x)
map_insert f ps xs zero p x is here = ap (λ (z : Option Val). z ∷ map f ps) here ∙ ap (λ (zs : List (Option Val)). Some x ∷ zs) is
map_insert f [] [] (suc at) p x is here = ap (λ (z : Option Val). z ∷ []) here
map_insert f [] (y ∷ ys) (suc at) p x is here = absurd (cc is)
map_insert f (q ∷ qs) [] (suc at) p x is here = absurd (cc is)
map_insert f (q ∷ qs) (y ∷ ys) (suc at) p x is here =
    let first : f q ≡ Some y = cc is in
    let rest : map f qs ≡ map Some ys = cc is in
    ap (λ (z : Option Val). z ∷ map f (insert qs at p)) first ∙ ap (λ (zs : List (Option Val)). Some y ∷ zs) (map_insert f qs ys at p x rest here)

map_remove : (f : ℕ → Option Val) (ps : List ℕ) (xs : List Val) (at : ℕ) → map f ps ≡ map Some xs → map f (remove ps at) ≡ map Some (remove xs at)
map_remove f [] [] zero is = refl
map_remove f [] [] (suc at) is = refl
map_remove f [] (y ∷ ys) at is = absurd (cc is)
map_remove f (q ∷ qs) [] at is = absurd (cc is)
map_remove f (q ∷ qs) (y ∷ ys) zero is = let rest : map f qs ≡ map Some ys = cc is in rest
map_remove f (q ∷ qs) (y ∷ ys) (suc at) is =
    let first : f q ≡ Some y = cc is in
    let rest : map f qs ≡ map Some ys = cc is in
    ap (λ (z : Option Val). z ∷ map f (remove qs at)) first ∙ ap (λ (zs : List (Option Val)). Some y ∷ zs) (map_remove f qs ys at rest)

count_insert : (ps : List ℕ) (at p j : ℕ) → count j (insert ps at p) ≡ count j ps + count j (p ∷ [])
count_insert ps zero p j = omega (arith, count_more j p ps)
count_insert [] (suc at) p j = omega arith
count_insert (q ∷ qs) (suc at) p j = omega (arith, count_more j q (insert qs at p), count_more j q qs, count_insert qs at p j)

length_remove : (ps : List ℕ) (at : ℕ) → length (remove ps at) ≤ length ps
length_remove [] zero = omega arith
length_remove [] (suc at) = omega arith
length_remove (q ∷ qs) zero = omega arith
length_remove (q ∷ qs) (suc at) = omega (arith, length_remove qs at)

-- The parts of a cell with a set name its elements.
set_parts : (find : Val → Option ℕ) (s : Cells) (k : ℕ) (c : Cell) → IsPool find s → cell_at s k ≡ Some c → val_of c.value ≡ val_at s k → is_set (val_at s k) ≡ true → map (value_at s) c.parts ≡ map Some (elements_of (val_at s k))
set_parts find s k c pool was value set =
    pool.agrees.whole k c was ∙ ap (λ (v : Val). map Some (children v)) (value ∙ set_is (val_at s k) set) ∙ ap (map Some) (children_Set (elements_of (val_at s k)))

-- AN ELEMENT MORE

module _ (keys new : ℕ → List ℕ) (s t : Cells) (k part at n : ℕ) (x : Val) (indexed : IsIndexed keys s) (can : CanGrow s k part at x n) (c : Cell) (was : cell_at s k ≡ Some c) (value : val_of c.value ≡ val_at s k) (to : GrowsTo keys new s t k c at x part n) where
  grown_is : val_of to.cell.value ≡ set_with s k x
  grown_is = to.grows.value ∙ ap (λ (v : Val). val.Set (set_insert val_cmp (elements_of v) x)) value

  grown_children : children (val_of to.cell.value) ≡ set_insert val_cmp (elements_of (val_at s k)) x
  grown_children = ap children grown_is ∙ children_Set (set_insert val_cmp (elements_of (val_at s k)) x)

  grown_named : map (value_at s) to.cell.parts ≡ map Some (children (val_of to.cell.value))
  grown_named =
      ap (map (value_at s)) to.grows.parts
      ∙ map_insert (value_at s) c.parts (elements_of (val_at s k)) at part x (set_parts indexed.find s k c indexed.pool was value can.set) can.named
      ∙ ap (map Some) (sym can.between.inserted ∙ sym grown_children)

  -- the element is no part of the set yet, and is not the set
  apart : k ≡ part → ⊥
  apart same =
      let twice : count k (part ∷ []) ≡ 1 = ap (λ (j : ℕ). count k (j ∷ [])) (sym same) ∙ count_self k in
      absurd (omega (arith, twice, can.held.held k, count_more k k (part ∷ []), count_self k, can.one, indexed.pool.balanced.counted k))

  grown_count : (j : ℕ) → count j to.cell.parts ≡ count j c.parts + count j (part ∷ [])
  grown_count j = ap (count j) to.grows.parts ∙ count_insert c.parts at part j

  grown_apart : count k to.cell.parts ≡ 0
  grown_apart = omega (arith, grown_count k, count_other k part apart, part_counted s k c was k, can.held.held k, count_more k k (part ∷ []), count_self k, can.one, indexed.pool.balanced.counted k)

  grown_absent : (j : ℕ) → value_at s j ≡ Some (val_of to.cell.value) → ⊥
  grown_absent j is = can.free j (val_of to.cell.value) is (ap mark grown_is ∙ sym can.number)

  grown_one : c.holders ≡ 1
  grown_one = sym (ap holders_in was) ∙ can.one

  grown_mine : 0 < count k (k ∷ part ∷ [])
  grown_mine = omega (arith, count_more k k (part ∷ []), count_self k)

  grown_moved : (j : ℕ) → count j c.parts + count j (k ∷ part ∷ []) ≡ count j to.cell.parts + count j (k ∷ [])
  grown_moved j = omega (arith, grown_count j, count_more j k (part ∷ []))

  grown_marks : AreMarked new t
  grown_marks =
      moved_marked keys new s t k c to.cell to.becomes was (subst (λ (m : ℕ). Moves keys new c.mark m k) (sym to.grows.number) to.moves)
      (ap keys to.grows.number ∙ free_under keys s n indexed.marks can.free) (to.grows.number ∙ can.number ∙ ap mark (sym grown_is)) indexed.marks

  pub grown : IsIndexed new t × Trades s (k ∷ part ∷ []) t (k ∷ []) × (value_at t k ≡ Some (set_with s k x))
  grown = (
    record {
      find = found_for indexed.find (val_of c.value) (val_of to.cell.value) k;
      pool = changed_pool indexed.find s t k c to.cell (k ∷ part ∷ []) (k ∷ []) to.becomes was indexed.pool can.held grown_mine grown_one to.grows.holders to.grows.few grown_absent grown_named grown_apart grown_moved;
      marks = grown_marks;
    },
    changed_trades indexed.find s t k c to.cell (k ∷ part ∷ []) (k ∷ []) to.becomes was indexed.pool can.held grown_mine grown_one to.grows.holders to.grows.few grown_absent grown_named grown_apart grown_moved,
    changed_value indexed.find s t k c to.cell (k ∷ part ∷ []) (k ∷ []) to.becomes was indexed.pool can.held grown_mine grown_one to.grows.holders to.grows.few grown_absent grown_named grown_apart grown_moved ∙ ap Some grown_is,
  )

-- AN ELEMENT FEWER

module _ (keys new : ℕ → List ℕ) (s t : Cells) (k at n : ℕ) (x : Val) (indexed : IsIndexed keys s) (can : CanShrink s k at x n) (c : Cell) (was : cell_at s k ≡ Some c) (value : val_of c.value ≡ val_at s k) (part : ℕ) (to : ShrinksTo keys new s t k c at x n part) where
  a_set : is_set (val_at s k) ≡ true
  a_set = filled_set (val_at s k) x can.place.there

  shrunk_is : val_of to.cell.value ≡ set_without s k x
  shrunk_is = to.shrinks.value ∙ ap (λ (v : Val). val.Set (set_remove val_cmp (elements_of v) x)) value

  shrunk_children : children (val_of to.cell.value) ≡ set_remove val_cmp (elements_of (val_at s k)) x
  shrunk_children = ap children shrunk_is ∙ children_Set (set_remove val_cmp (elements_of (val_at s k)) x)

  shrunk_named : map (value_at s) to.cell.parts ≡ map Some (children (val_of to.cell.value))
  shrunk_named =
      ap (map (value_at s)) to.shrinks.parts
      ∙ map_remove (value_at s) c.parts (elements_of (val_at s k)) at (set_parts indexed.find s k c indexed.pool was value a_set)
      ∙ ap (map Some) (sym can.place.removed ∙ sym shrunk_children)

  shrunk_count : (j : ℕ) → count j to.cell.parts + count j (part ∷ []) ≡ count j c.parts
  shrunk_count j =
      let same : count j to.cell.parts ≡ count j (remove c.parts at) = ap (count j) to.shrinks.parts in
      omega (arith, same, count_remove c.parts at part to.shrinks.there j)

  shrunk_few : length to.cell.parts < 2 ^ 62
  shrunk_few =
      let same : length to.cell.parts ≡ length (remove c.parts at) = ap length to.shrinks.parts in
      omega (arith, same, length_remove c.parts at, indexed.pool.agrees.short k c was)

  shrunk_apart : count k to.cell.parts ≡ 0
  shrunk_apart = omega (arith, shrunk_count k, part_counted s k c was k, can.held.held k, count_self k, can.one, indexed.pool.balanced.counted k)

  shrunk_absent : (j : ℕ) → value_at s j ≡ Some (val_of to.cell.value) → ⊥
  shrunk_absent j is = can.free j (val_of to.cell.value) is (ap mark shrunk_is ∙ sym can.number)

  shrunk_one : c.holders ≡ 1
  shrunk_one = sym (ap holders_in was) ∙ can.one

  shrunk_mine : 0 < count k (k ∷ [])
  shrunk_mine = omega (arith, count_self k)

  shrunk_moved : (j : ℕ) → count j c.parts + count j (k ∷ []) ≡ count j to.cell.parts + count j (part ∷ k ∷ [])
  shrunk_moved j = omega (arith, shrunk_count j, count_more j part (k ∷ []))

  shrunk_marks : AreMarked new t
  shrunk_marks =
      moved_marked keys new s t k c to.cell to.becomes was (subst (λ (m : ℕ). Moves keys new c.mark m k) (sym to.shrinks.number) to.moves)
      (ap keys to.shrinks.number ∙ free_under keys s n indexed.marks can.free) (to.shrinks.number ∙ can.number ∙ ap mark (sym shrunk_is)) indexed.marks

  pub shrunk : IsIndexed new t × Trades s (k ∷ []) t (part ∷ k ∷ []) × (value_at t k ≡ Some (set_without s k x))
  shrunk = (
    record {
      find = found_for indexed.find (val_of c.value) (val_of to.cell.value) k;
      pool = changed_pool indexed.find s t k c to.cell (k ∷ []) (part ∷ k ∷ []) to.becomes was indexed.pool can.held shrunk_mine shrunk_one to.shrinks.holders shrunk_few shrunk_absent shrunk_named shrunk_apart shrunk_moved;
      marks = shrunk_marks;
    },
    changed_trades indexed.find s t k c to.cell (k ∷ []) (part ∷ k ∷ []) to.becomes was indexed.pool can.held shrunk_mine shrunk_one to.shrinks.holders shrunk_few shrunk_absent shrunk_named shrunk_apart shrunk_moved,
    changed_value indexed.find s t k c to.cell (k ∷ []) (part ∷ k ∷ []) to.becomes was indexed.pool can.held shrunk_mine shrunk_one to.shrinks.holders shrunk_few shrunk_absent shrunk_named shrunk_apart shrunk_moved ∙ ap Some shrunk_is,
  )

-- WHAT THE CODE DOES TO THE CELL AND TO THE INDEX

pub grows_to : (keys between new : ℕ → List ℕ) (s t : Cells) (key : ℕ) (c : Cell) (at : ℕ) (y x : Val) (part n was : ℕ) → y ≡ x → Comes keys between n key → PutsIn s t key c at y part n was → Goes between new was key
    → GrowsTo keys new s t key c at x part n
grows_to keys between new s t key c at y x part n was same comes puts goes = record {
  cell = puts.cell;
  becomes = puts.becomes;
  grows = subst (λ (z : Val). Grows c puts.cell at z part n) same puts.grows;
  moves = record { between = between; comes = comes; goes = subst (λ (m : ℕ). Goes between new m key) puts.old goes };
}

pub shrinks_to : (keys between new : ℕ → List ℕ) (s t : Cells) (key : ℕ) (c : Cell) (at : ℕ) (x : Val) (n was part : ℕ) → Comes keys between n key → TakesOut s t key c at x n was part → Goes between new was key
    → ShrinksTo keys new s t key c at x n part
shrinks_to keys between new s t key c at x n was part comes takes goes = record {
  cell = takes.cell;
  becomes = takes.becomes;
  shrinks = takes.shrinks;
  moves = record { between = between; comes = comes; goes = subst (λ (m : ℕ). Goes between new m key) takes.old goes };
}

-- THE SAME WITH THE POOL AND THE IDS AS CONTRACTS SEE THEM

pub can_grow : (s now : Cells) (key id part el at n : ℕ) (x : Val) → s ≡ now → key ≡ id → part ≡ el → CanGrow now id el at x n → CanGrow s key part at x n
can_grow s now key id part el at n x same is named can =
    subst (λ (m : ℕ). CanGrow s key m at x n) (sym named) (subst (λ (m : ℕ). CanGrow s m el at x n) (sym is) (subst (λ (a : Cells). CanGrow a id el at x n) (sym same) can))

pub can_shrink : (s now : Cells) (key id at n : ℕ) (x : Val) → s ≡ now → key ≡ id → CanShrink now id at x n → CanShrink s key at x n
can_shrink s now key id at n x same is can = subst (λ (m : ℕ). CanShrink s m at x n) (sym is) (subst (λ (a : Cells). CanShrink a id at x n) (sym same) can)

-- what the code asks of the cell
pub grow_used : (s : Cells) (key part at n : ℕ) (x : Val) → CanGrow s key part at x n → IsSome (value_at s key)
grow_used s key part at n x can = let (c, was, value) = named_set s key (cell_at s key) refl can.set in ap is_some (ap value_in was)

pub shrink_set : (s : Cells) (key at n : ℕ) (x : Val) → CanShrink s key at x n → is_set (val_at s key) ≡ true
shrink_set s key at n x can = filled_set (val_at s key) x can.place.there

pub shrink_used : (s : Cells) (key at n : ℕ) (x : Val) → CanShrink s key at x n → IsSome (value_at s key)
shrink_used s key at n x can = let (c, was, value) = named_set s key (cell_at s key) refl (shrink_set s key at n x can) in ap is_some (ap value_in was)

one_value : (s : Cells) (key : ℕ) (c d : Cell) → cell_at s key ≡ Some c → cell_at s key ≡ Some d → val_of c.value ≡ val_at s key → val_of d.value ≡ val_at s key
one_value s key c d was there value =
    let both : Some c ≡ Some d = sym was ∙ there in
    let same : c ≡ d = cc both in
    sym (ap (λ (e : Cell). val_of e.value) same) ∙ value

pub grow_within : (keys : ℕ → List ℕ) (s : Cells) (key part at n : ℕ) (x : Val) → IsIndexed keys s → CanGrow s key part at x n → (c : Cell) → cell_at s key ≡ Some c → at ≤ length c.parts
grow_within keys s key part at n x indexed can c there =
    let (d, was, value) = named_set s key (cell_at s key) refl can.set in
    let parts = set_parts indexed.find s key c indexed.pool there (one_value s key d c was there value) can.set in
    omega (arith, can.between.within, as_long (value_at s) c.parts (elements_of (val_at s key)) parts)

pub shrink_within : (keys : ℕ → List ℕ) (s : Cells) (key at n : ℕ) (x : Val) → IsIndexed keys s → CanShrink s key at x n → (c : Cell) → cell_at s key ≡ Some c → at < length c.parts
shrink_within keys s key at n x indexed can c there =
    let (d, was, value) = named_set s key (cell_at s key) refl (shrink_set s key at n x can) in
    let parts = set_parts indexed.find s key c indexed.pool there (one_value s key d c was there value) (shrink_set s key at n x can) in
    omega (arith, can.place.within, as_long (value_at s) c.parts (elements_of (val_at s key)) parts)

pub grows : (keys new : ℕ → List ℕ) (s t now : Cells) (key id part el at n : ℕ) (x : Val) → s ≡ now → key ≡ id → part ≡ el → IsIndexed keys s → CanGrow now id el at x n → ((c : Cell) → cell_at s key ≡ Some c → GrowsTo keys new s t key c at x part n)
    → IsIndexed new t × Trades now (id ∷ el ∷ []) t (id ∷ []) × (value_at t id ≡ Some (set_with now id x))
grows keys new s t now key id part el at n x same is named indexed can to =
    let here : CanGrow s key part at x n = can_grow s now key id part el at n x same is named can in
    let (c, was, value) = named_set s key (cell_at s key) refl here.set in
    let all = grown keys new s t key part at n x indexed here c was value (to c was) in (
      all.0,
      subst (λ (m : ℕ). Trades now (id ∷ m ∷ []) t (id ∷ [])) named (subst (λ (m : ℕ). Trades now (m ∷ part ∷ []) t (m ∷ [])) is (subst (λ (a : Cells). Trades a (key ∷ part ∷ []) t (key ∷ [])) same all.1)),
      subst (λ (m : ℕ). value_at t m ≡ Some (set_with now m x)) is (subst (λ (a : Cells). value_at t key ≡ Some (set_with a key x)) same all.2),
    )

pub shrinks : (keys new : ℕ → List ℕ) (s t now : Cells) (key id part at n : ℕ) (x : Val) → s ≡ now → key ≡ id → IsIndexed keys s → CanShrink now id at x n → ((c : Cell) → cell_at s key ≡ Some c → ShrinksTo keys new s t key c at x n part)
    → IsIndexed new t × Trades now (id ∷ []) t (part ∷ id ∷ []) × (value_at t id ≡ Some (set_without now id x))
shrinks keys new s t now key id part at n x same is indexed can to =
    let here : CanShrink s key at x n = can_shrink s now key id at n x same is can in
    let (c, was, value) = named_set s key (cell_at s key) refl (shrink_set s key at n x here) in
    let all = shrunk keys new s t key at n x indexed here c was value part (to c was) in (
      all.0,
      subst (λ (m : ℕ). Trades now (m ∷ []) t (part ∷ m ∷ [])) is (subst (λ (a : Cells). Trades a (key ∷ []) t (part ∷ key ∷ [])) same all.1),
      subst (λ (m : ℕ). value_at t m ≡ Some (set_without now m x)) is (subst (λ (a : Cells). value_at t key ≡ Some (set_without a key x)) same all.2),
    )

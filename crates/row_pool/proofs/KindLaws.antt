-- Which values are sets, what they show, and their numbers.
use Rattle.std.specs.Prelude.{◌≡◌, ℕ, zero, suc, ◌+◌, ◌<◌, ◌%◌, ◌^◌, true, false, List, [], ◌∷◌, ◌++◌, insert, length, take, slice_index_or, Option, Some, None, MatchResult, Result, refl}
use Rattle.std.proofs.Common.{sym, ap, ◌∙◌, subst, inl, inr, add-one, arith}
use Rattle.std.proofs.lemmas.Cmp.{tied_itself}
use Rattle.std.specs.declared.cmp.Ordering.{Ordering}
use Rattle.std.specs.declared.cmp.Ordering.TheVariants.{Less, Equal, Greater}
use Rattle.da_values.specs.Order.{val_cmp}
use Rattle.da_values.specs.OrderLaws.{val_order, same_from_val_cmp}
use Rattle.da_values.specs.Places.{IsAt, IsBetween}
use Rattle.da_values.specs.Sets.{Has, dropped, set_insert, set_remove}
use Rattle.da_values.specs.Value.{val_of, vals, value_of}
use Rattle.da_values.specs.Views.{elements_in, elements_of}
use Rattle.da_values.specs.declared.val.Val.{Val, out-Val}
use Rattle.da_values.specs.declared.val.Val.TheOpen.{Val-F, Int, Bool as Truth, Text, Proc, Tuple, Set}
use Rattle.da_values.specs.declared.val.Val.TheVariants as val
use Rattle.da_values.specs.declared.val.Val.TheVariants.{outs-Bool, outs-Int, outs-Proc, outs-Set, outs-Text, outs-Tuple}
use Rattle.da_values.specs.declared.value.Value.{Value}
use Rattle.da_values.specs.declared.value.Value.TheVariants as kept
use Rattle.da_values.proofs.ViewLaws.{elements_of-Set, elements_of-val_of, val_of-value_of}
use Rattle.row_pool.specs.declared.cell.Cell.{Cell}
use Rattle.row_pool.specs.Cells.{Cells, cell_at, value_in}
use Rattle.row_pool.specs.Marks.{hash_sum, hashed, mark, mark_in, mark_of_set}
use Rattle.row_pool.specs.Pool.{no_value, or_no_value, val_at}
use Rattle.row_pool.specs.Sets.{is_set, is_set_in}
use Rattle.row_pool.proofs.ChildLaws.{vals_take}

-- VALUES AS CODE KEEPS THEM

pub kept_set : (v : Value) (xs : List Val) → v ≡ kept.Set xs → is_set (val_of v) ≡ true
kept_set v xs is = ap (λ (w : Value). is_set (val_of w)) is ∙ ap is_set_in (outs-Set xs)

pub kept_elements : (v : Value) (xs : List Val) → v ≡ kept.Set xs → elements_of (val_of v) ≡ xs
kept_elements v xs is = ap (λ (w : Value). elements_of (val_of w)) is ∙ elements_of-Set xs

pub kept_other : (v : Value) → ((elements : List Val) → v ≡ kept.Set elements → ⊥) → is_set (val_of v) ≡ false
kept_other (kept.Set elements) other = absurd (other elements refl)
kept_other (kept.Int number) other = ap is_set_in (outs-Int number)
kept_other (kept.Bool truth) other = ap is_set_in (outs-Bool truth)
kept_other (kept.Text text) other = ap is_set_in (outs-Text text)
kept_other (kept.Proc process) other = ap is_set_in (outs-Proc process)
kept_other (kept.Tuple parts) other = ap is_set_in (outs-Tuple parts)

pub kept_none : (v : Value) → ((elements : List Val) → v ≡ kept.Set elements → ⊥) → elements_of (val_of v) ≡ []
kept_none (kept.Set elements) other = absurd (other elements refl)
kept_none (kept.Int number) other = ap elements_in (outs-Int number)
kept_none (kept.Bool truth) other = ap elements_in (outs-Bool truth)
kept_none (kept.Text text) other = ap elements_in (outs-Text text)
kept_none (kept.Proc process) other = ap elements_in (outs-Proc process)
kept_none (kept.Tuple parts) other = ap elements_in (outs-Tuple parts)

-- what a value shows of its elements
pub ruleset viewing = (elements_of-Set, elements_of-val_of)

-- A set that changed.
pub put_kept : (v : Value) (xs new : List Val) (x : Val) → v ≡ kept.Set xs → new ≡ set_insert val_cmp xs x → val_of (kept.Set new) ≡ val.Set (set_insert val_cmp (elements_of (val_of v)) x)
put_kept v xs new x is put = ap val.Set (put ∙ ap (λ (ys : List Val). set_insert val_cmp ys x) (sym (kept_elements v xs is)))

pub same_kept : (v : Value) (xs new : List Val) → v ≡ kept.Set xs → new ≡ xs → kept.Set new ≡ v
same_kept v xs new is same = ap kept.Set same ∙ sym is

pub taken_kept : (v : Value) (xs new : List Val) (x : Val) → v ≡ kept.Set xs → new ≡ set_remove val_cmp xs x → val_of (kept.Set new) ≡ val.Set (set_remove val_cmp (elements_of (val_of v)) x)
taken_kept v xs new x is taken = ap val.Set (taken ∙ ap (λ (ys : List Val). set_remove val_cmp ys x) (sym (kept_elements v xs is)))

-- WHICH VALUES ARE SETS

other_than : (x : Val) (w : Value) → value_of x ≡ w → is_set (val_of w) ≡ false → is_set x ≡ true → ⊥
other_than x w is other set =
    let clash : true ≡ false = sym set ∙ ap is_set (sym (val_of-value_of x) ∙ ap val_of is) ∙ other in
    cc clash

set_by : (x : Val) (w : Value) → value_of x ≡ w → is_set x ≡ true → x ≡ val.Set (elements_of x)
set_by x (kept.Set xs) is set =
    let same : x ≡ val.Set xs = sym (val_of-value_of x) ∙ ap val_of is in
    same ∙ ap val.Set (sym (elements_of-Set xs) ∙ ap elements_of (sym same))
set_by x (kept.Int number) is set = absurd (other_than x (kept.Int number) is (ap is_set_in (outs-Int number)) set)
set_by x (kept.Bool truth) is set = absurd (other_than x (kept.Bool truth) is (ap is_set_in (outs-Bool truth)) set)
set_by x (kept.Text text) is set = absurd (other_than x (kept.Text text) is (ap is_set_in (outs-Text text)) set)
set_by x (kept.Proc process) is set = absurd (other_than x (kept.Proc process) is (ap is_set_in (outs-Proc process)) set)
set_by x (kept.Tuple parts) is set = absurd (other_than x (kept.Tuple parts) is (ap is_set_in (outs-Tuple parts)) set)

pub set_is : (x : Val) → is_set x ≡ true → x ≡ val.Set (elements_of x)
set_is x set = set_by x (value_of x) refl set

-- What has an element is a set.
filled_by : (l : Val-F Val) (y : Val) → Has (elements_in l) y → is_set_in l ≡ true
filled_by (Set elements) y has = refl
filled_by (Int number) y has = absurd has
filled_by (Truth truth) y has = absurd has
filled_by (Text text) y has = absurd has
filled_by (Proc process) y has = absurd has
filled_by (Tuple parts) y has = absurd has

pub filled_set : (x y : Val) → Has (elements_of x) y → is_set x ≡ true
filled_set x y has = filled_by (out-Val x) y has

pub no_elements : elements_of no_value ≡ []
no_elements = ap elements_in (outs-Proc 0)

-- An id that names a set names a cell.
pub named_set : (s : Cells) (k : ℕ) (o : Option Cell) → cell_at s k ≡ o → is_set (or_no_value (value_in o)) ≡ true → (c : Cell) × (cell_at s k ≡ Some c) × (val_of c.value ≡ val_at s k)
named_set s k None at set = let clash : true ≡ false = sym set ∙ ap is_set_in (outs-Proc 0) in absurd (cc clash)
named_set s k (Some c) at set = (c, at, sym (ap (λ (o : Option Cell). or_no_value (value_in o)) at))

-- PLACES

pub place_of_none : (x : Val) → IsBetween val_cmp [] x 0
place_of_none x = record { within = omega arith; absent = λ has. has; inserted = refl; removed = refl }

pub placed_as : (xs ys : List Val) (x : Val) (r : Result ℕ ℕ) → xs ≡ ys → MatchResult r (IsAt val_cmp xs x) (IsBetween val_cmp xs x) → MatchResult r (IsAt val_cmp ys x) (IsBetween val_cmp ys x)
placed_as xs ys x r same found = subst (λ (zs : List Val). MatchResult r (IsAt val_cmp zs x) (IsBetween val_cmp zs x)) same found

-- NUMBERS

pub mark_of_kept_set : (v : Value) (xs : List Val) → v ≡ kept.Set xs → mark (val_of v) ≡ mark_of_set xs
mark_of_kept_set v xs is = ap (λ (w : Value). mark (val_of w)) is ∙ ap (mark_in (val.Set xs)) (outs-Set xs)

pub mark_of_other : (v : Value) → ((elements : List Val) → v ≡ kept.Set elements → ⊥) → mark (val_of v) ≡ hashed (val_of v)
mark_of_other (kept.Set elements) other = absurd (other elements refl)
mark_of_other (kept.Int number) other = ap (mark_in (val.Int number)) (outs-Int number)
mark_of_other (kept.Bool truth) other = ap (mark_in (val.Bool truth)) (outs-Bool truth)
mark_of_other (kept.Text text) other = ap (mark_in (val.Text text)) (outs-Text text)
mark_of_other (kept.Proc process) other = ap (mark_in (val.Proc process)) (outs-Proc process)
mark_of_other (kept.Tuple parts) other = ap (mark_in (val.Tuple parts)) (outs-Tuple parts)

mark_set : (xs : List Val) → mark (val.Set xs) ≡ mark_of_set xs
mark_set xs = ap (mark_in (val.Set xs)) (outs-Set xs)

-- sums
sum_more : (x : Val) (xs : List Val) → hash_sum (x ∷ xs) ≡ hashed x + hash_sum xs
sum_more x xs = refl

sum_append : (xs ys : List Val) → hash_sum (xs ++ ys) ≡ hash_sum xs + hash_sum ys
sum_append [] ys = omega arith
sum_append (x ∷ xs) ys = omega (arith, sum_more x (xs ++ ys), sum_more x xs, sum_append xs ys)

pub next_sum : (xs : List Value) (i : ℕ) (x : Value) (sum next hash : ℕ) → i < length xs → x ≡ slice_index_or xs i x → sum ≡ mark_of_set (vals (take i xs)) → hash ≡ hashed (val_of x) → next ≡ (sum + hash) % 2 ^ 64
    → next ≡ mark_of_set (vals (take (i + 1) xs))
next_sum xs i x sum next hash inside is before hash_is next_is =
    let longer : hash_sum (vals (take (i + 1) xs)) ≡ hash_sum (vals (take i xs) ++ val_of x ∷ []) = ap (λ (n : ℕ). hash_sum (vals (take n xs))) (add-one i) ∙ ap hash_sum (vals_take xs i x inside is) in
    omega (arith, longer, sum_append (vals (take i xs)) (val_of x ∷ []), sum_more (val_of x) [], before, hash_is, next_is)

sum_insert : (xs : List Val) (at : ℕ) (x : Val) → hash_sum (insert xs at x) ≡ hash_sum xs + hashed x
sum_insert [] zero x = omega (arith, sum_more x [])
sum_insert [] (suc at) x = omega (arith, sum_more x [])
sum_insert (y ∷ ys) zero x = omega (arith, sum_more x (y ∷ ys))
sum_insert (y ∷ ys) (suc at) x = omega (arith, sum_more y ys, sum_more y (insert ys at x), sum_insert ys at x)

sum_remove : (xs : List Val) (x : Val) → Has xs x → hash_sum (set_remove val_cmp xs x) + hashed x ≡ hash_sum xs
sum_remove [] x has = absurd has
sum_remove (y ∷ ys) x has = go (val_cmp x y) refl has (λ more. sum_remove ys x more)
  where
    go : (o : Ordering) → val_cmp x y ≡ o → Has (y ∷ ys) x → (Has ys x → hash_sum (set_remove val_cmp ys x) + hashed x ≡ hash_sum ys) → hash_sum (dropped o y ys (set_remove val_cmp ys x)) + hashed x ≡ hash_sum (y ∷ ys)
    go Equal tie has later = omega (arith, sum_more y ys, ap hashed (same_from_val_cmp x y tie))
    go Less tie (inr more) later = omega (arith, sum_more y ys, sum_more y (set_remove val_cmp ys x), later more)
    go Less tie (inl same) later = let clash : Less ≡ Equal = sym tie ∙ ap (val_cmp x) (sym same) ∙ tied_itself val_order x in absurd (cc clash)
    go Greater tie (inr more) later = omega (arith, sum_more y ys, sum_more y (set_remove val_cmp ys x), later more)
    go Greater tie (inl same) later = let clash : Greater ≡ Equal = sym tie ∙ ap (val_cmp x) (sym same) ∙ tied_itself val_order x in absurd (cc clash)

-- The number of a set with an element more, or fewer, from that of the set.
pub mark_grown : (y x : Val) (at m hash n : ℕ) → is_set y ≡ true → m ≡ mark y → hash ≡ hashed x → n ≡ (m + hash) % 2 ^ 64 → IsBetween val_cmp (elements_of y) x at → n ≡ mark (val.Set (set_insert val_cmp (elements_of y) x))
mark_grown y x at m hash n set number hash_is sum between =
    let before : m ≡ mark_of_set (elements_of y) = number ∙ ap mark (set_is y set) ∙ mark_set (elements_of y) in
    let grown : hash_sum (set_insert val_cmp (elements_of y) x) ≡ hash_sum (elements_of y) + hashed x = ap hash_sum between.inserted ∙ sum_insert (elements_of y) at x in
    let after : n ≡ mark_of_set (set_insert val_cmp (elements_of y) x) = omega (arith, before, grown, hash_is, sum) in
    after ∙ sym (mark_set (set_insert val_cmp (elements_of y) x))

pub mark_shrunk : (y x : Val) (m hash n : ℕ) → Has (elements_of y) x → m ≡ mark y → hash ≡ hashed x → (n + hash) % 2 ^ 64 ≡ m → n < 2 ^ 64 → n ≡ mark (val.Set (set_remove val_cmp (elements_of y) x))
mark_shrunk y x m hash n has number hash_is sum small =
    let before : m ≡ mark_of_set (elements_of y) = number ∙ ap mark (set_is y (filled_set y x has)) ∙ mark_set (elements_of y) in
    let shrunk : hash_sum (set_remove val_cmp (elements_of y) x) + hashed x ≡ hash_sum (elements_of y) = sum_remove (elements_of y) x has in
    let after : n ≡ mark_of_set (set_remove val_cmp (elements_of y) x) = omega (arith, before, shrunk, hash_is, sum, small) in
    after ∙ sym (mark_set (set_remove val_cmp (elements_of y) x))

-- The last values of a list, and the elements that are left after the first ones.
use Rattle.std.proofs.Common.{◌≡◌, ℕ, zero, suc, ◌+◌, ◌-◌, ◌<◌, ◌≤◌, List, [], ◌∷◌, ◌++◌, length, take, drop, Some, None, refl, sym, ap, ◌∙◌, arith, append_assoc}
use Rattle.std.specs.Prelude.{get_or, slice_get, slice_set, reverse}
use Rattle.std.proofs.Common.{length-append}
use Rattle.std.proofs.lemmas.List.{drop-map, drop_all, drop_more}
use mathlib.Core.List.{append-nil, reverse-append}
use Rattle.da_values.specs.declared.val.Val.{Val}
use Rattle.da_values.specs.declared.value.Value.{Value}
use Rattle.da_values.specs.Value.{val_of, vals}
use Rattle.da_machine.specs.Acts.{top, below, innermost, upper, lower, IsTaken}
use Rattle.da_machine.specs.declared.machine.Machine.{Machine}

pub top_last : (vs : List Val) (v : Val) → top (vs ++ v ∷ []) ≡ v
top_last [] v = refl
top_last (x ∷ []) v = refl
top_last (x ∷ y ∷ vs) v = top_last (y ∷ vs) v

pub below_last : {A : Type 0} (xs : List A) (x : A) → below (xs ++ x ∷ []) ≡ xs
below_last [] x = refl
below_last (y ∷ []) x = refl
below_last (y ∷ z ∷ xs) x = ap (λ l. y ∷ l) (below_last (z ∷ xs) x)

pub innermost_last : (loops : List (List Val)) (left : List Val) → innermost (loops ++ left ∷ []) ≡ left
innermost_last [] left = refl
innermost_last (x ∷ []) left = refl
innermost_last (x ∷ y ∷ loops) left = innermost_last (y ∷ loops) left

take_front : {A : Type 0} (xs ys : List A) → take (length xs) (xs ++ ys) ≡ xs
take_front [] ys = refl
take_front (x ∷ xs) ys = ap (λ l. x ∷ l) (take_front xs ys)

drop_front : {A : Type 0} (xs ys : List A) → drop (length xs) (xs ++ ys) ≡ ys
drop_front [] ys = refl
drop_front (x ∷ xs) ys = drop_front xs ys

-- the first so many, and the others, of a list that was cut there
pub cut_at : {A : Type 0} (xs ys zs : List A) (keep : ℕ) → xs ++ ys ≡ zs → length xs ≡ keep → (xs ≡ take keep zs) × (ys ≡ drop keep zs)
cut_at xs ys zs keep whole long = (
  sym (take_front xs ys) ∙ ap (λ l. take (length xs) l) whole ∙ ap (λ k. take k zs) long,
  sym (drop_front xs ys) ∙ ap (λ l. drop (length xs) l) whole ∙ ap (λ k. drop k zs) long,
)

-- the loop over a set goes on with its next element, or has none
pub dropped_next : (xs : List Val) (k : ℕ) (x : Val) → slice_get xs k ≡ Some x → drop k xs ≡ x ∷ drop (k + 1) xs
dropped_next [] k x e = absurd (let f : None ≡ Some x = e in cc)
dropped_next (y ∷ xs) zero x e = let same : y ≡ x = cc in ap (λ z. z ∷ xs) same
dropped_next (y ∷ xs) (suc k) x e = let n : suc k + 1 ≡ suc (k + 1) = omega arith in rw n (dropped_next xs k x e)

pub dropped_none : (xs : List Val) (k : ℕ) → length xs ≤ k → drop k xs ≡ []
dropped_none [] zero le = refl
dropped_none [] (suc k) le = refl
dropped_none (x ∷ xs) zero le = absurd (omega (arith, le))
dropped_none (x ∷ xs) (suc k) le = dropped_none xs k (omega (arith, le))

-- the values from a place on are copied: those that were and those that are left are all of them
pub left_on : (values : List Value) (at : ℕ) (x : Value) (row next all : List Val) → at < length values → x ≡ get_or values at x → row ++ vals (drop at values) ≡ all → next ≡ row ++ val_of x ∷ [] → next ++ vals (drop (at + 1) values) ≡ all
left_on values at x row next all inside is so_far added =
    ap (λ r. r ++ vals (drop (at + 1) values)) added
    ∙ append_assoc row (val_of x ∷ []) (vals (drop (at + 1) values))
    ∙ ap (λ vs. row ++ vs) (sym (ap vals (drop_more values at x inside ∙ ap (λ y. y ∷ drop (at + 1) values) (sym is))))
    ∙ so_far

pub left_done : (values : List Value) (place at : ℕ) (row : List Val) → length values ≤ at → row ++ vals (drop at values) ≡ vals (drop place values) → row ≡ drop place (vals values)
left_done values place at row end so_far =
    sym (append-nil row) ∙ ap (λ vs. row ++ vals vs) (sym (drop_all at values end)) ∙ so_far ∙ sym (drop-map val_of place values)

-- a loop that takes values off down to some that it keeps, and puts them upon another stack
pub record Turning (old now turned : List Val) (keep : ℕ) : Type 0 where
  pub popped : List Val
  pub whole : now ++ popped ≡ old
  pub enough : keep ≤ length now
  pub made : reverse turned ≡ popped

pub turning_begins : (old : List Val) (n : ℕ) → Turning old old [] (length old - n)
turning_begins old n = record { popped = []; whole = append-nil old; enough = omega arith; made = refl }

one_fewer : (keep : ℕ) (now later : List Val) (v : Val) → now ≡ later ++ v ∷ [] → keep < length now → keep ≤ length later
one_fewer keep now later v is more = let long : length now ≡ length later + 1 = ap length is ∙ length-append later (v ∷ []) in omega (arith, long, more)

pub turning_on : (old now later turned : List Val) (keep : ℕ) (v : Val) → Turning old now turned keep → keep < length now → now ≡ later ++ v ∷ [] → Turning old later (turned ++ v ∷ []) keep
turning_on old now later turned keep v came more is = record {
  popped = v ∷ came.popped;
  whole = sym (append_assoc later (v ∷ []) came.popped) ∙ ap (λ l. l ++ came.popped) (sym is) ∙ came.whole;
  enough = one_fewer keep now later v is more;
  made = reverse-append turned (v ∷ []) ∙ ap (λ l. v ∷ l) came.made;
}

pub turning_done : (old now turned : List Val) (n : ℕ) → Turning old now turned (length old - n) → length now ≤ length old - n → (reverse turned ≡ upper n old) × (now ≡ lower n old)
turning_done old now turned n came few =
    let cut = cut_at now came.popped old (length old - n) came.whole (omega (arith, came.enough, few)) in (came.made ∙ cut.1, cut.0)

-- a row that takes the values from the top down
pub record Unturning (old now row : List Val) : Type 0 where
  pub rest : row ++ reverse now ≡ reverse old

pub unturning_on : (old now later row : List Val) (v : Val) → Unturning old now row → now ≡ later ++ v ∷ [] → Unturning old later (row ++ v ∷ [])
unturning_on old now later row v came is = record {
  rest = append_assoc row (v ∷ []) (reverse later) ∙ ap (λ l. row ++ l) (sym (ap reverse is ∙ reverse-append later (v ∷ []))) ∙ came.rest;
}

-- the next element is taken from the innermost loop
pub taken_some : (old : Machine) (outer : List (List Val)) (left rest : List Val) (v : Val) → old.loops ≡ outer ++ left ∷ [] → left ≡ v ∷ rest → IsTaken old (record old { loops = outer ++ rest ∷ [] }) (Some v)
taken_some old outer left rest v is next =
    (rest, ap innermost is ∙ innermost_last outer left ∙ next, ap (λ l. record old { loops = l ++ rest ∷ [] }) (sym (ap below is ∙ below_last outer left)))

-- THE TWO VALUES ON TOP, AND A VALUE IN THEIR PLACE

top_end : (x : Value) (xs : List Value) (d : Value) → top (vals (x ∷ xs)) ≡ val_of (get_or (x ∷ xs) (length xs) d)
top_end x [] d = refl
top_end x (y ∷ xs) d = top_end y xs d

second_end : (x y : Value) (xs : List Value) (d : Value) → top (below (vals (x ∷ y ∷ xs))) ≡ val_of (get_or (x ∷ y ∷ xs) (length xs) d)
second_end x y [] d = refl
second_end x y (z ∷ xs) d = second_end y z xs d

pub top_at : (xs : List Value) (d : Value) → 2 ≤ length xs → top (vals xs) ≡ val_of (get_or xs (length xs - 1) d)
top_at [] d two = absurd (omega (arith, two))
top_at (x ∷ xs) d two = let end : length (x ∷ xs) - 1 ≡ length xs = omega arith in rw end (top_end x xs d)

pub second_at : (xs : List Value) (d : Value) → 2 ≤ length xs → top (below (vals xs)) ≡ val_of (get_or xs (length xs - 2) d)
second_at [] d two = absurd (omega (arith, two))
second_at (x ∷ []) d two = absurd (omega (arith, two))
second_at (x ∷ y ∷ xs) d two = let end : length (x ∷ y ∷ xs) - 2 ≡ length xs = omega arith in rw end (second_end x y xs d)

vals_last : (xs : List Value) (x : Value) → vals (xs ++ x ∷ []) ≡ vals xs ++ val_of x ∷ []
vals_last [] x = refl
vals_last (y ∷ xs) x = ap (λ l. val_of y ∷ l) (vals_last xs x)

pub vals_turned : (xs : List Value) → vals (reverse xs) ≡ reverse (vals xs)
vals_turned [] = refl
vals_turned (x ∷ xs) =
    ap vals (reverse-append (x ∷ []) xs) ∙ vals_last (reverse xs) x ∙ ap (λ l. l ++ val_of x ∷ []) (vals_turned xs) ∙ sym (reverse-append (val_of x ∷ []) (vals xs))

vals_long : (xs : List Value) → length (vals xs) ≡ length xs
vals_long [] = refl
vals_long (x ∷ xs) = ap suc (vals_long xs)

put_last : (x : Value) (xs : List Value) (v : Value) → vals (slice_set (x ∷ xs) (length xs) v) ≡ below (vals (x ∷ xs)) ++ val_of v ∷ []
put_last x [] v = refl
put_last x (y ∷ xs) v = ap (λ l. val_of x ∷ l) (put_last y xs v)

put_at_last : (xs : List Value) (v : Value) → 1 ≤ length xs → vals (slice_set xs (length xs - 1) v) ≡ below (vals xs) ++ val_of v ∷ []
put_at_last [] v some = absurd (omega (arith, some))
put_at_last (x ∷ xs) v some = let last : length (x ∷ xs) - 1 ≡ length xs = omega arith in rw last (put_last x xs v)

pub more_below : (old xs : List Value) (last : Value) → old ≡ xs ++ last ∷ [] → 2 ≤ length (vals old) → 1 ≤ length xs
more_below old xs last is two =
    let long : length (vals old) ≡ length (vals xs) + 1 = ap length (ap vals is ∙ vals_last xs last) ∙ length-append (vals xs) (val_of last ∷ []) in
    let same = vals_long xs in omega (arith, long, two, same)

pub united : (old xs : List Value) (last v : Value) → old ≡ xs ++ last ∷ [] → 2 ≤ length (vals old) → vals (slice_set xs (length xs - 1) v) ≡ below (below (vals old)) ++ val_of v ∷ []
united old xs last v is two =
    put_at_last xs v (more_below old xs last is two)
    ∙ ap (λ l. below l ++ val_of v ∷ []) (sym (ap below (ap vals is ∙ vals_last xs last) ∙ below_last (vals xs) (val_of last)))

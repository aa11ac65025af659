-- The order of values is total and tells values apart, and so is that of rows.
use Rattle.std.specs.Prelude.{◌≡◌, ◌⊎◌, ℕ, ℤ, Bool, true, false, List, [], ◌∷◌, map, refl}
use Rattle.std.specs.Cmp.{IsTotalOrder}
use Rattle.std.specs.Cmp.Lexicographic.{slice_cmp}
use Rattle.std.specs.List.{AllByRecursion}
use Rattle.std.specs.Ordering.{ordering_then, ordering_reverse, nat_cmp, int_cmp, bool_cmp}
use Rattle.std.specs.declared.cmp.Ordering.{Ordering}
use Rattle.std.specs.declared.cmp.Ordering.TheVariants.{Less, Equal, Greater}
use Rattle.std.proofs.Common.{sym, ap, ◌∙◌, rules, inl, inr}
use Rattle.std.proofs.lemmas.Cmp.{nat_cmp_total, int_cmp_total, nat_list_cmp_total, lists_total, by_ranked, ranked, int_ranked}
use Rattle.da_values.specs.declared.val.Val.{Val, out-Val, roll-Val, roll-out-Val}
use Rattle.da_values.specs.declared.val.Val.TheOpen.{Val-F, Int, Bool as Truth, Text, Proc, Tuple, Set}
use Rattle.da_values.specs.declared.val.Val.TheFolds.{fold_out-Val, map-Val}
use Rattle.da_values.specs.Order.{list_cmp, layer_cmp, cmp_step, val_cmp, row_cmp}
use Rattle.da_values.specs.Induction.{Parts, layer_induction}

-- the order by one layer of each value
abbrev pub cmp_layers : Val-F Val → Val-F Val → Ordering
cmp_layers a b = layer_cmp (map-Val Val (Val → Ordering) val_cmp a) b

pub val_cmp-out : (x y : Val) → val_cmp x y ≡ cmp_layers (out-Val x) (out-Val y)
val_cmp-out x y = ap (λ f. f y) (fold_out-Val (Val → Ordering) cmp_step x)

pub list_cmp-map : (xs ys : List Val) → list_cmp (map val_cmp xs) ys ≡ row_cmp xs ys
list_cmp-map [] [] = refl
list_cmp-map [] (y ∷ ys) = refl
list_cmp-map (x ∷ xs) [] = refl
list_cmp-map (x ∷ xs) (y ∷ ys) = ap (ordering_then (val_cmp x y)) (list_cmp-map xs ys)

-- each is the reverse of the other
IsReversed : Val → Type 0
IsReversed x = (y : Val) → val_cmp x y ≡ ordering_reverse (val_cmp y x)

then_reversed : (a b o p : Ordering) → a ≡ ordering_reverse b → o ≡ ordering_reverse p → ordering_then a o ≡ ordering_reverse (ordering_then b p)
then_reversed a Less o p e f = rw e refl
then_reversed a Equal o p e f = rw e f
then_reversed a Greater o p e f = rw e refl

lists_reversed : (xs ys : List Val) → AllByRecursion IsReversed xs → row_cmp xs ys ≡ ordering_reverse (row_cmp ys xs)
unfolding IsReversed
lists_reversed [] [] each = refl
lists_reversed [] (y ∷ ys) each = refl
lists_reversed (x ∷ xs) [] each = refl
lists_reversed (x ∷ xs) (y ∷ ys) each = then_reversed (val_cmp x y) (val_cmp y x) (row_cmp xs ys) (row_cmp ys xs) (each.0 y) (lists_reversed xs ys each.1)

bool_reversed : (b c : Bool) → bool_cmp b c ≡ ordering_reverse (bool_cmp c b)
bool_reversed true true = refl
bool_reversed true false = refl
bool_reversed false true = refl
bool_reversed false false = refl

layers_reversed : (a b : Val-F Val) → Parts IsReversed a → cmp_layers a b ≡ ordering_reverse (cmp_layers b a)
layers_reversed (Int i) (Int j) each = int_cmp_total.antisymm i j
layers_reversed (Truth b) (Truth c) each = bool_reversed b c
layers_reversed (Text s) (Text t) each = nat_list_cmp_total.antisymm s t
layers_reversed (Proc p) (Proc q) each = nat_cmp_total.antisymm p q
layers_reversed (Tuple xs) (Tuple ys) each = rw (list_cmp-map xs ys, list_cmp-map ys xs) (lists_reversed xs ys each)
layers_reversed (Set xs) (Set ys) each = rw (list_cmp-map xs ys, list_cmp-map ys xs) (lists_reversed xs ys each)
layers_reversed _ _ each = refl

val_reversed : (x y : Val) → val_cmp x y ≡ ordering_reverse (val_cmp y x)
unfolding IsReversed
val_reversed = layer_induction IsReversed (λ x each y. rw (val_cmp-out x y, val_cmp-out y x) (layers_reversed (out-Val x) (out-Val y) each))

-- what ties is the same
IsToldApart : Val → Type 0
IsToldApart x = (y : Val) → val_cmp x y ≡ Equal → x ≡ y

then_equal : (a b : Ordering) → ordering_then a b ≡ Equal → (a ≡ Equal) × (b ≡ Equal)
then_equal Equal b e = (refl, e)
then_equal Less b e = absurd (cc)
then_equal Greater b e = absurd (cc)

lists_told_apart : (xs ys : List Val) → AllByRecursion IsToldApart xs → row_cmp xs ys ≡ Equal → xs ≡ ys
unfolding IsToldApart
lists_told_apart [] [] each e = refl
lists_told_apart [] (y ∷ ys) each e = absurd (cc)
lists_told_apart (x ∷ xs) [] each e = absurd (cc)
lists_told_apart (x ∷ xs) (y ∷ ys) each e =
    let both = then_equal (val_cmp x y) (row_cmp xs ys) e in
    ap (λ z. z ∷ xs) (each.0 y both.0) ∙ ap (λ zs. y ∷ zs) (lists_told_apart xs ys each.1 both.1)

int_told_apart : (i j : ℤ) → int_cmp i j ≡ Equal → i ≡ j
int_told_apart i j e = by_ranked _ _ _ {G = i ≡ j} (int_cmp i j) (int_ranked i j (int_cmp i j) refl) (λ f h. absurd (cc)) (λ f h. h) (λ f h. absurd (cc))

nat_told_apart : (i j : ℕ) → nat_cmp i j ≡ Equal → i ≡ j
nat_told_apart i j e = by_ranked _ _ _ {G = i ≡ j} (nat_cmp i j) (ranked i j (nat_cmp i j) refl) (λ f h. absurd (cc)) (λ f h. h) (λ f h. absurd (cc))

nats_told_apart : (xs ys : List ℕ) → slice_cmp nat_cmp xs ys ≡ Equal → xs ≡ ys
nats_told_apart [] [] e = refl
nats_told_apart [] (y ∷ ys) e = absurd (cc)
nats_told_apart (x ∷ xs) [] e = absurd (cc)
nats_told_apart (x ∷ xs) (y ∷ ys) e =
    let both = then_equal (nat_cmp x y) (slice_cmp nat_cmp xs ys) e in
    ap (λ z. z ∷ xs) (nat_told_apart x y both.0) ∙ ap (λ zs. y ∷ zs) (nats_told_apart xs ys both.1)

bool_told_apart : (b c : Bool) → bool_cmp b c ≡ Equal → b ≡ c
bool_told_apart true true e = refl
bool_told_apart false false e = refl
bool_told_apart true false e = absurd (cc)
bool_told_apart false true e = absurd (cc)

layers_told_apart : (a b : Val-F Val) → Parts IsToldApart a → cmp_layers a b ≡ Equal → a ≡ b
layers_told_apart (Int i) (Int j) each e = ap Int (int_told_apart i j e)
layers_told_apart (Truth b) (Truth c) each e = ap Truth (bool_told_apart b c e)
layers_told_apart (Text s) (Text t) each e = ap Text (nats_told_apart s t e)
layers_told_apart (Proc p) (Proc q) each e = ap Proc (nat_told_apart p q e)
layers_told_apart (Tuple xs) (Tuple ys) each e = ap Tuple (lists_told_apart xs ys each (sym (list_cmp-map xs ys) ∙ e))
layers_told_apart (Set xs) (Set ys) each e = ap Set (lists_told_apart xs ys each (sym (list_cmp-map xs ys) ∙ e))
layers_told_apart _ _ each e = absurd (cc)

pub same_from_val_cmp : (x y : Val) → val_cmp x y ≡ Equal → x ≡ y
unfolding IsToldApart
same_from_val_cmp = layer_induction IsToldApart (λ x each y e.
    sym (roll-out-Val x) ∙ ap roll-Val (layers_told_apart (out-Val x) (out-Val y) each (sym (val_cmp-out x y) ∙ e)) ∙ roll-out-Val y)

pub same_from_row_cmp : (xs ys : List Val) → row_cmp xs ys ≡ Equal → xs ≡ ys
same_from_row_cmp [] [] e = refl
same_from_row_cmp [] (y ∷ ys) e = absurd (cc)
same_from_row_cmp (x ∷ xs) [] e = absurd (cc)
same_from_row_cmp (x ∷ xs) (y ∷ ys) e =
    let both = then_equal (val_cmp x y) (row_cmp xs ys) e in
    ap (λ z. z ∷ xs) (same_from_val_cmp x y both.0) ∙ ap (λ zs. y ∷ zs) (same_from_row_cmp xs ys both.1)

-- what is less than something less is less
IsLessThrough : Val → Type 0
IsLessThrough x = (y z : Val) → val_cmp x y ≡ Less → val_cmp y z ≡ Less → val_cmp x z ≡ Less

then_less : (a b : Ordering) → ordering_then a b ≡ Less → (a ≡ Less) ⊎ ((a ≡ Equal) × (b ≡ Less))
then_less Less b e = inl refl
then_less Equal b e = inr (refl, e)
then_less Greater b e = absurd (cc)

lists_less_through : (xs ys zs : List Val) → AllByRecursion IsLessThrough xs → row_cmp xs ys ≡ Less → row_cmp ys zs ≡ Less → row_cmp xs zs ≡ Less
unfolding IsLessThrough
lists_less_through [] [] [] each e f = absurd (cc)
lists_less_through [] [] (z ∷ zs) each e f = refl
lists_less_through [] (y ∷ ys) [] each e f = absurd (cc)
lists_less_through [] (y ∷ ys) (z ∷ zs) each e f = refl
lists_less_through (x ∷ xs) [] zs each e f = absurd (cc)
lists_less_through (x ∷ xs) (y ∷ ys) [] each e f = absurd (cc)
lists_less_through (x ∷ xs) (y ∷ ys) (z ∷ zs) each e f =
    elim (then_less (val_cmp x y) (row_cmp xs ys) e) [
      | inl a ↦ elim (then_less (val_cmp y z) (row_cmp ys zs) f) [
        | inl b ↦ rw (each.0 y z a b) refl
        | inr b ↦ rw (ap (val_cmp x) (sym (same_from_val_cmp y z b.0)) ∙ a) refl
      ]
      | inr a ↦ elim (then_less (val_cmp y z) (row_cmp ys zs) f) [
        | inl b ↦ rw (ap (λ w. val_cmp w z) (same_from_val_cmp x y a.0) ∙ b) refl
        | inr b ↦ rw (ap (λ w. val_cmp w z) (same_from_val_cmp x y a.0) ∙ b.0) (lists_less_through xs ys zs each.1 a.1 b.1)
      ]
    ]

bool_less_through : (b c d : Bool) → bool_cmp b c ≡ Less → bool_cmp c d ≡ Less → bool_cmp b d ≡ Less
bool_less_through false true false e f = absurd (cc)
bool_less_through false false d e f = f
bool_less_through false true true e f = e
bool_less_through true true d e f = f
bool_less_through true false d e f = absurd (cc)

layers_less_through : (a b d : Val-F Val) → Parts IsLessThrough a → cmp_layers a b ≡ Less → cmp_layers b d ≡ Less → cmp_layers a d ≡ Less
layers_less_through (Int i) (Int j) (Int k) each e f = int_cmp_total.trans i j k e f
layers_less_through (Truth b) (Truth c) (Truth d) each e f = bool_less_through b c d e f
layers_less_through (Text s) (Text t) (Text u) each e f = nat_list_cmp_total.trans s t u e f
layers_less_through (Proc p) (Proc q) (Proc r) each e f = nat_cmp_total.trans p q r e f
layers_less_through (Tuple xs) (Tuple ys) (Tuple zs) each e f =
    rw (list_cmp-map xs zs) (lists_less_through xs ys zs each (sym (list_cmp-map xs ys) ∙ e) (sym (list_cmp-map ys zs) ∙ f))
layers_less_through (Set xs) (Set ys) (Set zs) each e f =
    rw (list_cmp-map xs zs) (lists_less_through xs ys zs each (sym (list_cmp-map xs ys) ∙ e) (sym (list_cmp-map ys zs) ∙ f))
layers_less_through _ _ _ each e f = first_of (search rules, cc)

val_less_through : (x y z : Val) → val_cmp x y ≡ Less → val_cmp y z ≡ Less → val_cmp x z ≡ Less
unfolding IsLessThrough
val_less_through = layer_induction IsLessThrough (λ x each y z e f.
    rw (val_cmp-out x z) (layers_less_through (out-Val x) (out-Val y) (out-Val z) each (sym (val_cmp-out x y) ∙ e) (sym (val_cmp-out y z) ∙ f)))

pub val_order : IsTotalOrder val_cmp
val_order = record { antisymm = val_reversed; trans = val_less_through; congr = λ x y z e. ap (λ w. val_cmp w z) (same_from_val_cmp x y e) }

pub row_order : IsTotalOrder row_cmp
row_order = lists_total val_order

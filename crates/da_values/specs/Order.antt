-- The order of values: by kind, and within a kind by number, by bytes, or by the parts from left to right.
use Rattle.std.specs.Prelude.{ℕ, List, [], ◌∷◌}
use Rattle.std.specs.declared.cmp.Ordering.{Ordering}
use Rattle.std.specs.declared.cmp.Ordering.TheVariants.{Less, Equal, Greater}
use Rattle.std.specs.Ordering.{ordering_then, nat_cmp, int_cmp, bool_cmp}
use Rattle.std.specs.Cmp.Lexicographic.{slice_cmp}
use Rattle.da_values.specs.declared.val.Val.{Val, out-Val}
use Rattle.da_values.specs.declared.val.Val.TheOpen.{Val-F, Int, Bool, Text, Proc, Tuple, Set}
use Rattle.da_values.specs.declared.val.Val.TheFolds.{fold-Val}

-- integers, truth values, texts, processes, tuples, sets
abbrev pub kind : {A : Type 0} → Val-F A → ℕ
kind (Int number) = 0
kind (Bool truth) = 1
kind (Text text) = 2
kind (Proc process) = 3
kind (Tuple parts) = 4
kind (Set elements) = 5

-- part by part; a proper prefix comes before the longer list
abbrev pub list_cmp : {A : Type 0} → List (A → Ordering) → List A → Ordering
list_cmp [] [] = Equal
list_cmp [] (y ∷ ys) = Less
list_cmp (f ∷ fs) [] = Greater
list_cmp (f ∷ fs) (y ∷ ys) = ordering_then (f y) (list_cmp fs ys)

-- one layer against another
abbrev pub layer_cmp : Val-F (Val → Ordering) → Val-F Val → Ordering
layer_cmp (Int i) (Int j) = int_cmp i j
layer_cmp (Bool a) (Bool b) = bool_cmp a b
layer_cmp (Text s) (Text t) = slice_cmp nat_cmp s t
layer_cmp (Proc p) (Proc q) = nat_cmp p q
layer_cmp (Tuple fs) (Tuple ys) = list_cmp fs ys
layer_cmp (Set fs) (Set ys) = list_cmp fs ys
layer_cmp x y = nat_cmp (kind x) (kind y)

abbrev pub cmp_step : Val-F (Val → Ordering) → Val → Ordering
cmp_step x y = layer_cmp x (out-Val y)

abbrev pub val_cmp : Val → Val → Ordering
val_cmp = fold-Val (Val → Ordering) cmp_step

-- rows: value by value, a proper prefix first
abbrev pub row_cmp : List Val → List Val → Ordering
row_cmp = slice_cmp val_cmp

-- Types: which are equal, which are ordered, how many levels they have, which values they have.
use Rattle.std.specs.Prelude.{ℕ, suc, nat_le, Bool, true, false, ◌&&◌, List, [], ◌∷◌, Option, Some, None}
use Rattle.std.specs.List.{list_all}
use Rattle.da_values.specs.declared.val.Val.{Val, out-Val}
use Rattle.da_values.specs.declared.val.Val.TheOpen as vo
use Rattle.da_values.specs.Nesting.{deepest}
use Rattle.da_lang.specs.declared.ty.Ty.{Ty, out-Ty}
use Rattle.da_lang.specs.declared.ty.Ty.TheFolds.{fold-Ty}
use Rattle.da_lang.specs.declared.ty.Ty.TheOpen as ty

-- the same type
abbrev pub all_same : List (Ty → Bool) → List Ty → Bool
all_same [] [] = true
all_same [] (y ∷ ys) = false
all_same (same ∷ sames) [] = false
all_same (same ∷ sames) (y ∷ ys) = same y && all_same sames ys

abbrev pub int_in : ty.Ty-F Ty → Bool
int_in ty.Int = true
int_in _ = false

abbrev pub bool_in : ty.Ty-F Ty → Bool
bool_in ty.Bool = true
bool_in _ = false

abbrev pub text_in : ty.Ty-F Ty → Bool
text_in ty.Text = true
text_in _ = false

abbrev pub proc_in : ty.Ty-F Ty → Bool
proc_in ty.Proc = true
proc_in _ = false

abbrev pub parts_in : ty.Ty-F Ty → Option (List Ty)
parts_in (ty.Tuple parts) = Some parts
parts_in _ = None

abbrev pub element_in : ty.Ty-F Ty → Option Ty
element_in (ty.Set element) = Some element
element_in _ = None

-- the types by their forms
abbrev pub is_int : Ty → Bool
is_int x = int_in (out-Ty x)

abbrev pub is_bool : Ty → Bool
is_bool x = bool_in (out-Ty x)

abbrev pub is_text : Ty → Bool
is_text x = text_in (out-Ty x)

abbrev pub is_proc : Ty → Bool
is_proc x = proc_in (out-Ty x)

-- the types of the parts of a tuple, of the elements of a set
abbrev pub parts_of : Ty → Option (List Ty)
parts_of x = parts_in (out-Ty x)

abbrev pub element_of : Ty → Option Ty
element_of x = element_in (out-Ty x)

abbrev pub is_set : Ty → Bool
is_set x = elim (element_of x) [ Some element ↦ true | None ↦ false ]

abbrev pub tuple_same : List (Ty → Bool) → Option (List Ty) → Bool
tuple_same sames None = false
tuple_same sames (Some parts) = all_same sames parts

abbrev pub set_same : (Ty → Bool) → Option Ty → Bool
set_same same None = false
set_same same (Some element) = same element

abbrev pub same_step : ty.Ty-F (Ty → Bool) → Ty → Bool
same_step ty.Int y = is_int y
same_step ty.Bool y = is_bool y
same_step ty.Text y = is_text y
same_step ty.Proc y = is_proc y
same_step (ty.Tuple sames) y = tuple_same sames (parts_of y)
same_step (ty.Set same) y = set_same same (element_of y)

unfoldable pub same_type : Ty → Ty → Bool
same_type = fold-Ty (Ty → Bool) same_step

-- ordered: `int`, `str`, `proc`, and tuples of ordered types
abbrev pub ordered_step : ty.Ty-F Bool → Bool
ordered_step ty.Int = true
ordered_step ty.Bool = false
ordered_step ty.Text = true
ordered_step ty.Proc = true
ordered_step (ty.Tuple parts) = list_all (λ b. b) parts
ordered_step (ty.Set element) = false

unfoldable pub ordered : Ty → Bool
ordered = fold-Ty Bool ordered_step

-- each tuple and each set is one level
abbrev pub levels_step : ty.Ty-F ℕ → ℕ
levels_step ty.Int = 0
levels_step ty.Bool = 0
levels_step ty.Text = 0
levels_step ty.Proc = 0
levels_step (ty.Tuple parts) = suc (deepest parts)
levels_step (ty.Set element) = suc element

unfoldable pub levels : Ty → ℕ
levels = fold-Ty ℕ levels_step

unfoldable pub most_levels : ℕ
most_levels = 32

abbrev pub is_flat : Ty → Bool
is_flat x = nat_le (levels x) most_levels

-- a value is of a type
abbrev pub all_of : List (Val → Bool) → List Val → Bool
all_of [] [] = true
all_of [] (v ∷ vs) = false
all_of (test ∷ tests) [] = false
all_of (test ∷ tests) (v ∷ vs) = test v && all_of tests vs

abbrev pub int_value : vo.Val-F Val → Bool
int_value (vo.Int number) = true
int_value _ = false

abbrev pub bool_value : vo.Val-F Val → Bool
bool_value (vo.Bool truth) = true
bool_value _ = false

abbrev pub text_value : vo.Val-F Val → Bool
text_value (vo.Text bytes) = true
text_value _ = false

abbrev pub proc_value : vo.Val-F Val → Bool
proc_value (vo.Proc process) = true
proc_value _ = false

abbrev pub tuple_value : List (Val → Bool) → vo.Val-F Val → Bool
tuple_value tests (vo.Tuple parts) = all_of tests parts
tuple_value tests _ = false

abbrev pub set_value : (Val → Bool) → vo.Val-F Val → Bool
set_value test (vo.Set elements) = list_all test elements
set_value test _ = false

abbrev pub has_type_step : ty.Ty-F (Val → Bool) → Val → Bool
has_type_step ty.Int v = int_value (out-Val v)
has_type_step ty.Bool v = bool_value (out-Val v)
has_type_step ty.Text v = text_value (out-Val v)
has_type_step ty.Proc v = proc_value (out-Val v)
has_type_step (ty.Tuple tests) v = tuple_value tests (out-Val v)
has_type_step (ty.Set test) v = set_value test (out-Val v)

unfoldable pub is_of : Ty → Val → Bool
is_of = fold-Ty (Val → Bool) has_type_step

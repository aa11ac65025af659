-- What a value is made of. A value of another kind gives the stated stand-in.
use Rattle.std.specs.Prelude.{ℕ, ℤ, pos, Bool, false, List, []}
use Rattle.da_values.specs.declared.val.Val.{Val, out-Val}
use Rattle.da_values.specs.declared.val.Val.TheOpen.{Val-F, Int, Bool as Truth, Text, Proc, Tuple, Set}

abbrev pub int_in : {A : Type 0} → Val-F A → ℤ
int_in (Int number) = number
int_in _ = pos 0

abbrev pub truth_in : {A : Type 0} → Val-F A → Bool
truth_in (Truth truth) = truth
truth_in _ = false

abbrev pub text_in : {A : Type 0} → Val-F A → List ℕ
text_in (Text bytes) = bytes
text_in _ = []

abbrev pub proc_in : {A : Type 0} → Val-F A → ℕ
proc_in (Proc process) = process
proc_in _ = 0

abbrev pub parts_in : {A : Type 0} → Val-F A → List A
parts_in (Tuple parts) = parts
parts_in _ = []

abbrev pub elements_in : {A : Type 0} → Val-F A → List A
elements_in (Set elements) = elements
elements_in _ = []

-- the number of an integer, or 0
abbrev pub int_of : Val → ℤ
int_of x = int_in (out-Val x)

-- a truth value, or false
abbrev pub truth_of : Val → Bool
truth_of x = truth_in (out-Val x)

-- the bytes of a text, or none
abbrev pub text_of : Val → List ℕ
text_of x = text_in (out-Val x)

-- the number of a process, or 0, which is the number of none
abbrev pub proc_of : Val → ℕ
proc_of x = proc_in (out-Val x)

-- the parts of a tuple, or none
abbrev pub parts_of : Val → List Val
parts_of x = parts_in (out-Val x)

-- the elements of a set, or none
abbrev pub elements_of : Val → List Val
elements_of x = elements_in (out-Val x)

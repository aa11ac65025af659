-- Two forms of one type.
use Rattle.std.specs.Prelude.{◌≡◌, ℕ, ◌==◌, ◌&&◌, ◌||◌, Bool, true, false, if◌then◌else◌, List, [], ◌∷◌, length, zip, Option, Some, None, slice_get}
use Rattle.type_table.specs.declared.form.Form.{Form}
use Rattle.type_table.specs.declared.form.Form.TheVariants as f

abbrev pub is_open : Form → Bool
is_open f.Open = true
is_open _ = false

-- the smaller number that stands for the same type
abbrev pub link : Form → Option ℕ
link (f.Same number) = Some number
link _ = None

-- what is told of a number is not that it is the same as a smaller one
abbrev pub IsRoot : List Form → ℕ → Type 0
IsRoot forms k = (form : Form) → slice_get forms k ≡ Some form → link form ≡ None

abbrev pub parts : Form → List ℕ
parts (f.Tuple numbers) = numbers
parts (f.Set element) = element ∷ []
parts _ = []

abbrev pub kind : Form → ℕ
kind f.Open = 0
kind (f.Same number) = 0
kind f.Int = 1
kind f.Bool = 2
kind f.Text = 3
kind f.Proc = 4
kind (f.Set element) = 5
kind (f.Tuple numbers) = 6

abbrev pub agree : Form → Form → Bool
agree x y = kind x == kind y && length (parts x) == length (parts y)

-- a type may have both forms
abbrev pub joins : Form → Form → Bool
joins x y = is_open x || is_open y || agree x y

-- the form that is left of both, and the numbers that are then the same
abbrev pub kept : Form → Form → Form
kept x y = if is_open x then y else x

abbrev pub paired : Form → Form → List (ℕ × ℕ)
paired x y = if agree x y then zip (parts x) (parts y) else []

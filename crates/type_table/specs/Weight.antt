-- How much of a table may still be made the same.
use Rattle.std.specs.Prelude.{ℕ, ◌+◌, List, [], ◌∷◌, length}
use Rattle.type_table.specs.declared.form.Form.{Form}
use Rattle.type_table.specs.declared.form.Form.TheVariants as f
use Rattle.type_table.specs.Joins.{parts}

-- a number that is not told to be the same as another counts one, and each of its parts one
abbrev pub form_weight : Form → ℕ
form_weight (f.Same number) = 0
form_weight form = 1 + length (parts form)

abbrev pub weight : List Form → ℕ
weight [] = 0
weight (form ∷ forms) = form_weight form + weight forms

-- The types that a table gives.
use Rattle.std.specs.Prelude.{ℕ, zero, suc, List, length, map, Option, Some, None, slice_get}
use Rattle.da_lang.specs.declared.ty.Ty.{Ty}
use Rattle.da_lang.specs.declared.ty.Ty.TheVariants as t
use Rattle.type_table.specs.declared.form.Form.{Form}
use Rattle.type_table.specs.declared.form.Form.TheVariants as f
use Rattle.type_table.specs.Fits.{Meaning}

-- the type of a form, where its numbers have these types; where nothing is told it is `int`
abbrev pub built : Meaning → Form → Ty
built m f.Open = t.Int
built m (f.Same number) = m number
built m f.Int = t.Int
built m f.Bool = t.Bool
built m f.Text = t.Text
built m f.Proc = t.Proc
built m (f.Tuple parts) = t.Tuple (map m parts)
built m (f.Set element) = t.Set (m element)

abbrev pub built_at : Meaning → Option Form → Ty
built_at m None = t.Int
built_at m (Some form) = built m form

-- the types that are built in so many rounds
abbrev pub types_in : List Form → ℕ → Meaning
types_in forms zero k = t.Int
types_in forms (suc rounds) k = built_at (types_in forms rounds) (slice_get forms k)

-- a round for each number is enough where the table goes in no circle
abbrev pub types_of : List Form → Meaning
types_of forms = types_in forms (length forms)

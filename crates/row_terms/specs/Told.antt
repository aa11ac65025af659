-- Parts of rows, and values as rows.
use Rattle.std.specs.Prelude.{[], ◌∷◌}
use Rattle.da_values.specs.declared.val.Val.{Val}
use Rattle.da_values.specs.declared.val.Val.TheVariants as val
use Rattle.da_lang.specs.Matching.{Row}
use Rattle.da_lang.specs.World.{nothing}

-- the first part of a row, or nothing where there is none
abbrev pub first_part : Row → Val
first_part [] = nothing
first_part (x ∷ row) = x

-- a value as a tuple of one part
abbrev pub single : Val → Val
single x = val.Tuple (x ∷ [])

-- Sides of comparisons, as code has them.
use Rattle.da_lang.specs.QueryTypes as type
use Rattle.da_typing.specs.declared.sides.Side.{Side}

abbrev pub side_of : Side → type.Side
side_of s = record { ty = s.ty; sum = s.sum }

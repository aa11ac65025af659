use Rattle.std.proofs.Common.{◌≡◌, map, take}
use Rattle.da_lang.specs.Written.{greatest, type_width}
use Rattle.da_limits.specs.Capped.{capped}
use Rattle.da_limits.proofs.types.+widths.Given as goal

abbrev pub invariant-widest_type-loop-ty : goal.invariant-widest_type-loop-ty
invariant-widest_type-loop-ty l = l.widest ≡ capped (greatest (map type_width (take l.ty-index l.types)))

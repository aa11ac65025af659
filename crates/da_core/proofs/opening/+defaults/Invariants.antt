use Rattle.std.proofs.Common.{◌≡◌, take, map}
use Rattle.da_lang.specs.World.{default}
use Rattle.da_core.proofs.opening.+defaults.Given as goal

abbrev pub invariant-defaults-loop-ty : goal.invariant-defaults-loop-ty
invariant-defaults-loop-ty l = l.row ≡ map (default l.me) (take l.ty-index l.types)

use Rattle.std.proofs.Common.{◌≡◌, take, true}
use Rattle.std.specs.List.{list_all}
use Rattle.type_fitting.specs.Narrow.{narrow}
use Rattle.type_fitting.proofs.types.+narrow.Given as goal

abbrev pub invariant-are_narrow-loop-ty : goal.invariant-are_narrow-loop-ty
invariant-are_narrow-loop-ty l = list_all narrow (take l.ty-index l.types) ≡ true

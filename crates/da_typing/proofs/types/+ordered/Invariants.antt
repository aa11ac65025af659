use Rattle.std.proofs.Common.{◌≡◌, take, true}
use Rattle.std.specs.List.{list_all}
use Rattle.da_lang.specs.Types.{ordered}
use Rattle.da_typing.proofs.types.+ordered.Given as goal

abbrev pub invariant-are_ordered-loop-ty : goal.invariant-are_ordered-loop-ty
invariant-are_ordered-loop-ty l = list_all ordered (take l.ty-index l.types) ≡ true

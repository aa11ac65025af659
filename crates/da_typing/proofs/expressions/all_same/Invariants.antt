use Rattle.std.proofs.Common.{◌≡◌, true, take}
use Rattle.std.specs.List.{list_all}
use Rattle.da_lang.specs.Types.{same_type}
use Rattle.da_typing.proofs.expressions.all_same.Given as goal

abbrev pub invariant-loop-other : goal.invariant-loop-other
invariant-loop-other l = list_all (λ other. same_type other l.ty) (take l.other-index l.types) ≡ true

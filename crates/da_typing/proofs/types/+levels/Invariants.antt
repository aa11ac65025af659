use Rattle.std.proofs.Common.{◌≡◌, take, true, nat_le}
use Rattle.std.specs.List.{list_all}
use Rattle.da_lang.specs.Types.{levels}
use Rattle.da_typing.proofs.types.+levels.Given as goal

abbrev pub invariant-have_levels-loop-ty : goal.invariant-have_levels-loop-ty
invariant-have_levels-loop-ty l = list_all (λ ty. nat_le (levels ty) l.most) (take l.ty-index l.types) ≡ true

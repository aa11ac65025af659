use Rattle.std.proofs.Common.{◌≡◌, take}
use Rattle.da_lang.proofs.copy.+types.Given as goal

abbrev pub invariant-copy_types-loop-ty : goal.invariant-copy_types-loop-ty
invariant-copy_types-loop-ty l = l.copy ≡ take l.ty-index l.types

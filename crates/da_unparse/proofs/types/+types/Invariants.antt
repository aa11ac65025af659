use Rattle.std.proofs.Common.{◌≡◌, ◌++◌, codes, take, flat_map}
use Rattle.da_unparse.specs.Texts.{type_text}
use Rattle.da_unparse.proofs.types.+types.Given as goal

abbrev pub invariant-put_types-loop-ty : goal.invariant-put_types-loop-ty
invariant-put_types-loop-ty l = l.out ≡ l.initial.out ++ flat_map (λ y. codes ", " ++ type_text y) (take l.ty-index l.rest)

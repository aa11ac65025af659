use Rattle.std.proofs.Common.{◌≡◌, ◌++◌, codes, take, flat_map}
use Rattle.da_unparse.specs.ProgramTexts.{param_text}
use Rattle.da_unparse.proofs.members.put_listed_params.Given as goal

abbrev pub invariant-loop-param : goal.invariant-loop-param
invariant-loop-param l = l.out ≡ l.initial.out ++ flat_map (λ y. codes ", " ++ param_text y) (take l.param-index l.rest)

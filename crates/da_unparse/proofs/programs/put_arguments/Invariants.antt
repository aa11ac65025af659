use Rattle.std.proofs.Common.{◌≡◌, ◌++◌, codes, take, flat_map}
use Rattle.da_unparse.specs.Expressions.{either}
use Rattle.da_unparse.specs.Texts.{text_at}
use Rattle.da_unparse.proofs.programs.put_arguments.Given as goal

abbrev pub invariant-loop-argument : goal.invariant-loop-argument
invariant-loop-argument l = l.out ≡ l.fn.out ++ flat_map (λ x. codes ", " ++ text_at either x) (take l.argument-index l.args)

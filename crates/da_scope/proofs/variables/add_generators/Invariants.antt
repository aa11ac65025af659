use Rattle.std.proofs.Common.{◌≡◌, ◌++◌, flat_map, take}
use Rattle.da_lang.specs.ExprMeaning.{generator}
use Rattle.da_scope.specs.NamesView.{texts}
use Rattle.da_scope.proofs.variables.add_generators.Given as goal

abbrev pub invariant-loop-g : goal.invariant-loop-g
invariant-loop-g l = texts l.names ≡ texts l.initial.names ++ flat_map (λ g. (generator g).binds) (take l.g-index l.gens)

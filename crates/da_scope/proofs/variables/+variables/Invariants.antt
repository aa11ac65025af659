use Rattle.std.proofs.Common.{◌≡◌, ◌++◌, flat_map, map, take}
use Rattle.da_lang.specs.ExprMeaning.{matching}
use Rattle.da_scope.specs.NamesView.{texts}
use Rattle.da_scope.proofs.variables.+variables.Given as goal

abbrev pub invariant-add_parts-loop-p : goal.invariant-add_parts-loop-p
invariant-add_parts-loop-p l = texts l.names ≡ texts l.initial.names ++ flat_map (λ p. p.binds) (map matching (take l.p-index l.ps))

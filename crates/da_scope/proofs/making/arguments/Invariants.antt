use Rattle.std.proofs.Common.{◌≡◌, take}
use Rattle.da_lang.specs.Resolution.{resolved_args}
use Rattle.da_scope.proofs.making.arguments.Given as goal

abbrev pub invariant-loop-x : goal.invariant-loop-x
invariant-loop-x l = l.args ≡ resolved_args l.scope (take l.x-index l.xs)

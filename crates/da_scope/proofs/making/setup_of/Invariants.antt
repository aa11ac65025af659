use Rattle.std.proofs.Common.{◌≡◌, [], flat_map, take}
use Rattle.da_lang.specs.Resolution.{setup_call}
use Rattle.da_scope.proofs.making.setup_of.Given as goal

abbrev pub invariant-loop-line : goal.invariant-loop-line
invariant-loop-line l = flat_map (setup_call l.scope l.name) (take l.line-index l.lines) ≡ []

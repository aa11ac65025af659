use Rattle.std.proofs.Common.{◌≡◌, map, take}
use Rattle.da_lang.specs.LabelNames.{label_number}
use Rattle.da_scope.proofs.handler.labels_named.Given as goal

abbrev pub invariant-loop-name : goal.invariant-loop-name
invariant-loop-name l = l.numbers ≡ map (label_number l.home.class.now) (take l.name-index l.names)

use Rattle.std.proofs.Common.{◌≡◌, take}
use Rattle.da_values.specs.Value.{vals}
use Rattle.delta_rules.specs.Passing.{lacking}
use Rattle.delta_rules.proofs.slots.missing.Given as goal

abbrev pub invariant-loop-x : goal.invariant-loop-x
invariant-loop-x l = vals l.others ≡ lacking (vals (take l.x-index l.elements)) l.set

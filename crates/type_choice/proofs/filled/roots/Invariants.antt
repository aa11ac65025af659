use Rattle.std.proofs.Common.{◌≡◌, drop, length, map, take}
use Rattle.type_choice.specs.Choice.{AreInside}
use Rattle.type_choice.specs.Roots.{root_of}
use Rattle.type_choice.proofs.filled.roots.Given as goal

abbrev pub invariant-loop-number : goal.invariant-loop-number
invariant-loop-number l = (l.roots ≡ map (root_of l.forms) (take l.number-index l.numbers)) × AreInside (length l.forms) (drop l.number-index l.numbers)

use Rattle.std.proofs.Common.{◌≡◌, drop, length}
use Rattle.std.specs.List.{list_all}
use Rattle.type_choice.specs.Choice.{AreInside}
use Rattle.type_choice.specs.Roots.{may_add, passes}
use Rattle.type_choice.proofs.ends.all_add.Given as goal

abbrev pub invariant-loop-number : goal.invariant-loop-number
invariant-loop-number l =
    (list_all (passes may_add l.forms) (drop l.number-index l.numbers) ≡ list_all (passes may_add l.forms) l.numbers) × AreInside (length l.forms) (drop l.number-index l.numbers)

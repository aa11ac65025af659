use Rattle.std.proofs.Common.{◌≡◌, drop, length}
use Rattle.std.specs.List.{list_all}
use Rattle.type_choice.specs.Choice.{AreInside}
use Rattle.type_choice.specs.Roots.{may_receive, passes}
use Rattle.type_choice.proofs.ends.all_receive.Given as goal

abbrev pub invariant-loop-number : goal.invariant-loop-number
invariant-loop-number l =
    (list_all (passes may_receive l.forms) (drop l.number-index l.numbers) ≡ list_all (passes may_receive l.forms) l.numbers) × AreInside (length l.forms) (drop l.number-index l.numbers)

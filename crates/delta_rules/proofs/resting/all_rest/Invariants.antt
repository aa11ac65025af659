use Rattle.std.proofs.Common.{◌≡◌, take, true}
use Rattle.std.specs.List.{list_all}
use Rattle.delta_rules.specs.Resting.{is_nothing}
use Rattle.delta_rules.proofs.resting.all_rest.Given as goal

abbrev pub invariant-loop-change : goal.invariant-loop-change
invariant-loop-change l = list_all is_nothing (take l.change-index l.changes) ≡ true

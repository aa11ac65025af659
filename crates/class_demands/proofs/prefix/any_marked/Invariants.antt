use Rattle.std.proofs.Common.{◌≡◌, false, take}
use Rattle.std.specs.List.{list_any}
use Rattle.class_demands.specs.Marks.{is_marked}
use Rattle.class_demands.proofs.prefix.any_marked.Given as goal

abbrev pub invariant-loop-bind : goal.invariant-loop-bind
invariant-loop-bind l = list_any (is_marked l.used) (take l.bind-index l.binds) ≡ false

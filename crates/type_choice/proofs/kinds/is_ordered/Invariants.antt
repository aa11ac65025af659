use Rattle.std.proofs.Common.{◌≡◌, drop, map}
use Rattle.std.specs.List.{list_all}
use Rattle.type_table.specs.Settling.{is_marked}
use Rattle.type_choice.proofs.kinds.is_ordered.Given as goal

abbrev pub invariant-loop-part : goal.invariant-loop-part
invariant-loop-part l = list_all (λ b. b) (map (is_marked l.marks) (drop l.part-index l.part-items)) ≡ list_all (λ b. b) (map (is_marked l.marks) l.part-items)

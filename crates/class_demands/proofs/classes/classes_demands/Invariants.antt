use Rattle.std.proofs.Common.{◌≡◌, ◌++◌, map, take}
use Rattle.class_demands.specs.Programs.{class_demands}
use Rattle.class_demands.specs.Walks.{class_slots}
use Rattle.class_demands.proofs.classes.classes_demands.Given as goal

abbrev pub invariant-loop-class : goal.invariant-loop-class
invariant-loop-class l =
    (l.demands ≡ map (class_demands l.messages) (take l.class-index l.classes))
    × (l.flows ≡ l.initial.flows ++ map (class_slots l.messages) (take l.class-index l.classes))

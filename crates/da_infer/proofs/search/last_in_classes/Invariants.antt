use Rattle.std.proofs.Common.{◌≡◌, drop}
use Rattle.da_infer.specs.Search.{last_in_classes}
use Rattle.da_infer.proofs.search.last_in_classes.Given as goal

abbrev pub invariant-loop-class : goal.invariant-loop-class
invariant-loop-class l = last_in_classes l.last (drop l.class-index l.classes) ≡ last_in_classes l.before l.classes

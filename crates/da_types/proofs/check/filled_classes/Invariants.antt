use Rattle.std.proofs.Common.{◌≡◌, ◌++◌, map, length}
use Rattle.da_lang.specs.Typing.{filled_class}
use Rattle.da_types.proofs.check.filled_classes.Given as goal

abbrev pub invariant-classes : goal.invariant-classes
invariant-classes l = l.found ++ map (filled_class l.messages) l.left ≡ map (filled_class l.messages) l.fn.classes

abbrev pub decreases-classes : goal.decreases-classes
decreases-classes l = length l.left

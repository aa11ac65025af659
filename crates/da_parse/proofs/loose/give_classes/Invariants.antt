use Rattle.da_parse.specs.Loose.{given_class, open_classes}
use Rattle.da_parse.proofs.GivenTypes.{Given}
use Rattle.da_parse.proofs.loose.give_classes.Given as goal

abbrev pub invariant-loop-at : goal.invariant-loop-at
invariant-loop-at l = Given given_class open_classes l.fn.classes l.classes l.fn.untyped l.untyped l.at

use Rattle.std.proofs.Common.{◌≡◌, drop, map, take, zip}
use Rattle.da_lang.specs.BodyMeaning.{bind_arg}
use Rattle.da_scope.proofs.arguments.bind_args.Given as goal

abbrev pub invariant-loop-slot : goal.invariant-loop-slot
invariant-loop-slot l = record {
  binds : l.binds ≡ map bind_arg (zip (take l.slot-index l.slots) l.initial.left);
  left : l.left ≡ drop l.slot-index l.initial.left;
}

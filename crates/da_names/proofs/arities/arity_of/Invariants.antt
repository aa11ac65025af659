use Rattle.std.proofs.Common.{◌≡◌, drop}
use Rattle.da_names.proofs.MainMaps.{setup_among}
use Rattle.da_names.proofs.arities.arity_of.Given as goal

abbrev pub invariant-loop-member : goal.invariant-loop-member
invariant-loop-member l = setup_among l.class.members ≡ setup_among (drop l.member-index l.member-items)

use Rattle.std.proofs.Common.{◌≡◌, ◌++◌, take}
use Rattle.std.specs.Prelude.{flat_map}
use Rattle.class_demands.specs.Prefix.{seen, setup_upto}
use Rattle.class_demands.proofs.prefix.put_setups.Given as goal

abbrev pub invariant-loop-setup : goal.invariant-loop-setup
invariant-loop-setup l = seen l.found ≡ seen l.initial.found ++ flat_map (setup_upto l.line l.classes) (take l.setup-index l.setups)

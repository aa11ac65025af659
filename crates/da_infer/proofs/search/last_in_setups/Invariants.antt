use Rattle.std.proofs.Common.{◌≡◌, drop}
use Rattle.da_infer.specs.Search.{last_in_setups}
use Rattle.da_infer.proofs.search.last_in_setups.Given as goal

abbrev pub invariant-loop-setup : goal.invariant-loop-setup
invariant-loop-setup l = last_in_setups l.last (drop l.setup-index l.setups) ≡ last_in_setups l.before l.setups

use Rattle.std.proofs.Common.{◌≡◌, take, true}
use Rattle.std.specs.List.{list_all}
use Rattle.class_demands.specs.declared.demands.SetupDemands.{SetupDemands}
use Rattle.da_infer.specs.Known.{lines_known}
use Rattle.da_infer.proofs.known.setups_known.Given as goal

abbrev pub invariant-loop-setup : goal.invariant-loop-setup
invariant-loop-setup l = list_all (λ (x : SetupDemands). lines_known l.count x.demands) (take l.setup-index l.setups) ≡ true

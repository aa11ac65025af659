use Rattle.std.proofs.Common.{◌≡◌, drop}
use Rattle.std.specs.List.{list_all}
use Rattle.da_lang.specs.Shaped.{has_processes}
use Rattle.da_values.specs.Value.{val_of, vals, weight, weights}
use Rattle.da_core.proofs.messages.+processes.Given as goal

abbrev pub decreases-has_processes : goal.decreases-has_processes
decreases-has_processes l = weight (val_of l.value.now)

abbrev pub decreases-have_processes : goal.decreases-have_processes
decreases-have_processes l = weights (vals l.values.now)

abbrev pub invariant-have_processes-loop-value : goal.invariant-have_processes-loop-value
invariant-have_processes-loop-value l = list_all (has_processes l.most) (vals (drop l.value-index l.values)) ≡ list_all (has_processes l.most) (vals l.values)

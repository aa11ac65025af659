use Rattle.std.proofs.Common.{◌≡◌, take, true}
use Rattle.std.specs.List.{list_all}
use Rattle.da_bodies.specs.Repeats.{is_seen}
use Rattle.da_names.proofs.labels.has_labels.Given as goal

abbrev pub invariant-loop-name : goal.invariant-loop-name
invariant-loop-name l = list_all (is_seen l.seen) (take l.name-index l.name-items) ≡ true

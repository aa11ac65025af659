use Rattle.std.proofs.Common.{◌≡◌, take, flat_map}
use Rattle.da_scope.specs.LabelsView.{names_of_member}
use Rattle.da_scope.specs.NamesView.{texts}
use Rattle.da_scope.proofs.labels.labels_in.Given as goal

abbrev pub invariant-loop-member : goal.invariant-loop-member
invariant-loop-member l = texts l.names ≡ flat_map names_of_member (take l.member-index l.member-items)

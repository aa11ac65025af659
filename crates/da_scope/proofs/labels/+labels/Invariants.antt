use Rattle.std.proofs.Common.{◌≡◌, ◌++◌, take, flat_map}
use Rattle.da_scope.specs.LabelsView.{names_of, names_of_branch}
use Rattle.da_scope.specs.NamesView.{texts}
use Rattle.da_scope.proofs.labels.+labels.Given as goal

abbrev pub invariant-put_labels-loop-stmt : goal.invariant-put_labels-loop-stmt
invariant-put_labels-loop-stmt l = texts l.names ≡ texts l.initial.names ++ flat_map names_of (take l.stmt-index l.stmts)

abbrev pub invariant-put_labels_of_branches-loop-branch : goal.invariant-put_labels_of_branches-loop-branch
invariant-put_labels_of_branches-loop-branch l = texts l.names ≡ texts l.initial.names ++ flat_map names_of_branch (take l.branch-index l.branches)

use Rattle.std.proofs.Common.{◌≡◌, ℕ, List, take}
use Rattle.da_scope.specs.LabelsView.{number_among, number_in}
use Rattle.da_scope.specs.NamesView.{texts}
use Rattle.da_scope.proofs.labels.numbered.Given as goal

abbrev pub invariant-loop-name : goal.invariant-loop-name
invariant-loop-name l = record {
  number : l.number ≡ l.name-index;
  numbers : (q : List ℕ) → number_in l.numbers q ≡ number_among (texts (take l.name-index l.names)) q;
}

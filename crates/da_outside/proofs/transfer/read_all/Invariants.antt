use Rattle.std.proofs.Common.{◌≡◌, ◌≤◌, ◌-◌, ◌+◌, ℕ, List, length}
use Rattle.da_outside.specs.Outside.{HasPrefix}
use Rattle.da_outside.proofs.transfer.read_all.Given as goal

abbrev pub invariant-pieces : goal.invariant-pieces
invariant-pieces g l = record {
  within : length l.text ≤ l.limit + 1;
  front : HasPrefix (g.F.Files.told l.initial.files l.name) l.text;
  same : (x : List ℕ) → g.F.Files.told l.files x ≡ g.F.Files.told l.initial.files x;
  faults : (x : List ℕ) → g.F.Files.faults l.files x ≡ g.F.Files.faults l.initial.files x;
}

abbrev pub decreases-pieces : goal.decreases-pieces
decreases-pieces g l = l.limit + 1 - length l.text

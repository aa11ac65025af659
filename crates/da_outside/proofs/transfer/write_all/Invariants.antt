use Rattle.std.proofs.Common.{◌≡◌, ◌≤◌, ◌-◌, take, length}
use Rattle.da_outside.specs.Outside.{Appends}
use Rattle.da_outside.proofs.transfer.write_all.Given as goal

abbrev pub invariant-pieces : goal.invariant-pieces
invariant-pieces g l = record {
  within : l.place ≤ length l.bytes;
  taken : Appends (g.K.Sink.taken l.initial.out) (g.K.Sink.taken l.out) (take l.place l.bytes);
  faults : g.K.Sink.faults l.out ≡ g.K.Sink.faults l.initial.out;
}

abbrev pub decreases-pieces : goal.decreases-pieces
decreases-pieces g l = length l.bytes - l.place

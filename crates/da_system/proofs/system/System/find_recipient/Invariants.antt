use Rattle.std.proofs.Common.{◌+◌, ◌*◌, ◌≤◌}
use Rattle.std.specs.List.{filter}
use Rattle.da_system.specs.Choices.{deliveries_from, deliveries_to, is_allowed}
use Rattle.da_system.specs.Queues.{count_of}
use Rattle.da_system.specs.State.{Whichever, program_of}
use Rattle.da_system.proofs.FindLemmas.{LeadsFrom}
use Rattle.da_system.proofs.system.System.find_recipient.Given as goal

abbrev pub invariant-loop-place : goal.invariant-loop-place
invariant-loop-place l = record {
  leads : Whichever l.self (λ s.
      let allowed = is_allowed (program_of l.self) s in
      LeadsFrom allowed (deliveries_to l.p) (filter allowed (deliveries_from s l.p)) l.j (count_of l.self.network.channels) l.place l.left);
  few : l.j ≤ l.left + l.place * 4;
}

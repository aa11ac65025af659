use Rattle.std.proofs.Common.{◌+◌, ◌≤◌}
use Rattle.std.specs.List.{filter}
use Rattle.da_system.specs.Choices.{deliveries_to, is_allowed}
use Rattle.da_system.specs.Network.{Whichever, program_of}
use Rattle.da_system.proofs.ChoiceLemmas.{one_message}
use Rattle.da_system.proofs.FindLemmas.{LeadsFrom}
use Rattle.da_system.proofs.network.Network.find_delivery_to.Given as goal

abbrev pub invariant-loop-place : goal.invariant-loop-place
invariant-loop-place l = record {
  leads : Whichever l.self (λ s.
      let allowed = is_allowed (program_of l.self) s in
      LeadsFrom allowed (one_message l.p l.q) (filter allowed (deliveries_to l.p l.q)) l.j 4 l.place l.left);
  few : l.j ≤ l.left + l.place;
}

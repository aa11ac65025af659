use Rattle.std.proofs.Common.{◌+◌, ◌≤◌}
use Rattle.std.specs.List.{filter}
use Rattle.da_system.specs.Choices.{is_allowed}
use Rattle.da_system.specs.Network.{Whichever, program_of}
use Rattle.da_system.proofs.ChoiceLemmas.{one_take, takes_of}
use Rattle.da_system.proofs.FindLemmas.{LeadsFrom}
use Rattle.da_system.proofs.network.Network.find_move_of.Given as goal

abbrev pub invariant-loop-place : goal.invariant-loop-place
invariant-loop-place l = record {
  leads : Whichever l.self (λ s.
      let allowed = is_allowed (program_of l.self) s in
      LeadsFrom allowed (one_take l.p) (filter allowed (takes_of s l.p)) l.j l.place-end l.place l.left);
  few : l.j ≤ l.left + 1 + l.place;
}

use Rattle.std.proofs.Common.{◌+◌, ◌*◌, ◌^◌, ◌≤◌}
use Rattle.std.specs.List.{filter, flat_map}
use Rattle.da_system.specs.Choices.{is_allowed, moves_of, processes}
use Rattle.da_system.specs.Queues.{count_of}
use Rattle.da_system.specs.State.{Whichever, program_of}
use Rattle.da_system.proofs.FindLemmas.{LeadsFrom}
use Rattle.da_system.proofs.system.System.find_move.Given as goal

abbrev pub invariant-loop-place : goal.invariant-loop-place
invariant-loop-place l = record {
  leads : Whichever l.self (λ s.
      let allowed = is_allowed (program_of l.self) s in
      LeadsFrom allowed (moves_of s) (filter allowed (flat_map (moves_of s) (processes s))) l.j (count_of l.self.network.channels) l.place l.left);
  few : l.j ≤ l.left + l.place * (2 ^ 32 + 1);
}

use Rattle.std.proofs.Common.{◌≡◌, take, false}
use Rattle.std.specs.List.{list_any}
use Rattle.std.specs.Prelude.{◌==◌}
use Rattle.node_run.specs.Hearing.{held_in}
use Rattle.node_run.proofs.holding.is_among.Given as goal

abbrev pub invariant-loop-packet : goal.invariant-loop-packet
invariant-loop-packet l = list_any (λ x. x.sender == l.sender) (held_in (take l.packet-index l.packets)) ≡ false

use Rattle.std.proofs.Common.{◌≡◌}
use Rattle.store_cases.proofs.udp_tries.await_one.Given as goal

abbrev pub invariant-loop : goal.invariant-loop
invariant-loop g l = g.L.Link.count l.link ≡ g.L.Link.count l.initial.link

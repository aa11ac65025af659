use Rattle.std.proofs.Common.{arith}
use Rattle.da_system.proofs.network.Network.moves.Goals as goal

pub returns-clause-number : goal.returns-clause-number
returns-clause-number c = λ s stands. omega (arith, c.in-Err.ensures.found s stands)

pub returns-clause-few : goal.returns-clause-few
returns-clause-few c = omega (arith, c.in-Err.ensures.few)

use Rattle.std.proofs.Common.{◌∙◌, arith, subst, sym}
use Rattle.da_system.specs.Queues.{IsAmong}
use Rattle.da_system.proofs.CountLaws.{moves_none, moves_there}
use Rattle.da_system.proofs.counts.Counts.put_moves.Goals as goal

pub put_moves_at-requires-clause-place : goal.put_moves_at-requires-clause-place
put_moves_at-requires-clause-place c = omega (arith, c.in-Some.ensures.1, c.movers.ensures)

pub returns-in-Some : goal.returns-in-Some
returns-in-Some c = c.put_moves_at.ensures ∙ moves_there c.args.self.now c.args.p c.in-Some.place c.args.count c.in-Some.ensures.0

pub returns-in-None : goal.returns-in-None
returns-in-None c = moves_none c.args.self.now c.args.p c.args.count (λ among. c.in-None.ensures (subst (λ n. IsAmong n c.args.p) (sym c.movers.ensures) among))

use Rattle.std.proofs.Common.{◌∙◌, arith, subst, sym}
use Rattle.da_system.specs.Queues.{IsAmong}
use Rattle.da_system.proofs.CountLaws.{put_out}
use Rattle.da_system.proofs.PlaceLemmas.{numbered_put}
use Rattle.da_system.proofs.counts.Row.put.Goals as goal

pub put_at-requires-clause-place : goal.put_at-requires-clause-place
put_at-requires-clause-place c = omega (arith, c.in-Some.ensures.1, c.len.ensures)

pub returns-in-Some : goal.returns-in-Some
returns-in-Some c = c.put_at.ensures ∙ numbered_put c.args.self.now c.args.q c.in-Some.place c.args.count c.in-Some.ensures.0

pub returns-in-None : goal.returns-in-None
returns-in-None c = sym (put_out c.args.self.now c.args.q c.args.count (λ among. c.in-None.ensures (subst (λ n. IsAmong n c.args.q) (sym c.len.ensures) among)))

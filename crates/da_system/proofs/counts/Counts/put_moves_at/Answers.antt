use Rattle.std.proofs.Common.{ap, arith, length, subst, sym}
use Rattle.std.specs.List.{AllByRecursion}
use Rattle.da_system.specs.Counted.{Counted, IsFewMoves}
use Rattle.da_system.proofs.CountLaws.{moves_as}
use Rattle.da_system.proofs.SystemLaws.{all_set}
use Rattle.da_system.proofs.counts.Counts.put_moves_at.Goals as goal

pub replace-requires : goal.replace-requires
replace-requires c = omega (arith, c.requires.place, ap (λ (counts : Counted). length counts.moves) c.self.view_is)

pub invariant_of-self : goal.invariant_of-self
invariant_of-self c = subst (AllByRecursion IsFewMoves) (sym c.replace.ensures.put) (all_set IsFewMoves c.self.inside.moves c.args.place c.args.count c.self.invariant (λ old there kept. c.requires.few))

pub returns : goal.returns
returns c = moves_as c.self.inside.moves c.replace.new.self c.self.inside.deliveries.items c.args.self.now c.args.place c.args.count c.self.view_is c.replace.ensures.put

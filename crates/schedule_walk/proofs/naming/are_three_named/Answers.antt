use Rattle.std.proofs.Common.{[], ◌∷◌}
use Rattle.schedule_walk.proofs.NameLemmas.{first_unnamed, others_named}
use Rattle.schedule_walk.proofs.naming.are_three_named.Goals as goal

pub returns-then-not-is_named : goal.returns-then-not-is_named
returns-then-not-is_named c = first_unnamed _ c.args.p (c.args.q ∷ c.args.i ∷ []) c.is_named.ensures c.if-not-is_named.true

pub returns : goal.returns
returns c = others_named _ _ c.args.p (c.args.q ∷ c.args.i ∷ []) c.is_named.ensures c.if-not-is_named.false c.are_two_named.ensures

use Rattle.std.proofs.Common.{◌∙◌, sym, arith}
use Rattle.type_table.proofs.RootLaws.{after_is}
use Rattle.type_table.proofs.roots.root.Goals as goal

pub shorten-at-requires-clause-inside : goal.shorten-at-requires-clause-inside
shorten-at-requires-clause-inside c =
    omega (arith, c.loop-next.invariant.0, c.loop-next.invariant.1.table c.loop-next.at _ (after_is c.loop-next.forms c.loop-next.at _ c.in-Some.next c.form_at.ensures (sym c.link.ensures ∙ c.in-Some.is)))

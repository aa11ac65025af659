use Rattle.std.proofs.Common.{◌∙◌, ap, inl, refl, subst, sym}
use Rattle.da_values.specs.Sets.{Has}
use Rattle.query_plan.specs.Seen.{given}
use Rattle.query_plan.specs.Storing.{AreBelow, named_nodes, test_nodes}
use Rattle.query_plan.proofs.EntryLaws.{copied_rows, flat_below, flat_named, told_flat}
use Rattle.query_plan.proofs.twins.told_by.Goals as goal

pub returns-then-has_no_parts-clause-rows : goal.returns-then-has_no_parts-clause-rows
returns-then-has_no_parts-clause-rows c = λ rows root flat.
    ap (given rows) c.over_root.ensures ∙ told_flat rows c.args.tests.now c.in_ok-all.all c.args.node root (flat (c.has_no_parts.ensures c.if-has_no_parts.true)) c.in_ok-all.ensures

pub returns-then-has_no_parts-clause-named : goal.returns-then-has_no_parts-clause-named
returns-then-has_no_parts-clause-named c = λ end small below.
    subst (λ s. AreBelow end (named_nodes s)) (sym c.over_root.ensures) (flat_below end c.args.node c.args.tests.now c.in_ok-all.all small below c.in_ok-all.ensures)

pub returns-then-has_no_parts-clause-here : goal.returns-then-has_no_parts-clause-here
returns-then-has_no_parts-clause-here c =
    subst (λ s. Has (named_nodes s) c.args.node) (sym c.over_root.ensures) (flat_named c.args.node c.args.tests.now c.in_ok-all.all c.in_ok-all.ensures)

pub returns-clause-rows : goal.returns-clause-rows
returns-clause-rows c = λ rows root flat. copied_rows rows c.args.node c.args.tests.now c.in_ok-copy.copy c.in_ok-copy.ensures

pub returns-clause-named : goal.returns-clause-named
returns-clause-named c = λ end small below. (small, subst (λ ts. AreBelow end (test_nodes ts)) (sym c.in_ok-copy.ensures) below)

pub returns-clause-here : goal.returns-clause-here
returns-clause-here c = inl refl

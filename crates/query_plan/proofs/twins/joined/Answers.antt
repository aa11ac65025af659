use Rattle.std.proofs.Common.{◌∙◌, ap, subst, sym}
use Rattle.query_plan.specs.Seen.{given}
use Rattle.query_plan.specs.Storing.{AreBelow, named_nodes, test_nodes}
use Rattle.query_plan.proofs.EntryLaws.{as_low, joined_below, joined_law}
use Rattle.query_plan.proofs.twins.joined.Goals as goal

pub returns : goal.returns
returns c = record {
  rows = λ known root.
      ap (given known) c.over_root.ensures
      ∙ joined_law c.args.filled known c.args.over.now c.args.under.now c.as_slice-tests.result.now c.in_ok-all.all c.in-Some.last c.signed.result (c.is_over_root.ensures c.if-not-is_over_root.false) c.as_slice-tests.ensures root
      (c.in-Some.ensures.row known root) (c.signed.ensures.met known) c.in_ok-all.ensures;
  named = λ end over under.
      subst (λ s. AreBelow end (named_nodes s)) (sym c.over_root.ensures)
      (joined_below end c.as_slice-tests.result.now c.in_ok-all.all c.signed.result (subst (λ ts. AreBelow end (test_nodes ts)) (sym c.as_slice-tests.ensures) over.1)
      (as_low c.in-Some.last.node c.signed.result.node end c.signed.ensures.node (c.in-Some.ensures.named end under)) c.in_ok-all.ensures);
}

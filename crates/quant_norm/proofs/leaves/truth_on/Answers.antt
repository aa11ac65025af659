use Rattle.quant_norm.proofs.HandedOn.{truth_filters}
use Rattle.quant_norm.proofs.leaves.truth_on.Goals as goal

pub returns : goal.returns
returns c = truth_filters _ _ _ _ _ _ _ c.in_ok-term.ensures c.in_ok-test.ensures c.filter_on.ensures

use Rattle.quant_norm.specs.Making.{place_of}
use Rattle.quant_norm.proofs.HandedOn.{both_compare}
use Rattle.quant_norm.proofs.leaves.compare_both.Goals as goal

pub returns : goal.returns
returns c = both_compare _ _ _ _ (place_of c.args.at.now) (place_of c.args.last.now) c.args.nodes.now _ _ c.in_ok-test.ensures c.compare_on.ensures

use Rattle.quant_norm.specs.Making.{place_of}
use Rattle.quant_norm.proofs.FullNodes.{halted}
use Rattle.quant_norm.proofs.HandedOn.{never_filters, never_over}
use Rattle.quant_norm.proofs.leaves.never_on.Goals as goal

pub returns : goal.returns
returns c = never_filters _ (place_of c.args.at.now) c.args.nodes.now _ _ _ _ c.in_ok-test.ensures c.in_ok-child.ensures c.anti_on.ensures

pub returns-in_err-child : goal.returns-in_err-child
returns-in_err-child c = halted _ _ _ _ c.from_residual-in_err-child.ensures.1 (λ e. never_over _ (place_of c.args.at.now) c.args.nodes.now c.in_ok-test.ensures (c.in_err-child.ensures e))

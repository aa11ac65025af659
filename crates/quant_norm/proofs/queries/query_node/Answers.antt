use Rattle.quant_norm.proofs.FullNodes.{halted}
use Rattle.quant_norm.proofs.FullPlans.{asked_over_gens, comp_over_gens, comp_over_node, agg_asked_over}
use Rattle.quant_norm.proofs.queries.query_node.Goals as goal

pub returns-in_err-last-in-Quant : goal.returns-in_err-last-in-Quant
returns-in_err-last-in-Quant c = halted _ _ _ _ c.from_residual.ensures.1 (λ e. asked_over_gens _ _ _ _ _ _ _ c.in-Quant.is c.as_slice.ensures c.root_place-root.ensures (c.in_err-last-in-Quant.ensures e))

pub returns-in_err-last-in-Comp : goal.returns-in_err-last-in-Comp
returns-in_err-last-in-Comp c = halted _ _ _ _ c.from_residual-in_err-last-in-Comp.ensures.1 (λ e. comp_over_gens _ _ _ _ _ _ _ c.in-Comp.is c.as_slice-in-Comp.ensures c.root_place-root.ensures (c.in_err-last-in-Comp.ensures e))

pub returns-in_err-node-in-Comp : goal.returns-in_err-node-in-Comp
returns-in_err-node-in-Comp c = halted _ _ _ _ c.from_residual-in_err-node-in-Comp.ensures.1 (λ e. comp_over_node _ _ _ _ _ _ _ _ _ c.in-Comp.is c.as_slice-in-Comp.ensures c.root_place-root.ensures c.in_ok-last-in-Comp.ensures (c.in_err-node-in-Comp.ensures e))

pub returns-in_err-bind_agg-in-Agg : goal.returns-in_err-bind_agg-in-Agg
returns-in_err-bind_agg-in-Agg c = halted _ _ _ _ c.from_residual-in_err-bind_agg-in-Agg.ensures.1 (λ e. agg_asked_over _ _ _ _ _ c.in-Agg.is c.get.ensures c.root_place-root.ensures (c.in_err-bind_agg-in-Agg.ensures e))

use Rattle.quant_norm.specs.Making.{place_of}
use Rattle.quant_norm.proofs.FullNodes.{bind_halted}
use Rattle.quant_norm.proofs.HandedOn.{over_made, over_full}
use Rattle.quant_norm.proofs.leaves.bind_rows.Goals as goal

pub returns : goal.returns
returns c = over_made c.args.agg.now (place_of c.args.at.now) (place_of c.args.rows.now) c.args.nodes.now _ _ _ _ _ c.in_ok-term.ensures c.in_ok-other.ensures c.in_ok-number.ensures c.in_ok-width.ensures

pub returns-in_err-number : goal.returns-in_err-number
returns-in_err-number c = bind_halted _ _ _ _ c.from_residual-in_err-number.ensures.1 (λ e. over_full c.args.agg.now (place_of c.args.at.now) (place_of c.args.rows.now) c.args.nodes.now _ _ c.in_ok-term.ensures c.in_ok-other.ensures (c.in_err-number.ensures e))

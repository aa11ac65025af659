use Rattle.quant_norm.proofs.FullPlans.{put_halted}
use Rattle.quant_norm.proofs.PutOn.{awaited_made, awaited_over_asked, awaited_over_flag}
use Rattle.quant_norm.proofs.classes.put_awaited.Goals as goal

pub returns : goal.returns
returns c = awaited_made _ _ _ _ _ _ _ c.in_ok-count.ensures c.in_ok-next.ensures c.in_ok-put_flag.ensures

pub returns-in_err-next : goal.returns-in_err-next
returns-in_err-next c = put_halted _ _ _ _ c.from_residual-in_err-next.ensures.1 (λ e. awaited_over_asked _ _ _ _ c.in_ok-count.ensures (c.in_err-next.ensures e))

pub returns-in_err-put_flag : goal.returns-in_err-put_flag
returns-in_err-put_flag c = put_halted _ _ _ _ c.from_residual-in_err-put_flag.ensures.1 (λ e. awaited_over_flag _ _ _ _ _ _ c.in_ok-count.ensures c.in_ok-next.ensures (c.in_err-put_flag.ensures e))

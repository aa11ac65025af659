use Rattle.quant_norm.proofs.PutOn.{counted}
use Rattle.quant_norm.proofs.classes.put_args.Goals as goal

pub returns : goal.returns
returns c = counted _ _ _ _ _ _ c.in_ok-count.ensures c.put_asked.ensures

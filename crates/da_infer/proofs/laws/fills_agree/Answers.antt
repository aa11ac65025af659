use Rattle.da_infer.proofs.InferLaws.{fills_agree}
use Rattle.da_infer.proofs.laws.fills_agree.Goals as goal

pub returns : goal.returns
returns c = fills_agree c.only_types_differ.ensures.put_names c.only_types_differ.ensures.put_limits

use Rattle.da_infer.proofs.InferLaws.{fills_are_demanded}
use Rattle.da_infer.proofs.laws.fills_are_demanded.Goals as goal

pub returns : goal.returns
returns c = fills_are_demanded c.only_types_differ.ensures.put_resolves c.demands_agree.ensures.demanded

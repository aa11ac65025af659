use Rattle.da_infer.proofs.InferLaws.{fills_are_written}
use Rattle.da_infer.proofs.laws.fills_are_written.Goals as goal

pub returns : goal.returns
returns c = fills_are_written

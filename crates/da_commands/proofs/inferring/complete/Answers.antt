use Rattle.da_commands.proofs.InferLemmas.{is_loose}
use Rattle.da_commands.proofs.inferring.complete.Goals as goal

pub infer-requires : goal.infer-requires
infer-requires c = record { loose = is_loose _ _ c.in_ok-loose.ensures.ok }

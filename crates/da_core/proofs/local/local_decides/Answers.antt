use Rattle.da_core.proofs.LocalLaws.{local_decides}
use Rattle.da_core.proofs.local.local_decides.Goals as goal

pub returns : goal.returns
returns c = local_decides

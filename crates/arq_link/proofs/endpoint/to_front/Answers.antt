use Rattle.std.proofs.Common.{ap}
use Rattle.da_outside.specs.declared.link.LinkAnswer.TheVariants.{Datagram}
use Rattle.arq_link.proofs.HearLaws.{moved_to_front}
use Rattle.arq_link.proofs.endpoint.to_front.Goals as goal

pub returns-clause-is : goal.returns-clause-is
returns-clause-is c = ap Datagram (moved_to_front _ _ c.args.len c.requires.0 c.requires.1 c.copy_within.ensures.len c.copy_within.ensures.by_index.0)

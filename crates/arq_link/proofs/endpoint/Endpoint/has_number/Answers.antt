use Rattle.std.proofs.Common.{arith}
use Rattle.arq_link.proofs.GiveLaws.{number_there}
use Rattle.arq_link.proofs.SessionLaws.{session_read}
use Rattle.arq_link.proofs.endpoint.Endpoint.has_number.Goals as goal

pub returns : goal.returns
returns c = number_there _ c.args.to _ (session_read _ _ _ _ c.as_slice.ensures (omega (arith, c.requires.0, c.requires.1)))

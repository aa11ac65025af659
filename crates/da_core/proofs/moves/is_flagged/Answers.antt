use Rattle.da_core.proofs.KnownLaws.{flag_is}
use Rattle.da_core.proofs.moves.is_flagged.Goals as goal

pub returns : goal.returns
returns c = flag_is c.args.known.now c.args.flag c.flag.result c.flag.ensures

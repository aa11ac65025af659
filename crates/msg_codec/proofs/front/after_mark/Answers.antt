use Rattle.std.proofs.lemmas.Bool.Decides.{Decides-eqb}
use Rattle.std.proofs.lemmas.Slice.Eq.{strip_prefix_is}
use Rattle.msg_codec.specs.Packets.{mark}
use Rattle.msg_codec.proofs.front.after_mark.Goals as goal

pub returns : goal.returns
returns c = strip_prefix_is Decides-eqb c.args.bytes.now mark c.strip_prefix.result c.strip_prefix.ensures.cases

use Rattle.std.proofs.Common.{map}
use Rattle.std.specs.String.{string_bytes}
use Rattle.scout_commands.proofs.OptionLemmas.{no_way, way_named}
use Rattle.scout_commands.proofs.options.take_named.Goals as goal

pub returns-in-Some : goal.returns-in-Some
returns-in-Some c = way_named c.args.options c.in-Some.way c.args.word.now (map string_bytes c.args.others.now) c.take_way.result c.in-Some.ensures c.take_way.ensures

pub returns-in-None : goal.returns-in-None
returns-in-None c = no_way c.args.options c.args.word.now (map string_bytes c.args.others.now) c.in-None.ensures

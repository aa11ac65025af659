use Rattle.std.proofs.Common.{map}
use Rattle.std.specs.String.{string_bytes}
use Rattle.scout_commands.proofs.OptionLemmas.{of_kind, of_no_kind}
use Rattle.scout_commands.proofs.options.take_option.Goals as goal

pub returns-in-Some : goal.returns-in-Some
returns-in-Some c = of_kind c.in-Some.kind c.args.options c.args.word.now (map string_bytes c.args.others.now) c.take_of.result c.in-Some.ensures c.take_of.ensures

pub returns-in-None : goal.returns-in-None
returns-in-None c = of_no_kind c.args.options c.args.word.now (map string_bytes c.args.others.now) c.in-None.ensures

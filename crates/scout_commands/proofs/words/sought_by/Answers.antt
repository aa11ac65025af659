use Rattle.std.proofs.Common.{map}
use Rattle.std.specs.String.{string_bytes}
use Rattle.scout_commands.proofs.WordLemmas.{no_sought}
use Rattle.scout_commands.proofs.words.sought_by.Goals as goal

pub returns-in-Some : goal.returns-in-Some
returns-in-Some c = λ words aims. (map string_bytes c.args.aimed.others.now, aims, c.in-Some.ensures)

pub returns : goal.returns
returns c = λ words aims. no_sought words c.args.aimed.aim (map string_bytes c.args.aimed.others.now) aims c.in-None.ensures

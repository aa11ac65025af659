use Rattle.std.proofs.Common.{map}
use Rattle.std.specs.String.{string_bytes}
use Rattle.scout_commands.proofs.WordLemmas.{none_sought}
use Rattle.scout_commands.proofs.words.sought_of.Goals as goal

pub returns-in-Some : goal.returns-in-Some
returns-in-Some c = c.sought_by.ensures (map string_bytes c.args.words.now) (rw c.in-Some.is at c.in_ok-aimed.ensures)

pub returns-in-None : goal.returns-in-None
returns-in-None c = none_sought (map string_bytes c.args.words.now) (rw c.in-None.is at c.in_ok-aimed.ensures)

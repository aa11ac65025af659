use Rattle.std.proofs.Common.{map}
use Rattle.std.specs.String.{string_bytes}
use Rattle.scout_commands.proofs.WordLemmas.{enter_missed}
use Rattle.scout_commands.proofs.words.overlap_by.Goals as goal

pub returns-in-Some : goal.returns-in-Some
returns-in-Some c = c.overlap_from.ensures c.args.enter.now (rw c.in-Some.is at c.in_ok-found.ensures)

pub returns-in-None : goal.returns-in-None
returns-in-None c = enter_missed c.args.enter.now c.args.leave.now (map string_bytes c.args.others.now) (rw c.in-None.is at c.in_ok-found.ensures)

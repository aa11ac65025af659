use Rattle.std.proofs.Common.{map, refl}
use Rattle.std.specs.String.{string_bytes}
use Rattle.scout_commands.proofs.WordLemmas.{leave_missed}
use Rattle.scout_commands.proofs.words.overlap_from.Goals as goal

pub returns-in-Some : goal.returns-in-Some
returns-in-Some c = λ a text. (a, c.args.leave.now, refl, text, rw c.in-Some.is at c.in_ok-found.ensures)

pub returns-in-None : goal.returns-in-None
returns-in-None c = λ a text. leave_missed a c.args.leave.now (map string_bytes c.args.others.now) (rw c.in-None.is at c.in_ok-found.ensures)

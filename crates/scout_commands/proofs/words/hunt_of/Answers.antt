use Rattle.std.proofs.Common.{map}
use Rattle.std.specs.String.{string_bytes}
use Rattle.scout_commands.proofs.WordLemmas.{unsought}
use Rattle.scout_commands.proofs.words.hunt_of.Goals as goal

pub returns-in_default-sought : goal.returns-in_default-sought
returns-in_default-sought c =
    unsought c.args.command.now c.args.program.now c.args.start.now c.args.count.now c.args.most.now (map string_bytes c.args.what.now) (rw c.in_default-sought.is at c.in_ok-sought.ensures)

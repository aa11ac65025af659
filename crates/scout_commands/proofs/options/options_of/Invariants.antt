-- What is left of the words decides.
use Rattle.std.proofs.Common.{length, map}
use Rattle.std.specs.String.{string_bytes}
use Rattle.scout_commands.proofs.OptionLemmas.{Left}
use Rattle.scout_commands.proofs.options.options_of.Given as goal

abbrev pub invariant-left : goal.invariant-left
invariant-left l = Left (map string_bytes l.words) l.options (map string_bytes l.rest)

abbrev pub decreases-left : goal.decreases-left
decreases-left l = length l.rest

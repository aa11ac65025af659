use Rattle.std.proofs.Common.{◌≡◌, drop}
use Rattle.da_lang.specs.QueryTypes.{gens_row}
use Rattle.da_typing.specs.KnownView.{known_of}
use Rattle.da_typing.proofs.patterns.gens_row.Given as goal

abbrev pub invariant-loop-generator : goal.invariant-loop-generator
invariant-loop-generator l = gens_row (known_of l.known) (drop l.generator-index l.gens) l.row ≡ gens_row (known_of l.known) l.gens l.initial.row

use Rattle.std.proofs.Common.{◌≡◌, map, drop}
use Rattle.da_lang.specs.QueryTypes.{each_part, pattern_row}
use Rattle.da_typing.specs.KnownView.{known_of}
use Rattle.da_typing.proofs.patterns.+patterns.Given as goal

abbrev pub invariant-parts_row-loop-pattern : goal.invariant-parts_row-loop-pattern
invariant-parts_row-loop-pattern l = each_part (map (pattern_row (known_of l.known)) (drop l.pattern-index l.patterns)) l.rest l.row ≡ each_part (map (pattern_row (known_of l.known)) l.patterns) l.types l.initial.row

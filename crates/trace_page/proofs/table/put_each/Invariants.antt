use Rattle.std.proofs.Common.{◌≡◌, ◌++◌, length}
use Rattle.std.specs.List.{flat_map}
use Rattle.std.specs.Str.Lines.{lines}
use Rattle.trace_page.specs.PageText.{program_line}
use Rattle.trace_page.proofs.table.put_each.Given as goal

abbrev pub invariant-lines : goal.invariant-lines
invariant-lines l = l.out ++ flat_map program_line (lines l.rest) ≡ l.fn.out ++ flat_map program_line (lines l.program)

abbrev pub decreases-lines : goal.decreases-lines
decreases-lines l = length l.rest

use Rattle.std.proofs.Common.{◌≡◌, length}
use Rattle.std.specs.Str.Lines.{lines}
use Rattle.trace_page.specs.LastLine.{last_of, last_or}
use Rattle.trace_page.proofs.line.last_line.Given as goal

abbrev pub invariant-lines : goal.invariant-lines
invariant-lines l = last_of (lines l.text) ≡ last_or l.last (lines l.rest)

abbrev pub decreases-lines : goal.decreases-lines
decreases-lines l = length l.rest

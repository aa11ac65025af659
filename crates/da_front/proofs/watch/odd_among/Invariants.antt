use Rattle.std.proofs.Common.{◌≡◌, drop}
use Rattle.da_front.specs.WatchText.{odd_in}
use Rattle.da_front.proofs.watch.odd_among.Given as goal

abbrev pub invariant-loop-line : goal.invariant-loop-line
invariant-loop-line l = odd_in l.first (drop l.line-index l.lines) ≡ odd_in l.first l.lines

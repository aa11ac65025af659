use Rattle.std.proofs.Common.{◌≡◌, drop}
use Rattle.std.specs.List.{list_all}
use Rattle.da_front.specs.WatchText.{is_setup}
use Rattle.da_front.proofs.watch.sets_up.Given as goal

abbrev pub invariant-loop-line : goal.invariant-loop-line
invariant-loop-line l = list_all is_setup (drop l.line-index l.lines) ≡ list_all is_setup l.lines

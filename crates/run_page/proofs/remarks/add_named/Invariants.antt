use Rattle.std.proofs.Common.{◌≡◌, ◌++◌, length}
use Rattle.run_page.specs.Remarks.{events_named}
use Rattle.run_page.proofs.remarks.add_named.Given as goal

abbrev pub invariant-bytes : goal.invariant-bytes
invariant-bytes l = l.numbers ++ events_named l.left ≡ l.fn.numbers ++ events_named l.text

abbrev pub decreases-bytes : goal.decreases-bytes
decreases-bytes l = length l.left

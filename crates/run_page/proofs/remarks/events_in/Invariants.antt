use Rattle.std.proofs.Common.{◌≡◌, take}
use Rattle.std.specs.List.{flat_map}
use Rattle.run_page.specs.Remarks.{events_named}
use Rattle.run_page.proofs.remarks.events_in.Given as goal

abbrev pub invariant-loop-remark : goal.invariant-loop-remark
invariant-loop-remark l = l.numbers ≡ flat_map events_named (take l.remark-index l.remarks)

use Rattle.std.proofs.Common.{◌≡◌, ◌++◌, take}
use Rattle.std.specs.List.{flat_map}
use Rattle.trace_page.specs.PageText.{remark_text}
use Rattle.trace_page.proofs.whole.put_remarks.Given as goal

abbrev pub invariant-loop-remark : goal.invariant-loop-remark
invariant-loop-remark l = l.out ≡ l.fn.out ++ flat_map remark_text (take l.remark-index l.remarks)

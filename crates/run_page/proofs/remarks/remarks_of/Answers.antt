use Rattle.std.proofs.Common.{◌++◌, ◌∙◌, ap}
use Rattle.run_page.specs.Remarks.{remark_on}
use Rattle.run_page.proofs.remarks.remarks_of.Goals as goal

pub returns : goal.returns
returns c = c.in_ok-add_remark.ensures ∙ ap (λ before. before ++ remark_on c.last_line.result.now) c.new-remarks.ensures ∙ ap remark_on c.last_line.ensures

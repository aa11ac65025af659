use Rattle.std.proofs.Common.{◌++◌, ◌∙◌, ap, append-nil, sym}
use Rattle.std.proofs.lemmas.Result.{on_ok_weaker}
use Rattle.run_page.proofs.RemarkLemmas.{no_remark, remark_first}
use Rattle.run_page.proofs.remarks.add_remark.Goals as goal

pub returns-in-len1-up : goal.returns-in-len1-up
returns-in-len1-up c =
    on_ok_weaker c.add_words.result (λ adds. adds ∙ ap (λ more. c.args.remarks.now ++ more) (remark_first c.args.line.now _ c.in-len1-up.len_at_least)) c.add_words.ensures

pub returns-in-empty : goal.returns-in-empty
returns-in-empty c = sym (append-nil c.args.remarks.now) ∙ ap (λ more. c.args.remarks.now ++ more) (no_remark c.args.line.now c.in-empty.len_below)

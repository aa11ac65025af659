use Rattle.run_page.proofs.RemarkLemmas.{no_output, output_first}
use Rattle.run_page.proofs.remarks.is_output.Goals as goal

pub returns-in-len1-up : goal.returns-in-len1-up
returns-in-len1-up c = output_first c.args.words.now _ c.in-len1-up.len_at_least

pub returns-in-empty : goal.returns-in-empty
returns-in-empty c = no_output c.args.words.now c.in-empty.len_below

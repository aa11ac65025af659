use Rattle.std.proofs.Common.{◌∙◌, ap, sym}
use Rattle.query_plan.specs.Nodes.{reads}
use Rattle.query_plan.specs.Storing.{all_kept}
use Rattle.query_plan.proofs.storing.keep_read.Goals as goal

pub returns-in-Gen : goal.returns-in-Gen
returns-in-Gen c = c.keep.ensures ∙ sym (ap (λ n. all_kept c.args.kept.now (reads n)) c.in-Gen.is)

pub returns-in-Filter : goal.returns-in-Filter
returns-in-Filter c = c.keep-in-Filter.ensures ∙ sym (ap (λ n. all_kept c.args.kept.now (reads n)) c.in-Filter.is)

pub returns-in-Semi : goal.returns-in-Semi
returns-in-Semi c = c.keep_both.ensures ∙ sym (ap (λ n. all_kept c.args.kept.now (reads n)) c.in-Semi.is)

pub returns-in-Anti : goal.returns-in-Anti
returns-in-Anti c = c.keep_both-in-Anti.ensures ∙ sym (ap (λ n. all_kept c.args.kept.now (reads n)) c.in-Anti.is)

pub returns-in-Union : goal.returns-in-Union
returns-in-Union c = c.keep_both-in-Union.ensures ∙ sym (ap (λ n. all_kept c.args.kept.now (reads n)) c.in-Union.is)

pub returns-in-AggBind : goal.returns-in-AggBind
returns-in-AggBind c = c.keep_both-in-AggBind.ensures ∙ sym (ap (λ n. all_kept c.args.kept.now (reads n)) c.in-AggBind.is)

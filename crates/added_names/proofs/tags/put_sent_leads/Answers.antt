use Rattle.std.proofs.Common.{◌∙◌, ◌++◌, ap, sym}
use Rattle.std.proofs.lemmas.List.{append-nil}
use Rattle.added_names.proofs.TagsAt.{sent_leads-none}
use Rattle.added_names.proofs.tags.put_sent_leads.Goals as goal

pub returns-in-empty : goal.returns-in-empty
returns-in-empty c = sym (ap (λ more. c.args.out.now ++ more) (sent_leads-none c.args.line c.args.parts.now c.in-empty.len_below) ∙ append-nil c.args.out.now)

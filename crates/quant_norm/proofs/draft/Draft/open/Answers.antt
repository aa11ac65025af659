use Rattle.quant_norm.proofs.PrintLaws.{plan_opened}
use Rattle.quant_norm.proofs.draft.Draft.open.Goals as goal

pub returns : goal.returns
returns c = plan_opened c.in_ok-nodes.nodes c.new-queries.result c.new-flags.result c.in_ok-nodes.ensures c.new-queries.ensures c.new-flags.ensures

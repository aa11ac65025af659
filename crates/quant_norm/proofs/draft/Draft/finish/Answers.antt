use Rattle.std.proofs.Common.{◌∙◌, List, ap}
use Rattle.da_lang.specs.declared.query.Node.{Node}
use Rattle.quant_norm.proofs.PrintLaws.{plan_with}
use Rattle.quant_norm.proofs.draft.Draft.finish.Goals as goal

pub returns : goal.returns
returns c = ap (λ (ns : List Node). plan_with ns c.self.inside.queries c.self.inside.flags) c.into_list-nodes.ensures ∙ c.self.view_is

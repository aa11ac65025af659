use Rattle.da_infer.proofs.SolveLaws.{told_by}
use Rattle.da_infer.proofs.top.infer.Goals as goal

pub returns-clause-told : goal.returns-clause-told
returns-clause-told c = told_by c.args.loose.now c.requires.loose c.fills_agree.ensures _ c.find.ensures.inferred c.find.ensures.refused

pub returns-clause-same : goal.returns-clause-same
returns-clause-same c = c.fills_agree.ensures _ c.requires.loose

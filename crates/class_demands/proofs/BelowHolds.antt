-- The laws of the crates below hold.
use Rattle.type_demands.proofs.ExprsAgree.{expr_agrees}
use Rattle.type_demands.proofs.QueriesAgree.{cond_agrees, query_agrees}
use Rattle.type_demands.proofs.TermsAgree.{message_agrees, pattern_agrees}
use Rattle.untyped_laws.proofs.ClassBinds.{class_binds}
use Rattle.untyped_laws.proofs.FlowSteps.{class_runs}
use Rattle.class_demands.proofs.Below.{Below}

pub below : Below
below = record {
  exprs = expr_agrees;
  conds = cond_agrees;
  patterns = pattern_agrees;
  tagged = message_agrees;
  rows = query_agrees;
  flow = class_runs;
  once = class_binds;
}

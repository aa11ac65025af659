-- The laws of the crates below that are used here.
use Rattle.type_demands.specs.Meets.{ExprsAreDemanded, CondsAreDemanded, PatternsAreDemanded, MessagesAreDemanded, RowsAreDemanded}
use Rattle.untyped_laws.specs.Laws.{FlowIsSteps, BoundOnce}

pub record Below : Type 0 where
  pub exprs : ExprsAreDemanded
  pub conds : CondsAreDemanded
  pub patterns : PatternsAreDemanded
  pub tagged : MessagesAreDemanded
  pub rows : RowsAreDemanded
  pub flow : FlowIsSteps
  pub once : BoundOnce

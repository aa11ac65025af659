use Rattle.da_meaning.proofs.OutsideAt.{asked_quant, asked_comp, nothing_left}
use Rattle.da_meaning.proofs.expr.alone.Goals as goal

pub unreachable-requires : goal.unreachable-requires
unreachable-requires c =
    nothing_left c.args.x.now c.requires c.in_default.not-Quant c.in_default.not-Int c.in_default.not-Text c.in_default.not-Truth c.in_default.not-Me c.in_default.not-Name c.in_default.not-Clock
    c.in_default.not-Comp c.in_default.not-Count c.in_default.not-Sum c.in_default.not-Min c.in_default.not-Max

pub returns-in_ok-query-in-Quant-clause-tables : goal.returns-in_ok-query-in-Quant-clause-tables
returns-in_ok-query-in-Quant-clause-tables c =
    asked_quant c.ask.result _ _ _ _ c.args.scope.now c.args.tables.now c.ask.new.tables _ c.in-Quant.is c.in_ok-query-in-Quant.ensures c.ask.ensures.tables

pub returns-in_ok-query-in-Comp-clause-tables : goal.returns-in_ok-query-in-Comp-clause-tables
returns-in_ok-query-in-Comp-clause-tables c =
    asked_comp c.ask-in-Comp.result _ _ _ _ c.args.scope.now c.args.tables.now c.ask-in-Comp.new.tables _ c.in-Comp.is c.in_ok-query-in-Comp.ensures c.ask-in-Comp.ensures.tables

use Rattle.std.specs.Prelude.{◌∷◌, []}
use Rattle.std.proofs.Common.{ap, sym, ◌∙◌, subst}
use Rattle.row_pool.specs.Cells.{Cells, value_at}
use Rattle.row_pool.specs.Pool.{Trades}
use Rattle.row_pool.proofs.ExchangeLaws.{gives_as, set_stays}
use Rattle.row_pool.proofs.TradeLaws.{holds_after, holds_first, then_one_less, trades_none}
use Rattle.row_pool.proofs.pool.Pool.shrink.Goals as goal

pub give_back-requires : goal.give_back-requires
give_back-requires c = holds_first _ c.in-Ok.part (c.args.id.now ∷ []) (holds_after _ _ _ _ c.requires.held c.in-Ok.ensures.ok)

pub returns-in-Ok-clause-value : goal.returns-in-Ok-clause-value
returns-in-Ok-clause-value c =
    ap (value_at c.give_back.new.self) (c.changed.ensures.id ∙ c.same.ensures)
    ∙ set_stays c.args.self.now c.shrink_here.new.self c.give_back.new.self c.args.id.now c.in-Ok.part _ c.requires.held c.in-Ok.ensures.ok c.in-Ok.ensures.value c.give_back.ensures

pub returns-in-Ok-clause-ok : goal.returns-in-Ok-clause-ok
returns-in-Ok-clause-ok c =
    gives_as c.args.self.now c.give_back.new.self (c.args.id.now ∷ []) c.changed.result.id c.args.id.now (c.changed.ensures.id ∙ c.same.ensures)
    (then_one_less c.args.self.now c.shrink_here.new.self c.give_back.new.self (c.args.id.now ∷ []) (c.args.id.now ∷ []) c.in-Ok.part c.in-Ok.ensures.ok c.give_back.ensures)

pub returns-in-Err-clause-err : goal.returns-in-Err-clause-err
returns-in-Err-clause-err c = subst (λ (s : Cells). Trades c.args.self.now [] s []) (sym c.in-Err.ensures.err) (trades_none c.args.self.now [])

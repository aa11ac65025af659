use Rattle.std.specs.Prelude.{◌∷◌, []}
use Rattle.std.proofs.Common.{ap, sym, ◌∙◌, subst}
use Rattle.row_pool.specs.Cells.{Cells, value_at}
use Rattle.row_pool.specs.Pool.{Holds, Trades}
use Rattle.row_pool.proofs.ExchangeLaws.{gives_as, holds_second}
use Rattle.row_pool.proofs.pool.Pool.grow.Goals as goal

pub returns-in-Ok-clause-value : goal.returns-in-Ok-clause-value
returns-in-Ok-clause-value c = ap (value_at c.grow_here.new.self) (c.changed.ensures.id ∙ c.same.ensures) ∙ c.in-Ok.ensures.value

pub returns-in-Ok-clause-ok : goal.returns-in-Ok-clause-ok
returns-in-Ok-clause-ok c =
    gives_as c.args.self.now c.grow_here.new.self (c.args.id.now ∷ c.args.element ∷ []) c.changed.result.id c.args.id.now (c.changed.ensures.id ∙ c.same.ensures) c.in-Ok.ensures.ok

pub give_back-requires : goal.give_back-requires
give_back-requires c = subst (λ (s : Cells). Holds s (c.args.element ∷ [])) (sym c.in-Err.ensures.err) (holds_second _ c.args.id.now c.args.element c.requires.held)

pub returns-in-Err-clause-err : goal.returns-in-Err-clause-err
returns-in-Err-clause-err c = subst (λ (s : Cells). Trades s (c.args.element ∷ []) c.give_back.new.self []) c.in-Err.ensures.err c.give_back.ensures

use Rattle.std.specs.Prelude.{◌∷◌, []}
use Rattle.std.proofs.Common.{ap, ◌∙◌}
use Rattle.da_values.specs.Value.{val_of}
use Rattle.row_pool.specs.Cells.{value_at}
use Rattle.row_pool.proofs.ExchangeLaws.{gives_as, without_absent}
use Rattle.row_pool.proofs.TradeLaws.{trades_none}
use Rattle.row_pool.proofs.pool.Pool.leave_out.Goals as goal

pub returns-clause-value : goal.returns-clause-value
returns-clause-value c =
    ap (value_at c.args.self.now) (c.unchanged.ensures.id ∙ c.same.ensures) ∙ without_absent c.args.self.now c.args.id.now (val_of c.args.v.now) c.requires.held (c.names_set.ensures c.if-not-names_set.false) c.requires.absent

pub returns-clause-ok : goal.returns-clause-ok
returns-clause-ok c = gives_as c.args.self.now c.args.self.now (c.args.id.now ∷ []) c.unchanged.result.id c.args.id.now (c.unchanged.ensures.id ∙ c.same.ensures) (trades_none c.args.self.now (c.args.id.now ∷ []))

use Rattle.row_pool.proofs.LiveLaws.{number_live}
use Rattle.row_pool.proofs.UseLaws.{in_use, is_counted, is_one}
use Rattle.row_pool.proofs.pool.Pool.live.Goals as goal

pub returns-clause-one : goal.returns-clause-one
returns-clause-one c = is_one _ _ _ c.self.view_is c.self.invariant.pool

pub returns-clause-in_use : goal.returns-clause-in_use
returns-clause-in_use c = in_use _ _ _ c.self.view_is c.self.invariant.pool

pub returns-clause-counted : goal.returns-clause-counted
returns-clause-counted c = is_counted _ _ _ c.self.view_is c.self.invariant.pool

pub returns-clause-held : goal.returns-clause-held
returns-clause-held c = number_live _ _ _ c.len.result c.self.view_is c.self.invariant.pool c.len.ensures

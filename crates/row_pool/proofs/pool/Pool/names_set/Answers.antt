use Rattle.std.specs.Prelude.{true}
use Rattle.std.proofs.Common.{◌≡◌, ℕ}
use Rattle.row_pool.specs.Cells.{Cells}
use Rattle.row_pool.specs.Pool.{val_at}
use Rattle.row_pool.specs.Sets.{is_set}
use Rattle.row_pool.proofs.ExchangeLaws.{seen_as}
use Rattle.row_pool.proofs.pool.Pool.names_set.Goals as goal

pub returns : goal.returns
returns c = λ test. seen_as (λ (s : Cells) (k : ℕ). is_set (val_at s k) ≡ true) _ _ _ _ c.self.view_is c.id.view_is (c.has_set.ensures test)

use Rattle.std.proofs.Common.{ℕ}
use Rattle.std.specs.Prelude.{MatchResult}
use Rattle.da_values.specs.Order.{val_cmp}
use Rattle.da_values.specs.Places.{IsAt, IsBetween}
use Rattle.da_values.specs.Sets.{Ascends}
use Rattle.da_values.specs.Value.{val_of}
use Rattle.da_values.specs.Views.{elements_of}
use Rattle.row_pool.specs.Cells.{Cells}
use Rattle.row_pool.specs.Pool.{val_at}
use Rattle.row_pool.proofs.ExchangeLaws.{seen_as}
use Rattle.row_pool.proofs.pool.Pool.place_of.Goals as goal

pub returns-clause-found : goal.returns-clause-found
returns-clause-found c =
    seen_as (λ (s : Cells) (k : ℕ). MatchResult c.place_at.result (IsAt val_cmp (elements_of (val_at s k)) (val_of c.args.v.now)) (IsBetween val_cmp (elements_of (val_at s k)) (val_of c.args.v.now))) _ _ _ _ c.self.view_is c.id.view_is
    c.place_at.ensures.found

pub returns-clause-ascends : goal.returns-clause-ascends
returns-clause-ascends c = seen_as (λ (s : Cells) (k : ℕ). Ascends val_cmp (elements_of (val_at s k))) _ _ _ _ c.self.view_is c.id.view_is c.place_at.ensures.ascends

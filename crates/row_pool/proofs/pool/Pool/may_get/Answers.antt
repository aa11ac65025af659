use Rattle.std.specs.Prelude.{true}
use Rattle.std.proofs.Common.{◌≡◌, ℕ, subst}
use Rattle.row_pool.specs.Cells.{Cells, holders_at}
use Rattle.row_pool.specs.Marks.{IsFree}
use Rattle.row_pool.specs.Pool.{val_at}
use Rattle.row_pool.specs.Sets.{is_set}
use Rattle.row_pool.proofs.ExchangeLaws.{seen_as}
use Rattle.row_pool.proofs.MarkLaws.{free_at}
use Rattle.row_pool.proofs.pool.Pool.may_get.Goals as goal

pub returns-clause-one : goal.returns-clause-one
returns-clause-one c = λ _. seen_as (λ (s : Cells) (k : ℕ). holders_at s k ≡ 1) _ _ _ _ c.self.view_is c.id.view_is (c.is_alone.ensures.one c.if-not-is_alone.false)

pub returns-clause-set : goal.returns-clause-set
returns-clause-set c = λ _. seen_as (λ (s : Cells) (k : ℕ). is_set (val_at s k) ≡ true) _ _ _ _ c.self.view_is c.id.view_is (c.is_alone.ensures.set c.if-not-is_alone.false)

pub returns-clause-free : goal.returns-clause-free
returns-clause-free c = λ test. subst (λ (s : Cells). IsFree s c.args.mark) c.self.view_is (free_at _ _ c.args.mark c.self.invariant.marks (c.is_free.ensures test))

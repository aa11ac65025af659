use Rattle.std.specs.Prelude.{◌≡◌, ℕ, ◌∷◌, [], Some}
use Rattle.std.proofs.Common.{◌∙◌}
use Rattle.da_values.specs.Value.{val_of}
use Rattle.row_pool.specs.Cells.{value_at}
use Rattle.row_pool.specs.Index.{under}
use Rattle.row_pool.specs.Pool.{Trades}
use Rattle.row_pool.specs.Sets.{set_without}
use Rattle.row_pool.proofs.GrowLaws.{can_shrink, shrink_set, shrink_used, shrink_within, shrinks}
use Rattle.row_pool.proofs.MarkLaws.{listed}
use Rattle.row_pool.proofs.NewLaws.{nothing_added}
use Rattle.row_pool.proofs.PutLaws.{at_err, at_ok, if_not_ok, if_ok, not_err, not_ok}
use Rattle.row_pool.proofs.pool.Pool.shrink_here.Goals as goal
use Rattle.row_pool.proofs.pool.Pool.shrink_here.Goals.{in-Ok, in-Err}

pub shrink_cell-requires-clause-used : goal.shrink_cell-requires-clause-used
shrink_cell-requires-clause-used c = shrink_used _ _ _ _ _ (can_shrink _ _ _ _ _ _ _ c.self.view_is c.id.view_is c.requires)

pub shrink_cell-requires-clause-set : goal.shrink_cell-requires-clause-set
shrink_cell-requires-clause-set c = shrink_set _ _ _ _ _ (can_shrink _ _ _ _ _ _ _ c.self.view_is c.id.view_is c.requires)

pub shrink_cell-requires-clause-within : goal.shrink_cell-requires-clause-within
shrink_cell-requires-clause-within c = shrink_within _ _ _ _ _ _ c.self.invariant (can_shrink _ _ _ _ _ _ _ c.self.view_is c.id.view_is c.requires)

pub shrink_cell-requires-clause-there : goal.shrink_cell-requires-clause-there
shrink_cell-requires-clause-there c = λ cell at. listed _ _ _ cell c.self.invariant.marks at

pub invariant_of-self : goal.invariant_of-self
invariant_of-self c = elim c.match-shrink_cell.branch [
  | in-Ok w ↦ (shrinks _ _ _ _ _ _ _ w.in-Ok.key _ _ _ c.self.view_is c.id.view_is c.self.invariant c.requires w.in-Ok.ensures.ok).0
  | in-Err w ↦ nothing_added (under c.self.inside.index) (under c.shrink_cell.new.index) c.self.inside.cells.slots c.shrink_cell.new.cells.slots w.in-Err.ensures.listed w.in-Err.ensures.same c.self.invariant
]

pub returns-clause-value : goal.returns-clause-value
returns-clause-value c =
    let after = value_at c.shrink_cell.new.cells.slots c.args.id.now ≡ Some (set_without c.args.self.now c.args.id.now (val_of c.args.v.now)) in
    elim c.match-shrink_cell.branch [
      | in-Ok w ↦ at_ok _ after (shrinks _ _ _ _ _ _ _ w.in-Ok.key _ _ _ c.self.view_is c.id.view_is c.self.invariant c.requires w.in-Ok.ensures.ok).2
      | in-Err w ↦ not_ok _ after _ w.result-is
    ]

pub returns-clause-ok : goal.returns-clause-ok
returns-clause-ok c =
    let after : ℕ → Type 0 = λ part. Trades c.args.self.now (c.args.id.now ∷ []) c.shrink_cell.new.cells.slots (part ∷ c.args.id.now ∷ []) in
    elim c.match-shrink_cell.branch [
      | in-Ok w ↦ if_ok _ after _ w.result-is (shrinks _ _ _ _ _ _ _ w.in-Ok.key _ _ _ c.self.view_is c.id.view_is c.self.invariant c.requires w.in-Ok.ensures.ok).1
      | in-Err w ↦ if_not_ok _ after _ w.result-is
    ]

pub returns-clause-err : goal.returns-clause-err
returns-clause-err c =
    let after = c.shrink_cell.new.cells.slots ≡ c.args.self.now in
    elim c.match-shrink_cell.branch [
      | in-Ok w ↦ not_err _ after _ w.result-is
      | in-Err w ↦ at_err _ after (w.in-Err.ensures.same ∙ c.self.view_is)
    ]

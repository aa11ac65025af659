use Rattle.std.specs.Prelude.{is_some}
use Rattle.std.proofs.Common.{◌∙◌, ap, refl}
use Rattle.row_pool.specs.Cells.{Cells, value_at}
use Rattle.row_pool.proofs.MarkLaws.{found_by, kept_indexed}
use Rattle.row_pool.proofs.NewLaws.{once_more, still_there}
use Rattle.row_pool.proofs.pool.Pool.hold_again.Goals as goal

pub key_of-requires : goal.key_of-requires
key_of-requires c = c.self.invariant.marks

pub invariant_of-self-in-Some : goal.invariant_of-self-in-Some
invariant_of-self-in-Some c =
    kept_indexed _ _ _ c.in-Some.key (λ cell was. let u = c.try_add_holder.ensures.done c.if-not-try_add_holder.false cell was in record { changed = u.changed; others = u.others }) c.self.inside.cells.slots c.in-Some.key refl refl c.self.invariant (ap is_some c.in-Some.ensures)

pub returns-else-not-try_add_holder-clause-some : goal.returns-else-not-try_add_holder-clause-some
returns-else-not-try_add_holder-clause-some c =
    let seen = found_by _ c.self.inside.cells.slots c.self.inside.cells.slots refl c.self.invariant _ c.in-Some.key c.in-Some.ensures in (
      still_there c.self.invariant.find c.self.inside.cells.slots _ c.args.self.now _ c.in-Some.key c.self.view_is c.self.invariant.pool seen (λ cell was. let u = c.try_add_holder.ensures.done c.if-not-try_add_holder.false cell was in record { changed = u.changed; others = u.others }),
      (once_more c.self.invariant.find c.self.inside.cells.slots _ c.args.self.now _ c.in-Some.key c.self.view_is c.self.invariant.pool seen (λ cell was. let u = c.try_add_holder.ensures.done c.if-not-try_add_holder.false cell was in record { changed = u.changed; others = u.others })).1,
    )

pub returns-in-None-clause-absent : goal.returns-in-None-clause-absent
returns-in-None-clause-absent c = λ k at. c.in-None.ensures k (ap (λ (s : Cells). value_at s k) c.self.view_is ∙ at)

use Rattle.row_pool.specs.Cells.{value_at}
use Rattle.std.proofs.Common.{ap, ◌∙◌, sym, refl}
use Rattle.row_pool.proofs.CellLaws.{holders_most}
use Rattle.row_pool.proofs.KeepLaws.{keeps, more_value}
use Rattle.row_pool.proofs.MarkLaws.{kept_indexed}
use Rattle.row_pool.proofs.PartLaws.{part_none, part_some, part_used}
use Rattle.row_pool.proofs.pool.Pool.part.Goals as goal

pub add_holder-requires-clause-used : goal.add_holder-requires-clause-used
add_holder-requires-clause-used c = part_used c.self.invariant.find _ _ _ _ c.args.i c.self.view_is c.id.view_is c.self.invariant.pool c.requires.used c.part_key.result c.part_key.ensures c.in-Some.key c.in-Some.is

pub add_holder-requires-clause-room : goal.add_holder-requires-clause-room
add_holder-requires-clause-room c = holders_most _ _ _ _ _ c.self.view_is refl c.self.invariant.pool c.len-live.result c.len-live.ensures c.len-live.type_inv (c.requires.room c.in-Some.key (ap (λ s. value_at s c.in-Some.key) (sym c.self.view_is) ∙ sym (part_some c.self.invariant.find _ _ _ _ c.args.i c.self.view_is c.id.view_is c.self.invariant.pool c.requires.used c.part_key.result c.part_key.ensures c.in-Some.key c.in-Some.is)))

pub invariant_of-self : goal.invariant_of-self
invariant_of-self c =
    let used = part_used c.self.invariant.find _ _ _ _ c.args.i c.self.view_is c.id.view_is c.self.invariant.pool c.requires.used c.part_key.result c.part_key.ensures c.in-Some.key c.in-Some.is in
    kept_indexed _ _ _ c.in-Some.key (λ cell was. let u = c.add_holder.ensures cell was in record { changed = u.changed; others = u.others }) c.self.inside.cells.slots c.in-Some.key refl refl c.self.invariant used

pub returns-in-Some-clause-some : goal.returns-in-Some-clause-some
returns-in-Some-clause-some c =
    let used = part_used c.self.invariant.find _ _ _ _ c.args.i c.self.view_is c.id.view_is c.self.invariant.pool c.requires.used c.part_key.result c.part_key.ensures c.in-Some.key c.in-Some.is in
    part_some c.self.invariant.find _ _ _ _ c.args.i c.self.view_is c.id.view_is c.self.invariant.pool c.requires.used c.part_key.result c.part_key.ensures c.in-Some.key c.in-Some.is ∙ sym (more_value c.self.invariant.find _ _ c.in-Some.key (λ cell was. let u = c.add_holder.ensures cell was in record { changed = u.changed; others = u.others }) c.self.inside.cells.slots c.in-Some.key refl refl c.self.invariant.pool used c.in-Some.key)

pub returns-in-Some-clause-trades : goal.returns-in-Some-clause-trades
returns-in-Some-clause-trades c =
    let used = part_used c.self.invariant.find _ _ _ _ c.args.i c.self.view_is c.id.view_is c.self.invariant.pool c.requires.used c.part_key.result c.part_key.ensures c.in-Some.key c.in-Some.is in
    (keeps c.self.invariant.find _ _ c.in-Some.key (λ cell was. let u = c.add_holder.ensures cell was in record { changed = u.changed; others = u.others }) c.args.self.now c.in-Some.key c.self.view_is refl c.self.invariant.pool (rw (← c.self.view_is) used)).1

pub returns-in-None-clause-none : goal.returns-in-None-clause-none
returns-in-None-clause-none c = part_none c.self.invariant.find _ _ _ _ c.args.i c.self.view_is c.id.view_is c.self.invariant.pool c.requires.used c.part_key.result c.part_key.ensures c.in-None.is

use Rattle.std.specs.Prelude.{None, Some, refl}
use Rattle.da_values.specs.Value.{val_of}
use Rattle.row_pool.specs.declared.cell.Cell.{Cell}
use Rattle.row_pool.specs.Index.{under}
use Rattle.row_pool.proofs.MarkLaws.{comes_marked, finds_with, found_with}
use Rattle.row_pool.proofs.NewLaws.{added_into, not_found, nothing_added}
use Rattle.row_pool.proofs.PutLaws.{becomes_by}
use Rattle.row_pool.proofs.pool.Pool.add.Goals as goal

pub invariant_of-self : goal.invariant_of-self
invariant_of-self c =
    let f = c.self.invariant.find in
    let x = val_of c.args.v.now in
    let cell : Cell = record { holders = 1; value = c.args.v.now; mark = c.mark_of-mark.result; parts = c.args.parts; next = None } in
    let becomes = becomes_by _ _ _ _ c.in-Ok.ensures.cell in
    record {
      find = found_with f x (Some c.in-Ok.key);
      pool = (added_into f (found_with f x (Some c.in-Ok.key)) c.self.inside.cells.slots c.new_cell.new.cells.slots c.args.self.now x cell c.self.view_is refl refl c.in-Ok.ensures.few c.self.invariant.pool c.requires.held c.requires.values c.in-Ok.key becomes c.in-Ok.ensures.vacant (finds_with f x (Some c.in-Ok.key)) (not_found f _ _ c.self.view_is c.self.invariant.pool.agrees x c.requires.absent)).0;
      marks = comes_marked _ _ c.self.inside.cells.slots c.new_cell.new.cells.slots c.in-Ok.key cell becomes c.in-Ok.ensures.vacant c.in-Ok.ensures.index c.mark_of-mark.ensures c.self.invariant.marks;
    }

pub returns-in-Ok-clause-ok : goal.returns-in-Ok-clause-ok
returns-in-Ok-clause-ok c =
    let f = c.self.invariant.find in
    let x = val_of c.args.v.now in
    let cell : Cell = record { holders = 1; value = c.args.v.now; mark = c.mark_of-mark.result; parts = c.args.parts; next = None } in
    let becomes = becomes_by _ _ _ _ c.in-Ok.ensures.cell in
    (added_into f (found_with f x (Some c.in-Ok.key)) c.self.inside.cells.slots c.new_cell.new.cells.slots c.args.self.now x cell c.self.view_is refl refl c.in-Ok.ensures.few c.self.invariant.pool c.requires.held c.requires.values c.in-Ok.key becomes c.in-Ok.ensures.vacant (finds_with f x (Some c.in-Ok.key)) (not_found f _ _ c.self.view_is c.self.invariant.pool.agrees x c.requires.absent)).1

pub invariant_of-self-in-Err : goal.invariant_of-self-in-Err
invariant_of-self-in-Err c = nothing_added (under c.self.inside.index) (under c.new_cell.new.index) c.self.inside.cells.slots c.new_cell.new.cells.slots c.in-Err.ensures.same_index c.in-Err.ensures.same_cells c.self.invariant

use Rattle.std.specs.Prelude.{[], None}
use Rattle.std.proofs.Common.{ℕ, Option, sym, ◌∙◌, subst}
use Rattle.da_values.specs.Value.{val_of}
use Rattle.da_values.specs.declared.val.Val.{Val}
use Rattle.slab.specs.Slab.{Slab}
use Rattle.row_pool.specs.declared.cell.Cell.{Cell}
use Rattle.row_pool.specs.Index.{AreMarked, under}
use Rattle.row_pool.specs.Release.{Releases}
use Rattle.row_pool.proofs.MarkLaws.{finds_with, found_with, goes_marked, listed}
use Rattle.row_pool.proofs.PutLaws.{becomes_by}
use Rattle.row_pool.proofs.ReleaseLaws.{missing, none_go, taken_out_on}
use Rattle.row_pool.proofs.release.release.Goals as goal

pub loop-next-init : goal.loop-next-init
loop-next-init c = (λ find. (find, none_go find c.args.cells.now.slots c.args.first []), c.requires)

pub take_key-requires : goal.take_key-requires
take_key-requires c = listed _ _ c.in-Some.key c.in-Some-try_remove.cell c.loop-next.invariant.1 (sym c.try_remove.ensures.value ∙ c.in-Some-try_remove.is)

pub loop-next-preserved : goal.loop-next-preserved
loop-next-preserved c =
    let cell = c.in-Some-try_remove.cell in
    let becomes = becomes_by _ _ _ _ c.try_remove.ensures.updates in (
      λ find.
          let (after, leaves) = c.loop-next.invariant.0 find in
          let next = found_with after (val_of cell.value) None in
          (next, taken_out_on _ _ _ _ _ _ _ _ _ _ c.in-Some.key _ cell _ leaves c.in-Some.is c.try_remove.ensures.value c.in-Some-try_remove.is becomes (finds_with after (val_of cell.value) None) c.as_slice.ensures (c.lose_each-next.ensures.loses next)),
      c.lose_each-next.ensures.marked _ (goes_marked _ _ _ _ c.in-Some.key cell becomes (sym c.try_remove.ensures.value ∙ c.in-Some-try_remove.is) c.take_key.ensures c.loop-next.invariant.1),
    )

pub returns-in-None-clause-releases : goal.returns-in-None-clause-releases
returns-in-None-clause-releases c find =
    let (after, leaves) = c.loop-next.invariant.0 find in
    (after, missing _ _ _ _ _ _ c.in-Some.key _ leaves c.in-Some.is c.try_remove.ensures.value c.in-None.is _ _ _)

pub returns-in-None-clause-marked : goal.returns-in-None-clause-marked
returns-in-None-clause-marked c = subst (λ (s : Slab Cell). AreMarked (under c.loop-next.index) s.slots) (sym c.in-None.ensures.absent) c.loop-next.invariant.1

pub returns-clause-releases : goal.returns-clause-releases
returns-clause-releases c =
    subst (λ (o : Option ℕ). (find : Val → Option ℕ) → (after : Val → Option ℕ) × Releases find c.args.cells.now.slots c.args.first [] after c.loop-next.cells.slots o []) c.in_default.is c.loop-next.invariant.0

use Rattle.std.specs.Prelude.{slice_get}
use Rattle.std.proofs.Common.{List, ap, arith, length, subst, sym, ◌∙◌}
use Rattle.std.proofs.lemmas.Option.{get_or_from_slice_get}
use Rattle.place_blocks.specs.Blocks.{AreBlocks, in_blocks}
use Rattle.place_blocks.specs.declared.block.Block.{Block}
use Rattle.place_blocks.proofs.places.Places.at.Goals as goal

pub place_at-requires-clause-blocks : goal.place_at-requires-clause-blocks
place_at-requires-clause-blocks c = subst (AreBlocks 0) (sym c.as_slice.ensures.value) c.self.invariant.blocks_are

pub place_at-requires-clause-at : goal.place_at-requires-clause-at
place_at-requires-clause-at c = omega (
  arith,
  c.requires,
  ap length c.self.view_is,
  ap (λ (blocks : List Block). length (in_blocks blocks)) c.as_slice.ensures.value,
)

pub returns : goal.returns
returns c other =
    sym (get_or_from_slice_get c.args.self.now c.args.at c.place_at.result other
    (ap (λ zs. slice_get zs c.args.at) (sym c.self.view_is)
    ∙ ap (λ (blocks : List Block). slice_get (in_blocks blocks) c.args.at) (sym c.as_slice.ensures.value) ∙ c.place_at.ensures))

use Rattle.std.specs.Prelude.{slice_get}
use Rattle.std.proofs.Common.{List, ap, arith, length, subst, sym, ◌∙◌}
use Rattle.std.proofs.lemmas.Option.{slice_get_past}
use Rattle.place_blocks.specs.Blocks.{AreBlocks, in_blocks}
use Rattle.place_blocks.specs.declared.block.Block.{Block}
use Rattle.place_blocks.proofs.places.Places.get.Goals as goal

pub place_at-requires-clause-blocks : goal.place_at-requires-clause-blocks
place_at-requires-clause-blocks c = subst (AreBlocks 0) (sym c.as_slice.ensures.value) c.self.invariant.blocks_are

pub place_at-requires-clause-at : goal.place_at-requires-clause-at
place_at-requires-clause-at c = omega (
  arith,
  c.if-at-self.true,
  c.self.invariant.whole,
  ap (λ (blocks : List Block). length (in_blocks blocks)) c.as_slice.ensures.value,
)

pub returns-then-at-self-clause-value : goal.returns-then-at-self-clause-value
returns-then-at-self-clause-value c =
    sym c.place_at.ensures ∙ ap (λ (blocks : List Block). slice_get (in_blocks blocks) c.args.at) c.as_slice.ensures.value ∙ ap (λ zs. slice_get zs c.args.at) c.self.view_is

pub returns-then-at-self-clause-within : goal.returns-then-at-self-clause-within
returns-then-at-self-clause-within c = omega (arith, c.if-at-self.true, c.self.invariant.whole, ap length c.self.view_is)

pub returns-else-at-self-clause-value : goal.returns-else-at-self-clause-value
returns-else-at-self-clause-value c = sym (slice_get_past c.args.self.now c.args.at (omega (arith, c.if-at-self.false, c.self.invariant.whole, ap length c.self.view_is)))

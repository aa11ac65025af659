use Rattle.std.specs.Prelude.{length}
use Rattle.std.proofs.Common.{List, ap, arith, subst, sym, ◌∙◌}
use Rattle.std.proofs.lemmas.List.Edits.{length-remove}
use Rattle.place_blocks.specs.Blocks.{AreBegun, in_blocks}
use Rattle.place_blocks.specs.declared.block.Block.{Block}
use Rattle.place_blocks.proofs.BlockLaws.{begun_dropped, dropped_fewer, dropped_from_blocks}
use Rattle.place_blocks.proofs.EditLaws.{a_block, before_seen}
use Rattle.place_blocks.proofs.edit.drop_block.Goals as goal

pub before_of-before-requires : goal.before_of-before-requires
before_of-before-requires c = omega (arith, c.requires.k, ap length c.as_slice.ensures.value)

pub take_block-requires : goal.take_block-requires
take_block-requires c = c.requires.k

pub renumber-requires-clause-first : goal.renumber-requires-clause-first
renumber-requires-clause-first c = omega (arith, c.requires.k, ap length c.take_block.ensures, length-remove c.args.blocks.now.items c.args.k c.requires.k)

pub renumber-requires-clause-begun : goal.renumber-requires-clause-begun
renumber-requires-clause-begun c =
    let (block, here) = a_block c.args.blocks.now.items c.args.k c.requires.k in
    subst (AreBegun c.args.k c.before_of-before.result) (sym c.take_block.ensures)
    (begun_dropped c.args.blocks.now.items c.args.k c.before_of-before.result block c.requires.blocks c.requires.k here
    (before_seen c.args.blocks.now.items c.as_slice.result.now c.as_slice.ensures.value c.args.k c.before_of-before.result c.before_of-before.ensures block here))

pub renumber-requires-clause-room : goal.renumber-requires-clause-room
renumber-requires-clause-room c =
    let (block, here) = a_block c.args.blocks.now.items c.args.k c.requires.k in
    omega (
      arith,
      ap (λ (blocks : List Block). length (in_blocks blocks)) c.take_block.ensures,
      dropped_fewer c.args.blocks.now.items c.args.k c.before_of-before.result block c.requires.blocks c.requires.k here
          (before_seen c.args.blocks.now.items c.as_slice.result.now c.as_slice.ensures.value c.args.k c.before_of-before.result c.before_of-before.ensures block here),
      c.requires.room,
    )

pub returns-clause-rest : goal.returns-clause-rest
returns-clause-rest c at there inside =
    let (block, here) = a_block c.args.blocks.now.items c.args.k c.requires.k in
    c.renumber.ensures.places ∙ ap in_blocks c.take_block.ensures
    ∙ dropped_from_blocks c.args.blocks.now.items at c.args.k block c.requires.blocks there here inside (ap (λ (z : Block). length z.places) here ∙ c.requires.single block)

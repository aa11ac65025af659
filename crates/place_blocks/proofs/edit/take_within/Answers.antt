use Rattle.std.specs.Prelude.{◌<◌, ◌-◌, length}
use Rattle.std.proofs.Common.{ap, arith, ◌∙◌}
use Rattle.std.proofs.lemmas.List.{length-set}
use Rattle.std.proofs.lemmas.List.Edits.{length-remove}
use Rattle.place_blocks.specs.Blocks.{in_blocks}
use Rattle.place_blocks.specs.declared.block.Block.{Block}
use Rattle.place_blocks.proofs.BlockLaws.{begun_put, many_blocks, taken_from_blocks}
use Rattle.place_blocks.proofs.EditLaws.{before_seen}
use Rattle.place_blocks.proofs.edit.take_within.Goals as goal

pub overflow_add-next : goal.overflow_add-next
overflow_add-next c = omega (arith, c.requires.there.within, many_blocks c.args.blocks.now.items 0 c.requires.blocks, c.requires.room)

pub before_of-before-requires : goal.before_of-before-requires
before_of-before-requires c = omega (arith, c.requires.there.within, ap length c.as_slice.ensures.value)

pub index_mut-requires : goal.index_mut-requires
index_mut-requires c = omega (arith, c.requires.there.within, c.args.blocks.now.ok.0)

pub take_from-requires-clause-begun : goal.take_from-requires-clause-begun
take_from-requires-clause-begun c = c.requires.there.begun c.index_mut.result.now c.index_mut.ensures.value

pub take_from-requires-clause-inside : goal.take_from-requires-clause-inside
take_from-requires-clause-inside c = c.requires.there.inside c.requires.at c.index_mut.result.now c.index_mut.ensures.value

pub renumber-requires-clause-first : goal.renumber-requires-clause-first
renumber-requires-clause-first c = omega (arith, c.requires.there.within, length-set c.args.blocks.now.items c.args.k c.take_from.new.block)

pub renumber-requires-clause-begun : goal.renumber-requires-clause-begun
renumber-requires-clause-begun c =
    let begun = c.requires.there.begun c.index_mut.result.now c.index_mut.ensures.value in
    let inside = c.requires.there.inside c.requires.at c.index_mut.result.now c.index_mut.ensures.value in
    let others : 1 < length c.index_mut.result.now.places =
    omega (arith, c.requires.others c.index_mut.result.now, ap (λ (z : Block). length z.places) c.index_mut.ensures.value) in
    begun_put c.args.blocks.now.items c.args.k c.before_of-before.result c.index_mut.result.now c.requires.blocks c.requires.there.within c.index_mut.ensures.value
    (before_seen c.args.blocks.now.items c.as_slice.result.now c.as_slice.ensures.value c.args.k c.before_of-before.result c.before_of-before.ensures c.index_mut.result.now c.index_mut.ensures.value)
    c.take_from.new.block
    (omega (arith, ap length c.take_from.ensures.rest, length-remove c.index_mut.result.now.places (c.args.at - c.index_mut.result.now.before) (omega (arith, begun, inside)), others))

pub renumber-requires-clause-room : goal.renumber-requires-clause-room
renumber-requires-clause-room c =
    let taken = taken_from_blocks c.args.blocks.now.items c.args.at c.args.k c.index_mut.result.now c.requires.blocks c.requires.there c.index_mut.ensures.value c.requires.at
    c.take_from.new.block c.take_from.ensures.rest in
    omega (arith, ap length taken, length-remove (in_blocks c.args.blocks.now.items) c.args.at c.requires.at, c.requires.room)

pub returns-clause-rest : goal.returns-clause-rest
returns-clause-rest c =
    c.join_short-2.ensures.places ∙ c.join_short.ensures.places ∙ c.renumber.ensures.places
    ∙ taken_from_blocks c.args.blocks.now.items c.args.at c.args.k c.index_mut.result.now c.requires.blocks c.requires.there c.index_mut.ensures.value c.requires.at
    c.take_from.new.block c.take_from.ensures.rest

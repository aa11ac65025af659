use Rattle.std.specs.Prelude.{◌+◌, ◌++◌, drop, length}
use Rattle.std.proofs.Common.{ap, arith, ◌∙◌}
use Rattle.std.proofs.lemmas.List.{get_or_read}
use Rattle.place_blocks.specs.declared.block.Block.{Block}
use Rattle.place_blocks.proofs.join.upper_block.Goals as goal

pub overflow_add-before : goal.overflow_add-before
overflow_add-before c = omega (arith, c.requires.room c.index-blocks-k.result, ap (λ (block : Block). block.before) c.index-blocks-k.is)

pub split_at-halves-requires : goal.split_at-halves-requires
split_at-halves-requires c = omega (
  arith,
  c.requires.lower c.index-blocks-k.result,
  ap (λ (block : Block). length block.places) c.index-blocks-k.is,
  ap length c.as_slice.ensures,
)

pub returns-clause-before : goal.returns-clause-before
returns-clause-before c other =
    ap (λ (block : Block). block.before + c.args.lower) (get_or_read c.args.blocks.now c.args.k c.index-blocks-k.result c.requires.k c.index-blocks-k.is other)

pub returns-clause-places : goal.returns-clause-places
returns-clause-places c other =
    c.in_ok-append.ensures ∙ ap (λ zs. zs ++ c.split_at-halves.result.1.now) c.new-places.ensures ∙ c.split_at-halves.ensures.back
    ∙ ap (λ zs. drop c.args.lower zs) (c.as_slice.ensures ∙ ap (λ (block : Block). block.places) (get_or_read c.args.blocks.now c.args.k c.index-blocks-k.result c.requires.k c.index-blocks-k.is other))

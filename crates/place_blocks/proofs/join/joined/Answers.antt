use Rattle.std.specs.Prelude.{◌++◌, slice_index_or}
use Rattle.std.proofs.Common.{ap, ◌∙◌}
use Rattle.std.proofs.lemmas.List.{get_or_read}
use Rattle.place_blocks.specs.declared.block.Block.{Block}
use Rattle.place_blocks.proofs.join.joined.Goals as goal

pub returns : goal.returns
returns c other =
    c.in_ok-append-2.ensures
    ∙ ap (λ zs. zs ++ c.as_slice-2.result.now) (c.in_ok-append.ensures ∙ ap (λ zs. zs ++ c.as_slice.result.now) c.new-both.ensures)
    ∙ ap (λ zs. zs ++ c.as_slice-2.result.now) (c.as_slice.ensures ∙ ap (λ (block : Block). block.places) (get_or_read c.args.blocks.now c.args.k c.index-blocks-k.result c.requires.k c.index-blocks-k.is other))
    ∙ ap (λ zs. (slice_index_or c.args.blocks.now c.args.k other).places ++ zs)
    (c.as_slice-2.ensures ∙ ap (λ (block : Block). block.places) (get_or_read c.args.blocks.now c.args.next c.index-blocks-next.result c.requires.next c.index-blocks-next.is other))

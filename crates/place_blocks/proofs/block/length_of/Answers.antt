use Rattle.std.proofs.Common.{ap, length, ◌∙◌}
use Rattle.std.proofs.lemmas.List.{get_or_read}
use Rattle.place_blocks.specs.declared.block.Block.{Block}
use Rattle.place_blocks.proofs.block.length_of.Goals as goal

pub returns : goal.returns
returns c other = c.len.ensures ∙ ap (λ (block : Block). length block.places) (get_or_read c.args.blocks.now c.args.k c.index-blocks-k.result c.requires c.index-blocks-k.is other)

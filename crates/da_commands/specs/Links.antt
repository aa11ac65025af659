-- Over which link a node runs.
use Rattle.std.specs.Prelude.{List, Option}
use Rattle.arq_link.specs.declared.link.ArqLink.{ArqLink}
use Rattle.arq_link.specs.ArqLink.{inner_of, told_of}
use Rattle.da_lang.specs.declared.ty.ChannelKind.{ChannelKind}
use Rattle.da_lang.specs.declared.ty.ChannelKind.TheVariants.{UnorderedUnreliable}
use Rattle.da_outside.specs.declared.link.LinkEntry.{LinkEntry}

module _ {D : Type 0} {B : _} where
  -- What is told by the link over which the node of a program with channels of this kind runs: the inner link where these keep
  -- no order and may lose and double messages, else the reliable link over it.
  abbrev pub told_over : (D → Option (List LinkEntry)) → ChannelKind → ArqLink D B → Option (List LinkEntry)
  told_over told UnorderedUnreliable link = told (inner_of link)
  told_over told _ link = told_of told link

use Rattle.std.proofs.Common.{◌∙◌, refl}
use Rattle.da_infer.proofs.CountLaws.{counted}
use Rattle.da_infer.proofs.counts.types_in.Goals as goal

pub returns : goal.returns
returns c =
    counted c.args.tree.now _ (c.as_slice.ensures ∙ c.in_ok-tags.ensures) _ c.as_slice-2.ensures _ _ _ c.in_ok-parts.ensures c.in_ok-variables.ensures c.in_ok-types.ensures
    c.args.places.now _ _ refl c.in_ok-count.ensures

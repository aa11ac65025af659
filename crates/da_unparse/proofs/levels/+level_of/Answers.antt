use Rattle.std.proofs.Common.{◌∙◌, ap, sym}
use Rattle.da_unparse.specs.Texts.{holds}
use Rattle.da_unparse.proofs.TextRules.{holds-no_link, holds-first_link}
use Rattle.da_unparse.proofs.levels.+level_of.Goals as goal

pub returns-in-empty : goal.returns-in-empty
returns-in-empty t c =
    c.level_of.ensures ∙ ap holds c.get.ensures ∙ sym (ap holds c.in-Chain.is ∙ holds-no_link c.in-Chain.first c.in-Chain.links (rw c.as_slice.ensures at c.in-empty.len_below))

pub returns-in-len1-up : goal.returns-in-len1-up
returns-in-len1-up t c =
    c.held_by.ensures
    ∙ sym (ap holds c.in-Chain.is ∙ holds-first_link c.in-Chain.first c.in-Chain.links c.link-item.result (rw c.as_slice.ensures at c.in-len1-up.len_at_least) (rw c.as_slice.ensures at c.link-item.is))

use Rattle.std.proofs.Common.{◌∙◌, Some, ap, subst, sym}
use Rattle.query_plan.specs.Storing.{IsEntry}
use Rattle.query_plan.proofs.EntryLaws.{emptied, root_is_entry}
use Rattle.query_plan.proofs.twins.entry_of.Goals as goal

pub returns-in-Root : goal.returns-in-Root
returns-in-Root c =
    subst (IsEntry c.args.next.now.nodes.now c.args.next.now.place) (sym (c.over_root.ensures ∙ emptied c.new.result c.new.ensures))
    (root_is_entry c.args.next.now.nodes.now c.args.next.now.place c.requires.plan c.requires.root (c.requires.there ∙ ap Some c.in-Root.is))

use Rattle.std.proofs.Common.{◌∙◌, sym, subst}
use Rattle.da_limits.specs.LimitTree.{NoneLeadBack}
use Rattle.da_limits.proofs.LimitOrder.{all_told}
use Rattle.da_limits.proofs.NoneBack.{none_back}
use Rattle.da_limits.proofs.limits.limit_fault.Goals as goal

pub tell_classes-requires : goal.tell_classes-requires
tell_classes-requires c = subst NoneLeadBack (sym c.as_slice-classes.ensures) (none_back c.args.tree.now c.requires)

pub returns : goal.returns
returns c =
    c.fault.ensures
    ∙ all_told c.args.tree.now _ _ _ _ _ _ _ _ _ c.as_slice-classes.ensures c.as_slice-main.ensures c.as_slice-messages.ensures c.new-least.ensures
    c.tell_count.ensures c.tell_processes.ensures c.tell_messages.ensures c.tell_main.ensures c.in_ok-tell_classes.ensures

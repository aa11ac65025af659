use Rattle.std.proofs.Common.{◌∙◌, ap, flat_map}
use Rattle.da_lang.specs.NameRules.{class_refusals}
use Rattle.da_bodies.specs.Telling.{telling}
use Rattle.da_names.proofs.MainLaws.{told_whole}
use Rattle.da_names.proofs.tree.name_fault.Goals as goal

pub returns : goal.returns
returns c =
    c.fault.ensures
    ∙ told_whole c.args.tree.now c.check_classes.new.least c.tell_twice.new.least c.check_main.new.least
    (c.in_ok-check_classes.ensures ∙ ap (λ f. telling f (flat_map class_refusals c.as_slice.result.now)) c.new-least.ensures ∙ ap (λ cs. telling _ (flat_map class_refusals cs)) c.as_slice.ensures)
    c.in_ok-tell_twice.ensures
    c.in_ok-check_main.ensures

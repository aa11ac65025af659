use Rattle.std.proofs.Common.{◌∙◌, sym}
use Rattle.da_lang.specs.declared.refusal.ScopeKind.TheVariants.{Setup}
use Rattle.da_names.proofs.ClassSteps.{told_nothing}
use Rattle.da_names.proofs.classes.tell_early_in.Goals as goal

pub returns-else-is_setup : goal.returns-else-is_setup
returns-else-is_setup c = told_nothing Setup c.args.least.now _ _ (sym c.is_setup.ensures ∙ c.if-is_setup.false)

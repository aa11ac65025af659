use Rattle.std.proofs.Common.{◌∙◌, ap, ◌++◌}
use Rattle.da_lang.specs.Deeds.{deeds}
use Rattle.da_names.specs.DeedView.{deeds_in}
use Rattle.da_names.proofs.DeedRules.{deeds_in-nil}
use Rattle.da_names.proofs.deeds.deeds_of_body.Goals as goal

pub returns : goal.returns
returns c = c.in_ok-put_body.ensures ∙ ap (λ ds. ds ++ deeds c.args.body.now) (ap deeds_in c.new-list.ensures ∙ deeds_in-nil)

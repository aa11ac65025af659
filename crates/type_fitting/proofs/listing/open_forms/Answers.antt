use Rattle.std.proofs.Common.{[], ◌∷◌, ◌++◌, ap, sym, ◌∙◌}
use Rattle.type_table.specs.declared.form.Form.TheVariants as f
use Rattle.type_fitting.proofs.ListedLaws.{replicate_more}
use Rattle.type_fitting.proofs.listing.open_forms.Goals as goal

pub loop-i-preserved : goal.loop-i-preserved
loop-i-preserved c = c.in_ok-push.ensures.ok ∙ ap (λ z. z ++ f.Open ∷ []) c.loop-i.invariant ∙ sym (replicate_more c.loop-i._i f.Open)

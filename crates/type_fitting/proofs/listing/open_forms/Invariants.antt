use Rattle.std.proofs.Common.{◌≡◌, replicate}
use Rattle.type_table.specs.declared.form.Form.TheVariants as f
use Rattle.type_fitting.proofs.listing.open_forms.Given as goal

abbrev pub invariant-loop-i : goal.invariant-loop-i
invariant-loop-i l = l.forms ≡ replicate l._i f.Open

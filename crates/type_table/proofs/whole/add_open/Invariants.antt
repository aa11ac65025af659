use Rattle.std.proofs.Common.{◌≡◌, ◌++◌, length, replicate}
use Rattle.type_table.specs.Draws.{numbers_from}
use Rattle.type_table.specs.declared.form.Form.TheVariants as form
use Rattle.type_table.proofs.whole.add_open.Given as goal

abbrev pub invariant-loop-i : goal.invariant-loop-i
invariant-loop-i l = (l.forms ≡ l.initial.forms ++ replicate l._i form.Open) × (l.numbers ≡ numbers_from (length l.initial.forms) l._i)

-- What contracts see of the meaning of a name, and of what an aggregate goes over.
use Rattle.std.specs.List.{range_with_len}
use Rattle.da_lang.specs.ExprMeaning as means
use Rattle.da_meaning.specs.declared.condition.Rows.{Rows}
use Rattle.da_meaning.specs.declared.scope.Meaning.{Meaning}
use Rattle.da_meaning.specs.declared.scope.Meaning.TheVariants.{InSlot, InRow, OneProcess, Processes}

abbrev pub meaning_of : Meaning → means.Meaning
meaning_of (InSlot slot) = means.InSlot slot
meaning_of (InRow part) = means.InRow part
meaning_of (OneProcess process) = means.OneProcess process
meaning_of (Processes row) = means.Processes (range_with_len row.first row.count)

abbrev pub range_of : Rows → means.Range
range_of rows = record { gens = rows.gens; cond = rows.cond; term = rows.term }

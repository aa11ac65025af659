use Rattle.std.proofs.Common.{◌≡◌, drop, map}
use Rattle.std.specs.Prelude.{◌+ℤ◌}
use Rattle.da_lang.specs.Queries.{signed_value, total}
use Rattle.row_terms.specs.Locals.{data_of}
use Rattle.row_terms.proofs.conditions.+operands.Given as goal

abbrev pub invariant-sum_with-loop-signed : goal.invariant-sum_with-loop-signed
invariant-sum_with-loop-signed l =
    l.sum +ℤ total (map (λ s. signed_value (data_of l.locals) s l.row) (drop l.signed-index l.more)) ≡ l.first +ℤ total (map (λ s. signed_value (data_of l.locals) s l.row) l.more)

use Rattle.std.proofs.Common.{◌≡◌, true, false, take}
use Rattle.std.specs.List.{list_all, list_any}
use Rattle.da_lang.specs.Queries.{holds}
use Rattle.row_terms.specs.Locals.{data_of}
use Rattle.row_terms.proofs.conditions.+conditions.Given as goal

abbrev pub invariant-all_hold-loop-condition : goal.invariant-all_hold-loop-condition
invariant-all_hold-loop-condition l = list_all (λ c. holds (data_of l.locals) c l.row) (take l.condition-index l.conditions) ≡ true

abbrev pub invariant-some_holds-loop-condition : goal.invariant-some_holds-loop-condition
invariant-some_holds-loop-condition l = list_any (λ c. holds (data_of l.locals) c l.row) (take l.condition-index l.conditions) ≡ false

use Rattle.store_cases.proofs.CaseLaws.{holds_none}
use Rattle.store_cases.proofs.worked.three_rows.Goals as goal

pub put_three-requires-clause-held : goal.put_three-requires-clause-held
put_three-requires-clause-held c = holds_none _ _ c.in_ok-set.ensures.ids

pub put_three-requires-clause-set : goal.put_three-requires-clause-set
put_three-requires-clause-set c = c.in_ok-set.ensures.set _

use Rattle.da_infer.proofs.SearchLaws.{best_all, is_last}
use Rattle.da_infer.proofs.search.search_types.Goals as goal

pub returns-in-Some : goal.returns-in-Some
returns-in-Some c = best_all c.args.count c.args.demands.now c.args.last _ (is_last c.args.demands.now c.args.last c.requires.last) (rw c.in-Some.is at c.in_ok-found.ensures)

pub least_clash-requires-clause-none : goal.least_clash-requires-clause-none
least_clash-requires-clause-none c = rw c.in-None.is at c.in_ok-found.ensures

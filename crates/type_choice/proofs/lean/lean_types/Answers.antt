use Rattle.type_choice.proofs.CountLaws.{no_longer}
use Rattle.type_choice.proofs.KeepLaws.{no_deeper, still_ordered, still_no_set}
use Rattle.type_choice.proofs.lean.lean_types.Goals as goal

pub returns-clause-levels : goal.returns-clause-levels
returns-clause-levels c = no_deeper

pub returns-clause-ordered : goal.returns-clause-ordered
returns-clause-ordered c = still_ordered

pub returns-clause-single : goal.returns-clause-single
returns-clause-single c = still_no_set

pub returns-clause-tokens : goal.returns-clause-tokens
returns-clause-tokens c = no_longer

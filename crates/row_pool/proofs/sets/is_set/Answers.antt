use Rattle.std.proofs.Common.{sym}
use Rattle.row_pool.proofs.KindLaws.{kept_other, kept_set}
use Rattle.row_pool.proofs.sets.is_set.Goals as goal

pub returns-in-Set : goal.returns-in-Set
returns-in-Set c = sym (kept_set c.args.v.now _ c.in-Set.is)

pub returns-in_default : goal.returns-in_default
returns-in_default c = sym (kept_other c.args.v.now c.in_default.not-Set)

use Rattle.da_pattern.proofs.TakenAt.{takes_nothing}
use Rattle.da_pattern.proofs.taken.+copies.Goals as goal

pub copy_taken-returns-in_default-v : goal.copy_taken-returns-in_default-v
copy_taken-returns-in_default-v t c = takes_nothing c.args.p.now c.args.v.now _ c.args.row.now c.in-Tuple.is c.in_default-v.not-Tuple

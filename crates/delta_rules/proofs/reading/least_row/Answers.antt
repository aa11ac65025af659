use Rattle.answer_index.specs.Answers.{rows_of}
use Rattle.delta_rules.proofs.ReadingLaws.{no_first}
use Rattle.delta_rules.proofs.reading.least_row.Goals as goal

pub returns-in-None : goal.returns-in-None
returns-in-None c = no_first (rows_of c.args.set.now c.args.pool.now) (c.in-None.ensures.row c.args.pool.now)

use Rattle.std.proofs.Common.{rules}
use Rattle.da_lang.proofs.OnceLaws.{test_is}
use Rattle.da_lang.proofs.same.same_live.Goals as goal

pub returns-then-same_pattern-clause-once : goal.returns-then-same_pattern-clause-once
returns-then-same_pattern-clause-once c = test_is c.args.a.now c.args.b.now _ (search rules)

pub returns-else-same_pattern-clause-once : goal.returns-else-same_pattern-clause-once
returns-else-same_pattern-clause-once c = test_is c.args.a.now c.args.b.now _ (search rules)

use Rattle.std.proofs.lemmas.Result.{on_ok_weaker}
use Rattle.row_pool.proofs.NumberLaws.{first_comes}
use Rattle.row_pool.proofs.index.put_first.Goals as goal

pub returns-clause-ok : goal.returns-clause-ok
returns-clause-ok c = on_ok_weaker c.set_keys.result (first_comes c.args.index.now c.set_keys.new.index c.args.mark c.args.key c.in_ok-keys.keys c.requires c.in_ok-keys.ensures) c.set_keys.ensures.ok

use Rattle.std.proofs.Common.{length, rules}
use Rattle.replay_run.proofs.CountLemmas.{uses_at_most}
use Rattle.replay_run.proofs.generated.run_next.Goals as goal

pub returns-clause-room : goal.returns-clause-room
returns-clause-room c = uses_at_most c.args.counts.now c.add.new.self (length c.as_slice.result.now) _ (search rules) c.add.ensures.room

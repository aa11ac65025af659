use Rattle.da_values.specs.Value.{val_of}
use Rattle.history_live.proofs.ReadingAt.{match_here}
use Rattle.history_live.proofs.reading.is_match.Goals as goal

pub returns-then-same_source : goal.returns-then-same_source
returns-then-same_source c = match_here c.args.source (val_of c.args.m.now) c.args.peer c.args.me c.args.live.now c.takes.result (c.same_source.ensures.0 c.if-same_source.true) c.takes.ensures

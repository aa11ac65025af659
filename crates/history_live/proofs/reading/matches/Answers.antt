use Rattle.da_values.specs.Value.{val_of}
use Rattle.history_live.proofs.ReadingAt.{ends, goes_on, yields}
use Rattle.history_live.proofs.reading.matches.Goals as goal

pub returns-then-is_match : goal.returns-then-is_match
returns-then-is_match c =
    yields c.args.source (val_of c.args.m.now) c.args.peer c.args.me c.args.live.now.patterns c.as_slice-patterns.result.now c.as_slice-patterns.ensures c.requires
    c.loop-pattern.pattern-index c.pattern-item.result c.loop-pattern-test.true c.pattern-item.is c.is_match.result c.is_match.ensures c.if-is_match.true

pub loop-pattern-preserved : goal.loop-pattern-preserved
loop-pattern-preserved c =
    goes_on c.args.source (val_of c.args.m.now) c.args.peer c.args.me c.args.live.now.patterns c.as_slice-patterns.result.now c.as_slice-patterns.ensures c.requires
    c.loop-pattern.pattern-index c.pattern-item.result c.loop-pattern-test.true c.pattern-item.is c.is_match.result c.is_match.ensures c.if-is_match.false c.loop-pattern.invariant

pub returns : goal.returns
returns c =
    ends c.args.source (val_of c.args.m.now) c.args.peer c.args.me c.args.live.now.patterns c.as_slice-patterns.result.now c.as_slice-patterns.ensures c.loop-pattern.pattern-index c.loop-pattern-test.false c.loop-pattern.invariant

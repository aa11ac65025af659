-- Where no process can go on, the blocks tell whether the traces are joined.
use Rattle.std.proofs.Common.{List, subst, sym, ◌≡◌, ◌∙◌}
use Rattle.da_core.specs.Compiled.{program_of}
use Rattle.trace_join.specs.declared.track.Track.{Track}
use Rattle.trace_join.specs.Blocks.{NoLonger}
use Rattle.trace_join.proofs.EndLaws.{at_end, blocks_by, joined_by, lefts_of, none_by}
use Rattle.trace_join.proofs.joining.join.Goals as goal

pub blocks_of-requires-clause-shorter : goal.blocks_of-requires-clause-shorter
blocks_of-requires-clause-shorter c =
    let told = at_end c.exhaust.new.self c.args.compiled.now c.args.traces.now c.in_ok-exhaust.ensures.ready c.in_ok-exhaust.ensures.waits
    (c.exhaust.ensures.same.0 ∙ c.in_ok-search.ensures.same.0) (c.exhaust.ensures.same.1 ∙ c.in_ok-search.ensures.same.1) c.requires.traces in
    subst (λ (tracks : List Track). NoLonger c.args.traces.now (lefts_of tracks)) (sym c.tracks.ensures) told.shorter

pub returns-then-len-gt0-clause-none : goal.returns-then-len-gt0-clause-none
returns-then-len-gt0-clause-none c = λ blocks is.
    let told = at_end c.exhaust.new.self c.args.compiled.now c.args.traces.now c.in_ok-exhaust.ensures.ready c.in_ok-exhaust.ensures.waits
    (c.exhaust.ensures.same.0 ∙ c.in_ok-search.ensures.same.0) (c.exhaust.ensures.same.1 ∙ c.in_ok-search.ensures.same.1) c.requires.traces in
    none_by (program_of c.args.compiled.now) c.args.traces.now c.exhaust.new.self.schedule c.exhaust.new.self.tracks c.tracks.result.now told
    c.in_ok-blocks.blocks c.len.result
    c.tracks.ensures c.in_ok-blocks.ensures c.len.ensures c.if-len-gt0.true

pub returns-then-len-gt0-clause-blocks : goal.returns-then-len-gt0-clause-blocks
returns-then-len-gt0-clause-blocks c = λ blocks is.
    let told = at_end c.exhaust.new.self c.args.compiled.now c.args.traces.now c.in_ok-exhaust.ensures.ready c.in_ok-exhaust.ensures.waits
    (c.exhaust.ensures.same.0 ∙ c.in_ok-search.ensures.same.0) (c.exhaust.ensures.same.1 ∙ c.in_ok-search.ensures.same.1) c.requires.traces in
    blocks_by (program_of c.args.compiled.now) c.args.traces.now c.exhaust.new.self.schedule c.exhaust.new.self.tracks c.tracks.result.now told
    c.in_ok-blocks.blocks c.len.result
    c.tracks.ensures c.in_ok-blocks.ensures c.len.ensures blocks (let same : c.in_ok-blocks.blocks ≡ blocks = cc in same)

pub returns-clause-joined : goal.returns-clause-joined
returns-clause-joined c =
    let told = at_end c.exhaust.new.self c.args.compiled.now c.args.traces.now c.in_ok-exhaust.ensures.ready c.in_ok-exhaust.ensures.waits
    (c.exhaust.ensures.same.0 ∙ c.in_ok-search.ensures.same.0) (c.exhaust.ensures.same.1 ∙ c.in_ok-search.ensures.same.1) c.requires.traces in
    joined_by (program_of c.args.compiled.now) c.args.traces.now c.exhaust.new.self.schedule c.exhaust.new.self.tracks c.tracks.result.now told
    c.in_ok-blocks.blocks c.len.result
    c.tracks.ensures c.in_ok-blocks.ensures c.len.ensures c.into_events.result c.into_events.ensures.same c.if-len-gt0.false

use Rattle.std.proofs.Common.{ap, sym}
use Rattle.std.proofs.lemmas.List.{drop_more}
use Rattle.std.specs.Prelude.{◌+◌}
use Rattle.replay_run.specs.Replay.{outcome_of}
use Rattle.run_page.proofs.RunLemmas.{came_first, came_on, never_stopped, on_its_way, ran_all, stopped_rows, stopped_there, was_stopped, went_on}
use Rattle.run_page.proofs.running.run_events.Goals as goal

pub loop-place-init : goal.loop-place-init
loop-place-init c = came_first c.args.running.now.asked c.args.events.now c.args.running.now c.requires

pub go_on-requires : goal.go_on-requires
go_on-requires c = on_its_way c.args.running.now.asked c.args.events.now c.loop-place.place c.loop-place.running c.loop-place.invariant

pub loop-place-preserved : goal.loop-place-preserved
loop-place-preserved c =
    let l = c.loop-place in
    let came = l.invariant in
    came_on c.args.running.now.asked c.args.events.now l.place _ l.running c.go_on.new.running (drop_more c.args.events.now l.place _ c.loop-place-test.true) came
    (went_on (l.place + 1) _ came.state l.running c.go_on.new.running c.in_ok-allowed.allowed c.if-not-allowed.false (c.in_ok-allowed.ensures came.state came.stands))

pub returns-then-not-allowed-clause-outcome : goal.returns-then-not-allowed-clause-outcome
returns-then-not-allowed-clause-outcome c =
    let l = c.loop-place in
    let came = l.invariant in
    let stopped = was_stopped (l.place + 1) _ came.state l.running c.go_on.new.running c.in_ok-allowed.allowed c.if-not-allowed.true (c.in_ok-allowed.ensures came.state came.stands) in
    ap outcome_of (sym (stopped_there c.args.running.now.asked c.args.events.now l.place l.running came _ (drop_more c.args.events.now l.place _ c.loop-place-test.true) c.go_on.new.running.rows stopped.0 stopped.1))

pub returns-then-not-allowed-clause-rows : goal.returns-then-not-allowed-clause-rows
returns-then-not-allowed-clause-rows c =
    let l = c.loop-place in
    let came = l.invariant in
    let stopped = was_stopped (l.place + 1) _ came.state l.running c.go_on.new.running c.in_ok-allowed.allowed c.if-not-allowed.true (c.in_ok-allowed.ensures came.state came.stands) in
    stopped_rows c.args.running.now.asked c.args.events.now l.place l.running came _ (drop_more c.args.events.now l.place _ c.loop-place-test.true) c.go_on.new.running.rows stopped.0 stopped.1

pub returns-clause-outcome : goal.returns-clause-outcome
returns-clause-outcome c =
    let l = c.loop-place in
    ap outcome_of (sym (never_stopped c.args.running.now.asked c.args.events.now l.place l.running l.invariant c.loop-place-test.false))

pub returns-clause-rows : goal.returns-clause-rows
returns-clause-rows c =
    let l = c.loop-place in
    ran_all c.args.running.now.asked c.args.events.now l.place l.running l.invariant c.loop-place-test.false

use Rattle.std.proofs.Common.{arith, subst}
use Rattle.std.specs.Prelude.{◌↔◌, IsTrue}
use Rattle.da_core.specs.Compiled.{program_of}
use Rattle.run_watch.specs.Watching.{begun}
use Rattle.schedule_walk.specs.Rest.{IsAtRest}
use Rattle.schedule_hunt.proofs.WatchLaws.{broken_late, broken_never, broken_now, told_beside, told_quiet}
use Rattle.schedule_hunt.proofs.runs.is_broken.Goals as goal

pub begin-requires : goal.begin-requires
begin-requires c = record { compiled = c.requires.watch.compiled; some = omega (arith, c.requires.watch.count) }

pub hear-requires : goal.hear-requires
hear-requires c = (program_of c.args.watch.now, (begun (program_of c.args.watch.now)).world, c.in_ok-watcher.ensures.come)

pub returns-then-complains : goal.returns-then-complains
returns-then-complains c = λ source behind.
    let watch = program_of c.args.watch.now in
    let heard = c.in_ok-hear.ensures watch (begun watch).world c.in_ok-watcher.ensures.come in
    broken_now (program_of c.args.compiled.now) watch source c.args.run.now.actions _ _ behind.actions
    (told_beside watch c.args.run.now.actions _ _ _ _ _ _ _ c.new-said.ensures c.in_ok-watcher.ensures c.as_slice-actions.ensures heard c.as_slice-told.ensures) c.says_any-complains.ensures c.if-complains.true

pub returns-then-not-rests : goal.returns-then-not-rests
returns-then-not-rests c = λ source behind.
    let watch = program_of c.args.watch.now in
    let heard = c.in_ok-hear.ensures watch (begun watch).world c.in_ok-watcher.ensures.come in
    broken_never (program_of c.args.compiled.now) watch source c.args.run.now.actions _ _ behind.actions
    (told_beside watch c.args.run.now.actions _ _ _ _ _ _ _ c.new-said.ensures c.in_ok-watcher.ensures c.as_slice-actions.ensures heard c.as_slice-told.ensures) c.says_any-complains.ensures c.if-complains.false _
    (subst (λ p. IsTrue c.in_ok-rests.rests ↔ IsAtRest p source.state) behind.program_is (c.in_ok-rests.ensures source.state behind.stands)) c.if-not-rests.true

pub hear_quiet-requires : goal.hear_quiet-requires
hear_quiet-requires c =
    let watch = program_of c.args.watch.now in
    (watch, _, (c.in_ok-hear.ensures watch (begun watch).world c.in_ok-watcher.ensures.come).come)

pub returns : goal.returns
returns c = λ source behind.
    let watch = program_of c.args.watch.now in
    let heard = c.in_ok-hear.ensures watch (begun watch).world c.in_ok-watcher.ensures.come in
    broken_late (program_of c.args.compiled.now) watch source c.args.run.now.actions _ _ behind.actions
    (told_beside watch c.args.run.now.actions _ _ _ _ _ _ _ c.new-said.ensures c.in_ok-watcher.ensures c.as_slice-actions.ensures heard c.as_slice-told.ensures) c.says_any-complains.ensures c.if-complains.false _
    (subst (λ p. IsTrue c.in_ok-rests.rests ↔ IsAtRest p source.state) behind.program_is (c.in_ok-rests.ensures source.state behind.stands)) _ _ c.if-not-rests.false
    (told_quiet watch c.args.run.now.actions _ _ _ _ _ c.new-last.ensures c.as_slice-actions.ensures (c.in_ok-hear_quiet.ensures watch _ heard.come) c.as_slice-late.ensures) c.says_any-ends.ensures

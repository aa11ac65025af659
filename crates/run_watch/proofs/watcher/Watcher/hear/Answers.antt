use Rattle.run_watch.proofs.WatchLemmas.{hears_end, hears_first, hears_on}
use Rattle.run_watch.proofs.watcher.Watcher.hear.Goals as goal

pub loop-action-init : goal.loop-action-init
loop-action-init c = λ program w come. hears_first program w c.args.actions.now _ _ come

pub hear_one-requires : goal.hear_one-requires
hear_one-requires c = let (program, w, come) = c.requires in (program, _, (c.loop-action.invariant program w come).come)

pub loop-action-preserved : goal.loop-action-preserved
loop-action-preserved c = λ program w come.
    let so = c.loop-action.invariant program w come in
    hears_on _ _ _ _ _ _ _ so _ _ _ c.loop-action-test.true c.action-item.is (c.in_ok-hear_one.ensures program so.now so.come)

pub returns : goal.returns
returns c = λ program w come. hears_end _ _ _ _ _ _ _ (c.loop-action.invariant program w come) c.loop-action-test.false

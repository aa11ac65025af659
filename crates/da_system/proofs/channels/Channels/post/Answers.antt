use Rattle.std.proofs.Common.{◌≡◌, ◌∙◌, Some, ap, sym, subst}
use Rattle.std.specs.Prelude.{slice_get}
use Rattle.da_system.specs.Queues.{AreSent, StandsFor, count_of}
use Rattle.da_system.proofs.PlaceLemmas.{get_is}
use Rattle.da_system.proofs.QueueLaws.{sent_at, sent_next}
use Rattle.da_system.proofs.channels.Channels.post.Goals as goal

pub post_one-requires : goal.post_one-requires
post_one-requires c =
    let there : slice_get c.args.actions.now c.loop-action.action-index ≡ Some c.action-item.result =
    get_is c.args.actions.now c.loop-action.action-index c.action-item.result c.loop-action-test.true ∙ ap Some (sym c.action-item.is) in
    sent_at (count_of c.loop-action.self) c.args.actions.now c.loop-action.action-index c.action-item.result (subst (λ n. AreSent n c.args.actions.now) (sym c.loop-action.invariant.0) c.requires) there

pub loop-action-preserved : goal.loop-action-preserved
loop-action-preserved c =
    let there : slice_get c.args.actions.now c.loop-action.action-index ≡ Some c.action-item.result =
    get_is c.args.actions.now c.loop-action.action-index c.action-item.result c.loop-action-test.true ∙ ap Some (sym c.action-item.is) in (
      c.in_ok-post_one.ensures.count ∙ c.loop-action.invariant.0,
      λ channels stands. subst (StandsFor c.post_one.new.self) (sent_next channels c.args.actions.now c.loop-action.action-index c.action-item.result there) (c.in_ok-post_one.ensures.stands _ (c.loop-action.invariant.1 channels stands)),
    )

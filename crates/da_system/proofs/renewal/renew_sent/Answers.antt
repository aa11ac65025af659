use Rattle.std.proofs.Common.{◌≡◌, ◌∙◌, List, Some, ap, subst, sym}
use Rattle.std.specs.List.{AllByRecursion}
use Rattle.std.specs.Prelude.{slice_get}
use Rattle.da_lang.specs.declared.event.Action.{Action}
use Rattle.da_system.specs.Counts.{CountsSent}
use Rattle.da_system.specs.Network.{program_of}
use Rattle.da_system.proofs.PlaceLemmas.{get_is}
use Rattle.da_system.proofs.RenewLaws.{all_taken, sending_first, sending_next}
use Rattle.da_system.proofs.renewal.renew_sent.Goals as goal

pub loop-action-init : goal.loop-action-init
loop-action-init c = λ s stands. sending_first (program_of c.args.network.now) s c.args.counts.now c.args.actions.now

pub loop-action-preserved : goal.loop-action-preserved
loop-action-preserved c = λ s stands.
    let there : slice_get c.args.actions.now c.loop-action.action-index ≡ Some c.action-item.result =
    get_is c.args.actions.now c.loop-action.action-index c.action-item.result c.loop-action-test.true ∙ ap Some (sym c.action-item.is) in
    sending_next (program_of c.args.network.now) s c.args.counts.now c.args.actions.now c.loop-action.counts c.renew_action.new.counts c.loop-action.action-index c.action-item.result there
    (c.loop-action.invariant s stands) (c.renew_action.ensures.keeps s stands) (c.renew_action.ensures.made s stands)

pub returns-clause-keeps : goal.returns-clause-keeps
returns-clause-keeps c = λ s stands. (c.loop-action.invariant s stands).keeps

pub returns-clause-made : goal.returns-clause-made
returns-clause-made c = λ s stands sizes.
    subst (λ (actions : List Action). AllByRecursion (CountsSent (program_of c.args.network.now) s c.loop-action.counts) actions)
    (all_taken c.args.actions.now c.loop-action.action-index c.loop-action-test.false) ((c.loop-action.invariant s stands).made sizes)

use Rattle.std.proofs.Common.{◌∙◌, refl, sym}
use Rattle.da_system.specs.State.{program_of}
use Rattle.schedule_pick.proofs.AmongLaws.{allowed_picked}
use Rattle.schedule_hunt.proofs.RunLemmas.{not_refused, picked_here}
use Rattle.schedule_hunt.proofs.runs.pick_next.Goals as goal

pub returns-in_default-clause-picked : goal.returns-in_default-clause-picked
returns-in_default-clause-picked c = λ s stands. record { none = sym (c.in_ok-found.ensures.picked s stands) ∙ c.in_default.is; same = refl }

pub unreachable-requires : goal.unreachable-requires
unreachable-requires c =
    let (s, stands) = c.requires.ready c.requires.unspent in
    not_refused _ c.args.trial.now.run c.execute.new.run _
    (allowed_picked (program_of c.args.trial.now.run.system) s c.args.picker.now _ (sym (c.in_ok-found.ensures.picked s stands) ∙ c.in-Some.is)) c.if-not-branch.true (c.in_ok-execute.ensures.carried s stands)

pub returns-clause-picked : goal.returns-clause-picked
returns-clause-picked c = λ s stands.
    picked_here _ _ _ _ _ _ _ _ _ c.in-Some.is (c.in_ok-found.ensures.picked s stands) (c.in_ok-found.ensures.after s stands _ c.in-Some.is)
    c.if-not-branch.false (c.in_ok-execute.ensures.carried s stands) c.in_ok-push.ensures.ok

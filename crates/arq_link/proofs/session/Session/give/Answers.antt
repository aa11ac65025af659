use Rattle.std.specs.Prelude.{◌++◌, ◌∷◌, []}
use Rattle.std.proofs.Common.{ap, ◌∙◌}
use Rattle.arq_link.proofs.WaitingLaws.{peer_appended, kept_appended}
use Rattle.arq_link.proofs.session.Session.give.Goals as goal

pub returns-clause-given : goal.returns-clause-given
returns-clause-given g c = peer_appended c.args.me _ _ _ _ _ c.args.self.now.counted c.in_ok-frame.ensures.is _
    (c.push_back_reserved.ensures.items ∙ ap (λ l. l ++ c.in_ok-frame.frame ∷ []) c.reserve.ensures.items) _

pub returns-clause-kept : goal.returns-clause-kept
returns-clause-kept g c = kept_appended c.args.me _ _ _ _ _ c.args.self.now.counted c.in_ok-frame.ensures.is _
    (c.push_back_reserved.ensures.items ∙ ap (λ l. l ++ c.in_ok-frame.frame ∷ []) c.reserve.ensures.items)

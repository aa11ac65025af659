use Rattle.std.proofs.Common.{refl}
use Rattle.run_watch.proofs.TellLemmas.{told_as}
use Rattle.run_watch.proofs.telling.tell_event.Goals as goal

pub returns-in_default-clause-told : goal.returns-in_default-clause-told
returns-in_default-clause-told c = λ s stands watch w come. record { is = (rw c.in_default.is at c.in_ok-found.ensures.stepped) s stands; same = refl }

pub returns-clause-told : goal.returns-clause-told
returns-clause-told c = λ s stands watch w come.
    told_as _ watch s w _ _ _ _ _ _ _ _ _ _ _ ((rw c.in-Some.is at c.in_ok-found.ensures.stepped) s stands) c.as_slice-seen.ensures (c.in_ok-hear.ensures watch w come) c.new-heard.ensures c.as_slice.ensures c.in_ok-put_actions.ensures
    c.in_ok-put_said.ensures

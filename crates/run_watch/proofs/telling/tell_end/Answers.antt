use Rattle.run_watch.proofs.TellLemmas.{end_goes_on, end_rests}
use Rattle.run_watch.proofs.telling.tell_end.Goals as goal

pub is_at_rest-requires : goal.is_at_rest-requires
is_at_rest-requires c =
    let (s, stands) = c.requires.stands in
    record { compiled = c.requires.compiled; program = c.requires.program; ready = λ unspent. (s, stands); unspent = stands.runs.unspent }

pub returns-then-not-rests : goal.returns-then-not-rests
returns-then-not-rests c = λ s stands watch w come. end_goes_on _ watch s w stands.runs.sound _ (c.in_ok-rests.ensures s stands) _ c.if-not-rests.true

pub returns : goal.returns
returns c = λ s stands watch w come.
    end_rests _ watch s w stands.runs.sound _ (c.in_ok-rests.ensures s stands) _ _ _ _ _ _ c.if-not-rests.false (c.in_ok-hear_quiet.ensures watch w come) c.new-heard.ensures c.as_slice.ensures c.in_ok-put_said.ensures

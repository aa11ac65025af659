use Rattle.std.specs.Prelude.{List}
use Rattle.std.proofs.Common.{arith, ap}
use Rattle.arq_link.specs.Endpoint.{Peer}
use Rattle.arq_link.proofs.GiveLaws.{gives, has_room}
use Rattle.arq_link.proofs.ResultLaws.{on_err_one, on_ok_both}
use Rattle.arq_link.proofs.SessionLaws.{back_count, back_kept, back_peers, kept_at, peers_same}
use Rattle.arq_link.proofs.endpoint.Endpoint.give.Goals as goal

pub give-result-requires-clause-room : goal.give-result-requires-clause-room
give-result-requires-clause-room g c = has_room _ c.args.to _ c.replace-session.ensures.value c.requires.room

pub invariant_of-self-clause-few : goal.invariant_of-self-clause-few
invariant_of-self-clause-few g c = omega (arith, back_count _ _ _ _ _ _ c.replace-session.ensures.put c.set.ensures, c.args.self.now.few)

pub invariant_of-self-clause-kept : goal.invariant_of-self-clause-kept
invariant_of-self-clause-kept g c = back_kept _ _ _ _ _ _ c.replace-session.ensures.put c.set.ensures c.args.self.now.me c.args.self.now.kept
    (c.give-result.ensures.kept (kept_at c.args.self.now.me _ _ _ c.args.self.now.kept c.replace-session.ensures.value))

pub returns-clause-given : goal.returns-clause-given
returns-clause-given g c = on_ok_both c.give-result.result _ _ _
    (gives c.args.self.now.me c.args.self.now.idle c.args.to c.args.payload.now _ _ _ _ _ _ _ _ c.replace-session.ensures.value
    c.replace-session.ensures.put c.set.ensures c.requires.room)
    c.give-result.ensures.given c.give-result.ensures.adds

pub returns-clause-same : goal.returns-clause-same
returns-clause-same g c = on_err_one c.give-result.result _ _
    (λ same. ap (λ (l : List Peer). record { peers = l; idle = c.args.self.now.idle })
    (peers_same _ _ _ _ c.give-result.new.self c.replace-session.ensures.value (back_peers _ _ _ _ _ _ c.replace-session.ensures.put c.set.ensures) same))
    c.give-result.ensures.same

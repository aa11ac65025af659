use Rattle.std.proofs.Common.{arith}
use Rattle.arq_link.proofs.HearLaws.{early_plays, due_plays, data_cut}
use Rattle.arq_link.proofs.ResultLaws.{on_err}
use Rattle.arq_link.proofs.SessionLaws.{session_read}
use Rattle.arq_link.proofs.endpoint.Endpoint.hear_data.Goals as goal

pub returns-then-not-is_expected-clause-played : goal.returns-then-not-is_expected-clause-played
returns-then-not-is_expected-clause-played g c = (early_plays c.args.self.now.me c.args.self.now.idle c.args.sender c.args.number _ _ _ c.requires.idle
    (session_read _ _ _ _ c.as_slice.ensures (omega (arith, c.requires.there.0, c.requires.there.1))) _ _ _
    c.if-not-is_expected.ensures c.acknowledgement_frame.ensures.is c.in_ok-give.ensures.adds).0

pub returns-then-not-is_expected-clause-answers : goal.returns-then-not-is_expected-clause-answers
returns-then-not-is_expected-clause-answers g c = (early_plays c.args.self.now.me c.args.self.now.idle c.args.sender c.args.number _ _ _ c.requires.idle
    (session_read _ _ _ _ c.as_slice.ensures (omega (arith, c.requires.there.0, c.requires.there.1))) _ _ _
    c.if-not-is_expected.ensures c.acknowledgement_frame.ensures.is c.in_ok-give.ensures.adds).1

pub returns-in_err-give-2-clause-cut : goal.returns-in_err-give-2-clause-cut
returns-in_err-give-2-clause-cut g c = on_err c.from_residual-in_err-give-2.result _
    (data_cut c.args.self.now.me c.args.self.now.idle c.args.sender c.args.number _ _ _ _ c.requires.idle c.in_err-give-2.ensures.same)

pub returns-clause-played : goal.returns-clause-played
returns-clause-played g c = (due_plays c.args.self.now.me c.args.self.now.idle c.args.sender c.args.number _ _ _ c.requires.idle
    (session_read _ _ _ _ c.as_slice.ensures (omega (arith, c.requires.there.0, c.requires.there.1))) _ _ _ _ _ _
    c.if-not-is_expected.ensures c.acknowledgement_frame-2.ensures.is c.in_ok-give-2.ensures.adds c.expect.ensures.peers c.expect.ensures.idle
    c.to_front.ensures.is).0

pub returns-clause-answers : goal.returns-clause-answers
returns-clause-answers g c = (due_plays c.args.self.now.me c.args.self.now.idle c.args.sender c.args.number _ _ _ c.requires.idle
    (session_read _ _ _ _ c.as_slice.ensures (omega (arith, c.requires.there.0, c.requires.there.1))) _ _ _ _ _ _
    c.if-not-is_expected.ensures c.acknowledgement_frame-2.ensures.is c.in_ok-give-2.ensures.adds c.expect.ensures.peers c.expect.ensures.idle
    c.to_front.ensures.is).1

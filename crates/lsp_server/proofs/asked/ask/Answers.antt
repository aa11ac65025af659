use Rattle.std.proofs.Common.{◌≡◌, ap, subst, sym, ◌∙◌, IfOk}
use Rattle.std.proofs.lemmas.Result.{IfOk-weaker}
use Rattle.serde_json.specs.Data.{null}
use Rattle.serde_json.specs.View.{view}
use Rattle.lsp_server.specs.DueView.{due_view}
use Rattle.lsp_server.specs.Letters.{IsSent, answer, refusal}
use Rattle.lsp_server.specs.Session as session
use Rattle.lsp_server.specs.Session.{Answers, Due, due}
use Rattle.lsp_server.proofs.AskLemmas.{due_answered, nothing_answered, refused_answered, some_answered}
use Rattle.lsp_server.proofs.asked.ask.Goals as goal

pub returns-in-Begins : goal.returns-in-Begins
returns-in-Begins c =
    let id = view c.args.id.now in
    let done = view c.abilities.result in
    let is : session.some ≡ due c.args.phase c.args.method.now = sym (ap due_view c.in-Begins.is) ∙ c.due_of.ensures in
    IfOk-weaker c.answer.result (IsSent (answer id done)) (Answers (due c.args.phase c.args.method.now) id)
    (λ bytes sent. due_answered session.some (due c.args.phase c.args.method.now) id bytes is (some_answered id done bytes sent)) c.answer.ensures

pub returns-in-Ends : goal.returns-in-Ends
returns-in-Ends c =
    let id = view c.args.id.now in
    let is : session.nothing ≡ due c.args.phase c.args.method.now = sym (ap due_view c.in-Ends.is) ∙ c.due_of.ensures in
    IfOk-weaker c.answer_null.result (IsSent (answer id null)) (Answers (due c.args.phase c.args.method.now) id)
    (λ bytes sent. due_answered session.nothing (due c.args.phase c.args.method.now) id bytes is (nothing_answered id bytes sent)) c.answer_null.ensures

pub returns-in-Known : goal.returns-in-Known
returns-in-Known c =
    let is : session.tried ≡ due c.args.phase c.args.method.now = sym (ap due_view c.in-Known.is) ∙ c.due_of.ensures in
    subst (λ (what : Due). IfOk c.ask_known.result (Answers what (view c.args.id.now))) is c.ask_known.ensures

pub returns-in-Fails : goal.returns-in-Fails
returns-in-Fails c =
    let id = view c.args.id.now in
    let why = c.in-Fails.fault in
    let is : session.fails why ≡ due c.args.phase c.args.method.now = sym (ap due_view c.in-Fails.is) ∙ c.due_of.ensures in
    IfOk-weaker c.refusal.result (IsSent (refusal id why)) (Answers (due c.args.phase c.args.method.now) id)
    (λ bytes sent. due_answered (session.fails why) (due c.args.phase c.args.method.now) id bytes is (refused_answered id why bytes sent)) c.refusal.ensures

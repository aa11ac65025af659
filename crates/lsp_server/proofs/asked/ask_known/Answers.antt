use Rattle.std.proofs.lemmas.Result.{IfOk-weaker}
use Rattle.serde_json.specs.View.{view}
use Rattle.lsp_server.specs.declared.fault.Fault.TheVariants as fault
use Rattle.lsp_server.specs.Letters.{IsSent, answer, refusal}
use Rattle.lsp_server.specs.Session as session
use Rattle.lsp_server.specs.Session.{Answers}
use Rattle.lsp_server.proofs.AskLemmas.{tried_answered, tried_refused}
use Rattle.lsp_server.proofs.asked.ask_known.Goals as goal

pub returns-in-Some : goal.returns-in-Some
returns-in-Some c =
    let id = view c.args.id.now in
    let done = view c.in-Some.done in
    IfOk-weaker c.answer.result (IsSent (answer id done)) (Answers session.tried id) (λ bytes sent. tried_answered id done bytes sent) c.answer.ensures

pub returns-in-None : goal.returns-in-None
returns-in-None c =
    let id = view c.args.id.now in
    IfOk-weaker c.refusal.result (IsSent (refusal id fault.BadParams)) (Answers session.tried id) (λ bytes sent. tried_refused id bytes sent) c.refusal.ensures

use Rattle.std.proofs.Common.{subst, Vec, Global}
use Rattle.std.proofs.lemmas.Result.{IfOk-weaker}
use Rattle.da_front.specs.Verdict.{IsRefusedAs, Refuses}
use Rattle.serde_json.specs.View.{items_view}
use Rattle.serde_json.specs.declared.value.Value.{Value}
use Rattle.lsp_server.specs.Notices.{IsDiagnosed}
use Rattle.lsp_server.proofs.checking.error_by.Goals as goal

pub returns-in-Refused : goal.returns-in-Refused
returns-in-Refused c =
    let text = c.args.text.now in
    IfOk-weaker c.error_of.result (λ (list : Vec Value Global). Refuses text c.in-Refused.kind c.in-Refused.line → IsDiagnosed text (items_view list.items))
    (λ (list : Vec Value Global). IsRefusedAs text c.args.fault → IsDiagnosed text (items_view list.items))
    (λ list holds is. holds (subst (IsRefusedAs text) c.in-Refused.is is)) c.error_of.ensures

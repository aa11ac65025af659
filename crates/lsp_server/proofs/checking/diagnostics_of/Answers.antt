use Rattle.std.proofs.Common.{Vec, Global}
use Rattle.std.proofs.lemmas.Result.{IfOk-weaker}
use Rattle.da_front.specs.Verdict.{IsRefusedAs}
use Rattle.serde_json.specs.View.{items_view}
use Rattle.serde_json.specs.declared.value.Value.{Value}
use Rattle.lsp_server.specs.Notices.{AreWarnings, IsDiagnosed, fine}
use Rattle.lsp_server.proofs.checking.diagnostics_of.Goals as goal

pub returns-in-Ok : goal.returns-in-Ok
returns-in-Ok c =
    let text = c.args.text.now in
    IfOk-weaker c.warnings_of.result (λ (list : Vec Value Global). AreWarnings (items_view list.items)) (λ (list : Vec Value Global). IsDiagnosed text (items_view list.items))
    (λ list warned. fine _ (items_view list.items) c.in-Ok.ensures.read warned) c.warnings_of.ensures

pub returns-in-Err : goal.returns-in-Err
returns-in-Err c =
    let text = c.args.text.now in
    IfOk-weaker c.error_by.result (λ (list : Vec Value Global). IsRefusedAs text c.in-Err.fault → IsDiagnosed text (items_view list.items)) (λ (list : Vec Value Global). IsDiagnosed text (items_view list.items))
    (λ list holds. holds c.in-Err.ensures.refused) c.error_by.ensures

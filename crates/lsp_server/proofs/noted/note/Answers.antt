use Rattle.std.proofs.Common.{Some, None}
use Rattle.std.proofs.lemmas.Result.{IfOk-weaker}
use Rattle.serde_json.specs.View.{view}
use Rattle.lsp_server.specs.declared.noted.Change.TheVariants.{Opened, Other, Shut}
use Rattle.lsp_server.specs.Notices.{Tells, TellsOf, change_of}
use Rattle.lsp_server.proofs.ChangeLemmas.{tells_as}
use Rattle.lsp_server.proofs.noted.note.Goals as goal

pub returns-in-Opened : goal.returns-in-Opened
returns-in-Opened c =
    let uri = c.in-Opened.uri in
    let text = c.in-Opened.text in
    IfOk-weaker c.opened.result (Tells (record { uri = uri.now; text = Some text.now })) (TellsOf (change_of c.args.method.now (view c.args.value.now)))
    (λ bytes told. tells_as c.change_of.result (Opened uri text) (change_of c.args.method.now (view c.args.value.now)) bytes c.change_of.ensures c.in-Opened.is told) c.opened.ensures

pub returns-in-Shut : goal.returns-in-Shut
returns-in-Shut c =
    let uri = c.in-Shut.uri in
    IfOk-weaker c.shut.result (Tells (record { uri = uri.now; text = None })) (TellsOf (change_of c.args.method.now (view c.args.value.now)))
    (λ bytes told. tells_as c.change_of.result (Shut uri) (change_of c.args.method.now (view c.args.value.now)) bytes c.change_of.ensures c.in-Shut.is told) c.shut.ensures

pub returns-in-Other : goal.returns-in-Other
returns-in-Other c = tells_as c.change_of.result Other (change_of c.args.method.now (view c.args.value.now)) c.new.result c.change_of.ensures c.in-Other.is c.new.ensures

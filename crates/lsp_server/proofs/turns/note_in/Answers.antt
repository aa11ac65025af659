use Rattle.std.proofs.Common.{sym, ◌∙◌, true≢false}
use Rattle.std.proofs.lemmas.Result.{IfOk-weaker}
use Rattle.serde_json.specs.View.{view}
use Rattle.lsp_server.specs.Notices.{TellsOf, change_of}
use Rattle.lsp_server.specs.Session.{TellsIn}
use Rattle.lsp_server.proofs.RepliedLemmas.{ready_tells, silent_tells}
use Rattle.lsp_server.proofs.turns.note_in.Goals as goal

pub returns-then-is_ready-clause-tells : goal.returns-then-is_ready-clause-tells
returns-then-is_ready-clause-tells c =
    let phase = c.args.state.now.phase in
    let method = c.args.method.now in
    IfOk-weaker c.note.result (TellsOf (change_of method (view c.args.value.now))) (TellsIn phase method (view c.args.value.now))
    (λ bytes told. ready_tells phase method (view c.args.value.now) bytes (c.is_ready.ensures.0 c.if-is_ready.true) told) c.note.ensures

pub returns-clause-tells : goal.returns-clause-tells
returns-clause-tells c =
    silent_tells c.args.state.now.phase c.args.method.now (view c.args.value.now) c.new.result (λ ready. true≢false (sym (c.is_ready.ensures.1 ready) ∙ c.if-is_ready.false)) c.new.ensures

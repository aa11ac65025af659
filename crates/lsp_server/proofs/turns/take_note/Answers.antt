use Rattle.std.proofs.Common.{ap, refl, sym, ◌∙◌, Some, true≢false}
use Rattle.da_outside.proofs.OutsideLemmas.{no_cause}
use Rattle.serde_json.specs.View.{view}
use Rattle.lsp_server.specs.Heard.{notes}
use Rattle.lsp_server.specs.Turns.{HasTaken}
use Rattle.lsp_server.proofs.CauseLemmas.{ended, left_unread, left_unwritten}
use Rattle.lsp_server.proofs.RepliedLemmas.{note_taken}
use Rattle.lsp_server.proofs.turns.take_note.Goals as goal

pub returns-then-is_exit-clause-taken : goal.returns-then-is_exit-clause-taken
returns-then-is_exit-clause-taken g c = λ is. HasTaken.exits (is ∙ ap notes (c.is_exit.ensures.0 c.if-is_exit.true)) (ap Some c.left_from.ensures) refl

pub returns-then-is_exit-clause-write : goal.returns-then-is_exit-clause-write
returns-then-is_exit-clause-write g c = no_cause _ (left_unwritten c.args.state.now.phase c.left_from.result c.left_from.ensures)

pub returns-then-is_exit-clause-unread : goal.returns-then-is_exit-clause-unread
returns-then-is_exit-clause-unread g c = left_unread c.args.state.now.phase c.left_from.result c.left_from.ensures

pub returns-clause-taken : goal.returns-clause-taken
returns-clause-taken g c = λ is.
    note_taken c.args.state.now.phase c.notification.new.state.phase (view c.args.value.now) c.args.method.now (g.K.Sink.taken c.args.out.now) (g.K.Sink.taken c.notification.new.out) c.notification.result is (λ exit. true≢false (sym (c.is_exit.ensures.1 exit) ∙ c.if-is_exit.false)) c.notification.ensures.phase
    c.notification.ensures.replied

pub returns-then-is_exit-clause-moved : goal.returns-then-is_exit-clause-moved
returns-then-is_exit-clause-moved g c = λ none. ended _ none

pub returns-clause-moved : goal.returns-clause-moved
returns-clause-moved g c = c.notification.ensures.moved

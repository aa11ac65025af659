use Rattle.std.proofs.Common.{ap, refl, sym, ◌∙◌}
use Rattle.serde_json.specs.View.{view}
use Rattle.lsp_server.specs.Message.{heard_of}
use Rattle.lsp_server.proofs.RepliedLemmas.{answer_taken, invalid_taken, request_taken}
use Rattle.lsp_server.proofs.turns.take_json.Goals as goal

pub returns-in-Asks-clause-taken : goal.returns-in-Asks-clause-taken
returns-in-Asks-clause-taken g c =
    request_taken c.args.state.now.phase c.request.new.state.phase (view c.args.value.now) (view c.in-Asks.id.now) c.in-Asks.method.now (g.K.Sink.taken c.args.out.now) (g.K.Sink.taken c.request.new.out) c.request.result (sym c.message_of.ensures ∙ ap heard_of c.in-Asks.is) c.request.ensures.phase c.request.ensures.replied

pub returns-in-Notes-clause-taken : goal.returns-in-Notes-clause-taken
returns-in-Notes-clause-taken g c = c.take_note.ensures.taken (sym c.message_of.ensures ∙ ap heard_of c.in-Notes.is)

pub returns-in-Answers-clause-taken : goal.returns-in-Answers-clause-taken
returns-in-Answers-clause-taken g c =
    answer_taken c.args.state.now.phase c.send.new.state.phase (view c.args.value.now) _ (g.K.Sink.taken c.args.out.now) (g.K.Sink.taken c.send.new.out) c.send.result (sym c.message_of.ensures ∙ ap heard_of c.in-Answers.is) c.send.ensures.phase refl c.send.ensures.replied

pub returns-in-Invalid-clause-taken : goal.returns-in-Invalid-clause-taken
returns-in-Invalid-clause-taken g c =
    invalid_taken c.args.state.now.phase c.refuse.new.state.phase (view c.args.value.now) (g.K.Sink.taken c.args.out.now) (g.K.Sink.taken c.refuse.new.out) c.refuse.result (sym c.message_of.ensures ∙ ap heard_of c.in-Invalid.is) c.refuse.ensures.phase c.refuse.ensures.replied

pub returns-in-Asks-clause-moved : goal.returns-in-Asks-clause-moved
returns-in-Asks-clause-moved g c = c.request.ensures.moved

pub returns-in-Notes-clause-moved : goal.returns-in-Notes-clause-moved
returns-in-Notes-clause-moved g c = c.take_note.ensures.moved

pub returns-in-Answers-clause-moved : goal.returns-in-Answers-clause-moved
returns-in-Answers-clause-moved g c = c.send.ensures.moved

pub returns-in-Invalid-clause-moved : goal.returns-in-Invalid-clause-moved
returns-in-Invalid-clause-moved g c = c.refuse.ensures.moved

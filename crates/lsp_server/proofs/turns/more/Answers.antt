use Rattle.std.proofs.Common.{inl}
use Rattle.lsp_server.proofs.CauseLemmas.{end_closed, end_unread, end_unwritten, ended, read_cause}
use Rattle.lsp_server.proofs.turns.more.Goals as goal

pub returns-in-Ok-clause-ends : goal.returns-in-Ok-clause-ends
returns-in-Ok-clause-ends g c = end_closed (g.S.Source.left c.args.source.now) c.end_by.result c.in-Ok.count c.in-Ok.ensures.end c.end_by.ensures

pub returns-in-Ok-clause-goes : goal.returns-in-Ok-clause-goes
returns-in-Ok-clause-goes g c = λ goes. c.in-Ok.ensures.same

pub returns-in-Ok-clause-read : goal.returns-in-Ok-clause-read
returns-in-Ok-clause-read g c = read_cause c.in-Ok.count c.end_by.result _ _ (end_unread c.end_by.result c.in-Ok.count c.end_by.ensures) c.in-Ok.ensures.cause

pub returns-in-Ok-clause-unwritten : goal.returns-in-Ok-clause-unwritten
returns-in-Ok-clause-unwritten g c = end_unwritten c.end_by.result c.in-Ok.count c.end_by.ensures

pub returns-in-Err-Failed-clause-ends : goal.returns-in-Err-Failed-clause-ends
returns-in-Err-Failed-clause-ends g c = inl tt

pub returns-in-Err-Memory-clause-ends : goal.returns-in-Err-Memory-clause-ends
returns-in-Err-Memory-clause-ends g c = inl tt

pub returns-in-Err-Failed-clause-goes : goal.returns-in-Err-Failed-clause-goes
returns-in-Err-Failed-clause-goes g c = λ none. ended _ none

pub returns-in-Err-Memory-clause-goes : goal.returns-in-Err-Memory-clause-goes
returns-in-Err-Memory-clause-goes g c = λ none. ended _ none

use Rattle.std.proofs.Common.{◌≡◌}
use Rattle.lsp_server.proofs.SessionLemmas.{Led}
use Rattle.lsp_server.proofs.serving.serve.Given as goal

abbrev pub invariant-turns : goal.invariant-turns
invariant-turns g l = record {
  led : Led (g.S.Source.left l.fn.source) (g.K.Sink.taken l.fn.out) (g.K.Sink.taken l.out) l.state.phase l.state.input (g.S.Source.left l.source);
  read : g.S.Source.faults l.source ≡ g.S.Source.faults l.fn.source;
  write : g.K.Sink.faults l.out ≡ g.K.Sink.faults l.fn.out;
}

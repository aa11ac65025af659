use Rattle.std.proofs.Common.{sym}
use Rattle.da_calls.proofs.CallAnswers.{marked_test, unknown_yields}
use Rattle.da_calls.proofs.graph.CallGraph.yields.Goals as goal

pub returns-in-None : goal.returns-in-None
returns-in-None c = unknown_yields _ _ c.in-None.ensures.method

pub returns-in-Some : goal.returns-in-Some
returns-in-Some c = marked_test _ _ _ _ _ c.has_mark.ensures c.as_slice.ensures.value (c.requires.yields_at _ _ (sym c.in-Some.ensures.number))

use Rattle.std.proofs.Common.{sym}
use Rattle.da_calls.proofs.CallAnswers.{marked_test}
use Rattle.da_calls.proofs.graph.CallGraph.is_reached.Goals as goal

pub returns-in-Some : goal.returns-in-Some
returns-in-Some c = marked_test _ _ _ _ _ c.has_mark.ensures c.as_slice.ensures.value (c.requires.graph.reached_at _ _ (sym c.in-Some.ensures.number))

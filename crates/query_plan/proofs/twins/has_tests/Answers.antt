use Rattle.std.proofs.Common.{◌∙◌, sym}
use Rattle.query_plan.proofs.twins.has_tests.Goals as goal

pub returns-in-Some : goal.returns-in-Some
returns-in-Some c = λ told. (c.in-Some.entry.now, sym c.in-Some.ensures.value, sym c.as_slice.ensures ∙ c.are_these.ensures told)

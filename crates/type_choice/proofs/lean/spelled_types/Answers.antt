use Rattle.std.specs.Prelude.{◌<◌}
use Rattle.type_choice.proofs.SpellLaws.{spelled_by}
use Rattle.type_choice.proofs.lean.spelled_types.Goals as goal

pub returns-clause-spelled : goal.returns-clause-spelled
returns-clause-spelled c = spelled_by (λ d t. Unit {0})

pub returns-clause-within : goal.returns-clause-within
returns-clause-within c = λ most. spelled_by (λ d t. d < most)

use Rattle.std.proofs.Common.{◌∙◌, ap}
use Rattle.std.specs.Prelude.{if◌then◌else◌, not}
use Rattle.delta_rules.proofs.answers.Answers.is_met.Goals as goal

pub returns : goal.returns
returns c pool = c.as_wanted.ensures ∙ ap (λ b. if c.args.test.filled then b else not b) (c.has_row-there.ensures pool)

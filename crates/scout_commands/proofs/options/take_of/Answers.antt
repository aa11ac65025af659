use Rattle.std.proofs.Common.{map}
use Rattle.std.specs.String.{string_bytes}
use Rattle.scout_commands.specs.declared.options.Kind.TheVariants.{Lose, Repeat, By, Jobs, Coverage, Quiet}
use Rattle.scout_commands.proofs.OptionLemmas.{as_kind}
use Rattle.scout_commands.proofs.options.take_of.Goals as goal

pub returns-in-Lose : goal.returns-in-Lose
returns-in-Lose c = as_kind c.args.kind Lose c.args.options (map string_bytes c.args.words.now) c.take_losses.result c.in-Lose.is c.take_losses.ensures

pub returns-in-Repeat : goal.returns-in-Repeat
returns-in-Repeat c = as_kind c.args.kind Repeat c.args.options (map string_bytes c.args.words.now) c.take_repetitions.result c.in-Repeat.is c.take_repetitions.ensures

pub returns-in-By : goal.returns-in-By
returns-in-By c = as_kind c.args.kind By c.args.options (map string_bytes c.args.words.now) c.take_strategy.result c.in-By.is c.take_strategy.ensures

pub returns-in-Jobs : goal.returns-in-Jobs
returns-in-Jobs c = as_kind c.args.kind Jobs c.args.options (map string_bytes c.args.words.now) c.take_jobs.result c.in-Jobs.is c.take_jobs.ensures

pub returns-in-Coverage : goal.returns-in-Coverage
returns-in-Coverage c = as_kind c.args.kind Coverage c.args.options (map string_bytes c.args.words.now) c.take_coverage.result c.in-Coverage.is c.take_coverage.ensures

pub returns-in-Quiet : goal.returns-in-Quiet
returns-in-Quiet c = as_kind c.args.kind Quiet c.args.options (map string_bytes c.args.words.now) c.take_quiet.result c.in-Quiet.is c.take_quiet.ensures

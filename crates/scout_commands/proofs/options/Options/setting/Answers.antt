use Rattle.std.proofs.Common.{refl}
use Rattle.scout_commands.proofs.OptionLemmas.{setting_is}
use Rattle.scout_commands.proofs.options.Options.setting.Goals as goal

pub returns : goal.returns
returns c = setting_is c.args.self.now c.unwrap_or-losses.result c.unwrap_or-repetitions.result c.unwrap_or-strategy.result _ c.unwrap_or-losses.ensures c.unwrap_or-repetitions.ensures c.unwrap_or-strategy.ensures refl

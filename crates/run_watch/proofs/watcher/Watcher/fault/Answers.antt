use Rattle.std.proofs.Common.{ap}
use Rattle.da_lang.specs.declared.event.Action.TheVariants.{Fault}
use Rattle.da_lang.specs.declared.event.FaultKind.TheVariants.{TooLong}
use Rattle.run_watch.proofs.watcher.Watcher.fault.Goals as goal

pub returns : goal.returns
returns c = ap (λ line. Fault c.args.self.now.me TooLong line) c.class_line-line.ensures

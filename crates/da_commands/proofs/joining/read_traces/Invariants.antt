use Rattle.std.proofs.Common.{◌≡◌, take}
use Rattle.std.specs.Prelude.{Ok}
use Rattle.da_commands.specs.JoinSteps.{AreRead}
use Rattle.da_commands.proofs.joining.read_traces.Given as goal

abbrev pub invariant-loop-text : goal.invariant-loop-text
invariant-loop-text l = record {
  counted : l.process ≡ l.text-index;
  read : AreRead (take l.text-index l.texts) (Ok l.traces);
}

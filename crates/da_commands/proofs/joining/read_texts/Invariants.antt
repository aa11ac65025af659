use Rattle.std.proofs.Common.{◌≡◌, ℕ, List, map, take}
use Rattle.std.specs.String.{string_bytes}
use Rattle.sched_text.specs.TraceText.{trace_limit}
use Rattle.da_commands.specs.JoinSteps.{AreWhole}
use Rattle.da_commands.proofs.joining.read_texts.Given as goal

abbrev pub invariant-loop-name : goal.invariant-loop-name
invariant-loop-name g l = record {
  whole : AreWhole trace_limit (map (λ name. g.F.Files.told l.initial.files (string_bytes name)) (take l.name-index l.names)) l.texts;
  told : (x : List ℕ) → g.F.Files.told l.files x ≡ g.F.Files.told l.initial.files x;
  faults : (x : List ℕ) → g.F.Files.faults l.files x ≡ g.F.Files.faults l.initial.files x;
}

use Rattle.std.proofs.Common.{◌≡◌, flat_map, map, take}
use Rattle.da_commands.specs.JoinSteps.{blocked_at}
use Rattle.da_commands.specs.Lines.{blocked_line}
use Rattle.da_commands.proofs.lines.block_lines.Given as goal

abbrev pub invariant-loop-block : goal.invariant-loop-block
invariant-loop-block l = l.text ≡ flat_map blocked_line (map blocked_at (take l.block-index l.blocks))

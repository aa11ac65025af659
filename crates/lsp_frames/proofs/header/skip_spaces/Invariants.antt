use Rattle.std.proofs.Common.{◌≡◌, length}
use Rattle.lsp_frames.specs.Frames.{skip_spaces}
use Rattle.lsp_frames.proofs.header.skip_spaces.Given as goal

abbrev pub invariant-loop-line : goal.invariant-loop-line
invariant-loop-line l = skip_spaces l.line ≡ skip_spaces l.initial.line

abbrev pub decreases-loop-line : goal.decreases-loop-line
decreases-loop-line l = length l.line

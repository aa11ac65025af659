use Rattle.std.proofs.Common.{◌≡◌, length}
use Rattle.lsp_frames.specs.Frames.{length_after, told_length}
use Rattle.lsp_frames.proofs.header.told_length.Given as goal

abbrev pub invariant-loop-header : goal.invariant-loop-header
invariant-loop-header l = length_after l.found l.header ≡ told_length l.initial.header

abbrev pub decreases-loop-header : goal.decreases-loop-header
decreases-loop-header l = length l.header

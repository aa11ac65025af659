use Rattle.std.proofs.Common.{◌≡◌, ◌+◌, length}
use Rattle.lsp_frames.specs.Frames.{blank_after, blank_end}
use Rattle.lsp_frames.proofs.header.blank_end.Given as goal

abbrev pub invariant-loop-bytes : goal.invariant-loop-bytes
invariant-loop-bytes l = record {
  is : blank_after l.count l.fresh l.bytes ≡ blank_end l.initial.bytes;
  size : l.count + length l.bytes ≡ length l.initial.bytes;
}

abbrev pub decreases-loop-bytes : goal.decreases-loop-bytes
decreases-loop-bytes l = length l.bytes

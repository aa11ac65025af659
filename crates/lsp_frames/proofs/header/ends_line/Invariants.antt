use Rattle.std.proofs.Common.{◌≡◌, length}
use Rattle.lsp_frames.specs.Frames.{ends_line}
use Rattle.lsp_frames.proofs.header.ends_line.Given as goal

abbrev pub invariant-loop-rest : goal.invariant-loop-rest
invariant-loop-rest l = ends_line l.rest ≡ ends_line l.initial.rest

abbrev pub decreases-loop-rest : goal.decreases-loop-rest
decreases-loop-rest l = length l.rest

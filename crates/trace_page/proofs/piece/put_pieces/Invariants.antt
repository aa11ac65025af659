use Rattle.std.proofs.Common.{◌≡◌, ◌++◌, take}
use Rattle.trace_page.specs.Parts.{pieces_text}
use Rattle.trace_page.proofs.piece.put_pieces.Given as goal

abbrev pub invariant-loop-piece : goal.invariant-loop-piece
invariant-loop-piece l = l.out ≡ l.fn.out ++ pieces_text (take l.piece-index l.pieces)

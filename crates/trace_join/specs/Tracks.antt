-- How far processes have come along their traces.
use Rattle.std.specs.Prelude.{◌≡◌, ◌-◌, ◌<◌, ◌≤◌, false, List, ◌∷◌, length, take, drop, slice_get, Some}
use Rattle.trace_join.specs.declared.piece.Piece.{Piece}
use Rattle.trace_join.specs.declared.track.Next.{Next}
use Rattle.trace_join.specs.declared.track.Track.{Track}

-- the next piece has some actions, and is within what is left of the trace
abbrev pub FitsNext : Track → Type 0
FitsNext t = (piece : Piece) (pieces : List Piece) → t.pieces.now ≡ piece ∷ pieces → (0 < piece.size) × (piece.size ≤ length t.left.now)

-- the next step is that of the next piece, and leads after it
pub record IsNext (t : Track) (n : Next) : Type 0 where
  pub piece : Piece
  pub pieces : t.pieces.now ≡ piece ∷ n.behind.pieces.now
  pub told : n.told.now ≡ take piece.size t.left.now
  pub left : n.behind.left.now ≡ drop piece.size t.left.now
  pub repeats : n.behind.repeats.now ≡ t.repeats.now
  pub asked : slice_get n.told.now 0 ≡ Some n.asked.now
  pub times_out : n.times_out ≡ piece.times_out
  pub again : n.again ≡ false → slice_get t.repeats.now (length t.left.now - 1) ≡ Some false

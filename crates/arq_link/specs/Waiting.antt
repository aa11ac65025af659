-- Frames that wait for an acknowledgement.
use Rattle.std.specs.Prelude.{◌≡◌, ℕ, ◌+◌, List, [], ◌∷◌, drop, ⊤}
use Rattle.arq_link.specs.Endpoint.{Data, Numbered}
use Rattle.arq_link.specs.Frames.{frame_bytes}

-- the payloads of frames in a row, the first of which has this number
abbrev pub numbered : (first : ℕ) → List (List ℕ) → List Numbered
numbered first [] = []
numbered first (frame ∷ frames) = record { number = first; payload = drop 14 frame } ∷ numbered (first + 1) frames

-- the frames are data of this sender, and are numbered in a row
abbrev pub AreFrames : (me first : ℕ) → List (List ℕ) → Type 0
AreFrames me first [] = ⊤
AreFrames me first (frame ∷ frames) = (frame ≡ frame_bytes (Data me first (drop 14 frame))) × AreFrames me (first + 1) frames

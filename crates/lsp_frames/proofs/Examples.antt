-- Frames at the front of streams, worked out.
use Rattle.std.specs.Prelude.{◌≡◌, ℕ, List, ◌++◌, ◌∷◌, [], codes, refl}
use Rattle.lsp_frames.specs.declared.cutting.Cut.TheVariants.{More, Content, Unread, Large}
use Rattle.std.specs.Fmt.{digits}
use Rattle.da_values.specs.Piece.{number_of}
use Rattle.lsp_frames.specs.Frames.{cut, frame}

-- the header of a content of two bytes, with its empty line
abbrev pub header : List ℕ → List ℕ
header line = line ++ 13 ∷ 10 ∷ 13 ∷ 10 ∷ []

pub content_there : cut (header (codes "Content-Length: 2") ++ codes "{}") ≡ Content 21 2
unfolding cut number_of
content_there = refl

pub content_lacks : cut (header (codes "Content-Length: 2") ++ codes "{") ≡ More
unfolding cut number_of
content_lacks = refl

pub small_name : cut (header (codes "content-length:2") ++ codes "{}") ≡ Content 20 2
unfolding cut number_of
small_name = refl

pub no_length : cut (header (codes "Content-Type: x")) ≡ Unread 19
unfolding cut number_of
no_length = refl

pub no_number : cut (header (codes "Content-Length: two")) ≡ Unread 23
unfolding cut number_of
no_number = refl

pub too_large : cut (header (codes "Content-Length: 67108865")) ≡ Large 28 67108865
unfolding cut number_of
too_large = refl

-- bytes that no frame took, and then a frame: the length of the frame counts
pub after_rest : cut (codes "}" ++ header (codes "Content-Length: 2") ++ codes "{}") ≡ Content 22 2
unfolding cut number_of
after_rest = refl

pub framed : frame (codes "{}") ≡ header (codes "Content-Length: 2") ++ codes "{}"
unfolding frame digits
framed = refl

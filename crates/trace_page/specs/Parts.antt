-- The parts that pages are made of, and their bytes.
use Rattle.std.specs.Prelude.{ℕ, ◌==◌, if◌then◌else◌, List, [], ◌∷◌, codes, decimal}
use Rattle.std.specs.List.{flat_map}
use Rattle.trace_page.specs.declared.markup.Frame.{Frame}
use Rattle.trace_page.specs.declared.markup.Markup.{Markup}
use Rattle.trace_page.specs.declared.piece.Piece.{Piece}
use Rattle.trace_page.specs.declared.piece.Piece.TheVariants.{Mark, Framed, Number, Text}
use Rattle.trace_page.specs.Markup.{frame_text, markup_text}

-- markup that is the same whatever was run, a number, or a text of a run
pub data Part : Type 0 where
  mark : Markup → Part
  frame : Frame → Part
  number : ℕ → Part
  text : List ℕ → Part

-- what stands in a page for a byte of a text
abbrev pub entity : ℕ → List ℕ
entity b =
    if b == 38 then codes "&amp;"
    else if b == 60 then codes "&lt;"
    else if b == 62 then codes "&gt;"
    else if b == 34 then codes "&quot;"
    else if b == 39 then codes "&#39;" else b ∷ []

abbrev pub escaped : List ℕ → List ℕ
escaped = flat_map entity

-- each text is escaped
abbrev pub part_text : Part → List ℕ
part_text (mark m) = markup_text m
part_text (frame f) = frame_text f
part_text (number n) = decimal n
part_text (text t) = escaped t

abbrev pub parts_text : List Part → List ℕ
parts_text = flat_map part_text

-- the part that a piece in code stands for
abbrev pub part_of : Piece → Part
part_of (Mark m) = mark m
part_of (Framed f) = frame f
part_of (Number n) = number n
part_of (Text t) = text t.now

abbrev pub pieces_text : List Piece → List ℕ
pieces_text = flat_map (λ p. part_text (part_of p))

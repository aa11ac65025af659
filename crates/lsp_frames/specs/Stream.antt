-- What is left of a stream: the bytes that have come, and after them those still to come, but for what is passed over of these.
use Rattle.std.specs.Prelude.{◌≡◌, ℕ, List, [], ◌++◌, drop, Option, Some, None, ⊤}
use Rattle.lsp_frames.specs.declared.input.Input.{Input}

abbrev pub come_of : Input → List ℕ
come_of input = input.come

-- where the source does not tell what is still to come, that may be anything
abbrev pub RemainsOf : List ℕ → ℕ → Option (List ℕ) → List ℕ → Type 0
RemainsOf come skip None rest = (later : List ℕ) × (rest ≡ come ++ later)
RemainsOf come skip (Some bytes) rest = rest ≡ come ++ drop skip bytes

abbrev pub Remains : Input → Option (List ℕ) → List ℕ → Type 0
Remains input left rest = RemainsOf input.come input.skip left rest

-- this is the stream of a source that has given nothing yet
abbrev pub IsStream : Option (List ℕ) → List ℕ → Type 0
IsStream None stream = ⊤
IsStream (Some bytes) stream = stream ≡ bytes

-- nothing is to come, where the source tells that
abbrev pub HasNone : Option (List ℕ) → Type 0
HasNone None = ⊤
HasNone (Some bytes) = bytes ≡ []

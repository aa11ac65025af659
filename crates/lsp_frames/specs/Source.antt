-- Streams: what a read takes off what is still to come.
use Rattle.std.specs.Prelude.{◌≡◌, ℕ, ◌<◌, List, ◌++◌, length, take, Option, Some, None}
use Rattle.lsp_frames.specs.declared.memory.MemSource.{MemSource}

-- n bytes that stand at the front of the buffer are the first of those to come, and these come after them; none came only at the
-- end or for want of room
pub record IsPiece (bytes : List ℕ) (n : ℕ) (buf after : List ℕ) : Type 0 where
  pub front : bytes ≡ take n buf ++ after
  pub some : 0 < length buf → 0 < length bytes → 0 < n

-- the same, where the source tells what is to come; a source that tells nothing never begins to
abbrev pub HasCome : Option (List ℕ) → ℕ → List ℕ → Option (List ℕ) → Type 0
HasCome None n buf now = now ≡ None
HasCome (Some bytes) n buf now = (after : List ℕ) × (now ≡ Some after) × IsPiece bytes n buf after

-- the bytes that a source in memory still has
abbrev pub bytes_of : MemSource → List ℕ
bytes_of source = source.bytes

-- What the server sends: the answer to a request, what stands in its place, and a notice. The keys stand in the order of their
-- bytes.
use Rattle.std.specs.Prelude.{◌≡◌, ℕ, false, List, codes}
use Rattle.serde_json.specs.Data.{Data, string, number, object, member, no_members}
use Rattle.serde_json.specs.Find.{of_integer}
use Rattle.serde_json.specs.Written.{compact_text, has_float}
use Rattle.lsp_frames.specs.Frames.{frame}
use Rattle.lsp_server.specs.declared.fault.Fault.{Fault}
use Rattle.lsp_server.specs.Faults.{code_of, text_of}

-- the answer to the request of this id
unfoldable pub answer : Data → Data → Data
answer id result =
    object
    (member (codes "id") id
    (member (codes "jsonrpc") (string (codes "2.0"))
    (member (codes "result") result
    no_members)))

-- why there is no answer
unfoldable pub error : Fault → Data
error fault =
    object
    (member (codes "code") (number (of_integer (code_of fault)))
    (member (codes "message") (string (text_of fault))
    no_members))

-- the same to the request of this id; `null` stands for one that is not known
unfoldable pub refusal : Data → Fault → Data
refusal id fault =
    object
    (member (codes "error") (error fault)
    (member (codes "id") id
    (member (codes "jsonrpc") (string (codes "2.0"))
    no_members)))

-- what is told unasked, by its method
unfoldable pub notice : List ℕ → Data → Data
notice method params =
    object
    (member (codes "jsonrpc") (string (codes "2.0"))
    (member (codes "method") (string method)
    (member (codes "params") params
    no_members)))

-- the bytes are the frame of this, compact, where it has no float
abbrev pub IsSent : Data → List ℕ → Type 0
IsSent d bytes = (text : List ℕ) × (bytes ≡ frame text) × (has_float d ≡ false → text ≡ compact_text d)

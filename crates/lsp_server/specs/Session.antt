-- What is sent for the frames of a stream, one after the other, and how that ends.
use Rattle.std.specs.Prelude.{◌≡◌, ℕ, ◌⊎◌, Bool, if◌then◌else◌, List, [], ◌∷◌, ◌++◌, take, drop, codes}
use Rattle.std.specs.List.{list_any}
use Rattle.std.specs.Str.{bytes_eq}
use Rattle.serde_json.specs.Data.{Data, null}
use Rattle.lsp_frames.specs.declared.cutting.Cut.TheVariants as cut_is
use Rattle.lsp_frames.specs.Frames.{cut}
use Rattle.lsp_server.specs.declared.fault.Fault.{Fault}
use Rattle.lsp_server.specs.declared.fault.Fault.TheVariants as fault
use Rattle.lsp_server.specs.declared.phase.Phase.{Phase}
use Rattle.lsp_server.specs.declared.phase.Phase.TheVariants.{Fresh, Ready, Down}
use Rattle.lsp_server.specs.declared.status.Status.{Status}
use Rattle.lsp_server.specs.declared.status.Status.TheVariants.{Stopped, Left, Closed, ReadFault, WriteFault, Memory, Spent}
use Rattle.lsp_server.specs.Heard.{Heard, Says, SaysNothing, answers, asks, heard, invalid, notes}
use Rattle.lsp_server.specs.Letters.{IsSent, answer, refusal}
use Rattle.lsp_server.specs.Notices.{TellsOf, change_of}

-- REQUESTS

abbrev pub is_named : List ℕ → List ℕ → Bool
is_named method name = bytes_eq method name

-- the requests on documents that have answers
unfoldable pub known : List (List ℕ)
known =
    codes "textDocument/hover"
    ∷ codes "textDocument/definition"
    ∷ codes "textDocument/references"
    ∷ codes "textDocument/documentSymbol"
    ∷ codes "textDocument/prepareRename"
    ∷ codes "textDocument/rename"
    ∷ codes "textDocument/codeAction"
    ∷ codes "textDocument/completion"
    ∷ codes "textDocument/codeLens"
    ∷ []

-- what a request is to be answered with: an answer that no rule here fixes, `null`, an answer or that its parameters are
-- others, or a fault
pub data Due : Type 0 where
  some : Due
  nothing : Due
  tried : Due
  fails : Fault → Due

-- `initialize` comes first and once, and nothing after `shutdown`
abbrev pub due : Phase → List ℕ → Due
due Fresh method = if is_named method (codes "initialize") then some else fails fault.NotBegun
due Ready method =
    if is_named method (codes "initialize") then fails fault.Invalid
    else if is_named method (codes "shutdown") then nothing
    else if list_any (is_named method) known then tried
    else fails fault.NoMethod
due Down method = fails fault.Invalid

abbrev pub phase_after : Phase → List ℕ → Phase
phase_after Fresh method = if is_named method (codes "initialize") then Ready else Fresh
phase_after Ready method = if is_named method (codes "shutdown") then Down else Ready
phase_after Down method = Down

-- this is an answer to the request of an id
abbrev pub IsDue : Due → Data → Data → Type 0
IsDue some id letter = (result : Data) × (letter ≡ answer id result)
IsDue nothing id letter = letter ≡ answer id null
IsDue tried id letter = ((result : Data) × (letter ≡ answer id result)) ⊎ (letter ≡ refusal id fault.BadParams)
IsDue (fails why) id letter = letter ≡ refusal id why

-- the bytes that answer it
abbrev pub Answers : Due → Data → List ℕ → Type 0
Answers what id bytes = (letter : Data) × IsDue what id letter × IsSent letter bytes

-- FRAMES

-- documents are told of between `initialize` and `shutdown`
abbrev pub TellsIn : Phase → List ℕ → Data → List ℕ → Type 0
TellsIn Ready method d bytes = TellsOf (change_of method d) bytes
TellsIn Fresh method d bytes = bytes ≡ []
TellsIn Down method d bytes = bytes ≡ []

-- in a phase JSON is followed by these bytes, and by this phase
pub data Follows (phase : Phase) (d : Data) : Heard → Phase → List ℕ → Type 0 where
  to_request : (id : Data) (method bytes : List ℕ) → Answers (due phase method) id bytes → Follows phase d (asks id method) (phase_after phase method) bytes
  to_note : (method bytes : List ℕ) → (method ≡ codes "exit" → ⊥) → TellsIn phase method d bytes → Follows phase d (notes method) phase bytes
  to_answer : Follows phase d answers phase []
  to_other : (bytes : List ℕ) → IsSent (refusal null fault.Invalid) bytes → Follows phase d invalid phase bytes

-- the frame at the front of a stream, in a phase, with the bytes and the phase that follow it, and what is left of the stream
pub data Frame (phase : Phase) (stream : List ℕ) : Phase → List ℕ → List ℕ → Type 0 where
  said : (first size : ℕ) (d : Data) (next : Phase) (bytes : List ℕ) → cut stream ≡ cut_is.Content first size → Says (take size (drop first stream)) d → Follows phase d (heard d) next bytes
      → Frame phase stream next bytes (drop size (drop first stream))
  unsaid : (first size : ℕ) (bytes : List ℕ) → cut stream ≡ cut_is.Content first size → SaysNothing (take size (drop first stream)) → IsSent (refusal null fault.Unread) bytes
      → Frame phase stream phase bytes (drop size (drop first stream))
  unread : (count : ℕ) (bytes : List ℕ) → cut stream ≡ cut_is.Unread count → IsSent (refusal null fault.Unread) bytes → Frame phase stream phase bytes (drop count stream)
  large : (first size : ℕ) (bytes : List ℕ) → cut stream ≡ cut_is.Large first size → IsSent (refusal null fault.Invalid) bytes → Frame phase stream phase bytes (drop size (drop first stream))

-- the frame at the front asks to end
pub record Exits (stream : List ℕ) : Type 0 where
  pub first : ℕ
  pub size : ℕ
  pub d : Data
  pub there : cut stream ≡ cut_is.Content first size
  pub says : Says (take size (drop first stream)) d
  pub exit : heard d ≡ notes (codes "exit")

-- SESSIONS

-- `exit` ends well after `shutdown` alone
abbrev pub left_from : Phase → Status
left_from Down = Stopped
left_from Fresh = Left
left_from Ready = Left

-- a read or a write failed, memory was refused, or so many turns were taken as there may be
abbrev pub IsCut : Status → Type 0
IsCut ReadFault = Unit {0}
IsCut WriteFault = Unit {0}
IsCut Memory = Unit {0}
IsCut Spent = Unit {0}
IsCut Stopped = ⊥
IsCut Left = ⊥
IsCut Closed = ⊥

-- From a phase on a stream is answered with these bytes, and this status. Each frame is answered before the next one, and none is
-- passed over. What is cut short ends between two frames, or within the bytes that follow one.
pub data Session : Phase → List ℕ → Status → List ℕ → Type 0 where
  closes : (phase : Phase) (stream : List ℕ) → cut stream ≡ cut_is.More → Session phase stream Closed []
  exits : (phase : Phase) (stream : List ℕ) → Exits stream → Session phase stream (left_from phase) []
  goes_on : (phase next : Phase) (stream rest bytes more : List ℕ) (status : Status) → Frame phase stream next bytes rest → Session next rest status more
      → Session phase stream status (bytes ++ more)
  stops : (phase : Phase) (stream : List ℕ) (status : Status) → IsCut status → Session phase stream status []
  breaks : (phase next : Phase) (stream rest bytes : List ℕ) (status : Status) (n : ℕ) → IsCut status → Frame phase stream next bytes rest → Session phase stream status (take n bytes)

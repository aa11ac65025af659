-- What one turn does: it answers the frame at the front, or takes in a piece of the stream.
use Rattle.std.specs.Prelude.{◌≡◌, ℕ, List, ◌++◌, drop, codes, Option, Some, None}
use Rattle.serde_json.specs.Data.{Data, null}
use Rattle.da_outside.specs.Outside.{Appends, AppendsPrefix}
use Rattle.lsp_frames.specs.declared.input.Input.{Input}
use Rattle.lsp_frames.specs.Stream.{IsStream, Remains}
use Rattle.lsp_server.specs.declared.fault.Fault.TheVariants.{Unread}
use Rattle.lsp_server.specs.declared.noted.Change.{Change}
use Rattle.lsp_server.specs.declared.noted.Change.TheVariants.{Opened, Other, Shut}
use Rattle.lsp_server.specs.declared.phase.Phase.{Phase}
use Rattle.lsp_server.specs.declared.phase.Phase.TheVariants.{Fresh}
use Rattle.lsp_server.specs.declared.status.Status.{Status}
use Rattle.lsp_server.specs.declared.turns.Extent.{Extent}
use Rattle.lsp_server.specs.Heard.{Says, SaysNothing, heard, notes}
use Rattle.lsp_server.specs.Letters.{IsSent, refusal}
use Rattle.lsp_server.specs.Notices as notices
use Rattle.lsp_server.specs.Session.{Follows, IsCut, Session, left_from}

-- a change that the code found, as the definition has it
abbrev pub change_view : Change → Option notices.Change
change_view (Opened uri text) = Some (record { uri = uri.now; text = Some text.now })
change_view (Shut uri) = Some (record { uri = uri.now; text = None })
change_view Other = None

-- A FRAME

-- a frame of so many bytes of header and of content is passed over
abbrev pub Passes : Input → Input → Extent → Type 0
Passes old new extent =
    (left : Option (List ℕ)) (rest : List ℕ) → Remains new left rest → (stream : List ℕ) × Remains old left stream × (rest ≡ drop extent.length (drop extent.first stream))

-- bytes that follow a frame were written, or a prefix of such bytes, or nothing, where the session is cut short
pub data HasReplied (Follow : List ℕ → Type 0) (before after : Option (List ℕ)) : Option Status → Type 0 where
  whole : (bytes : List ℕ) → Follow bytes → Appends before after bytes → HasReplied Follow before after None
  begun : (status : Status) (bytes : List ℕ) → IsCut status → Follow bytes → AppendsPrefix before after bytes → HasReplied Follow before after (Some status)
  nothing : (status : Status) → IsCut status → after ≡ before → HasReplied Follow before after (Some status)

-- the same of JSON in a phase; `exit` ends the session
pub data HasTaken (phase : Phase) (d : Data) (next : Phase) (before after : Option (List ℕ)) (result : Option Status) : Type 0 where
  replied : HasReplied (Follows phase d (heard d) next) before after result → HasTaken phase d next before after result
  exits : heard d ≡ notes (codes "exit") → result ≡ Some (left_from phase) → after ≡ before → HasTaken phase d next before after result

-- the same of a content
pub data HasHeard (phase : Phase) (content : List ℕ) (next : Phase) (before after : Option (List ℕ)) (result : Option Status) : Type 0 where
  read : (d : Data) → Says content d → HasTaken phase d next before after result → HasHeard phase content next before after result
  unread : SaysNothing content → next ≡ phase → HasReplied (IsSent (refusal null Unread)) before after result → HasHeard phase content next before after result
  stopped : (status : Status) → IsCut status → result ≡ Some status → after ≡ before → HasHeard phase content next before after result

-- A TURN

-- From what is left of a stream in a phase the server went on to another phase, with less of it left, and wrote these bytes: whatever
-- is written from there on, is written after them from here on. Or it ended there.
abbrev pub Leads : Phase → Input → Option (List ℕ) → Phase → Input → Option (List ℕ) → List ℕ → Option Status → Type 0
Leads phase old left next new now bytes None =
    (rest : List ℕ) → Remains new now rest
    → (stream : List ℕ) × Remains old left stream × ((status : Status) (more : List ℕ) → Session next rest status more → Session phase stream status (bytes ++ more))
Leads phase old left next new now bytes (Some status) = (stream : List ℕ) × Remains old left stream × Session phase stream status bytes

pub record HasTurned (phase : Phase) (old : Input) (left : Option (List ℕ)) (next : Phase) (new : Input) (now before after : Option (List ℕ)) (result : Option Status) : Type 0 where
  pub bytes : List ℕ
  pub wrote : Appends before after bytes
  pub leads : Leads phase old left next new now bytes result

-- The whole session, with the stream of the source; with some stream, where it does not tell its own.
pub record HasServed (left before after : Option (List ℕ)) (status : Status) : Type 0 where
  pub stream : List ℕ
  pub given : IsStream left stream
  pub bytes : List ℕ
  pub wrote : Appends before after bytes
  pub session : Session Fresh stream status bytes

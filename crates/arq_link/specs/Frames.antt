-- The bytes of a frame, and the frame that bytes are.
use Rattle.std.specs.Prelude.{ℕ, ◌^◌, ◌<◌, if◌then◌else◌, List, [], ◌∷◌, ◌++◌, take, drop, Option, Some, None, bytes_eq}
use Rattle.std.specs.Int.{w16, w64, to_be_bytes, from_be_bytes}
use Rattle.arq_link.specs.declared.frames.FrameKind.{FrameKind}
use Rattle.arq_link.specs.declared.frames.FrameKind.TheVariants as kinds
use Rattle.arq_link.specs.declared.frames.Header.{Header}
use Rattle.arq_link.specs.Endpoint.{Frame, Data, Acknowledgement, Arrival, FrameCame, OtherCame}

-- the bytes 44, 41, 02 in hexadecimal
abbrev pub mark : List ℕ
mark = 68 ∷ 65 ∷ 2 ∷ []

-- the mark, the kind, the sender and the number
abbrev pub header_bytes : (kind sender number : ℕ) → List ℕ
header_bytes kind sender number = mark ++ kind ∷ (to_be_bytes w16 sender ++ to_be_bytes w64 number)

abbrev pub frame_bytes : Frame → List ℕ
frame_bytes (Data sender number payload) = header_bytes 0 sender number ++ payload
frame_bytes (Acknowledgement sender number) = header_bytes 1 sender number

-- the sender and the number have room in the bytes
abbrev pub HasRoom : Frame → Type 0
HasRoom (Data sender number payload) = (sender < 2 ^ 16) × (number < 2 ^ 64)
HasRoom (Acknowledgement sender number) = (sender < 2 ^ 16) × (number < 2 ^ 64)

-- WHAT BYTES ARE

abbrev pub sender_in : List ℕ → ℕ
sender_in bytes = from_be_bytes w16 (take 2 (drop 4 bytes))

abbrev pub number_in : List ℕ → ℕ
number_in bytes = from_be_bytes w64 (take 8 (drop 6 bytes))

abbrev pub data_in : List ℕ → Frame
data_in bytes = Data (sender_in bytes) (number_in bytes) (drop 14 bytes)

abbrev pub acknowledgement_in : List ℕ → Frame
acknowledgement_in bytes = Acknowledgement (sender_in bytes) (number_in bytes)

-- the frame that has exactly these bytes
unfoldable pub frame_of : List ℕ → Option Frame
frame_of bytes =
    if bytes_eq bytes (frame_bytes (data_in bytes)) then Some (data_in bytes)
    else if bytes_eq bytes (frame_bytes (acknowledgement_in bytes)) then Some (acknowledgement_in bytes)
    else None

abbrev pub arrival_of : Option Frame → Arrival
arrival_of None = OtherCame
arrival_of (Some frame) = FrameCame frame

-- data with this payload, or an acknowledgement
abbrev pub frame_of_kind : FrameKind → (sender number : ℕ) → (payload : List ℕ) → Frame
frame_of_kind kinds.Data sender number payload = Data sender number payload
frame_of_kind kinds.Acknowledgement sender number payload = Acknowledgement sender number

-- the frame with this header, and with this after it where it is data
abbrev pub frame_with : Header → (payload : List ℕ) → Frame
frame_with header payload = frame_of_kind header.kind header.sender header.number payload

-- A frame is read from exactly its bytes.
use Rattle.std.specs.Prelude.{◌≡◌, ℕ, zero, suc, ◌+◌, ◌^◌, ◌<◌, ◌≤◌, ◌==◌, Bool, true, List, [], ◌∷◌, ◌++◌, get_or, length, take, drop, Option, Some}
use Rattle.std.specs.Prelude.{None, bytes_eq}
use Rattle.std.specs.Int.{w8, w16, w64, to_be_bytes, from_be_bytes}
use Rattle.std.proofs.Common.{Fits, sym, ap, ◌∙◌, subst, arith, refl}
use Rattle.std.proofs.lemmas.Bool.{cond_both, cond-true, eqb-true}
use Rattle.std.proofs.lemmas.List.{get_or-drop, length-take-le, take-append-drop}
use Rattle.std.proofs.lemmas.Nat.{be_bytes_2, be_bytes_8, from_be_bytes-to_be_bytes_2, from_be_bytes-to_be_bytes_8}
use Rattle.std.proofs.lemmas.Option.{none-some}
use Rattle.std.proofs.lemmas.Slice.Eq.{bytes_eq-Decides}
use Rattle.arq_link.specs.declared.frames.FrameKind.{FrameKind}
use Rattle.arq_link.specs.declared.frames.FrameKind.TheVariants as kinds
use Rattle.arq_link.specs.Endpoint.{Frame, Data, Acknowledgement}
use Rattle.arq_link.specs.Frames.{frame_bytes, HasRoom, data_in, acknowledgement_in, frame_of, frame_of_kind, header_bytes}

data_there : (sender number : ℕ) (payload : List ℕ) → HasRoom (Data sender number payload)
    → data_in (frame_bytes (Data sender number payload)) ≡ Data sender number payload
data_there sender number payload room =
    ap (λ s. Data s (from_be_bytes w64 (to_be_bytes w64 number)) payload) (from_be_bytes-to_be_bytes_2 sender room.0)
    ∙ ap (λ n. Data sender n payload) (from_be_bytes-to_be_bytes_8 number room.1)

acknowledgement_there : (sender number : ℕ) → HasRoom (Acknowledgement sender number)
    → acknowledgement_in (frame_bytes (Acknowledgement sender number)) ≡ Acknowledgement sender number
acknowledgement_there sender number room =
    ap (λ s. Acknowledgement s (from_be_bytes w64 (to_be_bytes w64 number))) (from_be_bytes-to_be_bytes_2 sender room.0)
    ∙ ap (λ n. Acknowledgement sender n) (from_be_bytes-to_be_bytes_8 number room.1)

pub frame_of-frame_bytes : (frame : Frame) → HasRoom frame → frame_of (frame_bytes frame) ≡ Some frame
unfolding frame_of
frame_of-frame_bytes (Data sender number payload) room =
    let there : data_in (frame_bytes (Data sender number payload)) ≡ Data sender number payload = data_there sender number payload room in
    cond-true _ _ _ ((bytes_eq-Decides _ _).1 (sym (ap frame_bytes there))) ∙ ap (λ (frame : Frame). Some frame) there
frame_of-frame_bytes (Acknowledgement sender number) room =
    let there : acknowledgement_in (frame_bytes (Acknowledgement sender number)) ≡ Acknowledgement sender number = acknowledgement_there sender number room in
    cond-true _ _ _ ((bytes_eq-Decides _ _).1 (sym (ap frame_bytes there))) ∙ ap (λ (frame : Frame). Some frame) there

pub frame_of_none : (bytes : List ℕ) → ((frame : Frame) → bytes ≡ frame_bytes frame → ⊥) → frame_of bytes ≡ None
unfolding frame_of
frame_of_none bytes none =
    cond_both (bytes_eq bytes (frame_bytes (data_in bytes))) _ _ (λ (read : Option Frame). read ≡ None)
    (λ same. absurd (none (data_in bytes) ((bytes_eq-Decides _ _).0 same)))
    (λ _. cond_both (bytes_eq bytes (frame_bytes (acknowledgement_in bytes))) _ _ (λ (read : Option Frame). read ≡ None)
    (λ same. absurd (none (acknowledgement_in bytes) ((bytes_eq-Decides _ _).0 same)))
    (λ _. refl))

-- a frame that is read has exactly those bytes
pub bytes_of_frame : (bytes : List ℕ) (frame : Frame) → frame_of bytes ≡ Some frame → bytes ≡ frame_bytes frame
unfolding frame_of
bytes_of_frame bytes frame =
    cond_both (bytes_eq bytes (frame_bytes (data_in bytes))) _ _ (λ (read : Option Frame). read ≡ Some frame → bytes ≡ frame_bytes frame)
    (λ same is. (bytes_eq-Decides _ _).0 same ∙ ap frame_bytes (let this : data_in bytes ≡ frame = cc in this))
    (λ _. cond_both (bytes_eq bytes (frame_bytes (acknowledgement_in bytes))) _ _ (λ (read : Option Frame). read ≡ Some frame → bytes ≡ frame_bytes frame)
    (λ same is. (bytes_eq-Decides _ _).0 same ∙ ap frame_bytes (let this : acknowledgement_in bytes ≡ frame = cc in this))
    (λ _ is. absurd (none-some frame is)))

-- HOW A HEADER IS READ

front_fits : (bytes : List ℕ) (k i : ℕ) → ((j : ℕ) → get_or bytes j 0 < 256) → get_or (take k bytes) i 0 < 256
front_fits bytes zero i each = omega arith
front_fits [] (suc k) i each = omega arith
front_fits (b ∷ bytes) (suc k) zero each = each 0
front_fits (b ∷ bytes) (suc k) (suc i) each = front_fits bytes k i (λ j. each (suc j))

two_read : (bytes digits rest : List ℕ) (number : ℕ) → ((i : ℕ) → get_or bytes i 0 < 256) → 2 ≤ length bytes → digits ≡ take 2 bytes → rest ≡ drop 2 bytes
    → number ≡ from_be_bytes w16 digits → bytes ≡ to_be_bytes w16 number ++ rest
two_read bytes digits rest number each long front back is =
    sym (take-append-drop 2 bytes)
    ∙ ap (λ (l : List ℕ). l ++ drop 2 bytes)
    (sym (be_bytes_2 (take 2 bytes) number (length-take-le 2 bytes long) (λ i. front_fits bytes 2 i each) (is ∙ ap (from_be_bytes w16) front)))
    ∙ ap (λ (l : List ℕ). to_be_bytes w16 number ++ l) (sym back)

eight_read : (bytes digits rest : List ℕ) (number : ℕ) → ((i : ℕ) → get_or bytes i 0 < 256) → 8 ≤ length bytes → digits ≡ take 8 bytes → rest ≡ drop 8 bytes
    → number ≡ from_be_bytes w64 digits → bytes ≡ to_be_bytes w64 number ++ rest
eight_read bytes digits rest number each long front back is =
    sym (take-append-drop 8 bytes)
    ∙ ap (λ (l : List ℕ). l ++ drop 8 bytes)
    (sym (be_bytes_8 (take 8 bytes) number (length-take-le 8 bytes long) (λ i. front_fits bytes 8 i each) (is ∙ ap (from_be_bytes w64) front)))
    ∙ ap (λ (l : List ℕ). to_be_bytes w64 number ++ l) (sym back)

pub header_read : (bytes unmarked behind rest payload senders numbers : List ℕ) (kind sender number : ℕ) → ((i : ℕ) → Fits w8 (get_or bytes i 0))
    → bytes ≡ 68 ∷ 65 ∷ 2 ∷ unmarked → unmarked ≡ kind ∷ behind
    → (senders ≡ take 2 behind) × (rest ≡ drop 2 behind) × (length rest + 2 ≡ length behind) → sender ≡ from_be_bytes w16 senders
    → (numbers ≡ take 8 rest) × (payload ≡ drop 8 rest) × (length payload + 8 ≡ length rest) → number ≡ from_be_bytes w64 numbers
    → bytes ≡ header_bytes kind sender number ++ payload
header_read bytes unmarked behind rest payload senders numbers kind sender number each mark kinded two two_is eight eight_is =
    all ∙ ap (λ (l : List ℕ). 68 ∷ 65 ∷ 2 ∷ kind ∷ l)
    (two_read behind senders rest sender after_fits (omega (arith, two.2)) two.0 two.1 two_is
    ∙ ap (λ (l : List ℕ). to_be_bytes w16 sender ++ l)
    (eight_read rest numbers payload number rest_fits (omega (arith, eight.2)) eight.0 eight.1 eight_is))
  where
    all : bytes ≡ 68 ∷ 65 ∷ 2 ∷ kind ∷ behind
    all = mark ∙ ap (λ (l : List ℕ). 68 ∷ 65 ∷ 2 ∷ l) kinded

    after_fits : (i : ℕ) → get_or behind i 0 < 256
    after_fits i = subst (λ (l : List ℕ). get_or l (suc (suc (suc (suc i)))) 0 < 256) all (each (suc (suc (suc (suc i))))).fits

    rest_fits : (i : ℕ) → get_or rest i 0 < 256
    rest_fits i = let there : get_or rest i 0 ≡ get_or behind (2 + i) 0 = ap (λ (l : List ℕ). get_or l i 0) two.1 ∙ get_or-drop 2 behind i 0 in
        omega (arith, there, after_fits (2 + i))

pub data_read : (bytes payload : List ℕ) (letter sender number : ℕ) (kind : FrameKind) → bytes ≡ header_bytes letter sender number ++ payload
    → letter ≡ 0 → kind ≡ kinds.Data → bytes ≡ frame_bytes (frame_of_kind kind sender number (drop 14 bytes))
data_read bytes payload letter sender number kind is none is_data =
    rw is_data (is ∙ ap (λ n. header_bytes n sender number ++ payload) none ∙ ap (λ l. header_bytes 0 sender number ++ l) (sym (ap (drop 14) is)))

pub acknowledgement_read : (bytes payload : List ℕ) (letter sender number : ℕ) (kind : FrameKind) → bytes ≡ header_bytes letter sender number ++ payload
    → letter ≡ 1 → payload ≡ [] → kind ≡ kinds.Acknowledgement → bytes ≡ frame_bytes (frame_of_kind kind sender number (drop 14 bytes))
acknowledgement_read bytes payload letter sender number kind is one none is_acknowledgement =
    rw is_acknowledgement (is ∙ ap (λ n. header_bytes n sender number ++ payload) one ∙ ap (λ l. header_bytes 1 sender number ++ l) none)

-- the frame that has these bytes is read from them
pub frame_there : (bytes : List ℕ) (kind : FrameKind) (sender number : ℕ) (payload : List ℕ) → sender < 2 ^ 16 → number < 2 ^ 64
    → bytes ≡ frame_bytes (frame_of_kind kind sender number payload) → frame_of bytes ≡ Some (frame_of_kind kind sender number payload)
frame_there bytes kinds.Data sender number payload some few is = ap frame_of is ∙ frame_of-frame_bytes (Data sender number payload) (some, few)
frame_there bytes kinds.Acknowledgement sender number payload some few is = ap frame_of is ∙ frame_of-frame_bytes (Acknowledgement sender number) (some, few)

none_of_none : (payload : List ℕ) → length payload ≡ 0 → payload ≡ []
none_of_none [] is = refl
none_of_none (b ∷ payload) is = absurd (omega (arith, is))

pub no_more : (payload : List ℕ) (empty : Bool) → empty ≡ (length payload == 0) → empty ≡ true → payload ≡ []
no_more payload empty is tested = none_of_none payload (eqb-true (length payload) 0 (sym is ∙ tested))

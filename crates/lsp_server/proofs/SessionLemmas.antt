-- A session, from its turns.
use Rattle.std.proofs.Common.{◌≡◌, refl, ◌∙◌, ap, subst, sym, inl, inr, ℕ, List, [], ◌++◌, take, drop, append_assoc, append-nil}
use Rattle.std.specs.Prelude.{◌⊎◌, Option, Some, None, IfSome}
use Rattle.serde_json.specs.Data.{Data, null}
use Rattle.da_outside.specs.Outside.{Appends}
use Rattle.da_outside.proofs.OutsideLemmas.{appends_none, appends_then}
use Rattle.lsp_frames.specs.declared.cutting.Cut.{Cut}
use Rattle.lsp_frames.specs.declared.cutting.Cut.TheVariants as cut_is
use Rattle.lsp_frames.specs.declared.input.Input.{Input}
use Rattle.lsp_frames.specs.Stream.{HasNone, IsStream, Remains, come_of}
use Rattle.lsp_frames.proofs.CutLemmas.{content_stays_there, cut_grows}
use Rattle.lsp_frames.proofs.LeftLemmas.{begins_left, none_left, some_left}
use Rattle.lsp_frames.specs.Frames.{cut}
use Rattle.lsp_server.specs.declared.fault.Fault.TheVariants as fault
use Rattle.lsp_server.specs.declared.phase.Phase.{Phase}
use Rattle.lsp_server.specs.declared.phase.Phase.TheVariants.{Fresh}
use Rattle.lsp_server.specs.declared.status.Status.{Status}
use Rattle.lsp_server.specs.declared.status.Status.TheVariants.{Closed, Spent}
use Rattle.lsp_server.specs.declared.turns.Extent.{Extent}
use Rattle.lsp_server.specs.Heard.{Says, SaysNothing, heard}
use Rattle.lsp_server.specs.Letters.{IsSent, refusal}
use Rattle.lsp_server.specs.Session.{Exits, Follows, Frame, IsCut, Session, breaks, closes, goes_on, left_from, stops}
use Rattle.lsp_server.specs.Turns.{HasHeard, HasReplied, HasServed, HasTaken, HasTurned, Passes, begun, nothing, whole}

-- no byte was written
gains_none : (before after : Option (List ℕ)) → after ≡ before → Appends before after []
gains_none before after same = subst (λ x. Appends before x []) (sym same) (appends_none before)

-- A FRAME that was answered makes a turn

-- all that follows it was written
frame_whole : (Follow : List ℕ → Type 0) (cut_off : List ℕ → List ℕ) (phase next : Phase) (old new : Input) (left before after : Option (List ℕ))
    → ((stream : List ℕ) → Remains old left stream → (bytes : List ℕ) → Follow bytes → Frame phase stream next bytes (cut_off stream))
    → ((rest : List ℕ) → Remains new left rest → (stream : List ℕ) × Remains old left stream × (rest ≡ cut_off stream))
    → (bytes : List ℕ) → Follow bytes → Appends before after bytes → HasTurned phase old left next new left before after None
frame_whole Follow cut_off phase next old new left before after one moved bytes follows wrote =
    record {
      bytes = bytes;
      wrote = wrote;
      leads = λ rest remains.
          let (stream, was, is) = moved rest remains in
          (stream, was, λ status more session. goes_on phase next stream rest bytes more status (subst (Frame phase stream next bytes) (sym is) (one stream was bytes follows)) session);
    }

pub frame_turns : (Follow : List ℕ → Type 0) (cut_off : List ℕ → List ℕ) (phase next : Phase) (old new : Input) (left before after : Option (List ℕ)) (result : Option Status)
    → ((stream : List ℕ) → Remains old left stream → (bytes : List ℕ) → Follow bytes → Frame phase stream next bytes (cut_off stream))
    → (result ≡ None → (rest : List ℕ) → Remains new left rest → (stream : List ℕ) × Remains old left stream × (rest ≡ cut_off stream))
    → HasReplied Follow before after result → HasTurned phase old left next new left before after result
frame_turns Follow cut_off phase next old new left before after result one moved (whole bytes follows wrote) =
    frame_whole Follow cut_off phase next old new left before after one (moved refl) bytes follows wrote
frame_turns Follow cut_off phase next old new left before after result one moved (begun status bytes short follows (n, front)) =
    let (stream, was) = some_left old left in
    record { bytes = take n bytes; wrote = front; leads = (stream, was, breaks phase next stream (cut_off stream) bytes status n short (one stream was bytes follows)) }
frame_turns Follow cut_off phase next old new left before after result one moved (nothing status short same) =
    let (stream, was) = some_left old left in
    record { bytes = []; wrote = gains_none before after same; leads = (stream, was, stops phase stream status short) }

-- A TURN THAT WRITES NOTHING

-- a piece has come
piece_turns : (phase : Phase) (old new : Input) (left now before : Option (List ℕ)) → ((rest : List ℕ) → Remains new now rest → Remains old left rest) → HasTurned phase old left phase new now before before None
piece_turns phase old new left now before goes = record { bytes = []; wrote = appends_none before; leads = λ rest remains. (rest, goes rest remains, λ status more session. session) }

-- the stream has ended, and no frame is whole
closed_turns : (phase : Phase) (old new : Input) (left now before : Option (List ℕ)) → cut (come_of old) ≡ cut_is.More → HasNone left → HasTurned phase old left phase new now before before (Some Closed)
closed_turns phase old new left now before more none =
    let (stream, was, is) = none_left old left none in
    record { bytes = []; wrote = appends_none before; leads = (stream, was, closes phase stream (ap cut is ∙ more)) }

-- it was cut short
cut_turns : (phase next : Phase) (old new : Input) (left now before : Option (List ℕ)) (status : Status) → IsCut status → HasTurned phase old left next new now before before (Some status)
cut_turns phase next old new left now before status short =
    let (stream, was) = some_left old left in
    record { bytes = []; wrote = appends_none before; leads = (stream, was, stops phase stream status short) }

-- whichever of these it was, where no frame had come
more_by : (phase : Phase) (old new : Input) (left now before : Option (List ℕ)) (result : Option Status) → cut (come_of old) ≡ cut_is.More → IfSome result (λ status. IsCut status ⊎ ((status ≡ Closed) × HasNone left))
    → (result ≡ None → (rest : List ℕ) → Remains new now rest → Remains old left rest) → HasTurned phase old left phase new now before before result
more_by phase old new left now before None more ends goes = piece_turns phase old new left now before (goes refl)
more_by phase old new left now before (Some status) more (inl short) goes = cut_turns phase phase old new left now before status short
more_by phase old new left now before (Some status) more (inr (is, none)) goes =
    subst (λ (s : Status). HasTurned phase old left phase new now before before (Some s)) (sym is) (closed_turns phase old new left now before more none)

pub more_turns : (phase next : Phase) (old new : Input) (left now before : Option (List ℕ)) (result : Option Status) → cut (come_of old) ≡ cut_is.More → IfSome result (λ status. IsCut status ⊎ ((status ≡ Closed) × HasNone left))
    → (result ≡ None → (rest : List ℕ) → Remains new now rest → Remains old left rest) → next ≡ phase → HasTurned phase old left next new now before before result
more_turns phase next old new left now before result more ends goes same =
    subst (λ (p : Phase). HasTurned phase old left p new now before before result) (sym same) (more_by phase old new left now before result more ends goes)

-- it was asked to end
exit_turns : (phase next : Phase) (old new : Input) (left now before after : Option (List ℕ)) (result : Option Status) → ((stream : List ℕ) → Remains old left stream → Exits stream)
    → result ≡ Some (left_from phase) → after ≡ before → HasTurned phase old left next new now before after result
exit_turns phase next old new left now before after result ends is same =
    let (stream, was) = some_left old left in
    subst (λ (r : Option Status). HasTurned phase old left next new now before after r) (sym is)
    (record { bytes = []; wrote = gains_none before after same; leads = (stream, was, Session.exits phase stream (ends stream was)) })

-- A CONTENT, which has come

content_more : (first size : ℕ) → cut_is.Content first size ≡ cut_is.More → ⊥
content_more first size is = cc

unread_more : (count : ℕ) → cut_is.Unread count ≡ cut_is.More → ⊥
unread_more count is = cc

large_more : (first size : ℕ) → cut_is.Large first size ≡ cut_is.More → ⊥
large_more first size is = cc

-- the frame at the front of what has come is the first of what is left
there : (old : Input) (left : Option (List ℕ)) (stream : List ℕ) (what : Cut) → (what ≡ cut_is.More → ⊥) → cut (come_of old) ≡ what → Remains old left stream → cut stream ≡ what
there old left stream what found is remains =
    let (later, begins) = begins_left old left stream remains in
    ap cut begins ∙ cut_grows (come_of old) later (λ more. found (sym is ∙ more)) ∙ is

module _ (phase next : Phase) (old new : Input) (left before after : Option (List ℕ)) (result : Option Status) (extent : Extent)
    (is : cut (come_of old) ≡ cut_is.Content extent.first extent.length) (moved : result ≡ None → Passes old new extent) where
  frame_there : (stream : List ℕ) → Remains old left stream → cut stream ≡ cut_is.Content extent.first extent.length
  frame_there stream remains = there old left stream (cut_is.Content extent.first extent.length) (content_more extent.first extent.length) is remains

  same : (stream : List ℕ) → Remains old left stream → take extent.length (drop extent.first (come_of old)) ≡ take extent.length (drop extent.first stream)
  same stream remains =
      let (later, begins) = begins_left old left stream remains in
      sym (ap (λ xs. take extent.length (drop extent.first xs)) begins ∙ content_stays_there (come_of old) later extent.first extent.length is)

  -- what it says is said in the stream
  says_there : (d : Data) → Says (take extent.length (drop extent.first (come_of old))) d → (stream : List ℕ) → Remains old left stream → Says (take extent.length (drop extent.first stream)) d
  says_there d says stream remains = subst (λ c. Says c d) (same stream remains) says

  taken_turns : (d : Data) → Says (take extent.length (drop extent.first (come_of old))) d → HasTaken phase d next before after result → HasTurned phase old left next new left before after result
  taken_turns d says (HasTaken.replied replied) =
      frame_turns (Follows phase d (heard d) next) (λ stream. drop extent.length (drop extent.first stream)) phase next old new left before after result
      (λ stream remains bytes follows. Frame.said extent.first extent.length d next bytes (frame_there stream remains) (says_there d says stream remains) follows)
      (λ none. moved none left) replied
  taken_turns d says (HasTaken.exits exit ends unwritten) =
      exit_turns phase next old new left left before after result
      (λ stream remains. record { first = extent.first; size = extent.length; d = d; there = frame_there stream remains; says = says_there d says stream remains; exit = exit }) ends unwritten

  unsaid_turns : SaysNothing (take extent.length (drop extent.first (come_of old))) → HasReplied (IsSent (refusal null fault.Unread)) before after result → HasTurned phase old left phase new left before after result
  unsaid_turns nothing_said replied =
      frame_turns (IsSent (refusal null fault.Unread)) (λ stream. drop extent.length (drop extent.first stream)) phase phase old new left before after result
      (λ stream remains bytes sent. Frame.unsaid extent.first extent.length bytes (frame_there stream remains) (subst SaysNothing (same stream remains) nothing_said) sent)
      (λ none. moved none left) replied

  stopped_turns : (status : Status) → IsCut status → result ≡ Some status → after ≡ before → HasTurned phase old left next new left before after result
  stopped_turns status short ends unwritten =
      subst (λ (r : Option Status). HasTurned phase old left next new left before after r) (sym ends)
      (subst (λ (x : Option (List ℕ)). HasTurned phase old left next new left before x (Some status)) (sym unwritten) (cut_turns phase next old new left left before status short))

  pub heard_turns : HasHeard phase (take extent.length (drop extent.first (come_of old))) next before after result → HasTurned phase old left next new left before after result
  heard_turns (HasHeard.read d says taken) = taken_turns d says taken
  heard_turns (HasHeard.unread nothing_said phase_is replied) = subst (λ (p : Phase). HasTurned phase old left p new left before after result) (sym phase_is) (unsaid_turns nothing_said replied)
  heard_turns (HasHeard.stopped status short ends unwritten) = stopped_turns status short ends unwritten

-- A FRAME WITHOUT A CONTENT

unread_by : (phase : Phase) (old new : Input) (left before after : Option (List ℕ)) (result : Option Status) (extent : Extent) → extent.length ≡ 0 → cut (come_of old) ≡ cut_is.Unread extent.first
    → (result ≡ None → Passes old new extent) → HasReplied (IsSent (refusal null fault.Unread)) before after result → HasTurned phase old left phase new left before after result
unread_by phase old new left before after result extent none is moved replied =
    frame_turns (IsSent (refusal null fault.Unread)) (λ stream. drop extent.length (drop extent.first stream)) phase phase old new left before after result
    (λ stream remains bytes sent. subst (λ (n : ℕ). Frame phase stream phase bytes (drop n (drop extent.first stream))) (sym none)
    (Frame.unread extent.first bytes (there old left stream (cut_is.Unread extent.first) (unread_more extent.first) is remains) sent))
    (λ goes. moved goes left) replied

large_by : (phase : Phase) (old new : Input) (left before after : Option (List ℕ)) (result : Option Status) (extent : Extent) → cut (come_of old) ≡ cut_is.Large extent.first extent.length
    → (result ≡ None → Passes old new extent) → HasReplied (IsSent (refusal null fault.Invalid)) before after result → HasTurned phase old left phase new left before after result
large_by phase old new left before after result extent is moved replied =
    frame_turns (IsSent (refusal null fault.Invalid)) (λ stream. drop extent.length (drop extent.first stream)) phase phase old new left before after result
    (λ stream remains bytes sent. Frame.large extent.first extent.length bytes (there old left stream (cut_is.Large extent.first extent.length) (large_more extent.first extent.length) is remains) sent)
    (λ goes. moved goes left) replied

pub unread_turns : (phase next : Phase) (old new : Input) (left before after : Option (List ℕ)) (result : Option Status) (extent : Extent) → extent.length ≡ 0 → cut (come_of old) ≡ cut_is.Unread extent.first
    → (result ≡ None → Passes old new extent) → HasReplied (IsSent (refusal null fault.Unread)) before after result → next ≡ phase → HasTurned phase old left next new left before after result
unread_turns phase next old new left before after result extent none is moved replied same =
    subst (λ (p : Phase). HasTurned phase old left p new left before after result) (sym same) (unread_by phase old new left before after result extent none is moved replied)

pub large_turns : (phase next : Phase) (old new : Input) (left before after : Option (List ℕ)) (result : Option Status) (extent : Extent) → cut (come_of old) ≡ cut_is.Large extent.first extent.length
    → (result ≡ None → Passes old new extent) → HasReplied (IsSent (refusal null fault.Invalid)) before after result → next ≡ phase → HasTurned phase old left next new left before after result
large_turns phase next old new left before after result extent is moved replied same =
    subst (λ (p : Phase). HasTurned phase old left p new left before after result) (sym same) (large_by phase old new left before after result extent is moved replied)

-- THE TURNS, one after the other

-- whatever is left, from the beginning of the stream the server went on to it, in a phase
abbrev pub Led : Option (List ℕ) → Option (List ℕ) → Option (List ℕ) → Phase → Input → Option (List ℕ) → Type 0
Led first before now phase input left =
    (bytes : List ℕ) × Appends before now bytes
    × ((rest : List ℕ) → Remains input left rest → (stream : List ℕ) × IsStream first stream × ((status : Status) (more : List ℕ) → Session phase rest status more → Session Fresh stream status (bytes ++ more)))

pub led_begins : (first x : Option (List ℕ)) (phase : Phase) (input : Input) → phase ≡ Fresh → ((rest : List ℕ) → Remains input first rest → IsStream first rest) → Led first x x phase input first
led_begins first x phase input is fresh =
    subst (λ (p : Phase). Led first x x p input first) (sym is) ([], appends_none x, λ rest remains. (rest, fresh rest remains, λ status more session. session))

joined : (stream : List ℕ) (status : Status) (xs ys zs : List ℕ) → Session Fresh stream status (xs ++ (ys ++ zs)) → Session Fresh stream status ((xs ++ ys) ++ zs)
joined stream status xs ys zs session = subst (Session Fresh stream status) (sym (append_assoc xs ys zs)) session

led_more : (first before mid after : Option (List ℕ)) (phase next : Phase) (old new : Input) (left now : Option (List ℕ)) → Led first before mid phase old left → HasTurned phase old left next new now mid after None → Led first before after next new now
led_more first before mid after phase next old new left now (bytes, wrote, from) turned = (bytes ++ turned.bytes, appends_then before mid after bytes turned.bytes wrote turned.wrote, on)
  where
    on : (rest : List ℕ) → Remains new now rest → (stream : List ℕ) × IsStream first stream × ((status : Status) (more : List ℕ) → Session next rest status more → Session Fresh stream status ((bytes ++ turned.bytes) ++ more))
    on rest remains =
        let (ahead, was, step) = turned.leads rest remains in
        let (stream, given, begins) = from ahead was in
        (stream, given, λ status more session. joined stream status bytes turned.bytes more (begins status (turned.bytes ++ more) (step status more session)))

pub led_on : (first before mid after : Option (List ℕ)) (phase next : Phase) (old new : Input) (left now : Option (List ℕ)) (result : Option Status) → result ≡ None → Led first before mid phase old left
    → HasTurned phase old left next new now mid after result → Led first before after next new now
led_on first before mid after phase next old new left now result none led turned =
    led_more first before mid after phase next old new left now led (subst (λ (r : Option Status). HasTurned phase old left next new now mid after r) none turned)

led_last : (first before mid after : Option (List ℕ)) (phase next : Phase) (old new : Input) (left now : Option (List ℕ)) (status : Status) → Led first before mid phase old left
    → HasTurned phase old left next new now mid after (Some status) → HasServed first before after status
led_last first before mid after phase next old new left now status (bytes, wrote, from) turned =
    let (ahead, was, session) = turned.leads in
    let (stream, given, begins) = from ahead was in
    record { stream = stream; given = given; bytes = bytes ++ turned.bytes; wrote = appends_then before mid after bytes turned.bytes wrote turned.wrote; session = begins status turned.bytes session }

pub led_ends : (first before mid after : Option (List ℕ)) (phase next : Phase) (old new : Input) (left now : Option (List ℕ)) (result : Option Status) (status : Status) → result ≡ Some status → Led first before mid phase old left
    → HasTurned phase old left next new now mid after result → HasServed first before after status
led_ends first before mid after phase next old new left now result status some led turned =
    led_last first before mid after phase next old new left now status led (subst (λ (r : Option Status). HasTurned phase old left next new now mid after r) some turned)

pub led_spent : (first before now : Option (List ℕ)) (phase : Phase) (input : Input) (left : Option (List ℕ)) → Led first before now phase input left → HasServed first before now Spent
led_spent first before now phase input left (bytes, wrote, from) =
    let (rest, remains) = some_left input left in
    let (stream, given, begins) = from rest remains in
    record { stream = stream; given = given; bytes = bytes ++ []; wrote = subst (Appends before now) (sym (append-nil bytes)) wrote; session = begins Spent [] (stops phase rest Spent tt) }

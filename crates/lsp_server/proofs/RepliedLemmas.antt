-- What follows a frame, by another name, and what is made of it.
use Rattle.std.proofs.Common.{◌≡◌, refl, ◌∙◌, ap, subst, sym, ℕ, List, [], drop, codes}
use Rattle.std.specs.Prelude.{Option, Some}
use Rattle.serde_json.specs.Data.{Data, null}
use Rattle.lsp_frames.specs.declared.input.Input.{Input}
use Rattle.lsp_frames.specs.Stream.{Remains}
use Rattle.lsp_server.specs.declared.fault.Fault.TheVariants as fault
use Rattle.lsp_server.specs.declared.phase.Phase.{Phase}
use Rattle.lsp_server.specs.declared.phase.Phase.TheVariants.{Down, Fresh, Ready}
use Rattle.lsp_server.specs.declared.status.Status.{Status}
use Rattle.lsp_server.specs.declared.status.Status.TheVariants.{Memory}
use Rattle.lsp_server.specs.declared.turns.Extent.{Extent}
use Rattle.lsp_server.specs.Heard.{Heard, answers, asks, heard, invalid, notes}
use Rattle.lsp_server.specs.Letters.{IsSent, refusal}
use Rattle.lsp_server.specs.Session.{Answers, Follows, TellsIn, due, phase_after, to_answer, to_note, to_other, to_request}
use Rattle.lsp_server.specs.Turns.{HasReplied, HasTaken, Passes, begun, nothing, whole}

-- WHAT FOLLOWS, by another name

pub replied_as : (One Other : List ℕ → Type 0) (before after : Option (List ℕ)) (result : Option Status) → ((bytes : List ℕ) → One bytes → Other bytes) → HasReplied One before after result → HasReplied Other before after result
replied_as One Other before after result to (whole bytes one wrote) = whole bytes (to bytes one) wrote
replied_as One Other before after result to (begun status bytes short one front) = begun status bytes short (to bytes one) front
replied_as One Other before after result to (nothing status short same) = nothing status short same

pub sent_as : (Follow : List ℕ → Type 0) (bytes slice : List ℕ) (before after : Option (List ℕ)) (result : Option Status) → slice ≡ bytes → Follow bytes → HasReplied (λ written. written ≡ slice) before after result
    → HasReplied Follow before after result
sent_as Follow bytes slice before after result same follows sent =
    replied_as (λ written. written ≡ slice) Follow before after result (λ written is. subst Follow (sym (is ∙ same)) follows) sent

-- memory was refused before anything was written
pub memory_replied : (Follow : List ℕ → Type 0) (x : Option (List ℕ)) → HasReplied Follow x x (Some Memory)
memory_replied Follow x = nothing Memory tt refl

-- documents are told of in one phase alone
pub ready_tells : (phase : Phase) (method : List ℕ) (d : Data) (bytes : List ℕ) → phase ≡ Ready → TellsIn Ready method d bytes → TellsIn phase method d bytes
ready_tells phase method d bytes is told = subst (λ p. TellsIn p method d bytes) (sym is) told

pub silent_tells : (phase : Phase) (method : List ℕ) (d : Data) (bytes : List ℕ) → (phase ≡ Ready → ⊥) → bytes ≡ [] → TellsIn phase method d bytes
silent_tells Fresh method d bytes other none = none
silent_tells Ready method d bytes other none = absurd (other refl)
silent_tells Down method d bytes other none = none

-- JSON, by what it says

follows_as : (phase next other : Phase) (d : Data) (said : Heard) (bytes : List ℕ) → heard d ≡ said → other ≡ next → Follows phase d said next bytes → Follows phase d (heard d) other bytes
follows_as phase next other d said bytes is next_is follows = subst (λ p. Follows phase d (heard d) p bytes) (sym next_is) (subst (λ h. Follows phase d h next bytes) (sym is) follows)

pub request_taken : (phase next : Phase) (d id : Data) (method : List ℕ) (before after : Option (List ℕ)) (result : Option Status) → heard d ≡ asks id method → next ≡ phase_after phase method
    → HasReplied (Answers (due phase method) id) before after result → HasTaken phase d next before after result
request_taken phase next d id method before after result is next_is replied =
    HasTaken.replied (replied_as (Answers (due phase method) id) (Follows phase d (heard d) next) before after result
    (λ bytes sent. follows_as phase (phase_after phase method) next d (asks id method) bytes is next_is (to_request id method bytes sent)) replied)

pub note_taken : (phase next : Phase) (d : Data) (method : List ℕ) (before after : Option (List ℕ)) (result : Option Status) → heard d ≡ notes method → (method ≡ codes "exit" → ⊥) → next ≡ phase
    → HasReplied (TellsIn phase method d) before after result → HasTaken phase d next before after result
note_taken phase next d method before after result is other next_is replied =
    HasTaken.replied (replied_as (TellsIn phase method d) (Follows phase d (heard d) next) before after result
    (λ bytes told. follows_as phase phase next d (notes method) bytes is next_is (to_note method bytes other told)) replied)

pub answer_taken : (phase next : Phase) (d : Data) (slice : List ℕ) (before after : Option (List ℕ)) (result : Option Status) → heard d ≡ answers → next ≡ phase → slice ≡ [] → HasReplied (λ bytes. bytes ≡ slice) before after result
    → HasTaken phase d next before after result
answer_taken phase next d slice before after result is next_is empty replied =
    HasTaken.replied (replied_as (λ bytes. bytes ≡ slice) (Follows phase d (heard d) next) before after result
    (λ bytes none. subst (λ xs. Follows phase d (heard d) next xs) (sym (none ∙ empty)) (follows_as phase phase next d answers [] is next_is to_answer)) replied)

pub invalid_taken : (phase next : Phase) (d : Data) (before after : Option (List ℕ)) (result : Option Status) → heard d ≡ invalid → next ≡ phase → HasReplied (IsSent (refusal null fault.Invalid)) before after result
    → HasTaken phase d next before after result
invalid_taken phase next d before after result is next_is replied =
    HasTaken.replied (replied_as (IsSent (refusal null fault.Invalid)) (Follows phase d (heard d) next) before after result
    (λ bytes sent. follows_as phase phase next d invalid bytes is next_is (to_other bytes sent)) replied)

-- A FRAME IS PASSED OVER: its header, and then its content
pub passes_then : (old mid new : Input) (extent : Extent)
    → ((left : Option (List ℕ)) (rest : List ℕ) → Remains mid left rest → (stream : List ℕ) × Remains old left stream × (rest ≡ drop extent.first stream))
    → ((left : Option (List ℕ)) (rest : List ℕ) → Remains new left rest → (stream : List ℕ) × Remains mid left stream × (rest ≡ drop extent.length stream)) → Passes old new extent
passes_then old mid new extent one two = λ left rest remains.
    let (between, was, is) = two left rest remains in
    let (stream, before, from) = one left between was in
    (stream, before, is ∙ ap (drop extent.length) from)

-- PHASES

pub fresh_ready : Fresh ≡ Ready → ⊥
fresh_ready is = cc

pub down_ready : Down ≡ Ready → ⊥
down_ready is = cc

-- What the steps of the reader of an action's line find.
use Rattle.std.specs.Prelude.{◌≡◌, ℕ, if◌then◌else◌, List, [], ◌∷◌, ◌++◌, codes, decimal, Option, Some, None}
use Rattle.std.specs.Str.{bytes_eq}
use Rattle.da_lang.specs.declared.event.Action.{Action}
use Rattle.da_lang.specs.declared.event.Action.TheVariants as action
use Rattle.da_lang.specs.declared.event.FaultKind.{FaultKind}
use Rattle.da_lang.specs.declared.event.FaultKind.TheVariants.{Overflow, Divide, Range, Message, TooLong}
use Rattle.da_values.specs.declared.val.Val.{Val}
use Rattle.da_values.specs.declared.val.Val.TheVariants as val
use Rattle.da_values.specs.Text.{value_text}
use Rattle.da_values.specs.Value.{val_of}
use Rattle.sched_text.specs.ActionText.{fault_word}
use Rattle.sched_text.specs.declared.kind.Kind.{Kind}
use Rattle.sched_text.specs.declared.kind.Kind.TheVariants.{Took, Sent, Got, Lost, Again, Out, End, Fault, Answer, Kept, Stop}
use Rattle.sched_text.specs.declared.fields.Route.{Route}
use Rattle.sched_text.specs.ActionLine.{Fits, IsAction, IsShown}

-- the word that the line of an action begins with
abbrev pub kind_word : Kind → List ℕ
kind_word Took = codes "took"
kind_word Sent = codes "sent"
kind_word Got = codes "got"
kind_word Lost = codes "lost"
kind_word Again = codes "again"
kind_word Out = codes "out"
kind_word End = codes "end"
kind_word Fault = codes "fault"
kind_word Answer = codes "answer"
kind_word Kept = codes "kept"
kind_word Stop = codes "stop"

abbrev pub kind_is : Action → Kind
kind_is (action.Took p k) = Took
kind_is (action.Sent p q t v) = Sent
kind_is (action.Got q p t v) = Got
kind_is (action.Lost p q t) = Lost
kind_is (action.Again p q t) = Again
kind_is (action.Out p v) = Out
kind_is (action.End p) = End
kind_is (action.Fault p kind line) = Fault
kind_is (action.Answer p n rows) = Answer
kind_is (action.Kept p n) = Kept
kind_is (action.Stop i) = Stop

-- the kind of action that this word names
abbrev pub moved_named : List ℕ → Option Kind
moved_named word =
    if bytes_eq word (codes "took") then Some Took
    else if bytes_eq word (codes "sent") then Some Sent
    else if bytes_eq word (codes "got") then Some Got
    else if bytes_eq word (codes "lost") then Some Lost
    else if bytes_eq word (codes "again") then Some Again else None

abbrev pub told_named : List ℕ → Option Kind
told_named word =
    if bytes_eq word (codes "out") then Some Out
    else if bytes_eq word (codes "end") then Some End
    else if bytes_eq word (codes "fault") then Some Fault
    else if bytes_eq word (codes "answer") then Some Answer
    else if bytes_eq word (codes "kept") then Some Kept
    else if bytes_eq word (codes "stop") then Some Stop else None

abbrev pub first_of : Option Kind → Option Kind → Option Kind
first_of (Some kind) other = Some kind
first_of None other = other

abbrev pub kind_named : List ℕ → Option Kind
kind_named word = first_of (moved_named word) (told_named word)

-- a number after a space, and what follows it
abbrev pub number_then : ℕ → List ℕ → List ℕ
number_then n rest = 32 ∷ (decimal n ++ rest)

-- the numbers of a message, and what follows them
abbrev pub route_then : ℕ → ℕ → ℕ → List ℕ → List ℕ
route_then p q t rest = number_then p (number_then q (number_then t rest))

-- the numbers of a message are within the ranges of their types
abbrev pub AreNumbers : Route → Type 0
AreNumbers route = Fits 16 route.first × Fits 16 route.second × Fits 64 route.time

abbrev pub value_after : Val → List ℕ
value_after x = 32 ∷ value_text x

abbrev pub fault_after : FaultKind → ℕ → List ℕ
fault_after kind line = 32 ∷ (fault_word kind ++ number_then line [])

-- what follows the word of an action in its line
abbrev pub after_kind : Action → List ℕ
after_kind (action.Took p k) = number_then p (number_then k [])
after_kind (action.Sent p q t v) = route_then p q t (value_after (val_of v))
after_kind (action.Got q p t v) = route_then q p t (value_after (val_of v))
after_kind (action.Lost p q t) = route_then p q t []
after_kind (action.Again p q t) = route_then p q t []
after_kind (action.Out p v) = number_then p (value_after (val_of v))
after_kind (action.End p) = number_then p []
after_kind (action.Fault p kind line) = number_then p (fault_after kind line)
after_kind (action.Answer p n rows) = number_then p (number_then n (value_after (val.Set rows)))
after_kind (action.Kept p n) = number_then p (number_then n [])
after_kind (action.Stop i) = number_then i []

-- no other value has this text
abbrev pub IsOneText : Val → Type 0
IsOneText x = (y : Val) → IsShown y → value_text y ≡ value_text x → y ≡ x

abbrev pub HasOneText : Action → Type 0
HasOneText (action.Sent p q t v) = IsOneText (val_of v)
HasOneText (action.Got q p t v) = IsOneText (val_of v)
HasOneText (action.Out p v) = IsOneText (val_of v)
HasOneText (action.Answer p n rows) = IsOneText (val.Set rows)
HasOneText _ = Unit {0}

-- an action of this kind, whose line goes on so after its word
pub record IsAfter (kind : Kind) (rest : List ℕ) (a : Action) : Type 0 where
  pub kind_same : kind_is a ≡ kind
  pub action : IsAction a
  pub one_text : HasOneText a
  pub is : rest ≡ after_kind a

-- no action of this kind goes on so
abbrev pub LacksRoute : List ℕ → Type 0
LacksRoute rest = (p q t : ℕ) → Fits 16 p → Fits 16 q → Fits 64 t → rest ≡ route_then p q t [] → ⊥

abbrev pub LacksMessage : List ℕ → Type 0
LacksMessage rest = (p q t : ℕ) (x : Val) → Fits 16 p → Fits 16 q → Fits 64 t → IsShown x → rest ≡ route_then p q t (value_after x) → ⊥

abbrev pub LacksPair : ℕ → List ℕ → Type 0
LacksPair bits rest = (p n : ℕ) → Fits 16 p → Fits bits n → rest ≡ number_then p (number_then n []) → ⊥

abbrev pub Lacks : Kind → List ℕ → Type 0
Lacks Took rest = LacksPair 32 rest
Lacks Sent rest = LacksMessage rest
Lacks Got rest = LacksMessage rest
Lacks Lost rest = LacksRoute rest
Lacks Again rest = LacksRoute rest
Lacks Out rest = (p : ℕ) (x : Val) → Fits 16 p → IsShown x → rest ≡ number_then p (value_after x) → ⊥
Lacks End rest = (p : ℕ) → Fits 16 p → rest ≡ number_then p [] → ⊥
Lacks Fault rest = (p line : ℕ) (kind : FaultKind) → Fits 16 p → Fits 32 line → rest ≡ number_then p (fault_after kind line) → ⊥
Lacks Answer rest = (p n : ℕ) (rows : List Val) → Fits 16 p → Fits 32 n → IsShown (val.Set rows) → rest ≡ number_then p (number_then n (value_after (val.Set rows))) → ⊥
Lacks Kept rest = LacksPair 128 rest
Lacks Stop rest = (i : ℕ) → Fits 64 i → rest ≡ number_then i [] → ⊥

-- the kind of fault that this word names
abbrev pub fault_named : List ℕ → Option FaultKind
fault_named word =
    if bytes_eq word (codes "overflow") then Some Overflow
    else if bytes_eq word (codes "divide") then Some Divide
    else if bytes_eq word (codes "range") then Some Range
    else if bytes_eq word (codes "message") then Some Message
    else if bytes_eq word (codes "toolong") then Some TooLong else None

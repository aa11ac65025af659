-- The lines of actions.
use Rattle.std.specs.Prelude.{ℕ, List, [], ◌∷◌, ◌++◌, codes, decimal}
use Rattle.std.specs.List.{flat_map, join_with_byte}
use Rattle.da_values.specs.declared.val.Val.TheVariants.{Set}
use Rattle.da_values.specs.Text.{value_text}
use Rattle.da_values.specs.Value.{val_of}
use Rattle.da_lang.specs.declared.event.Action.{Action}
use Rattle.da_lang.specs.declared.event.Action.TheVariants.{Took, Sent, Got, Lost, Again, Out, End, Fault, Answer, Kept, Stop}
use Rattle.da_lang.specs.declared.event.FaultKind.{FaultKind}
use Rattle.da_lang.specs.declared.event.FaultKind.TheVariants.{Overflow, Divide, Range, Message, TooLong}

abbrev pub fault_word : FaultKind → List ℕ
fault_word Overflow = codes "overflow"
fault_word Divide = codes "divide"
fault_word Range = codes "range"
fault_word Message = codes "message"
fault_word TooLong = codes "toolong"

-- the words of the line of an action; `sent` names the sender first, and `got` the recipient
abbrev pub action_words : Action → List (List ℕ)
action_words (Took p k) = codes "took" ∷ decimal p ∷ decimal k ∷ []
action_words (Sent p q t v) = codes "sent" ∷ decimal p ∷ decimal q ∷ decimal t ∷ value_text (val_of v) ∷ []
action_words (Got q p t v) = codes "got" ∷ decimal q ∷ decimal p ∷ decimal t ∷ value_text (val_of v) ∷ []
action_words (Lost p q t) = codes "lost" ∷ decimal p ∷ decimal q ∷ decimal t ∷ []
action_words (Again p q t) = codes "again" ∷ decimal p ∷ decimal q ∷ decimal t ∷ []
action_words (Out p v) = codes "out" ∷ decimal p ∷ value_text (val_of v) ∷ []
action_words (End p) = codes "end" ∷ decimal p ∷ []
action_words (Fault p kind line) = codes "fault" ∷ decimal p ∷ fault_word kind ∷ decimal line ∷ []
action_words (Answer p n rows) = codes "answer" ∷ decimal p ∷ decimal n ∷ value_text (Set rows) ∷ []
action_words (Kept p n) = codes "kept" ∷ decimal p ∷ decimal n ∷ []
action_words (Stop i) = codes "stop" ∷ decimal i ∷ []

-- the line of some words, with a space between each two
abbrev pub line_of : List (List ℕ) → List ℕ
line_of words = join_with_byte 32 words ++ codes "\n"

abbrev pub action_line : Action → List ℕ
action_line a = line_of (action_words a)

abbrev pub action_text : List Action → List ℕ
action_text = flat_map action_line

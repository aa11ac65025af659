-- What the mark of an action looks like.
use Rattle.std.specs.Prelude.{ℕ, ◌==◌, nat_lt, Bool, false, if◌then◌else◌, List, [], ◌++◌, codes, decimal}
use Rattle.da_lang.specs.declared.event.Action.{Action}
use Rattle.da_lang.specs.declared.event.Action.TheVariants.{Took, Sent, Got, Lost, Again, Out, End, Fault, Answer, Kept, Stop}
use Rattle.da_values.specs.declared.val.Val.TheVariants.{Set}
use Rattle.da_values.specs.Text.{value_text}
use Rattle.da_values.specs.Value.{val_of}
use Rattle.sched_text.specs.ActionText.{fault_word}
use Rattle.trace_page.specs.declared.markup.Markup.{Markup}
use Rattle.trace_page.specs.declared.markup.Markup.TheVariants.{WordTook, WordSent, WordGot, WordLost, WordAgain, WordOut, WordEnd, WordFault, WordAnswer, WordKept, WordStop, ShapeTook, ShapeSent, ShapeGot, ShapeLost, ShapeAgain, ShapeOut, ShapeEnd, ShapeFault, ShapeAnswer, ShapeKept, ShapeStop}

-- the word of its kind
abbrev pub word_of : Action → Markup
word_of (Took p k) = WordTook
word_of (Sent p q t v) = WordSent
word_of (Got q p t v) = WordGot
word_of (Lost p q t) = WordLost
word_of (Again p q t) = WordAgain
word_of (Out p v) = WordOut
word_of (End p) = WordEnd
word_of (Fault p kind line) = WordFault
word_of (Answer p n rows) = WordAnswer
word_of (Kept p n) = WordKept
word_of (Stop i) = WordStop

-- its shape, from its middle on
abbrev pub shape_of : Action → Markup
shape_of (Took p k) = ShapeTook
shape_of (Sent p q t v) = ShapeSent
shape_of (Got q p t v) = ShapeGot
shape_of (Lost p q t) = ShapeLost
shape_of (Again p q t) = ShapeAgain
shape_of (Out p v) = ShapeOut
shape_of (End p) = ShapeEnd
shape_of (Fault p kind line) = ShapeFault
shape_of (Answer p n rows) = ShapeAnswer
shape_of (Kept p n) = ShapeKept
shape_of (Stop i) = ShapeStop

-- what is written beside it; of a move from the opening or a label nothing
abbrev pub label_of : Action → List ℕ
label_of (Took p k) = if k == 0 then [] else codes "alternative " ++ decimal k
label_of (Sent p q t v) = value_text (val_of v)
label_of (Got q p t v) = value_text (val_of v)
label_of (Lost p q t) = []
label_of (Again p q t) = []
label_of (Out p v) = value_text (val_of v)
label_of (End p) = codes "end"
label_of (Fault p kind line) = codes "fault " ++ fault_word kind ++ codes " " ++ decimal line
label_of (Answer p n rows) = codes "query " ++ decimal n ++ codes " " ++ value_text (Set rows)
label_of (Kept p n) = codes "kept " ++ decimal n
label_of (Stop i) = decimal i

-- whether it stands on the left of the mark: a message that goes to a later process, or comes from one, has its arrow on the right
abbrev pub is_left : Action → Bool
is_left (Sent p q t v) = nat_lt p q
is_left (Got q p t v) = nat_lt q p
is_left _ = false

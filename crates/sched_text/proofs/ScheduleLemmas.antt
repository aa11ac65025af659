-- How far a schedule was read.
use Rattle.std.proofs.Common.{◌≡◌, refl, sym, ◌∙◌, ap, subst, ℕ, ◌+◌, ◌≤◌, inl, inr, List, [], ◌∷◌, ◌++◌, length, arith, append_assoc, append-nil, length-append}
use Rattle.std.proofs.lemmas.List.Elements.{All-cons, All-nil}
use Rattle.std.specs.List.{All}
use Rattle.std.specs.Prelude.{Err}
use Rattle.std.specs.Str.Lines.{lines}
use Rattle.da_lang.specs.declared.event.Event.{Event}
use Rattle.sched_text.specs.declared.schedule.SchedFault.{SchedFault}
use Rattle.sched_text.specs.declared.schedule.SchedFault.TheVariants.{BadLine, Memory}
use Rattle.sched_text.specs.Reading.{Adds, IsFaultAt, IsRead, added, passed_over}
use Rattle.sched_text.specs.ScheduleText.{IsBadSchedule, IsLine, IsLineOf, IsSkipped, SpellsLines, SpellsSchedule, event, none, schedule_limit, skipped}

-- the lines that were passed spell these events, and these bytes are left
pub record Came (text rest : List ℕ) (events : List Event) (number : ℕ) : Type 0 where
  pub passed : List (List ℕ)
  pub cut : lines text ≡ passed ++ lines rest
  pub spelled : SpellsLines passed events
  pub counted : number ≡ length passed + 1

-- one more line
skipped_last : (passed : List (List ℕ)) (events : List Event) (line : List ℕ) → SpellsLines passed events → IsSkipped line → SpellsLines (passed ++ line ∷ []) events
skipped_last _ _ line none is = skipped line [] [] is none
skipped_last _ _ line (skipped first more events was spelled) is = skipped first (more ++ line ∷ []) events was (skipped_last more events line spelled is)
skipped_last _ _ line (event first more e events was spelled) is = event first (more ++ line ∷ []) e events was (skipped_last more events line spelled is)

event_last : (passed : List (List ℕ)) (events : List Event) (line : List ℕ) (e : Event) → SpellsLines passed events → IsLineOf e line → SpellsLines (passed ++ line ∷ []) (events ++ e ∷ [])
event_last _ _ line e none is = event line [] e [] is none
event_last _ _ line e (skipped first more events was spelled) is = skipped first (more ++ line ∷ []) (events ++ e ∷ []) was (event_last more events line e spelled is)
event_last _ _ line e (event first more d events was spelled) is = event first (more ++ line ∷ []) d (events ++ e ∷ []) was (event_last more events line e spelled is)

pub came_first : (text : List ℕ) → Came text text [] 1
came_first text = record { passed = []; cut = refl; spelled = none; counted = omega arith }

came_cut : (text rest others line : List ℕ) (passed : List (List ℕ)) → lines text ≡ passed ++ lines rest → lines rest ≡ line ∷ lines others → lines text ≡ (passed ++ line ∷ []) ++ lines others
came_cut text rest others line passed cut first = cut ∙ ap (λ x. passed ++ x) first ∙ sym (append_assoc passed (line ∷ []) (lines others))

came_over : (text rest others line : List ℕ) (events : List Event) (number : ℕ) → Came text rest events number → lines rest ≡ line ∷ lines others → IsSkipped line → Came text others events (number + 1)
came_over text rest others line events number came first is = record {
  passed = came.passed ++ line ∷ [];
  cut = came_cut text rest others line came.passed came.cut first;
  spelled = skipped_last came.passed events line came.spelled is;
  counted = omega (arith, came.counted, length-append came.passed (line ∷ []));
}

came_on : (text rest others line : List ℕ) (events : List Event) (e : Event) (number : ℕ) → Came text rest events number → lines rest ≡ line ∷ lines others → IsLineOf e line
    → Came text others (events ++ e ∷ []) (number + 1)
came_on text rest others line events e number came first is = record {
  passed = came.passed ++ line ∷ [];
  cut = came_cut text rest others line came.passed came.cut first;
  spelled = event_last came.passed events line e came.spelled is;
  counted = omega (arith, came.counted, length-append came.passed (line ∷ []));
}

-- one more line was read
pub came_next : (text rest others line : List ℕ) (old new : List Event) (number : ℕ) → Came text rest old number → lines rest ≡ line ∷ lines others → Adds line old new → Came text others new (number + 1)
came_next text rest others line old _ number came first (passed_over is) = came_over text rest others line old number came first is
came_next text rest others line old _ number came first (added e is) = came_on text rest others line old e number came first is

-- lines that spell events are lines of a schedule
all_lines : (all : List (List ℕ)) (events : List Event) → SpellsLines all events → All IsLine all
all_lines _ _ none = All-nil IsLine
all_lines _ _ (skipped line more events is spelled) = All-cons IsLine line more (inl is) (all_lines more events spelled)
all_lines _ _ (event line more e events is spelled) = All-cons IsLine line more (inr (e, is)) (all_lines more events spelled)

-- the end of the text
pub read_whole : (text rest : List ℕ) (events : List Event) (number : ℕ) → length text ≤ schedule_limit → Came text rest events number → length rest ≤ 0 → SpellsSchedule text events
read_whole text [] events number few came nothing = record {
  size = few;
  spelled = subst (λ all. SpellsLines all events) (sym (came.cut ∙ append-nil came.passed)) came.spelled;
}
read_whole text (b ∷ bs) events number few came nothing = absurd (omega (arith, nothing))

-- the first bad line
read_bad : (text rest others line : List ℕ) (events : List Event) (number : ℕ) → length text ≤ schedule_limit → Came text rest events number → lines rest ≡ line ∷ lines others
    → (IsLine line → ⊥) → IsBadSchedule text number
read_bad text rest others line events number few came first bad = inr (
  few,
  record {
    before = came.passed;
    line = line;
    after = lines others;
    cut = came.cut ∙ ap (λ x. came.passed ++ x) first;
    counted = came.counted;
    good = all_lines came.passed events came.spelled;
    bad = bad;
  },
)

-- a line that added nothing
pub read_fault : (text rest others line : List ℕ) (events : List Event) (number : ℕ) (fault : SchedFault) → length text ≤ schedule_limit → Came text rest events number → lines rest ≡ line ∷ lines others
    → IsFaultAt line number fault → IsRead text (Err fault)
read_fault text rest others line events number Memory few came first is = record {
  size = few;
  before = came.passed;
  line = line;
  after = lines others;
  cut = came.cut ∙ ap (λ x. came.passed ++ x) first;
  good = all_lines came.passed events came.spelled;
  event = is.0;
  is = is.1;
}
read_fault text rest others line events number (BadLine n) few came first is =
    subst (IsBadSchedule text) (sym is.0) (read_bad text rest others line events number few came first is.1)

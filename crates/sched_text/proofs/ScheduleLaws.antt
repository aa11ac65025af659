-- A text is one schedule at most, or has one first bad line.
use Rattle.std.proofs.Common.{◌≡◌, refl, sym, ◌∙◌, ap, subst, ℕ, suc, ◌+◌, inl, inr, List, [], ◌∷◌, ◌++◌, length, arith}
use Rattle.std.specs.List.{All}
use Rattle.std.specs.Prelude.{MatchResult, Result, Ok, Err, ◌⊎◌}
use Rattle.std.specs.Str.Lines.{lines}
use Rattle.da_lang.specs.declared.event.Event.{Event}
use Rattle.sched_text.specs.declared.schedule.SchedFault.{SchedFault}
use Rattle.sched_text.specs.declared.schedule.SchedFault.TheVariants.{BadLine, Memory}
use Rattle.sched_text.specs.Reading.{IsRead}
use Rattle.sched_text.specs.ScheduleText.{HasGoodPrefix, IsBadSchedule, IsLine, SpellsLines, SpellsSchedule, event, none, skipped}
use Rattle.sched_text.proofs.EventLaws.{one_event, not_skipped}

pub one_list_of : (all : List (List ℕ)) (events others : List Event) → SpellsLines all events → SpellsLines all others → events ≡ others
one_list_of _ _ _ none none = refl
one_list_of _ _ _ (skipped line more events is spelled) (skipped line2 more2 others is2 spelled2) = one_list_of more events others spelled spelled2
one_list_of _ _ _ (skipped line more events is spelled) (event line2 more2 e others is2 spelled2) = absurd (not_skipped e line is2 is)
one_list_of _ _ _ (event line more e events is spelled) (skipped line2 more2 others is2 spelled2) = absurd (not_skipped e line is is2)
one_list_of _ _ _ (event line more d events is spelled) (event line2 more2 e others is2 spelled2) =
    let first = one_event d e line is is2 in
    let rest = one_list_of more events others spelled spelled2 in
    cc

pub one_schedule : (text : List ℕ) (events others : List Event) → SpellsSchedule text events → SpellsSchedule text others → events ≡ others
one_schedule text events others one other = one_list_of (lines text) events others one.spelled other.spelled

-- lines with a bad one spell nothing
no_bad : (before after : List (List ℕ)) (line : List ℕ) (events : List Event) → SpellsLines (before ++ line ∷ after) events → (IsLine line → ⊥) → ⊥
no_bad [] after line _ (skipped first more events is spelled) bad = bad (inl is)
no_bad [] after line _ (event first more e events is spelled) bad = bad (inr (e, is))
no_bad (first ∷ before) after line _ (skipped first2 more events is spelled) bad = no_bad before after line events spelled bad
no_bad (first ∷ before) after line _ (event first2 more e events is spelled) bad = no_bad before after line events spelled bad

pub not_bad : (text : List ℕ) (events : List Event) (number : ℕ) → SpellsSchedule text events → IsBadSchedule text number → ⊥
not_bad text events number good (inl long) = omega (arith, long.0, good.size)
not_bad text events number good (inr wrong) =
    let first = wrong.1 in
    no_bad first.before first.after first.line events (subst (λ all. SpellsLines all events) first.cut good.spelled) first.bad

-- the first bad line stands in one place
one_place : (before others after more : List (List ℕ)) (line other : List ℕ) → before ++ line ∷ after ≡ others ++ other ∷ more → All IsLine before → All IsLine others
    → (IsLine line → ⊥) → (IsLine other → ⊥) → length before ≡ length others
one_place [] [] after more line other same good well bad wrong = refl
one_place [] (x ∷ others) after more line other same good well bad wrong =
    let heads : x ≡ line = cc in
    absurd (bad (subst IsLine heads (well 0 x (omega arith))))
one_place (x ∷ before) [] after more line other same good well bad wrong =
    let heads : x ≡ other = cc in
    absurd (wrong (subst IsLine heads (good 0 x (omega arith))))
one_place (x ∷ before) (y ∷ others) after more line other same good well bad wrong =
    let tails : before ++ line ∷ after ≡ others ++ other ∷ more = cc in
    let rest = one_place before others after more line other tails (λ k d inside. good (suc k) d (omega (arith, inside))) (λ k d inside. well (suc k) d (omega (arith, inside))) bad wrong in
    ap suc rest

pub one_bad_line : (text : List ℕ) (number other : ℕ) → IsBadSchedule text number → IsBadSchedule text other → number ≡ other
one_bad_line text number other (inl long) (inl also) = long.1 ∙ sym also.1
one_bad_line text number other (inl long) (inr wrong) = absurd (omega (arith, long.0, wrong.0))
one_bad_line text number other (inr wrong) (inl long) = absurd (omega (arith, long.0, wrong.0))
one_bad_line text number other (inr wrong) (inr also) =
    let a = wrong.1 in
    let b = also.1 in
    a.counted ∙ ap (λ n. n + 1) (one_place a.before b.before a.after b.after a.line b.line (sym a.cut ∙ b.cut) a.good b.good a.bad b.bad) ∙ sym b.counted

-- what a reader answers is the one answer
pub only_events : (text : List ℕ) (result : Result (List Event) SchedFault) (events : List Event) → IsRead text result → SpellsSchedule text events
    → MatchResult result (λ found. found ≡ events) (λ fault. fault ≡ Memory)
only_events text (Ok found) events read spelled = one_schedule text found events read spelled
only_events text (Err (BadLine number)) events read spelled = absurd (not_bad text events number spelled read)
only_events text (Err Memory) events read spelled = refl

pub only_bad : (text : List ℕ) (result : Result (List Event) SchedFault) (number : ℕ) → IsRead text result → IsBadSchedule text number
    → MatchResult result (λ found. ⊥) (λ fault. (fault ≡ BadLine number) ⊎ (fault ≡ Memory))
only_bad text (Ok found) number read bad = not_bad text found number read bad
only_bad text (Err (BadLine other)) number read bad = inl (ap BadLine (one_bad_line text other number read bad))
only_bad text (Err Memory) number read bad = inr refl

-- where memory was wanted
pub memory_wanted : (text : List ℕ) (result : Result (List Event) SchedFault) → IsRead text result → result ≡ Err Memory → HasGoodPrefix text
memory_wanted text result read wanted = subst (IsRead text) wanted read

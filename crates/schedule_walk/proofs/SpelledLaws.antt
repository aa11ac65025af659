-- Texts of events with remarks, as schedules.
use Rattle.std.proofs.Common.{◌≡◌, ◌≢◌, refl, sym, ◌∙◌, ap, subst, ℕ, suc, ◌+◌, ◌-◌, ◌<◌, ◌≤◌, ◌==◌, if◌then◌else◌, Bool, true, false, cond, List, [], ◌∷◌, ◌++◌, length, map, arith, append-nil, append_assoc, take, get_or}
use Rattle.std.specs.Prelude.{codes, slice_index}
use Rattle.std.specs.List.{All, AllByRecursion, flat_map, onto_first, slice_split}
use Rattle.std.specs.Str.Lines.{lines, lines_of_parts, strip_carriage_return}
use Rattle.std.proofs.lemmas.Grind.{flat_map-append}
use Rattle.std.proofs.lemmas.List.{take_more}
use Rattle.std.proofs.lemmas.List.Elements.{All-cons, All-head, All-nil, All-tail}
use Rattle.std.proofs.lemmas.List.Splits.{length-slice_split}
use Rattle.da_lang.specs.declared.event.Event.{Event}
use Rattle.sched_text.specs.EventText.{HasNames, event_line, event_text}
use Rattle.sched_text.specs.ScheduleText.{IsSkipped, SpellsLines, SpellsSchedule, event, none, schedule_limit, skipped}
use Rattle.sched_text.proofs.LineLemmas.{line_first}
use Rattle.sched_text.proofs.WrittenEvents.{written_event}
use Rattle.schedule_walk.specs.Next.{AreRemarked, IsPlain, Row, bare, bare_text, row_lines}

-- A SCHEDULE NAMES ITS EVENTS

named_lines : (all : List (List ℕ)) (events : List Event) → SpellsLines all events → All HasNames events
named_lines _ _ none = All-nil HasNames
named_lines _ _ (skipped line more events is spelled) = named_lines more events spelled
named_lines _ _ (event line more e events is spelled) = All-cons HasNames e events is.names (named_lines more events spelled)

pub names_of : (text : List ℕ) (events : List Event) → SpellsSchedule text events → All HasNames events
names_of text events spells = named_lines _ events spells.spelled

-- A TEXT AFTER AN END OF A LINE

abbrev is_end : ℕ → Bool
is_end b = b == 10

onto : (b : ℕ) (parts others : List (List ℕ)) → 0 < length parts → onto_first b (parts ++ others) ≡ onto_first b parts ++ others
onto b [] others some = absurd (omega (arith, some))
onto b (x ∷ parts) others some = refl

split_two : (x rest : List ℕ) → slice_split is_end (x ++ 10 ∷ rest) ≡ slice_split is_end x ++ slice_split is_end rest
split_two [] rest = refl
split_two (b ∷ x) rest = ap (λ parts. cond (is_end b) ([] ∷ parts) (onto_first b parts)) (split_two x rest) ∙ of (is_end b)
  where
    of : (ends : Bool) → cond ends ([] ∷ slice_split is_end x ++ slice_split is_end rest) (onto_first b (slice_split is_end x ++ slice_split is_end rest))
        ≡ cond ends ([] ∷ slice_split is_end x) (onto_first b (slice_split is_end x)) ++ slice_split is_end rest
    of true = refl
    of false = onto b (slice_split is_end x) (slice_split is_end rest) (let long = length-slice_split is_end x in omega (arith, long))

parts_two : (parts others : List (List ℕ)) → 0 < length others → lines_of_parts (parts ++ others) ≡ map strip_carriage_return parts ++ lines_of_parts others
parts_two [] others some = refl
parts_two (x ∷ []) [] some = absurd (omega (arith, some))
parts_two (x ∷ []) (y ∷ more) some = refl
parts_two (x ∷ y ∷ more) others some = ap (λ ls. strip_carriage_return x ∷ ls) (parts_two (y ∷ more) others some)

lines_after : (x rest : List ℕ) → lines (x ++ 10 ∷ rest) ≡ map strip_carriage_return (slice_split is_end x) ++ lines rest
lines_after x rest = ap lines_of_parts (split_two x rest) ∙ parts_two (slice_split is_end x) (slice_split is_end rest) (let long = length-slice_split is_end rest in omega (arith, long))

lines_two : (x rest : List ℕ) → lines (x ++ codes "\n" ++ rest) ≡ lines (x ++ codes "\n") ++ lines rest
lines_two x rest =
    ap lines (append_assoc x (codes "\n") rest) ∙ lines_after x rest
    ∙ ap (λ ls. ls ++ lines rest) (sym (lines_after x [] ∙ append-nil (map strip_carriage_return (slice_split is_end x))))

spells_two : (all more : List (List ℕ)) (events others : List Event) → SpellsLines all events → SpellsLines more others → SpellsLines (all ++ more) (events ++ others)
spells_two _ more _ others none rest = rest
spells_two _ more _ others (skipped line all events is spelled) rest = skipped line (all ++ more) (events ++ others) is (spells_two all more events others spelled rest)
spells_two _ more _ others (event line all e events is spelled) rest = event line (all ++ more) e (events ++ others) is (spells_two all more events others spelled rest)

-- lines, and then others
pub spells_then : (x rest : List ℕ) (events others : List Event) → SpellsLines (lines (x ++ codes "\n")) events → SpellsLines (lines rest) others → SpellsLines (lines (x ++ codes "\n" ++ rest)) (events ++ others)
spells_then x rest events others first after =
    subst (λ all. SpellsLines all (events ++ others)) (sym (lines_two x rest)) (spells_two (lines (x ++ codes "\n")) (lines rest) events others first after)

-- ONE LINE

starts_remark : (bytes : List ℕ) → IsSkipped (strip_carriage_return (35 ∷ 32 ∷ bytes))
starts_remark bytes = of (slice_index (35 ∷ 32 ∷ bytes) (length (35 ∷ 32 ∷ bytes) - 1) == 13)
  where
    begins : IsSkipped (take (length (35 ∷ 32 ∷ bytes) - 1) (35 ∷ 32 ∷ bytes))
    begins = subst (λ n. IsSkipped (take n (35 ∷ 32 ∷ bytes))) (let short : suc (length bytes) ≡ length (35 ∷ 32 ∷ bytes) - 1 = omega arith in short) refl

    of : (b : Bool) → IsSkipped (if b then take (length (35 ∷ 32 ∷ bytes) - 1) (35 ∷ 32 ∷ bytes) else 35 ∷ 32 ∷ bytes)
    of true = begins
    of false = refl

-- a remark whose bytes do not end a line is passed over
pub remark_spells : (bytes : List ℕ) → All (λ b. b ≢ 10) bytes → SpellsLines (lines (codes "# " ++ bytes ++ codes "\n")) []
remark_spells bytes plain =
    subst (λ all. SpellsLines all [])
    (sym (line_first (codes "# " ++ bytes ++ codes "\n") (35 ∷ 32 ∷ bytes) []
    (All-cons (λ b. b ≢ 10) 35 (32 ∷ bytes) (λ same. omega (arith, same)) (All-cons (λ b. b ≢ 10) 32 bytes (λ same. omega (arith, same)) plain)) refl))
    (skipped (strip_carriage_return (35 ∷ 32 ∷ bytes)) [] [] (starts_remark bytes) none)

-- the line of an event, and then others
pub event_then : (e : Event) (rest : List ℕ) (others : List Event) → HasNames e → SpellsLines (lines rest) others → SpellsLines (lines (event_line e ++ rest)) (e ∷ others)
event_then e rest others names after = spells_then (event_text e) rest (e ∷ []) others (written_event e names).spelled after

-- EVENTS WITH REMARKS

no_ends : (bytes : List ℕ) → IsPlain bytes → All (λ b. b ≢ 10) bytes
no_ends [] plain = All-nil (λ b. b ≢ 10)
no_ends (b ∷ bytes) plain = All-cons (λ b. b ≢ 10) b bytes (λ same. omega (arith, plain.0, same)) (no_ends bytes plain.1)

row_then : (line mark remark end rest : List ℕ) → line ++ mark ++ remark ++ end ++ rest ≡ line ++ (mark ++ remark ++ end ++ rest)
row_then line mark remark end rest =
    append_assoc (line ++ mark ++ remark) end rest ∙ append_assoc (line ++ mark) remark (end ++ rest) ∙ append_assoc line mark (remark ++ (end ++ rest))
    ∙ ap (λ t. line ++ t) (sym (append_assoc (mark ++ remark) end rest ∙ append_assoc mark remark (end ++ rest)))

abbrev event_of : Row → Event
event_of row = row.event

rows_spell : (rows : List Row) → AllByRecursion (λ (row : Row). IsPlain row.remark) rows → All HasNames (map event_of rows) → SpellsLines (lines (flat_map row_lines rows)) (map event_of rows)
rows_spell [] plain names = none
rows_spell (row ∷ rows) plain names =
    subst (λ t. SpellsLines (lines t) (row.event ∷ map event_of rows)) (sym (row_then (event_line row.event) (codes "# ") row.remark (codes "\n") (flat_map row_lines rows)))
    (event_then row.event (codes "# " ++ row.remark ++ codes "\n" ++ flat_map row_lines rows) (map event_of rows) (All-head HasNames row.event (map event_of rows) names)
    (spells_then (codes "# " ++ row.remark) (flat_map row_lines rows) [] (map event_of rows) (remark_spells row.remark (no_ends row.remark plain.0))
    (rows_spell rows plain.1 (All-tail HasNames row.event (map event_of rows) names))))

pub remarked_spells : (events : List Event) (text : List ℕ) → AreRemarked events text → All HasNames events → length text ≤ schedule_limit → SpellsSchedule text events
remarked_spells events text are names few = record {
  size = few;
  spelled = subst (λ es. SpellsLines (lines text) es) are.events_are
      (subst (λ t. SpellsLines (lines t) (map event_of are.rows)) (sym are.text_is) (rows_spell are.rows are.plain (subst (All HasNames) (sym are.events_are) names)));
}

-- EMPTY REMARKS

bare_events : (events : List Event) → map event_of (map bare events) ≡ events
bare_events [] = refl
bare_events (e ∷ events) = ap (λ es. e ∷ es) (bare_events events)

bare_plain : (events : List Event) → AllByRecursion (λ (row : Row). IsPlain row.remark) (map bare events)
bare_plain [] = tt
bare_plain (e ∷ events) = (tt, bare_plain events)

bare_rows : (events : List Event) → bare_text events ≡ flat_map row_lines (map bare events)
bare_rows [] = refl
bare_rows (e ∷ events) = ap (λ t. row_lines (bare e) ++ t) (bare_rows events)

pub bare_remarked : (events : List Event) (text : List ℕ) → text ≡ bare_text events → AreRemarked events text
bare_remarked events text is = record { rows = map bare events; events_are = bare_events events; plain = bare_plain events; text_is = is ∙ bare_rows events }

-- the lines of the next event, with an empty remark
pub bare_more : (events : List Event) (i : ℕ) (d : Event) (old new : List ℕ) → i < length events → old ≡ bare_text (take i events)
    → new ≡ old ++ event_line (get_or events i d) ++ codes "# " ++ [] ++ codes "\n" → new ≡ bare_text (take (i + 1) events)
bare_more events i d old new inside is added =
    added ∙ row_of old (event_line (get_or events i d)) (codes "# ") [] (codes "\n") ∙ ap (λ t. t ++ row_lines (bare (get_or events i d))) is
    ∙ ap (λ t. bare_text (take i events) ++ t) (sym (append-nil (row_lines (bare (get_or events i d)))))
    ∙ sym (ap bare_text (take_more events i d inside) ∙ flat_map-append (λ e. row_lines (bare e)) (take i events) (get_or events i d ∷ []))
  where
    row_of : (old line mark remark end : List ℕ) → old ++ line ++ mark ++ remark ++ end ≡ old ++ (line ++ mark ++ remark ++ end)
    row_of old line mark remark end =
        ap (λ t. t ++ end) (ap (λ t. t ++ remark) (append_assoc old line mark) ∙ append_assoc old (line ++ mark) remark) ∙ append_assoc old (line ++ mark ++ remark) end

-- where the list could be written: what is too long, or has a number without a name, is no schedule
pub unnamed : (events : List Event) (text : List ℕ) → (All HasNames events → ⊥) → SpellsSchedule text events → ⊥
unnamed events text never spells = never (names_of text events spells)

pub too_long : (events : List Event) (text : List ℕ) → schedule_limit < length text → SpellsSchedule text events → ⊥
too_long events text long spells = omega (arith, long, spells.size)

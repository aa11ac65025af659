-- Events that are written are read back.
use Rattle.std.proofs.Common.{◌≡◌, ◌≢◌, refl, sym, ◌∙◌, ap, subst, ℕ, suc, ◌*◌, ◌-◌, ◌≤◌, true, false, List, [], ◌∷◌, ◌++◌, length, arith, append_assoc, append-nil, length-append, lit≤}
use Rattle.std.proofs.lemmas.Bool.Decides.{nat_tests}
use Rattle.std.proofs.lemmas.Fmt.{decimal_is_IsNumeral, length-decimal-le}
use Rattle.std.proofs.lemmas.List.Elements.{All-append, All-cons, All-nil}
use Rattle.std.proofs.lemmas.List.Sums.{AllPass-from_list_all}
use Rattle.std.proofs.lemmas.Str.Parse.{digit_from_value}
use Rattle.std.specs.List.{All, flat_map, list_all}
use Rattle.std.specs.Prelude.{◌==◌, if◌then◌else◌, codes, decimal, nat_le, slice_index, slice_index_or, take}
use Rattle.std.specs.Str.Lines.{lines, strip_carriage_return}
use Rattle.std.specs.Str.Parse.{AllDigits}
use Rattle.da_lang.specs.declared.event.Event.{Event}
use Rattle.da_lang.specs.declared.event.Event.TheVariants.{Move, Take, Timeout, Deliver, Lose, Repeat, Show, Stat}
use Rattle.sched_text.specs.EventText.{HasNames, IsNamed, event_line, event_numbers, event_text, event_word, spaced}
use Rattle.sched_text.specs.ScheduleText.{SpellsLines, SpellsSchedule, event, none, schedule_limit}
use Rattle.sched_text.proofs.LineLemmas.{line_first}

-- bytes of which none ends a line
abbrev IsPlain : List ℕ → Type 0
IsPlain bytes = All (λ b. 32 ≤ b) bytes

at_least : (b : ℕ) → nat_le 32 b ≡ true → 32 ≤ b
at_least b tested = grind (arith, nat_tests)

plain : (bytes : List ℕ) → list_all (λ b. nat_le 32 b) bytes ≡ true → IsPlain bytes
plain bytes tested = λ k d inside. at_least (slice_index_or bytes k d) (AllPass-from_list_all (λ b. nat_le 32 b) bytes tested k d inside)

word_plain : (e : Event) → IsPlain (event_word e)
word_plain (Move p) = plain (codes "move") refl
word_plain (Take p k) = plain (codes "move") refl
word_plain (Timeout p) = plain (codes "timeout") refl
word_plain (Deliver p q i) = plain (codes "deliver") refl
word_plain (Lose p q i) = plain (codes "lose") refl
word_plain (Repeat p q i) = plain (codes "repeat") refl
word_plain (Show p) = plain (codes "show") refl
word_plain (Stat p) = plain (codes "stat") refl

digits_plain : (ds : List ℕ) → AllDigits 10 ds → IsPlain ds
digits_plain [] each = All-nil (λ b. 32 ≤ b)
digits_plain (b ∷ bs) each =
    let range = digit_from_value b each.0 in
    let high : 32 ≤ b = omega (arith, range.0) in
    All-cons (λ b. 32 ≤ b) b bs high (digits_plain bs each.1)

spaced_plain : (ns : List ℕ) → All IsNamed ns → IsPlain (spaced ns)
spaced_plain [] named = All-nil (λ b. 32 ≤ b)
spaced_plain (n ∷ ns) named =
    let small : n ≤ 999999999 = (named 0 n (omega arith)).1 in
    let digits = digits_plain (decimal n) (decimal_is_IsNumeral n (omega (arith, small))).0.1 in
    All-append (λ b. 32 ≤ b) (codes " " ++ decimal n) (spaced ns) (All-cons (λ b. 32 ≤ b) 32 (decimal n) (lit≤ tt) digits) (spaced_plain ns (λ k d inside. named (suc k) d (omega (arith, inside))))

text_plain : (e : Event) → HasNames e → IsPlain (event_text e)
text_plain e names = All-append (λ b. 32 ≤ b) (event_word e) (spaced (event_numbers e)) (word_plain e) (spaced_plain (event_numbers e) names)

no_end : (b : ℕ) → 32 ≤ b → b ≢ 10
no_end b high = λ same. omega (arith, high, same)

-- such a line has no CR at its end
no_return : (bytes : List ℕ) → IsPlain bytes → strip_carriage_return bytes ≡ bytes
no_return [] clean = refl
no_return (b ∷ bs) clean = at (slice_index (b ∷ bs) (length (b ∷ bs) - 1)) (clean (length (b ∷ bs) - 1) 0 (omega arith))
  where
    at : (last : ℕ) → 32 ≤ last → (if last == 13 then take (length (b ∷ bs) - 1) (b ∷ bs) else b ∷ bs) ≡ b ∷ bs
    at last high = let other : (last == 13) ≡ false = grind (arith, nat_tests) in rw other refl

line_of_event : (e : Event) (more : List ℕ) → HasNames e → lines (event_line e ++ more) ≡ event_text e ∷ lines more
line_of_event e more names =
    let clean = text_plain e names in
    line_first (event_line e ++ more) (event_text e) more (λ k d inside. no_end (slice_index_or (event_text e) k d) (clean k d inside)) (append_assoc (event_text e) (codes "\n") more)
    ∙ ap (λ line. line ∷ lines more) (no_return (event_text e) clean)

written_lines : (events : List Event) → All HasNames events → SpellsLines (lines (flat_map event_line events)) events
written_lines [] names = none
written_lines (e ∷ events) names =
    let first : HasNames e = names 0 e (omega arith) in
    let rest = written_lines events (λ k d inside. names (suc k) d (omega (arith, inside))) in
    subst (λ all. SpellsLines all (e ∷ events)) (sym (line_of_event e (flat_map event_line events) first))
    (event (event_text e) (lines (flat_map event_line events)) e events (record { names = first; is = refl }) rest)

-- the lines of events that a schedule can name are a schedule of these events, if there are not too many
pub written_schedule : (events : List Event) → All HasNames events → length (flat_map event_line events) ≤ schedule_limit → SpellsSchedule (flat_map event_line events) events
written_schedule events names few = record { size = few; spelled = written_lines events names }

spaced_short : (ns : List ℕ) → All IsNamed ns → length (spaced ns) ≤ 10 * length ns
spaced_short [] named = omega arith
spaced_short (n ∷ ns) named =
    let small : n ≤ 999999999 = (named 0 n (omega arith)).1 in
    let digits : length (decimal n) ≤ 9 = length-decimal-le 9 n (omega arith) (omega (arith, small)) (omega (arith, small)) in
    let rest = spaced_short ns (λ k d inside. named (suc k) d (omega (arith, inside))) in
    omega (arith, digits, rest, length-append (codes " " ++ decimal n) (spaced ns))

word_short : (e : Event) → (length (event_word e) ≤ 7) × (length (event_numbers e) ≤ 3)
word_short (Move p) = (omega arith, omega arith)
word_short (Take p k) = (omega arith, omega arith)
word_short (Timeout p) = (omega arith, omega arith)
word_short (Deliver p q i) = (omega arith, omega arith)
word_short (Lose p q i) = (omega arith, omega arith)
word_short (Repeat p q i) = (omega arith, omega arith)
word_short (Show p) = (omega arith, omega arith)
word_short (Stat p) = (omega arith, omega arith)

-- the line of an event that a schedule can name is read as that event
pub written_event : (e : Event) → HasNames e → SpellsSchedule (event_line e) (e ∷ [])
written_event e names = record {
  size =
      let (word, count) = word_short e in
      omega (arith, word, count, spaced_short (event_numbers e) names, length-append (event_word e) (spaced (event_numbers e)), length-append (event_text e) (codes "\n"));
  spelled = subst (λ text. SpellsLines (lines text) (e ∷ [])) (append-nil (event_line e)) (written_lines (e ∷ []) (All-cons HasNames e [] names (All-nil HasNames)));
}

-- The numbers of events that a schedule can name.
use Rattle.std.proofs.Common.{◌≡◌, refl, sym, ◌∙◌, ap, subst, ℕ, ◌+◌, ◌<◌, ◌≤◌, Bool, true, false, List, [], ◌∷◌, ◌++◌, length, append-nil, get_or, take, take_all}
use Rattle.std.specs.List.{All}
use Rattle.std.specs.Prelude.{◌↔◌, IsTrue}
use Rattle.std.proofs.lemmas.Bool.{false≢true}
use Rattle.std.proofs.lemmas.List.Elements.{All-cons, All-head, All-nil, All-tail}
use Rattle.std.proofs.lemmas.Grind.{flat_map-append}
use Rattle.std.proofs.lemmas.List.{take_more}
use Rattle.da_lang.specs.declared.event.Event.{Event}
use Rattle.sched_text.specs.EventText.{HasNames, IsNamed, event_line}
use Rattle.sched_text.specs.ScheduleText.{SpellsSchedule, schedule_limit}
use Rattle.sched_text.proofs.WrittenEvents.{written_schedule}
use Rattle.schedule_walk.specs.Walk.{schedule_text}

pub one_named : (p : ℕ) → IsNamed p → All IsNamed (p ∷ [])
one_named p p_named = All-cons IsNamed p [] p_named (All-nil IsNamed)

-- THE LINES OF ONE MORE EVENT

pub lines_more : (events : List Event) (i : ℕ) (d : Event) (text new : List ℕ) → i < length events → text ≡ schedule_text (take i events) → new ≡ text ++ event_line (get_or events i d) → new ≡ schedule_text (take (i + 1) events)
lines_more events i d text new inside is added =
    added ∙ ap (λ t. t ++ event_line (get_or events i d)) is ∙ ap (λ t. schedule_text (take i events) ++ t) (sym (append-nil (event_line (get_or events i d))))
    ∙ sym (ap schedule_text (take_more events i d inside) ∙ flat_map-append event_line (take i events) (get_or events i d ∷ []))

-- all lines, and their numbers can be named: they are a schedule
pub whole_text : (events : List Event) (i : ℕ) (text : List ℕ) → length events ≤ i → text ≡ schedule_text (take i events) → text ≡ schedule_text events
whole_text events i text end is = is ∙ ap schedule_text (take_all i events end)

pub spelled : (events : List Event) (i : ℕ) (text : List ℕ) → length events ≤ i → text ≡ schedule_text (take i events) → All HasNames events → length text ≤ schedule_limit → SpellsSchedule text events
spelled events i text end is names few =
    let text_is : text ≡ schedule_text events = whole_text events i text end is in
    subst (λ t. SpellsSchedule t events) (sym text_is) (written_schedule events names (subst (λ t. length t ≤ schedule_limit) text_is few))

-- WHETHER NUMBERS CAN BE NAMED

pub is_first_named : (b : Bool) (n : ℕ) → (IsTrue b ↔ IsNamed n) → IsTrue b ↔ All IsNamed (n ∷ [])
is_first_named b n both = (λ is. one_named n (both.0 is), λ all. both.1 (All-head IsNamed n [] all))

pub first_unnamed : (b : Bool) (n : ℕ) (ns : List ℕ) → (IsTrue b ↔ IsNamed n) → b ≡ false → IsTrue false ↔ All IsNamed (n ∷ ns)
first_unnamed b n ns both is = (λ no. absurd (false≢true no), λ all. absurd (false≢true (sym is ∙ both.1 (All-head IsNamed n ns all))))

pub others_named : (b r : Bool) (n : ℕ) (ns : List ℕ) → (IsTrue b ↔ IsNamed n) → b ≡ true → (IsTrue r ↔ All IsNamed ns) → IsTrue r ↔ All IsNamed (n ∷ ns)
others_named b r n ns both is rest = (λ yes'. All-cons IsNamed n ns (both.0 is) (rest.0 yes'), λ all. rest.1 (All-tail IsNamed n ns all))

-- an event of the list cannot be named
pub not_all_named : (b : Bool) (events : List Event) (i : ℕ) (d : Event) → i < length events → (IsTrue b ↔ HasNames (get_or events i d)) → b ≡ false → IsTrue false ↔ All HasNames events
not_all_named b events i d inside both is = (λ no. absurd (false≢true no), λ all. absurd (false≢true (sym is ∙ both.1 (all i d inside))))

pub are_all_named : (events : List Event) (i : ℕ) → length events ≤ i → All HasNames (take i events) → IsTrue true ↔ All HasNames events
are_all_named events i end names = (λ is. subst (All HasNames) (take_all i events end) names, λ all. refl)

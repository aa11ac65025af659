-- Events that are left out of a schedule.
use Rattle.std.proofs.Common.{◌≡◌, refl, sym, ◌∙◌, ap, subst, ℕ, zero, suc, ◌+◌, ◌-◌, ◌<◌, ◌≤◌, Bool, true, false, List, [], ◌∷◌, ◌++◌, take, drop, length, cond, arith, inl, inr, ◌⊎◌, length-append, length-drop, length-take-le}
use Rattle.std.specs.List.{remove}
use Rattle.std.proofs.lemmas.Bool.{cases_lt}
use Rattle.da_lang.specs.declared.event.Event.{Event}
use Rattle.da_lang.specs.declared.program.Program.{Program}
use Rattle.schedule_hunt.specs.declared.what.Goal.{Goal}
use Rattle.schedule_hunt.specs.Hunt.{IsPart, IsShownBy}
use Rattle.schedule_hunt.specs.Shortening.{HasShortened, HasTried, IsNeededEach, IsShownPart, without_some}

-- PARTS

pub part_self : (events : List Event) → IsPart events events
part_self [] = IsPart.none
part_self (e ∷ es) = IsPart.kept e es es (part_self es)

part_nothing : (events : List Event) → IsPart [] events
part_nothing [] = IsPart.none
part_nothing (e ∷ es) = IsPart.left e [] es (part_nothing es)

pub part_then : (a b c : List Event) → IsPart a b → IsPart b c → IsPart a c
part_then a b _ first (IsPart.left e _ whole next) = IsPart.left e a whole (part_then a b whole first next)
part_then _ _ _ (IsPart.kept _ part _ first) (IsPart.kept e middle whole next) = IsPart.kept e part whole (part_then part middle whole first next)
part_then a _ _ (IsPart.left _ _ _ first) (IsPart.kept e middle whole next) = IsPart.left e a whole (part_then a middle whole first next)
part_then _ _ _ IsPart.none IsPart.none = IsPart.none

part_after : (events : List Event) (size : ℕ) → IsPart (drop size events) events
part_after events zero = part_self events
part_after [] (suc size) = IsPart.none
part_after (e ∷ es) (suc size) = IsPart.left e _ es (part_after es size)

pub part_without : (events : List Event) (place size : ℕ) → IsPart (without_some events place size) events
part_without events zero size = part_after events size
part_without [] (suc place) zero = IsPart.none
part_without [] (suc place) (suc size) = IsPart.none
part_without (e ∷ es) (suc place) size = IsPart.kept e _ es (part_without es place size)

-- without one event
drop_one : (events : List Event) (place : ℕ) → drop 1 (drop place events) ≡ drop (suc place) events
drop_one events zero = refl
drop_one [] (suc place) = refl
drop_one (e ∷ es) (suc place) = drop_one es place

pub without_one : (events : List Event) (place : ℕ) → without_some events place 1 ≡ remove events place
without_one events place = ap (λ back. take place events ++ back) (drop_one events place)

one_fewer : (events : List Event) (place : ℕ) → place < length events → length (without_some events place 1) + 1 ≡ length events
one_fewer events place inside =
    let all = length-append (take place events) (drop 1 (drop place events)) in
    let front = length-take-le place events (omega (arith, inside)) in
    let back = length-drop 1 (drop place events) in
    let rest = length-drop place events in
    omega (arith, all, front, back, rest, inside)

-- what is left is no shorter than its prefix
front_left : (events : List Event) (place size : ℕ) → place ≤ length events → place ≤ length (without_some events place size)
front_left events place size inside =
    let all = length-append (take place events) (drop size (drop place events)) in
    let front = length-take-le place events inside in
    omega (arith, all, front)

-- ONE TRY

pub shown_self : (program : Program) (what : Goal) (events : List Event) → IsShownBy program what events → IsShownPart program what events events
shown_self program what events shown = record { shown = shown; part_is = part_self events }

pub tried_part : (program : Program) (what : Goal) (left_out : Bool) (place size : ℕ) (whole old new : List Event) → HasTried program what left_out (without_some old place size) old new
    → IsShownPart program what old whole → IsShownPart program what new whole
tried_part program what true place size whole old new tried part =
    subst (λ events. IsShownPart program what events whole) (sym tried.0)
    (record { shown = tried.1; part_is = part_then _ _ _ (part_without old place size) part.part_is })
tried_part program what false place size whole old new tried part = subst (λ events. IsShownPart program what events whole) (sym tried.0) part

pub tried_inside : (program : Program) (what : Goal) (left_out : Bool) (place size : ℕ) (old new : List Event) → HasTried program what left_out (without_some old place size) old new
    → place ≤ length old → place ≤ length new
tried_inside program what true place size old new tried inside = subst (λ events. place ≤ length events) (sym tried.0) (front_left old place size inside)
tried_inside program what false place size old new tried inside = subst (λ events. place ≤ length events) (sym tried.0) inside

-- A PASS: the places from this one on were tried

abbrev pub Passed : Program → Goal → Bool → ℕ → List Event → List Event → Type 0
Passed program what true place old new = length new < length old
Passed program what false place old new = (new ≡ old) × ((p : ℕ) → place ≤ p → p < length old → IsShownBy program what (remove old p) → ⊥)

pub passed_first : (program : Program) (what : Goal) (events : List Event) → Passed program what false (length events) events events
passed_first program what events = (refl, λ p from to. absurd (omega (arith, from, to)))

pub passed_end : (program : Program) (what : Goal) (some : Bool) (place : ℕ) (old new : List Event) → place ≤ 0 → Passed program what some place old new → HasShortened program what some old new
passed_end program what true place old new none passed = passed
passed_end program what false place old new none passed = (passed.0, λ p inside. passed.1 p (omega (arith, none)) inside)

abbrev either : Bool → Bool → Bool
either some left_out = cond left_out true some

pub passed_on : (program : Program) (what : Goal) (some left_out : Bool) (place : ℕ) (first old new : List Event) → place < length old
    → HasTried program what left_out (without_some old place 1) old new → Passed program what some (place + 1) first old → Passed program what (either some left_out) place first new
passed_on program what true true place first old new inside tried passed =
    subst (λ events. length events < length first) (sym tried.0) (let fewer = one_fewer old place inside in omega (arith, fewer, passed))
passed_on program what false true place first old new inside tried passed =
    subst (λ events. length events < length first) (sym tried.0) (let fewer = one_fewer old place inside in let same = ap length passed.0 in omega (arith, fewer, same))
passed_on program what true false place first old new inside tried passed = subst (λ events. length events < length first) (sym tried.0) passed
passed_on program what false false place first old new inside tried passed = (tried.0 ∙ passed.0, each)
  where
    each : (p : ℕ) → place ≤ p → p < length first → IsShownBy program what (remove first p) → ⊥
    each p from to shown = of (cases_lt place p)
      where
        of : (place < p) ⊎ (p ≤ place) → ⊥
        of (inl later) = passed.1 p (omega (arith, later)) to shown
        of (inr early) =
            let same : p ≡ place = omega (arith, from, early) in
            tried.1 (subst (IsShownBy program what) (ap (λ q. remove first q) same ∙ ap (λ events. remove events place) (sym passed.0) ∙ sym (without_one old place)) shown)

-- PASSES: after one that left nothing out each event is needed

abbrev pub AtEnd : Program → Goal → Bool → List Event → Type 0
AtEnd program what true events = Unit {0}
AtEnd program what false events = IsNeededEach program what events

pub pass_on : (program : Program) (what : Goal) (some : Bool) (old new : List Event) → HasShortened program what some old new → AtEnd program what some new
pass_on program what true old new shortened = tt
pass_on program what false old new shortened = subst (IsNeededEach program what) (sym shortened.0) shortened.1

pub pass_less : (program : Program) (what : Goal) (some : Bool) (old new : List Event) → HasShortened program what some old new → length new + cond some 1 0 < length old + 1
pass_less program what true old new shortened = omega (arith, shortened)
pass_less program what false old new shortened = let same = ap length shortened.0 in omega (arith, same)

pub part_on : (program : Program) (what : Goal) (whole old new : List Event) → IsShownPart program what new old → IsShownPart program what old whole → IsShownPart program what new whole
part_on program what whole old new next part = record { shown = next.shown; part_is = part_then new old whole next.part_is part.part_is }

-- the place before this one was tried
single_on : (program : Program) (what : Goal) (some left_out : Bool) (place : ℕ) (first old new : List Event) → 0 < place → place ≤ length old
    → HasTried program what left_out (without_some old (place - 1) 1) old new → Passed program what some place first old → Passed program what (either some left_out) (place - 1) first new
single_on program what some left_out place first old new left inside tried passed =
    let same : place ≡ place - 1 + 1 = omega (arith, left) in
    passed_on program what some left_out (place - 1) first old new (omega (arith, left, inside)) tried (subst (λ k. Passed program what some k first old) same passed)

pub passed_out : (program : Program) (what : Goal) (some left_out : Bool) (place : ℕ) (first old new : List Event) → left_out ≡ true → 0 < place → place ≤ length old
    → HasTried program what left_out (without_some old (place - 1) 1) old new → Passed program what some place first old → Passed program what true (place - 1) first new
passed_out program what some left_out place first old new is left inside tried passed =
    subst (λ b. Passed program what (either some b) (place - 1) first new) is (single_on program what some left_out place first old new left inside tried passed)

pub passed_by : (program : Program) (what : Goal) (some left_out : Bool) (place : ℕ) (first old new : List Event) → left_out ≡ false → 0 < place → place ≤ length old
    → HasTried program what left_out (without_some old (place - 1) 1) old new → Passed program what some place first old → Passed program what some (place - 1) first new
passed_by program what some left_out place first old new is left inside tried passed =
    subst (λ b. Passed program what (either some b) (place - 1) first new) is (single_on program what some left_out place first old new left inside tried passed)

pub passed_start : (program : Program) (what : Goal) (events : List Event) (place : ℕ) → place ≡ length events → Passed program what false place events events
passed_start program what events place is = subst (λ k. Passed program what false k events events) (sym is) (passed_first program what events)

-- Where no event lets a run go on.
use Rattle.std.proofs.Common.{◌≡◌, refl, sym, ◌∙◌, ap, subst, ℕ, ◌<◌, ◌≤◌, inl, inr, Bool, true, false, List, [], ◌∷◌, length, arith, get_or, not, take, take_all}
use Rattle.std.specs.Prelude.{Option, Some, None, ◌↔◌, IsTrue, IsSome, is_some, slice_index_or}
use Rattle.std.specs.List.{All, list_any}
use Rattle.std.proofs.lemmas.Bool.{false≢true}
use Rattle.std.proofs.lemmas.List.Elements.{All-head, All-tail}
use Rattle.da_values.specs.Sets.{Has}
use Rattle.da_values.proofs.Members.{Has-at, Has-from_any, any_from_has}
use Rattle.da_lang.specs.declared.event.Event.{Event}
use Rattle.da_lang.specs.declared.event.Event.TheVariants.{Move, Take, Timeout, Deliver, Lose, Repeat, Show, Stat}
use Rattle.da_lang.specs.declared.program.Program.{Program}
use Rattle.da_system.specs.Choices.{choices}
use Rattle.da_system.specs.SoundState.{IsSoundState}
use Rattle.da_system.specs.SystemStep.{AfterEvent, SystemState, sys_step}
use Rattle.da_system.proofs.ChoiceLaws.{IsPickable, choices_are}
use Rattle.trace_join.specs.Joins.{IsPlain}
use Rattle.schedule_walk.specs.Allowed.{ListsAllowed, allowed}
use Rattle.schedule_walk.specs.Rest.{IsAtRest, IsIdle, goes_on}
use Rattle.schedule_walk.proofs.AllowedLaws.{lists_allowed}

-- EVENTS BY WHICH A RUN GOES ON

picked_goes_on : (e : Event) → IsPickable e → goes_on e ≡ true
picked_goes_on (Move p) kind = refl
picked_goes_on (Take p k) kind = refl
picked_goes_on (Timeout p) kind = refl
picked_goes_on (Deliver p q i) kind = refl
picked_goes_on (Lose p q i) kind = absurd kind
picked_goes_on (Repeat p q i) kind = absurd kind
picked_goes_on (Show p) kind = absurd kind
picked_goes_on (Stat p) kind = absurd kind

goes_on_plain : (e : Event) → goes_on e ≡ true → IsPlain e
goes_on_plain (Move p) goes = tt
goes_on_plain (Take p k) goes = tt
goes_on_plain (Timeout p) goes = tt
goes_on_plain (Deliver p q i) goes = tt
goes_on_plain (Lose p q i) goes = tt
goes_on_plain (Repeat p q i) goes = tt
goes_on_plain (Show p) goes = absurd (false≢true goes)
goes_on_plain (Stat p) goes = absurd (false≢true goes)

all_has : (xs : List Event) (e : Event) → All IsIdle xs → Has xs e → IsIdle e
all_has [] e all has = absurd has
all_has (x ∷ xs) e all (inl is) = subst IsIdle (sym is) (All-head IsIdle x xs all)
all_has (x ∷ xs) e all (inr has) = all_has xs e (All-tail IsIdle x xs all) has

never_both : (step : Option AfterEvent) → step ≡ None → IsSome step → ⊥
never_both step none there = false≢true (sym (ap is_some none) ∙ there)

-- REST

module _ (program : Program) (s : SystemState) (sound : IsSoundState program s) where
  -- where an event may be picked
  pub some_choice : (count : ℕ) → count ≡ length (choices program s) → 0 < count → IsTrue false ↔ IsAtRest program s
  some_choice count counted some = (λ no. absurd (false≢true no), λ rests. absurd (of (choices program s) refl rests))
    where
      of : (es : List Event) → choices program s ≡ es → IsAtRest program s → ⊥
      of [] none rests = let empty = ap length none in omega (arith, counted, some, empty)
      of (e ∷ es) first rests =
          let (kind, there) = (choices_are program s sound e).0 (subst (λ all. Has all e) (sym first) (inl refl)) in
          never_both (sys_step program s e) (rests e (picked_goes_on e kind)) there

  -- by the list of what is allowed
  pub listed_rest : (b : Bool) (list shown : List Event) → ListsAllowed program s list → shown ≡ list → (IsTrue b ↔ All IsIdle shown) → IsTrue b ↔ IsAtRest program s
  listed_rest b list shown lists same both = (to, from)
    where
      by_step : (e : Event) (step : Option AfterEvent) → sys_step program s e ≡ step → All IsIdle list → goes_on e ≡ true → step ≡ None
      by_step e None is idle goes = refl
      by_step e (Some after) is idle goes = absurd (false≢true (sym (all_has list e idle ((lists.all e).1 (goes_on_plain e goes, ap is_some is))) ∙ goes))

      to : IsTrue b → IsAtRest program s
      to is e goes = by_step e (sys_step program s e) refl (subst (All IsIdle) same (both.0 is)) goes

      idle_by : (e : Event) → Has list e → IsAtRest program s → (goes : Bool) → goes_on e ≡ goes → goes ≡ false
      idle_by e has rests true is = absurd (never_both (sys_step program s e) (rests e is) ((lists.all e).0 has).1)
      idle_by e has rests false is = refl

      from : IsAtRest program s → IsTrue b
      from rests = both.1 (subst (All IsIdle) (sym same) (λ k d inside. idle_by (slice_index_or list k d) (Has-at list k d inside) rests (goes_on (slice_index_or list k d)) refl))

  -- whether one of the allowed events lets the run go on
  pub rest_is : (b : Bool) → (IsTrue b ↔ IsAtRest program s) → b ≡ not (list_any goes_on (allowed program s))
  rest_is b both = of b both (list_any goes_on (allowed program s)) refl
    where
      lists : ListsAllowed program s (allowed program s)
      lists = lists_allowed program s sound (allowed program s) refl

      moving : list_any goes_on (allowed program s) ≡ true → IsAtRest program s → ⊥
      moving some rests =
          let (e, has, goes) = Has-from_any goes_on (allowed program s) some in
          never_both (sys_step program s e) (rests e goes) ((lists.all e).0 has).1

      resting : list_any goes_on (allowed program s) ≡ false → (e : Event) → goes_on e ≡ true → (step : Option AfterEvent) → sys_step program s e ≡ step → step ≡ None
      resting none e goes None is = refl
      resting none e goes (Some after) is = absurd (false≢true (sym none ∙ any_from_has goes_on (allowed program s) e ((lists.all e).1 (goes_on_plain e goes, ap is_some is)) goes))

      of : (b : Bool) → (IsTrue b ↔ IsAtRest program s) → (some : Bool) → list_any goes_on (allowed program s) ≡ some → b ≡ not some
      of true both true some = absurd (moving some (both.0 refl))
      of true both false some = refl
      of false both true some = refl
      of false both false some = absurd (false≢true (both.1 (λ e goes. resting some e goes (sys_step program s e) refl)))

-- LOOPS AND CALLS

idle_is : (b x : Bool) → b ≡ not x → b ≡ true → x ≡ false
idle_is b true is idle = absurd (false≢true (sym is ∙ idle))
idle_is b false is idle = refl

-- an event of the list lets the run go on
pub one_goes_on : (b : Bool) (events : List Event) (i : ℕ) (d : Event) → i < length events → b ≡ not (goes_on (get_or events i d)) → b ≡ false → IsTrue false ↔ All IsIdle events
one_goes_on b events i d inside is never = (λ no. absurd (false≢true no), λ all. absurd (false≢true (sym never ∙ is ∙ ap not (all i d inside))))

pub one_idle : (b : Bool) (e : Event) → b ≡ not (goes_on e) → b ≡ true → IsIdle e
one_idle b e is idle = idle_is b (goes_on e) is idle

pub all_idle : (events : List Event) (i : ℕ) → length events ≤ i → All IsIdle (take i events) → IsTrue true ↔ All IsIdle events
all_idle events i end idle = (λ is. subst (All IsIdle) (take_all i events end) idle, λ all. refl)

-- The list of allowed events has all that are allowed, but for `show` and `stat`.
use Rattle.std.proofs.Common.{◌≡◌, refl, sym, ◌∙◌, ap, subst, ℕ, zero, suc, ◌+◌, ◌<◌, ◌≤◌, inl, inr, Bool, true, false, cond, List, [], ◌∷◌, ◌++◌, length, map, arith}
use Rattle.std.specs.Prelude.{◌↔◌, ◌⊎◌, IfSome, IsSome, Option, Some, None, is_some}
use Rattle.std.specs.List.{AllByRecursion, flat_map, range_with_len}
use Rattle.std.proofs.lemmas.Bool.{false≢true}
use Rattle.da_values.specs.Sets.{Has}
use Rattle.da_values.proofs.Members.{Has-append_left, Has-append_right, Has-filter, Has-flat_map, Has-map, of_append, of_filter}
use Rattle.da_lang.specs.declared.event.Event.{Event}
use Rattle.da_lang.specs.declared.event.Event.TheVariants as event
use Rattle.da_lang.specs.declared.program.Program.{Program}
use Rattle.da_lang.specs.Steps as step
use Rattle.da_lang.specs.World.{World, at_number}
use Rattle.da_core.specs.Told.{numbers_to}
use Rattle.da_system.specs.Channels.{MessageInFlight, channel, may_arrive, may_lose, may_repeat, or_empty}
use Rattle.da_system.specs.Choices.{deliveries_from, is_allowed, moves_of, processes}
use Rattle.da_system.specs.Choices as choice
use Rattle.da_system.specs.SoundState.{IsSoundState}
use Rattle.da_system.specs.SystemStep.{SystemState, arrive, copy_message, drop_message, sys_step}
use Rattle.da_system.proofs.ChoiceLaws.{IsPickable, choices_are}
use Rattle.da_system.proofs.PlaceLemmas.{within_numbers}
use Rattle.da_system.proofs.WorldLemmas.{all_numbered, numbered_none}
use Rattle.trace_join.specs.Joins.{IsPlain}
use Rattle.schedule_walk.specs.declared.allowed.Deed.{Deed}
use Rattle.schedule_walk.specs.declared.allowed.Deed.TheVariants.{Deliver, Lose, Repeat}
use Rattle.schedule_walk.specs.Allowed.{ListsAllowed, allowed, candidates, deed_event, deeds, deeds_from, deeds_to, is_move, moves}
use Rattle.schedule_walk.proofs.AllowedLemmas.{all_append, all_flat, all_map, deliveries_are_not}

-- what is so of each event of a list is so of one of them
pub all_has : (P : Event → Type 0) (xs : List Event) (e : Event) → AllByRecursion P xs → Has xs e → P e
all_has P [] e all has = absurd has
all_has P (x ∷ xs) e all (inl is) = subst P (sym is) all.0
all_has P (x ∷ xs) e all (inr has) = all_has P xs e all.1 has

-- NUMBERS

number_at : (a n d : ℕ) → d < n → Has (range_with_len a n) (a + d)
number_at a zero d inside = absurd (omega (arith, inside))
number_at a (suc n) zero inside = inl (let here : a + 0 ≡ a = omega arith in here)
number_at a (suc n) (suc d) inside = inr (subst (Has (range_with_len (a + 1) n)) (let here : a + 1 + d ≡ a + suc d = omega arith in here) (number_at (a + 1) n d (omega (arith, inside))))

number_there : (n k : ℕ) → 0 < k → k ≤ n → Has (numbers_to n) k
number_there n zero some few = absurd (omega (arith, some))
number_there n (suc d) some few = subst (Has (numbers_to n)) (let here : 1 + d ≡ suc d = omega arith in here) (number_at 1 n d (omega (arith, few)))

-- WHERE THERE IS A MESSAGE

module _ (program : Program) (s : SystemState) (p q i : ℕ) where
  arrived : (may : Bool) (o : Option MessageInFlight) → is_some (cond may (arrive program s p q i o) None) ≡ true → is_some o ≡ true
  arrived true None is = absurd (false≢true is)
  arrived true (Some message) is = refl
  arrived false o is = absurd (false≢true is)

  lost : (may : Bool) (o : Option MessageInFlight) → is_some (cond may (drop_message s p q i o) None) ≡ true → is_some o ≡ true
  lost true None is = absurd (false≢true is)
  lost true (Some message) is = refl
  lost false o is = absurd (false≢true is)

  doubled : (may : Bool) (o : Option MessageInFlight) → is_some (cond may (copy_message s p q o) None) ≡ true → is_some o ≡ true
  doubled true None is = absurd (false≢true is)
  doubled true (Some message) is = refl
  doubled false o is = absurd (false≢true is)

-- there is a channel where there is a message
no_message : (i : ℕ) → is_some (at_number {A = MessageInFlight} [] i) ≡ true → ⊥
no_message i is = false≢true (sym (ap is_some (numbered_none {A = MessageInFlight} i)) ∙ is)

in_row : (row : List (List MessageInFlight)) (q i : ℕ) → is_some (at_number (or_empty (at_number row q)) i) ≡ true → (0 < q) × (q ≤ length row)
in_row row q i is = of (at_number row q) refl is
  where
    of : (messages : Option (List MessageInFlight)) → at_number row q ≡ messages → is_some (at_number (or_empty messages) i) ≡ true → (0 < q) × (q ≤ length row)
    of None there is = absurd (no_message i is)
    of (Some messages) there is = within_numbers row q (ap is_some there)

in_rows : (rows : List (List (List MessageInFlight))) (count p q i : ℕ) → AllByRecursion (λ (row : List (List MessageInFlight)). length row ≡ count) rows → is_some (at_number (channel rows p q) i) ≡ true
    → ((0 < p) × (p ≤ length rows)) × ((0 < q) × (q ≤ count))
in_rows rows count p q i square is = of (at_number rows p) refl (all_numbered (λ (row : List (List MessageInFlight)). length row ≡ count) rows p square) is
  where
    of : (row : Option (List (List MessageInFlight))) → at_number rows p ≡ row → IfSome row (λ (row : List (List MessageInFlight)). length row ≡ count)
        → is_some (at_number (or_empty (at_number (or_empty row) q)) i) ≡ true → ((0 < p) × (p ≤ length rows)) × ((0 < q) × (q ≤ count))
    of None there long is = absurd (let none : (0 < q) × (q ≤ 0) = in_row [] q i is in omega (arith, none.0, none.1))
    of (Some row) there long is = let (some, few) = in_row row q i is in (within_numbers rows p (ap is_some there), (some, omega (arith, few, long)))

-- EACH IS PLAIN

deed_plain : (deed : Deed) (p q i : ℕ) → IsPlain (deed_event deed p q i)
deed_plain Deliver p q i = tt
deed_plain Lose p q i = tt
deed_plain Repeat p q i = tt

module _ (s : SystemState) where
  moves_plain : AllByRecursion IsPlain (moves s)
  moves_plain =
      all_flat IsPlain (moves_of s)
      (λ p. all_append IsPlain (event.Move p ∷ map (event.Take p) (numbers_to (choice.alternatives_at (at_number s.worlds p)))) (event.Timeout p ∷ [])
      (tt, all_map IsPlain (event.Take p) (λ k. tt) (numbers_to (choice.alternatives_at (at_number s.worlds p)))) (tt, tt)) (processes s)

  deeds_plain : (deed : Deed) → AllByRecursion IsPlain (deeds deed s)
  deeds_plain deed =
      all_flat IsPlain (deeds_from deed s)
      (λ p. all_flat IsPlain (deeds_to deed s p) (λ q. all_map IsPlain (deed_event deed p q) (deed_plain deed p q) (numbers_to (length (channel s.channels p q)))) (processes s)) (processes s)

  candidates_plain : AllByRecursion IsPlain (candidates s)
  candidates_plain =
      all_append IsPlain (moves s ++ deeds Deliver s ++ deeds Lose s) (deeds Repeat s)
      (all_append IsPlain (moves s ++ deeds Deliver s) (deeds Lose s) (all_append IsPlain (moves s) (deeds Deliver s) moves_plain (deeds_plain Deliver)) (deeds_plain Lose)) (deeds_plain Repeat)

-- EACH IS THERE

module _ (program : Program) (s : SystemState) (sound : IsSoundState program s) where
  move_there : (e : Event) → IsPickable e → is_move e ≡ true → IsSome (sys_step program s e) → Has (moves s) e
  move_there e kind is there = of (of_append (moves s) (flat_map (deliveries_from s) (processes s)) e candidate)
    where
      candidate : Has (choice.candidates s) e
      candidate = (of_filter (is_allowed program s) (choice.candidates s) e ((choices_are program s sound e).1 (kind, there))).0

      of : Has (moves s) e ⊎ Has (flat_map (deliveries_from s) (processes s)) e → Has (moves s) e
      of (inl has) = has
      of (inr has) = absurd (false≢true (sym (all_has (λ x. is_move x ≡ false) (flat_map (deliveries_from s) (processes s)) e (deliveries_are_not s) has) ∙ is))

  process_there : (p : ℕ) → 0 < p → p ≤ length program.procs → Has (processes s) p
  process_there p some few = number_there (length s.worlds) p some (omega (arith, few, sound.each))

  deed_there : (deed : Deed) (p q i : ℕ) → is_some (at_number (channel s.channels p q) i) ≡ true → Has (deeds deed s) (deed_event deed p q i)
  deed_there deed p q i message =
      let (from, to) = in_rows s.channels (length program.procs) p q i sound.square.recipients message in
      let numbered = within_numbers (channel s.channels p q) i message in
      let few : p ≤ length program.procs = omega (arith, from.1, sound.square.senders) in
      Has-flat_map (deeds_from deed s) (processes s) p (deed_event deed p q i) (process_there p from.0 few)
      (Has-flat_map (deeds_to deed s p) (processes s) q (deed_event deed p q i) (process_there q to.0 to.1)
      (Has-map (deed_event deed p q) (numbers_to (length (channel s.channels p q))) i (number_there (length (channel s.channels p q)) i numbered.0 numbered.1)))

  of_moves : (e : Event) → Has (moves s) e → Has (candidates s) e
  of_moves e has =
      Has-append_left (moves s ++ deeds Deliver s ++ deeds Lose s) (deeds Repeat s) e
      (Has-append_left (moves s ++ deeds Deliver s) (deeds Lose s) e (Has-append_left (moves s) (deeds Deliver s) e has))

  of_deeds : (deed : Deed) (e : Event) → Has (deeds deed s) e → Has (candidates s) e
  of_deeds Deliver e has =
      Has-append_left (moves s ++ deeds Deliver s ++ deeds Lose s) (deeds Repeat s) e
      (Has-append_left (moves s ++ deeds Deliver s) (deeds Lose s) e (Has-append_right (moves s) (deeds Deliver s) e has))
  of_deeds Lose e has = Has-append_left (moves s ++ deeds Deliver s ++ deeds Lose s) (deeds Repeat s) e (Has-append_right (moves s ++ deeds Deliver s) (deeds Lose s) e has)
  of_deeds Repeat e has = Has-append_right (moves s ++ deeds Deliver s ++ deeds Lose s) (deeds Repeat s) e has

  among : (e : Event) → IsPlain e → IsSome (sys_step program s e) → Has (candidates s) e
  among (event.Move p) plain is = of_moves (event.Move p) (move_there (event.Move p) tt refl is)
  among (event.Take p k) plain is = of_moves (event.Take p k) (move_there (event.Take p k) tt refl is)
  among (event.Timeout p) plain is = of_moves (event.Timeout p) (move_there (event.Timeout p) tt refl is)
  among (event.Deliver p q i) plain is =
      of_deeds Deliver (event.Deliver p q i) (deed_there Deliver p q i (arrived program s p q i (may_arrive s.kind i) (at_number (channel s.channels p q) i) is))
  among (event.Lose p q i) plain is = of_deeds Lose (event.Lose p q i) (deed_there Lose p q i (lost program s p q i (may_lose s.kind) (at_number (channel s.channels p q) i) is))
  among (event.Repeat p q i) plain is = of_deeds Repeat (event.Repeat p q i) (deed_there Repeat p q i (doubled program s p q i (may_repeat s.kind) (at_number (channel s.channels p q) i) is))
  among (event.Show p) plain is = absurd plain
  among (event.Stat p) plain is = absurd plain

  pub lists_allowed : (events : List Event) → events ≡ allowed program s → ListsAllowed program s events
  lists_allowed events are = record {
    are = are;
    all = λ e. (
      λ has.
          let (candidate, is) = of_filter (is_allowed program s) (candidates s) e (subst (λ es. Has es e) are has) in
          (all_has IsPlain (candidates s) e (candidates_plain s) candidate, is),
      λ both. subst (λ es. Has es e) (sym are) (Has-filter (is_allowed program s) (candidates s) e (among e both.0 both.1) both.1),
    );
  }

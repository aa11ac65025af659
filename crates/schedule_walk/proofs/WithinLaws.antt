-- What is allowed within a bound on losses and repetitions.
use Rattle.std.proofs.Common.{◌≡◌, refl, sym, ◌∙◌, ap, ℕ, Bool, true, false, cond, List, [], ◌∷◌, ◌++◌, length, map}
use Rattle.std.specs.Prelude.{if◌then◌else◌}
use Rattle.std.specs.List.{AllByRecursion, filter}
use Rattle.std.proofs.lemmas.List.Elements.{filter-append}
use Rattle.da_lang.specs.declared.event.Event.{Event}
use Rattle.da_lang.specs.declared.event.Event.TheVariants as event
use Rattle.da_lang.specs.declared.program.Program.{Program}
use Rattle.da_lang.specs.World.{at_number}
use Rattle.da_core.specs.Told.{numbers_to}
use Rattle.da_system.specs.Channels.{channel}
use Rattle.da_system.specs.Choices.{alternatives_at, is_allowed, moves_of, processes}
use Rattle.da_system.specs.SystemStep.{SystemState}
use Rattle.schedule_walk.specs.declared.allowed.Deed.TheVariants.{Deliver, Lose, Repeat}
use Rattle.schedule_walk.specs.Allowed.{allowed, allowed_with, deed_event, deeds, deeds_from, deeds_to, moves}
use Rattle.schedule_walk.proofs.AllowedLemmas.{all_append, all_flat, all_map}

module _ (within test : Event → Bool) where
  same_kept : (es : List Event) → AllByRecursion (λ e. within e ≡ true) es → filter within (filter test es) ≡ filter test es
  same_kept [] all = refl
  same_kept (e ∷ es) all = of (test e) all.0 (same_kept es all.1)
    where
      of : (b : Bool) → within e ≡ true → filter within (filter test es) ≡ filter test es → filter within (cond b (e ∷ filter test es) (filter test es)) ≡ cond b (e ∷ filter test es) (filter test es)
      of true is rest = ap (λ b. cond b (e ∷ filter within (filter test es)) (filter within (filter test es))) is ∙ ap (λ others. e ∷ others) rest
      of false is rest = rest

  none_kept : (es : List Event) → AllByRecursion (λ e. within e ≡ false) es → filter within (filter test es) ≡ []
  none_kept [] all = refl
  none_kept (e ∷ es) all = of (test e) all.0 (none_kept es all.1)
    where
      of : (b : Bool) → within e ≡ false → filter within (filter test es) ≡ [] → filter within (cond b (e ∷ filter test es) (filter test es)) ≡ []
      of true is rest = ap (λ b. cond b (e ∷ filter within (filter test es)) (filter within (filter test es))) is ∙ rest
      of false is rest = rest

  kept_if : (wanted : Bool) (es : List Event) → AllByRecursion (λ e. within e ≡ wanted) es → filter within (filter test es) ≡ filter test (if wanted then es else [])
  kept_if true es all = same_kept es all
  kept_if false es all = none_kept es all

filter_four : (test : Event → Bool) (ms ds ls rs : List Event) → filter test (ms ++ ds ++ ls ++ rs) ≡ filter test ms ++ filter test ds ++ filter test ls ++ filter test rs
filter_four test ms ds ls rs =
    filter-append test (ms ++ ds ++ ls) rs
    ∙ ap (λ es. es ++ filter test rs) (filter-append test (ms ++ ds) ls ∙ ap (λ es. es ++ filter test ls) (filter-append test ms ds))

same_four : (a b c d m e l r : List Event) → a ≡ m → b ≡ e → c ≡ l → d ≡ r → a ++ b ++ c ++ d ≡ m ++ e ++ l ++ r
same_four a b c d m e l r first second third fourth =
    ap (λ x. x ++ b ++ c ++ d) first ∙ ap (λ x. m ++ x ++ c ++ d) second ∙ ap (λ x. m ++ e ++ x ++ d) third ∙ ap (λ x. m ++ e ++ l ++ x) fourth

module _ (within : Event → Bool) (losses repetitions : Bool) (moves_in : (p : ℕ) → within (event.Move p) ≡ true) (takes_in : (p k : ℕ) → within (event.Take p k) ≡ true) (timeouts_in : (p : ℕ) → within (event.Timeout p) ≡ true)
    (deliveries_in : (p q i : ℕ) → within (event.Deliver p q i) ≡ true) (losses_in : (p q i : ℕ) → within (event.Lose p q i) ≡ losses) (repetitions_in : (p q i : ℕ) → within (event.Repeat p q i) ≡ repetitions) (s : SystemState) where
  moves_within : AllByRecursion (λ e. within e ≡ true) (moves s)
  moves_within =
      all_flat (λ e. within e ≡ true) (moves_of s)
      (λ p. all_append (λ e. within e ≡ true) (event.Move p ∷ map (event.Take p) (numbers_to (alternatives_at (at_number s.worlds p)))) (event.Timeout p ∷ [])
      (moves_in p, all_map (λ e. within e ≡ true) (event.Take p) (λ k. takes_in p k) (numbers_to (alternatives_at (at_number s.worlds p)))) (timeouts_in p, tt)) (processes s)

  deliveries_within : AllByRecursion (λ e. within e ≡ true) (deeds Deliver s)
  deliveries_within =
      all_flat (λ e. within e ≡ true) (deeds_from Deliver s)
      (λ p. all_flat (λ e. within e ≡ true) (deeds_to Deliver s p)
      (λ q. all_map (λ e. within e ≡ true) (deed_event Deliver p q) (λ i. deliveries_in p q i) (numbers_to (length (channel s.channels p q)))) (processes s)) (processes s)

  losses_within : AllByRecursion (λ e. within e ≡ losses) (deeds Lose s)
  losses_within =
      all_flat (λ e. within e ≡ losses) (deeds_from Lose s)
      (λ p. all_flat (λ e. within e ≡ losses) (deeds_to Lose s p)
      (λ q. all_map (λ e. within e ≡ losses) (deed_event Lose p q) (λ i. losses_in p q i) (numbers_to (length (channel s.channels p q)))) (processes s)) (processes s)

  repetitions_within : AllByRecursion (λ e. within e ≡ repetitions) (deeds Repeat s)
  repetitions_within =
      all_flat (λ e. within e ≡ repetitions) (deeds_from Repeat s)
      (λ p. all_flat (λ e. within e ≡ repetitions) (deeds_to Repeat s p)
      (λ q. all_map (λ e. within e ≡ repetitions) (deed_event Repeat p q) (λ i. repetitions_in p q i) (numbers_to (length (channel s.channels p q)))) (processes s)) (processes s)

  -- the list without what is not wanted is that of the events within the bound
  pub within_is : (program : Program) → allowed_with losses repetitions program s ≡ filter within (allowed program s)
  within_is program =
      let test = is_allowed program s in
      sym (
      ap (filter within) (filter_four test (moves s) (deeds Deliver s) (deeds Lose s) (deeds Repeat s))
      ∙ filter_four within (filter test (moves s)) (filter test (deeds Deliver s)) (filter test (deeds Lose s)) (filter test (deeds Repeat s))
      ∙ same_four _ _ _ _ _ _ _ _ (same_kept within test (moves s) moves_within) (same_kept within test (deeds Deliver s) deliveries_within) (kept_if within test losses (deeds Lose s) losses_within)
      (kept_if within test repetitions (deeds Repeat s) repetitions_within)
      ∙ sym (filter_four test (moves s) (deeds Deliver s) (if losses then deeds Lose s else []) (if repetitions then deeds Repeat s else []))
      )

-- Slots that are bound once follow what stands for them.
use Rattle.std.specs.Prelude.{◌≡◌, refl, ℕ, zero, suc, ◌+◌, ◌≤◌, List, [], ◌∷◌, ◌++◌, map, Option, Some, None, option_map, slice_set}
use Rattle.std.proofs.Common.{◌∙◌, ap, sym, subst, arith}
use Rattle.da_lang.specs.declared.query.Query.{Query}
use Rattle.da_lang.specs.declared.tree.ClassTree.{ClassTree}
use Rattle.da_lang.specs.declared.tree.MessageDecl.{MessageDecl}
use Rattle.da_lang.specs.declared.ty.Ty.{Ty}
use Rattle.da_lang.specs.QueryTypes.{type_at}
use Rattle.da_lang.specs.Resolution.{resolved_class}
use Rattle.da_lang.specs.Typing.{Slots, known_or, with_type, filled_slots}
use Rattle.untyped_laws.specs.Flow.{Step, bound, class_steps, run_step, run_steps, lacking}
use Rattle.untyped_laws.specs.Follows.{Follows, type_of, Awaits, with_mark, with_marks, with_found, marked, Marks}
use Rattle.untyped_laws.specs.Retyped.{put_slots}
use Rattle.untyped_laws.proofs.ClassBinds.{class_binds}
use Rattle.untyped_laws.proofs.FlowSteps.{class_runs}
use Rattle.untyped_laws.proofs.ListLaws.{head_or, rest_of}

-- a slot that takes no type stays as it was
none_taken : (slots : Slots) (place : ℕ) → with_type (suc place) None slots ≡ slots
none_taken [] place = refl
none_taken (None ∷ slots) zero = refl
none_taken (Some ty ∷ slots) zero = refl
none_taken (o ∷ slots) (suc place) = ap (λ (z : Slots). o ∷ z) (none_taken slots place)

pub with_none : (slot : ℕ) (slots : Slots) → with_type slot None slots ≡ slots
with_none zero slots = refl
with_none (suc place) slots = none_taken slots place

module _ (S : Type 0) (found : S → Option Ty) where
  -- of one slot by its number
  place_follows : (slots : Slots) (marks : List (Option S)) (place : ℕ) → Follows S found slots marks → type_at slots (suc place) ≡ type_of S found marks (suc place)
  place_follows [] [] place all = refl
  place_follows [] (mark ∷ marks) place all = absurd all
  place_follows (o ∷ slots) [] place all = absurd all
  place_follows (o ∷ slots) (mark ∷ marks) zero all = all.0
  place_follows (o ∷ slots) (mark ∷ marks) (suc place) all = place_follows slots marks place all.1

  pub slot_follows : (slots : Slots) (marks : List (Option S)) (slot : ℕ) → Follows S found slots marks → type_at slots slot ≡ type_of S found marks slot
  slot_follows slots marks zero all = refl
  slot_follows slots marks (suc place) all = place_follows slots marks place all

  not_before : (first : ℕ) (marks : List (Option S)) (next : ℕ) (later : List ℕ) → lacking first marks ≡ next ∷ later → first ≤ next
  not_before first [] next later e = absurd (cc)
  not_before first (None ∷ marks) next later e = let same : first ≡ next = ap (head_or 0) e in omega (arith, same)
  not_before first (Some x ∷ marks) next later e = let past : suc first ≤ next = not_before (suc first) marks next later e in omega (arith, past)

  -- the next slot for which nothing stands
  place_set : (first : ℕ) (slots : Slots) (marks : List (Option S)) (place : ℕ) (x : S) (later : List ℕ) → Awaits S found first slots marks ((first + place) ∷ later)
      → Awaits S found first (with_type (suc place) (found x) slots) (slice_set marks place (Some x)) later
  place_set first [] [] place x later w = let none : [] ≡ (first + place) ∷ later = w.lacks in absurd (cc)
  place_set first [] (mark ∷ marks) place x later w = absurd w.follows
  place_set first (o ∷ slots) [] place x later w = absurd w.follows
  place_set first (o ∷ slots) (None ∷ marks) zero x later w = record { follows = (ap (λ z. known_or z (found x)) w.follows.0, w.follows.1); lacks = ap rest_of w.lacks }
  place_set first (o ∷ slots) (None ∷ marks) (suc place) x later w = let same : first ≡ first + suc place = ap (head_or 0) w.lacks in absurd (omega (arith, same))
  place_set first (o ∷ slots) (Some y ∷ marks) zero x later w = let past : suc first ≤ first + 0 = not_before (suc first) marks (first + 0) later w.lacks in absurd (omega (arith, past))
  place_set first (o ∷ slots) (Some y ∷ marks) (suc place) x later w =
      let on : first + suc place ≡ suc first + place = omega arith in
      let others = place_set (suc first) slots marks place x later (record { follows = w.follows.1; lacks = w.lacks ∙ ap (λ k. k ∷ later) on }) in
      record { follows = (w.follows.0, others.follows); lacks = others.lacks }

  slot_set : (slots : Slots) (marks : List (Option S)) (slot : ℕ) (x : S) (later : List ℕ) → Awaits S found 1 slots marks (slot ∷ later) → Awaits S found 1 (with_type slot (found x) slots) (with_mark S found slot x marks) later
  slot_set slots marks zero x later w = let past : 1 ≤ 0 = not_before 1 marks 0 later w.lacks in absurd (omega (arith, past))
  slot_set slots marks (suc place) x later w =
      let on : suc place ≡ 1 + place = omega arith in
      place_set 1 slots marks place x later (record { follows = w.follows; lacks = w.lacks ∙ ap (λ k. k ∷ later) on })

  some_set : (ps : List (ℕ × S)) (later : List ℕ) (slots : Slots) (marks : List (Option S)) → Awaits S found 1 slots marks (map (λ p. p.0) ps ++ later) → Awaits S found 1 (with_found S found ps slots) (with_marks S found ps marks) later
  some_set [] later slots marks w = w
  some_set (p ∷ ps) later slots marks w =
      some_set ps later (with_type p.0 (found p.1) slots) (with_mark S found p.0 p.1 marks) (slot_set slots marks p.0 p.1 (map (λ q. q.0) ps ++ later) w)

  module _ (messages : List MessageDecl) (queries : List Query) (marking : Step → List (Option S) → List (ℕ × S)) (m : Marks S found marking messages queries) where
    pub steps_set : (steps : List Step) (slots : Slots) (marks : List (Option S)) → Awaits S found 1 slots marks (bound steps) → Awaits S found 1 (run_steps messages queries steps slots) (marked S found marking steps marks) []
    steps_set [] slots marks w = w
    steps_set (step ∷ steps) slots marks w =
        let ps = marking step marks in
        let now : Awaits S found 1 slots marks (map (λ p. p.0) ps ++ bound steps) = record { follows = w.follows; lacks = w.lacks ∙ ap (λ bs. bs ++ bound steps) (sym (m.binds step marks)) } in
        let set = some_set ps (bound steps) slots marks now in
        let same : run_step messages queries step slots ≡ with_found S found ps slots = m.types step slots marks w.follows in
        steps_set steps (run_step messages queries step slots) (with_marks S found ps marks) (subst (λ z. Awaits S found 1 z (with_marks S found ps marks) (bound steps)) (sym same) set)

  -- declared types, taken to others, by what stands for them
  declared_follow : (put : Ty → Ty) (own : Ty → S) → ((ty : Ty) → found (own ty) ≡ Some (put ty)) → (slots : Slots) → Follows S found (map (option_map put) slots) (map (option_map own) slots)
  declared_follow put own is [] = tt
  declared_follow put own is (None ∷ slots) = (refl, declared_follow put own is slots)
  declared_follow put own is (Some ty ∷ slots) = (sym (is ty), declared_follow put own is slots)

  declared_lack : (own : Ty → S) (first : ℕ) (slots : Slots) → lacking first (map (option_map own) slots) ≡ lacking first slots
  declared_lack own first [] = refl
  declared_lack own first (None ∷ slots) = ap (λ z. first ∷ z) (declared_lack own (suc first) slots)
  declared_lack own first (Some ty ∷ slots) = declared_lack own (suc first) slots

  -- of a whole class that was resolved, once its declared types were taken to others
  pub class_follows : (messages : List MessageDecl) (c : ClassTree) (marking : Step → List (Option S) → List (ℕ × S)) → Marks S found marking messages (resolved_class c).queries → (put : Ty → Ty) (own : Ty → S) → ((ty : Ty) → found (own ty) ≡ Some (put ty))
      → Awaits S found 1 (filled_slots messages (put_slots put (resolved_class c))) (marked S found marking (class_steps (resolved_class c)) (map (option_map own) (resolved_class c).slots)) []
  class_follows messages c marking m put own is =
      let x = resolved_class c in
      let start = map (option_map own) x.slots in
      let begun : Awaits S found 1 (map (option_map put) x.slots) start (bound (class_steps x)) = record { follows = declared_follow put own is x.slots; lacks = declared_lack own 1 x.slots ∙ sym (class_binds c) } in
      subst (λ z. Awaits S found 1 z (marked S found marking (class_steps x) start) []) (sym (class_runs messages (put_slots put x)))
      (steps_set messages x.queries marking m (class_steps x) (map (option_map put) x.slots) start begun)

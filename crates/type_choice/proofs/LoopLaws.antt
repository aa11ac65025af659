-- All equations that are forced.
use Rattle.std.specs.Prelude.{◌≡◌, refl, ℕ, suc, ◌+◌, ◌-◌, ◌<◌, ◌≤◌, ◌⊎◌, Bool, true, false, List, [], ◌∷◌, length, replicate, Some, slice_get, slice_set}
use Rattle.std.proofs.Common.{inl, inr, ◌∙◌, ap, sym, subst, arith}
use Rattle.std.proofs.lemmas.Bool.{cases_eq}
use Rattle.std.proofs.lemmas.List.{length-set}
use Rattle.type_table.specs.declared.form.Form.{Form}
use Rattle.type_table.specs.Fits.{Meaning, Fits, IsTable}
use Rattle.type_table.specs.Solves.{Alike, Clashes}
use Rattle.type_table.specs.Settling.{is_marked, mark_in, marked}
use Rattle.type_table.proofs.TableLaws.{set_elsewhere, get_inside}
use Rattle.type_choice.specs.Choice.{AllAre, AreInside, is_added, is_recipient}
use Rattle.type_choice.specs.Marks.{Forcing, AreDone}
use Rattle.type_choice.specs.Roots.{HasBoth, Forces, IsEasy, IsTold, IsReady, set_of_proc}
use Rattle.type_choice.proofs.ListLaws.{all_at, some_same, there}
use Rattle.type_choice.proofs.MarkLaws.{length_of, none_set, marks_more, marks_most}

module _ (old : List Form) (adds receives : List ℕ) where
  pub forcing_begins : (marks : List Bool) → IsTable old → marks ≡ replicate (length receives) false → Forcing old adds receives old marks
  forcing_begins marks table is =
      record {
        forced = record { table = table; size = refl; gives = λ m fits. fits; keeps = λ m fits added received. fits };
        count = ap length is ∙ length_of (length receives) false;
        told = λ i k at on. absurd (none_set (length receives) i (ap (λ z. is_marked z i) (sym is) ∙ on));
      }

  module _ (now : List Form) (marks : List Bool) (so_far : Forcing old adds receives now marks) where
    pub both_still : (proc set : ℕ) → HasBoth old proc set → HasBoth now proc set
    both_still proc set both =
        record {
          proc_in = omega (arith, both.proc_in, so_far.forced.size);
          set_in = omega (arith, both.set_in, so_far.forced.size);
          is_proc = λ m fits. both.is_proc m (so_far.forced.gives m fits);
          is_set = λ m fits. both.is_set m (so_far.forced.gives m fits);
        }

    pub inside_still : (numbers : List ℕ) → AreInside (length old) numbers → AreInside (length now) numbers
    inside_still numbers inside = subst (λ n. AreInside n numbers) (sym so_far.forced.size) inside

    pub forcing_ends : AreDone now adds receives marks (length receives) → IsReady now adds receives
    forcing_ends done i k at =
        elim (done i k (get_inside receives i k at) at) [
          | inl on ↦ inl (so_far.told i k at on)
          | inr easy ↦ inr easy
        ]

    module _ (place k first second : ℕ) (at : slice_get receives place ≡ Some k) (forces : Forces now adds k first second) where
      pub forcing_fails : Clashes now ((first, second) ∷ []) → (m : Meaning) → Fits m old → AllAre is_added m adds → AllAre is_recipient m receives → ⊥
      forcing_fails clash m fits added received =
          let still = so_far.forced.keeps m fits added received in
          clash m still (forces.holds m still added (all_at (λ j. is_recipient (m j) ≡ true) receives place k received at), tt)

      module _ (new : List Form) (table : IsTable new) (size : length new ≡ length now) (alike : Alike now ((first, second) ∷ []) new []) where
        back : (m : Meaning) → Fits m new → Fits m now
        back m fits = (alike.gives m fits tt).0

        told_more : (i j : ℕ) → slice_get receives i ≡ Some j → is_marked (slice_set marks place true) i ≡ true → ((i ≡ place) ⊎ (i ≡ place → ⊥)) → IsTold new j
        told_more i j there on (inl here) m fits =
            let same : k ≡ j = some_same k (sym at ∙ ap (slice_get receives) (sym here) ∙ there) in
            subst (λ z. m z ≡ set_of_proc) same (forces.tells m (back m fits) (alike.gives m fits tt).1.0)
        told_more i j there on (inr off) m fits = so_far.told i j there (ap mark_in (sym (set_elsewhere marks i place true off)) ∙ on) m (back m fits)

        pub forcing_goes : Forcing old adds receives new (slice_set marks place true)
        forcing_goes =
            record {
              forced = record {
                table = table;
                size = size ∙ so_far.forced.size;
                gives = λ m fits. so_far.forced.gives m (back m fits);
                keeps = λ m fits added received.
                    let still = so_far.forced.keeps m fits added received in
                    (alike.keeps m still (forces.holds m still added (all_at (λ j. is_recipient (m j) ≡ true) receives place k received at), tt)).0;
              };
              count = length-set marks place true ∙ so_far.count;
              told = λ i j there on. told_more i j there on (cases_eq i place);
            }

-- a place that code found
module _ (now : List Form) (adds receives : List ℕ) (place first second : ℕ) (inside : place < length receives) (forces : (k : ℕ) → slice_get receives place ≡ Some k → Forces now adds k first second) where
  pub found_forces : (k : ℕ) × (slice_get receives place ≡ Some k) × Forces now adds k first second
  found_forces = let (k, at) = there receives place inside in (k, at, forces k at)

  pub found_inside : (first < length now) × (second < length now)
  found_inside = let (k, at, found) = found_forces in (found.first_in, found.second_in)

  module _ (old : List Form) (marks : List Bool) (so_far : Forcing old adds receives now marks) where
    pub found_fails : Clashes now ((first, second) ∷ []) → (m : Meaning) → Fits m old → AllAre is_added m adds → AllAre is_recipient m receives → ⊥
    found_fails = let (k, at, found) = found_forces in forcing_fails old adds receives now marks so_far place k first second at found

    pub found_goes : (new : List Form) → IsTable new → length new ≡ length now → Alike now ((first, second) ∷ []) new [] → Forcing old adds receives new (slice_set marks place true)
    found_goes = let (k, at, found) = found_forces in forcing_goes old adds receives now marks so_far place k first second at found

-- fewer are left
pub fewer : (receives : List ℕ) (marks : List Bool) (i : ℕ) → length marks ≡ length receives → slice_get marks i ≡ Some false → length receives - marked (slice_set marks i true) < length receives - marked marks
fewer receives marks i count unset =
    let one : marked (slice_set marks i true) ≡ suc (marked marks) = marks_more marks i unset in
    let most : marked (slice_set marks i true) ≤ length (slice_set marks i true) = marks_most (slice_set marks i true) in
    let size : length (slice_set marks i true) ≡ length marks = length-set marks i true in
    omega (arith, one, most, size, count)

-- the places one by one
module _ (forms : List Form) (adds receives : List ℕ) (marks : List Bool) where
  pub done_none : AreDone forms adds receives marks 0
  done_none i k few at = absurd (omega (arith, few))

  done_more : (place : ℕ) → AreDone forms adds receives marks place → ((k : ℕ) → slice_get receives place ≡ Some k → (is_marked marks place ≡ true) ⊎ IsEasy forms adds k) → AreDone forms adds receives marks (place + 1)
  done_more place done here i k few at = go (cases_eq i place)
    where
      go : ((i ≡ place) ⊎ (i ≡ place → ⊥)) → (is_marked marks i ≡ true) ⊎ IsEasy forms adds k
      go (inl e) = subst (λ z. (is_marked marks z ≡ true) ⊎ IsEasy forms adds k) (sym e) (here k (ap (slice_get receives) (sym e) ∙ at))
      go (inr off) = done i k (omega (arith, few, off)) at

  pub done_marked : (place : ℕ) → AreDone forms adds receives marks place → slice_get marks place ≡ Some true → AreDone forms adds receives marks (place + 1)
  done_marked place done on = done_more place done (λ k at. inl (ap mark_in on))

  pub done_easy : (place number : ℕ) → AreDone forms adds receives marks place → slice_get receives place ≡ Some number → IsEasy forms adds number → AreDone forms adds receives marks (place + 1)
  done_easy place number done there easy = done_more place done (λ k at. inr (subst (IsEasy forms adds) (some_same k (sym there ∙ at)) easy))

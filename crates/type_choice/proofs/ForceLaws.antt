-- Numbers that can only be sets of processes.
use Rattle.std.specs.Prelude.{◌≡◌, ℕ, ◌+◌, ◌<◌, ◌≤◌, ◌⊎◌, true, List, length, Option, Some, None, slice_get}
use Rattle.std.proofs.Common.{inl, inr, ◌∙◌, ap, sym, subst, arith}
use Rattle.std.proofs.lemmas.Bool.{cases_eq}
use Rattle.da_lang.specs.declared.ty.Ty.{Ty}
use Rattle.da_lang.specs.declared.ty.Ty.TheVariants as t
use Rattle.type_table.specs.declared.form.Form.{Form}
use Rattle.type_table.specs.declared.form.Form.TheVariants as f
use Rattle.type_table.specs.Fits.{Meaning, Fits, IsTable}
use Rattle.type_table.proofs.TableLaws.{get_inside}
use Rattle.type_choice.specs.Choice.{is_added, is_recipient}
use Rattle.type_choice.specs.Roots.{root_of, set_of_proc, HasBoth, Forces, IsApart}
use Rattle.type_choice.proofs.ListLaws.{all_at, some_same}
use Rattle.type_choice.proofs.TypeLaws.{recipient_cases, added_cases, set_no_proc, int_no_proc, set_same}
use Rattle.type_choice.proofs.EndLaws.{end_same}

abbrev first_or : ℕ → Option (ℕ × ℕ) → ℕ
first_or d None = d
first_or d (Some p) = p.0

abbrev second_or : ℕ → Option (ℕ × ℕ) → ℕ
second_or d None = d
second_or d (Some p) = p.1

module _ (forms : List Form) (adds : List ℕ) (proc set number : ℕ) (table : IsTable forms) (both : HasBoth forms proc set) (inside : number < length forms) where
  abbrev end : ℕ
  end = root_of forms number

  -- the form at the end is that of a set
  module _ (element : ℕ) (at : slice_get forms end ≡ Some (f.Set element)) where
    is_set : (m : Meaning) → Fits m forms → m number ≡ t.Set (m element)
    is_set m fits = end_same forms m fits number number ∙ fits end (f.Set element) at

    set_forces_one : Forces forms adds number element proc
    set_forces_one =
        record {
          first_in = table end (f.Set element) at;
          second_in = both.proc_in;
          holds = λ m fits added received. elim (recipient_cases (m number) received) [
            | inl e ↦ absurd (set_no_proc (m element) (sym (is_set m fits) ∙ e))
            | inr e ↦ set_same (m element) t.Proc (sym (is_set m fits) ∙ e) ∙ sym (both.is_proc m fits)
          ];
          tells = λ m fits same. is_set m fits ∙ ap t.Set (same ∙ both.is_proc m fits);
        }

  -- the number is the same as one that is added
  module _ (i k : ℕ) (at : slice_get adds i ≡ Some k) (meets : root_of forms k ≡ end) where
    same_added : (m : Meaning) → Fits m forms → m number ≡ m k
    same_added m fits = end_same forms m fits number number ∙ ap m (sym meets) ∙ sym (end_same forms m fits k k)

    only_set : (ty : Ty) → is_added ty ≡ true → is_recipient ty ≡ true → ty ≡ set_of_proc
    only_set ty added received =
        elim (recipient_cases ty received) [
          | inr e ↦ e
          | inl e ↦ elim (added_cases ty added) [
            | inl int ↦ absurd (int_no_proc (sym int ∙ e))
            | inr some ↦ absurd (set_no_proc some.0 (sym some.1 ∙ e))
          ]
        ]

    open_forces_one : Forces forms adds number number set
    open_forces_one =
        record {
          first_in = inside;
          second_in = both.set_in;
          holds = λ m fits added received. only_set (m number) (ap is_added (same_added m fits) ∙ all_at (λ j. is_added (m j) ≡ true) adds i k added at) received ∙ sym (both.is_set m fits);
          tells = λ m fits same. same ∙ both.is_set m fits;
        }

  forces_as : (a b first second : ℕ) → ◌≡◌ {A = Option (ℕ × ℕ)} (Some (a, b)) (Some (first, second)) → Forces forms adds number a b → Forces forms adds number first second
  forces_as a b first second e forces = subst (λ z. Forces forms adds number z second) (ap (first_or 0) e) (subst (λ z. Forces forms adds number a z) (ap (second_or 0) e) forces)

  -- as code finds them
  pub set_forces : (at element first second : ℕ) (x : Form) → at ≡ end → slice_get forms at ≡ Some x → x ≡ f.Set element → ◌≡◌ {A = Option (ℕ × ℕ)} (Some (element, proc)) (Some (first, second)) → Forces forms adds number first second
  set_forces at element first second x at_is read is e =
      forces_as element proc first second e (set_forces_one element (ap (slice_get forms) (sym at_is) ∙ read ∙ ap (λ z. Some z) is))

  pub open_forces : (at i k first second : ℕ) → at ≡ end → slice_get adds i ≡ Some k → root_of forms k ≡ at → ◌≡◌ {A = Option (ℕ × ℕ)} (Some (number, set)) (Some (first, second)) → Forces forms adds number first second
  open_forces at i k first second at_is there meets e = forces_as number set first second e (open_forces_one i k there (meets ∙ at_is))

-- numbers one by one
pub apart_more : (forms : List Form) (numbers : List ℕ) (end i number : ℕ) → ((j k : ℕ) → j < i → slice_get numbers j ≡ Some k → root_of forms k ≡ end → ⊥) → slice_get numbers i ≡ Some number → (root_of forms number ≡ end → ⊥) → (j k : ℕ) → j < i + 1 → slice_get numbers j ≡ Some k → root_of forms k ≡ end → ⊥
apart_more forms numbers end i number before at off j k few there meets = go (cases_eq j i)
  where
    go : ((j ≡ i) ⊎ (j ≡ i → ⊥)) → ⊥
    go (inr other) = before j k (omega (arith, few, other)) there meets
    go (inl here) = off (ap (root_of forms) (some_same number (sym at ∙ ap (slice_get numbers) (sym here) ∙ there)) ∙ meets)

pub apart_all : (forms : List Form) (numbers : List ℕ) (end i : ℕ) → ((j k : ℕ) → j < i → slice_get numbers j ≡ Some k → root_of forms k ≡ end → ⊥) → length numbers ≤ i → IsApart forms numbers end
apart_all forms numbers end i before past j k there = before j k (omega (arith, past, get_inside numbers j k there)) there

-- Open numbers become processes, one by one.
use Rattle.std.specs.Prelude.{◌≡◌, refl, ℕ, ◌+◌, ◌<◌, ◌⊎◌, List, length, Some, slice_get, slice_set}
use Rattle.std.proofs.Common.{inl, inr, ◌∙◌, ap, sym, subst, arith}
use Rattle.std.proofs.lemmas.Bool.{cases_eq}
use Rattle.std.proofs.lemmas.List.{length-set}
use Rattle.type_table.specs.declared.form.Form.{Form}
use Rattle.type_table.specs.declared.form.Form.TheVariants as f
use Rattle.type_table.specs.Fits.{Meaning, Fits, HasForm, IsTable, IsWithin}
use Rattle.type_table.proofs.TableLaws.{set_there, set_elsewhere, get_inside, some_form}
use Rattle.type_choice.specs.Marks.{FilledAt, Filled}
use Rattle.type_choice.proofs.ListLaws.{some_same}

module _ (old : List Form) (numbers : List ℕ) where
  pub filled_none : Filled old numbers 0 old
  filled_none =
      record {
        size = refl;
        each = λ k. inl refl;
        done = λ i k few at unset. absurd (omega (arith, few));
      }

  module _ (now : List Form) (i number : ℕ) (so_far : Filled old numbers i now) (at : slice_get numbers i ≡ Some number) where
    -- something is told of it already
    pub filled_past : (slice_get now number ≡ Some f.Open → ⊥) → Filled old numbers (i + 1) now
    filled_past told =
        record {
          size = so_far.size;
          each = so_far.each;
          done = λ j k few there unset. go j k few there unset (cases_eq j i) (so_far.each k);
        }
      where
        go : (j k : ℕ) → j < i + 1 → slice_get numbers j ≡ Some k → slice_get old k ≡ Some f.Open → ((j ≡ i) ⊎ (j ≡ i → ⊥)) → ((slice_get now k ≡ slice_get old k) ⊎ FilledAt old numbers now k) → slice_get now k ≡ Some f.Proc
        go j k few there unset (inr off) which = so_far.done j k (omega (arith, few, off)) there unset
        go j k few there unset (inl here) (inr filled) = filled.after
        go j k few there unset (inl here) (inl same) =
            let is : number ≡ k = some_same number (sym at ∙ ap (slice_get numbers) (sym here) ∙ there) in
            absurd (told (ap (slice_get now) is ∙ same ∙ unset))

    -- it becomes a process
    pub filled_more : slice_get now number ≡ Some f.Open → Filled old numbers (i + 1) (slice_set now number f.Proc)
    filled_more unset =
        record {
          size = length-set now number f.Proc ∙ so_far.size;
          each = λ k. each k (cases_eq k number) (so_far.each k);
          done = λ j k few there was. done j k few there was (cases_eq k number) (cases_eq j i);
        }
      where
        inside : number < length now
        inside = get_inside now number f.Open unset

        set_here : (k : ℕ) → k ≡ number → slice_get (slice_set now number f.Proc) k ≡ Some f.Proc
        set_here k e = ap (slice_get (slice_set now number f.Proc)) e ∙ set_there now number f.Proc inside

        each : (k : ℕ) → ((k ≡ number) ⊎ (k ≡ number → ⊥)) → ((slice_get now k ≡ slice_get old k) ⊎ FilledAt old numbers now k) → (slice_get (slice_set now number f.Proc) k ≡ slice_get old k) ⊎ FilledAt old numbers (slice_set now number f.Proc) k
        each k (inr off) (inl same) = inl (set_elsewhere now k number f.Proc off ∙ same)
        each k (inr off) (inr filled) = inr (record { before = filled.before; after = set_elsewhere now k number f.Proc off ∙ filled.after; place = filled.place; is = filled.is })
        each k (inl here) (inl same) = inr (record { before = sym same ∙ ap (slice_get now) here ∙ unset; after = set_here k here; place = i; is = at ∙ ap (λ z. Some z) (sym here) })
        each k (inl here) (inr filled) = inr (record { before = filled.before; after = set_here k here; place = filled.place; is = filled.is })

        done : (j k : ℕ) → j < i + 1 → slice_get numbers j ≡ Some k → slice_get old k ≡ Some f.Open → ((k ≡ number) ⊎ (k ≡ number → ⊥)) → ((j ≡ i) ⊎ (j ≡ i → ⊥)) → slice_get (slice_set now number f.Proc) k ≡ Some f.Proc
        done j k few there was (inl here) which = set_here k here
        done j k few there was (inr off) (inl here) = absurd (off (some_same k (sym there ∙ ap (slice_get numbers) here ∙ at)))
        done j k few there was (inr off) (inr before) = set_elsewhere now k number f.Proc off ∙ so_far.done j k (omega (arith, few, before)) there was

module _ (old : List Form) (numbers : List ℕ) (count : ℕ) (new : List Form) (filled : Filled old numbers count new) where
  -- what fits the new table fits the old one
  pub filled_back : (m : Meaning) → Fits m new → Fits m old
  filled_back m fits k x e = go (filled.each k)
    where
      go : ((slice_get new k ≡ slice_get old k) ⊎ FilledAt old numbers new k) → HasForm m x (m k)
      go (inl same) = fits k x (same ∙ e)
      go (inr at) = subst (λ z. HasForm m z (m k)) (some_form (sym at.before ∙ e)) tt

  pub filled_table : IsTable old → IsTable new
  filled_table table k x e = subst (λ n. IsWithin n k x) (sym filled.size) (go (filled.each k))
    where
      go : ((slice_get new k ≡ slice_get old k) ⊎ FilledAt old numbers new k) → IsWithin (length old) k x
      go (inl same) = table k x (sym same ∙ e)
      go (inr at) = subst (λ z. IsWithin (length old) k z) (some_form (sym at.after ∙ e)) tt

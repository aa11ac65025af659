-- A number for processes, and one for sets of processes, at the end of a table.
use Rattle.std.specs.Prelude.{◌≡◌, ℕ, suc, ◌<◌, ◌≤◌, Bool, true, List, [], ◌∷◌, ◌++◌, length}
use Rattle.std.proofs.Common.{◌∙◌, ap, sym, arith}
use Rattle.std.proofs.lemmas.List.{length_push}
use Rattle.da_lang.specs.declared.ty.Ty.{Ty}
use Rattle.da_lang.specs.declared.ty.Ty.TheVariants as t
use Rattle.type_table.specs.declared.form.Form.{Form}
use Rattle.type_table.specs.declared.form.Form.TheVariants as f
use Rattle.type_table.specs.Fits.{Meaning, Fits, IsTable}
use Rattle.type_table.proofs.AgreeLaws.{put, put_there, put_elsewhere, agree_put, agree_fits, fits_push, fits_last, fits_front, table_push}
use Rattle.type_choice.specs.Choice.{AllAre, AreInside}
use Rattle.type_choice.specs.Roots.{HasBoth, set_of_proc}
use Rattle.type_choice.proofs.ListLaws.{all_at, all_from}

module _ (old : List Form) where
  abbrev pub with_proc : List Form
  with_proc = old ++ f.Proc ∷ []

  abbrev pub with_both : List Form
  with_both = with_proc ++ f.Set (length old) ∷ []

  one_more : length with_proc ≡ suc (length old)
  one_more = omega (arith, length_push old f.Proc)

  two_more : length with_both ≡ suc (length with_proc)
  two_more = omega (arith, length_push with_proc (f.Set (length old)))

  pub longer : length old ≤ length with_both
  longer = omega (arith, one_more, two_more)

  -- the types of both numbers besides
  abbrev pub extended : Meaning → Meaning
  extended m = put (put m (length old) t.Proc) (length with_proc) set_of_proc

  pub extended_same : (m : Meaning) (k : ℕ) → k < length old → extended m k ≡ m k
  extended_same m k inside =
      put_elsewhere (put m (length old) t.Proc) (length with_proc) k set_of_proc (λ e. omega (arith, e, inside, one_more)) ∙ put_elsewhere m (length old) k t.Proc (λ e. omega (arith, e, inside))

  pub extended_all : (test : Ty → Bool) (m : Meaning) (numbers : List ℕ) → AreInside (length old) numbers → AllAre test m numbers → AllAre test (extended m) numbers
  extended_all test m numbers inside all =
      all_from (λ k. test (extended m k) ≡ true) numbers (λ i k at. ap test (extended_same m k (all_at (λ j. j < length old) numbers i k inside at)) ∙ all_at (λ j. test (m j) ≡ true) numbers i k all at)

  pub base_back : (m : Meaning) → Fits m with_both → Fits m old
  base_back m fits = fits_front old (f.Proc ∷ []) m (fits_front with_proc (f.Set (length old) ∷ []) m fits)

  proc_type : (m : Meaning) → Fits m with_both → m (length old) ≡ t.Proc
  proc_type m fits = fits_last old f.Proc m (fits_front with_proc (f.Set (length old) ∷ []) m fits)

  pub has_both : HasBoth with_both (length old) (length with_proc)
  has_both =
      record {
        proc_in = omega (arith, one_more, two_more);
        set_in = omega (arith, two_more);
        is_proc = proc_type;
        is_set = λ m fits. fits_last with_proc (f.Set (length old)) m fits ∙ ap t.Set (proc_type m fits);
      }

  pub inside_more : (numbers : List ℕ) → AreInside (length old) numbers → AreInside (length with_both) numbers
  inside_more numbers inside = all_from (λ k. k < length with_both) numbers (λ i k at. omega (arith, longer, all_at (λ j. j < length old) numbers i k inside at))

  module _ (table : IsTable old) where
    proc_table : IsTable with_proc
    proc_table = table_push old f.Proc table tt

    pub both_table : IsTable with_both
    both_table = table_push with_proc (f.Set (length old)) proc_table (omega (arith, one_more))

    pub extended_fits : (m : Meaning) → Fits m old → Fits (extended m) with_both
    extended_fits m fits =
        let first = put m (length old) t.Proc in
        let with_first : Fits first with_proc = fits_push old f.Proc first (agree_fits old m first table (agree_put (length old) m (length old) t.Proc (omega arith)) fits) (put_there m (length old) t.Proc) in
        let proc_is : extended m (length old) ≡ t.Proc = put_elsewhere first (length with_proc) (length old) set_of_proc (λ e. omega (arith, e, one_more)) ∙ put_there m (length old) t.Proc in
        fits_push with_proc (f.Set (length old)) (extended m) (agree_fits with_proc first (extended m) proc_table (agree_put (length with_proc) first (length with_proc) set_of_proc (omega arith)) with_first)
        (put_there first (length with_proc) set_of_proc ∙ ap t.Set (sym proc_is))

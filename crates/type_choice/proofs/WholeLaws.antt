-- The steps of the choice, as code finds them.
use Rattle.std.specs.Prelude.{◌≡◌, refl, ℕ, ◌≤◌, Bool, true, false, List, [], ◌∷◌, ◌++◌, map, length}
use Rattle.std.specs.List.{list_all}
use Rattle.std.proofs.Common.{◌∙◌, ap, sym, subst, arith}
use Rattle.type_table.specs.declared.form.Form.{Form}
use Rattle.type_table.specs.declared.form.Form.TheVariants as f
use Rattle.type_table.specs.Fits.{Meaning, Fits, IsTable}
use Rattle.type_table.specs.Values.{types_of}
use Rattle.type_choice.specs.Choice.{AllAre, AreInside, Meets, Chosen, is_added, is_recipient}
use Rattle.type_choice.specs.Marks.{Filled}
use Rattle.type_choice.specs.Roots.{HasBoth, Forced, IsReady, root_of, passes, may_add, may_receive}
use Rattle.type_choice.proofs.StartLaws.{with_proc, with_both, longer, extended, extended_all, extended_fits, has_both, inside_more, both_table}
use Rattle.type_choice.proofs.FillLaws.{filled_table}
use Rattle.type_choice.proofs.ChoiceLaws.{add_fails, receive_fails, circle_fails, chosen}

-- two forms were added
pub record Based (old base : List Form) (proc set : ℕ) : Type 0 where
  pub is : base ≡ with_both old
  pub proc_is : proc ≡ length old
  pub set_is : set ≡ length (with_proc old)

pub based : (old mid base : List Form) (proc set : ℕ) → proc ≡ length old → mid ≡ old ++ f.Proc ∷ [] → set ≡ length mid → base ≡ mid ++ f.Set proc ∷ [] → Based old base proc set
based old mid base proc set proc_is mid_is set_is base_is =
    record {
      is = base_is ∙ ap (λ z. z ++ f.Set proc ∷ []) mid_is ∙ ap (λ k. with_proc old ++ f.Set k ∷ []) proc_is;
      proc_is = proc_is;
      set_is = set_is ∙ ap length mid_is;
    }

module _ (old base : List Form) (proc set : ℕ) (adds receives : List ℕ) (table : IsTable old) (adds_in : AreInside (length old) adds) (receives_in : AreInside (length old) receives) (start : Based old base proc set) where
  pub base_table : IsTable base
  base_table = subst IsTable (sym start.is) (both_table old table)

  pub base_both : HasBoth base proc set
  base_both =
      subst (λ z. HasBoth z proc set) (sym start.is)
      (subst (λ k. HasBoth (with_both old) k set) (sym start.proc_is) (subst (λ k. HasBoth (with_both old) (length old) k) (sym start.set_is) (has_both old)))

  pub base_inside : (numbers : List ℕ) → AreInside (length old) numbers → AreInside (length base) numbers
  base_inside numbers inside = subst (λ z. AreInside (length z) numbers) (sym start.is) (inside_more old numbers inside)

  pub base_longer : length old ≤ length base
  base_longer = let e : length base ≡ length (with_both old) = ap length start.is in omega (arith, e, longer old)

  pub base_fails : ((m : Meaning) → Fits m base → AllAre is_added m adds → AllAre is_recipient m receives → ⊥) → (m : Meaning) → Meets old adds receives m → ⊥
  base_fails none m meets =
      none (extended old m) (subst (Fits (extended old m)) (sym start.is) (extended_fits old table m meets.fits)) (extended_all old is_added m adds adds_in meets.added) (extended_all old is_recipient m receives receives_in meets.received)

  module _ (now : List Form) (forced : Forced base adds receives now) where
    abbrev forced_both : Forced (with_both old) adds receives now
    forced_both = subst (λ z. Forced z adds receives now) start.is forced

    pub now_longer : length old ≤ length now
    now_longer = omega (arith, base_longer, forced.size)

    pub now_inside : (numbers : List ℕ) → AreInside (length old) numbers → AreInside (length now) numbers
    now_inside numbers inside = subst (λ n. AreInside n numbers) (sym forced.size) (base_inside numbers inside)

    pub adding_fails : (answer : Bool) → answer ≡ list_all (passes may_add now) adds → answer ≡ false → (m : Meaning) → Meets old adds receives m → ⊥
    adding_fails answer is fails = add_fails old adds receives table adds_in receives_in now forced_both now_longer (sym is ∙ fails)

    pub receiving_fails : (answer : Bool) → answer ≡ list_all (passes may_receive now) receives → answer ≡ false → (m : Meaning) → Meets old adds receives m → ⊥
    receiving_fails answer is fails = receive_fails old adds receives table adds_in receives_in now forced_both now_longer (sym is ∙ fails)

    module _ (ends numbers : List ℕ) (ends_are : ends ≡ map (root_of now) receives) (numbers_are : numbers ≡ ends) (new : List Form) (filled : Filled now numbers (length numbers) new) where
      filled_ends : Filled now (map (root_of now) receives) (length (map (root_of now) receives)) new
      filled_ends = subst (λ z. Filled now z (length z) new) (numbers_are ∙ ends_are) filled

      pub whole_table : IsTable new
      whole_table = filled_table now numbers (length numbers) new filled forced.table

      pub whole_longer : length old ≤ length new
      whole_longer = omega (arith, now_longer, filled.size)

      pub whole_fails : ((m : Meaning) → Fits m new → ⊥) → (m : Meaning) → Meets old adds receives m → ⊥
      whole_fails none = circle_fails old adds receives table adds_in receives_in now forced_both now_longer (length (map (root_of now) receives)) new filled_ends none

      pub whole_chosen : IsReady now adds receives → (added received : Bool) → added ≡ list_all (passes may_add now) adds → added ≡ true → received ≡ list_all (passes may_receive now) receives → received ≡ true → Fits (types_of new) new → Chosen old adds receives (types_of new)
      whole_chosen ready added received added_is adds_all received_is receives_all fits =
          chosen old adds receives table adds_in receives_in now forced_both now_longer (length (map (root_of now) receives)) new filled_ends refl ready (sym added_is ∙ adds_all) (sym received_is ∙ receives_all) fits

-- The types that a table gives are lean beside whatever fits the table before it was filled.
use Rattle.std.specs.Prelude.{◌≡◌, refl, ℕ, zero, suc, ◌⊎◌, List, [], ◌∷◌, map, Option, Some, None, slice_get}
use Rattle.std.proofs.Common.{inl, inr, ◌∙◌, sym, subst}
use Rattle.da_lang.specs.declared.ty.Ty.{Ty}
use Rattle.da_lang.specs.declared.ty.Ty.TheVariants as t
use Rattle.type_table.specs.declared.form.Form.{Form}
use Rattle.type_table.specs.declared.form.Form.TheVariants as f
use Rattle.type_table.specs.Fits.{Meaning, HasForm, Fits}
use Rattle.type_table.specs.Values.{built, built_at, types_in}
use Rattle.type_choice.specs.Lean.{IsLean, AreLean}
use Rattle.type_choice.specs.Marks.{FilledAt}
use Rattle.type_choice.proofs.TypeLaws.{int_no_proc}

module _ (v m : Meaning) (lean : (k : ℕ) → IsLean (v k) (m k)) where
  parts_lean : (ks : List ℕ) → AreLean (map v ks) (map m ks)
  parts_lean [] = AreLean.none
  parts_lean (k ∷ ks) = AreLean.more (v k) (m k) (map v ks) (map m ks) (lean k) (parts_lean ks)

  -- a form is built of lean types
  built_lean : (x : Form) (ty : Ty) → HasForm m x ty → IsLean (built v x) ty
  built_lean f.Open ty has = IsLean.int ty
  built_lean (f.Same k) ty has = subst (IsLean (v k)) (sym has) (lean k)
  built_lean f.Int ty has = IsLean.int ty
  built_lean f.Bool ty has = subst (IsLean t.Bool) (sym has) IsLean.truth
  built_lean f.Text ty has = subst (IsLean t.Text) (sym has) IsLean.text
  built_lean f.Proc ty has = IsLean.proc ty (λ is. int_no_proc (sym is ∙ has))
  built_lean (f.Tuple ks) ty has = subst (IsLean (t.Tuple (map v ks))) (sym has) (IsLean.tuple (map v ks) (map m ks) (parts_lean ks))
  built_lean (f.Set k) ty has = subst (IsLean (t.Set (v k))) (sym has) (IsLean.set (v k) (m k) (lean k))

module _ (old : List Form) (numbers : List ℕ) (new : List Form) (each : (k : ℕ) → (slice_get new k ≡ slice_get old k) ⊎ FilledAt old numbers new k) (m : Meaning) (fits : Fits m old) (no_int : (k : ℕ) → FilledAt old numbers new k → m k ≡ t.Int → ⊥) where
  pub round_lean : (rounds k : ℕ) → IsLean (types_in new rounds k) (m k)
  round_lean zero k = IsLean.int (m k)
  round_lean (suc rounds) k = go (round_lean rounds) (each k)
    where
      from : ((j : ℕ) → IsLean (types_in new rounds j) (m j)) → (o : Option Form) → slice_get old k ≡ o → IsLean (built_at (types_in new rounds) o) (m k)
      from lean None e = IsLean.int (m k)
      from lean (Some x) e = built_lean (types_in new rounds) m lean x (m k) (fits k x e)

      go : ((j : ℕ) → IsLean (types_in new rounds j) (m j)) → ((slice_get new k ≡ slice_get old k) ⊎ FilledAt old numbers new k) → IsLean (built_at (types_in new rounds) (slice_get new k)) (m k)
      go lean (inl same) = subst (λ o. IsLean (built_at (types_in new rounds) o) (m k)) (sym same) (from lean (slice_get old k) refl)
      go lean (inr filled) = subst (λ o. IsLean (built_at (types_in new rounds) o) (m k)) (sym filled.after) (IsLean.proc (m k) (no_int k filled))

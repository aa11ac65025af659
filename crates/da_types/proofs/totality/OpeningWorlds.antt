-- Each process begins in a shaped world, so there is one for each process of each typed program.
use Rattle.std.specs.Prelude.{◌≡◌, refl, ℕ, zero, suc, pos, ◌<◌, ◌≤◌, ◌^◌, true, false, nat_lt, nat_le, List, [], ◌∷◌, map, length, Option, Some, slice_get}
use Rattle.std.specs.List.{AllByRecursion, list_all}
use Rattle.std.proofs.Common.{◌∙◌, ap, sym, subst, arith}
use Rattle.std.proofs.lemmas.Bool.{and_from, lt-ltb, le-leb}
use Rattle.da_values.specs.declared.val.Val.{Val}
use Rattle.da_values.specs.declared.value.Value.TheVariants as kept
use Rattle.da_values.specs.Narrow.{is_narrow}
use Rattle.da_values.proofs.FoldsAt.{is_narrow_of}
use Rattle.da_lang.specs.declared.program.Class.{Class}
use Rattle.da_lang.specs.declared.program.Program.{Program}
use Rattle.da_lang.specs.declared.ty.Ty.{Ty}
use Rattle.da_lang.specs.declared.ty.Ty.TheVariants as t
use Rattle.da_lang.specs.QueryTypes.{given, type_at}
use Rattle.da_lang.specs.Shaped.{Shaped, ShapedData, IsOf, IsProcess, has_processes}
use Rattle.da_lang.specs.Types.{is_of, all_of}
use Rattle.da_lang.specs.Typing.{IsTyped}
use Rattle.da_lang.specs.World.{opening, opening_data, opening_slots, class_of, default, first_value, or_nothing, slots_of_class, value_in}
use Rattle.da_lang.proofs.WorldLaws.{default-Int, default-Bool, default-Text, default-Proc, default-Tuple, default-Set, default_is_value, ty_induction}
use Rattle.da_lang.proofs.typing.ShapedAt.{has_processes-Int, has_processes-Bool, has_processes-Text, has_processes-Proc, has_processes-Tuple, has_processes-Set}
use Rattle.da_types.specs.Totality.{AllHaveValues}
use Rattle.da_types.proofs.totality.HaveValues.{nothing_is_missing}
use Rattle.da_types.proofs.totality.KindLaws.{is_int_value, is_bool_value, is_text_value, is_proc_value, is_tuple_value, is_set_value}

-- the default of a type is of the type, and its integers and processes are in range
abbrev Fit : ℕ → ℕ → Ty → Type 0
Fit most me ty = (is_of ty (default me ty) ≡ true) × (is_narrow (default me ty) ≡ true) × (has_processes most (default me ty) ≡ true)

abbrev FitValue : ℕ → Ty → Val → Type 0
FitValue most ty v = (is_of ty v ≡ true) × (is_narrow v ≡ true) × (has_processes most v ≡ true)

module _ (most me : ℕ) where
  parts_typed : (types : List Ty) → AllByRecursion (Fit most me) types → all_of (map is_of types) (map (default me) types) ≡ true
  parts_typed [] each = refl
  parts_typed (ty ∷ types) each = and_from (is_of ty (default me ty)) (all_of (map is_of types) (map (default me) types)) each.0.0 (parts_typed types each.1)

  parts_narrow : (types : List Ty) → AllByRecursion (Fit most me) types → list_all is_narrow (map (default me) types) ≡ true
  parts_narrow [] each = refl
  parts_narrow (ty ∷ types) each = and_from (is_narrow (default me ty)) (list_all is_narrow (map (default me) types)) each.0.1 (parts_narrow types each.1)

  parts_there : (types : List Ty) → AllByRecursion (Fit most me) types → list_all (λ part. part) (map (has_processes most) (map (default me) types)) ≡ true
  parts_there [] each = refl
  parts_there (ty ∷ types) each = and_from (has_processes most (default me ty)) (list_all (λ part. part) (map (has_processes most) (map (default me) types))) each.0.2 (parts_there types each.1)

  tuple_fits : (types : List Ty) → AllByRecursion (Fit most me) types → Fit most me (t.Tuple types)
  tuple_fits types each =
      let vs = map (default me) types in
      subst (FitValue most (t.Tuple types)) (sym (default-Tuple me types))
      (is_tuple_value types vs (parts_typed types each), is_narrow_of (kept.Tuple vs) ∙ parts_narrow types each, has_processes-Tuple most vs ∙ parts_there types each)

  default_fits : 0 < me → me ≤ most → (ty : Ty) → Fit most me ty
  default_fits some inside =
      ty_induction (Fit most me)
      (subst (FitValue most t.Int) (sym (default-Int me)) (is_int_value (pos 0), is_narrow_of (kept.Int (pos 0)), has_processes-Int most (pos 0)))
      (subst (FitValue most t.Bool) (sym (default-Bool me)) (is_bool_value false, is_narrow_of (kept.Bool false), has_processes-Bool most false))
      (subst (FitValue most t.Text) (sym (default-Text me)) (is_text_value [], is_narrow_of (kept.Text []), has_processes-Text most []))
      (subst (FitValue most t.Proc) (sym (default-Proc me)) (is_proc_value me, is_narrow_of (kept.Proc me), has_processes-Proc most me ∙ and_from (nat_lt 0 me) (nat_le me most) (lt-ltb 0 me some) (le-leb me most inside)))
      tuple_fits
      (λ element one. subst (FitValue most (t.Set element)) (sym (default-Set me element)) (is_set_value element [] refl, is_narrow_of (kept.Set []), has_processes-Set most []))

-- the slots of a process at the beginning
first_at : (me : ℕ) (slots : List (Option Ty)) (k : ℕ) (ty : Ty) → given (slice_get slots k) (λ found. found) ≡ Some ty → or_nothing (slice_get (map (first_value me) slots) k) ≡ default me ty
first_at me [] k ty e = absurd (cc)
first_at me (x ∷ slots) zero ty e = ap (first_value me) e
first_at me (x ∷ slots) (suc k) ty e = first_at me slots k ty e

first_in : (me : ℕ) (slots : List (Option Ty)) (slot : ℕ) (ty : Ty) → type_at slots slot ≡ Some ty → value_in (map (first_value me) slots) slot ≡ default me ty
first_in me slots zero ty e = absurd (cc)
first_in me slots (suc k) ty e = first_at me slots k ty e

as_long : {A B : Type 0} (f : A → B) (xs : List A) → length (map f xs) ≡ length xs
as_long f [] = refl
as_long f (x ∷ xs) = ap suc (as_long f xs)

module _ (p : Program) (me : ℕ) (c : Class) (few : length p.procs < 2 ^ 16) (is : IsProcess p me) (known : class_of p me ≡ Some c) where
  slots_are : opening_slots p me ≡ map (first_value me) c.slots
  slots_are = ap (λ z. map (first_value me) (slots_of_class z)) known

  default_is : (ty : Ty) → IsOf p ty (default me ty)
  default_is ty =
      let fit = default_fits (length p.procs) me is.0 is.1 ty in
      record { proper = default_is_value me is.0 (omega (arith, is.1, few)) ty; narrow = fit.1; typed = fit.0; processes = fit.2 }

  opening_known : ShapedData p c (opening_data p me)
  opening_known = record {
    me = is;
    is_class = known;
    size = ap length slots_are ∙ as_long (first_value me) c.slots;
    slots = λ slot ty e. subst (IsOf p ty) (sym (ap (λ z. value_in z slot) slots_are ∙ first_in me c.slots slot ty e)) (default_is ty);
    sent = λ k x inside. absurd (omega (arith, inside));
    received = λ k x inside. absurd (omega (arith, inside));
    clock = omega arith;
  }

  pub opening_shaped : Shaped p (opening p me)
  opening_shaped = record { class = c; knows = opening_known; todo = λ k x inside. absurd (omega (arith, inside)) }

  -- so all have values at the beginning
  pub begins_with_values : IsTyped p → AllHaveValues p c (opening_data p me)
  begins_with_values typed = nothing_is_missing p typed c (opening_data p me) opening_known

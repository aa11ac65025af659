-- Values of a type that are whole: proper, with integers of 64 bits and processes that are there. What they are made of, and
-- what is made of them.
use Rattle.std.specs.Prelude.{◌≡◌, refl, ℕ, ℤ, ◌<◌, ◌^◌, nat_lt, nat_le, Bool, true, List, [], ◌∷◌, length, Ok, Err}
use Rattle.std.specs.List.{All}
use Rattle.std.proofs.Common.{◌∙◌, ap, sym, subst, inl, inr, arith}
use Rattle.std.proofs.lemmas.Bool.{and_parts, and_from, ltb-true, leb-true, lt-ltb, le-leb}
use Rattle.std.proofs.lemmas.List.Elements.{All-nil, All-cons}
use Rattle.da_values.specs.declared.val.Val.{Val, out-Val}
use Rattle.da_values.specs.declared.val.Val.TheVariants as val
use Rattle.da_values.specs.declared.value.Value.TheVariants as kept
use Rattle.da_values.specs.Narrow.{is_i64, is_narrow}
use Rattle.da_values.specs.Order.{val_cmp}
use Rattle.da_values.specs.Proper.{IsValue}
use Rattle.da_values.specs.Sets.{Has, Ascends}
use Rattle.da_values.proofs.FoldsAt.{is_narrow_of}
use Rattle.da_values.proofs.Members.{each_from_all, all_from_each}
use Rattle.da_values.proofs.ReadLaws.{IsProper, proper_of}
use Rattle.da_lang.specs.declared.program.Program.{Program}
use Rattle.da_lang.specs.declared.ty.Ty.{Ty}
use Rattle.da_lang.specs.declared.ty.Ty.TheVariants as t
use Rattle.da_lang.specs.Arithmetic.{Outcome}
use Rattle.da_lang.specs.Evaluation.{Outcomes}
use Rattle.da_lang.specs.Matching.{Row}
use Rattle.da_lang.specs.Shaped.{IsOf, IsProcess}
use Rattle.da_lang.specs.Types.{is_of}
use Rattle.da_lang.proofs.typing.ShapedAt.{has_processes-Int, has_processes-Bool, has_processes-Proc}
use Rattle.da_types.proofs.shaped.Integers.{fits_wide}
use Rattle.da_types.proofs.totality.Keeping.{Fits, RowFits, row_types, row_kept}
use Rattle.da_types.proofs.totality.KindLaws.{int_of_type, set_of_type, is_int_value, is_bool_value, is_proc_value, is_tuple_value, is_set_value}
use Rattle.da_types.proofs.totality.WholeValues.{whole, Whole, tuple_whole, set_whole, elements_whole}

module _ (p : Program) where
  -- a whole value of a type
  abbrev pub WholeOf : Ty → Val → Type 0
  WholeOf ty v = Fits (whole p) ty v

  -- whole values of these types, part by part
  abbrev pub WholeRow : List Ty → Row → Type 0
  WholeRow types row = RowFits (whole p) types row

  -- whole values of one type
  abbrev pub WholeEach : Ty → List Val → Type 0
  WholeEach ty vs = (v : Val) → Has vs v → WholeOf ty v

  -- what an expression of this type may give
  abbrev pub Gives : Ty → Outcome → Type 0
  Gives ty (Err kind) = Unit {0}
  Gives ty (Ok v) = WholeOf ty v

  abbrev pub GivesRow : List Ty → Outcomes → Type 0
  GivesRow types (Err kind) = Unit {0}
  GivesRow types (Ok vs) = WholeRow types vs

  abbrev pub GivesEach : Ty → Outcomes → Type 0
  GivesEach ty (Err kind) = Unit {0}
  GivesEach ty (Ok vs) = WholeEach ty vs

  -- the same in the words of worlds
  pub as_is_of : (ty : Ty) (v : Val) → WholeOf ty v → IsOf p ty v
  as_is_of ty v one = record { proper = one.1.0; narrow = one.1.1; typed = one.0; processes = one.1.2 }

  pub from_is_of : (ty : Ty) (v : Val) → IsOf p ty v → WholeOf ty v
  from_is_of ty v one = (one.typed, (one.proper, one.narrow, one.processes))

  pub all_are_of : (ty : Ty) (vs : List Val) → WholeEach ty vs → All (IsOf p ty) vs
  all_are_of ty [] each = All-nil (IsOf p ty)
  all_are_of ty (v ∷ vs) each = All-cons (IsOf p ty) v vs (as_is_of ty v (each v (inl refl))) (all_are_of ty vs (λ u h. each u (inr h)))

  pub int_whole : (z : ℤ) → is_i64 z ≡ true → WholeOf t.Int (val.Int z)
  int_whole z small = (is_int_value z, (IsValue.integer z (fits_wide z small), is_narrow_of (kept.Int z) ∙ small, has_processes-Int (length p.procs) z))

  pub truth_whole : (b : Bool) → WholeOf t.Bool (val.Bool b)
  truth_whole b = (is_bool_value b, (IsValue.truth b, is_narrow_of (kept.Bool b), has_processes-Bool (length p.procs) b))

  pub process_whole_of : length p.procs < 2 ^ 16 → (process : ℕ) → IsProcess p process → WholeOf t.Proc (val.Proc process)
  process_whole_of few process (some, inside) =
      let there = has_processes-Proc (length p.procs) process ∙ and_from (nat_lt 0 process) (nat_le process (length p.procs)) (lt-ltb 0 process some) (le-leb process (length p.procs) inside) in
      (is_proc_value process, (IsValue.process process some (omega (arith, inside, few)), is_narrow_of (kept.Proc process), there))

  pub tuple_whole_of : (types : List Ty) (vs : List Val) → WholeRow types vs → WholeOf (t.Tuple types) (val.Tuple vs)
  tuple_whole_of types vs row = (is_tuple_value types vs (row_types (whole p) types vs row), tuple_whole p vs (row_kept (whole p) types vs row))

  pub set_whole_of : (ty : Ty) (vs : List Val) → WholeEach ty vs → Ascends val_cmp vs → WholeOf (t.Set ty) (val.Set vs)
  set_whole_of ty vs each up = (is_set_value ty vs (all_from_each (is_of ty) vs (λ v h. (each v h).0)), set_whole p vs (λ v h. (each v h).1) up)

  pub int_parts : (v : Val) → WholeOf t.Int v → (z : ℤ) × (v ≡ val.Int z) × (is_i64 z ≡ true)
  int_parts v one =
      let (z, is) = int_of_type v one.0 in
      (z, is, sym (is_narrow_of (kept.Int z)) ∙ ap is_narrow (sym is) ∙ one.1.1)

  pub set_parts : (ty : Ty) (v : Val) → WholeOf (t.Set ty) v → (vs : List Val) × (v ≡ val.Set vs) × WholeEach ty vs × Ascends val_cmp vs
  set_parts ty v one =
      let (vs, is, typed) = set_of_type ty v one.0 in
      let kept : Whole p (val.Set vs) = subst (Whole p) is one.1 in
      let proper : IsProper (out-Val (val.Set vs)) = proper_of (val.Set vs) kept.0 in
      (vs, is, λ u h. (each_from_all (is_of ty) vs u typed h, elements_whole p vs kept u h), (subst IsProper (val.outs-Set vs) proper).1)

  -- of a process, its number is that of one that is there
  pub process_there : (process : ℕ) → Whole p (val.Proc process) → IsProcess p process
  process_there process kept =
      let both = and_parts (nat_lt 0 process) (nat_le process (length p.procs)) (sym (has_processes-Proc (length p.procs) process) ∙ kept.2) in
      (ltb-true 0 process both.0, leb-true process (length p.procs) both.1)

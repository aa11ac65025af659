-- A typed term has a value of its type in each row of the types that it was typed over.
use Rattle.std.specs.Prelude.{◌≡◌, ℕ, true, List, [], ◌∷◌, map, Option, Some, None}
use Rattle.std.specs.List.{AllByRecursion}
use Rattle.std.proofs.Common.{◌∙◌, ap, sym, subst}
use Rattle.da_values.specs.declared.val.Val.TheVariants as val
use Rattle.da_values.specs.declared.value.Value.{Value}
use Rattle.da_values.specs.declared.value.Value.TheVariants as kept
use Rattle.da_values.specs.Narrow.{is_i64}
use Rattle.da_values.specs.Value.{val_of}
use Rattle.da_lang.specs.declared.query.Term.{Term}
use Rattle.da_lang.specs.declared.query.Term.TheVariants as te
use Rattle.da_lang.specs.declared.ty.Ty.{Ty}
use Rattle.da_lang.specs.declared.ty.Ty.TheVariants as t
use Rattle.da_lang.specs.Matching.{Row}
use Rattle.da_lang.specs.Queries.{value_at}
use Rattle.da_lang.specs.QueryTypes.{Known, given, flat, no_set, all_types, literal_type, slot_type, term_type}
use Rattle.da_lang.specs.Types.{is_of, is_flat}
use Rattle.da_lang.specs.World.{Data, or_nothing, at_number}
use Rattle.da_lang.proofs.MatchingLaws.{term-Const, term-Me, term-Slot, term-Part, term-Tuple}
use Rattle.da_lang.proofs.TermInduction.{term_induction}
use Rattle.da_lang.proofs.typing.QueryTypesAt.{term_type_at-Const, term_type_at-Me, term_type_at-Slot, term_type_at-Part, term_type_at-Tuple, term_type_at-Foreign}
use Rattle.da_types.proofs.totality.KindLaws.{given_parts, when_parts, is_int_value, is_bool_value, is_text_value, is_proc_value, is_tuple_value}
use Rattle.da_types.proofs.totality.Keeping.{Keeping, Fits, RowFits, Knows, row_types, row_kept, part_fits}

pub literal_fits : (c : Value) (ty : Ty) → literal_type c ≡ Some ty → is_of ty (val_of c) ≡ true
literal_fits (kept.Int number) ty e = subst (λ z. is_of z (val.Int number) ≡ true) (when_parts (is_i64 number) t.Int ty e).1 (is_int_value number)
literal_fits (kept.Bool truth) ty e = let same : t.Bool ≡ ty = cc in subst (λ z. is_of z (val.Bool truth) ≡ true) same (is_bool_value truth)
literal_fits (kept.Text bytes) ty e = let same : t.Text ≡ ty = cc in subst (λ z. is_of z (val.Text bytes) ≡ true) same (is_text_value bytes)
literal_fits (kept.Proc process) ty e = let same : t.Proc ≡ ty = cc in subst (λ z. is_of z (val.Proc process) ≡ true) same (is_proc_value process)
literal_fits (kept.Tuple parts) ty e = absurd (cc)
literal_fits (kept.Set elements) ty e = absurd (cc)

-- where a type has at most 32 levels, or is no set, it is the type
pub flat_is : (found : Option Ty) (ty : Ty) → given found flat ≡ Some ty → found ≡ Some ty
flat_is found ty e =
    let (a, is, e) = given_parts found flat ty e in
    is ∙ ap Some (when_parts (is_flat a) a ty e).1

-- and it has at most 32
pub flat_fits : (found : Option Ty) (ty : Ty) → given found flat ≡ Some ty → is_flat ty ≡ true
flat_fits found ty e =
    let (a, is, e) = given_parts found flat ty e in
    let (deep, same) = when_parts (is_flat a) a ty e in
    subst (λ x. is_flat x ≡ true) same deep

pub no_set_is : (found : Option Ty) (ty : Ty) → given found no_set ≡ Some ty → found ≡ Some ty
no_set_is found ty e =
    let (a, is, e) = given_parts found no_set ty e in
    is ∙ ap Some (when_parts _ a ty e).1

module _ (k : Keeping) (known : Known) (d : Data) (w : Knows k known d) where
  abbrev TermFits : Term → Type 0
  TermFits x = (ty : Ty) (types : List Ty) (row : Row) → term_type known x types ≡ Some ty → RowFits k types row → k.Good x → Fits k ty (value_at d row x)

  constant_case : (c : Value) → TermFits (te.Const c)
  constant_case c ty types row e fits good =
      let is : literal_type c ≡ Some ty = sym (term_type_at-Const known c types) ∙ e in
      subst (Fits k ty) (sym (term-Const d.me d.slots row c)) (literal_fits c ty is, k.constant c ty is good)

  me_case : TermFits te.Me
  me_case ty types row e fits good =
      let is : ◌≡◌ {A = Option Ty} (Some t.Proc) (Some ty) = sym (term_type_at-Me known types) ∙ e in
      let same : t.Proc ≡ ty = cc in
      subst (Fits k ty) (sym (term-Me d.me d.slots row)) (subst (λ z. Fits k z (val.Proc d.me)) same (is_proc_value d.me, w.me))

  slot_case : (slot : ℕ) → TermFits (te.Slot slot)
  slot_case slot ty types row e fits good =
      let is = no_set_is (slot_type known slot) ty (flat_is (given (slot_type known slot) no_set) ty (sym (term_type_at-Slot known slot types) ∙ e)) in
      subst (Fits k ty) (sym (term-Slot d.me d.slots row slot)) (w.slots slot ty is)

  part_case : (part : ℕ) → TermFits (te.Part part)
  part_case part ty types row e fits good =
      let (v, there, one) = part_fits k types row part ty fits (flat_is (at_number types part) ty (sym (term_type_at-Part known part types) ∙ e)) in
      subst (Fits k ty) (sym (term-Part d.me d.slots row part ∙ ap or_nothing there)) one

  parts_fit : (xs : List Term) → AllByRecursion TermFits xs → (found types : List Ty) (row : Row) → all_types (map (λ (p : List Ty → Option Ty). p types) (map (term_type known) xs)) ≡ Some found → RowFits k types row → AllByRecursion k.Good xs → RowFits k found (map (value_at d row) xs)
  parts_fit [] each found types row e fits good = let same : [] ≡ found = cc in subst (λ z. RowFits k z []) same tt
  parts_fit (x ∷ xs) each found types row e fits good =
      let (ty, is, more) = given_parts (term_type known x types) _ found e in
      let (others, are, e) = given_parts (all_types (map (λ (p : List Ty → Option Ty). p types) (map (term_type known) xs))) _ found more in
      let same : ty ∷ others ≡ found = cc in
      subst (λ z. RowFits k z (map (value_at d row) (x ∷ xs))) same (each.0 ty types row is fits good.0, parts_fit xs each.1 others types row are fits good.1)

  tuple_case : (xs : List Term) → AllByRecursion TermFits xs → TermFits (te.Tuple xs)
  tuple_case xs each ty types row e fits good =
      let (found, are, more) = given_parts (all_types (map (λ (p : List Ty → Option Ty). p types) (map (term_type known) xs))) _ ty (sym (term_type_at-Tuple known xs types) ∙ e) in
      let (deep, same) = when_parts (is_flat (t.Tuple found)) (t.Tuple found) ty more in
      let part_by_part = parts_fit xs each found types row are fits (k.terms xs good) in
      let vs = map (value_at d row) xs in
      subst (Fits k ty) (sym (term-Tuple d.me d.slots row xs)) (subst (λ z. Fits k z (val.Tuple vs)) same (is_tuple_value found vs (row_types k found vs part_by_part), k.tuple vs (row_kept k found vs part_by_part)))

  foreign_case : TermFits te.Foreign
  foreign_case ty types row e fits good = let none : ◌≡◌ {A = Option Ty} None (Some ty) = sym (term_type_at-Foreign known types) ∙ e in absurd (cc)

  pub term_fits : (x : Term) → TermFits x
  term_fits = term_induction TermFits constant_case me_case slot_case part_case tuple_case foreign_case

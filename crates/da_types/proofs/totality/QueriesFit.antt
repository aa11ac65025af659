-- The value of a typed query is of its type.
use Rattle.std.specs.Prelude.{◌≡◌, refl, pos, true, false, ◌&&◌, List, [], ◌∷◌, map, Option, Some, None, length}
use Rattle.std.specs.List.{filter}
use Rattle.std.specs.Option.{option_map}
use Rattle.std.proofs.Common.{◌∙◌, ap, sym, subst, inl, inr}
use Rattle.std.proofs.lemmas.Bool.{false≢true, and_parts}
use Rattle.da_values.specs.declared.val.Val.{Val}
use Rattle.da_values.specs.declared.val.Val.TheVariants as val
use Rattle.da_values.specs.Order.{val_cmp}
use Rattle.da_values.specs.Sets.{Has, Ascends}
use Rattle.da_values.specs.Views.{int_of}
use Rattle.da_values.proofs.Members.{of_filter, all_from_each}
use Rattle.da_values.proofs.OrderLaws.{val_order, same_from_val_cmp}
use Rattle.da_values.proofs.SetLaws.{of_image, Ascends-image}
use Rattle.da_lang.specs.declared.query.Agg.{roll-Agg}
use Rattle.da_lang.specs.declared.query.AggOp.{AggOp}
use Rattle.da_lang.specs.declared.query.AggOp.TheVariants.{Count, Sum, Min, Max}
use Rattle.da_lang.specs.declared.query.Cond.{Cond}
use Rattle.da_lang.specs.declared.query.RGen.{RGen}
use Rattle.da_lang.specs.declared.query.Term.{Term}
use Rattle.da_lang.specs.declared.ty.Ty.{Ty}
use Rattle.da_lang.specs.declared.ty.Ty.TheVariants as t
use Rattle.da_lang.specs.Matching.{Row}
use Rattle.da_lang.specs.Queries.{aggregate, agg_value, extensions, first_or, last_or, holds_where, other_value, rows, term_set, total, value_at}
use Rattle.da_lang.specs.QueryTypes.{Known, Holds, Side, given, flat, plain, is_typed, agg_type, agg_side, cond_holds, gens_row, holds_if, other_type, rows_where, term_type}
use Rattle.da_lang.specs.Types.{is_of, is_int, ordered}
use Rattle.da_lang.specs.World.{Data}
use Rattle.da_lang.proofs.QueryLaws.{agg-made}
use Rattle.da_lang.proofs.RowLaws.{of_rows}
use Rattle.da_lang.proofs.typing.QueryTypesAt.{agg_side_at-of}
use Rattle.da_types.specs.Totality.{counts_by}
use Rattle.da_types.proofs.totality.KindLaws.{given_parts, when_parts, if_parts, is_typed_parts, is_int_value, is_set_value}
use Rattle.da_types.proofs.totality.Keeping.{Keeping, Fits, RowFits, Knows}
use Rattle.da_types.proofs.totality.TermLaws.{term_fits}
use Rattle.da_types.proofs.totality.RowsFit.{rows_fit}

-- the row of the generators, and that the condition keeps the rules over it
pub rows_where_parts : (known : Known) (gens : List RGen) (cond : Option Holds) (types found : List Ty) → rows_where known gens cond types ≡ Some found → (gens_row known gens types ≡ Some found) × (holds_if cond found ≡ true)
rows_where_parts known gens cond types found e =
    let (row, is, e) = given_parts (gens_row known gens types) _ found e in
    let (holds, same) = when_parts (holds_if cond row) row found e in
    (is ∙ ap Some same, subst (λ z. holds_if cond z ≡ true) same holds)

pub plain_is : (ty : Ty) (side : Side) → plain ty ≡ Some side → ty ≡ side.ty
plain_is ty side e = let same : record { ty = ty; sum = false } ≡ side = cc in ap (λ (s : Side). s.ty) same

-- the first and the last of the values, or the other one, are of a kind that all of them are of
first_fits : (P : Val → Type 0) (other : Val) (vs : List Val) → P other → ((v : Val) → Has vs v → P v) → P (first_or other vs)
first_fits P other [] one each = one
first_fits P other (v ∷ vs) one each = each v (inl refl)

last_fits : (P : Val → Type 0) (other : Val) (vs : List Val) → P other → ((v : Val) → Has vs v → P v) → P (last_or other vs)
last_fits P other [] one each = one
last_fits P other (v ∷ vs) one each = last_fits P v vs (each v (inl refl)) (λ z h. each z (inr h))

-- an aggregate of a type: a `count` or a `sum`, or else a value that is kept
abbrev pub AggFits : Keeping → AggOp → Ty → Val → Type 0
AggFits k op ty v = (is_of ty v ≡ true) × (counts_by op ≡ false → k.Kept v)

-- of a term that may be left out
abbrev pub OtherGood : Keeping → Option Term → Type 0
OtherGood k None = Unit {0}
OtherGood k (Some x) = k.Good x

module _ (k : Keeping) (known : Known) (d : Data) (w : Knows k known d) where
  other_fits : (other : Option Term) (types : List Ty) (row : Row) (ty : Ty) → is_typed (other_type known other types) ty ≡ true → RowFits k types row → OtherGood k other → Fits k ty (other_value d row other)
  other_fits None types row ty e fits good = absurd (false≢true e)
  other_fits (Some x) types row ty e fits good = term_fits k known d w x ty types row (is_typed_parts (term_type known x types) ty e) fits good

  -- the elements of the set of a term over rows of generators
  pub members_fit : (x : Term) (gens : List RGen) (types found : List Ty) (row : Row) (ty : Ty) → gens_row known gens types ≡ Some found → term_type known x found ≡ Some ty → RowFits k types row → k.Good x
      → (rs : List Row) → ((r : Row) → Has rs r → Has (extensions d gens row) r) → (v : Val) → Has (term_set d x rs) v → Fits k ty v
  members_fit x gens types found row ty typed of_term fits good rs among v h =
      let (r, there, is) = of_image val_cmp val_order same_from_val_cmp (λ r. value_at d r x) rs v h in
      subst (Fits k ty) (sym is) (term_fits k known d w x ty found r of_term (rows_fit k known d w gens types found row r typed fits (among r there)) good)

  -- the set itself
  pub set_fits : (ty : Ty) (vs : List Val) → ((v : Val) → Has vs v → Fits k ty v) → Ascends val_cmp vs → Fits k (t.Set ty) (val.Set vs)
  set_fits ty vs each up = (is_set_value ty vs (all_from_each (is_of ty) vs (λ v h. (each v h).0)), k.set vs (λ v h. (each v h).1) up)

  aggregate_fits : (op : AggOp) (other : Option Term) (types : List Ty) (row : Row) (ty : Ty) (side : Side) (vs : List Val) → agg_type op ty (other_type known other types) ≡ Some side → RowFits k types row → OtherGood k other → ((v : Val) → Has vs v → Fits k ty v) → AggFits k op side.ty (aggregate op (other_value d row other) vs)
  aggregate_fits Count other types row ty side vs e fits good each =
      (subst (λ z. is_of z (val.Int (pos (length vs))) ≡ true) (plain_is t.Int side e) (is_int_value (pos (length vs))), λ f. absurd (false≢true (sym f)))
  aggregate_fits Sum other types row ty side vs e fits good each =
      let (is, same) = when_parts (is_int ty) _ side e in
      (subst (λ (z : Side). is_of z.ty (val.Int (total (map int_of vs))) ≡ true) same (is_int_value (total (map int_of vs))), λ f. absurd (false≢true (sym f)))
  aggregate_fits Min other types row ty side vs e fits good each =
      let (both, one) = if_parts (ordered ty && is_typed (other_type known other types) ty) (plain ty) side e in
      let typed = (and_parts (ordered ty) (is_typed (other_type known other types) ty) both).1 in
      let fit : Fits k ty (first_or (other_value d row other) vs) = first_fits (Fits k ty) (other_value d row other) vs (other_fits other types row ty typed fits good) each in
      let same = plain_is ty side one in
      (subst (λ z. is_of z (first_or (other_value d row other) vs) ≡ true) same fit.0, λ f. fit.1)
  aggregate_fits Max other types row ty side vs e fits good each =
      let (both, one) = if_parts (ordered ty && is_typed (other_type known other types) ty) (plain ty) side e in
      let typed = (and_parts (ordered ty) (is_typed (other_type known other types) ty) both).1 in
      let fit : Fits k ty (last_or (other_value d row other) vs) = last_fits (Fits k ty) (other_value d row other) vs (other_fits other types row ty typed fits good) each in
      let same = plain_is ty side one in
      (subst (λ z. is_of z (last_or (other_value d row other) vs) ≡ true) same fit.0, λ f. fit.1)

  -- the types that an aggregate was found from
  pub record AggTyped (op : AggOp) (gens : List RGen) (b : Option Cond) (x : Term) (other : Option Term) (types : List Ty) (side : Side) : Type 0 where
    pub found : List Ty
    pub ty : Ty
    pub row : gens_row known gens types ≡ Some found
    pub cond : holds_if (option_map (cond_holds known) b) found ≡ true
    pub term : term_type known x found ≡ Some ty
    pub aggregate' : agg_type op ty (other_type known other types) ≡ Some side

  pub agg_typed : (op : AggOp) (gens : List RGen) (b : Option Cond) (x : Term) (other : Option Term) (types : List Ty) (side : Side) → agg_side known (roll-Agg (record { op = op; gens = gens; cond = b; term = x; other = other })) types ≡ Some side → AggTyped op gens b x other types side
  agg_typed op gens b x other types side e =
      let whole = sym (agg_side_at-of known op gens b x other types) ∙ e in
      let (ty, over, more) = given_parts (given (rows_where known gens (option_map (cond_holds known) b) types) (term_type known x)) _ side whole in
      let (found, rows_are, of_term) = given_parts (rows_where known gens (option_map (cond_holds known) b) types) (term_type known x) ty over in
      let (set, small, last) = given_parts (flat (t.Set ty)) _ side more in
      let (row_is, cond_is) = rows_where_parts known gens (option_map (cond_holds known) b) types found rows_are in
      record { found = found; ty = ty; row = row_is; cond = cond_is; term = of_term; aggregate' = last }

  pub agg_fits : (op : AggOp) (gens : List RGen) (b : Option Cond) (x : Term) (other : Option Term) (types : List Ty) (row : Row) (side : Side) → agg_side known (roll-Agg (record { op = op; gens = gens; cond = b; term = x; other = other })) types ≡ Some side → RowFits k types row → k.Good x → OtherGood k other
      → AggFits k op side.ty (agg_value d (roll-Agg (record { op = op; gens = gens; cond = b; term = x; other = other })) row)
  agg_fits op gens b x other types row side e fits good other_good =
      let typed = agg_typed op gens b x other types side e in
      let rs = filter (holds_where d b) (extensions d gens row) in
      subst (AggFits k op side.ty) (sym (agg-made d row op gens b x other))
      (aggregate_fits op other types row typed.ty side (term_set d x rs) typed.aggregate' fits other_good
      (members_fit x gens types typed.found row typed.ty typed.row typed.term fits good rs (λ r h. (of_filter (holds_where d b) (extensions d gens row) r h).0)))

  pub comp_fits : (x : Term) (gens : List RGen) (b : Option Cond) (found : List Ty) (ty : Ty) → gens_row known gens [] ≡ Some found → term_type known x found ≡ Some ty → k.Good x → Fits k (t.Set ty) (val.Set (term_set d x (rows d gens b [])))
  comp_fits x gens b found ty typed of_term good =
      set_fits ty (term_set d x (rows d gens b []))
      (members_fit x gens [] found [] ty typed of_term tt good (rows d gens b []) (λ r h. (of_rows d gens b [] r h).0))
      (Ascends-image val_cmp val_order same_from_val_cmp (λ r. value_at d r x) (rows d gens b []))

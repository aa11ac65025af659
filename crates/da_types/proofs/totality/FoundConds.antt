-- Typed conditions, operands and queries are found strictly, and an operand is of its type.
use Rattle.std.specs.Prelude.{◌≡◌, refl, ◌+ℤ◌, neg_ℤ, Bool, true, false, ◌&&◌, not, if◌then◌else◌, List, [], ◌∷◌, map, Option, Some, None}
use Rattle.std.specs.List.{AllByRecursion, filter, list_all, list_any}
use Rattle.std.specs.Option.{option_map}
use Rattle.std.proofs.Common.{◌∙◌, ap, sym, subst, inl, inr}
use Rattle.std.proofs.lemmas.Bool.{false≢true, and_parts, eq-eqb}
use Rattle.da_values.specs.declared.val.Val.{Val, out-Val}
use Rattle.da_values.specs.declared.val.Val.TheVariants as val
use Rattle.da_values.specs.Order.{kind, val_cmp}
use Rattle.da_values.specs.Sets.{Has, canon}
use Rattle.da_values.specs.Views.{int_of, truth_of}
use Rattle.da_values.proofs.Members.{of_filter, each_from_all}
use Rattle.da_values.proofs.ViewLaws.{int_of-Int, truth_of-Bool}
use Rattle.da_lang.specs.declared.query.Agg.{Agg, roll-Agg}
use Rattle.da_lang.specs.declared.query.AggOp.{AggOp}
use Rattle.da_lang.specs.declared.query.AggOp.TheVariants.{Count, Sum, Min, Max}
use Rattle.da_lang.specs.declared.query.Cond.{Cond}
use Rattle.da_lang.specs.declared.query.Cond.TheVariants as co
use Rattle.da_lang.specs.declared.query.Operand.{Operand}
use Rattle.da_lang.specs.declared.query.Operand.TheVariants as od
use Rattle.da_lang.specs.declared.query.RGen.{RGen}
use Rattle.da_lang.specs.declared.query.SignedOperand.{SignedOperand, roll-SignedOperand}
use Rattle.da_lang.specs.declared.query.Term.{Term}
use Rattle.da_lang.specs.declared.tree.CmpOp.{CmpOp}
use Rattle.da_lang.specs.declared.ty.Ty.{Ty}
use Rattle.da_lang.specs.declared.ty.Ty.TheVariants as t
use Rattle.da_lang.specs.Matching.{Row}
use Rattle.da_lang.specs.Queries.{compares, aggregate, agg_value, extensions, holds, holds_where, operand_value, other_value, signed_value, term_set, total, value_at}
use Rattle.da_lang.specs.QueryTypes.{Known, Holds, Side, Sided, given, plain, is_operand, is_typed, agg_type, agg_side, compares as compares_types, cond_holds, operand_side, signed_side, gens_row, holds_if, other_type, rows_where, term_type}
use Rattle.da_lang.specs.Types.{is_of, is_bool, is_int, ordered, same_type}
use Rattle.da_lang.specs.World.{Data}
use Rattle.da_lang.proofs.CondInduction.{Where, Cases, cond_induction, agg_induction}
use Rattle.da_lang.proofs.QueryLaws.{holds-Truth, holds-Cmp, holds-Not, holds-And, holds-Or, holds-Some, holds-Each, operand-Term, operand-Agg, operand-Chain, signed-made, agg-made}
use Rattle.da_lang.proofs.typing.SameTypes.{same_types_equal}
use Rattle.da_lang.proofs.typing.QueryTypesAt.{cond_holds_at-Truth, cond_holds_at-Cmp, cond_holds_at-Not, cond_holds_at-And, cond_holds_at-Or, cond_holds_at-Quant, operand_side_at-Term, operand_side_at-Agg, operand_side_at-Chain, signed_side_at-of}
use Rattle.da_types.specs.Totality.{Test, compared, all_there, truth, integer, strict_term, strict_test, strict_rows, strict_integer, strict_aggregate, strict_other, strict_terms, strict_set, strict_holds, strict_operand, strict_agg, strict_signed, strict_where}
use Rattle.da_types.proofs.totality.FoundAt.{strict_holds-Truth, strict_holds-Cmp, strict_holds-Not, strict_holds-And, strict_holds-Or, strict_holds-Quant, strict_operand-Term, strict_operand-Agg, strict_operand-Chain, strict_signed-of, strict_agg-of}
use Rattle.da_types.proofs.totality.KindLaws.{given_parts, when_parts, if_parts, holds_parts, is_typed_parts, bool_type, int_type, int_of_type, bool_of_type, is_int_value, one_kind}
use Rattle.da_types.proofs.totality.Keeping.{Keeping, Fits, RowFits, Knows}
use Rattle.da_types.proofs.totality.TermLaws.{term_fits}
use Rattle.da_types.proofs.totality.RowsFit.{rows_fit}
use Rattle.da_types.proofs.totality.FoundMatches.{all_there_are, term_there}
use Rattle.da_types.proofs.totality.FoundRows.{rows_there}
use Rattle.da_types.proofs.totality.QueriesFit.{OtherGood, agg_typed, members_fit, agg_fits, plain_is, rows_where_parts}

-- of the values of a test at each of some rows
all_true_at : {A : Type 0} (f : A → Bool) (xs : List A) → list_all (λ v. v) (map f xs) ≡ list_all f xs
all_true_at f [] = refl
all_true_at f (x ∷ xs) = ap (λ z. f x && z) (all_true_at f xs)

any_true_at : {A : Type 0} (f : A → Bool) (xs : List A) → list_any (λ v. v) (map f xs) ≡ list_any f xs
any_true_at f [] = refl
any_true_at f (x ∷ xs) = rw (any_true_at f xs) refl

each_has : {A : Type 0} (P : A → Type 0) (xs : List A) → AllByRecursion P xs → (x : A) → Has xs x → P x
each_has P [] each x h = absurd h
each_has P (y ∷ ys) each x (inl is) = subst P (sym is) each.0
each_has P (y ∷ ys) each x (inr h) = each_has P ys each.1 x h

list_all_map : {A : Type 0} (f : A → List Ty → Bool) (types : List Ty) (xs : List A) → list_all (λ (g : Holds). g types) (map f xs) ≡ list_all (λ x. f x types) xs
list_all_map f types [] = refl
list_all_map f types (x ∷ xs) = ap (λ z. f x types && z) (list_all_map f types xs)

operands_all : {A : Type 0} (f : A → Sided) (types : List Ty) (xs : List A) → list_all (λ (g : Sided). is_operand (g types)) (map f xs) ≡ list_all (λ x. is_operand (f x types)) xs
operands_all f types [] = refl
operands_all f types (x ∷ xs) = ap (λ z. is_operand (f x types) && z) (operands_all f types xs)

-- the rows that meet a condition
kept_rows : (test : Test) (f : Row → Bool) (rs : List Row) → ((r : Row) → Has rs r → test r ≡ Some (f r)) → strict_rows test rs ≡ Some (filter f rs)
kept_rows test f [] each = refl
kept_rows test f (r ∷ rs) each = rw (each r (inl refl), kept_rows test f rs (λ z h. each z (inr h))) refl

module _ (k : Keeping) (good : (x : Term) → k.Good x) (known : Known) (d : Data) (w : Knows k known d) where
  abbrev CondThere : Cond → Type 0
  CondThere b = (types : List Ty) (row : Row) → cond_holds known b types ≡ true → RowFits k types row → strict_holds d b row ≡ Some (holds d b row)

  abbrev OperandThere : Operand → Type 0
  OperandThere a = (types : List Ty) (row : Row) (side : Side) → operand_side known a types ≡ Some side → RowFits k types row → (strict_operand d a row ≡ Some (operand_value d a row)) × (is_of side.ty (operand_value d a row) ≡ true)

  abbrev AggThere : Agg → Type 0
  AggThere a = (types : List Ty) (row : Row) (side : Side) → agg_side known a types ≡ Some side → RowFits k types row → (strict_agg d a row ≡ Some (agg_value d a row)) × (is_of side.ty (agg_value d a row) ≡ true)

  abbrev SignedThere : SignedOperand → Type 0
  SignedThere s = (types : List Ty) (row : Row) → is_operand (signed_side known s types) ≡ true → RowFits k types row → strict_signed d s row ≡ Some (signed_value d s row)

  -- a value of a kind is of the kind
  truth_is : (v : Val) → is_of t.Bool v ≡ true → truth (out-Val v) ≡ Some (truth_of v)
  truth_is v e =
      let (b, is) = bool_of_type v e in
      subst (λ z. truth (out-Val z) ≡ Some (truth_of z)) (sym is) (ap truth (val.outs-Bool b) ∙ ap Some (sym (truth_of-Bool b)))

  integer_is : (v : Val) → is_of t.Int v ≡ true → integer (out-Val v) ≡ Some (int_of v)
  integer_is v e =
      let (z, is) = int_of_type v e in
      subst (λ z. integer (out-Val z) ≡ Some (int_of z)) (sym is) (ap integer (val.outs-Int z) ∙ ap Some (sym (int_of-Int z)))

  truth_case : (x : Term) → CondThere (co.Truth x)
  truth_case x types row e fits =
      let (ty, of_term, boolean) = holds_parts (term_type known x types) is_bool (sym (cond_holds_at-Truth known x types) ∙ e) in
      let fit = term_fits k known d w x ty types row of_term fits (good x) in
      strict_holds-Truth d row x
      ∙ ap (λ z. given z (λ v. truth (out-Val v))) (term_there k known d w x ty types row of_term fits)
      ∙ truth_is (value_at d row x) (subst (λ z. is_of z (value_at d row x) ≡ true) (bool_type ty boolean) fit.0)
      ∙ ap Some (sym (holds-Truth d row x))

  compared_is : (op : CmpOp) (v w' : Val) → kind (out-Val v) ≡ kind (out-Val w') → compared op v w' ≡ Some (compares op (val_cmp v w'))
  compared_is op v w' same = rw (eq-eqb (kind (out-Val v)) (kind (out-Val w')) same) refl

  cmp_case : (op : CmpOp) (a b : Operand) → OperandThere a → OperandThere b → CondThere (co.Cmp op a b)
  cmp_case op a b first second types row e fits =
      let (x, left, more) = holds_parts (operand_side known a types) _ (sym (cond_holds_at-Cmp known op a b types) ∙ e) in
      let (y, right, both) = holds_parts (operand_side known b types) _ more in
      let (same, in_order) = and_parts (same_type x.ty y.ty) (compares_types op x.ty) both in
      let one = first types row x left fits in
      let other = second types row y right fits in
      let alike = one_kind y.ty (operand_value d a row) (operand_value d b row) (subst (λ z. is_of z (operand_value d a row) ≡ true) (same_types_equal x.ty y.ty same) one.1) other.1 in
      strict_holds-Cmp d row op a b
      ∙ ap (λ z. given z (λ v. given (strict_operand d b row) (compared op v))) one.0
      ∙ ap (λ z. given z (compared op (operand_value d a row))) other.0
      ∙ compared_is op (operand_value d a row) (operand_value d b row) alike
      ∙ ap Some (sym (holds-Cmp d row op a b))

  not_case : (b : Cond) → CondThere b → CondThere (co.Not b)
  not_case b there types row e fits =
      strict_holds-Not d row b
      ∙ ap (λ z. given z (λ v. Some (not v))) (there types row (sym (cond_holds_at-Not known b types) ∙ e) fits)
      ∙ ap Some (sym (holds-Not d row b))

  -- of several conditions
  several : (bs : List Cond) → AllByRecursion CondThere bs → (types : List Ty) (row : Row) → list_all (λ b. cond_holds known b types) bs ≡ true → RowFits k types row → all_there (map (λ b. strict_holds d b row) bs) ≡ Some (map (λ b. holds d b row) bs)
  several bs each types row e fits =
      all_there_are (λ b. strict_holds d b row) (λ b. holds d b row) bs
      (λ b h. each_has CondThere bs each b h types row (each_from_all (λ b. cond_holds known b types) bs b e h) fits)

  and_case : (bs : List Cond) → AllByRecursion CondThere bs → CondThere (co.And bs)
  and_case bs each types row e fits =
      strict_holds-And d row bs
      ∙ ap (λ z. given z (λ vs. Some (list_all (λ v. v) vs))) (several bs each types row (sym (list_all_map (cond_holds known) types bs) ∙ sym (cond_holds_at-And known bs types) ∙ e) fits)
      ∙ ap Some (all_true_at (λ b. holds d b row) bs ∙ sym (holds-And d row bs))

  or_case : (bs : List Cond) → AllByRecursion CondThere bs → CondThere (co.Or bs)
  or_case bs each types row e fits =
      strict_holds-Or d row bs
      ∙ ap (λ z. given z (λ vs. Some (list_any (λ v. v) vs))) (several bs each types row (sym (list_all_map (cond_holds known) types bs) ∙ sym (cond_holds_at-Or known bs types) ∙ e) fits)
      ∙ ap Some (any_true_at (λ b. holds d b row) bs ∙ sym (holds-Or d row bs))

  -- a condition that may be left out
  where_there : (b : Option Cond) → Where CondThere b → (types : List Ty) (row : Row) → holds_if (option_map (cond_holds known) b) types ≡ true → RowFits k types row → strict_test (strict_where d b) row ≡ Some (holds_where d b row)
  where_there None there types row e fits = refl
  where_there (Some b) there types row e fits = there types row e fits

  -- the condition in each row of generators
  tests_there : (gens : List RGen) (b : Option Cond) → Where CondThere b → (types found : List Ty) (row : Row) → gens_row known gens types ≡ Some found → holds_if (option_map (cond_holds known) b) found ≡ true → RowFits k types row → (r : Row) → Has (extensions d gens row) r → strict_test (strict_where d b) r ≡ Some (holds_where d b r)
  tests_there gens b there types found row typed e fits r h = where_there b there found r e (rows_fit k known d w gens types found row r typed fits h)

  quantified : (each : Bool) (gens : List RGen) (b : Option Cond) (row : Row) → holds d (co.Quant each gens b) row ≡ (if each then list_all (λ v. v) (map (holds_where d b) (extensions d gens row)) else list_any (λ v. v) (map (holds_where d b) (extensions d gens row)))
  quantified true gens b row = holds-Each d row gens b ∙ sym (all_true_at (holds_where d b) (extensions d gens row))
  quantified false gens b row = holds-Some d row gens b ∙ sym (any_true_at (holds_where d b) (extensions d gens row))

  pub quant_there : (each : Bool) (gens : List RGen) (b : Option Cond) → Where CondThere b → (types found : List Ty) (row : Row) → rows_where known gens (option_map (cond_holds known) b) types ≡ Some found → RowFits k types row → strict_holds d (co.Quant each gens b) row ≡ Some (holds d (co.Quant each gens b) row)
  quant_there each gens b there types found row e fits =
      let (typed, cond_typed) = rows_where_parts known gens (option_map (cond_holds known) b) types found e in
      let finish : List Bool → Option Bool = λ vs. Some (if each then list_all (λ v. v) vs else list_any (λ v. v) vs) in
      strict_holds-Quant d row each gens b
      ∙ ap (λ z. given z (λ rs. given (all_there (map (strict_test (strict_where d b)) rs)) finish)) (rows_there k known d w gens types found row typed fits)
      ∙ ap (λ z. given z finish) (all_there_are (strict_test (strict_where d b)) (holds_where d b) (extensions d gens row) (tests_there gens b there types found row typed cond_typed fits))
      ∙ ap Some (sym (quantified each gens b row))

  quant_case : (each : Bool) (gens : List RGen) (b : Option Cond) → Where CondThere b → CondThere (co.Quant each gens b)
  quant_case each gens b there types row e fits =
      let (found, rows, trivial) = holds_parts (rows_where known gens (option_map (cond_holds known) b) types) _ (sym (cond_holds_at-Quant known each gens b types) ∙ e) in
      quant_there each gens b there types found row rows fits

  term_case : (x : Term) → OperandThere (od.Term x)
  term_case x types row side e fits =
      let (ty, of_term, same) = given_parts (term_type known x types) plain side (sym (operand_side_at-Term known x types) ∙ e) in
      let fit = term_fits k known d w x ty types row of_term fits (good x) in (
        strict_operand-Term d row x ∙ term_there k known d w x ty types row of_term fits ∙ ap Some (sym (operand-Term d row x)),
        subst (λ z. is_of side.ty z ≡ true) (sym (operand-Term d row x)) (subst (λ z. is_of z (value_at d row x) ≡ true) (plain_is ty side same) fit.0),
      )

  agg_case : (a : Agg) → AggThere a → OperandThere (od.Agg a)
  agg_case a there types row side e fits =
      let both = there types row side (sym (operand_side_at-Agg known a types) ∙ e) fits in
      (strict_operand-Agg d row a ∙ both.0 ∙ ap Some (sym (operand-Agg d row a)), subst (λ z. is_of side.ty z ≡ true) (sym (operand-Agg d row a)) both.1)

  -- an operand of a chain is an integer
  operand_integer : (a : Operand) → OperandThere a → (types : List Ty) (row : Row) → is_operand (operand_side known a types) ≡ true → RowFits k types row → strict_integer (strict_operand d a row) ≡ Some (int_of (operand_value d a row))
  operand_integer a there types row e fits =
      let (side, is, both) = holds_parts (operand_side known a types) _ e in
      let (integral, plain') = and_parts (is_int side.ty) _ both in
      let found = there types row side is fits in
      ap (strict_integer) found.0 ∙ integer_is (operand_value d a row) (subst (λ z. is_of z (operand_value d a row) ≡ true) (int_type side.ty integral) found.1)

  chain_case : (a : Operand) (more : List SignedOperand) → OperandThere a → AllByRecursion SignedThere more → OperandThere (od.Chain a more)
  chain_case a more there each types row side e fits =
      let (both, one) = if_parts _ (plain t.Int) side (sym (operand_side_at-Chain known a more types) ∙ e) in
      let (first, rest) = and_parts (is_operand (operand_side known a types)) _ both in
      let others : all_there (map (λ s. strict_signed d s row) more) ≡ Some (map (λ s. signed_value d s row) more) =
      all_there_are (λ s. strict_signed d s row) (λ s. signed_value d s row) more
      (λ s h. each_has SignedThere more each s h types row (each_from_all (λ s. is_operand (signed_side known s types)) more s (sym (operands_all (signed_side known) types more) ∙ rest) h) fits) in (
        strict_operand-Chain d row a more ∙ rw (operand_integer a there types row first fits, others) refl ∙ ap Some (sym (operand-Chain d row a more)),
        subst (λ z. is_of side.ty z ≡ true) (sym (operand-Chain d row a more)) (subst (λ z. is_of z (val.Int (int_of (operand_value d a row) +ℤ total (map (λ s. signed_value d s row) more))) ≡ true) (plain_is t.Int side one) (is_int_value (int_of (operand_value d a row) +ℤ total (map (λ s. signed_value d s row) more)))),
      )

  signed_case : (minus : Bool) (a : Operand) → OperandThere a → SignedThere (roll-SignedOperand (record { minus = minus; operand = a }))
  signed_case minus a there types row e fits =
      strict_signed-of d row minus a
      ∙ ap (λ z. given z (λ i. Some (if minus then neg_ℤ i else i))) (operand_integer a there types row (ap is_operand (sym (signed_side_at-of known minus a types)) ∙ e) fits)
      ∙ ap Some (sym (signed-made d row minus a))

  -- the other value of `min` and `max`
  other_there : (other : Option Term) (types : List Ty) (row : Row) (ty : Ty) → is_typed (other_type known other types) ty ≡ true → RowFits k types row → strict_other d row other ≡ Some (other_value d row other)
  other_there None types row ty e fits = absurd (false≢true e)
  other_there (Some x) types row ty e fits = term_there k known d w x ty types row (is_typed_parts (term_type known x types) ty e) fits

  aggregate_there : (op : AggOp) (other : Option Term) (types : List Ty) (row : Row) (ty : Ty) (side : Side) (vs : List Val) → agg_type op ty (other_type known other types) ≡ Some side → RowFits k types row → ((v : Val) → Has vs v → Fits k ty v) → strict_aggregate op (strict_other d row other) vs ≡ Some (aggregate op (other_value d row other) vs)
  aggregate_there Count other types row ty side vs e fits each = refl
  aggregate_there Sum other types row ty side vs e fits each =
      let (integral, same) = when_parts (is_int ty) _ side e in
      ap (λ z. given z (λ is. Some (val.Int (total is))))
      (all_there_are (λ v. integer (out-Val v)) int_of vs (λ v h. integer_is v (subst (λ z. is_of z v ≡ true) (int_type ty integral) (each v h).0)))
  aggregate_there Min other types row ty side vs e fits each =
      let (both, one) = if_parts _ (plain ty) side e in
      let (in_order, typed) = and_parts (ordered ty) (is_typed (other_type known other types) ty) both in
      rw (other_there other types row ty typed fits) refl
  aggregate_there Max other types row ty side vs e fits each =
      let (both, one) = if_parts _ (plain ty) side e in
      let (in_order, typed) = and_parts (ordered ty) (is_typed (other_type known other types) ty) both in
      rw (other_there other types row ty typed fits) refl

  -- the set of a term over the rows that meet a condition
  pub set_there : (gens : List RGen) (b : Option Cond) → Where CondThere b → (x : Term) (types found : List Ty) (row : Row) (ty : Ty) → gens_row known gens types ≡ Some found → holds_if (option_map (cond_holds known) b) found ≡ true → term_type known x found ≡ Some ty → RowFits k types row → strict_set d gens (strict_where d b) x row ≡ Some (term_set d x (filter (holds_where d b) (extensions d gens row)))
  set_there gens b there x types found row ty typed cond_typed of_term fits =
      let rs = filter (holds_where d b) (extensions d gens row) in
      ap (λ z. given (given z (strict_rows (strict_test (strict_where d b)))) (strict_terms d x)) (rows_there k known d w gens types found row typed fits)
      ∙ ap (λ z. given z (strict_terms d x)) (kept_rows (strict_test (strict_where d b)) (holds_where d b) (extensions d gens row) (tests_there gens b there types found row typed cond_typed fits))
      ∙ ap (λ z. given z (λ vs. Some (canon val_cmp vs)))
      (all_there_are (λ r. strict_term d r x) (λ r. value_at d r x) rs (λ r h. term_there k known d w x ty found r of_term (rows_fit k known d w gens types found row r typed fits (of_filter (holds_where d b) (extensions d gens row) r h).0)))

  other_good : (other : Option Term) → OtherGood k other
  other_good None = tt
  other_good (Some x) = good x

  over_case : (op : AggOp) (gens : List RGen) (b : Option Cond) (x : Term) (other : Option Term) → Where CondThere b → AggThere (roll-Agg (record { op = op; gens = gens; cond = b; term = x; other = other }))
  over_case op gens b x other there types row side e fits =
      let typed = agg_typed k known d w op gens b x other types side e in
      let rs = filter (holds_where d b) (extensions d gens row) in
      let each = members_fit k known d w x gens types typed.found row typed.ty typed.row typed.term fits (good x) rs (λ r h. (of_filter (holds_where d b) (extensions d gens row) r h).0) in (
        strict_agg-of d row op gens b x other
            ∙ ap (λ z. given z (strict_aggregate op (strict_other d row other))) (set_there gens b there x types typed.found row typed.ty typed.row typed.cond typed.term fits)
            ∙ aggregate_there op other types row typed.ty side (term_set d x rs) typed.aggregate' fits each
            ∙ ap Some (sym (agg-made d row op gens b x other)),
        (agg_fits k known d w op gens b x other types row side e fits (good x) (other_good other)).0,
      )

  abbrev cases : Cases
  cases = record {
    Of_cond = CondThere;
    Of_operand = OperandThere;
    Of_agg = AggThere;
    Of_signed = SignedThere;
    truth = truth_case;
    cmp = cmp_case;
    negation = not_case;
    conjunction = and_case;
    disjunction = or_case;
    quant = quant_case;
    term = term_case;
    agg = agg_case;
    chain = chain_case;
    over = over_case;
    signed = signed_case;
  }

  pub cond_there : (b : Cond) → CondThere b
  cond_there = cond_induction cases

  pub agg_there : (a : Agg) → AggThere a
  agg_there = agg_induction cases

  pub each_cond_there : (b : Option Cond) → Where CondThere b
  each_cond_there None = tt
  each_cond_there (Some b) = cond_there b

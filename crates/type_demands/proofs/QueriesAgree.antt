-- Conditions, sides, aggregates and queries keep the rules exactly where what they demand is met.
use Rattle.std.specs.Prelude.{◌≡◌, refl, ℕ, Bool, ◌&&◌, if◌then◌else◌, List, [], ◌∷◌, ◌++◌, map, flat_map, Option, Some, None, option_map}
use Rattle.std.specs.List.{list_all, AllByRecursion}
use Rattle.std.proofs.Common.{◌∙◌, ap, ap₂, sym, subst}
use Rattle.da_lang.specs.declared.query.Agg.{Agg}
use Rattle.da_lang.specs.declared.query.AggOp.{AggOp}
use Rattle.da_lang.specs.declared.query.Cond.{Cond}
use Rattle.da_lang.specs.declared.query.Operand.{Operand}
use Rattle.da_lang.specs.declared.query.Query.{Query}
use Rattle.da_lang.specs.declared.query.Query.TheVariants as qu
use Rattle.da_lang.specs.declared.query.RGen.{RGen}
use Rattle.da_lang.specs.declared.query.SignedOperand.{SignedOperand}
use Rattle.da_lang.specs.declared.query.Term.{Term}
use Rattle.da_lang.specs.declared.ty.Ty.{Ty}
use Rattle.da_lang.specs.declared.ty.Ty.TheVariants as t
use Rattle.da_lang.specs.QueryTypes as type
use Rattle.da_lang.specs.QueryTypes.{Known, Side, Sided, given, holds_of, when, flat, is_operand, holds_if, rows_where, has_rows, term_type, other_type, agg_type, cond_holds, operand_side, agg_side, signed_side, written_cond, query_row, query_type, gens_row}
use Rattle.da_lang.specs.Types.{is_bool}
use Rattle.da_lang.proofs.CondInduction.{Cases, Where, cond_induction, agg_induction}
use Rattle.da_lang.proofs.typing.QueryTypesAt.{cond_holds_at-Truth, cond_holds_at-Cmp, cond_holds_at-Not, cond_holds_at-And, cond_holds_at-Or, cond_holds_at-Quant, operand_side_at-Term, operand_side_at-Agg, operand_side_at-Chain, agg_side_at-of, signed_side_at-of}
use Rattle.type_table.specs.declared.scheme.Scheme.{Scheme}
use Rattle.type_table.specs.declared.scheme.Scheme.TheVariants as s
use Rattle.type_table.specs.Fits.{Meaning}
use Rattle.type_table.specs.Schemes.{stands}
use Rattle.type_table.proofs.SchemeLaws.{stands_bool}
use Rattle.type_demands.specs.declared.demand.Demand.{Demand}
use Rattle.type_demands.specs.declared.demand.Demand.TheVariants as d
use Rattle.type_demands.specs.Demands.{all_met}
use Rattle.type_demands.specs.Syms.{Context, found, demanding}
use Rattle.type_demands.specs.Terms.{term_sym, gens_sym}
use Rattle.type_demands.specs.Conds.{SideSym, SidedSym, CondSym, side_sym, operand_asks, demands_if, filtered_sym, other_sym, behind, set_sym, agg_found, cond_sym, operand_sym, agg_sym, signed_sym, where_sym, query_rows, query_sym}
use Rattle.type_demands.specs.Meets.{Means, Stand, RowAgrees, found_side, CondAgrees, OperandAgrees, AggAgrees}
use Rattle.type_demands.proofs.FoundLaws.{guard, guard_twice, given_given, given_itself, met_both, test_found, set_found}
use Rattle.type_demands.proofs.QueriesAt.{cond-Truth, cond-Cmp, cond-Not, cond-And, cond-Or, cond-Quant, operand-Term, operand-Agg, operand-Chain, agg-of, signed-of}
use Rattle.type_demands.proofs.RowLaws.{when_agrees, none_there, then_agrees, after_row, there_where}
use Rattle.type_demands.proofs.SideLaws.{side_found, comparable_met, operand_met, chain_found, behind_found, agg_is_found}
use Rattle.type_demands.proofs.TermsAgree.{term_agrees, gens_agree}

module _ (m : Meaning) (headed : ℕ → Bool) (known : Known) (context : Context) (means : Means m headed known context) where
  abbrev Met : List Demand → Bool
  Met ds = all_met m headed ds

  abbrev Found : SideSym → Option Side
  Found x = found_side m headed x

  abbrev Stands : List Scheme → List Ty → Type 0
  Stands row types = Stand m headed row types

  abbrev SignedAgrees : SignedOperand → Type 0
  SignedAgrees x = (row : List Scheme) (types : List Ty) → Stands row types → signed_side known x types ≡ Found (signed_sym context x row)

  truth_met : (x : Term) (row : List Scheme) (types : List Ty) → Stands row types → holds_of (term_type known x types) is_bool ≡ Met (demanding d.Truth (term_sym context x row))
  truth_met x row types so =
      ap (λ o. holds_of o is_bool) (term_agrees m headed known context means x row types so)
      ∙ test_found m headed (term_sym context x row) is_bool (d.Truth (term_sym context x row).scheme) refl

  all_conds : (xs : List Cond) → AllByRecursion (CondAgrees m headed known context) xs → (row : List Scheme) (types : List Ty) → Stands row types
      → list_all (λ (x : List Ty → Bool). x types) (map (cond_holds known) xs) ≡ Met (flat_map (λ (x : CondSym). x row) (map (cond_sym context) xs))
  all_conds [] each row types so = refl
  all_conds (x ∷ xs) each row types so =
      ap₂ (λ b c. b && c) (each.0 row types so) (all_conds xs each.1 row types so)
      ∙ sym (met_both m headed (cond_sym context x row) (flat_map (λ (x : CondSym). x row) (map (cond_sym context) xs)))

  if_met : (cond : Option Cond) → Where (CondAgrees m headed known context) cond → (row : List Scheme) (types : List Ty) → Stands row types → holds_if (option_map (cond_holds known) cond) types ≡ Met (demands_if (option_map (cond_sym context) cond) row)
  if_met None agrees row types so = refl
  if_met (Some cond) agrees row types so = agrees row types so

  rows_agree : (gens : List RGen) (cond : Option Cond) → Where (CondAgrees m headed known context) cond → (row : List Scheme) (types : List Ty) → Stands row types
      → RowAgrees m headed (rows_where known gens (option_map (cond_holds known) cond) types) (where_sym context gens cond row)
  rows_agree gens cond agrees row types so =
      let holds = option_map (cond_holds known) cond in
      let first = gens_sym context gens row in
      then_agrees m headed (gens_row known gens types) (λ rows. when (holds_if holds rows) rows) first (filtered_sym (option_map (cond_sym context) cond)) (gens_agree m headed known context means gens row types so)
      (λ later there. when_agrees m headed (holds_if holds later) (demands_if (option_map (cond_sym context) cond) first.row) first.row later (if_met cond agrees first.row later there) there)

  other_found : (other : Option Term) (row : List Scheme) (types : List Ty) → Stands row types → other_type known other types ≡ found m headed (other_sym context other row)
  other_found None row types so = refl
  other_found (Some x) row types so = term_agrees m headed known context means x row types so

  signed_operands : (more : List SignedOperand) → AllByRecursion SignedAgrees more → (row : List Scheme) (types : List Ty) → Stands row types
      → list_all (λ (y : Sided). is_operand (y types)) (map (signed_side known) more) ≡ Met (flat_map (λ (y : SidedSym). operand_asks (y row)) (map (signed_sym context) more))
  signed_operands [] each row types so = refl
  signed_operands (y ∷ more) each row types so =
      ap₂ (λ b c. b && c) (ap is_operand (each.0 row types so) ∙ operand_met m headed (signed_sym context y row)) (signed_operands more each.1 row types so)
      ∙ sym (met_both m headed (operand_asks (signed_sym context y row)) (flat_map (λ (y : SidedSym). operand_asks (y row)) (map (signed_sym context) more)))

  chain_agrees : (x : Operand) (more : List SignedOperand) → OperandAgrees m headed known context x → AllByRecursion SignedAgrees more → (row : List Scheme) (types : List Ty) → Stands row types
      → (if is_operand (operand_side known x types) && list_all (λ (y : Sided). is_operand (y types)) (map (signed_side known) more) then type.plain t.Int else None)
      ≡ Found (side_sym (record { demands = operand_asks (operand_sym context x row) ++ flat_map (λ (y : SidedSym). operand_asks (y row)) (map (signed_sym context) more); scheme = s.Int }))
  chain_agrees x more agrees each row types so =
      let first = operand_asks (operand_sym context x row) in
      let others = flat_map (λ (y : SidedSym). operand_asks (y row)) (map (signed_sym context) more) in
      chain_found m headed (is_operand (operand_side known x types) && list_all (λ (y : Sided). is_operand (y types)) (map (signed_side known) more)) (first ++ others)
      (ap₂ (λ b c. b && c) (ap is_operand (agrees row types so) ∙ operand_met m headed (operand_sym context x row)) (signed_operands more each row types so)
      ∙ sym (met_both m headed first others))

  agg_agrees_of : (op : AggOp) (gens : List RGen) (cond : Option Cond) (x : Term) (other : Option Term) → Where (CondAgrees m headed known context) cond → (row : List Scheme) (types : List Ty) → Stands row types
      → given (given (rows_where known gens (option_map (cond_holds known) cond) types) (term_type known x)) (λ ty. given (flat (t.Set ty)) (λ set. agg_type op ty (other_type known other types)))
      ≡ Found (behind (where_sym context gens cond row).demands (agg_found op (term_sym context x (where_sym context gens cond row).row) (other_sym context other row)))
  agg_agrees_of op gens cond x other agrees row types so =
      let rows = where_sym context gens cond row in
      let o = rows_where known gens (option_map (cond_holds known) cond) types in
      let f : Ty → Option Side = λ ty. given (flat (t.Set ty)) (λ set. agg_type op ty (other_type known other types)) in
      let over = agg_found op (term_sym context x rows.row) (other_sym context other row) in
      given_given o (term_type known x) f
      ∙ after_row m headed o rows (λ later. given (term_type known x later) f) (Found over) (rows_agree gens cond agrees row types so)
      (λ later there. agg_is_found m headed op (term_sym context x rows.row) (other_sym context other row) (term_type known x later) (other_type known other types) (term_agrees m headed known context means x rows.row later there) (other_found other row types so))
      ∙ sym (behind_found m headed rows.demands over)

  abbrev cases : Cases
  cases = record {
    Of_cond = CondAgrees m headed known context;
    Of_operand = OperandAgrees m headed known context;
    Of_agg = AggAgrees m headed known context;
    Of_signed = SignedAgrees;
    truth = λ x row types so. cond_holds_at-Truth known x types ∙ truth_met x row types so ∙ ap Met (sym (cond-Truth context x row));
    cmp = λ o a b p q row types so. cond_holds_at-Cmp known o a b types ∙ ap₂ (type.comparable o) (p row types so) (q row types so) ∙ comparable_met m headed o (operand_sym context a row) (operand_sym context b row) ∙ ap Met (sym (cond-Cmp context o a b row));
    negation = λ b p row types so. cond_holds_at-Not known b types ∙ p row types so ∙ ap Met (sym (cond-Not context b row));
    conjunction = λ bs each row types so. cond_holds_at-And known bs types ∙ all_conds bs each row types so ∙ ap Met (sym (cond-And context bs row));
    disjunction = λ bs each row types so. cond_holds_at-Or known bs types ∙ all_conds bs each row types so ∙ ap Met (sym (cond-Or context bs row));
    quant = λ each gens b agrees row types so.
        cond_holds_at-Quant known each gens b types ∙ there_where m headed (rows_where known gens (option_map (cond_holds known) b) types) (where_sym context gens b row) (rows_agree gens b agrees row types so) ∙ ap Met (sym (cond-Quant context each gens b row));
    term = λ x row types so. operand_side_at-Term known x types ∙ side_found m headed (term_type known x types) (term_sym context x row) (term_agrees m headed known context means x row types so) ∙ ap Found (sym (operand-Term context x row));
    agg = λ a p row types so. operand_side_at-Agg known a types ∙ p row types so ∙ ap Found (sym (operand-Agg context a row));
    chain = λ a more p each row types so. operand_side_at-Chain known a more types ∙ chain_agrees a more p each row types so ∙ ap Found (sym (operand-Chain context a more row));
    over = λ op gens b x other agrees row types so. agg_side_at-of known op gens b x other types ∙ agg_agrees_of op gens b x other agrees row types so ∙ ap Found (sym (agg-of context op gens b x other row));
    signed = λ minus a p row types so. signed_side_at-of known minus a types ∙ p row types so ∙ ap (λ (f : SidedSym). Found (f row)) (sym (signed-of context minus a));
  }

  pub cond_agrees : (x : Cond) → CondAgrees m headed known context x
  cond_agrees = cond_induction cases

  pub agg_agrees : (x : Agg) → AggAgrees m headed known context x
  agg_agrees = agg_induction cases

  each_cond : (cond : Option Cond) → Where (CondAgrees m headed known context) cond
  each_cond None = tt
  each_cond (Some cond) = cond_agrees cond

  written : (cond : Option Cond) → written_cond known cond ≡ option_map (cond_holds known) cond
  written None = refl
  written (Some cond) = refl

  written_rows : (gens : List RGen) (cond : Option Cond) → RowAgrees m headed (rows_where known gens (written_cond known cond) []) (where_sym context gens cond [])
  written_rows gens cond =
      subst (λ z. RowAgrees m headed (rows_where known gens z []) (where_sym context gens cond [])) (sym (written cond)) (rows_agree gens cond (each_cond cond) [] [] tt)

  pub query_agrees : (q : Query) → RowAgrees m headed (query_row known q) (query_rows context q)
  query_agrees (qu.Quant each gens cond) = written_rows gens cond
  query_agrees (qu.Comp x gens cond) = none_there m headed []
  query_agrees (qu.Agg a) = none_there m headed []

  comp_found : (x : Term) (gens : List RGen) (cond : Option Cond) → given (given (rows_where known gens (written_cond known cond) []) (term_type known x)) (λ ty. flat (t.Set ty)) ≡ found m headed (query_sym context (qu.Comp x gens cond))
  comp_found x gens cond =
      let rows = where_sym context gens cond [] in
      let o = rows_where known gens (written_cond known cond) [] in
      let set = set_sym (term_sym context x rows.row) in
      given_given o (term_type known x) (λ ty. flat (t.Set ty))
      ∙ after_row m headed o rows (λ later. given (term_type known x later) (λ ty. flat (t.Set ty))) (found m headed set) (written_rows gens cond)
      (λ later there. ap (λ z. given z (λ ty. flat (t.Set ty))) (term_agrees m headed known context means x rows.row later there) ∙ set_found m headed (term_sym context x rows.row))
      ∙ guard_twice (Met rows.demands) (Met set.demands) (stands m set.scheme)
      ∙ ap (λ b. guard b (stands m set.scheme)) (sym (met_both m headed rows.demands set.demands))

  pub query_found : (q : Query) → query_type known q ≡ found m headed (query_sym context q)
  query_found (qu.Quant each gens cond) =
      after_row m headed (rows_where known gens (written_cond known cond) []) (where_sym context gens cond []) (λ row. Some t.Bool) (stands m s.Bool) (written_rows gens cond) (λ later there. sym (stands_bool m))
  query_found (qu.Comp x gens cond) = comp_found x gens cond
  query_found (qu.Agg a) =
      let side = agg_sym context a [] in
      ap (λ z. given z (λ (x : Side). Some x.ty)) (agg_agrees a [] [] tt)
      ∙ given_given (found m headed side.itself) (λ ty. Some (record { ty = ty; sum = side.sum })) (λ (x : Side). Some x.ty)
      ∙ sym (given_itself (found m headed side.itself))

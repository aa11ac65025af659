-- Where an expression, or the condition that it becomes, keeps the rules of types, each query that it numbers has a type.
use Rattle.std.specs.Prelude.{◌≡◌, refl, suc, Bool, true, false, ◌&&◌, if◌then◌else◌, List, [], ◌∷◌, map, length, Option, Some, None, is_some, option_map}
use Rattle.std.specs.List.{AllByRecursion, list_all}
use Rattle.std.proofs.Common.{◌∙◌, ap, sym, subst}
use Rattle.std.proofs.lemmas.Bool.{and_parts}
use Rattle.da_lang.specs.declared.program.RExpr.{RExpr}
use Rattle.da_lang.specs.declared.program.RExpr.TheVariants as re
use Rattle.da_lang.specs.declared.query.AggOp.{AggOp}
use Rattle.da_lang.specs.declared.query.Cond.{Cond}
use Rattle.da_lang.specs.declared.query.Cond.TheVariants as co
use Rattle.da_lang.specs.declared.query.Operand.{Operand}
use Rattle.da_lang.specs.declared.query.Operand.TheVariants as od
use Rattle.da_lang.specs.declared.query.Query.{Query}
use Rattle.da_lang.specs.declared.query.Query.TheVariants as qu
use Rattle.da_lang.specs.declared.query.Term.{Term}
use Rattle.da_lang.specs.declared.query.Term.TheVariants as te
use Rattle.da_lang.specs.declared.tree.CmpOp.{CmpOp}
use Rattle.da_lang.specs.declared.tree.MessageDecl.{MessageDecl}
use Rattle.da_lang.specs.declared.ty.Ty.{Ty}
use Rattle.da_lang.specs.declared.ty.Ty.TheVariants as t
use Rattle.da_lang.specs.ExprMeaning.{Meaning, Tables, Meant, Signed, Generator, ask, foreign, as_term, as_condition, as_operand, quantified, comprehended, aggregated, agg_of, gens_in, cond_after, scope_after_gens, all_outside, signed_outside, one_outside, two_outside, list_outside, chain_outside, chain_operand, signed_operand, all_conditions, is_sum, is_minus}
use Rattle.da_lang.specs.ExprTypes.{ExprType, typing, part_typing, int}
use Rattle.da_lang.specs.QueryTypes.{Known, Side, given, term_type, operand_side, signed_side, cond_holds, plain, rows_where, written_cond, query_type, is_operand, all_types, flat}
use Rattle.da_lang.specs.Scopes.{Scope}
use Rattle.da_lang.specs.Types.{is_bool, is_int}
use Rattle.da_lang.specs.Typing.{Slots, known}
use Rattle.da_lang.specs.World.{at_number}
use Rattle.da_lang.proofs.typing.ExprTypesAt.{typing-Ask, typing-Range, typing-Tuple, typing-SetOf, typing-Or, typing-And, typing-Not, typing-Cmp, typing-Member, typing-Chain, part_typing-of}
use Rattle.da_lang.proofs.typing.QueryTypesAt.{term_type_at-Foreign, term_type_at-Tuple, operand_side_at-Term, operand_side_at-Agg, operand_side_at-Chain, signed_side_at-of, cond_holds_at-Truth, cond_holds_at-Cmp, cond_holds_at-Not, cond_holds_at-And, cond_holds_at-Or, cond_holds_at-Quant}
use Rattle.da_types.proofs.resolved.CoveredTables.{Done, asked}
use Rattle.da_types.proofs.resolved.FineExprs.{Fine, FineFurther, itself_has, gives_holds, tuple_fine, set_fine, truths_fine, of_test, comparison_fine, member_fine, chain_fine}
use Rattle.da_types.proofs.totality.KindLaws.{given_parts, holds_parts, if_parts}

abbrev pub Outside : Type 0
Outside = Scope Meaning → Tables → RExpr × Tables

module _ (messages : List MessageDecl) (queries : List Query) (slots : Slots) where
  abbrev kn : Known
  kn = known messages queries slots

  abbrev pub FineExpr : RExpr → Type 0
  FineExpr x = Fine (typing kn queries x)

  abbrev Holds : Tables → Type 0
  Holds = Done messages queries slots

  abbrev pub OutsideFills : Outside → Type 0
  OutsideFills outside = (scope : Scope Meaning) (tables : Tables) → FineExpr (outside scope tables).0 → Holds tables → Holds (outside scope tables).1

  abbrev TermFills : Outside → (Scope Meaning → Term) → Type 0
  TermFills outside term = (scope : Scope Meaning) (tables : Tables) (ty : Ty) → term_type kn (term scope) [] ≡ Some ty → Holds tables → Holds (outside scope tables).1

  abbrev OperandFills : Outside → (Scope Meaning → Operand) → Type 0
  OperandFills outside operand = (scope : Scope Meaning) (tables : Tables) (side : Side) → operand_side kn (operand scope) [] ≡ Some side → Holds tables → Holds (outside scope tables).1

  abbrev CondFills : Outside → (Scope Meaning → Cond) → Type 0
  CondFills outside condition = (scope : Scope Meaning) (tables : Tables) → cond_holds kn (condition scope) [] ≡ true → Holds tables → Holds (outside scope tables).1

  pub record FillsBy (outside : Outside) (term : Scope Meaning → Term) (operand : Scope Meaning → Operand) (condition : Scope Meaning → Cond) : Type 0 where
    pub by_typing : OutsideFills outside
    pub by_term : TermFills outside term
    pub by_operand : OperandFills outside operand
    pub by_condition : CondFills outside condition

  abbrev pub Fills : Meant → Type 0
  Fills m = FillsBy m.outside m.term m.operand m.condition

  no_term : (outside : Outside) → TermFills outside (λ scope. te.Foreign)
  no_term outside scope tables ty e d =
      let no : ◌≡◌ {A = Option Ty} None (Some ty) = sym (term_type_at-Foreign kn []) ∙ e in
      absurd (cc)

  term_operand : (outside : Outside) (term : Scope Meaning → Term) → TermFills outside term → OperandFills outside (λ scope. od.Term (term scope))
  term_operand outside term fills scope tables side e d =
      let (ty, is, h) = given_parts (term_type kn (term scope) []) plain side (sym (operand_side_at-Term kn (term scope) []) ∙ e) in
      fills scope tables ty is d

  term_condition : (outside : Outside) (term : Scope Meaning → Term) → TermFills outside term → CondFills outside (λ scope. co.Truth (term scope))
  term_condition outside term fills scope tables e d =
      let (ty, is, h) = holds_parts (term_type kn (term scope) []) is_bool (sym (cond_holds_at-Truth kn (term scope) []) ∙ e) in
      fills scope tables ty is d

  as_term_fills : (outside : Outside) (term : Scope Meaning → Term) → OutsideFills outside → TermFills outside term → Fills (as_term outside term)
  as_term_fills outside term typed fills = record { by_typing = typed; by_term = fills; by_operand = term_operand outside term fills; by_condition = term_condition outside term fills }

  foreign_fills : (outside : Outside) → OutsideFills outside → Fills (foreign outside)
  foreign_fills outside typed = as_term_fills outside (λ scope. te.Foreign) typed (no_term outside)

  as_condition_fills : (outside : Outside) (condition : Scope Meaning → Cond) → OutsideFills outside → CondFills outside condition → Fills (as_condition outside condition)
  as_condition_fills outside condition typed fills = record { by_typing = typed; by_term = no_term outside; by_operand = term_operand outside (λ scope. te.Foreign) (no_term outside); by_condition = fills }

  as_operand_fills : (outside : Outside) (operand : Scope Meaning → Operand) → OutsideFills outside → OperandFills outside operand → Fills (as_operand outside operand)
  as_operand_fills outside operand typed fills = record { by_typing = typed; by_term = no_term outside; by_operand = fills; by_condition = term_condition outside (λ scope. te.Foreign) (no_term outside) }

  -- what asks nothing
  pub still_fills : (x : Scope Meaning → RExpr) (term : Scope Meaning → Term) → Fills (as_term (λ scope tables. (x scope, tables)) term)
  still_fills x term = as_term_fills (λ scope tables. (x scope, tables)) term (λ scope tables fine d. d) (λ scope tables ty e d. d)

  pub clock_fills : Fills (foreign (λ scope tables. (re.Clock, tables)))
  clock_fills = foreign_fills (λ scope tables. (re.Clock, tables)) (λ scope tables fine d. d)

  -- a query
  ask_fills : (query : Scope Meaning → Query) → OutsideFills (ask query)
  ask_fills query scope tables fine d =
      let number = suc (length tables.queries) in
      let (ty, is) = itself_has (given (at_number queries number) (query_type kn)) (subst Fine (typing-Ask kn queries number) fine) in
      asked messages queries slots tables (query scope) (λ e. ap is_some (sym (ap (λ o. given o (query_type kn)) e) ∙ is)) d

  asked_by : (query : Scope Meaning → Query) (scope : Scope Meaning) (tables : Tables) (ty : Ty) → query_type kn (query scope) ≡ Some ty → Holds tables → Holds (ask query scope tables).1
  asked_by query scope tables ty is d = asked messages queries slots tables (query scope) (λ e. ap is_some is) d

  written_same : (c : Option Cond) → written_cond kn c ≡ option_map (cond_holds kn) c
  written_same None = refl
  written_same (Some c) = refl

  pub quantified_fills : (each : Bool) (gens : List Generator) (cond : Option Meant) → Fills (quantified each gens cond)
  quantified_fills each gens cond =
      let query : Scope Meaning → Query = λ scope. qu.Quant each (gens_in gens scope) (cond_after gens cond scope) in
      as_condition_fills (ask query) (λ scope. co.Quant each (gens_in gens scope) (cond_after gens cond scope)) (ask_fills query) (λ scope tables e d.
      let gs = gens_in gens scope in
      let c = cond_after gens cond scope in
      let (row, is, h) = holds_parts (rows_where kn gs (option_map (cond_holds kn) c) []) (λ found. true) (sym (cond_holds_at-Quant kn each gs c []) ∙ e) in
      let found : rows_where kn gs (written_cond kn c) [] ≡ Some row = ap (λ w. rows_where kn gs w []) (written_same c) ∙ is in
      asked_by query scope tables t.Bool (ap (λ o. given o (λ row. Some t.Bool)) found) d)

  pub comprehended_fills : (x : Meant) (gens : List Generator) (cond : Option Meant) → Fills (comprehended x gens cond)
  comprehended_fills x gens cond =
      let query : Scope Meaning → Query = λ scope. qu.Comp (x.term (scope_after_gens gens scope)) (gens_in gens scope) (cond_after gens cond scope) in
      foreign_fills (ask query) (ask_fills query)

  pub aggregated_fills : (o : AggOp) (x : Meant) (other : Option Meant) → Fills (aggregated o x other)
  aggregated_fills o x other =
      let query : Scope Meaning → Query = λ scope. qu.Agg (agg_of o (x.range scope) (option_map (λ y. y.term scope) other)) in
      as_operand_fills (ask query) (λ scope. od.Agg (agg_of o (x.range scope) (option_map (λ y. y.term scope) other))) (ask_fills query) (λ scope tables side e d.
      let a = agg_of o (x.range scope) (option_map (λ (y : Meant). y.term scope) other) in
      asked_by query scope tables side.ty (ap (λ s. given s (λ (side : Side). Some side.ty)) (sym (operand_side_at-Agg kn a []) ∙ e)) d)

  -- several expressions
  unmapped : {A B : Type 0} (P : B → Type 0) (f : A → B) (xs : List A) → AllByRecursion P (map f xs) → AllByRecursion (λ x. P (f x)) xs
  unmapped P f [] all = tt
  unmapped P f (x ∷ xs) all = (all.0, unmapped P f xs all.1)

  pub all_outside_fills : (xs : List Meant) → AllByRecursion Fills xs → (scope : Scope Meaning) (tables : Tables) → AllByRecursion FineExpr (all_outside xs scope tables).0 → Holds tables → Holds (all_outside xs scope tables).1
  all_outside_fills [] each scope tables fine d = d
  all_outside_fills (x ∷ xs) each scope tables fine d = all_outside_fills xs each.1 scope (x.outside scope tables).1 fine.1 (each.0.by_typing scope tables fine.0 d)

  list_fills : (make : List RExpr → RExpr) → ((xs : List RExpr) → FineExpr (make xs) → AllByRecursion Fine (map (typing kn queries) xs)) → (xs : List Meant) → AllByRecursion Fills xs → OutsideFills (list_outside make xs)
  list_fills make parts xs each scope tables fine d =
      let all = all_outside xs scope tables in
      all_outside_fills xs each scope tables (unmapped Fine (typing kn queries) all.0 (parts all.0 fine)) d

  one_fills : (make : RExpr → RExpr) → ((x : RExpr) → FineExpr (make x) → FineExpr x) → (m : Meant) → Fills m → OutsideFills (one_outside make m)
  one_fills make part m fills scope tables fine d = fills.by_typing scope tables (part (m.outside scope tables).0 fine) d

  two_fills : (make : RExpr → RExpr → RExpr) → ((x y : RExpr) → FineExpr (make x y) → FineExpr x × FineExpr y) → (m n : Meant) → Fills m → Fills n → OutsideFills (two_outside make m n)
  two_fills make parts m n first second scope tables fine d =
      let x = m.outside scope tables in
      let y = n.outside scope x.1 in
      let (left, right) = parts x.0 y.0 fine in
      second.by_typing scope x.1 right (first.by_typing scope tables left d)

  -- tuples and sets
  terms_fill : (xs : List Meant) → AllByRecursion Fills xs → (scope : Scope Meaning) (tables : Tables) (types : List Ty)
      → all_types (map (λ p. p []) (map (term_type kn) (map (λ (x : Meant). x.term scope) xs))) ≡ Some types → Holds tables → Holds (all_outside xs scope tables).1
  terms_fill [] each scope tables types e d = d
  terms_fill (x ∷ xs) each scope tables types e d =
      let rest = all_types (map (λ p. p []) (map (term_type kn) (map (λ (x : Meant). x.term scope) xs))) in
      let (ty, is, h) = given_parts (term_type kn (x.term scope) []) (λ first. given rest (λ others. Some (first ∷ others))) types e in
      let (others, those, k) = given_parts rest (λ others. Some (ty ∷ others)) types h in
      terms_fill xs each.1 scope (x.outside scope tables).1 others those (each.0.by_term scope tables ty is d)

  pub tuple_fills : (xs : List Meant) → AllByRecursion Fills xs → Fills (as_term (list_outside re.Tuple xs) (λ scope. te.Tuple (map (λ (x : Meant). x.term scope) xs)))
  tuple_fills xs each =
      as_term_fills (list_outside re.Tuple xs) (λ scope. te.Tuple (map (λ (x : Meant). x.term scope) xs))
      (list_fills re.Tuple (λ es fine. tuple_fine (map (typing kn queries) es) (subst Fine (typing-Tuple kn queries es) fine)) xs each)
      (λ scope tables ty e d.
      let parts = map (λ (x : Meant). x.term scope) xs in
      let (types, is, h) = given_parts (all_types (map (λ p. p []) (map (term_type kn) parts))) (λ types. flat (t.Tuple types)) ty (sym (term_type_at-Tuple kn parts []) ∙ e) in
      terms_fill xs each scope tables types is d)

  pub set_fills : (xs : List Meant) → AllByRecursion Fills xs → Fills (foreign (list_outside re.SetOf xs))
  set_fills xs each = foreign_fills (list_outside re.SetOf xs) (list_fills re.SetOf (λ es fine. set_fine (map (typing kn queries) es) (subst Fine (typing-SetOf kn queries es) fine)) xs each)

  -- conditions
  conds_fill : (xs : List Meant) → AllByRecursion Fills xs → (scope : Scope Meaning) (tables : Tables) → list_all (λ h. h []) (map (cond_holds kn) (all_conditions xs scope)) ≡ true → Holds tables → Holds (all_outside xs scope tables).1
  conds_fill [] each scope tables e d = d
  conds_fill (x ∷ xs) each scope tables e d =
      let (first, others) = and_parts (cond_holds kn (x.condition scope) []) (list_all (λ h. h []) (map (cond_holds kn) (all_conditions xs scope))) e in
      conds_fill xs each.1 scope (x.outside scope tables).1 others (each.0.by_condition scope tables first d)

  pub or_fills : (xs : List Meant) → AllByRecursion Fills xs → Fills (as_condition (list_outside re.Or xs) (λ scope. co.Or (all_conditions xs scope)))
  or_fills xs each =
      as_condition_fills (list_outside re.Or xs) (λ scope. co.Or (all_conditions xs scope))
      (list_fills re.Or (λ es fine. truths_fine (map (typing kn queries) es) (gives_holds _ t.Bool (subst Fine (typing-Or kn queries es) fine))) xs each)
      (λ scope tables e d. conds_fill xs each scope tables (sym (cond_holds_at-Or kn (all_conditions xs scope) []) ∙ e) d)

  pub and_fills : (xs : List Meant) → AllByRecursion Fills xs → Fills (as_condition (list_outside re.And xs) (λ scope. co.And (all_conditions xs scope)))
  and_fills xs each =
      as_condition_fills (list_outside re.And xs) (λ scope. co.And (all_conditions xs scope))
      (list_fills re.And (λ es fine. truths_fine (map (typing kn queries) es) (gives_holds _ t.Bool (subst Fine (typing-And kn queries es) fine))) xs each)
      (λ scope tables e d. conds_fill xs each scope tables (sym (cond_holds_at-And kn (all_conditions xs scope) []) ∙ e) d)

  pub not_fills : (x : Meant) → Fills x → Fills (as_condition (one_outside re.Not x) (λ scope. co.Not (x.condition scope)))
  not_fills x fills =
      as_condition_fills (one_outside re.Not x) (λ scope. co.Not (x.condition scope))
      (one_fills re.Not (λ e fine. of_test is_bool (typing kn queries e) (gives_holds _ t.Bool (subst Fine (typing-Not kn queries e) fine))) x fills)
      (λ scope tables e d. fills.by_condition scope tables (sym (cond_holds_at-Not kn (x.condition scope) []) ∙ e) d)

  pub cmp_fills : (o : CmpOp) (x y : Meant) → Fills x → Fills y → Fills (as_condition (two_outside (re.Cmp o) x y) (λ scope. co.Cmp o (x.operand scope) (y.operand scope)))
  cmp_fills o x y first second =
      as_condition_fills (two_outside (re.Cmp o) x y) (λ scope. co.Cmp o (x.operand scope) (y.operand scope))
      (two_fills (re.Cmp o) (λ a b fine. comparison_fine o (typing kn queries a) (typing kn queries b) (gives_holds _ t.Bool (subst Fine (typing-Cmp kn queries o a b) fine))) x y first second)
      (λ scope tables e d.
      let left = operand_side kn (x.operand scope) [] in
      let right = operand_side kn (y.operand scope) [] in
      let (a, is, h) = holds_parts left _ (sym (cond_holds_at-Cmp kn o (x.operand scope) (y.operand scope) []) ∙ e) in
      let (b, those, k) = holds_parts right _ h in
      second.by_operand scope (x.outside scope tables).1 b those (first.by_operand scope tables a is d))

  pub member_fills : (x y : Meant) → Fills x → Fills y → Fills (foreign (two_outside re.Member x y))
  member_fills x y first second =
      foreign_fills (two_outside re.Member x y)
      (two_fills re.Member (λ a b fine. member_fine (typing kn queries a) (typing kn queries b) (gives_holds _ t.Bool (subst Fine (typing-Member kn queries a b) fine))) x y first second)

  both_ints : (a b : ExprType) → (int a && int b) ≡ true → Fine a × Fine b
  both_ints a b e = let (left, right) = and_parts (int a) (int b) e in (of_test is_int a left, of_test is_int b right)

  pub range_fills : (x y : Meant) → Fills x → Fills y → Fills (foreign (two_outside re.Range x y))
  range_fills x y first second =
      foreign_fills (two_outside re.Range x y)
      (two_fills re.Range (λ a b fine. both_ints (typing kn queries a) (typing kn queries b) (gives_holds _ (t.Set t.Int) (subst Fine (typing-Range kn queries a b) fine))) x y first second)

  -- chains
  abbrev pub SignedFills : Signed → Type 0
  SignedFills s = Fills s.meant

  signed_outside_fills : (more : List Signed) → AllByRecursion SignedFills more → (scope : Scope Meaning) (tables : Tables)
      → AllByRecursion FineFurther (map (part_typing kn queries) (signed_outside more scope tables).0) → Holds tables → Holds (signed_outside more scope tables).1
  signed_outside_fills [] each scope tables fine d = d
  signed_outside_fills (s ∷ more) each scope tables fine d =
      let first = s.meant.outside scope tables in
      signed_outside_fills more each.1 scope first.1 fine.1 (each.0.by_typing scope tables (subst FineFurther (part_typing-of kn queries s.op first.0) fine.0) d)

  chain_typed : (x : Meant) (more : List Signed) → Fills x → AllByRecursion SignedFills more → OutsideFills (chain_outside x more)
  chain_typed x more fills each scope tables fine d =
      let first = x.outside scope tables in
      let others = signed_outside more scope first.1 in
      let (ty, is) = itself_has _ (subst Fine (typing-Chain kn queries first.0 others.0) fine) in
      let (left, rest) = chain_fine (typing kn queries first.0) (map (part_typing kn queries) others.0) ty is in
      signed_outside_fills more each scope first.1 rest (fills.by_typing scope tables left d)

  signed_sides : (more : List Signed) → AllByRecursion SignedFills more → (scope : Scope Meaning) (tables : Tables)
      → list_all (λ y. is_operand (y [])) (map (signed_side kn) (map (signed_operand scope) more)) ≡ true → Holds tables → Holds (signed_outside more scope tables).1
  signed_sides [] each scope tables e d = d
  signed_sides (s ∷ more) each scope tables e d =
      let (first, others) = and_parts (is_operand (signed_side kn (signed_operand scope s) [])) (list_all (λ y. is_operand (y [])) (map (signed_side kn) (map (signed_operand scope) more))) e in
      let (side, is, h) = holds_parts (signed_side kn (signed_operand scope s) []) _ first in
      signed_sides more each.1 scope (s.meant.outside scope tables).1 others
      (each.0.by_operand scope tables side (sym (signed_side_at-of kn (is_minus s.op) (s.meant.operand scope) []) ∙ is) d)

  chain_sides : (b : Bool) (x : Meant) (more : List Signed) → Fills x → AllByRecursion SignedFills more → (scope : Scope Meaning) (tables : Tables) (side : Side)
      → operand_side kn (if b then od.Chain (x.operand scope) (map (signed_operand scope) more) else od.Term te.Foreign) [] ≡ Some side → Holds tables → Holds (chain_outside x more scope tables).1
  chain_sides false x more fills each scope tables side e d = term_operand (chain_outside x more) (λ scope. te.Foreign) (no_term (chain_outside x more)) scope tables side e d
  chain_sides true x more fills each scope tables side e d =
      let left = operand_side kn (x.operand scope) [] in
      let rest = list_all (λ y. is_operand (y [])) (map (signed_side kn) (map (signed_operand scope) more)) in
      let both = if_parts (is_operand left && rest) (plain t.Int) side (sym (operand_side_at-Chain kn (x.operand scope) (map (signed_operand scope) more) []) ∙ e) in
      let (first, others) = and_parts (is_operand left) rest both.0 in
      let (s, is, h) = holds_parts left _ first in
      signed_sides more each scope (x.outside scope tables).1 others (fills.by_operand scope tables s is d)

  pub chain_fills : (x : Meant) (more : List Signed) → Fills x → AllByRecursion SignedFills more → Fills (as_operand (chain_outside x more) (chain_operand x more))
  chain_fills x more fills each =
      as_operand_fills (chain_outside x more) (chain_operand x more) (chain_typed x more fills each) (λ scope tables side e d. chain_sides (list_all (λ (y : Signed). is_sum y.op) more) x more fills each scope tables side e d)

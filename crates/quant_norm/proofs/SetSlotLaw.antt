-- No node of the plan of a class of a typed program names a slot of a set type.
use Rattle.std.specs.Prelude.{◌≡◌, ◌==◌, ℕ, zero, suc, Bool, true, false, ◌&&◌, if◌then◌else◌, List, [], ◌∷◌, ◌++◌, map, position, Option, Some, None, is_some, refl}
use Rattle.std.specs.List.{AllByRecursion, list_all, list_any, flat_map}
use Rattle.std.specs.Option.{option_map}
use Rattle.std.proofs.Common.{ap, sym, subst, ◌∙◌, inl, inr}
use Rattle.std.proofs.lemmas.Bool.{and_parts, false_from_ne_true, false≢true, or_from}
use Rattle.std.proofs.lemmas.List.Folds.{list_any-append}
use Rattle.da_values.specs.declared.value.Value.TheVariants as kept
use Rattle.da_values.specs.Sets.{Has}
use Rattle.da_values.proofs.Members.{any_from_has}
use Rattle.da_lang.specs.declared.program.Class.{Class}
use Rattle.da_lang.specs.declared.program.Program.{Program}
use Rattle.da_lang.specs.declared.query.Agg.{Agg, roll-Agg}
use Rattle.da_lang.specs.declared.query.AggOp.{AggOp}
use Rattle.da_lang.specs.declared.query.AggOp.TheVariants.{Count, Sum, Min, Max}
use Rattle.da_lang.specs.declared.query.Cond.{Cond}
use Rattle.da_lang.specs.declared.query.Cond.TheVariants as cond
use Rattle.da_lang.specs.declared.query.Cond.TheOpen.{Cond-F}
use Rattle.da_lang.specs.declared.query.Node.{Node}
use Rattle.da_lang.specs.declared.query.Node.TheVariants as node
use Rattle.da_lang.specs.declared.query.Operand.{Operand}
use Rattle.da_lang.specs.declared.query.Operand.TheVariants as operand
use Rattle.da_lang.specs.declared.query.Query.{Query}
use Rattle.da_lang.specs.declared.query.Query.TheVariants as query
use Rattle.da_lang.specs.declared.query.RGen.{RGen}
use Rattle.da_lang.specs.declared.query.SignedOperand.{SignedOperand, roll-SignedOperand}
use Rattle.da_lang.specs.declared.query.Term.{Term}
use Rattle.da_lang.specs.declared.query.Term.TheVariants as term
use Rattle.da_lang.specs.declared.tree.CmpOp.{CmpOp}
use Rattle.da_lang.specs.declared.ty.Ty.{Ty}
use Rattle.da_lang.specs.declared.ty.Ty.TheVariants as t
use Rattle.da_lang.specs.Naming.{names}
use Rattle.da_lang.specs.QueryTypes.{Known, Side, given, flat, plain, is_operand, is_typed, agg_type, other_type, term_type, slot_type, gen_row, gens_row, holds_if, rows_where, comparable, cond_holds, operand_side, agg_side, signed_side, written_cond, query_type}
use Rattle.da_lang.specs.Types.{is_set, is_bool, ordered, same_type}
use Rattle.da_lang.specs.Typing.{IsTyped, known}
use Rattle.da_lang.proofs.CondInduction.{Where, Cases, cond_induction, agg_induction}
use Rattle.da_lang.proofs.typing.QueryTypesAt.{cond_holds_at-Truth, cond_holds_at-Cmp, cond_holds_at-Not, cond_holds_at-And, cond_holds_at-Or, cond_holds_at-Quant, operand_side_at-Term, operand_side_at-Agg, operand_side_at-Chain, agg_side_at-of, signed_side_at-of}
use Rattle.query_plan.specs.declared.plan.Plan.{Plan}
use Rattle.query_plan.specs.PlanTerms.{Terms, cond_terms, default_terms, named_in, node_names, term_if}
use Rattle.query_plan.specs.Plans.{Place, Binding, placed, added, at_node, filter_on, semi_on, vars_after, place_after, gen_node, gens_on, all_on, or_on, any_on, test_on, denied_on, all_bound, compared, cond_step, agg_node, agg_step, known as part_for, rename, rename_other, norm, norm_if, operand_bound, agg_bound, signed_bound}
use Rattle.query_plan.specs.Questions.{Met, Asked, Awaited, class_met, awaited, norm_class, opening_plan, root, query_node, with_query, with_flag, with_asked, with_all, with_met}
use Rattle.query_plan.specs.Spelled.{same_node}
use Rattle.query_plan.proofs.PlansAt.{norm-Truth, norm-Cmp, norm-Not, norm-And, norm-Or, norm-Quant, bound-Term, bound-Agg, bound-Chain, bound-agg, bound-signed}
use Rattle.query_plan.proofs.PlanTermsAt.{names-Const, names-Part, operand_terms, signed_terms, terms-Truth, terms-Cmp, terms-Term, terms-Chain, terms_of_signed}
use Rattle.quant_norm.specs.KeepsTypes.{KeepsTypes}
use Rattle.quant_norm.specs.SetSlots.{SparesSets}
use Rattle.quant_norm.proofs.NormGathers.{rows_found}
use Rattle.quant_norm.proofs.SetTerms.{term_kept, gen_kept, term_free, gen_free}
use Rattle.quant_norm.proofs.TypedLaws.{typed_keeps}
use Rattle.quant_norm.proofs.VariesLaws.{given_found, held_found}

module _ (s : ℕ) where
  -- no node names the slot
  abbrev pub Spared : List Node → Type 0
  Spared nodes = list_any (node_names s) nodes ≡ false

  one_spared : (n : Node) → node_names s n ≡ false → list_any (node_names s) (n ∷ []) ≡ false
  one_spared n one = or_from (node_names s n) false one refl

  placed_spared : (n : Node) (nodes : List Node) (o : Option ℕ) → Spared nodes → node_names s n ≡ false → Spared (placed n nodes o).0
  placed_spared n nodes None all one =
      list_any-append (node_names s) nodes (n ∷ []) ∙ or_from (list_any (node_names s) nodes) (list_any (node_names s) (n ∷ [])) all (one_spared n one)
  placed_spared n nodes (Some k) all one = all

  added_spared : (nodes : List Node) (n : Node) → Spared nodes → node_names s n ≡ false → Spared (added nodes n).0
  added_spared nodes n all one = placed_spared n nodes (position (same_node n) nodes) all one

  abbrev FreeTerms : Terms → Type 0
  FreeTerms terms = named_in s terms ≡ false

  one_free : (x : Term) → names s x ≡ false → FreeTerms (x ∷ [])
  one_free x e = or_from (names s x) false e refl

  both_free : (a b : Terms) → FreeTerms a → FreeTerms b → FreeTerms (a ++ b)
  both_free a b one two = list_any-append (names s) a b ∙ or_from (named_in s a) (named_in s b) one two

  filter_spared : (b : Cond) (at : Place) (nodes : List Node) → Spared nodes → FreeTerms (cond_terms b) → Spared (filter_on b at nodes).0
  filter_spared b at nodes all free = added_spared nodes (node.Filter at.node b) all free

  choice_spared : (direct : Bool) (at last : Place) (b : Cond) (nodes : List Node) → Spared nodes → FreeTerms (cond_terms b) → Spared (if direct then filter_on b at nodes else semi_on at (filter_on b last nodes)).0
  choice_spared true at last b nodes all free = filter_spared b at nodes all free
  choice_spared false at last b nodes all free =
      let child = filter_on b last nodes in added_spared child.0 (node.Semi at.node child.1) (filter_spared b last nodes all free) refl

  compared_spared : (at last : Place) (b : Cond) (nodes : List Node) → Spared nodes → FreeTerms (cond_terms b) → Spared (compared at last b nodes).0
  compared_spared at last b nodes all free = choice_spared (at.node == last.node) at last b nodes all free

  spared_as : {A : Type 0} (a b : List Node × A) → a ≡ b → Spared b.0 → Spared a.0
  spared_as a b e all = subst (λ z. Spared z.0) (sym e) all

  -- what is bound: the nodes, and the terms of what stands for it
  abbrev Bound : {A : Type 0} → (A → Terms) → List Node × Place × A → Type 0
  Bound terms made = Spared made.0 × FreeTerms (terms made.2)

  bound_as : {A : Type 0} (terms : A → Terms) (a b : List Node × Place × A) → a ≡ b → Bound terms b → Bound terms a
  bound_as terms a b e both = subst (Bound terms) (sym e) both

module _ (rules : Known) (s : ℕ) (held : Ty) (there : slot_type rules s ≡ Some held) (set : is_set held ≡ true) where
  renamed_free : (vars : List ℕ) (x : Term) (row : List Ty) (ty : Ty) → term_type rules x row ≡ Some ty → names s (rename (part_for vars) x) ≡ false
  renamed_free vars x row ty e = term_kept vars s x ∙ term_free rules s held there set x row ty e

  gens_spared : (gens : List RGen) (row longer : List Ty) (at : Place) (nodes : List Node) → gens_row rules gens row ≡ Some longer → Spared s nodes → Spared s (gens_on gens at nodes).0
  gens_spared [] row longer at nodes e all = all
  gens_spared (g ∷ gs) row longer at nodes e all =
      let (middle, one, others) = given_found (gen_row rules g row) (gens_row rules gs) longer e in
      let first = added nodes (gen_node at g) in
      gens_spared gs middle longer (place_after at g first.1) first.0 others
      (added_spared s nodes (gen_node at g) all (gen_kept (vars_after at g) s g ∙ gen_free rules s held there set g row middle one))

  abbrev pub OfCond : Cond → Type 0
  OfCond b = (row : List Ty) (at : Place) (nodes : List Node) → cond_holds rules b row ≡ true → Spared s nodes → Spared s (norm b at nodes).0

  abbrev Binds : {A : Type 0} → (A → Terms) → Binding A → Type 0
  Binds terms f = (at : Place) (nodes : List Node) → Spared s nodes → Bound s terms (f at nodes)

  abbrev OfOperand : Operand → Type 0
  OfOperand a = (row : List Ty) (side : Side) → operand_side rules a row ≡ Some side → Binds operand_terms (operand_bound a)

  abbrev pub OfAgg : Agg → Type 0
  OfAgg a = (row : List Ty) (side : Side) → agg_side rules a row ≡ Some side → Binds operand_terms (agg_bound a)

  abbrev OfSigned : SignedOperand → Type 0
  OfSigned m = (row : List Ty) (side : Side) → signed_side rules m row ≡ Some side → Binds signed_terms (signed_bound m)

  -- Lists of conditions.

  all_spared : (bs : List Cond) → AllByRecursion OfCond bs → (row : List Ty) (at : Place) (nodes : List Node) → list_all (λ x. x row) (map (cond_holds rules) bs) ≡ true → Spared s nodes → Spared s (all_on (map norm bs) at nodes).0
  all_spared [] each row at nodes e all = all
  all_spared (b ∷ bs) each row at nodes e all =
      let (one, others) = and_parts (cond_holds rules b row) (list_all (λ x. x row) (map (cond_holds rules) bs)) e in
      let first = norm b at nodes in
      all_spared bs each.1 row (at_node at first.1) first.0 others (each.0 row at nodes one all)

  or_spared : (bs : List Cond) → AllByRecursion OfCond bs → (row : List Ty) (at : Place) (left : List Node × ℕ) → list_all (λ x. x row) (map (cond_holds rules) bs) ≡ true → Spared s left.0 → Spared s (or_on (map norm bs) at left).0
  or_spared [] each row at left e all = all
  or_spared (b ∷ bs) each row at left e all =
      let (one, others) = and_parts (cond_holds rules b row) (list_all (λ x. x row) (map (cond_holds rules) bs)) e in
      let right = norm b at left.0 in
      let end = added right.0 (node.Union left.1 right.1) in
      or_spared bs each.1 row at end others (added_spared s right.0 (node.Union left.1 right.1) (each.0 row at left.0 one all) refl)

  any_spared : (bs : List Cond) → AllByRecursion OfCond bs → (row : List Ty) (at : Place) (nodes : List Node) → list_all (λ x. x row) (map (cond_holds rules) bs) ≡ true → Spared s nodes → Spared s (any_on (map norm bs) at nodes).0
  any_spared [] each row at nodes e all = added_spared s nodes (node.Anti at.node at.node) all refl
  any_spared (b ∷ bs) each row at nodes e all =
      let (one, others) = and_parts (cond_holds rules b row) (list_all (λ x. x row) (map (cond_holds rules) bs)) e in
      or_spared bs each.1 row at (norm b at nodes) others (each.0 row at nodes one all)

  -- Generators with a condition.

  test_spared : (b : Option Cond) → Where OfCond b → (row : List Ty) (at : Place) (nodes : List Node) → holds_if (option_map (cond_holds rules) b) row ≡ true → Spared s nodes → Spared s (test_on (norm_if b) at nodes).0
  test_spared None law row at nodes e all = all
  test_spared (Some b) law row at nodes e all = law row at nodes e all

  denied_spared : (b : Option Cond) → Where OfCond b → (row : List Ty) (at : Place) (nodes : List Node) → holds_if (option_map (cond_holds rules) b) row ≡ true → Spared s nodes → Spared s (denied_on (norm_if b) at nodes).0
  denied_spared None law row at nodes e all =
      let truth : Cond = cond.Truth (term.Const (kept.Bool true)) in
      let inner = filter_on truth at nodes in
      added_spared s inner.0 (node.Anti at.node inner.1)
      (filter_spared s truth at nodes all (ap (named_in s) (terms-Truth (term.Const (kept.Bool true))) ∙ one_free s (term.Const (kept.Bool true)) (names-Const s (kept.Bool true)))) refl
  denied_spared (Some b) law row at nodes e all = let inner = norm b at nodes in added_spared s inner.0 (node.Anti at.node inner.1) (law row at nodes e all) refl

  pub tested_spared : (gens : List RGen) (b : Option Cond) → Where OfCond b → (row found : List Ty) (at : Place) (nodes : List Node) → rows_where rules gens (option_map (cond_holds rules) b) row ≡ Some found → Spared s nodes
      → Spared s (test_on (norm_if b) (gens_on gens at nodes).1 (gens_on gens at nodes).0).0
  tested_spared gens b law row found at nodes e all =
      let (longer, is, holds) = rows_found rules gens b row found e in
      let last = gens_on gens at nodes in
      test_spared b law longer last.1 last.0 holds (gens_spared gens row longer at nodes is all)

  pub refused_spared : (gens : List RGen) (b : Option Cond) → Where OfCond b → (row found : List Ty) (at : Place) (nodes : List Node) → rows_where rules gens (option_map (cond_holds rules) b) row ≡ Some found → Spared s nodes
      → Spared s (denied_on (norm_if b) (gens_on gens at nodes).1 (gens_on gens at nodes).0).0
  refused_spared gens b law row found at nodes e all =
      let (longer, is, holds) = rows_found rules gens b row found e in
      let last = gens_on gens at nodes in
      denied_spared b law longer last.1 last.0 holds (gens_spared gens row longer at nodes is all)

  quant_spared : (each : Bool) (gens : List RGen) (b : Option Cond) → Where OfCond b → (row found : List Ty) (at : Place) (nodes : List Node) → rows_where rules gens (option_map (cond_holds rules) b) row ≡ Some found → Spared s nodes
      → Spared s (cond_step (Cond-F.Quant each gens (norm_if b)) at nodes).0
  quant_spared true gens b law row found at nodes e all =
      let last = gens_on gens at nodes in
      let child = denied_on (norm_if b) last.1 last.0 in
      added_spared s child.0 (node.Anti at.node child.1) (refused_spared gens b law row found at nodes e all) refl
  quant_spared false gens b law row found at nodes e all =
      let last = gens_on gens at nodes in
      let child = test_on (norm_if b) last.1 last.0 in
      added_spared s child.0 (node.Semi at.node child.1) (tested_spared gens b law row found at nodes e all) refl

  -- Operands.

  cmp_spared : (op : CmpOp) (a b : Operand) → OfOperand a → OfOperand b → (row : List Ty) (at : Place) (nodes : List Node) → comparable op (operand_side rules a row) (operand_side rules b row) ≡ true → Spared s nodes
      → Spared s (cond_step (Cond-F.Cmp op (operand_bound a) (operand_bound b)) at nodes).0
  cmp_spared op a b one two row at nodes e all =
      let (x, x_is, more) = held_found (operand_side rules a row) _ e in
      let (y, y_is, same) = held_found (operand_side rules b row) _ more in
      let left = operand_bound a at nodes in
      let right = operand_bound b left.1 left.0 in
      let (first, first_free) = one row x x_is at nodes all in
      let (second, second_free) = two row y y_is left.1 left.0 first in
      compared_spared s at right.1 (cond.Cmp op left.2 right.2) right.0 second
      (ap (named_in s) (terms-Cmp op left.2 right.2) ∙ both_free s (operand_terms left.2) (operand_terms right.2) first_free second_free)

  signs_spared : (ss : List SignedOperand) → AllByRecursion OfSigned ss → (row : List Ty) → list_all (λ y. is_operand (y row)) (map (signed_side rules) ss) ≡ true → Binds (flat_map signed_terms) (all_bound (map signed_bound ss))
  signs_spared [] each row e at nodes all = (all, refl)
  signs_spared (m ∷ ss) each row e at nodes all =
      let (one, others) = and_parts (is_operand (signed_side rules m row)) (list_all (λ y. is_operand (y row)) (map (signed_side rules) ss)) e in
      let (x, x_is, more) = held_found (signed_side rules m row) _ one in
      let first = signed_bound m at nodes in
      let (own, own_free) = each.0 row x x_is at nodes all in
      let rest = all_bound (map signed_bound ss) first.1 first.0 in
      let (further, further_free) = signs_spared ss each.1 row others first.1 first.0 own in
      (further, both_free s (signed_terms first.2) (flat_map signed_terms rest.2) own_free further_free)

  chosen : (b : Bool) (x : Option Side) (z : Side) → (if b then x else None) ≡ Some z → b ≡ true
  chosen true x z e = refl
  chosen false x z e = absurd (cc)

  chain_spared : (a : Operand) (ss : List SignedOperand) → OfOperand a → AllByRecursion OfSigned ss → (row : List Ty) → is_operand (operand_side rules a row) ≡ true → list_all (λ y. is_operand (y row)) (map (signed_side rules) ss) ≡ true
      → (at : Place) (nodes : List Node) → Spared s nodes
      → Spared s (all_bound (map signed_bound ss) (operand_bound a at nodes).1 (operand_bound a at nodes).0).0
      × FreeTerms s (operand_terms (operand.Chain (operand_bound a at nodes).2 (all_bound (map signed_bound ss) (operand_bound a at nodes).1 (operand_bound a at nodes).0).2))
  chain_spared a ss law each row first others at nodes all =
      let (x, x_is, more) = held_found (operand_side rules a row) _ first in
      let left = operand_bound a at nodes in
      let (own, own_free) = law row x x_is at nodes all in
      let rest = all_bound (map signed_bound ss) left.1 left.0 in
      let (further, further_free) = signs_spared ss each row others left.1 left.0 own in
      (further, ap (named_in s) (terms-Chain left.2 rest.2) ∙ both_free s (operand_terms left.2) (flat_map signed_terms rest.2) own_free further_free)

  -- the default of an aggregate: where it has one, it is of the type of the elements
  typed_default : (other : Option Term) (vars : List ℕ) (row : List Ty) (ty : Ty) → is_typed (other_type rules other row) ty ≡ true → FreeTerms s (term_if (rename_other (part_for vars) other))
  typed_default None vars row ty e = refl
  typed_default (Some y) vars row ty e =
      let (own, found, same) = held_found (term_type rules y row) (λ z. same_type z ty) e in
      one_free s (rename (part_for vars) y) (renamed_free vars y row own found)

  default_free : (op : AggOp) (other : Option Term) (vars : List ℕ) (row : List Ty) (ty : Ty) (side : Side) → agg_type op ty (other_type rules other row) ≡ Some side → FreeTerms s (default_terms op (rename_other (part_for vars) other))
  default_free Count other vars row ty side e = refl
  default_free Sum other vars row ty side e = refl
  default_free Min other vars row ty side e =
      typed_default other vars row ty (and_parts (ordered ty) (is_typed (other_type rules other row) ty) (chosen (ordered ty && is_typed (other_type rules other row) ty) (plain ty) side e)).1
  default_free Max other vars row ty side e =
      typed_default other vars row ty (and_parts (ordered ty) (is_typed (other_type rules other row) ty) (chosen (ordered ty && is_typed (other_type rules other row) ty) (plain ty) side e)).1

  over_spared : (op : AggOp) (gens : List RGen) (b : Option Cond) (x : Term) (other : Option Term) → Where OfCond b → (row found : List Ty) (ty : Ty) (side : Side) → rows_where rules gens (option_map (cond_holds rules) b) row ≡ Some found
      → term_type rules x found ≡ Some ty → agg_type op ty (other_type rules other row) ≡ Some side → Binds operand_terms (agg_step (record { op = op; gens = gens; cond = norm_if b; term = x; other = other }))
  over_spared op gens b x other law row found ty side e typed sided at nodes all =
      let last = gens_on gens at nodes in
      let child = test_on (norm_if b) last.1 last.0 in
      let n : Node = agg_node (record { op = op; gens = gens; cond = norm_if b; term = x; other = other }) at last.1.vars child.1 in (
        added_spared s child.0 n (tested_spared gens b law row found at nodes e all)
            (or_from (names s (rename (part_for last.1.vars) x)) (named_in s (default_terms op (rename_other (part_for at.vars) other))) (renamed_free last.1.vars x found ty typed) (default_free op other at.vars row ty side sided)),
        ap (named_in s) (terms-Term (term.Part (suc at.width))) ∙ one_free s (term.Part (suc at.width)) (names-Part s (suc at.width)),
      )

  -- All forms.

  truth_case : (x : Term) → OfCond (cond.Truth x)
  truth_case x row at nodes e all =
      let (ty, found, bool) = held_found (term_type rules x row) is_bool (sym (cond_holds_at-Truth rules x row) ∙ e) in
      let made : Term = rename (part_for at.vars) x in
      spared_as s _ _ (norm-Truth x at nodes) (filter_spared s (cond.Truth made) at nodes all (ap (named_in s) (terms-Truth made) ∙ one_free s made (renamed_free at.vars x row ty found)))

  cmp_case : (op : CmpOp) (a b : Operand) → OfOperand a → OfOperand b → OfCond (cond.Cmp op a b)
  cmp_case op a b one two row at nodes e all = spared_as s _ _ (norm-Cmp op a b at nodes) (cmp_spared op a b one two row at nodes (sym (cond_holds_at-Cmp rules op a b row) ∙ e) all)

  not_case : (b : Cond) → OfCond b → OfCond (cond.Not b)
  not_case b law row at nodes e all =
      let inner = norm b at nodes in
      spared_as s _ _ (norm-Not b at nodes) (added_spared s inner.0 (node.Anti at.node inner.1) (law row at nodes (sym (cond_holds_at-Not rules b row) ∙ e) all) refl)

  and_case : (bs : List Cond) → AllByRecursion OfCond bs → OfCond (cond.And bs)
  and_case bs each row at nodes e all = spared_as s _ _ (norm-And bs at nodes) (all_spared bs each row at nodes (sym (cond_holds_at-And rules bs row) ∙ e) all)

  or_case : (bs : List Cond) → AllByRecursion OfCond bs → OfCond (cond.Or bs)
  or_case bs each row at nodes e all = spared_as s _ _ (norm-Or bs at nodes) (any_spared bs each row at nodes (sym (cond_holds_at-Or rules bs row) ∙ e) all)

  quant_case : (each : Bool) (gens : List RGen) (b : Option Cond) → Where OfCond b → OfCond (cond.Quant each gens b)
  quant_case each gens b law row at nodes e all =
      let (found, is, some) = held_found (rows_where rules gens (option_map (cond_holds rules) b) row) (λ found. true) (sym (cond_holds_at-Quant rules each gens b row) ∙ e) in
      spared_as s _ _ (norm-Quant each gens b at nodes) (quant_spared each gens b law row found at nodes is all)

  term_case : (x : Term) → OfOperand (operand.Term x)
  term_case x row side e at nodes all =
      let (ty, found, sided) = given_found (term_type rules x row) plain side (sym (operand_side_at-Term rules x row) ∙ e) in
      let made : Term = rename (part_for at.vars) x in
      bound_as s operand_terms _ _ (bound-Term x at nodes) (all, ap (named_in s) (terms-Term made) ∙ one_free s made (renamed_free at.vars x row ty found))

  agg_case : (a : Agg) → OfAgg a → OfOperand (operand.Agg a)
  agg_case a law row side e at nodes all = bound_as s operand_terms _ _ (bound-Agg a at nodes) (law row side (sym (operand_side_at-Agg rules a row) ∙ e) at nodes all)

  chain_case : (a : Operand) (ss : List SignedOperand) → OfOperand a → AllByRecursion OfSigned ss → OfOperand (operand.Chain a ss)
  chain_case a ss law each row side e at nodes all =
      let operands : (is_operand (operand_side rules a row) && list_all (λ y. is_operand (y row)) (map (signed_side rules) ss)) ≡ true = chosen _ (plain t.Int) side (sym (operand_side_at-Chain rules a ss row) ∙ e) in
      let (first, others) = and_parts (is_operand (operand_side rules a row)) (list_all (λ y. is_operand (y row)) (map (signed_side rules) ss)) operands in
      bound_as s operand_terms _ _ (bound-Chain a ss at nodes) (chain_spared a ss law each row first others at nodes all)

  over_case : (op : AggOp) (gens : List RGen) (b : Option Cond) (x : Term) (other : Option Term) → Where OfCond b → OfAgg (roll-Agg (record { op = op; gens = gens; cond = b; term = x; other = other }))
  over_case op gens b x other law row side e at nodes all =
      let (ty, some, more) = given_found (given (rows_where rules gens (option_map (cond_holds rules) b) row) (term_type rules x)) (λ ty. given (flat (t.Set ty)) (λ set. agg_type op ty (other_type rules other row))) side (sym (agg_side_at-of rules op gens b x other row) ∙ e) in
      let (whole, whole_is, sided) = given_found (flat (t.Set ty)) (λ set. agg_type op ty (other_type rules other row)) side more in
      let (found, is, typed) = given_found (rows_where rules gens (option_map (cond_holds rules) b) row) (term_type rules x) ty some in
      bound_as s operand_terms _ _ (bound-agg op gens b x other at nodes) (over_spared op gens b x other law row found ty side is typed sided at nodes all)

  signed_case : (minus : Bool) (a : Operand) → OfOperand a → OfSigned (roll-SignedOperand (record { minus = minus; operand = a }))
  signed_case minus a law row side e at nodes all =
      let only = operand_bound a at nodes in
      let (own, free) = law row side (sym (signed_side_at-of rules minus a row) ∙ e) at nodes all in
      bound_as s signed_terms _ _ (bound-signed minus a at nodes) (own, ap (named_in s) (terms_of_signed minus only.2) ∙ free)

  abbrev cases : Cases
  cases = record {
    Of_cond = OfCond;
    Of_operand = OfOperand;
    Of_agg = OfAgg;
    Of_signed = OfSigned;
    truth = truth_case;
    cmp = cmp_case;
    negation = not_case;
    conjunction = and_case;
    disjunction = or_case;
    quant = quant_case;
    term = term_case;
    agg = agg_case;
    chain = chain_case;
    over = over_case;
    signed = signed_case;
  }

  pub norm_spared : (b : Cond) → OfCond b
  norm_spared = cond_induction cases

  where_spared : (b : Option Cond) → Where OfCond b
  where_spared None = tt
  where_spared (Some b) = norm_spared b

  -- Queries.

  written_is : (b : Option Cond) → written_cond rules b ≡ option_map (cond_holds rules) b
  written_is None = refl
  written_is (Some b) = refl

  where_is : (gens : List RGen) (b : Option Cond) (found : List Ty) → rows_where rules gens (written_cond rules b) [] ≡ Some found → rows_where rules gens (option_map (cond_holds rules) b) [] ≡ Some found
  where_is gens b found e = ap (λ z. rows_where rules gens z []) (sym (written_is b)) ∙ e

  query_spared : (nodes : List Node) (q : Query) (ty : Ty) → query_type rules q ≡ Some ty → Spared s nodes → Spared s (query_node nodes q).0
  query_spared nodes (query.Quant true gens b) ty e all =
      let (found, is, more) = given_found (rows_where rules gens (written_cond rules b) []) (λ row. Some t.Bool) ty e in
      refused_spared gens b (where_spared b) [] found root nodes (where_is gens b found is) all
  query_spared nodes (query.Quant false gens b) ty e all =
      let (found, is, more) = given_found (rows_where rules gens (written_cond rules b) []) (λ row. Some t.Bool) ty e in
      tested_spared gens b (where_spared b) [] found root nodes (where_is gens b found is) all
  query_spared nodes (query.Comp x gens b) ty e all =
      let (own, some, more) = given_found (given (rows_where rules gens (written_cond rules b) []) (term_type rules x)) (λ ty. flat (t.Set ty)) ty e in
      let (found, is, typed) = given_found (rows_where rules gens (written_cond rules b) []) (term_type rules x) own some in
      tested_spared gens b (where_spared b) [] found root nodes (where_is gens b found is) all
  query_spared nodes (query.Agg a) ty e all =
      let (side, is, more) = given_found (agg_side rules a []) (λ side. Some side.ty) ty e in
      (agg_induction cases a [] side is root nodes all).0

  some_found : {A : Type 0} (o : Option A) → is_some o ≡ true → (x : A) × (o ≡ Some x)
  some_found None e = absurd (cc)
  some_found (Some x) e = (x, refl)

  abbrev Queries : List Query → Type 0
  Queries queries = (q : Query) → Has queries q → is_some (query_type rules q) ≡ true

  abbrev Conds : List Cond → Type 0
  Conds conds = (b : Cond) → Has conds b → cond_holds rules b [] ≡ true

  next_spared : (q : Query) (queries : List Query) (plan : Plan) → Queries (q ∷ queries) → Spared s plan.nodes → Spared s (with_query plan q).nodes
  next_spared q queries plan typed all = let (ty, e) = some_found (query_type rules q) (typed q (inl refl)) in query_spared plan.nodes q ty e all

  queries_spared : (queries : List Query) (plan : Plan) → Queries queries → Spared s plan.nodes → Spared s (with_all queries plan).nodes
  queries_spared [] plan typed all = all
  queries_spared (q ∷ qs) plan typed all = queries_spared qs (with_query plan q) (λ z h. typed z (inr h)) (next_spared q qs plan typed all)

  asked_spared : (n : ℕ) (queries : List Query) (plan : Plan) → Queries queries → Spared s plan.nodes → Spared s (with_asked n queries plan).0.nodes × Queries (with_asked n queries plan).1
  asked_spared zero queries plan typed all = (all, typed)
  asked_spared (suc n) [] plan typed all = (all, typed)
  asked_spared (suc n) (q ∷ qs) plan typed all = asked_spared n qs (with_query plan q) (λ z h. typed z (inr h)) (next_spared q qs plan typed all)

  met_spared : (met : List Met) (queries : List Query) (plan : Plan) → Queries queries → Conds (awaited met) → Spared s plan.nodes → Spared s (with_met met queries plan).nodes
  met_spared [] queries plan typed held_conds all = queries_spared queries plan typed all
  met_spared (Asked n ∷ met) queries plan typed held_conds all =
      let next = with_asked n queries plan in
      let (own, left) = asked_spared n queries plan typed all in
      met_spared met next.1 next.0 left held_conds own
  met_spared (Awaited b ∷ met) queries plan typed held_conds all =
      met_spared met queries (with_flag plan b) typed (λ z h. held_conds z (inr h)) (norm_spared b [] root plan.nodes (held_conds b (inl refl)) all)

  -- No node of the plan names the slot.
  pub class_spared : (class : Class) → KeepsTypes rules class → Spared s (norm_class class).nodes
  class_spared class keeps = met_spared (class_met class) class.queries opening_plan keeps.queries keeps.conds refl

-- of each class of a typed program
typed_spared : (p : Program) (class : Class) → IsTyped p → Has p.classes class → (s : ℕ) (ty : Ty) → slot_type (known p.messages class.queries class.slots) s ≡ Some ty → is_set ty ≡ true → Spared s (norm_class class).nodes
typed_spared p class typed h s ty there set = class_spared (known p.messages class.queries class.slots) s ty there set class (typed_keeps p class typed h)

-- so no node names such a slot
pub typed_spares : (p : Program) (class : Class) → IsTyped p → Has p.classes class → SparesSets p class (norm_class class).nodes
typed_spares p class typed h s (ty, there, set) n among =
    false_from_ne_true (node_names s n)
    (λ named. false≢true (sym (typed_spared p class typed h s ty there set) ∙ any_from_has (node_names s) (norm_class class).nodes n among named))

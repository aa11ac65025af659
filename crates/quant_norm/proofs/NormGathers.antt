-- The nodes of a condition need of the histories what its generators need, where it keeps the rules of types.
use Rattle.std.specs.Prelude.{◌≡◌, ◌≤◌, ◌==◌, ℕ, suc, Bool, true, false, ◌&&◌, if◌then◌else◌, List, [], ◌∷◌, ◌++◌, map, length, Option, Some, None, refl}
use Rattle.std.specs.List.{AllByRecursion, list_all, flat_map, range_with_len}
use Rattle.std.specs.Option.{option_map}
use Rattle.std.proofs.Common.{sym, subst, ◌∙◌, arith, length-append}
use Rattle.std.proofs.lemmas.Bool.{and_parts}
use Rattle.std.proofs.lemmas.List.FromFn.{length-range_with_len}
use Rattle.da_lang.specs.declared.query.Agg.{Agg, roll-Agg}
use Rattle.da_lang.specs.declared.query.AggOp.{AggOp}
use Rattle.da_lang.specs.declared.query.Cond.{Cond}
use Rattle.da_lang.specs.declared.query.Cond.TheVariants as cond
use Rattle.da_lang.specs.declared.query.Cond.TheOpen.{Cond-F}
use Rattle.da_lang.specs.declared.query.Node.{Node}
use Rattle.da_lang.specs.declared.query.Node.TheVariants as node
use Rattle.da_lang.specs.declared.query.Operand.{Operand}
use Rattle.da_lang.specs.declared.query.Operand.TheVariants as operand
use Rattle.da_lang.specs.declared.query.RGen.{RGen}
use Rattle.da_lang.specs.declared.query.SignedOperand.{SignedOperand, roll-SignedOperand}
use Rattle.da_lang.specs.declared.query.Term.{Term}
use Rattle.da_lang.specs.declared.tree.CmpOp.{CmpOp}
use Rattle.da_lang.specs.declared.ty.Ty.{Ty}
use Rattle.da_lang.specs.declared.ty.Ty.TheVariants as t
use Rattle.da_lang.specs.Live.{Gens, gens_where, cond_gens, agg_gens}
use Rattle.da_lang.specs.QueryTypes.{Known, Side, given, when, flat, plain, is_operand, agg_type, other_type, term_type, gen_row, gens_row, holds_if, rows_where, comparable, cond_holds, operand_side, agg_side, signed_side}
use Rattle.da_lang.proofs.CondInduction.{Where, Cases, cond_induction, agg_induction}
use Rattle.da_lang.proofs.LiveLaws.{operand_gens, signed_gens, gens-Truth, gens-Cmp, gens-Not, gens-And, gens-Or, gens-Quant, gens-Term, gens-Agg, gens-Chain, gens_of_signed, gens_of_agg}
use Rattle.da_lang.proofs.typing.QueryTypesAt.{cond_holds_at-Cmp, cond_holds_at-Not, cond_holds_at-And, cond_holds_at-Or, cond_holds_at-Quant, operand_side_at-Agg, operand_side_at-Chain, agg_side_at-of, signed_side_at-of}
use Rattle.query_plan.specs.Nodes.{parts_added}
use Rattle.query_plan.specs.PlanLive.{history_lives}
use Rattle.query_plan.specs.Plans.{Place, Binding, added, at_node, filter_on, semi_on, anti_on, vars_after, place_after, gen_node, gens_on, all_on, or_on, any_on, test_on, denied_on, all_bound, compared, cond_step, agg_node, agg_step, known as part_for, rename, rename_gen, norm, norm_if, operand_bound, agg_bound, signed_bound}
use Rattle.query_plan.proofs.PlansAt.{norm-Truth, norm-Cmp, norm-Not, norm-And, norm-Or, norm-Quant, bound-Term, bound-Agg, bound-Chain, bound-agg, bound-signed}
use Rattle.quant_norm.proofs.GatherLaws.{Gathers, gathers_none, gathers_then, gathers_more, gathers_alike, alike_as, one_lives, added_gathers}
use Rattle.quant_norm.proofs.VariesLaws.{given_found, held_found, when_found, gen_lives}

-- A node without a generator.

pub filter_gathers : (b : Cond) (at : Place) (nodes : List Node) → Gathers [] nodes (filter_on b at nodes).0
filter_gathers b at nodes = added_gathers nodes (node.Filter at.node b)

semi_gathers : (gens : Gens) (nodes : List Node) (at : Place) (child : List Node × ℕ) → Gathers gens nodes child.0 → Gathers gens nodes (semi_on at child).0
semi_gathers gens nodes at child gathers = gathers_more gens nodes child.0 (semi_on at child).0 gathers (added_gathers child.0 (node.Semi at.node child.1))

anti_gathers : (gens : Gens) (nodes : List Node) (at : Place) (child : List Node × ℕ) → Gathers gens nodes child.0 → Gathers gens nodes (anti_on at child).0
anti_gathers gens nodes at child gathers = gathers_more gens nodes child.0 (anti_on at child).0 gathers (added_gathers child.0 (node.Anti at.node child.1))

choice_gathers : (direct : Bool) (at last : Place) (b : Cond) (nodes : List Node) → Gathers [] nodes (if direct then filter_on b at nodes else semi_on at (filter_on b last nodes)).0
choice_gathers true at last b nodes = filter_gathers b at nodes
choice_gathers false at last b nodes = semi_gathers [] nodes at (filter_on b last nodes) (filter_gathers b last nodes)

compared_gathers : (at last : Place) (b : Cond) (nodes : List Node) → Gathers [] nodes (compared at last b nodes).0
compared_gathers at last b nodes = choice_gathers (at.node == last.node) at last b nodes

-- From what the generators, or the nodes, are.
gathers_as : {A : Type 0} (gens made : Gens) (nodes : List Node) (a b : List Node × A) → gens ≡ made → a ≡ b → Gathers made nodes b.0 → Gathers gens nodes a.0
gathers_as gens made nodes a b e f gathers = subst (λ z. Gathers z nodes a.0) (sym e) (subst (λ z. Gathers made nodes z.0) (sym f) gathers)

module _ (rules : Known) where
  -- no more variables than stand at the place
  abbrev pub Few : List Ty → Place → Type 0
  Few row at = length row ≤ length at.vars

  -- one generator
  gen_gathers : (g : RGen) (row longer : List Ty) (at : Place) (nodes : List Node) → gen_row rules g row ≡ Some longer → Few row at → Gathers (g ∷ []) nodes (added nodes (gen_node at g)).0 × (length longer ≤ length (vars_after at g))
  gen_gathers g row longer at nodes e few =
      let (long, same) = gen_lives rules (vars_after at g) g row longer e in
      let less : length longer ≤ length (vars_after at g) = omega (arith, long, few, length-append at.vars (range_with_len (suc at.width) (parts_added g)), length-range_with_len (suc at.width) (parts_added g)) in
      let renamed : RGen = rename_gen (part_for (vars_after at g)) g in (
        gathers_alike (renamed ∷ []) (g ∷ []) nodes (added nodes (gen_node at g)).0 (alike_as (history_lives (renamed ∷ [])) (history_lives (g ∷ [])) (one_lives renamed g refl (same less))) (added_gathers nodes (gen_node at g)),
        less,
      )

  pub gens_gather : (gens : List RGen) (row longer : List Ty) (at : Place) (nodes : List Node) → gens_row rules gens row ≡ Some longer → Few row at → Gathers gens nodes (gens_on gens at nodes).0 × Few longer (gens_on gens at nodes).1
  gens_gather [] row longer at nodes e few = let same : row ≡ longer = cc in (gathers_none nodes, subst (λ z. Few z at) same few)
  gens_gather (g ∷ gs) row longer at nodes e few =
      let (middle, one, others) = given_found (gen_row rules g row) (gens_row rules gs) longer e in
      let first = added nodes (gen_node at g) in
      let (own, less) = gen_gathers g row middle at nodes one few in
      let (more, further) = gens_gather gs middle longer (place_after at g first.1) first.0 others less in
      (gathers_then (g ∷ []) gs nodes first.0 (gens_on gs (place_after at g first.1) first.0).0 own more, further)

  abbrev pub OfCond : Cond → Type 0
  OfCond b = (row : List Ty) (at : Place) (nodes : List Node) → cond_holds rules b row ≡ true → Few row at → Gathers (cond_gens b) nodes (norm b at nodes).0

  -- what is bound, and that the variables stay where they are
  abbrev Binds : {A : Type 0} → Gens → Binding A → List Ty → Type 0
  Binds gens f row = (at : Place) (nodes : List Node) → Few row at → Gathers gens nodes (f at nodes).0 × ((f at nodes).1.vars ≡ at.vars)

  abbrev OfOperand : Operand → Type 0
  OfOperand a = (row : List Ty) (side : Side) → operand_side rules a row ≡ Some side → Binds (operand_gens a) (operand_bound a) row

  abbrev pub OfAgg : Agg → Type 0
  OfAgg a = (row : List Ty) (side : Side) → agg_side rules a row ≡ Some side → Binds (agg_gens a) (agg_bound a) row

  abbrev OfSigned : SignedOperand → Type 0
  OfSigned s = (row : List Ty) (side : Side) → signed_side rules s row ≡ Some side → Binds (signed_gens s) (signed_bound s) row

  -- Lists of conditions.

  each_holds : (b : Cond) (bs : List Cond) (row : List Ty) → list_all (λ x. x row) (map (cond_holds rules) (b ∷ bs)) ≡ true → (cond_holds rules b row ≡ true) × (list_all (λ x. x row) (map (cond_holds rules) bs) ≡ true)
  each_holds b bs row e = and_parts (cond_holds rules b row) (list_all (λ x. x row) (map (cond_holds rules) bs)) e

  all_gather : (bs : List Cond) → AllByRecursion OfCond bs → (row : List Ty) (at : Place) (nodes : List Node) → list_all (λ x. x row) (map (cond_holds rules) bs) ≡ true → Few row at → Gathers (flat_map cond_gens bs) nodes (all_on (map norm bs) at nodes).0
  all_gather [] each row at nodes e few = gathers_none nodes
  all_gather (b ∷ bs) each row at nodes e few =
      let (one, others) = each_holds b bs row e in
      let first = norm b at nodes in
      gathers_then (cond_gens b) (flat_map cond_gens bs) nodes first.0 (all_on (map norm bs) (at_node at first.1) first.0).0 (each.0 row at nodes one few) (all_gather bs each.1 row (at_node at first.1) first.0 others few)

  or_gather : (bs : List Cond) → AllByRecursion OfCond bs → (row : List Ty) (at : Place) (left : List Node × ℕ) → list_all (λ x. x row) (map (cond_holds rules) bs) ≡ true → Few row at → Gathers (flat_map cond_gens bs) left.0 (or_on (map norm bs) at left).0
  or_gather [] each row at left e few = gathers_none left.0
  or_gather (b ∷ bs) each row at left e few =
      let (one, others) = each_holds b bs row e in
      let right = norm b at left.0 in
      let end = added right.0 (node.Union left.1 right.1) in
      gathers_then (cond_gens b) (flat_map cond_gens bs) left.0 end.0 (or_on (map norm bs) at end).0
      (gathers_more (cond_gens b) left.0 right.0 end.0 (each.0 row at left.0 one few) (added_gathers right.0 (node.Union left.1 right.1)))
      (or_gather bs each.1 row at end others few)

  any_gather : (bs : List Cond) → AllByRecursion OfCond bs → (row : List Ty) (at : Place) (nodes : List Node) → list_all (λ x. x row) (map (cond_holds rules) bs) ≡ true → Few row at → Gathers (flat_map cond_gens bs) nodes (any_on (map norm bs) at nodes).0
  any_gather [] each row at nodes e few = anti_gathers [] nodes at (nodes, at.node) (gathers_none nodes)
  any_gather (b ∷ bs) each row at nodes e few =
      let (one, others) = each_holds b bs row e in
      let first = norm b at nodes in
      gathers_then (cond_gens b) (flat_map cond_gens bs) nodes first.0 (or_on (map norm bs) at first).0 (each.0 row at nodes one few) (or_gather bs each.1 row at first others few)

  -- Generators with a condition.

  pub test_gathers : (b : Option Cond) → Where OfCond b → (row : List Ty) (at : Place) (nodes : List Node) → holds_if (option_map (cond_holds rules) b) row ≡ true → Few row at → Gathers (gens_where b) nodes (test_on (norm_if b) at nodes).0
  test_gathers None law row at nodes e few = gathers_none nodes
  test_gathers (Some b) law row at nodes e few = law row at nodes e few

  pub denied_gathers : (b : Option Cond) → Where OfCond b → (row : List Ty) (at : Place) (nodes : List Node) → holds_if (option_map (cond_holds rules) b) row ≡ true → Few row at → Gathers (gens_where b) nodes (denied_on (norm_if b) at nodes).0
  denied_gathers None law row at nodes e few = anti_gathers [] nodes at (filter_on _ at nodes) (filter_gathers _ at nodes)
  denied_gathers (Some b) law row at nodes e few = anti_gathers (cond_gens b) nodes at (norm b at nodes) (law row at nodes e few)

  -- the rows of generators with a condition: those of the generators, and what the condition keeps
  pub rows_found : (gens : List RGen) (b : Option Cond) (row found : List Ty) → rows_where rules gens (option_map (cond_holds rules) b) row ≡ Some found → (longer : List Ty) × (gens_row rules gens row ≡ Some longer) × (holds_if (option_map (cond_holds rules) b) longer ≡ true)
  rows_found gens b row found e =
      let (longer, is, kept) = given_found (gens_row rules gens row) (λ found. when (holds_if (option_map (cond_holds rules) b) found) found) found e in
      (longer, is, (when_found (holds_if (option_map (cond_holds rules) b) longer) longer found kept).0)

  pub tested_gathers : (gens : List RGen) (b : Option Cond) → Where OfCond b → (row found : List Ty) (at : Place) (nodes : List Node) → rows_where rules gens (option_map (cond_holds rules) b) row ≡ Some found → Few row at
      → Gathers (gens ++ gens_where b) nodes (test_on (norm_if b) (gens_on gens at nodes).1 (gens_on gens at nodes).0).0
  tested_gathers gens b law row found at nodes e few =
      let (longer, is, kept) = rows_found gens b row found e in
      let last = gens_on gens at nodes in
      let (own, less) = gens_gather gens row longer at nodes is few in
      gathers_then gens (gens_where b) nodes last.0 (test_on (norm_if b) last.1 last.0).0 own (test_gathers b law longer last.1 last.0 kept less)

  pub refused_gathers : (gens : List RGen) (b : Option Cond) → Where OfCond b → (row found : List Ty) (at : Place) (nodes : List Node) → rows_where rules gens (option_map (cond_holds rules) b) row ≡ Some found → Few row at
      → Gathers (gens ++ gens_where b) nodes (denied_on (norm_if b) (gens_on gens at nodes).1 (gens_on gens at nodes).0).0
  refused_gathers gens b law row found at nodes e few =
      let (longer, is, kept) = rows_found gens b row found e in
      let last = gens_on gens at nodes in
      let (own, less) = gens_gather gens row longer at nodes is few in
      gathers_then gens (gens_where b) nodes last.0 (denied_on (norm_if b) last.1 last.0).0 own (denied_gathers b law longer last.1 last.0 kept less)

  quant_gathers : (each : Bool) (gens : List RGen) (b : Option Cond) → Where OfCond b → (row found : List Ty) (at : Place) (nodes : List Node) → rows_where rules gens (option_map (cond_holds rules) b) row ≡ Some found → Few row at
      → Gathers (gens ++ gens_where b) nodes (cond_step (Cond-F.Quant each gens (norm_if b)) at nodes).0
  quant_gathers true gens b law row found at nodes e few =
      let last = gens_on gens at nodes in
      anti_gathers (gens ++ gens_where b) nodes at (denied_on (norm_if b) last.1 last.0) (refused_gathers gens b law row found at nodes e few)
  quant_gathers false gens b law row found at nodes e few =
      let last = gens_on gens at nodes in
      semi_gathers (gens ++ gens_where b) nodes at (test_on (norm_if b) last.1 last.0) (tested_gathers gens b law row found at nodes e few)

  -- Operands.

  cmp_gathers : (op : CmpOp) (a b : Operand) → OfOperand a → OfOperand b → (row : List Ty) (at : Place) (nodes : List Node) → comparable op (operand_side rules a row) (operand_side rules b row) ≡ true → Few row at
      → Gathers (operand_gens a ++ operand_gens b) nodes (cond_step (Cond-F.Cmp op (operand_bound a) (operand_bound b)) at nodes).0
  cmp_gathers op a b one two row at nodes e few =
      let (x, x_is, more) = held_found (operand_side rules a row) _ e in
      let (y, y_is, same) = held_found (operand_side rules b row) _ more in
      let left = operand_bound a at nodes in
      let right = operand_bound b left.1 left.0 in
      let made : Cond = cond.Cmp op left.2 right.2 in
      let (first, stay) = one row x x_is at nodes few in
      let (second, still) = two row y y_is left.1 left.0 (subst (λ z. length row ≤ length z) (sym stay) few) in
      gathers_more (operand_gens a ++ operand_gens b) nodes right.0 (compared at right.1 made right.0).0 (gathers_then (operand_gens a) (operand_gens b) nodes left.0 right.0 first second) (compared_gathers at right.1 made right.0)

  signs_gather : (ss : List SignedOperand) → AllByRecursion OfSigned ss → (row : List Ty) → list_all (λ y. is_operand (y row)) (map (signed_side rules) ss) ≡ true → Binds (flat_map signed_gens ss) (all_bound (map signed_bound ss)) row
  signs_gather [] each row e at nodes few = (gathers_none nodes, refl)
  signs_gather (s ∷ ss) each row e at nodes few =
      let (one, others) = and_parts (is_operand (signed_side rules s row)) (list_all (λ y. is_operand (y row)) (map (signed_side rules) ss)) e in
      let (x, x_is, more) = held_found (signed_side rules s row) _ one in
      let first = signed_bound s at nodes in
      let (own, stay) = each.0 row x x_is at nodes few in
      let (rest, still) = signs_gather ss each.1 row others first.1 first.0 (subst (λ z. length row ≤ length z) (sym stay) few) in
      (gathers_then (signed_gens s) (flat_map signed_gens ss) nodes first.0 (all_bound (map signed_bound ss) first.1 first.0).0 own rest, still ∙ stay)

  chosen : (b : Bool) (x : Option Side) (z : Side) → (if b then x else None) ≡ Some z → b ≡ true
  chosen true x z e = refl
  chosen false x z e = absurd (cc)

  chain_gathers : (a : Operand) (ss : List SignedOperand) → OfOperand a → AllByRecursion OfSigned ss → (row : List Ty) → is_operand (operand_side rules a row) ≡ true → list_all (λ y. is_operand (y row)) (map (signed_side rules) ss) ≡ true
      → (at : Place) (nodes : List Node) → Few row at → Gathers (operand_gens a ++ flat_map signed_gens ss) nodes (all_bound (map signed_bound ss) (operand_bound a at nodes).1 (operand_bound a at nodes).0).0 × ((all_bound (map signed_bound ss) (operand_bound a at nodes).1 (operand_bound a at nodes).0).1.vars ≡ at.vars)
  chain_gathers a ss law each row first others at nodes few =
      let (x, x_is, more) = held_found (operand_side rules a row) _ first in
      let left = operand_bound a at nodes in
      let (own, stay) = law row x x_is at nodes few in
      let (rest, still) = signs_gather ss each row others left.1 left.0 (subst (λ z. length row ≤ length z) (sym stay) few) in
      (gathers_then (operand_gens a) (flat_map signed_gens ss) nodes left.0 (all_bound (map signed_bound ss) left.1 left.0).0 own rest, still ∙ stay)

  over_gathers : (op : AggOp) (gens : List RGen) (b : Option Cond) (x : Term) (other : Option Term) → Where OfCond b → (row found : List Ty) → rows_where rules gens (option_map (cond_holds rules) b) row ≡ Some found
      → (at : Place) (nodes : List Node) → Few row at → Gathers (gens ++ gens_where b) nodes (agg_step (record { op = op; gens = gens; cond = norm_if b; term = x; other = other }) at nodes).0
  over_gathers op gens b x other law row found e at nodes few =
      let last = gens_on gens at nodes in
      let child = test_on (norm_if b) last.1 last.0 in
      let n : Node = agg_node (record { op = op; gens = gens; cond = norm_if b; term = x; other = other }) at last.1.vars child.1 in
      gathers_more (gens ++ gens_where b) nodes child.0 (added child.0 n).0 (tested_gathers gens b law row found at nodes e few) (added_gathers child.0 n)

  -- All forms.

  truth_case : (x : Term) → OfCond (cond.Truth x)
  truth_case x row at nodes e few =
      gathers_as (cond_gens (cond.Truth x)) [] nodes _ _ (gens-Truth x) (norm-Truth x at nodes) (filter_gathers (cond.Truth (rename (part_for at.vars) x)) at nodes)

  cmp_case : (op : CmpOp) (a b : Operand) → OfOperand a → OfOperand b → OfCond (cond.Cmp op a b)
  cmp_case op a b one two row at nodes e few =
      gathers_as (cond_gens (cond.Cmp op a b)) (operand_gens a ++ operand_gens b) nodes _ _ (gens-Cmp op a b) (norm-Cmp op a b at nodes) (cmp_gathers op a b one two row at nodes (sym (cond_holds_at-Cmp rules op a b row) ∙ e) few)

  not_case : (b : Cond) → OfCond b → OfCond (cond.Not b)
  not_case b law row at nodes e few =
      gathers_as (cond_gens (cond.Not b)) (cond_gens b) nodes _ _ (gens-Not b) (norm-Not b at nodes) (anti_gathers (cond_gens b) nodes at (norm b at nodes) (law row at nodes (sym (cond_holds_at-Not rules b row) ∙ e) few))

  and_case : (bs : List Cond) → AllByRecursion OfCond bs → OfCond (cond.And bs)
  and_case bs each row at nodes e few =
      gathers_as (cond_gens (cond.And bs)) (flat_map cond_gens bs) nodes _ _ (gens-And bs) (norm-And bs at nodes) (all_gather bs each row at nodes (sym (cond_holds_at-And rules bs row) ∙ e) few)

  or_case : (bs : List Cond) → AllByRecursion OfCond bs → OfCond (cond.Or bs)
  or_case bs each row at nodes e few =
      gathers_as (cond_gens (cond.Or bs)) (flat_map cond_gens bs) nodes _ _ (gens-Or bs) (norm-Or bs at nodes) (any_gather bs each row at nodes (sym (cond_holds_at-Or rules bs row) ∙ e) few)

  quant_case : (each : Bool) (gens : List RGen) (b : Option Cond) → Where OfCond b → OfCond (cond.Quant each gens b)
  quant_case each gens b law row at nodes e few =
      let (found, is, some) = held_found (rows_where rules gens (option_map (cond_holds rules) b) row) (λ found. true) (sym (cond_holds_at-Quant rules each gens b row) ∙ e) in
      gathers_as (cond_gens (cond.Quant each gens b)) (gens ++ gens_where b) nodes _ _ (gens-Quant each gens b) (norm-Quant each gens b at nodes) (quant_gathers each gens b law row found at nodes is few)

  -- the same of what is bound
  binds_as : {A : Type 0} (gens made : Gens) (at : Place) (nodes : List Node) (a b : List Node × Place × A) → gens ≡ made → a ≡ b → Gathers made nodes b.0 × (b.1.vars ≡ at.vars) → Gathers gens nodes a.0 × (a.1.vars ≡ at.vars)
  binds_as gens made at nodes a b e f both =
      subst (λ z. Gathers z nodes a.0 × (a.1.vars ≡ at.vars)) (sym e) (subst (λ z. Gathers made nodes z.0 × (z.1.vars ≡ at.vars)) (sym f) both)

  term_case : (x : Term) → OfOperand (operand.Term x)
  term_case x row side e at nodes few = binds_as (operand_gens (operand.Term x)) [] at nodes _ _ (gens-Term x) (bound-Term x at nodes) (gathers_none nodes, refl)

  agg_case : (a : Agg) → OfAgg a → OfOperand (operand.Agg a)
  agg_case a law row side e at nodes few =
      binds_as (operand_gens (operand.Agg a)) (agg_gens a) at nodes _ _ (gens-Agg a) (bound-Agg a at nodes) (law row side (sym (operand_side_at-Agg rules a row) ∙ e) at nodes few)

  chain_case : (a : Operand) (ss : List SignedOperand) → OfOperand a → AllByRecursion OfSigned ss → OfOperand (operand.Chain a ss)
  chain_case a ss law each row side e at nodes few =
      let kept : (is_operand (operand_side rules a row) && list_all (λ y. is_operand (y row)) (map (signed_side rules) ss)) ≡ true = chosen _ (plain t.Int) side (sym (operand_side_at-Chain rules a ss row) ∙ e) in
      let (first, others) = and_parts (is_operand (operand_side rules a row)) (list_all (λ y. is_operand (y row)) (map (signed_side rules) ss)) kept in
      binds_as (operand_gens (operand.Chain a ss)) (operand_gens a ++ flat_map signed_gens ss) at nodes _ _ (gens-Chain a ss) (bound-Chain a ss at nodes) (chain_gathers a ss law each row first others at nodes few)

  over_case : (op : AggOp) (gens : List RGen) (b : Option Cond) (x : Term) (other : Option Term) → Where OfCond b → OfAgg (roll-Agg (record { op = op; gens = gens; cond = b; term = x; other = other }))
  over_case op gens b x other law row side e at nodes few =
      let (ty, some, set) = given_found (given (rows_where rules gens (option_map (cond_holds rules) b) row) (term_type rules x)) (λ ty. given (flat (t.Set ty)) (λ set. agg_type op ty (other_type rules other row))) side (sym (agg_side_at-of rules op gens b x other row) ∙ e) in
      let (found, is, typed) = given_found (rows_where rules gens (option_map (cond_holds rules) b) row) (term_type rules x) ty some in
      binds_as (agg_gens (roll-Agg (record { op = op; gens = gens; cond = b; term = x; other = other }))) (gens ++ gens_where b) at nodes _ _ (gens_of_agg op gens b x other) (bound-agg op gens b x other at nodes)
      (over_gathers op gens b x other law row found is at nodes few, refl)

  signed_case : (minus : Bool) (a : Operand) → OfOperand a → OfSigned (roll-SignedOperand (record { minus = minus; operand = a }))
  signed_case minus a law row side e at nodes few =
      binds_as (signed_gens (roll-SignedOperand (record { minus = minus; operand = a }))) (operand_gens a) at nodes _ _ (gens_of_signed minus a) (bound-signed minus a at nodes) (law row side (sym (signed_side_at-of rules minus a row) ∙ e) at nodes few)

  abbrev cases : Cases
  cases = record {
    Of_cond = OfCond;
    Of_operand = OfOperand;
    Of_agg = OfAgg;
    Of_signed = OfSigned;
    truth = truth_case;
    cmp = cmp_case;
    negation = not_case;
    conjunction = and_case;
    disjunction = or_case;
    quant = quant_case;
    term = term_case;
    agg = agg_case;
    chain = chain_case;
    over = over_case;
    signed = signed_case;
  }

  pub norm_gathers : (b : Cond) → OfCond b
  norm_gathers = cond_induction cases

  pub agg_gathers : (a : Agg) → OfAgg a
  agg_gathers = agg_induction cases

  pub where_gathers : (b : Option Cond) → Where OfCond b
  where_gathers None = tt
  where_gathers (Some b) = norm_gathers b

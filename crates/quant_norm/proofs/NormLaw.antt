-- The node of a condition has the rows of the place for which the condition holds. This is so of every condition, also of
-- one that keeps no rule of types.
use Rattle.std.specs.Prelude.{◌≡◌, ◌⊎◌, ℕ, suc, ℤ, ◌+ℤ◌, neg_ℤ, Bool, true, false, not, ◌||◌, if◌then◌else◌, List, [], ◌∷◌, ◌++◌, map, Option, Some, None, refl}
use Rattle.std.specs.List.{AllByRecursion, list_any, list_all, filter}
use Rattle.std.proofs.Common.{ap, sym, subst, ◌∙◌, arith, inl, inr}
use Rattle.std.proofs.lemmas.Bool.{and_parts, and_from, or_cases, or_left, or_right}
use Rattle.da_values.specs.declared.val.Val.{Val}
use Rattle.da_values.specs.declared.val.Val.TheVariants as val
use Rattle.da_values.specs.declared.value.Value.TheVariants as kept_value
use Rattle.da_values.specs.Views.{int_of, truth_of}
use Rattle.da_values.proofs.ViewLaws.{truth_of-Bool}
use Rattle.da_lang.specs.declared.query.Agg.{Agg, roll-Agg}
use Rattle.da_lang.specs.declared.query.AggOp.{AggOp}
use Rattle.da_lang.specs.declared.query.Cond.{Cond}
use Rattle.da_lang.specs.declared.query.Cond.TheVariants as cond
use Rattle.da_lang.specs.declared.query.Cond.TheOpen.{Cond-F, Operand-F}
use Rattle.query_plan.proofs.PlansAt.{norm-Truth, norm-Cmp, norm-Not, norm-And, norm-Or, norm-Quant, bound-Term, bound-Agg, bound-Chain, bound-agg, bound-signed}
use Rattle.da_lang.specs.declared.query.Node.{Node}
use Rattle.da_lang.specs.declared.query.Node.TheVariants as node
use Rattle.da_lang.specs.declared.query.Operand.{Operand}
use Rattle.da_lang.specs.declared.query.Operand.TheVariants as operand
use Rattle.da_lang.specs.declared.query.RGen.{RGen}
use Rattle.da_lang.specs.declared.query.SignedOperand.{SignedOperand, roll-SignedOperand}
use Rattle.da_lang.specs.declared.query.Term.{Term}
use Rattle.da_lang.specs.declared.query.Term.TheVariants as term
use Rattle.da_lang.specs.declared.tree.CmpOp.{CmpOp}
use Rattle.da_lang.specs.Matching.{Row}
use Rattle.da_lang.specs.Queries.{holds, holds_where, operand_value, agg_value, signed_value, extensions, total, value_at, aggregate, other_value, term_set}
use Rattle.da_lang.specs.World.{Data}
use Rattle.da_lang.proofs.CondInduction.{Where, cond_induction, agg_induction, Cases}
use Rattle.da_lang.proofs.MatchingLaws.{term-Const}
use Rattle.da_lang.proofs.QueryLaws.{holds-Truth, holds-Cmp, holds-Not, holds-And, holds-Or, holds-Some, holds-Each, operand-Term, operand-Agg, operand-Chain, signed-made, agg-made}
use Rattle.query_plan.specs.Plans.{Place, Norm, Binding, added, at_node, filter_on, anti_on, gens_on, all_on, or_on, any_on, test_on, denied_on, some_on, each_on, all_bound, compared, cond_step, operand_step, after_agg, agg_step, signed_step, norm, operand_bound, agg_bound, signed_bound, norm_if, known, rename, rename_other}
use Rattle.quant_norm.proofs.BoundLaws.{Bound, bound_none, bound_then, bound_by, compared_kept, agg_bound_law, term_after}
use Rattle.quant_norm.specs.GoodPlaces.{Good}
use Rattle.quant_norm.proofs.PlaceLaws.{Grown, grown_on, still_there, width_stays, good_on, added_made, Kept, kept_by, kept_then, kept_all, filter_kept, union_kept}
use Rattle.quant_norm.proofs.RangeLaws.{IsNorm, gens_ranged, not_kept, some_kept, each_kept}
use Rattle.quant_norm.specs.Filtering.{seen}
use Rattle.quant_norm.proofs.RenameLaws.{known_value}

or_false : (x : Bool) → (x || false) ≡ x
or_false true = refl
or_false false = refl

or_swap : (x y z : Bool) → (x || (y || z)) ≡ ((x || y) || z)
or_swap true y z = refl
or_swap false y z = refl

-- the written `true`
abbrev truth : Cond
truth = cond.Truth (term.Const (kept_value.Bool true))

module _ (d : Data) where
  abbrev OfCond : Cond → Type 0
  OfCond b = IsNorm d (norm b) (holds d b)

  abbrev OfOperand : Operand → Type 0
  OfOperand a = (nodes : List Node) (at : Place) → Good nodes at → Bound d (operand_value d) (operand_value d a) nodes at (operand_bound a at nodes)

  abbrev OfAgg : Agg → Type 0
  OfAgg a = (nodes : List Node) (at : Place) → Good nodes at → Bound d (operand_value d) (agg_value d a) nodes at (agg_bound a at nodes)

  abbrev OfSigned : SignedOperand → Type 0
  OfSigned s = (nodes : List Node) (at : Place) → Good nodes at → Bound d (signed_value d) (signed_value d s) nodes at (signed_bound s at nodes)

  -- the same nodes for a test with the same answers
  norm_as : (f g : Norm) (test other : Row → Bool) → ((at : Place) (nodes : List Node) → f at nodes ≡ g at nodes) → ((r : Row) → test r ≡ other r) → IsNorm d g other → IsNorm d f test
  norm_as f g test other e same law nodes at good =
      subst (λ end. Kept d (λ r. test (seen at.vars r) ≡ true) nodes at end) (sym (e at nodes))
      (kept_by d (λ r. other (seen at.vars r) ≡ true) (λ r. test (seen at.vars r) ≡ true) nodes at (g at nodes)
      (λ r h. ((λ x. same (seen at.vars r) ∙ x), (λ x. sym (same (seen at.vars r)) ∙ x))) (law nodes at good))

  -- Conditions of the several forms.

  truth_law : (t : Term) → IsNorm d (λ at nodes. filter_on (cond.Truth (rename (known at.vars) t)) at nodes) (λ r. truth_of (value_at d r t))
  truth_law t nodes at good =
      kept_by d (λ r. holds d (cond.Truth (rename (known at.vars) t)) r ≡ true) (λ r. truth_of (value_at d (seen at.vars r) t) ≡ true) nodes at (filter_on (cond.Truth (rename (known at.vars) t)) at nodes)
      (λ r h. ((λ x. sym (is r) ∙ x), (λ x. is r ∙ x))) (filter_kept d (cond.Truth (rename (known at.vars) t)) nodes at good)
    where
      is : (r : Row) → holds d (cond.Truth (rename (known at.vars) t)) r ≡ truth_of (value_at d (seen at.vars r) t)
      is r = holds-Truth d r (rename (known at.vars) t) ∙ ap truth_of (known_value d.me d.slots at.vars r t)

  cmp_law : (op : CmpOp) (a b : Operand) → OfOperand a → OfOperand b → IsNorm d (cond_step (Cond-F.Cmp op (operand_bound a) (operand_bound b))) (holds d (cond.Cmp op a b))
  cmp_law op a b one two nodes at good =
      let left = operand_bound a at nodes in
      let right = operand_bound b left.1 left.0 in
      kept_by d _ (λ r. holds d (cond.Cmp op a b) (seen at.vars r) ≡ true) nodes at (compared at right.1 (cond.Cmp op left.2 right.2) right.0)
      (λ r h. ((λ x. holds-Cmp d (seen at.vars r) op a b ∙ x), (λ x. sym (holds-Cmp d (seen at.vars r) op a b) ∙ x)))
      (compared_kept d op left.2 right.2 (λ s. (operand_value d a s, operand_value d b s)) nodes at right.0 right.1 good
      (bound_then d (operand_value d) (operand_value d a) (operand_value d) (operand_value d b) nodes at left right good (one nodes at good) (two left.0 left.1 (one nodes at good).good)))

  all_law : (bs : List Cond) → AllByRecursion OfCond bs → IsNorm d (all_on (map norm bs)) (λ r. list_all (λ b. holds d b r) bs)
  all_law [] each nodes at good = kept_all d _ nodes at good (λ r h. refl)
  all_law (b ∷ bs) each nodes at good =
      let first = norm b at nodes in
      let one = each.0 nodes at good in
      kept_by d (λ r. (holds d b (seen at.vars r) ≡ true) × (list_all (λ c. holds d c (seen at.vars r)) bs ≡ true)) _ nodes at (all_on (map norm bs) (at_node at first.1) first.0)
      (λ r h. (
        (λ both. and_from (holds d b (seen at.vars r)) (list_all (λ c. holds d c (seen at.vars r)) bs) both.0 both.1),
        (λ x. and_parts (holds d b (seen at.vars r)) (list_all (λ c. holds d c (seen at.vars r)) bs) x),
      ))
      (kept_then d (λ r. holds d b (seen at.vars r) ≡ true) (λ r. list_all (λ c. holds d c (seen at.vars r)) bs ≡ true) nodes at first (all_on (map norm bs) (at_node at first.1) first.0)
      one (all_law bs each.1 first.0 (at_node at first.1) one.good))

  or_law : (bs : List Cond) → AllByRecursion OfCond bs → (test : Row → Bool) (nodes : List Node) (at : Place) (left : List Node × ℕ) → Good nodes at → Kept d (λ r. test (seen at.vars r) ≡ true) nodes at left
      → Kept d (λ r. (test (seen at.vars r) || list_any (λ b. holds d b (seen at.vars r)) bs) ≡ true) nodes at (or_on (map norm bs) at left)
  or_law [] each test nodes at left good kept =
      kept_by d (λ r. test (seen at.vars r) ≡ true) _ nodes at left (λ r h. ((λ x. or_false (test (seen at.vars r)) ∙ x), (λ x. sym (or_false (test (seen at.vars r))) ∙ x))) kept
  or_law (b ∷ bs) each test nodes at left good kept =
      let right = norm b at left.0 in
      let end = added right.0 (node.Union left.1 right.1) in
      let two = each.0 left.0 at (good_on nodes left.0 at good kept.grown kept.good.plan) in
      let joined : Kept d (λ r. (test (seen at.vars r) || holds d b (seen at.vars r)) ≡ true) nodes at end =
      kept_by d (λ r. (test (seen at.vars r) ≡ true) ⊎ (holds d b (seen at.vars r) ≡ true)) (λ r. (test (seen at.vars r) || holds d b (seen at.vars r)) ≡ true) nodes at end
      (λ r h. (
        (λ either. elim either [
          | inl x ↦ or_left (test (seen at.vars r)) (holds d b (seen at.vars r)) x
          | inr y ↦ or_right (test (seen at.vars r)) (holds d b (seen at.vars r)) y
        ]),
        (λ x. or_cases (test (seen at.vars r)) (holds d b (seen at.vars r)) x),
      ))
      (union_kept d (λ r. test (seen at.vars r) ≡ true) (λ r. holds d b (seen at.vars r) ≡ true) nodes at left right good kept two) in
      kept_by d (λ r. ((test (seen at.vars r) || holds d b (seen at.vars r)) || list_any (λ c. holds d c (seen at.vars r)) bs) ≡ true) _ nodes at (or_on (map norm bs) at end)
      (λ r h. (
        (λ x. or_swap (test (seen at.vars r)) (holds d b (seen at.vars r)) (list_any (λ c. holds d c (seen at.vars r)) bs) ∙ x),
        (λ x. sym (or_swap (test (seen at.vars r)) (holds d b (seen at.vars r)) (list_any (λ c. holds d c (seen at.vars r)) bs)) ∙ x),
      ))
      (or_law bs each.1 (λ s. test s || holds d b s) nodes at end good joined)

  any_law : (bs : List Cond) → AllByRecursion OfCond bs → IsNorm d (any_on (map norm bs)) (λ r. list_any (λ b. holds d b r) bs)
  any_law [] each nodes at good = not_kept d (λ r. true) nodes at (nodes, at.node) good (kept_all d (λ r. true ≡ true) nodes at good (λ r h. refl))
  any_law (b ∷ bs) each nodes at good = or_law bs each.1 (holds d b) nodes at (norm b at nodes) good (each.0 nodes at good)

  pub test_law : (b : Option Cond) → Where OfCond b → IsNorm d (test_on (norm_if b)) (holds_where d b)
  test_law None law nodes at good = kept_all d _ nodes at good (λ r h. refl)
  test_law (Some b) law nodes at good = law nodes at good

  truth_holds : (r : Row) → holds d truth r ≡ true
  truth_holds r = holds-Truth d r (term.Const (kept_value.Bool true)) ∙ ap truth_of (term-Const d.me d.slots r (kept_value.Bool true)) ∙ truth_of-Bool true

  pub denied_law : (b : Option Cond) → Where OfCond b → IsNorm d (denied_on (norm_if b)) (λ r. not (holds_where d b r))
  denied_law None law nodes at good =
      kept_by d (λ r. not (holds d truth r) ≡ true) _ nodes at (anti_on at (filter_on truth at nodes))
      (λ r h. ((λ x. ap not (sym (truth_holds r)) ∙ x), (λ x. ap not (truth_holds r) ∙ x)))
      (not_kept d (holds d truth) nodes at (filter_on truth at nodes) good (filter_kept d truth nodes at good))
  denied_law (Some b) law nodes at good = not_kept d (λ r. holds d b (seen at.vars r)) nodes at (norm b at nodes) good (law nodes at good)

  some_law : (gens : List RGen) (b : Option Cond) → Where OfCond b → IsNorm d (some_on gens (norm_if b)) (λ r. list_any (holds_where d b) (extensions d gens r))
  some_law gens b law nodes at good =
      let last = gens_on gens at nodes in
      let ranged = gens_ranged d gens nodes at good in
      some_kept d (extensions d gens) (holds_where d b) nodes at last (test_on (norm_if b) last.1 last.0) good ranged (test_law b law last.0 last.1 ranged.good)

  each_law : (gens : List RGen) (b : Option Cond) → Where OfCond b → IsNorm d (each_on gens (norm_if b)) (λ r. list_all (holds_where d b) (extensions d gens r))
  each_law gens b law nodes at good =
      let last = gens_on gens at nodes in
      let ranged = gens_ranged d gens nodes at good in
      each_kept d (extensions d gens) (holds_where d b) nodes at last (denied_on (norm_if b) last.1 last.0) good ranged (denied_law b law last.0 last.1 ranged.good)

  quant_case : (each : Bool) (gens : List RGen) (b : Option Cond) → Where OfCond b → OfCond (cond.Quant each gens b)
  quant_case false gens b law = norm_as _ (some_on gens (norm_if b)) _ _ (norm-Quant false gens b) (λ r. holds-Some d r gens b) (some_law gens b law)
  quant_case true gens b law = norm_as _ (each_on gens (norm_if b)) _ _ (norm-Quant true gens b) (λ r. holds-Each d r gens b) (each_law gens b law)

  truth_case : (t : Term) → OfCond (cond.Truth t)
  truth_case t = norm_as _ (cond_step (Cond-F.Truth t)) _ _ (norm-Truth t) (λ r. holds-Truth d r t) (truth_law t)

  cmp_case : (op : CmpOp) (a b : Operand) → OfOperand a → OfOperand b → OfCond (cond.Cmp op a b)
  cmp_case op a b one two = norm_as _ (cond_step (Cond-F.Cmp op (operand_bound a) (operand_bound b))) _ (holds d (cond.Cmp op a b)) (norm-Cmp op a b) (λ r. refl) (cmp_law op a b one two)

  not_case : (b : Cond) → OfCond b → OfCond (cond.Not b)
  not_case b law = norm_as _ (cond_step (Cond-F.Not (norm b))) _ (λ r. not (holds d b r)) (norm-Not b) (λ r. holds-Not d r b)
      (λ nodes at good. not_kept d (λ r. holds d b (seen at.vars r)) nodes at (norm b at nodes) good (law nodes at good))

  and_case : (bs : List Cond) → AllByRecursion OfCond bs → OfCond (cond.And bs)
  and_case bs each = norm_as _ (cond_step (Cond-F.And (map norm bs))) _ _ (norm-And bs) (λ r. holds-And d r bs) (all_law bs each)

  or_case : (bs : List Cond) → AllByRecursion OfCond bs → OfCond (cond.Or bs)
  or_case bs each = norm_as _ (cond_step (Cond-F.Or (map norm bs))) _ _ (norm-Or bs) (λ r. holds-Or d r bs) (any_law bs each)

  -- Operands of the several forms.

  binding_as : {X V : Type 0} (value : X → Row → V) (meant : Row → V) (f g : Binding X) → ((at : Place) (nodes : List Node) → f at nodes ≡ g at nodes) → ((nodes : List Node) (at : Place) → Good nodes at → Bound d value meant nodes at (g at nodes)) → (nodes : List Node) (at : Place) → Good nodes at → Bound d value meant nodes at (f at nodes)
  binding_as value meant f g e law nodes at good = subst (λ end. Bound d value meant nodes at end) (sym (e at nodes)) (law nodes at good)

  term_case : (t : Term) → OfOperand (operand.Term t)
  term_case t =
      binding_as (operand_value d) (operand_value d (operand.Term t)) (operand_bound (operand.Term t)) (operand_step (Operand-F.Term t))
      (bound-Term t)
      (λ nodes at good. bound_none d (operand_value d) (operand_value d (operand.Term t)) nodes at (operand.Term (rename (known at.vars) t)) good
      (λ r u h. operand-Term d (r ++ u) (rename (known at.vars) t) ∙ term_after d nodes at r u t good h ∙ sym (operand-Term d (seen at.vars r) t)))

  agg_case : (a : Agg) → OfAgg a → OfOperand (operand.Agg a)
  agg_case a law =
      binding_as (operand_value d) (operand_value d (operand.Agg a)) (operand_bound (operand.Agg a)) (operand_step (Operand-F.Agg (agg_bound a)))
      (bound-Agg a)
      (λ nodes at good. bound_by d (operand_value d) (agg_value d a) (operand_value d) (operand_value d (operand.Agg a)) (λ x. x) (λ z. z) nodes at (agg_bound a at nodes) (λ x r. refl) (λ r. operand-Agg d r a) (law nodes at good))

  signed_case : (minus : Bool) (a : Operand) → OfOperand a → OfSigned (roll-SignedOperand (record { minus = minus; operand = a }))
  signed_case minus a law =
      binding_as (signed_value d) (signed_value d (roll-SignedOperand (record { minus = minus; operand = a }))) (signed_bound (roll-SignedOperand (record { minus = minus; operand = a }))) (signed_step (record { minus = minus; operand = operand_bound a }))
      (bound-signed minus a)
      (λ nodes at good. bound_by d (operand_value d) (operand_value d a) (signed_value d) (signed_value d (roll-SignedOperand (record { minus = minus; operand = a })))
      (λ x. roll-SignedOperand (record { minus = minus; operand = x })) (λ z. if minus then neg_ℤ (int_of z) else int_of z) nodes at (operand_bound a at nodes)
      (λ x r. signed-made d r minus x) (λ r. signed-made d r minus a) (law nodes at good))

  abbrev numbers : List SignedOperand → Row → List ℤ
  numbers ss r = map (λ s. signed_value d s r) ss

  signs_law : (ss : List SignedOperand) → AllByRecursion OfSigned ss → (nodes : List Node) (at : Place) → Good nodes at → Bound d numbers (numbers ss) nodes at (all_bound (map signed_bound ss) at nodes)
  signs_law [] each nodes at good = bound_none d numbers (numbers []) nodes at [] good (λ r u h. refl)
  signs_law (s ∷ ss) each nodes at good =
      let first = signed_bound s at nodes in
      let one = each.0 nodes at good in
      let others = all_bound (map signed_bound ss) first.1 first.0 in
      bound_by d {X = SignedOperand × List SignedOperand} {U = ℤ × List ℤ} (λ both r. (signed_value d both.0 r, numbers both.1 r)) (λ r. (signed_value d s r, numbers ss r)) numbers (numbers (s ∷ ss))
      (λ both. both.0 ∷ both.1) (λ both. both.0 ∷ both.1) nodes at (others.0, others.1, (first.2, others.2)) (λ both r. refl) (λ r. refl)
      (bound_then d (signed_value d) (signed_value d s) numbers (numbers ss) nodes at first others good one (signs_law ss each.1 first.0 first.1 one.good))

  chain_case : (a : Operand) (ss : List SignedOperand) → OfOperand a → AllByRecursion OfSigned ss → OfOperand (operand.Chain a ss)
  chain_case a ss law each =
      binding_as (operand_value d) (operand_value d (operand.Chain a ss)) (operand_bound (operand.Chain a ss)) (operand_step (Operand-F.Chain (operand_bound a) (map signed_bound ss)))
      (bound-Chain a ss)
      (λ nodes at good.
      let first = operand_bound a at nodes in
      let one = law nodes at good in
      let others = all_bound (map signed_bound ss) first.1 first.0 in
      bound_by d {X = Operand × List SignedOperand} {U = Val × List ℤ} (λ both r. (operand_value d both.0 r, numbers both.1 r)) (λ r. (operand_value d a r, numbers ss r)) (operand_value d) (operand_value d (operand.Chain a ss))
      (λ both. operand.Chain both.0 both.1) (λ both. val.Int (int_of both.0 +ℤ total both.1)) nodes at (others.0, others.1, (first.2, others.2)) (λ both r. operand-Chain d r both.0 both.1) (λ r. operand-Chain d r a ss)
      (bound_then d (operand_value d) (operand_value d a) numbers (numbers ss) nodes at first others good one (signs_law ss each first.0 first.1 one.good)))

  -- Aggregates.

  abbrev made_agg : AggOp → List RGen → Option Cond → Term → Option Term → Agg
  made_agg op gens b t other = roll-Agg (record { op = op; gens = gens; cond = b; term = t; other = other })

  over_law : (op : AggOp) (gens : List RGen) (b : Option Cond) (t : Term) (other : Option Term) → Where OfCond b → (nodes : List Node) (at : Place) → Good nodes at
      → Bound d (operand_value d) (agg_value d (made_agg op gens b t other)) nodes at (agg_step (record { op = op; gens = gens; cond = norm_if b; term = t; other = other }) at nodes)
  over_law op gens b t other law nodes at good =
      let last = gens_on gens at nodes in
      let ranged = gens_ranged d gens nodes at good in
      let child = test_on (norm_if b) last.1 last.0 in
      let kept = test_law b law last.0 last.1 ranged.good in
      let n : Node = node.AggBind at.node child.1 op (rename (known last.1.vars) t) (rename_other (known at.vars) other) in
      let grown : Grown nodes child.0 = grown_on nodes last.0 child.0 ranged.grown kept.grown in
      let end = added child.0 n in
      bound_by d (operand_value d) (λ s. aggregate op (other_value d s other) (term_set d t (filter (holds_where d b) (extensions d gens s)))) (operand_value d) (agg_value d (made_agg op gens b t other))
      (λ x. x) (λ z. z) nodes at (end.0, after_agg at end.1, operand.Term (term.Part (suc at.width))) (λ x r. refl) (λ r. agg-made d r op gens b t other)
      (agg_bound_law d op t other (extensions d gens) (holds_where d b) nodes at last child good ranged kept end
      (added_made d child.0 n kept.good.plan (still_there nodes child.0 at.node grown good.there, (kept.good.there, tt))
      (omega (arith, width_stays nodes child.0 at.node grown good.there, good.wide, kept.good.wide, ranged.no_narrower))))

  over_case : (op : AggOp) (gens : List RGen) (b : Option Cond) (t : Term) (other : Option Term) → Where OfCond b → OfAgg (made_agg op gens b t other)
  over_case op gens b t other law =
      binding_as (operand_value d) (agg_value d (made_agg op gens b t other)) (agg_bound (made_agg op gens b t other)) (agg_step (record { op = op; gens = gens; cond = norm_if b; term = t; other = other }))
      (bound-agg op gens b t other) (over_law op gens b t other law)

  abbrev cases : Cases
  cases = record {
    Of_cond = OfCond;
    Of_operand = OfOperand;
    Of_agg = OfAgg;
    Of_signed = OfSigned;
    truth = truth_case;
    cmp = cmp_case;
    negation = not_case;
    conjunction = and_case;
    disjunction = or_case;
    quant = quant_case;
    term = term_case;
    agg = agg_case;
    chain = chain_case;
    over = over_case;
    signed = signed_case;
  }

  -- for every condition
  pub norm_law : (b : Cond) → OfCond b
  norm_law = cond_induction cases

  pub agg_law : (a : Agg) → OfAgg a
  agg_law = agg_induction cases

  pub norm_laws : (b : Option Cond) → Where OfCond b
  norm_laws None = tt
  norm_laws (Some b) = norm_law b

-- Aggregates that are bound: each row of the place has a longer one, over which what stands for the operand has its value.
use Rattle.std.specs.Prelude.{◌≡◌, ◌≤◌, ◌==◌, ℕ, suc, Bool, true, false, if◌then◌else◌, List, [], ◌∷◌, ◌++◌, map, length, slice_get, Option, Some, None, refl}
use Rattle.std.specs.List.{filter}
use Rattle.std.proofs.Common.{ap, sym, subst, ◌∙◌, arith, append_assoc, append-nil}
use Rattle.std.proofs.lemmas.Bool.{eqb-true}
use Rattle.da_values.specs.declared.val.Val.{Val}
use Rattle.da_values.specs.Order.{val_cmp}
use Rattle.da_values.specs.Sets.{Has}
use Rattle.da_values.proofs.Members.{Has-map, of_map, Has-filter, of_filter}
use Rattle.da_values.proofs.OrderLaws.{val_order, same_from_val_cmp}
use Rattle.da_values.proofs.SetLaws.{canon_alike}
use Rattle.da_lang.specs.declared.query.AggOp.{AggOp}
use Rattle.da_lang.specs.declared.query.Cond.TheVariants as condition
use Rattle.da_lang.specs.declared.query.Node.{Node}
use Rattle.da_lang.specs.declared.query.Node.TheVariants as node
use Rattle.da_lang.specs.declared.query.Operand.{Operand}
use Rattle.da_lang.specs.declared.query.Operand.TheVariants as operand
use Rattle.da_lang.specs.declared.query.Term.{Term}
use Rattle.da_lang.specs.declared.query.Term.TheVariants as term
use Rattle.da_lang.specs.declared.tree.CmpOp.{CmpOp}
use Rattle.da_lang.specs.Matching.{Row, Extends}
use Rattle.da_lang.specs.Queries.{holds, operand_value, value_at, other_value, term_set, aggregate, compares}
use Rattle.da_lang.specs.World.{Data, or_nothing}
use Rattle.da_lang.proofs.MatchingLaws.{term-Part}
use Rattle.da_lang.proofs.QueryLaws.{holds-Cmp, operand-Term}
use Rattle.da_lang.proofs.RowLaws.{extends_itself}
use Rattle.query_plan.specs.Nodes.{extends, bound_part, node_rows}
use Rattle.query_plan.specs.Plans.{Place, after_agg, known, rename, rename_other, filter_on, semi_on, compared}
use Rattle.query_plan.proofs.NodeLaws.{Extends-from_test, test_from_Extends}
use Rattle.quant_norm.specs.GoodPlaces.{AllIn, Good}
use Rattle.quant_norm.proofs.PlaceLaws.{Grown, grown_itself, grown_on, width_stays, good_on, Made, later, sooner, row_wide, Kept, kept_by, filter_kept, semi_kept}
use Rattle.quant_norm.proofs.RangeLaws.{one_front, Ranged, of_longer, in_longer, whole_grown}
use Rattle.quant_norm.specs.Filtering.{seen}
use Rattle.quant_norm.proofs.RenameLaws.{wider, seen_front, get_after, known_value}

pub two_same : {A B : Type 0} (a b : A) (x y : B) → a ≡ b → x ≡ y → ◌≡◌ {A = A × B} (a, x) (b, y)
two_same a b x y e f = cc

module _ (d : Data) where
  -- the variables of a row of the place stay where they are after it
  pub seen_after : (nodes : List Node) (at : Place) (r more : Row) → Good nodes at → Has (node_rows d nodes at.node) r → seen at.vars (r ++ more) ≡ seen at.vars r
  seen_after nodes at r more good h = seen_front at.vars r more (subst (AllIn at.vars) (sym (row_wide d nodes at good r h)) good.vars_in)

  pub term_after : (nodes : List Node) (at : Place) (r more : Row) (t : Term) → Good nodes at → Has (node_rows d nodes at.node) r → value_at d (r ++ more) (rename (known at.vars) t) ≡ value_at d (seen at.vars r) t
  term_after nodes at r more t good h =
      known_value d.me d.slots at.vars (r ++ more) t ∙ ap (λ z. value_at d z t) (seen_after nodes at r more good h)

  -- `value` is what the thing that was made is worth in a row, and `meant` what it is to be worth in a row of variables
  pub record Bound {X V : Type 0} (value : X → Row → V) (meant : Row → V) (nodes : List Node) (at : Place) (end : List Node × Place × X) : Type 0 where
    pub grown : Grown nodes end.0
    pub good : Good end.0 end.1
    pub vars_same : end.1.vars ≡ at.vars
    pub no_narrower : at.width ≤ end.1.width
    pub into : (r : Row) → Has (node_rows d nodes at.node) r → (more : Row) × Has (node_rows d end.0 end.1.node) (r ++ more)
    pub from : (q : Row) → Has (node_rows d end.0 end.1.node) q → (r : Row) × (more : Row) × Has (node_rows d nodes at.node) r × (q ≡ r ++ more) × ((u : Row) → value end.2 (q ++ u) ≡ meant (seen at.vars r))

  pub bound_none : {X V : Type 0} (value : X → Row → V) (meant : Row → V) (nodes : List Node) (at : Place) (x : X) → Good nodes at → ((r u : Row) → Has (node_rows d nodes at.node) r → value x (r ++ u) ≡ meant (seen at.vars r)) → Bound value meant nodes at (nodes, at, x)
  bound_none value meant nodes at x good worth = record {
    grown = grown_itself nodes;
    good = good;
    vars_same = refl;
    no_narrower = omega arith;
    into = λ r h. ([], subst (Has (node_rows d nodes at.node)) (sym (append-nil r)) h);
    from = λ q h. (q, [], h, sym (append-nil q), λ u. worth q u h);
  }

  pub bound_then : {X Y U V : Type 0} (value : X → Row → U) (meant : Row → U) (other : Y → Row → V) (intended : Row → V) (nodes : List Node) (at : Place) (middle : List Node × Place × X) (end : List Node × Place × Y) → Good nodes at → Bound value meant nodes at middle → Bound other intended middle.0 middle.1 end
      → Bound {X = X × Y} {V = U × V} (λ both r. (value both.0 r, other both.1 r)) (λ r. (meant r, intended r)) nodes at (end.0, end.1, (middle.2, end.2))
  bound_then value meant other intended nodes at middle end good one two = record {
    grown = grown_on nodes middle.0 end.0 one.grown two.grown;
    good = two.good;
    vars_same = two.vars_same ∙ one.vars_same;
    no_narrower = omega (arith, one.no_narrower, two.no_narrower);
    into = λ r h.
        let (more, between) = one.into r h in
        let (most, there) = two.into (r ++ more) between in
        (more ++ most, subst (Has (node_rows d end.0 end.1.node)) (append_assoc r more most) there);
    from = λ q h.
        let (p, most, between, longest, second) = two.from q h in
        let (r, more, there, longer, first) = one.from p between in
        let same_vars : seen middle.1.vars p ≡ seen at.vars r = ap (λ vs. seen vs p) one.vars_same ∙ ap (seen at.vars) longer ∙ seen_after nodes at r more good there in (
          r,
          more ++ most,
          there,
          longest ∙ ap (λ z. z ++ most) longer ∙ append_assoc r more most,
          λ u. two_same (value middle.2 (q ++ u)) (meant (seen at.vars r)) (other end.2 (q ++ u)) (intended (seen at.vars r))
              (ap (λ z. value middle.2 (z ++ u)) longest ∙ ap (value middle.2) (append_assoc p most u) ∙ first (most ++ u))
              (second u ∙ ap intended same_vars),
        );
  }

  pub bound_by : {X Y U V : Type 0} (value : X → Row → U) (meant : Row → U) (other : Y → Row → V) (intended : Row → V) (make : X → Y) (worth : U → V) (nodes : List Node) (at : Place) (end : List Node × Place × X) → ((x : X) (r : Row) → other (make x) r ≡ worth (value x r)) → ((r : Row) → intended r ≡ worth (meant r)) → Bound value meant nodes at end → Bound other intended nodes at (end.0, end.1, make end.2)
  bound_by value meant other intended make worth nodes at end made same bound = record {
    grown = bound.grown;
    good = bound.good;
    vars_same = bound.vars_same;
    no_narrower = bound.no_narrower;
    into = bound.into;
    from = λ q h. let (r, more, there, longer, is) = bound.from q h in (r, more, there, longer, λ u. made end.2 (q ++ u) ∙ ap worth (is u) ∙ sym (same (seen at.vars r)));
  }

  -- the same node among more nodes
  kept_sooner : (P : Row → Type 0) (nodes longer : List Node) (at : Place) (end : List Node × ℕ) → Good nodes at → Grown nodes longer → Kept d P longer at end → Kept d P nodes at end
  kept_sooner P nodes longer at end good grown kept = record {
    grown = grown_on nodes longer end.0 grown kept.grown;
    good = kept.good;
    into = λ r h p. kept.into r (later d nodes longer at.node r grown good.there h) p;
    from = λ r h. let (there, p) = kept.from r h in (sooner d nodes longer at.node r grown good.there there, p);
  }

  -- comparisons
  module _ (op : CmpOp) (a b : Operand) (meant : Row → Val × Val) (nodes : List Node) (at : Place) (all : List Node) (last : Place) (good : Good nodes at) (bound : Bound {X = Operand × Operand} {V = Val × Val} (λ both r. (operand_value d both.0 r, operand_value d both.1 r)) meant nodes at (all, last, (a, b))) where
    abbrev meets : Row → Bool
    meets r = compares op (val_cmp (meant (seen at.vars r)).0 (meant (seen at.vars r)).1)

    -- over a row of the last place the comparison is that of the values
    compared_at : (q r : Row) → ((u : Row) → (operand_value d a (q ++ u), operand_value d b (q ++ u)) ≡ meant (seen at.vars r)) → holds d (condition.Cmp op a b) q ≡ meets r
    compared_at q r is =
        holds-Cmp d q op a b ∙ ap (λ (both : Val × Val). compares op (val_cmp both.0 both.1)) (ap (λ z. (operand_value d a z, operand_value d b z)) (sym (append-nil q)) ∙ is [])

    wide_alike : (r s : Row) → Has (node_rows d nodes at.node) r → Has (node_rows d nodes at.node) s → length r ≡ length s
    wide_alike r s h k = row_wide d nodes at good r h ∙ sym (row_wide d nodes at good s k)

    -- where no aggregate was bound
    here : at.node ≡ last.node → (r : Row) → Has (node_rows d nodes at.node) r → holds d (condition.Cmp op a b) r ≡ meets r
    here same r h =
        let there : Has (node_rows d all last.node) r = subst (λ k. Has (node_rows d all k) r) same (later d nodes all at.node r bound.grown good.there h) in
        let (s, more, begin, longer, is) = bound.from r there in
        compared_at r s is ∙ ap meets (one_front s r r (more, longer) (extends_itself r) (wide_alike s r begin h))

    flat_kept : at.node ≡ last.node → Kept d (λ r. meets r ≡ true) nodes at (filter_on (condition.Cmp op a b) at all)
    flat_kept same =
        kept_by d (λ r. holds d (condition.Cmp op a b) r ≡ true) (λ r. meets r ≡ true) nodes at (filter_on (condition.Cmp op a b) at all)
        (λ r h. ((λ e. sym (here same r h) ∙ e), (λ e. here same r h ∙ e)))
        (kept_sooner (λ r. holds d (condition.Cmp op a b) r ≡ true) nodes all at (filter_on (condition.Cmp op a b) at all) good bound.grown
        (filter_kept d (condition.Cmp op a b) all at (good_on nodes all at good bound.grown bound.good.plan)))

    abbrev child : List Node × ℕ
    child = filter_on (condition.Cmp op a b) last all

    deep_kept : Kept d (λ r. meets r ≡ true) nodes at (semi_on at child)
    deep_kept =
        let inner = filter_kept d (condition.Cmp op a b) all last bound.good in
        kept_by d (λ r. (s : Row) × Has (node_rows d child.0 child.1) s × Extends r s) (λ r. meets r ≡ true) nodes at (semi_on at child)
        (λ r h. (
          (λ found.
              let (q, there, longer) = found in
              let (between, passes) = inner.from q there in
              let (s, more, begin, front, is) = bound.from q between in
              let same : s ≡ r = one_front s r q (more, front) longer (wide_alike s r begin h) in
              subst (λ z. meets z ≡ true) same (sym (compared_at q s is) ∙ passes)),
          (λ passes.
              let (more, between) = bound.into r h in
              let (s, rest, begin, front, is) = bound.from (r ++ more) between in
              let same : s ≡ r = one_front s r (r ++ more) (rest, front) (more, refl) (wide_alike s r begin h) in
              (r ++ more, inner.into (r ++ more) between (compared_at (r ++ more) s is ∙ subst (λ z. meets z ≡ true) (sym same) passes), (more, refl))),
        ))
        (semi_kept d nodes at child good (grown_on nodes all child.0 bound.grown inner.grown) inner.good.plan inner.good.there (omega (arith, inner.good.wide, bound.no_narrower)))

    choose : (flat : Bool) → (at.node == last.node) ≡ flat → Kept d (λ r. meets r ≡ true) nodes at (if flat then filter_on (condition.Cmp op a b) at all else semi_on at child)
    choose true e = flat_kept (eqb-true at.node last.node e)
    choose false e = deep_kept

    pub compared_kept : Kept d (λ r. meets r ≡ true) nodes at (compared at last (condition.Cmp op a b) all)
    compared_kept = choose (at.node == last.node) refl

  -- aggregates
  others_after : (nodes : List Node) (at : Place) (other : Option Term) (r : Row) → Good nodes at → Has (node_rows d nodes at.node) r → other_value d r (rename_other (known at.vars) other) ≡ other_value d (seen at.vars r) other
  others_after nodes at None r good h = refl
  others_after nodes at (Some t) r good h = known_value d.me d.slots at.vars r t

  module _ (op : AggOp) (t : Term) (other : Option Term) (more : Row → List Row) (test : Row → Bool) (nodes : List Node) (at : Place) (last : List Node × Place) (child : List Node × ℕ) (good : Good nodes at) (ranged : Ranged d more nodes at last) (kept : Kept d (λ q. test (seen last.1.vars q) ≡ true) last.0 last.1 child) where
    abbrev inner : Term
    inner = rename (known last.1.vars) t

    abbrev outer : Option Term
    outer = rename_other (known at.vars) other

    abbrev found : Row → List Row
    found r = filter test (more (seen at.vars r))

    abbrev longer_rows : Row → List Row
    longer_rows r = filter (extends r) (node_rows d child.0 child.1)

    worth : (q : Row) → value_at d q inner ≡ value_at d (seen last.1.vars q) t
    worth q = known_value d.me d.slots last.1.vars q t

    out_of : (r : Row) → Has (node_rows d nodes at.node) r → (x : Val) → Has (map (λ q. value_at d q inner) (longer_rows r)) x → Has (map (λ s. value_at d s t) (found r)) x
    out_of r h x k =
        let (q, listed, e) = of_map (λ q. value_at d q inner) (longer_rows r) x k in
        let (there, extending) = of_filter (extends r) (node_rows d child.0 child.1) q listed in
        let (one, passes) = of_longer d more test nodes at last child good ranged kept r q h there (Extends-from_test r q extending) in
        subst (Has (map (λ s. value_at d s t) (found r))) (sym (e ∙ worth q)) (Has-map (λ s. value_at d s t) (found r) (seen last.1.vars q) (Has-filter test (more (seen at.vars r)) (seen last.1.vars q) one passes))

    back_in : (r : Row) → Has (node_rows d nodes at.node) r → (x : Val) → Has (map (λ s. value_at d s t) (found r)) x → Has (map (λ q. value_at d q inner) (longer_rows r)) x
    back_in r h x k =
        let (s, listed, e) = of_map (λ s. value_at d s t) (found r) x k in
        let (one, passes) = of_filter test (more (seen at.vars r)) s listed in
        let (q, there, extending, is) = in_longer d more test nodes at last child good ranged kept r s h one passes in
        subst (Has (map (λ q. value_at d q inner) (longer_rows r))) (sym (e ∙ ap (λ z. value_at d z t) (sym is) ∙ sym (worth q)))
        (Has-map (λ q. value_at d q inner) (longer_rows r) q (Has-filter (extends r) (node_rows d child.0 child.1) q there (test_from_Extends r q extending)))

    abbrev meant_part : Row → Val
    meant_part s = aggregate op (other_value d s other) (term_set d t (filter test (more s)))

    part_same : (r : Row) → Has (node_rows d nodes at.node) r → bound_part d (node_rows d child.0) child.1 op inner outer r ≡ meant_part (seen at.vars r)
    part_same r h =
        ap (λ z. aggregate op z (term_set d inner (longer_rows r))) (others_after nodes at other r good h)
        ∙ ap (aggregate op (other_value d (seen at.vars r) other))
        (canon_alike val_cmp val_order same_from_val_cmp (map (λ q. value_at d q inner) (longer_rows r)) (map (λ s. value_at d s t) (found r)) (λ x. (out_of r h x, back_in r h x)))

    abbrev agg_at : Node
    agg_at = node.AggBind at.node child.1 op inner outer

    abbrev part_term : Operand
    part_term = operand.Term (term.Part (suc at.width))

    part_value : (r : Row) → Has (node_rows d nodes at.node) r → (x : Val) (u : Row) → operand_value d part_term ((r ++ x ∷ []) ++ u) ≡ x
    part_value r h x u =
        operand-Term d ((r ++ x ∷ []) ++ u) (term.Part (suc at.width))
        ∙ term-Part d.me d.slots ((r ++ x ∷ []) ++ u) (suc at.width)
        ∙ ap (λ z. or_nothing (slice_get z at.width)) (append_assoc r (x ∷ []) u)
        ∙ ap or_nothing (get_after r (x ∷ u) 0 at.width (omega (arith, row_wide d nodes at good r h)))

    pub agg_bound_law : (end : List Node × ℕ) → Made d agg_at child.0 end → Bound (operand_value d) meant_part nodes at (end.0, after_agg at end.1, part_term)
    agg_bound_law end made =
        let grown : Grown nodes child.0 = whole_grown d more test nodes at last child good ranged kept in
        let part : Row → Val = λ r. bound_part d (node_rows d child.0) child.1 op inner outer r in
        record {
          grown = grown_on nodes child.0 end.0 grown made.grown;
          good = record {
            plan = made.plan;
            there = made.there;
            wide = made.wide ∙ ap suc (width_stays nodes child.0 at.node grown good.there ∙ good.wide);
            vars_in = wider at.vars at.width (suc at.width) (omega arith) good.vars_in;
          };
          vars_same = refl;
          no_narrower = omega arith;
          into = λ r h. (part r ∷ [], made.into (r ++ part r ∷ []) (r, later d nodes child.0 at.node r grown good.there h, refl));
          from = λ q h.
              let (r, there, e) = made.from q h in
              let begin : Has (node_rows d nodes at.node) r = sooner d nodes child.0 at.node r grown good.there there in
              (r, part r ∷ [], begin, e, λ u. ap (λ z. operand_value d part_term (z ++ u)) e ∙ part_value r begin (part r) u ∙ part_same r begin);
        }

-- The rows of a chain of generators are the extensions of the rows that it stands on.
use Rattle.std.specs.Prelude.{◌≡◌, ◌≤◌, ◌+◌, ℕ, suc, Bool, true, not, List, [], ◌∷◌, ◌++◌, length, Option, Some, None, refl}
use Rattle.std.specs.List.{list_any, list_all, range_with_len}
use Rattle.std.proofs.Common.{ap, sym, subst, ◌∙◌, inl, inr, arith, append-nil}
use Rattle.std.proofs.lemmas.Bool.{false≢true, not-true, not_from_false, false_from_ne_true, cases_Bool}
use Rattle.da_values.specs.Sets.{Has}
use Rattle.da_values.proofs.Members.{of_filter_map, Has-filter_map, of_flat_map, Has-flat_map, Has-from_any, any_from_has, each_from_all, all_from_each}
use Rattle.da_lang.specs.declared.query.Node.{Node}
use Rattle.da_lang.specs.declared.query.RGen.{RGen}
use Rattle.da_lang.specs.Matching.{Row, Extends, Candidate, matched_candidate}
use Rattle.da_lang.specs.Queries.{candidates, step_rows, extensions}
use Rattle.da_lang.specs.World.{Data}
use Rattle.da_lang.proofs.LiveMatchLaws.{after_row_of as after_row}
use Rattle.da_lang.proofs.RowLaws.{extends_itself, extends_further}
use Rattle.query_plan.specs.Nodes.{node_rows, parts_added}
use Rattle.query_plan.specs.Plans.{Place, Norm, added, place_after, vars_after, gen_node, known, rename_gen, gens_on, semi_on, anti_on}
use Rattle.query_plan.proofs.WidthLaws.{candidate_of}
use Rattle.quant_norm.specs.GoodPlaces.{AllIn, Good}
use Rattle.quant_norm.proofs.PlaceLaws.{Grown, grown_itself, grown_on, Made, added_made, Kept, kept_by, semi_kept, anti_kept, row_wide}
use Rattle.quant_norm.specs.Filtering.{seen}
use Rattle.quant_norm.proofs.RenameLaws.{AllIn-append, AllIn-range, wider, seen_more, Tracks, after_tracks, HasParts, Both, candidate_follows, parts_renamed}

-- two beginnings of one row that are equally long
pub same_prefix : (a b xs ys : Row) → a ++ xs ≡ b ++ ys → length a ≡ length b → a ≡ b
same_prefix [] [] xs ys e long = refl
same_prefix [] (y ∷ b) xs ys e long = absurd (omega (arith, long))
same_prefix (x ∷ a) [] xs ys e long = absurd (omega (arith, long))
same_prefix (x ∷ a) (y ∷ b) xs ys e long =
    let first : x ≡ y = cc in
    let others : a ++ xs ≡ b ++ ys = cc in
    ap (λ z. z ∷ a) first ∙ ap (λ zs. y ∷ zs) (same_prefix a b xs ys others (omega (arith, long)))

-- an extension of a row that is as long is the row
pub extends_same : (a b : Row) → Extends a b → length a ≡ length b → b ≡ a
extends_same a b (more, e) long = sym (same_prefix a b more [] (sym e ∙ sym (append-nil b)) long)

-- two beginnings of one row, by their extensions
pub one_front : (a b c : Row) → Extends a c → Extends b c → length a ≡ length b → a ≡ b
one_front a b c (xs, e) (ys, f) long = same_prefix a b xs ys (sym e ∙ f) long

some_same : (a b : Row) → ◌≡◌ {A = Option Row} (Some a) (Some b) → a ≡ b
some_same a b e = cc

-- what stands after the one row stands after the other
both_left : (n : ℕ) (row vars longer : Row) (left right : Option Row) → Both n row vars left right → left ≡ Some longer → (more : Row) × (longer ≡ row ++ more) × (right ≡ Some (vars ++ more)) × (length more ≡ n)
both_left n row vars longer left right both e = go both.found both.parts both.one both.two
  where
    go : (found : Option Row) → HasParts n found → left ≡ after_row row found → right ≡ after_row vars found → (more : Row) × (longer ≡ row ++ more) × (right ≡ Some (vars ++ more)) × (length more ≡ n)
    go None parts one two = absurd (cc)
    go (Some more) parts one two = (more, some_same longer (row ++ more) (sym e ∙ one), two, parts)

both_right : (n : ℕ) (row vars longer : Row) (left right : Option Row) → Both n row vars left right → right ≡ Some longer → (more : Row) × (longer ≡ vars ++ more) × (left ≡ Some (row ++ more)) × (length more ≡ n)
both_right n row vars longer left right both e = go both.found both.parts both.one both.two
  where
    go : (found : Option Row) → HasParts n found → left ≡ after_row row found → right ≡ after_row vars found → (more : Row) × (longer ≡ vars ++ more) × (left ≡ Some (row ++ more)) × (length more ≡ n)
    go None parts one two = absurd (cc)
    go (Some more) parts one two = (more, some_same longer (vars ++ more) (sym e ∙ two), one, parts)

module _ (d : Data) where
  -- each row of the place has as its extensions in the other node those that `more` gives of its variables
  pub record Ranged (more : Row → List Row) (nodes : List Node) (at : Place) (end : List Node × Place) : Type 0 where
    pub grown : Grown nodes end.0
    pub good : Good end.0 end.1
    pub no_narrower : at.width ≤ end.1.width
    pub into : (r s : Row) → Has (node_rows d nodes at.node) r → Has (more (seen at.vars r)) s → (q : Row) × Has (node_rows d end.0 end.1.node) q × Extends r q × (seen end.1.vars q ≡ s)
    pub from : (q : Row) → Has (node_rows d end.0 end.1.node) q → (r : Row) × Has (node_rows d nodes at.node) r × Extends r q × Has (more (seen at.vars r)) (seen end.1.vars q)

  ranged_itself : (nodes : List Node) (at : Place) → Good nodes at → Ranged (extensions d []) nodes at (nodes, at)
  ranged_itself nodes at good = record {
    grown = grown_itself nodes;
    good = good;
    no_narrower = omega arith;
    into = λ r s h k. elim k [ inl e ↦ (r, h, extends_itself r, sym e) | inr none ↦ absurd none ];
    from = λ q h. (q, h, extends_itself q, inl refl);
  }

  ranged_then : (g : RGen) (gs : List RGen) (nodes : List Node) (at : Place) (middle end : List Node × Place) → Ranged (step_rows d g) nodes at middle → Ranged (extensions d gs) middle.0 middle.1 end → Ranged (extensions d (g ∷ gs)) nodes at end
  ranged_then g gs nodes at middle end one others = record {
    grown = grown_on nodes middle.0 end.0 one.grown others.grown;
    good = others.good;
    no_narrower = omega (arith, one.no_narrower, others.no_narrower);
    into = λ r s h k.
        let (t, first, more) = of_flat_map (extensions d gs) (step_rows d g (seen at.vars r)) s k in
        let (p, there, longer, is) = one.into r t h first in
        let (q, last, longest, value) = others.into p s there (subst (λ z. Has (extensions d gs z) s) (sym is) more) in
        (q, last, extends_further r p q longer longest, value);
    from = λ q h.
        let (p, there, longest, more) = others.from q h in
        let (r, begin, longer, first) = one.from p there in
        (r, begin, extends_further r p q longer longest, Has-flat_map (extensions d gs) (step_rows d g (seen at.vars r)) (seen middle.1.vars p) (seen end.1.vars q) first more);
  }

  -- one generator
  module _ (g : RGen) (nodes : List Node) (at : Place) (good : Good nodes at) (end : List Node × ℕ) (made : Made d (gen_node at g) nodes end) where
    abbrev renamed : RGen
    renamed = rename_gen (known (vars_after at g)) g

    abbrev last : Place
    last = place_after at g end.1

    in_row : (r : Row) → Has (node_rows d nodes at.node) r → AllIn at.vars (length r)
    in_row r h = subst (AllIn at.vars) (sym (row_wide d nodes at good r h)) good.vars_in

    tracks : (r : Row) → Has (node_rows d nodes at.node) r → Tracks d.me d.slots (parts_added g) (known (vars_after at g)) r (seen at.vars r)
    tracks r h =
        subst (λ k. Tracks d.me d.slots (parts_added g) (known (at.vars ++ range_with_len (suc k) (parts_added g))) r (seen at.vars r)) (row_wide d nodes at good r h)
        (after_tracks d.me d.slots at.vars r (parts_added g) (in_row r h))

    follows : (c : Candidate) (r : Row) → Has (candidates d g.source) c → Has (node_rows d nodes at.node) r → Both (parts_added g) r (seen at.vars r) (matched_candidate d renamed.message renamed.peer c r) (matched_candidate d g.message g.peer c (seen at.vars r))
    follows c r element h = candidate_follows d (known (vars_after at g)) g c r (seen at.vars r) (candidate_of d g.source c element) (tracks r h)

    sees : (r more : Row) → Has (node_rows d nodes at.node) r → length more ≡ parts_added g → seen last.vars (r ++ more) ≡ seen at.vars r ++ more
    sees r more h long = seen_more at.vars r more at.width (parts_added g) good.vars_in (row_wide d nodes at good r h) long

    -- where a row of the node comes from
    split : (q : Row) → Has (node_rows d end.0 end.1) q → (r : Row) × (more : Row) × (c : Candidate) × Has (node_rows d nodes at.node) r × Has (candidates d g.source) c × (q ≡ r ++ more) × (matched_candidate d g.message g.peer c (seen at.vars r) ≡ Some (seen at.vars r ++ more)) × (length more ≡ parts_added g)
    split q h =
        let (r, there, k) = made.from q h in
        let (c, element, e) = of_filter_map (λ c. matched_candidate d renamed.message renamed.peer c r) (candidates d g.source) q k in
        let (more, is, found, long) = both_left (parts_added g) r (seen at.vars r) q _ _ (follows c r element there) e in
        (r, more, c, there, element, is, found, long)

    good_after : Good end.0 last
    good_after = record {
      plan = made.plan;
      there = made.there;
      wide = made.wide ∙ ap (λ k. k + parts_added renamed) good.wide ∙ ap (λ k. at.width + k) (parts_renamed (known (vars_after at g)) g);
      vars_in = AllIn-append at.vars (range_with_len (suc at.width) (parts_added g)) (at.width + parts_added g)
          (wider at.vars at.width (at.width + parts_added g) (omega arith) good.vars_in)
          (AllIn-range (parts_added g) (suc at.width) (at.width + parts_added g) (omega arith) (omega arith));
    }

    step_ranged : Ranged (step_rows d g) nodes at (end.0, last)
    step_ranged = record {
      grown = made.grown;
      good = good_after;
      no_narrower = omega arith;
      into = λ r s h k.
          let (c, element, e) = of_filter_map (λ c. matched_candidate d g.message g.peer c (seen at.vars r)) (candidates d g.source) s k in
          let (more, is, found, long) = both_right (parts_added g) r (seen at.vars r) s _ _ (follows c r element h) e in (
            r ++ more,
            made.into (r ++ more) (r, h, Has-filter_map (λ c. matched_candidate d renamed.message renamed.peer c r) (candidates d g.source) c (r ++ more) element found),
            (more, refl),
            sees r more h long ∙ sym is,
          );
      from = λ q h.
          let (r, more, c, there, element, is, found, long) = split q h in
          let value : seen last.vars q ≡ seen at.vars r ++ more = ap (seen last.vars) is ∙ sees r more there long in (
            r,
            there,
            (more, is),
            subst (Has (step_rows d g (seen at.vars r))) (sym value) (Has-filter_map (λ c. matched_candidate d g.message g.peer c (seen at.vars r)) (candidates d g.source) c (seen at.vars r ++ more) element found),
          );
    }

  pub gens_ranged : (gens : List RGen) (nodes : List Node) (at : Place) → Good nodes at → Ranged (extensions d gens) nodes at (gens_on gens at nodes)
  gens_ranged [] nodes at good = ranged_itself nodes at good
  gens_ranged (g ∷ gs) nodes at good =
      let n : Node = gen_node at g in
      let one = step_ranged g nodes at good (added nodes n) (added_made d nodes n good.plan (good.there, tt) tt) in
      ranged_then g gs nodes at ((added nodes n).0, place_after at g (added nodes n).1) (gens_on (g ∷ gs) at nodes) one
      (gens_ranged gs (added nodes n).0 (place_after at g (added nodes n).1) one.good)

  -- what the nodes of a condition have to be, wherever they are made
  abbrev pub IsNorm : Norm → (Row → Bool) → Type 0
  IsNorm f test = (nodes : List Node) (at : Place) → Good nodes at → Kept d (λ r. test (seen at.vars r) ≡ true) nodes at (f at nodes)

  pub not_kept : (test : Row → Bool) (nodes : List Node) (at : Place) (child : List Node × ℕ) → Good nodes at → Kept d (λ r. test r ≡ true) nodes at child → Kept d (λ r. not (test r) ≡ true) nodes at (anti_on at child)
  not_kept test nodes at child good kept =
      kept_by d (λ r. (s : Row) → Has (node_rows d child.0 child.1) s → Extends r s → ⊥) (λ r. not (test r) ≡ true) nodes at (anti_on at child)
      (λ r h. (
        (λ none. not_from_false (test r) (false_from_ne_true (test r) (λ e. none r (kept.into r h e) (extends_itself r)))),
        (λ e s there longer.
            let (begin, holds_there) = kept.from s there in
            let same : s ≡ r = extends_same r s longer (row_wide d nodes at good r h ∙ sym (row_wide d nodes at good s begin)) in
            false≢true (sym (not-true (test r) e) ∙ ap test (sym same) ∙ holds_there)),
      ))
      (anti_kept d nodes at child good kept.grown kept.good.plan kept.good.there (omega (arith, kept.good.wide)))

  -- rows after a range, of which some meet a test
  module _ (more : Row → List Row) (test : Row → Bool) (nodes : List Node) (at : Place) (last : List Node × Place) (end : List Node × ℕ) (good : Good nodes at) (ranged : Ranged more nodes at last) (kept : Kept d (λ q. test (seen last.1.vars q) ≡ true) last.0 last.1 end) where
    -- a row of the end that extends a row of the place is one of its extensions
    pub of_longer : (r q : Row) → Has (node_rows d nodes at.node) r → Has (node_rows d end.0 end.1) q → Extends r q → Has (more (seen at.vars r)) (seen last.1.vars q) × (test (seen last.1.vars q) ≡ true)
    of_longer r q h there longer =
        let (between, passes) = kept.from q there in
        let (begin, from, front, one) = ranged.from q between in
        let same : begin ≡ r = one_front begin r q front longer (row_wide d nodes at good begin from ∙ sym (row_wide d nodes at good r h)) in
        (subst (λ z. Has (more (seen at.vars z)) (seen last.1.vars q)) same one, passes)

    pub in_longer : (r s : Row) → Has (node_rows d nodes at.node) r → Has (more (seen at.vars r)) s → test s ≡ true → (q : Row) × Has (node_rows d end.0 end.1) q × Extends r q × (seen last.1.vars q ≡ s)
    in_longer r s h there passes =
        let (q, between, longer, is) = ranged.into r s h there in
        (q, kept.into q between (ap test is ∙ passes), longer, is)

    pub whole_grown : Grown nodes end.0
    whole_grown = grown_on nodes last.0 end.0 ranged.grown kept.grown

    pub some_kept : Kept d (λ r. list_any test (more (seen at.vars r)) ≡ true) nodes at (semi_on at end)
    some_kept =
        kept_by d (λ r. (q : Row) × Has (node_rows d end.0 end.1) q × Extends r q) (λ r. list_any test (more (seen at.vars r)) ≡ true) nodes at (semi_on at end)
        (λ r h. (
          (λ found. let (q, there, longer) = found in let (one, passes) = of_longer r q h there longer in any_from_has test (more (seen at.vars r)) (seen last.1.vars q) one passes),
          (λ e. let (s, one, passes) = Has-from_any test (more (seen at.vars r)) e in let (q, there, longer, is) = in_longer r s h one passes in (q, there, longer)),
        ))
        (semi_kept d nodes at end good whole_grown kept.good.plan kept.good.there (omega (arith, kept.good.wide, ranged.no_narrower)))

  pub each_kept : (more : Row → List Row) (test : Row → Bool) (nodes : List Node) (at : Place) (last : List Node × Place) (end : List Node × ℕ) → Good nodes at → Ranged more nodes at last → Kept d (λ q. not (test (seen last.1.vars q)) ≡ true) last.0 last.1 end
      → Kept d (λ r. list_all test (more (seen at.vars r)) ≡ true) nodes at (anti_on at end)
  each_kept more test nodes at last end good ranged kept =
      kept_by d (λ r. (q : Row) → Has (node_rows d end.0 end.1) q → Extends r q → ⊥) (λ r. list_all test (more (seen at.vars r)) ≡ true) nodes at (anti_on at end)
      (λ r h. (
        (λ none. all_from_each test (more (seen at.vars r)) (λ s one. elim (cases_Bool (test s)) [
          | inl passes ↦ passes
          | inr fails ↦ (let (q, there, longer, is) = in_longer more (λ z. not (test z)) nodes at last end good ranged kept r s h one (not_from_false (test s) fails) in absurd (none q there longer))
        ])),
        (λ e q there longer.
            let (one, fails) = of_longer more (λ z. not (test z)) nodes at last end good ranged kept r q h there longer in
            false≢true (sym (not-true (test (seen last.1.vars q)) fails) ∙ each_from_all test (more (seen at.vars r)) (seen last.1.vars q) e one)),
      ))
      (anti_kept d nodes at end good (whole_grown more (λ z. not (test z)) nodes at last end good ranged kept) kept.good.plan kept.good.there (omega (arith, kept.good.wide, ranged.no_narrower)))

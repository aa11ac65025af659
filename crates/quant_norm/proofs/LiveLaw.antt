-- The live patterns of the plan of a class of a typed program are those of the class: the same set, so the rows that they
-- match are as many. (A variable that is not there would have no part in the plan, and would not vary in it. Types keep such
-- a variable out.)
use Rattle.std.specs.Prelude.{◌≡◌, ℕ, zero, suc, true, false, List, [], ◌∷◌, ◌++◌, map, length, sum, Option, Some, None, is_some, refl}
use Rattle.std.specs.List.{flat_map}
use Rattle.std.specs.Option.{option_map}
use Rattle.std.proofs.Common.{ap, sym, subst, ◌∙◌, inl, inr, arith, append_assoc, append-nil}
use Rattle.da_values.specs.Sets.{Has, IsAlike}
use Rattle.da_values.proofs.Members.{IsAlike-refl, IsAlike-trans}
use Rattle.da_lang.specs.declared.program.Class.{Class}
use Rattle.da_lang.specs.declared.program.Program.{Program}
use Rattle.da_lang.specs.declared.query.Cond.{Cond}
use Rattle.da_lang.specs.declared.query.LivePattern.{LivePattern}
use Rattle.da_lang.specs.declared.query.Node.{Node}
use Rattle.da_lang.specs.declared.query.Query.{Query}
use Rattle.da_lang.specs.declared.query.Query.TheVariants as query
use Rattle.da_lang.specs.declared.query.RGen.{RGen}
use Rattle.da_lang.specs.declared.ty.Ty.{Ty}
use Rattle.da_lang.specs.declared.ty.Ty.TheVariants as t
use Rattle.da_lang.specs.Live.{Gens, cond_gens, query_gens, item_gens, class_gens, once, live, live_rows, kept}
use Rattle.da_lang.specs.QueryTypes.{Known, given, flat, term_type, rows_where, cond_holds, agg_side, written_cond, query_type}
use Rattle.da_lang.specs.Typing.{IsTyped, known}
use Rattle.da_lang.specs.World.{Data}
use Rattle.da_lang.proofs.OnceLaws.{of_once, Has-once, once_distinct, live_distinct}
use Rattle.query_plan.specs.declared.plan.Plan.{Plan}
use Rattle.query_plan.specs.PlanLive.{history_lives, node_gens, plan_live}
use Rattle.query_plan.specs.Questions.{Met, Asked, Awaited, class_met, awaited, opening_plan, root, query_node, with_query, with_flag, with_asked, with_all, with_met, norm_class}
use Rattle.quant_norm.specs.KeepsTypes.{KeepsTypes}
use Rattle.quant_norm.proofs.AwaitedLaws.{met_gens, class_awaits}
use Rattle.quant_norm.proofs.GatherLaws.{Gathers, gathers_none, gathers_then, gathers_alike, alike_as, alike_both, alike_swapped, lives-append}
use Rattle.quant_norm.proofs.NormGathers.{norm_gathers, agg_gathers, where_gathers, tested_gathers, refused_gathers}
use Rattle.quant_norm.proofs.SumLaws.{same_sum}
use Rattle.quant_norm.proofs.TypedLaws.{typed_keeps}
use Rattle.quant_norm.proofs.VariesLaws.{given_found}

some_found : {A : Type 0} (o : Option A) → is_some o ≡ true → (x : A) × (o ≡ Some x)
some_found None e = absurd (cc)
some_found (Some x) e = (x, refl)

module _ (rules : Known) where
  -- the two ways of leaving out a condition are one
  written_is : (b : Option Cond) → written_cond rules b ≡ option_map (cond_holds rules) b
  written_is None = refl
  written_is (Some b) = refl

  where_is : (gens : List RGen) (b : Option Cond) (found : List Ty) → rows_where rules gens (written_cond rules b) [] ≡ Some found → rows_where rules gens (option_map (cond_holds rules) b) [] ≡ Some found
  where_is gens b found e = ap (λ z. rows_where rules gens z []) (sym (written_is b)) ∙ e

  -- a query
  query_gathers : (nodes : List Node) (q : Query) (ty : Ty) → query_type rules q ≡ Some ty → Gathers (query_gens q) nodes (query_node nodes q).0
  query_gathers nodes (query.Quant true gens b) ty e =
      let (found, is, more) = given_found (rows_where rules gens (written_cond rules b) []) (λ row. Some t.Bool) ty e in
      refused_gathers rules gens b (where_gathers rules b) [] found root nodes (where_is gens b found is) (omega arith)
  query_gathers nodes (query.Quant false gens b) ty e =
      let (found, is, more) = given_found (rows_where rules gens (written_cond rules b) []) (λ row. Some t.Bool) ty e in
      tested_gathers rules gens b (where_gathers rules b) [] found root nodes (where_is gens b found is) (omega arith)
  query_gathers nodes (query.Comp x gens b) ty e =
      let (own, some, more) = given_found (given (rows_where rules gens (written_cond rules b) []) (term_type rules x)) (λ ty. flat (t.Set ty)) ty e in
      let (found, is, typed) = given_found (rows_where rules gens (written_cond rules b) []) (term_type rules x) own some in
      tested_gathers rules gens b (where_gathers rules b) [] found root nodes (where_is gens b found is) (omega arith)
  query_gathers nodes (query.Agg a) ty e =
      let (side, is, more) = given_found (agg_side rules a []) (λ side. Some side.ty) ty e in
      (agg_gathers rules a [] side is root nodes (omega arith)).0

  abbrev Queries : List Query → Type 0
  Queries queries = (q : Query) → Has queries q → is_some (query_type rules q) ≡ true

  abbrev Conds : List Cond → Type 0
  Conds conds = (b : Cond) → Has conds b → cond_holds rules b [] ≡ true

  one_gathers : (q : Query) (queries : List Query) (plan : Plan) → Queries (q ∷ queries) → Gathers (query_gens q) plan.nodes (with_query plan q).nodes
  one_gathers q queries plan typed = let (ty, e) = some_found (query_type rules q) (typed q (inl refl)) in query_gathers plan.nodes q ty e

  all_gather : (queries : List Query) (plan : Plan) → Queries queries → Gathers (flat_map query_gens queries) plan.nodes (with_all queries plan).nodes
  all_gather [] plan typed = gathers_none plan.nodes
  all_gather (q ∷ qs) plan typed =
      gathers_then (query_gens q) (flat_map query_gens qs) plan.nodes (with_query plan q).nodes (with_all qs (with_query plan q)).nodes (one_gathers q qs plan typed) (all_gather qs (with_query plan q) (λ z h. typed z (inr h)))

  -- So many of the queries, and what is left of them. `rest` is what the others bring.
  record Taken (queries left : List Query) (before after : List Node) : Type 0 where
    own : Gens
    gathers : Gathers own before after
    whole : flat_map query_gens queries ≡ own ++ flat_map query_gens left
    typed : Queries left

  asked_gather : (n : ℕ) (queries : List Query) (plan : Plan) → Queries queries → Taken queries (with_asked n queries plan).1 plan.nodes (with_asked n queries plan).0.nodes
  asked_gather zero queries plan typed = record { own = []; gathers = gathers_none plan.nodes; whole = refl; typed = typed }
  asked_gather (suc n) [] plan typed = record { own = []; gathers = gathers_none plan.nodes; whole = refl; typed = typed }
  asked_gather (suc n) (q ∷ qs) plan typed =
      let next = with_query plan q in
      let rest = asked_gather n qs next (λ z h. typed z (inr h)) in
      let left : List Query = (with_asked n qs next).1 in
      record {
        own = query_gens q ++ rest.own;
        gathers = gathers_then (query_gens q) rest.own plan.nodes next.nodes (with_asked n qs next).0.nodes (one_gathers q qs plan typed) rest.gathers;
        whole = ap (λ z. query_gens q ++ z) rest.whole ∙ sym (append_assoc (query_gens q) rest.own (flat_map query_gens left));
        typed = rest.typed;
      }

  -- a condition among queries
  moved : (a b c : Gens) → IsAlike (history_lives (a ++ (b ++ c))) (history_lives (b ++ (a ++ c)))
  moved a b c =
      IsAlike-trans (history_lives (a ++ (b ++ c))) (history_lives ((a ++ b) ++ c)) (history_lives (b ++ (a ++ c)))
      (alike_as (history_lives (a ++ (b ++ c))) (history_lives ((a ++ b) ++ c)) (ap history_lives (sym (append_assoc a b c))))
      (IsAlike-trans (history_lives ((a ++ b) ++ c)) (history_lives ((b ++ a) ++ c)) (history_lives (b ++ (a ++ c))) both
      (alike_as (history_lives ((b ++ a) ++ c)) (history_lives (b ++ (a ++ c))) (ap history_lives (append_assoc b a c))))
    where
      pair : (x y : Gens) → history_lives ((x ++ y) ++ c) ≡ (history_lives x ++ history_lives y) ++ history_lives c
      pair x y = lives-append (x ++ y) c ∙ ap (λ z. z ++ history_lives c) (lives-append x y)

      both : IsAlike (history_lives ((a ++ b) ++ c)) (history_lives ((b ++ a) ++ c))
      both =
          subst (λ z. IsAlike z (history_lives ((b ++ a) ++ c))) (sym (pair a b))
          (subst (IsAlike ((history_lives a ++ history_lives b) ++ history_lives c)) (sym (pair b a))
          (alike_both (history_lives a ++ history_lives b) (history_lives b ++ history_lives a) (history_lives c) (history_lives c) (alike_swapped (history_lives a) (history_lives b)) (IsAlike-refl (history_lives c))))

  met_gather : (met : List Met) (queries : List Query) (plan : Plan) → Queries queries → Conds (awaited met) → Gathers (flat_map query_gens queries ++ met_gens met) plan.nodes (with_met met queries plan).nodes
  met_gather [] queries plan typed kept = subst (λ gens. Gathers gens plan.nodes (with_all queries plan).nodes) (sym (append-nil (flat_map query_gens queries))) (all_gather queries plan typed)
  met_gather (Asked n ∷ met) queries plan typed kept =
      let next = with_asked n queries plan in
      let taken = asked_gather n queries plan typed in
      let left : Gens = flat_map query_gens next.1 in
      subst (λ gens. Gathers gens plan.nodes (with_met met next.1 next.0).nodes) (sym (append_assoc taken.own left (met_gens met)) ∙ ap (λ z. z ++ met_gens met) (sym taken.whole))
      (gathers_then taken.own (left ++ met_gens met) plan.nodes next.0.nodes (with_met met next.1 next.0).nodes taken.gathers (met_gather met next.1 next.0 taken.typed kept))
  met_gather (Awaited b ∷ met) queries plan typed kept =
      let next = with_flag plan b in
      let asked : Gens = flat_map query_gens queries in
      gathers_alike (cond_gens b ++ (asked ++ met_gens met)) (asked ++ (cond_gens b ++ met_gens met)) plan.nodes (with_met met queries next).nodes (moved (cond_gens b) asked (met_gens met))
      (gathers_then (cond_gens b) (asked ++ met_gens met) plan.nodes next.nodes (with_met met queries next).nodes
      (norm_gathers rules b [] root plan.nodes (kept b (inl refl)) (omega arith))
      (met_gather met queries next typed (λ z h. kept z (inr h))))

  -- all generators of the class
  all_gens : (class : Class) → flat_map query_gens class.queries ++ met_gens (class_met class) ≡ class_gens class
  all_gens class =
      ap (λ z. flat_map query_gens class.queries ++ z) (class_awaits class)
      ∙ sym (append_assoc (flat_map query_gens class.queries) (flat_map item_gens class.run) (flat_map (λ h. flat_map item_gens h.body) class.handlers))

  once_alike : (xs ys : List LivePattern) → IsAlike xs ys → IsAlike (once xs) (once ys)
  once_alike xs ys alike x = (
    λ h. Has-once ys x ((alike x).0 (of_once xs x h)),
    λ h. Has-once xs x ((alike x).1 (of_once ys x h)),
  )

  -- the live patterns of the plan are those of the class
  pub live_law : (class : Class) → KeepsTypes rules class → IsAlike (plan_live (norm_class class).nodes) (live class)
  live_law class keeps =
      once_alike (history_lives (node_gens (norm_class class).nodes)) (history_lives (class_gens class))
      (subst (λ gens. Gathers gens opening_plan.nodes (norm_class class).nodes) (all_gens class) (met_gather (class_met class) class.queries opening_plan keeps.queries keeps.conds))

  -- so they match as many rows
  pub kept_law : (class : Class) → KeepsTypes rules class → (d : Data) → sum (map (λ p. length (live_rows p d)) (plan_live (norm_class class).nodes)) ≡ kept class d
  kept_law class keeps d =
      same_sum (λ p. length (live_rows p d)) (plan_live (norm_class class).nodes) (live class) (once_distinct (history_lives (node_gens (norm_class class).nodes))) (live_distinct class) (live_law class keeps)

-- of each class of a typed program
pub typed_live : (p : Program) (class : Class) → IsTyped p → Has p.classes class → IsAlike (plan_live (norm_class class).nodes) (live class)
typed_live p class typed h = live_law (known p.messages class.queries class.slots) class (typed_keeps p class typed h)

pub typed_kept : (p : Program) (class : Class) → IsTyped p → Has p.classes class → (d : Data) → sum (map (λ q. length (live_rows q d)) (plan_live (norm_class class).nodes)) ≡ kept class d
typed_kept p class typed h d = kept_law (known p.messages class.queries class.slots) class (typed_keeps p class typed h) d

-- The plan of a class tells each of its numbered queries and each condition of an `await`.
use Rattle.std.specs.Prelude.{◌≡◌, ◌<◌, ℕ, zero, suc, List, [], ◌∷◌, ◌++◌, length, slice_get, Some, refl}
use Rattle.std.specs.List.{AllZip}
use Rattle.std.proofs.Common.{ap, sym, subst, ◌∙◌, append_assoc, append-nil}
use Rattle.std.proofs.lemmas.Slice.Zip.{all_zipped_more}
use Rattle.da_lang.specs.declared.program.Class.{Class}
use Rattle.da_lang.specs.declared.query.Cond.{Cond}
use Rattle.da_lang.specs.declared.query.Node.{Node}
use Rattle.da_lang.specs.declared.query.Node.TheVariants as node
use Rattle.da_lang.specs.declared.query.Query.{Query}
use Rattle.da_lang.specs.declared.query.QueryNode.{QueryNode}
use Rattle.da_lang.specs.World.{Data}
use Rattle.query_plan.specs.declared.plan.Plan.{Plan}
use Rattle.query_plan.specs.Nodes.{node_rows, ReadsBelow, IsEven, width_of, IsPlan}
use Rattle.query_plan.specs.Plans.{norm}
use Rattle.query_plan.specs.Questions.{Met, Asked, Awaited, class_met, awaited, opening_plan, root, query_node, with_query, with_flag, with_asked, with_all, with_met, norm_class}
use Rattle.query_plan.specs.Told.{told_value, told_shown, told_least, has_row, TellsQuery, TellsFlag, IsPlanOf}
use Rattle.query_plan.proofs.NodeLaws.{node_rows-front}
use Rattle.quant_norm.proofs.PlaceLaws.{Grown, still_there}
use Rattle.quant_norm.proofs.QueryLaw.{Begun, begun_on, query_law, flag_law}

opening_begun : Begun opening_plan.nodes
opening_begun = record { plan = only; first = refl }
  where
    only : IsPlan (node.Root ∷ [])
    only zero n e = let same : node.Root ≡ n = cc in subst (λ z. ReadsBelow 0 z × IsEven (width_of (node.Root ∷ [])) z) same (tt, tt)
    only (suc i) n e = absurd (cc)

zip_map : {A B : Type 0} (R S : A → B → Type 0) (xs : List A) (ys : List B) → ((x : A) (y : B) → R x y → S x y) → AllZip R xs ys → AllZip S xs ys
zip_map R S [] [] into all = tt
zip_map R S [] (y ∷ ys) into all = all
zip_map R S (x ∷ xs) [] into all = all
zip_map R S (x ∷ xs) (y ∷ ys) into all = (into x y all.0, zip_map R S xs ys into all.1)

module _ (d : Data) where
  same_rows : (nodes longer : List Node) (i : ℕ) → Grown nodes longer → i < length nodes → node_rows d longer i ≡ node_rows d nodes i
  same_rows nodes longer i (more, e) below = ap (λ ns. node_rows d ns i) e ∙ node_rows-front d nodes more i below

  -- further nodes change nothing of what is told
  query_stays : (nodes longer : List Node) → Grown nodes longer → (q : Query) (told : QueryNode) → TellsQuery d nodes q told → TellsQuery d longer q told
  query_stays nodes longer grown q told tells =
      let same = same_rows nodes longer told.node grown tells.there in
      record {
        there = still_there nodes longer told.node grown tells.there;
        rows = same ∙ tells.rows;
        value = ap (told_value d told.shape) same ∙ tells.value;
        shown = ap (told_shown d told.shape) same ∙ tells.shown;
        least = ap (told_least told.shape) same ∙ tells.least;
      }

  flag_stays : (nodes longer : List Node) → Grown nodes longer → (b : Cond) (flag : ℕ) → TellsFlag d nodes b flag → TellsFlag d longer b flag
  flag_stays nodes longer grown b flag tells = record {
    there = still_there nodes longer flag grown tells.there;
    row = ap has_row (same_rows nodes longer flag grown tells.there) ∙ tells.row;
  }

  -- a plan that tells these queries and conditions
  record Telling (queries : List Query) (conds : List Cond) (plan : Plan) : Type 0 where
    begun : Begun plan.nodes
    asked : AllZip (TellsQuery d plan.nodes) queries plan.queries
    flagged : AllZip (TellsFlag d plan.nodes) conds plan.flags

  query_told : (queries : List Query) (conds : List Cond) (plan : Plan) (q : Query) → Telling queries conds plan → Telling (queries ++ q ∷ []) conds (with_query plan q)
  query_told queries conds plan q telling =
      let end = query_node plan.nodes q in
      let answered = query_law d plan.nodes q telling.begun in
      record {
        begun = begun_on plan.nodes end.0 telling.begun answered.grown answered.plan;
        asked = all_zipped_more (TellsQuery d end.0) queries plan.queries q end.1
            (zip_map (TellsQuery d plan.nodes) (TellsQuery d end.0) queries plan.queries (query_stays plan.nodes end.0 answered.grown) telling.asked) answered.tells;
        flagged = zip_map (TellsFlag d plan.nodes) (TellsFlag d end.0) conds plan.flags (flag_stays plan.nodes end.0 answered.grown) telling.flagged;
      }

  flag_told : (queries : List Query) (conds : List Cond) (plan : Plan) (b : Cond) → Telling queries conds plan → Telling queries (conds ++ b ∷ []) (with_flag plan b)
  flag_told queries conds plan b telling =
      let end = norm b root plan.nodes in
      let flagged = flag_law d plan.nodes b telling.begun in
      record {
        begun = begun_on plan.nodes end.0 telling.begun flagged.grown flagged.plan;
        asked = zip_map (TellsQuery d plan.nodes) (TellsQuery d end.0) queries plan.queries (query_stays plan.nodes end.0 flagged.grown) telling.asked;
        flagged = all_zipped_more (TellsFlag d end.0) conds plan.flags b end.1
            (zip_map (TellsFlag d plan.nodes) (TellsFlag d end.0) conds plan.flags (flag_stays plan.nodes end.0 flagged.grown) telling.flagged) flagged.tells;
      }

  all_told : (more queries : List Query) (conds : List Cond) (plan : Plan) → Telling queries conds plan → Telling (queries ++ more) conds (with_all more plan)
  all_told [] queries conds plan telling = subst (λ qs. Telling qs conds plan) (sym (append-nil queries)) telling
  all_told (q ∷ more) queries conds plan telling =
      subst (λ qs. Telling qs conds (with_all more (with_query plan q))) (append_assoc queries (q ∷ []) more)
      (all_told more (queries ++ q ∷ []) conds (with_query plan q) (query_told queries conds plan q telling))

  asked_told : (n : ℕ) (more queries : List Query) (conds : List Cond) (plan : Plan) → Telling queries conds plan → (taken : List Query) × Telling (queries ++ taken) conds (with_asked n more plan).0 × (taken ++ (with_asked n more plan).1 ≡ more)
  asked_told zero more queries conds plan telling = ([], subst (λ qs. Telling qs conds plan) (sym (append-nil queries)) telling, refl)
  asked_told (suc n) [] queries conds plan telling = ([], subst (λ qs. Telling qs conds plan) (sym (append-nil queries)) telling, refl)
  asked_told (suc n) (q ∷ more) queries conds plan telling =
      let (taken, told, is) = asked_told n more (queries ++ q ∷ []) conds (with_query plan q) (query_told queries conds plan q telling) in (
        q ∷ taken,
        subst (λ qs. Telling qs conds (with_asked n more (with_query plan q)).0) (append_assoc queries (q ∷ []) taken) told,
        ap (λ qs. q ∷ qs) is,
      )

  met_told : (met : List Met) (more queries : List Query) (conds : List Cond) (plan : Plan) → Telling queries conds plan → Telling (queries ++ more) (conds ++ awaited met) (with_met met more plan)
  met_told [] more queries conds plan telling = subst (λ bs. Telling (queries ++ more) bs (with_all more plan)) (sym (append-nil conds)) (all_told more queries conds plan telling)
  met_told (Asked n ∷ met) more queries conds plan telling =
      let next = with_asked n more plan in
      let (taken, told, is) = asked_told n more queries conds plan telling in
      subst (λ qs. Telling qs (conds ++ awaited met) (with_met met next.1 next.0)) (append_assoc queries taken next.1 ∙ ap (λ qs. queries ++ qs) is)
      (met_told met next.1 (queries ++ taken) conds next.0 told)
  met_told (Awaited b ∷ met) more queries conds plan telling =
      subst (λ bs. Telling (queries ++ more) bs (with_met met more (with_flag plan b))) (append_assoc conds (b ∷ []) (awaited met))
      (met_told met more queries (conds ++ b ∷ []) (with_flag plan b) (flag_told queries conds plan b telling))

  class_told : (class : Class) → Telling class.queries (awaited (class_met class)) (norm_class class)
  class_told class = met_told (class_met class) class.queries [] [] opening_plan (record { begun = opening_begun; asked = tt; flagged = tt })

-- a world of no process, where only the plan matters
abbrev nowhere : Data
nowhere = record { me = 0; slots = []; sent = []; received = []; clock = 0 }

-- the plan begins with the root
pub class_root : (class : Class) → slice_get (norm_class class).nodes 0 ≡ Some node.Root
class_root class = (class_told nowhere class).begun.first

pub class_law : (class : Class) → IsPlanOf class (norm_class class)
class_law class = record {
  lower = (class_told nowhere class).begun.plan;
  queries = λ d. (class_told d class).asked;
  flags = λ d. (class_told d class).flagged;
}

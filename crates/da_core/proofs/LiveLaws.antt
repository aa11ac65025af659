-- What live patterns match decides the rows of all plain nodes: they are the same in two processes of one number that have the same
-- slots and whose live patterns match the same rows.
use Rattle.std.proofs.Common.{◌≡◌, refl, sym, ◌∙◌, ap, subst, inl, inr, Bool, true, false, List, [], ◌∷◌, map}
use Rattle.std.specs.List.{AllByRecursion, filter_map, list_all}
use Rattle.std.proofs.lemmas.Bool.{and_parts, false≢true}
use Rattle.da_values.specs.declared.val.Val.TheVariants as val
use Rattle.da_values.specs.Sets.{Has, IsAlike}
use Rattle.da_values.specs.Views.{elements_of}
use Rattle.da_values.proofs.Members.{Has-append_left, Has-append_right, IsAlike-refl}
use Rattle.da_lang.specs.declared.query.LivePattern.{LivePattern}
use Rattle.da_lang.specs.declared.query.Node.{Node}
use Rattle.da_lang.specs.declared.query.Node.TheVariants as node
use Rattle.da_lang.specs.declared.query.RGen.{RGen}
use Rattle.da_lang.specs.declared.query.Source.{Source}
use Rattle.da_lang.specs.declared.query.Source.TheVariants as source
use Rattle.da_lang.specs.Caught.{agree, gen_origins}
use Rattle.da_lang.specs.Live.{is_history, live_gen, live_rows}
use Rattle.da_lang.specs.Matching.{Candidate, Element, Message, Row, and_then, matched, matched_candidate}
use Rattle.da_lang.specs.Queries.{candidates, step_rows}
use Rattle.da_lang.specs.World.{Data, value_in}
use Rattle.da_lang.proofs.CaughtLaws.{live_is_step, step_is_live}
use Rattle.query_plan.specs.PlainNodes.{PlainNodes, is_plain_node}
use Rattle.query_plan.specs.PlanLive.{gen_of, node_gens, plan_live}
use Rattle.query_plan.proofs.PlainReads.{plain_alike, value_same}
use Rattle.query_plan.proofs.PlanLiveLaws.{live_there}
use Rattle.query_plan.proofs.SameRows.{NodeSame, filter_map_same, rows_same}
use Rattle.delta_rules.specs.Keeping.{all_rows}
use Rattle.delta_rules.proofs.UpdateLaws.{rows_each}

module _ (d e : Data) (mine : d.me ≡ e.me) (slots : d.slots ≡ e.slots) where
  -- each live pattern matches the same rows in both
  abbrev pub SameLives : List Node → Type 0
  SameLives nodes = (p : LivePattern) → Has (plan_live nodes) p → live_rows p d ≡ live_rows p e

  abbrev GivesAlike : RGen → Type 0
  GivesAlike g = (row : Row) → IsAlike (step_rows d g row) (step_rows e g row)

  -- ONE GENERATOR

  module _ (g : RGen) (row : Row) where
    agree_same : (l : Row) → agree d.me d.slots (gen_origins g) l row ≡ agree e.me e.slots (gen_origins g) l row
    agree_same l = ap (λ me. agree me d.slots (gen_origins g) l row) mine ∙ ap (λ values. agree e.me values (gen_origins g) l row) slots

    over_history : is_history g.source ≡ true → live_rows (live_gen g) d ≡ live_rows (live_gen g) e → IsAlike (step_rows d g row) (step_rows e g row)
    over_history over same r = (
      λ h. (let (l, there, gives) = step_is_live d g row over r h in live_is_step e g row over l r (subst (λ rows. Has rows l) same there) (sym (agree_same l) ∙ gives)),
      λ h. (let (l, there, gives) = step_is_live e g row over r h in live_is_step d g row over l r (subst (λ rows. Has rows l) (sym same) there) (agree_same l ∙ gives)),
    )

    same_match : (c : Candidate) → matched_candidate d g.message g.peer c row ≡ matched_candidate e g.message g.peer c row
    same_match (Element x) = ap (λ me. matched me d.slots g.message x row) mine ∙ ap (λ values. matched e.me values g.message x row) slots
    same_match (Message x p) =
        ap (λ me. and_then (matched me d.slots g.message x row) (matched me d.slots g.peer (val.Proc p))) mine
        ∙ ap (λ values. and_then (matched e.me values g.message x row) (matched e.me values g.peer (val.Proc p))) slots

    over_slot : is_history g.source ≡ false → step_rows d g row ≡ step_rows e g row
    over_slot none = by g.source none
      where
        by : (s : Source) → is_history s ≡ false → filter_map (λ c. matched_candidate d g.message g.peer c row) (candidates d s) ≡ filter_map (λ c. matched_candidate e g.message g.peer c row) (candidates e s)
        by source.Received other = absurd (false≢true (sym other))
        by source.Sent other = absurd (false≢true (sym other))
        by (source.Slot s) other =
            filter_map_same (λ c. matched_candidate d g.message g.peer c row) (λ c. matched_candidate e g.message g.peer c row) same_match (candidates d (source.Slot s))
            ∙ ap (filter_map (λ c. matched_candidate e g.message g.peer c row)) (ap (λ values. map Element (elements_of (value_in values s))) slots)

  gives_alike : (nodes : List Node) (g : RGen) → Has (node_gens nodes) g → SameLives nodes → GivesAlike g
  gives_alike nodes g has same row = by (is_history g.source) refl
    where
      by : (over : Bool) → is_history g.source ≡ over → IsAlike (step_rows d g row) (step_rows e g row)
      by true over = over_history g row over (same (live_gen g) (live_there nodes g has over))
      by false none = subst (IsAlike (step_rows d g row)) (over_slot g row none) (IsAlike-refl (step_rows d g row))

  -- ALL NODES

  node_alike : (n : Node) → is_plain_node n ≡ true → ((g : RGen) → Has (gen_of n) g → GivesAlike g) → NodeSame d e n
  node_alike node.Root plain gens = tt
  node_alike (node.Gen p g) plain gens = gens g (inl refl)
  node_alike (node.Filter p b) plain gens = plain_alike d e mine slots b plain
  node_alike (node.Semi p c) plain gens = tt
  node_alike (node.Anti p c) plain gens = tt
  node_alike (node.Union a b) plain gens = tt
  node_alike (node.AggBind p c op t other) plain gens = λ x h row. value_same d e mine slots x row

  nodes_alike : (nodes : List Node) → PlainNodes nodes → ((g : RGen) → Has (node_gens nodes) g → GivesAlike g) → AllByRecursion (NodeSame d e) nodes
  nodes_alike [] plain gens = tt
  nodes_alike (n ∷ nodes) plain gens =
      let (one, others) = and_parts (is_plain_node n) (list_all is_plain_node nodes) plain in (
        node_alike n one (λ g h. gens g (Has-append_left (gen_of n) (node_gens nodes) g h)),
        nodes_alike nodes others (λ g h. gens g (Has-append_right (gen_of n) (node_gens nodes) g h)),
      )

  pub rows_by_lives : (nodes : List Node) → PlainNodes nodes → SameLives nodes → all_rows d nodes ≡ all_rows e nodes
  rows_by_lives nodes plain same = rows_each d e nodes (λ i. rows_same d e nodes (nodes_alike nodes plain (λ g h. gives_alike nodes g h same)) i)

-- what is the same of each pattern of a list
pub head_same : {A : Type 0} (x y : A) (xs ys : List A) → x ∷ xs ≡ y ∷ ys → x ≡ y
head_same {A} x y xs ys same = ap (first_or x) same
  where
    first_or : A → List A → A
    first_or z [] = z
    first_or z (w ∷ ws) = w

pub tail_same : {A : Type 0} (x y : A) (xs ys : List A) → x ∷ xs ≡ y ∷ ys → xs ≡ ys
tail_same {A} x y xs ys same = ap others same
  where
    others : List A → List A
    others [] = []
    others (w ∷ ws) = ws

pub each_lives : (d e : Data) (ps : List LivePattern) → map (λ p. live_rows p d) ps ≡ map (λ p. live_rows p e) ps → (p : LivePattern) → Has ps p → live_rows p d ≡ live_rows p e
each_lives d e [] same p has = absurd has
each_lives d e (q ∷ ps) same p (inl is) = subst (λ x. live_rows x d ≡ live_rows x e) (sym is) (head_same (live_rows q d) (live_rows q e) (map (λ x. live_rows x d) ps) (map (λ x. live_rows x e) ps) same)
each_lives d e (q ∷ ps) same p (inr has) = each_lives d e ps (tail_same (live_rows q d) (live_rows q e) (map (λ x. live_rows x d) ps) (map (λ x. live_rows x e) ps) same) p has

-- The rows of all nodes, by those of the stored ones.
use Rattle.std.specs.Prelude.{◌≡◌, ◌<◌, ◌≤◌, ◌+◌, ℕ, Bool, true, false, List, [], ◌∷◌, get_or, if◌then◌else◌, length, map, slice_get, take, Option, Some, None, refl}
use Rattle.std.specs.List.{All}
use Rattle.std.proofs.Common.{ap, sym, subst, ◌∙◌}
use Rattle.std.proofs.lemmas.Bool.{and_from}
use Rattle.std.proofs.lemmas.List.{take_all, take_more}
use Rattle.std.proofs.lemmas.List.Folds.{list_all-append, list_all_at}
use Rattle.da_values.specs.declared.val.Val.{Val}
use Rattle.da_values.specs.declared.val.Val.TheVariants as val
use Rattle.da_values.specs.Order.{row_cmp}
use Rattle.da_values.specs.Sets.{Ascends}
use Rattle.da_lang.specs.declared.query.Node.{Node}
use Rattle.da_lang.specs.declared.query.QueryNode.{QueryNode}
use Rattle.da_lang.specs.declared.query.Shape.{Shape}
use Rattle.da_lang.specs.declared.query.Shape.TheVariants as shape
use Rattle.da_lang.specs.Matching.{Row}
use Rattle.da_lang.specs.World.{Data, at_number}
use Rattle.query_plan.specs.declared.plan.Plan.{Plan}
use Rattle.query_plan.specs.declared.stored.Seen.{Seen}
use Rattle.query_plan.specs.declared.stored.Stored.{Stored}
use Rattle.query_plan.specs.declared.stored.Test.{Test}
use Rattle.query_plan.specs.Nodes.{Tables, node_rows}
use Rattle.query_plan.specs.Seen.{are_met, given, given_if, is_met, seen_rows}
use Rattle.query_plan.specs.Told.{told_least, told_shown, told_value}
use Rattle.row_pool.specs.Cells.{Cells}
use Rattle.answer_index.specs.Answers.{IsSet}
use Rattle.delta_rules.specs.declared.answers.Answers.{Answers}
use Rattle.delta_rules.specs.Keeping.{Sees}
use Rattle.delta_rules.specs.Told.{asked, kept_rows, least_found, least_of_node, set_listed, shown_of_node, stored_rows, value_of_node}
use Rattle.delta_rules.proofs.ReadingLaws.{rows_ascend}

-- Each node is seen with its rows.
pub seen_told : (answers : Answers) (pool : Cells) (stored : Stored) (nodes : List Node) (d : Data) → Sees answers pool stored nodes d → (i : ℕ) → kept_rows answers pool stored i ≡ node_rows d nodes i
seen_told answers pool stored nodes d sees i =
    ap (λ (all : List (List Row)). seen_rows (λ k. get_or all k []) stored.seen i) sees.keeps.rows ∙ sees.stored.rows d i

-- What an entry gives.

module _ (rows : Tables) (table : List Seen) (i : ℕ) where
  pub not_there : ◌≡◌ {A = Option Seen} None (slice_get table i) → seen_rows rows table i ≡ []
  not_there none = ap (given_if rows) (sym none)

  pub by_entry : (s : Seen) → ◌≡◌ {A = Option Seen} (Some s) (slice_get table i) → seen_rows rows table i ≡ given rows s
  by_entry s there = ap (given_if rows) (sym there)

module _ (rows : Tables) (s : Seen) (tests : List Test) (same : tests ≡ s.tests) where
  pub where_met : true ≡ are_met rows tests → given rows s ≡ rows s.node
  where_met met = ap (λ b. if b then rows s.node else []) (ap (are_met rows) (sym same) ∙ sym met)

  pub where_not : false ≡ are_met rows tests → given rows s ≡ []
  where_not failed = ap (λ b. if b then rows s.node else []) (ap (are_met rows) (sym same) ∙ sym failed)

-- One test after the other.

module _ (rows : Tables) (tests : List Test) (i : ℕ) (d : Test) (within : i < length tests) where
  pub met_so_far : true ≡ is_met rows (get_or tests i d) → are_met rows (take i tests) ≡ true → are_met rows (take (i + 1) tests) ≡ true
  met_so_far one so_far =
      let t : Test = get_or tests i d in
      ap (are_met rows) (take_more tests i d within)
      ∙ list_all-append (is_met rows) (take i tests) (t ∷ [])
      ∙ and_from (are_met rows (take i tests)) (are_met rows (t ∷ [])) so_far (and_from (is_met rows t) true (sym one) refl)

  pub one_fails : false ≡ is_met rows (get_or tests i d) → false ≡ are_met rows tests
  one_fails failed = sym (list_all_at (is_met rows) tests i d within (sym failed))

pub all_met : (rows : Tables) (tests : List Test) (i : ℕ) → length tests ≤ i → are_met rows (take i tests) ≡ true → true ≡ are_met rows tests
all_met rows tests i past so_far = sym (ap (are_met rows) (sym (take_all i tests past)) ∙ so_far)

-- The rows of each node ascend.

module _ (answers : Answers) (pool : Cells) (stored : Stored) (each : All (λ set. IsSet set pool) answers.nodes.items) where
  given_up : (s : Seen) (b : Bool) → Ascends row_cmp (if b then stored_rows answers pool s.node else [])
  given_up s true = rows_ascend pool answers.nodes.items each s.node
  given_up s false = tt

  pub seen_up : (i : ℕ) → Ascends row_cmp (kept_rows answers pool stored i)
  seen_up i = go (slice_get stored.seen i)
    where
      go : (o : Option Seen) → Ascends row_cmp (given_if (stored_rows answers pool) o)
      go None = tt
      go (Some s) = given_up s (are_met (stored_rows answers pool) s.tests)

-- The first row is enough for the value of a query but that of a comprehension.

pub some_by_first : (s : Shape) (all rows : List Row) → s ≡ shape.Exists → rows ≡ take 1 all → (d : Data) → told_value d s rows ≡ told_value d s all
some_by_first s all rows kind is d = ap (told_value d s) is ∙ subst (λ z. told_value d z (take 1 all) ≡ told_value d z all) (sym kind) (go all)
  where
    go : (xs : List Row) → told_value d shape.Exists (take 1 xs) ≡ told_value d shape.Exists xs
    go [] = refl
    go (x ∷ xs) = refl

pub each_by_first : (s : Shape) (all rows : List Row) → s ≡ shape.Each → rows ≡ take 1 all → (d : Data) → told_value d s rows ≡ told_value d s all
each_by_first s all rows kind is d = ap (told_value d s) is ∙ subst (λ z. told_value d z (take 1 all) ≡ told_value d z all) (sym kind) (go all)
  where
    go : (xs : List Row) → told_value d shape.Each (take 1 xs) ≡ told_value d shape.Each xs
    go [] = refl
    go (x ∷ xs) = refl

pub one_by_first : (s : Shape) (all rows : List Row) → s ≡ shape.Agg → rows ≡ take 1 all → (d : Data) → told_value d s rows ≡ told_value d s all
one_by_first s all rows kind is d = ap (told_value d s) is ∙ subst (λ z. told_value d z (take 1 all) ≡ told_value d z all) (sym kind) (go all)
  where
    go : (xs : List Row) → told_value d shape.Agg (take 1 xs) ≡ told_value d shape.Agg xs
    go [] = refl
    go ([] ∷ xs) = refl
    go ((y ∷ x) ∷ xs) = refl

-- What is told of a query.

module _ (answers : Answers) (pool : Cells) (stored : Stored) (plan : Plan) (q : ℕ) (query : QueryNode) (there : ◌≡◌ {A = Option QueryNode} (Some query) (at_number plan.queries q)) (d : Data) (sees : Sees answers pool stored plan.nodes d) where
  rows_are : kept_rows answers pool stored query.node ≡ node_rows d plan.nodes query.node
  rows_are = seen_told answers pool stored plan.nodes d sees query.node

  pub value_seen : (v : Val) → ((e : Data) → e.me ≡ answers.me → e.slots ≡ answers.values → v ≡ told_value e query.shape (kept_rows answers pool stored query.node)) → v ≡ asked d plan q
  value_seen v told = told d (sym sees.keeps.me) (sym sees.keeps.values) ∙ ap (told_value d query.shape) rows_are ∙ ap (value_of_node d plan.nodes) there

  pub least_seen : (row : Option Row) → row ≡ told_least query.shape (kept_rows answers pool stored query.node) → row ≡ least_found d plan q
  least_seen row told = told ∙ ap (told_least query.shape) rows_are ∙ ap (least_of_node d plan.nodes) there

  pub set_seen : (set : List Val) → ((e : Data) → e.me ≡ answers.me → e.slots ≡ answers.values → set ≡ map val.Tuple (told_shown e query.shape (kept_rows answers pool stored query.node))) → set ≡ set_listed d plan q
  set_seen set told =
      told d (sym sees.keeps.me) (sym sees.keeps.values) ∙ ap (λ rows. map val.Tuple (told_shown d query.shape rows)) rows_are
      ∙ ap (λ o. map val.Tuple (shown_of_node d plan.nodes o)) there

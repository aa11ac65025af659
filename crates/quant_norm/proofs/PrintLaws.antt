-- Prints of nodes, and the search for an equal node by them.
use Rattle.std.specs.Prelude.{◌≡◌, ℕ, zero, suc, ◌+◌, ◌<◌, ◌≤◌, true, false, List, [], ◌∷◌, ◌++◌, cond, length, map, position, slice_index_or, Some, None, refl}
use Rattle.std.specs.List.{position_from}
use Rattle.std.proofs.Common.{ap, sym, ◌∙◌, arith, drop, take, length-append}
use Rattle.std.proofs.lemmas.Bool.{false≢true}
use Rattle.std.proofs.lemmas.Iterator.Adapters.{position_from-zero}
use Rattle.std.proofs.lemmas.List.{drop_all, map-append}
use Rattle.da_lang.specs.declared.query.Node.{Node}
use Rattle.da_lang.specs.declared.query.Node.TheVariants as node
use Rattle.da_lang.specs.declared.query.Query.{Query}
use Rattle.da_lang.specs.declared.query.QueryNode.{QueryNode}
use Rattle.query_plan.specs.declared.plan.Plan.{Plan}
use Rattle.query_plan.specs.Questions.{opening_plan, with_query}
use Rattle.query_plan.specs.Questions as questions
use Rattle.query_plan.specs.Spelled.{same_node}
use Rattle.query_plan.proofs.SpelledLaws.{test_is}
use Rattle.quant_norm.specs.Making.{Over}
use Rattle.quant_norm.specs.Prints.{node_print, print_from, print_step}

-- TEXTS, byte after byte

pub print_next : (text : List ℕ) (i print : ℕ) → i < length text → print_from print (drop i text) ≡ print_from (print_step print (slice_index_or text i 0)) (drop (i + 1) text)
print_next [] i print within = absurd (omega (arith, within))
print_next (byte ∷ bytes) zero print within = refl
print_next (byte ∷ bytes) (suc i) print within =
    print_next bytes i print (omega (arith, within))
    ∙ ap (λ n. print_from (print_step print (slice_index_or bytes i 0)) (drop n (byte ∷ bytes))) (let same : suc (i + 1) ≡ suc i + 1 = omega arith in same)

-- NODES

pub prints_apart : (other n : Node) (its print : ℕ) → its ≡ node_print other → print ≡ node_print n → (its ≡ print → ⊥) → false ≡ same_node n other
prints_apart other n its print i p differ =
    test_is n other false (λ told. absurd (false≢true told), λ same. absurd (differ (i ∙ ap node_print (sym same) ∙ sym p)))

map_at : (nodes : List Node) (i : ℕ) (n : Node) → i < length nodes → n ≡ slice_index_or nodes i n → slice_index_or (map node_print nodes) i 0 ≡ node_print n
map_at [] i n within is = absurd (omega (arith, within))
map_at (m ∷ nodes) zero n within is = ap node_print (sym is)
map_at (m ∷ nodes) (suc i) n within is = map_at nodes i n (omega (arith, within)) is

pub print_at : (prints : List ℕ) (nodes : List Node) (i : ℕ) (n : Node) → prints ≡ map node_print nodes → i < length nodes → n ≡ slice_index_or nodes i n → slice_index_or prints i 0 ≡ node_print n
print_at prints nodes i n kept within is = ap (λ (ps : List ℕ). slice_index_or ps i 0) kept ∙ map_at nodes i n within is

drop_at : (xs : List Node) (i : ℕ) (x : Node) → i < length xs → x ≡ slice_index_or xs i x → drop i xs ≡ x ∷ drop (i + 1) xs
drop_at [] i x within is = absurd (omega (arith, within))
drop_at (y ∷ ys) zero x within is = ap (λ (z : Node). z ∷ ys) (sym is)
drop_at (y ∷ ys) (suc i) x within is = drop_at ys i x (omega (arith, within)) is ∙ ap (λ n. x ∷ drop n (y ∷ ys)) (let same : suc (i + 1) ≡ suc i + 1 = omega arith in same)

-- the search, node after node
abbrev pub Searches : Node → List Node → ℕ → Type 0
Searches n nodes place = position_from (same_node n) place (drop place nodes) ≡ position_from (same_node n) 0 nodes

module _ (n : Node) (nodes : List Node) (place : ℕ) (so_far : Searches n nodes place) where
  here : (x : Node) → place < length nodes → x ≡ slice_index_or nodes place x
      → cond (same_node n x) (Some place) (position_from (same_node n) (place + 1) (drop (place + 1) nodes)) ≡ position_from (same_node n) 0 nodes
  here x within is = sym (ap (position_from (same_node n) place) (drop_at nodes place x within is)) ∙ so_far

  pub found_here : (x : Node) → place < length nodes → x ≡ slice_index_or nodes place x → same_node n x ≡ true → Some place ≡ position (same_node n) nodes
  found_here x within is same =
      sym (ap (λ b. cond b (Some place) (position_from (same_node n) (place + 1) (drop (place + 1) nodes))) same) ∙ here x within is ∙ sym (position_from-zero (same_node n) nodes)

  pub searches_on : (x : Node) → place < length nodes → x ≡ slice_index_or nodes place x → same_node n x ≡ false → Searches n nodes (place + 1)
  searches_on x within is other = sym (ap (λ b. cond b (Some place) (position_from (same_node n) (place + 1) (drop (place + 1) nodes))) other) ∙ here x within is

  pub found_none : length nodes ≤ place → None ≡ position (same_node n) nodes
  found_none past = ap (position_from (same_node n) place) (sym (drop_all place nodes past)) ∙ so_far ∙ sym (position_from-zero (same_node n) nodes)

-- A NODE THAT IS PUT with its print

pub next_prints : (prints next : List ℕ) (list : List Node) (n : Node) (print : ℕ) → next ≡ prints ++ print ∷ [] → prints ≡ map node_print list → print ≡ node_print n → next ≡ map node_print (list ++ n ∷ [])
next_prints prints next list n print is kept same =
    is ∙ ap (λ (ps : List ℕ). ps ++ print ∷ []) kept ∙ ap (λ p. map node_print list ++ p ∷ []) same ∙ sym (map-append node_print list (n ∷ []))

front : (xs ys : List Node) → take (length xs) (map node_print (xs ++ ys)) ≡ map node_print xs
front [] ys = refl
front (x ∷ xs) ys = ap (λ (ps : List ℕ). node_print x ∷ ps) (front xs ys)

pub front_prints : (prints : List ℕ) (list : List Node) (n : Node) (count : ℕ) → prints ≡ map node_print (list ++ n ∷ []) → count ≡ length list → take count prints ≡ map node_print list
front_prints prints list n count kept many = ap (λ k. take k prints) many ∙ ap (take (length list)) kept ∙ front list (n ∷ [])

pub pushed : (inside nodes next : List Node) (n : Node) (number : ℕ) → inside ≡ nodes → next ≡ inside ++ n ∷ [] → number ≡ length inside → ◌≡◌ {A = List Node × ℕ} (nodes ++ n ∷ [], length nodes) (next, number)
pushed inside nodes next n number same is many =
    ap {B = List Node × ℕ} (λ (ns : List Node). (ns, length nodes)) (sym (is ∙ ap (λ (ns : List Node). ns ++ n ∷ []) same))
    ∙ ap {B = List Node × ℕ} (λ (k : ℕ). (next, k)) (sym (many ∙ ap (λ (ns : List Node). length ns) same))

pub over_pushed : (inside nodes : List Node) (n : Node) (count : ℕ) → inside ≡ nodes → count ≡ length inside → 4096 ≤ count → Over (nodes ++ n ∷ [])
over_pushed inside nodes n count same many full = omega (arith, full, many, ap (λ (ns : List Node). length ns) same, length-append nodes (n ∷ []))

-- A PLAN IN THE MAKING

abbrev pub plan_with : List Node → List QueryNode → List ℕ → Plan
plan_with nodes queries flags = record { nodes = nodes; queries = queries; flags = flags }

pub plan_opened : (nodes : List Node) (queries : List QueryNode) (flags : List ℕ) → nodes ≡ node.Root ∷ [] → queries ≡ [] → flags ≡ [] → plan_with nodes queries flags ≡ opening_plan
plan_opened nodes queries flags root none unflagged =
    ap (λ (ns : List Node). plan_with ns queries flags) root ∙ ap (λ (qs : List QueryNode). plan_with (node.Root ∷ []) qs flags) none ∙ ap (λ (fs : List ℕ). plan_with (node.Root ∷ []) [] fs) unflagged

pub query_put : (nodes next : List Node) (queries more : List QueryNode) (flags : List ℕ) (q : Query) (told : QueryNode) → ◌≡◌ {A = List Node × QueryNode} (questions.query_node nodes q) (next, told)
    → more ≡ queries ++ told ∷ [] → with_query (plan_with nodes queries flags) q ≡ plan_with next more flags
query_put nodes next queries more flags q told made pushed =
    ap {B = Plan} (λ (last : List Node × QueryNode). plan_with last.0 (queries ++ last.1 ∷ []) flags) made ∙ ap {B = Plan} (λ (qs : List QueryNode). plan_with next qs flags) (sym pushed)

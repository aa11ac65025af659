-- The rows of a node by those of other nodes.
use Rattle.std.specs.Prelude.{◌≡◌, ◌⊎◌, ◌≤◌, ◌<◌, ◌+◌, ℕ, zero, suc, Bool, true, false, not, ◌&&◌, if◌then◌else◌, List, [], ◌∷◌, ◌++◌, length, get_or, slice_get, Option, Some, None, drop, take, refl}
use Rattle.std.specs.List.{AllByRecursion, list_any, filter}
use Rattle.std.specs.Option.{IfSome}
use Rattle.std.specs.declared.cmp.Ordering.{Ordering}
use Rattle.std.specs.declared.cmp.Ordering.TheVariants.{Less, Equal}
use Rattle.std.proofs.Common.{ap, sym, subst, ◌∙◌, inl, inr, arith, length-append, append-nil}
use Rattle.std.proofs.lemmas.Cmp.{tied_itself}
use Rattle.std.proofs.lemmas.List.{get_or_past, get_or_push, take-append-drop, take_all, take_more}
use Rattle.std.proofs.lemmas.List.Folds.{list_all-append}
use Rattle.std.proofs.lemmas.Option.{get_or_from_slice_get}
use Rattle.da_values.specs.Order.{row_cmp}
use Rattle.da_values.specs.Sets.{Has, Ascends, canon}
use Rattle.da_values.proofs.OrderLaws.{row_order, same_from_row_cmp}
use Rattle.da_values.proofs.SetLaws.{Ascends-filter, canon_itself}
use Rattle.da_lang.specs.declared.query.AggOp.{AggOp}
use Rattle.da_lang.specs.declared.query.Cond.{Cond}
use Rattle.da_lang.specs.declared.query.Node.{Node}
use Rattle.da_lang.specs.declared.query.Node.TheVariants as node
use Rattle.da_lang.specs.declared.query.RGen.{RGen}
use Rattle.da_lang.specs.declared.query.Term.{Term}
use Rattle.da_lang.specs.Matching.{Row}
use Rattle.da_lang.specs.World.{Data}
use Rattle.query_plan.specs.declared.stored.Seen.{Seen}
use Rattle.query_plan.specs.declared.stored.Test.{Test}
use Rattle.query_plan.specs.Nodes.{IsPlan, Tables, extends, node_rows, node_step, reads, width_of}
use Rattle.query_plan.specs.Seen.{are_met, given, is_met, redirected}
use Rattle.query_plan.specs.Storing.{AllBelow, AreBelow, AreEntries, AreFlat, GiveAll, HasTests, IsEntry, IsFront, IsLast, JoinsEntries, JoinsNodes, ReadsTold, base_in, joined_rows, joining, named_nodes, rows_if, test_nodes}
use Rattle.query_plan.specs.Told.{has_row}
use Rattle.query_plan.proofs.NodeLaws.{node_rows-at, step_local}
use Rattle.query_plan.proofs.Redirected.{each_from, step_none, step_redirected}
use Rattle.query_plan.proofs.TouchedLaws.{rows_ascend}
use Rattle.query_plan.proofs.WidthLaws.{rows_wide}

-- TESTS

-- the last of some tests
pub all_and_last : (rows : Tables) (tests : List Test) (last : Test) → are_met rows (tests ++ last ∷ []) ≡ (are_met rows tests && (is_met rows last && true))
all_and_last rows tests last = list_all-append (is_met rows) tests (last ∷ [])

-- An entry that has these tests alone, where they are met.
pub has_these : (rows : Tables) (tests : List Test) (s : Seen) → s.tests ≡ tests → are_met rows tests ≡ true → has_row (given rows s) ≡ has_row (rows s.node)
has_these rows tests s same met =
    ap (λ ts. has_row (if are_met rows ts then rows s.node else [])) same ∙ ap (λ b. has_row (if b then rows s.node else [])) met

-- One that has another test besides, and tells of the root.
pub has_one_more : (rows : Tables) (tests : List Test) (last : Test) (s : Seen) → rows 0 ≡ [] ∷ [] → s.node ≡ 0 → s.tests ≡ tests ++ last ∷ [] → are_met rows tests ≡ true → has_row (given rows s) ≡ is_met rows last
has_one_more rows tests last s root zero_is same met =
    ap (λ ts. has_row (if are_met rows ts then rows s.node else [])) same
    ∙ ap (λ b. has_row (if b then rows s.node else [])) (all_and_last rows tests last ∙ ap (λ b. b && (is_met rows last && true)) met)
    ∙ ap (λ (z : List Row). has_row (if is_met rows last && true then z else [])) (ap rows zero_is ∙ root)
    ∙ go (is_met rows last)
  where
    go : (b : Bool) → has_row (if b && true then [] ∷ [] else []) ≡ b
    go true = refl
    go false = refl

-- what stands behind the first of two lists, where it is as long, or longer by one
pub nothing_behind : {A : Type 0} (all front rest : List A) → all ≡ front ++ rest → length all ≡ length front → all ≡ front
nothing_behind all front [] split long = split ∙ append-nil front
nothing_behind all front (x ∷ rest) split long = absurd (omega (arith, long, ap length split, length-append front (x ∷ rest)))

pub one_behind : {A : Type 0} (all front rest : List A) (x : A) → all ≡ front ++ rest → length all ≡ length front + 1 → x ≡ get_or all (length front) x → all ≡ front ++ x ∷ []
one_behind all front [] x split long there = absurd (omega (arith, long, ap length split, length-append front []))
one_behind all front (y ∷ []) x split long there =
    let same : x ≡ y = there ∙ ap (λ zs. get_or zs (length front) x) split ∙ get_or_push front y x (length front) refl in
    split ∙ ap (λ z. front ++ z ∷ []) (sym same)
one_behind all front (y ∷ z ∷ rest) x split long there = absurd (omega (arith, long, ap length split, length-append front (y ∷ z ∷ rest)))

-- the last test of an entry that has these alone, and of one that has another one
pub last_alone : (tests all : List Test) (s : Seen) → all ≡ s.tests → all ≡ tests → IsLast tests s (record { node = s.node; filled = true })
last_alone tests all s are same = record {
  row = λ rows root met. has_these rows tests s (sym are ∙ same) met;
  named = λ end below. below.0;
}

last_below : (end : ℕ) (tests : List Test) (last : Test) → AreBelow end (test_nodes (tests ++ last ∷ [])) → last.node ≤ end
last_below end [] last below = below.0
last_below end (t ∷ tests) last below = last_below end tests last below.1

pub last_there : (tests all rest : List Test) (s : Seen) → all ≡ s.tests → all ≡ tests ++ rest → s.node ≡ 0 → length s.tests ≡ length tests + 1 → IfSome (slice_get s.tests (length tests)) (IsLast tests s)
last_there tests all rest s are split zero_is long = go (slice_get s.tests (length tests)) refl
  where
    go : (o : Option Test) → slice_get s.tests (length tests) ≡ o → IfSome o (IsLast tests s)
    go None e = tt
    go (Some x) e =
        let same : s.tests ≡ tests ++ x ∷ [] = one_behind s.tests tests rest x (sym are ∙ split) long (sym (get_or_from_slice_get s.tests (length tests) x x e)) in
        record {
          row = λ rows root met. has_one_more rows tests x s root zero_is same met;
          named = λ end below. last_below end tests x (subst (λ ts. AreBelow end (test_nodes ts)) same below.1);
        }

-- a test that is turned
pub turned_met : (rows : Tables) (t : Test) → is_met rows (record { node = t.node; filled = not t.filled }) ≡ not (is_met rows t)
turned_met rows t = go t.filled (has_row (rows t.node))
  where
    go : (b h : Bool) → (if not b then h else not h) ≡ not (if b then h else not h)
    go true h = refl
    go false true = refl
    go false false = refl

-- one list begins with another
pub begins_more : (all front : List Test) (i : ℕ) (d e : Test) → i < length all → i < length front → get_or all i d ≡ get_or front i e → take i all ≡ take i front → take (i + 1) all ≡ take (i + 1) front
begins_more all front i d e within inside same so_far =
    take_more all i d within ∙ ap (λ z. take i all ++ z ∷ []) same ∙ ap (λ zs. zs ++ get_or front i e ∷ []) so_far ∙ sym (take_more front i e inside)

pub begins_whole : (all front : List Test) (i : ℕ) → length front ≤ i → take i all ≡ take i front → IsFront front all
begins_whole all front i past so_far = (drop i all, sym (take-append-drop i all) ∙ ap (λ zs. zs ++ drop i all) (so_far ∙ take_all i front past))

-- A NODE OF NO PARTS

any_extends : (rows : List Row) → list_any (extends []) rows ≡ has_row rows
any_extends [] = refl
any_extends (row ∷ rows) = refl

-- the one row of no parts, or none
abbrev one_if : Bool → List Row
one_if b = if b then [] ∷ [] else []

kept_one : (p : Row → Bool) (b : Bool) → p [] ≡ b → filter p ([] ∷ []) ≡ one_if b
kept_one p b e = ap one_if e

module _ (child : List Row) where
  abbrev found : Row → Bool
  found row = list_any (extends row) child

  abbrev missed : Row → Bool
  missed row = not (list_any (extends row) child)

  joined_of : (filled met last : Bool) (over : List Row) → over ≡ one_if met → (met ≡ true → has_row child ≡ last)
      → one_if (met && ((if filled then last else not last) && true)) ≡ joined_rows filled over child
  joined_of true true true over is told = sym (ap (filter found) is ∙ kept_one found true (any_extends child ∙ told refl))
  joined_of true true false over is told = sym (ap (filter found) is ∙ kept_one found false (any_extends child ∙ told refl))
  joined_of false true true over is told = sym (ap (filter missed) is ∙ kept_one missed false (ap not (any_extends child ∙ told refl)))
  joined_of false true false over is told = sym (ap (filter missed) is ∙ kept_one missed true (ap not (any_extends child ∙ told refl)))
  joined_of true false last over is told = sym (ap (filter found) is)
  joined_of false false last over is told = sym (ap (filter missed) is)

-- The entry over the root with the tests of the parent and one more.
pub joined_law : (filled : Bool) (rows : Tables) (over under : Seen) (tests all : List Test) (last signed : Test) → over.node ≡ 0 → tests ≡ over.tests → rows 0 ≡ [] ∷ []
    → (are_met rows tests ≡ true → has_row (given rows under) ≡ is_met rows last) → is_met rows signed ≡ (if filled then is_met rows last else not (is_met rows last)) → all ≡ tests ++ signed ∷ []
    → given rows (record { node = 0; tests = all }) ≡ joined_rows filled (given rows over) (given rows under)
joined_law filled rows over under tests all last signed zero_is tests_are root told sign all_is =
    let met : Bool = are_met rows tests in
    let over_is : given rows over ≡ one_if met =
    ap (λ ts. if are_met rows ts then rows over.node else []) (sym tests_are) ∙ ap (λ (z : List Row). if met then z else []) (ap rows zero_is ∙ root) in
    ap (λ ts. if are_met rows ts then rows 0 else []) all_is
    ∙ ap (λ b. if b then rows 0 else []) (all_and_last rows tests signed ∙ ap (λ b. met && (b && true)) sign)
    ∙ ap (λ (z : List Row). if met && ((if filled then is_met rows last else not (is_met rows last)) && true) then z else []) root
    ∙ joined_of (given rows under) filled met (is_met rows last) (given rows over) over_is told

-- by the entries of two nodes it tells of these
pub joins_nodes : (filled : Bool) (entries : List Seen) (p c : ℕ) (over under : Seen) (found : Option Seen) → slice_get entries p ≡ Some over → slice_get entries c ≡ Some under
    → IfSome found (JoinsEntries filled over under) → IfSome found (JoinsNodes filled entries p c)
joins_nodes filled entries p c over under None first second joins = tt
joins_nodes filled entries p c over under (Some s) first second joins = record {
  rows = λ known root gives.
      joins.rows known root ∙ ap (λ z. joined_rows filled z (given known under)) (gives p over first) ∙ ap (joined_rows filled (known p)) (gives c under second);
  named = λ end below. joins.named end (below p over first) (below c under second);
}

-- the nodes that it names
below_more : (end : ℕ) (tests : List Test) (last : Test) → AreBelow end (test_nodes tests) → last.node ≤ end → AreBelow end (test_nodes (tests ++ last ∷ []))
below_more end [] last below one = (one, tt)
below_more end (t ∷ tests) last below one = (below.0, below_more end tests last below.1 one)

pub as_low : (a b end : ℕ) → b ≡ a → a ≤ end → b ≤ end
as_low a b end same low = omega (arith, same, low)

pub joined_below : (end : ℕ) (tests all : List Test) (signed : Test) → AreBelow end (test_nodes tests) → signed.node ≤ end → all ≡ tests ++ signed ∷ [] → AreBelow end (named_nodes (record { node = 0; tests = all }))
joined_below end tests all signed below one all_is = (omega arith, subst (λ ts. AreBelow end (test_nodes ts)) (sym all_is) (below_more end tests signed below one))

-- TWINS

-- a node with others in the place of those that it reads
pub redirected-Root : (f : ℕ → ℕ) → redirected f node.Root ≡ node.Root
redirected-Root f = refl

pub redirected-Gen : (f : ℕ → ℕ) (p : ℕ) (g : RGen) → redirected f (node.Gen p g) ≡ node.Gen (f p) g
redirected-Gen f p g = refl

pub redirected-Filter : (f : ℕ → ℕ) (p : ℕ) (b : Cond) → redirected f (node.Filter p b) ≡ node.Filter (f p) b
redirected-Filter f p b = refl

pub redirected-Semi : (f : ℕ → ℕ) (p c : ℕ) → redirected f (node.Semi p c) ≡ node.Semi (f p) (f c)
redirected-Semi f p c = refl

pub redirected-Anti : (f : ℕ → ℕ) (p c : ℕ) → redirected f (node.Anti p c) ≡ node.Anti (f p) (f c)
redirected-Anti f p c = refl

pub redirected-Union : (f : ℕ → ℕ) (a b : ℕ) → redirected f (node.Union a b) ≡ node.Union (f a) (f b)
redirected-Union f a b = refl

pub redirected-AggBind : (f : ℕ → ℕ) (p c : ℕ) (op : AggOp) (t : Term) (other : Option Term) → redirected f (node.AggBind p c op t other) ≡ node.AggBind (f p) (f c) op t other
redirected-AggBind f p c op t other = refl

pub ruleset redirecting = (redirected-Root, redirected-Gen, redirected-Filter, redirected-Semi, redirected-Anti, redirected-Union, redirected-AggBind)

base_is : (entries : List Seen) (j : ℕ) (s : Seen) → slice_get entries j ≡ Some s → base_in entries j ≡ s.node
base_is entries j s there = ap (λ (e : Seen). e.node) (get_or_from_slice_get entries j s (record { node = 0; tests = [] }) there)

pub base_there : (entries : List Seen) (j : ℕ) (s : Seen) → ◌≡◌ {A = Option Seen} (Some s) (slice_get entries j) → s.node ≡ base_in entries j
base_there entries j s there = sym (base_is entries j s (sym there))

pub base_none : (entries : List Seen) (j : ℕ) → ◌≡◌ {A = Option Seen} None (slice_get entries j) → 0 ≡ base_in entries j
base_none entries j none = sym (ap (λ (e : Seen). e.node) (get_or_past entries j (record { node = 0; tests = [] }) (past entries j (sym none))))
  where
    past : (xs : List Seen) (k : ℕ) → slice_get xs k ≡ None → length xs ≤ k
    past [] k e = omega arith
    past (x ∷ xs) zero e = absurd (cc)
    past (x ∷ xs) (suc k) e = omega (arith, past xs k e)

-- a node that reads one or two nodes that are told by these tests
pub told_one : (entries : List Seen) (tests : List Test) (n : Node) (p : ℕ) → reads n ≡ p ∷ [] → HasTests entries tests p → ReadsTold entries tests n
told_one entries tests n p are one = record {
  some = λ none. let wrong : ◌≡◌ {A = List ℕ} [] (p ∷ []) = sym none ∙ are in absurd (cc);
  each = subst (AllByRecursion (HasTests entries tests)) (sym are) (one, tt);
}

pub told_two : (entries : List Seen) (tests : List Test) (n : Node) (p c : ℕ) → reads n ≡ p ∷ c ∷ [] → HasTests entries tests p → HasTests entries tests c → ReadsTold entries tests n
told_two entries tests n p c are one two = record {
  some = λ none. let wrong : ◌≡◌ {A = List ℕ} [] (p ∷ c ∷ []) = sym none ∙ are in absurd (cc);
  each = subst (AllByRecursion (HasTests entries tests)) (sym are) (one, (two, tt));
}

module _ (d : Data) (nodes : List Node) (plan : IsPlan nodes) (entries : List Seen) (are : AreEntries nodes entries) where
  abbrev Rows : Tables
  Rows = node_rows d nodes

  pub gives_all : GiveAll Rows entries
  gives_all j s there = (are j s there).rows d

  -- a node by what it is told by
  told_input : (tests : List Test) (j : ℕ) → HasTests entries tests j → Rows j ≡ rows_if Rows tests (base_in entries j)
  told_input tests j (s, there, same) =
      sym (gives_all j s there)
      ∙ ap (λ ts. if are_met Rows ts then Rows s.node else []) same
      ∙ ap (λ k. if are_met Rows tests then Rows k else []) (sym (base_is entries j s there))

  module _ (i t : ℕ) (n : Node) (tests : List Test) (here : slice_get nodes i ≡ Some n) (told : ReadsTold entries tests n) (there : slice_get nodes t ≡ Some (redirected (base_in entries) n)) where
    where_met : are_met Rows tests ≡ true → Rows t ≡ Rows i
    where_met met =
        let same : (j : ℕ) → HasTests entries tests j → Rows j ≡ Rows (base_in entries j) = λ j h. told_input tests j h ∙ ap (λ b. if b then Rows (base_in entries j) else []) met in
        node_rows-at d nodes t (redirected (base_in entries) n) there (plan t (redirected (base_in entries) n) there).0
        ∙ ap (canon row_cmp) (step_redirected d Rows (base_in entries) n)
        ∙ sym (step_local d Rows (λ j. Rows (base_in entries j)) n (each_from (HasTests entries tests) (λ j. Rows j ≡ Rows (base_in entries j)) same (reads n) told.each))
        ∙ sym (node_rows-at d nodes i n here (plan i n here).0)

    where_not : are_met Rows tests ≡ false → Rows i ≡ []
    where_not failed =
        let none : (j : ℕ) → HasTests entries tests j → Rows j ≡ [] = λ j h. told_input tests j h ∙ ap (λ b. if b then Rows (base_in entries j) else []) failed in
        node_rows-at d nodes i n here (plan i n here).0
        ∙ step_none d Rows n told.some (each_from (HasTests entries tests) (λ j. Rows j ≡ []) none (reads n) told.each)

    -- A node has the rows of its twin where the tests are met, and else none.
    pub twin_rows : rows_if Rows tests t ≡ Rows i
    twin_rows = go (are_met Rows tests) refl
      where
        go : (b : Bool) → are_met Rows tests ≡ b → (if b then Rows t else []) ≡ Rows i
        go true met = where_met met
        go false failed = sym (where_not failed)

-- ROWS OF NO PARTS

less_than_itself : (row : Row) → row_cmp row row ≡ Less → ⊥
less_than_itself row less = let wrong : ◌≡◌ {A = Ordering} Equal Less = sym (tied_itself row_order row) ∙ less in cc

flat_list : (rows : List Row) → ((r : Row) → Has rows r → r ≡ []) → Ascends row_cmp rows → AreFlat rows
flat_list [] none up = refl
flat_list (r ∷ []) none up = ap (λ z. z ∷ []) (none r (inl refl))
flat_list (r ∷ s ∷ rows) none up =
    absurd (less_than_itself [] (ap (λ z. row_cmp z []) (sym (none r (inl refl))) ∙ ap (row_cmp r) (sym (none s (inr (inl refl)))) ∙ up.0.0))

no_length : (row : Row) → length row ≡ 0 → row ≡ []
no_length [] none = refl
no_length (x ∷ row) none = absurd (omega (arith, none))

pub flat_rows : (d : Data) (nodes : List Node) → IsPlan nodes → (i : ℕ) → width_of nodes i ≡ 0 → AreFlat (node_rows d nodes i)
flat_rows d nodes plan i wide = flat_list (node_rows d nodes i) (λ r h. no_length r (rows_wide d nodes plan i r h ∙ wide)) (rows_ascend d nodes plan i)

pub root_rows : (d : Data) (nodes : List Node) → IsPlan nodes → slice_get nodes 0 ≡ Some node.Root → node_rows d nodes 0 ≡ [] ∷ []
root_rows d nodes plan root = node_rows-at d nodes 0 node.Root root (plan 0 node.Root root).0

pub same_root : (d : Data) (nodes : List Node) → IsPlan nodes → slice_get nodes 0 ≡ Some node.Root → (i : ℕ) → slice_get nodes i ≡ Some node.Root → node_rows d nodes 0 ≡ node_rows d nodes i
same_root d nodes plan root i there = root_rows d nodes plan root ∙ sym (node_rows-at d nodes i node.Root there (plan i node.Root there).0)

-- TOLD BY TESTS OVER THE ROOT

pub told_flat : (rows : Tables) (tests all : List Test) (t : ℕ) → rows 0 ≡ [] ∷ [] → AreFlat (rows_if rows tests t) → all ≡ tests ++ record { node = t; filled = true } ∷ []
    → given rows (record { node = 0; tests = all }) ≡ rows_if rows tests t
told_flat rows tests all t root flat all_is =
    ap (λ ts. if are_met rows ts then rows 0 else []) all_is
    ∙ ap (λ b. if b then rows 0 else []) (all_and_last rows tests (record { node = t; filled = true }))
    ∙ ap (λ (z : List Row). if are_met rows tests && (has_row (rows t) && true) then z else []) root
    ∙ go (are_met rows tests) flat
  where
    one : (b : Bool) → one_if (b && true) ≡ one_if b
    one true = refl
    one false = refl

    go : (b : Bool) → AreFlat (if b then rows t else []) → one_if (b && (has_row (rows t) && true)) ≡ (if b then rows t else [])
    go true is = one (has_row (rows t)) ∙ sym is
    go false is = refl

pub flat_below : (end t : ℕ) (tests all : List Test) → t ≤ end → AreBelow end (test_nodes tests) → all ≡ tests ++ record { node = t; filled = true } ∷ [] → AreBelow end (named_nodes (record { node = 0; tests = all }))
flat_below end t tests all small below all_is = joined_below end tests all (record { node = t; filled = true }) below small all_is

flat_last : (t : ℕ) (tests : List Test) → Has (test_nodes (tests ++ record { node = t; filled = true } ∷ [])) t
flat_last t [] = inl refl
flat_last t (x ∷ tests) = inr (flat_last t tests)

pub flat_named : (t : ℕ) (tests all : List Test) → all ≡ tests ++ record { node = t; filled = true } ∷ [] → Has (named_nodes (record { node = 0; tests = all })) t
flat_named t tests all all_is = inr (subst (λ ts. Has (test_nodes ts) t) (sym all_is) (flat_last t tests))

-- and told by the node itself
pub copied_rows : (rows : Tables) (t : ℕ) (tests copy : List Test) → copy ≡ tests → given rows (record { node = t; tests = copy }) ≡ rows_if rows tests t
copied_rows rows t tests copy same = ap (λ ts. if are_met rows ts then rows t else []) same

-- what stands at a place of a longer list
get_longer : (xs : List Seen) (y z : Seen) (j : ℕ) → slice_get (xs ++ y ∷ []) j ≡ Some z → ((j ≡ length xs) × (y ≡ z)) ⊎ (slice_get xs j ≡ Some z)
get_longer [] y z zero e = inl (refl, cc)
get_longer [] y z (suc j) e = absurd (cc)
get_longer (x ∷ xs) y z zero e = inr e
get_longer (x ∷ xs) y z (suc j) e = elim (get_longer xs y z j e) [ inl here ↦ inl (omega (arith, here.0), here.1) | inr there ↦ inr there ]

-- one entry more
pub entries_more : (nodes : List Node) (entries more : List Seen) (i : ℕ) (s : Seen) → length entries ≡ i → more ≡ entries ++ s ∷ [] → IsEntry nodes i s → AreEntries nodes entries → AreEntries nodes more
entries_more nodes entries more i s long pushed one are j e there =
    elim (get_longer entries s e j (ap (λ es. slice_get es j) (sym pushed) ∙ there)) [
      | inl here ↦ subst (IsEntry nodes j) here.1 (subst (λ m. IsEntry nodes m s) (sym (here.0 ∙ long)) one)
      | inr before ↦ are j e before
    ]

-- AN ENTRY

-- each entry names nodes below the next one
pub entries_below : (nodes : List Node) (entries : List Seen) (i : ℕ) → AreEntries nodes entries → length entries ≤ i → AllBelow i entries
entries_below nodes entries i are long j s there =
    each_from (λ k. k ≤ j) (λ k. k ≤ i) (λ k small. omega (arith, small, long, inside entries j s there)) (named_nodes s) (are j s there).below
  where
    inside : {A : Type 0} (xs : List A) (k : ℕ) (x : A) → slice_get xs k ≡ Some x → k < length xs
    inside [] k x e = absurd (cc)
    inside (y ∷ ys) zero x e = omega arith
    inside (y ∷ ys) (suc k) x e = omega (arith, inside ys k x e)

-- of a node by its twin t
pub twin_is_entry : (nodes : List Node) (i t : ℕ) (n : Node) (entries : List Seen) (tests : List Test) (s : Seen) → IsPlan nodes → AreEntries nodes entries → length entries ≤ i
    → slice_get nodes i ≡ Some n → ReadsTold entries tests n → t ≤ i → slice_get nodes t ≡ Some (redirected (base_in entries) n)
    → ((d : Data) → given (node_rows d nodes) s ≡ rows_if (node_rows d nodes) tests t) → ((end : ℕ) → t ≤ end → AreBelow end (test_nodes tests) → AreBelow end (named_nodes s)) → Has (named_nodes s) t
    → IsEntry nodes i s
twin_is_entry nodes i t n entries tests s plan are long here told small there gives below named = record {
  rows = λ d. gives d ∙ twin_rows d nodes plan entries are i t n tests here told there;
  below = below i small (tests_below told);
  same_gen = λ p g is.
      let same : ◌≡◌ {A = Option Node} (Some n) (Some (node.Gen p g)) = sym here ∙ is in
      let one : n ≡ node.Gen p g = cc in
      (t, base_in entries p, named, there ∙ ap (λ m. Some (redirected (base_in entries) m)) one);
}
  where
    tests_below : ReadsTold entries tests n → AreBelow i (test_nodes tests)
    tests_below told = go (reads n) told.some told.each
      where
        go : (js : List ℕ) → (js ≡ [] → ⊥) → AllByRecursion (HasTests entries tests) js → AreBelow i (test_nodes tests)
        go [] some each = absurd (some refl)
        go (j ∷ js) some each =
            let (e, at, same) = each.0 in
            subst (λ ts. AreBelow i (test_nodes ts)) same (entries_below nodes entries i are long j e at).1

-- of a node by itself
pub itself_is_entry : (nodes : List Node) (i : ℕ) (s : Seen) → ((d : Data) → given (node_rows d nodes) s ≡ rows_if (node_rows d nodes) [] i)
    → ((end : ℕ) → i ≤ end → AreBelow end (test_nodes []) → AreBelow end (named_nodes s)) → Has (named_nodes s) i → IsEntry nodes i s
itself_is_entry nodes i s gives below named = record {
  rows = gives;
  below = below i (omega arith) tt;
  same_gen = λ p g is. (i, p, named, is);
}

-- as code makes them
pub twin_as : (nodes : List Node) (i place t width : ℕ) (n : Node) (entries : List Seen) (tests : List Test) (s : Seen) → IsPlan nodes → slice_get nodes 0 ≡ Some node.Root → AreEntries nodes entries → length entries ≤ i
    → slice_get nodes i ≡ Some n → width ≡ width_of nodes i → ReadsTold entries tests n → place ≤ i → slice_get nodes place ≡ Some (redirected (base_in entries) n) → t ≡ place
    → ((rows : Tables) → rows 0 ≡ [] ∷ [] → (width ≡ 0 → AreFlat (rows_if rows tests t)) → given rows s ≡ rows_if rows tests t)
    → ((end : ℕ) → t ≤ end → AreBelow end (test_nodes tests) → AreBelow end (named_nodes s)) → Has (named_nodes s) t → IsEntry nodes i s
twin_as nodes i place t width n entries tests s plan root are long here wide told small there same gives below named =
    let at : slice_get nodes t ≡ Some (redirected (base_in entries) n) = ap (slice_get nodes) same ∙ there in
    twin_is_entry nodes i t n entries tests s plan are long here told (omega (arith, same, small)) at
    (λ d.
    gives (node_rows d nodes) (root_rows d nodes plan root)
    (λ none. subst AreFlat (sym (twin_rows d nodes plan entries are i t n tests here told at)) (flat_rows d nodes plan i (sym wide ∙ none))))
    below named

pub itself_as : (nodes : List Node) (i t width : ℕ) (s : Seen) → IsPlan nodes → slice_get nodes 0 ≡ Some node.Root → width ≡ width_of nodes i → t ≡ i
    → ((rows : Tables) → rows 0 ≡ [] ∷ [] → (width ≡ 0 → AreFlat (rows_if rows [] t)) → given rows s ≡ rows_if rows [] t)
    → ((end : ℕ) → t ≤ end → AreBelow end (test_nodes []) → AreBelow end (named_nodes s)) → Has (named_nodes s) t → IsEntry nodes i s
itself_as nodes i t width s plan root wide same gives below named =
    itself_is_entry nodes i s
    (λ d.
    gives (node_rows d nodes) (root_rows d nodes plan root) (λ none. subst (λ k. AreFlat (node_rows d nodes k)) (sym same) (flat_rows d nodes plan i (sym wide ∙ none)))
    ∙ ap (node_rows d nodes) same)
    (λ end small. below end (omega (arith, same, small))) (subst (Has (named_nodes s)) same named)

pub no_entries : (nodes : List Node) (entries : List Seen) → entries ≡ [] → (length entries ≡ 0) × AreEntries nodes entries
no_entries nodes entries none = (ap length none, λ i s there. absurd (never i s (ap (λ es. slice_get es i) (sym none) ∙ there)))
  where
    never : (i : ℕ) (s : Seen) → slice_get {X = Seen} [] i ≡ Some s → ⊥
    never i s e = absurd (cc)

abbrev told_over_root : List Test → Seen
told_over_root tests = record { node = 0; tests = tests }

pub emptied : (tests : List Test) → tests ≡ [] → ◌≡◌ {A = Seen} (record { node = 0; tests = tests }) (record { node = 0; tests = [] })
emptied tests none = ap told_over_root none

-- of the root
pub root_is_entry : (nodes : List Node) (i : ℕ) → IsPlan nodes → slice_get nodes 0 ≡ Some node.Root → slice_get nodes i ≡ Some node.Root → IsEntry nodes i (record { node = 0; tests = [] })
root_is_entry nodes i plan root there = record {
  rows = λ d. same_root d nodes plan root i there;
  below = (omega arith, tt);
  same_gen = λ p g is. absurd (no_gen p g is);
}
  where
    no_gen : (p : ℕ) (g : RGen) → slice_get nodes i ≡ Some (node.Gen p g) → ⊥
    no_gen p g is = let same : ◌≡◌ {A = Option Node} (Some node.Root) (Some (node.Gen p g)) = sym there ∙ is in let wrong : node.Root ≡ node.Gen p g = cc in absurd (cc)

-- of a node that keeps the rows that others extend, or that none does
joining_rows : (d : Data) (rows : Tables) (filled : Bool) (p c : ℕ) → node_step d rows (joining filled p c) ≡ joined_rows filled (rows p) (rows c)
joining_rows d rows true p c = refl
joining_rows d rows false p c = refl

joined_sorted : (filled : Bool) (rows child : List Row) → Ascends row_cmp rows → canon row_cmp (joined_rows filled rows child) ≡ joined_rows filled rows child
joined_sorted true rows child up = canon_itself row_cmp row_order same_from_row_cmp (filter (found child) rows) (Ascends-filter row_cmp (found child) rows up)
joined_sorted false rows child up = canon_itself row_cmp row_order same_from_row_cmp (filter (missed child) rows) (Ascends-filter row_cmp (missed child) rows up)

no_gen_joins : (filled : Bool) (p c q : ℕ) (g : RGen) → joining filled p c ≡ node.Gen q g → ⊥
no_gen_joins true p c q g is = absurd (cc)
no_gen_joins false p c q g is = absurd (cc)

pub joined_is_entry : (nodes : List Node) (i p c : ℕ) (filled : Bool) (entries : List Seen) (s : Seen) → IsPlan nodes → slice_get nodes 0 ≡ Some node.Root → AreEntries nodes entries → length entries ≤ i
    → slice_get nodes i ≡ Some (joining filled p c) → JoinsNodes filled entries p c s → IsEntry nodes i s
joined_is_entry nodes i p c filled entries s plan root are long here joins = record {
  rows = λ d.
      joins.rows (node_rows d nodes) (root_rows d nodes plan root) (gives_all d nodes plan entries are)
      ∙ sym (node_rows-at d nodes i (joining filled p c) here (plan i (joining filled p c) here).0
      ∙ ap (canon row_cmp) (joining_rows d (node_rows d nodes) filled p c) ∙ joined_sorted filled (node_rows d nodes p) (node_rows d nodes c) (rows_ascend d nodes plan p));
  below = joins.named i (entries_below nodes entries i are long);
  same_gen = λ q g is.
      let same : ◌≡◌ {A = Option Node} (Some (joining filled p c)) (Some (node.Gen q g)) = sym here ∙ is in
      let one : joining filled p c ≡ node.Gen q g = cc in
      absurd (no_gen_joins filled p c q g one);
}

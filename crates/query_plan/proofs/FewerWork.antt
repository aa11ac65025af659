-- An update needs no more work on kept nodes than on all.
use Rattle.std.specs.Prelude.{◌≡◌, ◌≤◌, ◌<◌, ◌+◌, ℕ, suc, Bool, true, false, ◌||◌, if◌then◌else◌, List, [], ◌∷◌, length, map, slice_get, Some, sum_by, refl}
use Rattle.std.specs.List.{AllByRecursion, list_any, filter, enumerate_from}
use Rattle.std.proofs.Common.{ap, sym, ◌∙◌, arith}
use Rattle.std.proofs.lemmas.List.Sums.{sum_by-cons}
use Rattle.da_values.specs.Order.{row_cmp}
use Rattle.da_values.specs.Sets.{set_has, set_union}
use Rattle.da_lang.specs.declared.query.Node.{Node}
use Rattle.da_lang.specs.declared.query.Node.TheVariants as node
use Rattle.da_lang.specs.declared.query.RGen.{RGen}
use Rattle.da_lang.specs.Matching.{Row, Candidate}
use Rattle.da_lang.specs.World.{Data}
use Rattle.query_plan.specs.Agreeing.{live_row, meeting}
use Rattle.query_plan.specs.Nodes.{ReadsBelow, Tables, extends, node_rows, reads}
use Rattle.query_plan.specs.Seen.{redirected}
use Rattle.query_plan.specs.Storing.{AreKept, is_kept, picked, rank}
use Rattle.query_plan.specs.Updates.{Update, after, change, gained, moved}
use Rattle.query_plan.specs.Work.{agreeing_size, further, group_size, is_some_of, is_touched, moves, names_assigned, node_change, node_work, work}
use Rattle.query_plan.proofs.PickedLaws.{rows_number, rows_pick}
use Rattle.query_plan.proofs.Redirected.{assigned_redirected, each_from, moves_redirected, reads_redirected}

-- SUMS AND TESTS OVER OTHER NUMBERS

sum_map : (f : ℕ → ℕ) (size other : ℕ → ℕ) (js : List ℕ) → AllByRecursion (λ j. size (f j) ≡ other j) js → sum_by size (map f js) ≡ sum_by other js
sum_map f size other [] same = refl
sum_map f size other (j ∷ js) same = omega (arith, sum_by-cons size (f j) (map f js), sum_by-cons other j js, same.0, sum_map f size other js same.1)

any_map : (f : ℕ → ℕ) (test other : ℕ → Bool) (js : List ℕ) → AllByRecursion (λ j. test (f j) ≡ other j) js → list_any test (map f js) ≡ list_any other js
any_map f test other [] same = refl
any_map f test other (j ∷ js) same = ap (λ b. b || list_any test (map f js)) same.0 ∙ ap (λ b. other j || b) (any_map f test other js same.1)

-- THE FURTHER ROWS, BY THE ROWS THEMSELVES

module _ (u : Update) (d : Data) where
  abbrev Anew : RGen → List Row → List Row → ℕ
  Anew g new own = length new + length own + sum_by (agreeing_size (after u d) g) new

  abbrev GenReads : RGen → Bool → List Row → List Row → List Row → ℕ
  GenReads g named old new own =
      sum_by (λ (c : Candidate). length (meeting (after u d) g new (live_row d.me g c))) (moved u d g.source)
      + sum_by (agreeing_size (after u d) g) (gained old new)
      + (if named then Anew g new own else 0)

  abbrev BindReads : Bool → List Row → List Row → List Row → List Row → ℕ
  BindReads named old new old_child new_child =
      sum_by (group_size new_child) (filter (λ row. set_has row_cmp (change old new) row || list_any (extends row) (change old_child new_child)) (set_union row_cmp old new))
      + (if named then sum_by (group_size new_child) new else 0)

  gen_same : (g : RGen) (b c : Bool) (old old' new new' own own' : List Row) → b ≡ c → old ≡ old' → new ≡ new' → own ≡ own' → GenReads g b old new own ≡ GenReads g c old' new' own'
  gen_same g b c old old' new new' own own' named olds news owns =
      ap (λ z. GenReads g z old new own) named ∙ ap (λ z. GenReads g c z new own) olds ∙ ap (λ z. GenReads g c old' z own) news ∙ ap (GenReads g c old' new') owns

  bind_same : (b c : Bool) (old old' new new' oldc oldc' newc newc' : List Row) → b ≡ c → old ≡ old' → new ≡ new' → oldc ≡ oldc' → newc ≡ newc' → BindReads b old new oldc newc ≡ BindReads c old' new' oldc' newc'
  bind_same b c old old' new new' oldc oldc' newc newc' named olds news oldcs newcs =
      ap (λ z. BindReads z old new oldc newc) named ∙ ap (λ z. BindReads c z new oldc newc) olds ∙ ap (λ z. BindReads c old' z oldc newc) news
      ∙ ap (λ z. BindReads c old' new' z newc) oldcs ∙ ap (BindReads c old' new' oldc') newcs

  filter_same : (b c : Bool) (new new' : List Row) → b ≡ c → new ≡ new' → (if b then length new else 0) ≡ (if c then length new' else 0)
  filter_same b c new new' named news = ap (λ z. if z then length new else 0) named ∙ ap (λ (z : List Row). if c then length z else 0) news

  -- Two pairs of tables, between which f leads at the nodes that are read, and from k to i at the node itself.
  module _ (f : ℕ → ℕ) (k i : ℕ) (old new old' new' : Tables) where
    abbrev Leads : ℕ → Type 0
    Leads j = (old (f j) ≡ old' j) × (new (f j) ≡ new' j)

    further_same : (n : Node) → AllByRecursion Leads (reads n) → old k ≡ old' i → further u d old new k (redirected f n) ≡ further u d old' new' i n
    further_same node.Root all own = refl
    further_same (node.Union a b) all own = refl
    further_same (node.Semi p c) all own = refl
    further_same (node.Anti p c) all own = refl
    further_same (node.Filter p b) all own =
        filter_same (names_assigned u (node.Filter (f p) b)) (names_assigned u (node.Filter p b)) (new (f p)) (new' p) (assigned_redirected u f (node.Filter p b)) all.0.1
    further_same (node.AggBind p c op t other) all own =
        bind_same (names_assigned u (node.AggBind (f p) (f c) op t other)) (names_assigned u (node.AggBind p c op t other)) (old (f p)) (old' p) (new (f p)) (new' p) (old (f c)) (old' c) (new (f c)) (new' c)
        (assigned_redirected u f (node.AggBind p c op t other)) all.0.0 all.0.1 all.1.0.0 all.1.0.1
    further_same (node.Gen p g) all own =
        gen_same g (names_assigned u (node.Gen (f p) g)) (names_assigned u (node.Gen p g)) (old (f p)) (old' p) (new (f p)) (new' p) (old k) (old' i) (assigned_redirected u f (node.Gen p g)) all.0.0 all.0.1 own

    change_same : (j : ℕ) → Leads j → node_change u d old new (f j) ≡ node_change u d old' new' j
    change_same j leads = ap (λ z. change z (new (f j))) leads.0 ∙ ap (change (old' j)) leads.1

    touched_same : (n : Node) → AllByRecursion Leads (reads n) → is_touched u d old new (redirected f n) ≡ is_touched u d old' new' n
    touched_same n all =
        let some : ℕ → Bool = λ j. is_some_of (node_change u d old new j) in
        let some' : ℕ → Bool = λ j. is_some_of (node_change u d old' new' j) in
        ap (λ b. b || moves u d (redirected f n) || names_assigned u (redirected f n))
        (ap (list_any some) (reads_redirected f n)
        ∙ any_map f some some' (reads n) (each_from Leads (λ j. some (f j) ≡ some' j) (λ j leads. ap is_some_of (change_same j leads)) (reads n) all))
        ∙ ap (λ b. list_any some' (reads n) || b || names_assigned u (redirected f n)) (moves_redirected u d f n)
        ∙ ap (λ b. list_any some' (reads n) || moves u d n || b) (assigned_redirected u f n)

    changes_same : (n : Node) → AllByRecursion Leads (reads n) → sum_by (λ j. length (node_change u d old new j)) (reads (redirected f n)) ≡ sum_by (λ j. length (node_change u d old' new' j)) (reads n)
    changes_same n all =
        let size : ℕ → ℕ = λ j. length (node_change u d old new j) in
        let size' : ℕ → ℕ = λ j. length (node_change u d old' new' j) in
        ap (sum_by size) (reads_redirected f n)
        ∙ sum_map f size size' (reads n) (each_from Leads (λ j. size (f j) ≡ size' j) (λ j leads. ap length (change_same j leads)) (reads n) all)

    abbrev Term : Bool → ℕ → ℕ → ℕ → ℕ
    Term touched inputs own more = if touched then 1 + inputs + own + more else 0

    term_same : (t t' : Bool) (a a' b b' c c' : ℕ) → t ≡ t' → a ≡ a' → b ≡ b' → c ≡ c' → Term t a b c ≡ Term t' a' b' c'
    term_same t t' a a' b b' c c' one two three four =
        ap (λ z. Term z a b c) one ∙ ap (λ z. Term t' z b c) two ∙ ap (λ z. Term t' a' z c) three ∙ ap (Term t' a' b') four

    -- The term of a node is the same.
    pub work_same : (n : Node) → AllByRecursion Leads (reads n) → old k ≡ old' i → new k ≡ new' i → node_work u d old new k (redirected f n) ≡ node_work u d old' new' i n
    work_same n all own own_new =
        term_same (is_touched u d old new (redirected f n)) (is_touched u d old' new' n)
        (sum_by (λ j. length (node_change u d old new j)) (reads (redirected f n))) (sum_by (λ j. length (node_change u d old' new' j)) (reads n))
        (length (node_change u d old new k)) (length (node_change u d old' new' i)) (further u d old new k (redirected f n)) (further u d old' new' i n)
        (touched_same n all) (changes_same n all) (ap length (ap (λ z. change z (new k)) own ∙ ap (change (old' i)) own_new)) (further_same n all own)

-- A SUM OVER KEPT NODES

no_sum : (g : ℕ × Node → ℕ) (most : ℕ) → sum_by g [] ≤ most
no_sum g most = let none : sum_by g [] ≡ 0 = refl in omega (arith, none)

sum_kept : (f : ℕ → ℕ) (g h : ℕ × Node → ℕ) (kept : List Bool) (nodes : List Node) (k i : ℕ)
    → ((j : ℕ) (n : Node) → slice_get nodes j ≡ Some n → is_kept kept j ≡ true → g (k + rank kept j, redirected f n) ≡ h (i + j, n))
    → sum_by g (enumerate_from k (picked f kept nodes)) ≤ sum_by h (enumerate_from i nodes)
sum_kept f g h [] nodes k i same = no_sum g (sum_by h (enumerate_from i nodes))
sum_kept f g h (b ∷ kept) [] k i same = no_sum g (sum_by h (enumerate_from i []))
sum_kept f g h (true ∷ kept) (n ∷ nodes) k i same =
    let here : g (k, redirected f n) ≡ h (i, n) =
    ap (λ z. g (z, redirected f n)) (let e : k ≡ k + 0 = omega arith in e) ∙ same 0 n refl refl ∙ ap (λ z. h (z, n)) (let e : i + 0 ≡ i = omega arith in e) in
    let later : (j : ℕ) (m : Node) → slice_get nodes j ≡ Some m → is_kept kept j ≡ true → g (k + 1 + rank kept j, redirected f m) ≡ h (i + 1 + j, m) =
    λ j m there stays.
    ap (λ z. g (z, redirected f m)) (let e : k + 1 + rank kept j ≡ k + suc (rank kept j) = omega arith in e) ∙ same (suc j) m there stays
    ∙ ap (λ z. h (z, m)) (let e : i + suc j ≡ i + 1 + j = omega arith in e) in
    let few : sum_by g ((k, redirected f n) ∷ enumerate_from (k + 1) (picked f kept nodes)) ≤ sum_by h ((i, n) ∷ enumerate_from (i + 1) nodes) =
    omega (
      arith,
      sum_by-cons g (k, redirected f n) (enumerate_from (k + 1) (picked f kept nodes)),
      sum_by-cons h (i, n) (enumerate_from (i + 1) nodes),
      here,
      sum_kept f g h kept nodes (k + 1) (i + 1) later,
    ) in
    few
sum_kept f g h (false ∷ kept) (n ∷ nodes) k i same =
    let later : (j : ℕ) (m : Node) → slice_get nodes j ≡ Some m → is_kept kept j ≡ true → g (k + rank kept j, redirected f m) ≡ h (i + 1 + j, m) =
    λ j m there stays. same (suc j) m there stays ∙ ap (λ z. h (z, m)) (let e : i + suc j ≡ i + 1 + j = omega arith in e) in
    let few : sum_by g (enumerate_from k (picked f kept nodes)) ≤ sum_by h ((i, n) ∷ enumerate_from (i + 1) nodes) =
    omega (arith, sum_by-cons h (i, n) (enumerate_from (i + 1) nodes), sum_kept f g h kept nodes k (i + 1) later) in
    few

module _ (nodes : List Node) (kept : List Bool) (f : ℕ → ℕ) (numbers : (j : ℕ) → is_kept kept j ≡ true → f j ≡ rank kept j)
    (lower : (i : ℕ) (n : Node) → slice_get nodes i ≡ Some n → ReadsBelow i n) (read : (i : ℕ) (n : Node) → slice_get nodes i ≡ Some n → is_kept kept i ≡ true → AreKept kept (reads n))
    (inside : (j : ℕ) → is_kept kept j ≡ true → j < length nodes) where
  pub fewer_work : (u : Update) (d : Data) → work u d (picked f kept nodes) ≤ work u d nodes
  fewer_work u d =
      let picks : List Node = picked f kept nodes in
      let leads : (j : ℕ) → is_kept kept j ≡ true → (node_rows d picks (f j) ≡ node_rows d nodes j) × (node_rows (after u d) picks (f j) ≡ node_rows (after u d) nodes j) =
      λ j stays. (rows_number nodes kept f numbers lower read d j (inside j stays) stays, rows_number nodes kept f numbers lower read (after u d) j (inside j stays) stays) in
      sum_kept f (λ (n : ℕ × Node). node_work u d (node_rows d picks) (node_rows (after u d) picks) n.0 n.1) (λ (n : ℕ × Node). node_work u d (node_rows d nodes) (node_rows (after u d) nodes) n.0 n.1) kept nodes 0 0
      (λ j n there stays.
      let zero_k : 0 + rank kept j ≡ rank kept j = omega arith in
      let zero_j : 0 + j ≡ j = omega arith in
      ap (λ z. node_work u d (node_rows d picks) (node_rows (after u d) picks) z (redirected f n)) zero_k
      ∙ work_same u d f (rank kept j) j (node_rows d picks) (node_rows (after u d) picks) (node_rows d nodes) (node_rows (after u d) nodes) n
      (each_from (λ m. is_kept kept m ≡ true) (λ m. (node_rows d picks (f m) ≡ node_rows d nodes m) × (node_rows (after u d) picks (f m) ≡ node_rows (after u d) nodes m)) leads (reads n) (read j n there stays))
      (rows_pick nodes kept f numbers lower read d j (inside j stays) stays) (rows_pick nodes kept f numbers lower read (after u d) j (inside j stays) stays)
      ∙ ap (λ z. node_work u d (node_rows d nodes) (node_rows (after u d) nodes) z n) (sym zero_j))

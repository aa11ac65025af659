-- The nodes that are kept, by their new numbers.
use Rattle.std.specs.Prelude.{◌≡◌, ◌≤◌, ◌<◌, ◌+◌, ℕ, zero, suc, Bool, true, false, List, [], ◌∷◌, length, map, get_or, slice_get, Option, Some, None, refl}
use Rattle.std.specs.List.{AllByRecursion, list_all}
use Rattle.std.proofs.Common.{ap, sym, subst, ◌∙◌, inl, inr, arith}
use Rattle.std.proofs.lemmas.Bool.{and_from, and_parts, false≢true}
use Rattle.std.proofs.lemmas.List.{get_or_past}
use Rattle.std.proofs.lemmas.Option.{slice_get_cases, slice_get-get_or}
use Rattle.da_values.specs.Order.{row_cmp}
use Rattle.da_values.specs.Sets.{Has, canon}
use Rattle.da_lang.specs.declared.query.Node.{Node}
use Rattle.da_lang.specs.declared.query.Node.TheVariants as node
use Rattle.da_lang.specs.World.{Data}
use Rattle.query_plan.specs.Nodes.{IsEven, IsPlan, ReadsBelow, node_rows, node_step, of_node, reads, width_of, width_step}
use Rattle.query_plan.specs.PlainNodes.{PlainNodes, is_plain_node}
use Rattle.query_plan.specs.Seen.{redirected}
use Rattle.query_plan.specs.Storing.{AreKept, is_kept, number_in, picked, rank, ranks}
use Rattle.query_plan.proofs.NodeLaws.{node_rows-past, of_node-at, step_local}
use Rattle.query_plan.proofs.Redirected.{each_from, even_redirected, plain_redirected, reads_redirected, step_redirected, width_redirected}
use Rattle.query_plan.proofs.WidthLaws.{width_local}

-- NUMBERS

none_kept : (i : ℕ) → is_kept [] i ≡ true → ⊥
none_kept i stays = absurd (false≢true (sym (get_or_past [] i false (omega arith)) ∙ stays))

pub kept_inside : (kept : List Bool) (i : ℕ) → is_kept kept i ≡ true → i < length kept
kept_inside [] i stays = absurd (none_kept i stays)
kept_inside (k ∷ kept) zero stays = omega arith
kept_inside (k ∷ kept) (suc i) stays = omega (arith, kept_inside kept i stays)

pub rank_less : (kept : List Bool) (j i : ℕ) → is_kept kept j ≡ true → j < i → rank kept j < rank kept i
rank_less [] j i stays less = absurd (none_kept j stays)
rank_less (true ∷ kept) zero zero stays less = absurd (omega (arith, less))
rank_less (true ∷ kept) zero (suc i) stays less = omega arith
rank_less (true ∷ kept) (suc j) zero stays less = absurd (omega (arith, less))
rank_less (true ∷ kept) (suc j) (suc i) stays less = omega (arith, rank_less kept j i stays (omega (arith, less)))
rank_less (false ∷ kept) zero i stays less = absurd (false≢true stays)
rank_less (false ∷ kept) (suc j) zero stays less = absurd (omega (arith, less))
rank_less (false ∷ kept) (suc j) (suc i) stays less = rank_less kept j i stays (omega (arith, less))

ranks_at : (kept : List Bool) (next i : ℕ) → is_kept kept i ≡ true → number_in (ranks next kept) i ≡ next + rank kept i
ranks_at [] next i stays = absurd (none_kept i stays)
ranks_at (true ∷ kept) next zero stays = omega arith
ranks_at (true ∷ kept) next (suc i) stays = ranks_at kept (suc next) i stays ∙ (let e : suc next + rank kept i ≡ next + suc (rank kept i) = omega arith in e)
ranks_at (false ∷ kept) next zero stays = absurd (false≢true stays)
ranks_at (false ∷ kept) next (suc i) stays = ranks_at kept next i stays

-- the new number of a kept node
pub number_is : (kept : List Bool) (i : ℕ) → is_kept kept i ≡ true → number_in (ranks 0 kept) i ≡ rank kept i
number_is kept i stays = ranks_at kept 0 i stays ∙ omega arith

-- WHERE A KEPT NODE STANDS

pub pick_at : (f : ℕ → ℕ) (kept : List Bool) (nodes : List Node) (i : ℕ) (n : Node) → slice_get nodes i ≡ Some n → is_kept kept i ≡ true → slice_get (picked f kept nodes) (rank kept i) ≡ Some (redirected f n)
pick_at f [] nodes i n there stays = absurd (none_kept i stays)
pick_at f (k ∷ kept) [] i n there stays = absurd (cc)
pick_at f (true ∷ kept) (m ∷ nodes) zero n there stays = let same : m ≡ n = cc in ap (λ z. Some (redirected f z)) same
pick_at f (true ∷ kept) (m ∷ nodes) (suc i) n there stays = pick_at f kept nodes i n there stays
pick_at f (false ∷ kept) (m ∷ nodes) zero n there stays = absurd (false≢true stays)
pick_at f (false ∷ kept) (m ∷ nodes) (suc i) n there stays = pick_at f kept nodes i n there stays

-- stored node k is a kept one
pub record IsPick (f : ℕ → ℕ) (kept : List Bool) (nodes : List Node) (k : ℕ) (m : Node) : Type 0 where
  pub place : ℕ
  pub one : Node
  pub there : slice_get nodes place ≡ Some one
  pub stays : is_kept kept place ≡ true
  pub number : rank kept place ≡ k
  pub is : redirected f one ≡ m

pub pick_of : (f : ℕ → ℕ) (kept : List Bool) (nodes : List Node) (k : ℕ) (m : Node) → slice_get (picked f kept nodes) k ≡ Some m → IsPick f kept nodes k m
pick_of f [] nodes k m e = absurd (cc)
pick_of f (b ∷ kept) [] k m e = absurd (cc)
pick_of f (true ∷ kept) (n ∷ nodes) zero m e = record { place = 0; one = n; there = refl; stays = refl; number = refl; is = let same : redirected f n ≡ m = cc in same }
pick_of f (true ∷ kept) (n ∷ nodes) (suc k) m e =
    let p = pick_of f kept nodes k m e in
    record { place = suc p.place; one = p.one; there = p.there; stays = p.stays; number = ap suc p.number; is = p.is }
pick_of f (false ∷ kept) (n ∷ nodes) k m e =
    let p = pick_of f kept nodes k m e in
    record { place = suc p.place; one = p.one; there = p.there; stays = p.stays; number = p.number; is = p.is }

-- WHAT A STEP GIVES OF KEPT NODES

below_map : (f : ℕ → ℕ) (kept : List Bool) (i : ℕ) (js : List ℕ) → ((j : ℕ) → is_kept kept j ≡ true → f j ≡ rank kept j) → AllByRecursion (λ j. j < i) js → AreKept kept js → AllByRecursion (λ k. k < rank kept i) (map f js)
below_map f kept i [] same less all = tt
below_map f kept i (j ∷ js) same less all =
    (omega (arith, same j all.0, rank_less kept j i all.0 less.0), below_map f kept i js same less.1 all.1)

each_kept : {P : ℕ → Type 0} (i : ℕ) (kept : List Bool) (js : List ℕ) → ((j : ℕ) → j < i → is_kept kept j ≡ true → P j) → AllByRecursion (λ j. j < i) js → AreKept kept js → AllByRecursion P js
each_kept i kept [] one less all = tt
each_kept i kept (j ∷ js) one less all = (one j less.0 all.0, each_kept i kept js one less.1 all.1)

-- The kept nodes read kept ones alone, and f gives the new numbers.
module _ (nodes : List Node) (kept : List Bool) (f : ℕ → ℕ) (numbers : (j : ℕ) → is_kept kept j ≡ true → f j ≡ rank kept j)
    (lower : (i : ℕ) (n : Node) → slice_get nodes i ≡ Some n → ReadsBelow i n) (read : (i : ℕ) (n : Node) → slice_get nodes i ≡ Some n → is_kept kept i ≡ true → AreKept kept (reads n)) where
  abbrev Picks : List Node
  Picks = picked f kept nodes

  pub lower_pick : (i : ℕ) (n : Node) → slice_get nodes i ≡ Some n → is_kept kept i ≡ true → ReadsBelow (rank kept i) (redirected f n)
  lower_pick i n there stays =
      subst (AllByRecursion (λ k. k < rank kept i)) (sym (reads_redirected f n)) (below_map f kept i (reads n) numbers (lower i n there) (read i n there stays))

  module _ {A : Type 0} (none : A) (step : (ℕ → A) → Node → A) (local : (g h : ℕ → A) (n : Node) → AllByRecursion (λ j. g j ≡ h j) (reads n) → step g n ≡ step h n)
      (turned : (h : ℕ → A) (n : Node) → step h (redirected f n) ≡ step (λ j. h (f j)) n) where
    pick_below : (most i : ℕ) → i < most → i < length nodes → is_kept kept i ≡ true → of_node none step Picks (rank kept i) ≡ of_node none step nodes i
    pick_below zero i below inside stays = absurd (omega (arith, below))
    pick_below (suc most) i below inside stays =
        let n : Node = get_or nodes i node.Root in
        let there : slice_get nodes i ≡ Some n = slice_get-get_or nodes i node.Root inside in
        let one : (j : ℕ) → j < i → is_kept kept j ≡ true → of_node none step Picks (f j) ≡ of_node none step nodes j =
        λ j less alive. ap (of_node none step Picks) (numbers j alive) ∙ pick_below most j (omega (arith, less, below)) (omega (arith, less, inside)) alive in
        of_node-at none step local Picks (rank kept i) (redirected f n) (pick_at f kept nodes i n there stays) (lower_pick i n there stays)
        ∙ turned (of_node none step Picks) n
        ∙ local (λ j. of_node none step Picks (f j)) (of_node none step nodes) n (each_kept i kept (reads n) one (lower i n there) (read i n there stays))
        ∙ sym (of_node-at none step local nodes i n there (lower i n there))

    pub pick_is : (i : ℕ) → i < length nodes → is_kept kept i ≡ true → of_node none step Picks (rank kept i) ≡ of_node none step nodes i
    pick_is i inside stays = pick_below (suc i) i (omega arith) inside stays

  -- the rows of a kept node, and their width
  pub rows_pick : (d : Data) (i : ℕ) → i < length nodes → is_kept kept i ≡ true → node_rows d Picks (rank kept i) ≡ node_rows d nodes i
  rows_pick d i inside stays =
      pick_is [] (λ rows n. canon row_cmp (node_step d rows n)) (step_local d) (λ h n. ap (canon row_cmp) (step_redirected d h f n)) i inside stays

  pub rows_number : (d : Data) (i : ℕ) → i < length nodes → is_kept kept i ≡ true → node_rows d Picks (f i) ≡ node_rows d nodes i
  rows_number d i inside stays = ap (node_rows d Picks) (numbers i stays) ∙ rows_pick d i inside stays

  width_pick : (i : ℕ) → i < length nodes → is_kept kept i ≡ true → width_of Picks (rank kept i) ≡ width_of nodes i
  width_pick i inside stays = pick_is 0 width_step width_local (λ h n. width_redirected h f n) i inside stays

  -- they are a plan
  pub picks_plan : IsPlan nodes → length kept ≡ length nodes → IsPlan Picks
  picks_plan plan long k m e =
      let p = pick_of f kept nodes k m e in
      let inside : (j : ℕ) → is_kept kept j ≡ true → j < length nodes = λ j alive. omega (arith, long, kept_inside kept j alive) in
      let widths : (j : ℕ) → is_kept kept j ≡ true → width_of Picks (f j) ≡ width_of nodes j =
      λ j alive. ap (width_of Picks) (numbers j alive) ∙ width_pick j (inside j alive) alive in
      let both = plan p.place p.one p.there in (
        subst (λ z. ReadsBelow k z) p.is (subst (λ z. ReadsBelow z (redirected f p.one)) p.number (lower_pick p.place p.one p.there p.stays)),
        subst (IsEven (width_of Picks)) p.is
            (even_redirected (width_of Picks) (width_of nodes) f p.one
            (each_from (λ j. is_kept kept j ≡ true) (λ j. width_of Picks (f j) ≡ width_of nodes j) widths (reads p.one) (read p.place p.one p.there p.stays)) both.1),
      )

  -- all that they have are rows of some node
  pub picks_only : (d : Data) → length kept ≡ length nodes → (k : ℕ) → (i : ℕ) × (node_rows d Picks k ≡ node_rows d nodes i)
  picks_only d long k = go (slice_get Picks k) refl
    where
      go : (o : Option Node) → slice_get Picks k ≡ o → (i : ℕ) × (node_rows d Picks k ≡ node_rows d nodes i)
      go None e =
          let past : length Picks ≤ k = elim ((slice_get_cases Picks k).1) [ inl within ↦ absurd (cc) | inr out ↦ out.0 ] in
          (length nodes, node_rows-past d Picks k past ∙ sym (node_rows-past d nodes (length nodes) (omega arith)))
      go (Some m) e =
          let p = pick_of f kept nodes k m e in
          (p.place, ap (node_rows d Picks) (sym p.number) ∙ rows_pick d p.place (omega (arith, long, kept_inside kept p.place p.stays)) p.stays)

-- each of them is one of the nodes
pub picks_same : (f : ℕ → ℕ) (kept : List Bool) (nodes : List Node) (m : Node) → Has (picked f kept nodes) m → (n : Node) × Has nodes n × (m ≡ redirected f n)
picks_same f [] nodes m h = absurd h
picks_same f (b ∷ kept) [] m h = absurd h
picks_same f (true ∷ kept) (n ∷ nodes) m (inl e) = (n, inl refl, e)
picks_same f (true ∷ kept) (n ∷ nodes) m (inr h) = let (o, there, is) = picks_same f kept nodes m h in (o, inr there, is)
picks_same f (false ∷ kept) (n ∷ nodes) m h = let (o, there, is) = picks_same f kept nodes m h in (o, inr there, is)

pub picks_plain : (f : ℕ → ℕ) (kept : List Bool) (nodes : List Node) → PlainNodes nodes → PlainNodes (picked f kept nodes)
picks_plain f [] nodes plain = refl
picks_plain f (b ∷ kept) [] plain = refl
picks_plain f (true ∷ kept) (n ∷ nodes) plain =
    let (first, others) = and_parts (is_plain_node n) (list_all is_plain_node nodes) plain in
    and_from (is_plain_node (redirected f n)) (list_all is_plain_node (picked f kept nodes)) (plain_redirected f n ∙ first) (picks_plain f kept nodes others)
picks_plain f (false ∷ kept) (n ∷ nodes) plain = picks_plain f kept nodes (and_parts (is_plain_node n) (list_all is_plain_node nodes) plain).1

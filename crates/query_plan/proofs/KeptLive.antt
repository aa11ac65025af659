-- Kept nodes have the live patterns of all, where each other node has those of an earlier kept one.
use Rattle.std.specs.Prelude.{◌≡◌, ◌⊎◌, ◌<◌, ℕ, zero, suc, Bool, true, false, not, ◌&&◌, cond, List, [], ◌∷◌, ◌++◌, length, map, slice_get, Some, refl}
use Rattle.std.specs.List.{list_all, filter, flat_map}
use Rattle.std.proofs.Common.{ap, sym, subst, ◌∙◌, inl, inr, arith}
use Rattle.std.proofs.lemmas.Bool.{false≢true}
use Rattle.std.proofs.lemmas.List.{map-append}
use Rattle.std.proofs.lemmas.List.Elements.{filter-append}
use Rattle.da_values.specs.Sets.{Has}
use Rattle.da_values.proofs.Members.{each_from_all}
use Rattle.da_lang.specs.declared.query.LivePattern.{LivePattern}
use Rattle.da_lang.specs.declared.query.Node.{Node}
use Rattle.da_lang.specs.declared.query.RGen.{RGen}
use Rattle.da_lang.specs.Live.{is_history, live_gen, once, same_live}
use Rattle.da_lang.proofs.OnceLaws.{same_live-itself}
use Rattle.query_plan.specs.PlanLive.{gen_of, history_lives, node_gens, plan_live}
use Rattle.query_plan.specs.Storing.{is_kept, picked}
use Rattle.query_plan.proofs.Redirected.{gen_redirected}
use Rattle.query_plan.proofs.SameRows.{filter_same}

-- PATTERNS THAT WERE THERE BEFORE

abbrev is_other : LivePattern → LivePattern → Bool
is_other p q = not (same_live p q)

-- a pattern that is none of these
abbrev is_new : List LivePattern → LivePattern → Bool
is_new there q = list_all (λ p. is_other p q) there

not_new : (there : List LivePattern) (p : LivePattern) → Has there p → is_new there p ≡ false
not_new there p h = go (list_all (λ z. is_other z p) there) refl
  where
    go : (b : Bool) → list_all (λ z. is_other z p) there ≡ b → b ≡ false
    go false e = refl
    go true e = absurd (false≢true (sym (ap not (same_live-itself p)) ∙ each_from_all (λ z. is_other z p) there p e h))

is_other_there : (there : List LivePattern) (p q : LivePattern) → Has there p → is_new there q ≡ true → is_other p q ≡ true
is_other_there there p q h e = each_from_all (λ z. is_other z q) there p e h

-- of two tests one after the other
filter_both : (p q : LivePattern → Bool) (xs : List LivePattern) → filter p (filter q xs) ≡ filter (λ x. q x && p x) xs
filter_both p q [] = refl
filter_both p q (x ∷ xs) = go (q x) (filter_both p q xs)
  where
    go : (b : Bool) → filter p (filter q xs) ≡ filter (λ x. q x && p x) xs → filter p (cond b (x ∷ filter q xs) (filter q xs)) ≡ cond (b && p x) (x ∷ filter (λ x. q x && p x) xs) (filter (λ x. q x && p x) xs)
    go true same = ap (λ zs. cond (p x) (x ∷ zs) zs) same
    go false same = same

-- what is new of a list with a first member
new_of : (there : List LivePattern) (p : LivePattern) (ps : List LivePattern) → filter (is_new there) (once (p ∷ ps)) ≡ cond (is_new there p) (p ∷ filter (is_new (p ∷ there)) (once ps)) (filter (is_new (p ∷ there)) (once ps))
new_of there p ps =
    ap (λ zs. cond (is_new there p) (p ∷ zs) zs)
    (filter_both (is_new there) (is_other p) (once ps))

-- the patterns of a block come to those that were there
abbrev after : List LivePattern → List LivePattern → List LivePattern
after [] there = there
after (p ∷ block) there = after block (p ∷ there)

Has-after_there : (block there : List LivePattern) (q : LivePattern) → Has there q → Has (after block there) q
Has-after_there [] there q h = h
Has-after_there (p ∷ block) there q h = Has-after_there block (p ∷ there) q (inr h)

Has-after_block : (block there : List LivePattern) (q : LivePattern) → Has block q → Has (after block there) q
Has-after_block [] there q h = absurd h
Has-after_block (p ∷ block) there q (inl e) = Has-after_there block (p ∷ there) q (inl e)
Has-after_block (p ∷ block) there q (inr h) = Has-after_block block (p ∷ there) q h

block_same : (block there xs ys : List LivePattern) → filter (is_new (after block there)) (once xs) ≡ filter (is_new (after block there)) (once ys) → filter (is_new there) (once (block ++ xs)) ≡ filter (is_new there) (once (block ++ ys))
block_same [] there xs ys same = same
block_same (p ∷ block) there xs ys same =
    new_of there p (block ++ xs) ∙ ap (λ zs. cond (is_new there p) (p ∷ zs) zs) (block_same block (p ∷ there) xs ys same) ∙ sym (new_of there p (block ++ ys))

block_gone : (block there ys : List LivePattern) → ((p : LivePattern) → Has block p → Has there p) → filter (is_new there) (once (block ++ ys)) ≡ filter (is_new there) (once ys)
block_gone [] there ys all = refl
block_gone (p ∷ block) there ys all =
    let known : Has there p = all p (inl refl) in
    new_of there p (block ++ ys)
    ∙ ap (λ b. cond b (p ∷ filter (is_new (p ∷ there)) (once (block ++ ys))) (filter (is_new (p ∷ there)) (once (block ++ ys)))) (not_new there p known)
    ∙ filter_same (is_new (p ∷ there)) (is_new there) (λ q. go q (is_new there q) refl known) (once (block ++ ys))
    ∙ block_gone block there ys (λ q h. all q (inr h))
  where
    go : (q : LivePattern) (b : Bool) → is_new there q ≡ b → Has there p → (is_other p q && b) ≡ b
    go q true e known = ap (λ c. c && true) (is_other_there there p q known e)
    go q false e known = second_false (is_other p q)
      where
        second_false : (c : Bool) → (c && false) ≡ false
        second_false true = refl
        second_false false = refl

-- NODES

-- the live patterns of one node
abbrev pub lives_of : Node → List LivePattern
lives_of n = history_lives (gen_of n)

lives_flat : (nodes : List Node) → history_lives (node_gens nodes) ≡ flat_map lives_of nodes
lives_flat [] = refl
lives_flat (n ∷ nodes) =
    ap (map live_gen) (filter-append (λ (g : RGen). is_history g.source) (gen_of n) (node_gens nodes))
    ∙ map-append live_gen (filter (λ (g : RGen). is_history g.source) (gen_of n)) (filter (λ (g : RGen). is_history g.source) (node_gens nodes))
    ∙ ap (λ zs. lives_of n ++ zs) (lives_flat nodes)

-- a node that is not kept has the live patterns of an earlier one that is, or of those that were there
abbrev pub AreThere : List LivePattern → List Bool → List Node → Type 0
AreThere there kept nodes =
    (i : ℕ) (n : Node) (p : LivePattern) → slice_get nodes i ≡ Some n → is_kept kept i ≡ false → Has (lives_of n) p
    → Has there p ⊎ ((t : ℕ) × (m : Node) × (t < i) × (slice_get nodes t ≡ Some m) × (is_kept kept t ≡ true) × Has (lives_of m) p)

nodes_same : (f : ℕ → ℕ) (there : List LivePattern) (kept : List Bool) (nodes : List Node) → length kept ≡ length nodes → AreThere there kept nodes
    → filter (is_new there) (once (flat_map lives_of (picked f kept nodes))) ≡ filter (is_new there) (once (flat_map lives_of nodes))
nodes_same f there [] [] long are = refl
nodes_same f there [] (n ∷ nodes) long are = absurd (omega (arith, long))
nodes_same f there (b ∷ kept) [] long are = absurd (omega (arith, long))
nodes_same f there (true ∷ kept) (n ∷ nodes) long are =
    ap (λ gs. filter (is_new there) (once (history_lives gs ++ flat_map lives_of (picked f kept nodes)))) (gen_redirected f n)
    ∙ block_same (lives_of n) there (flat_map lives_of (picked f kept nodes)) (flat_map lives_of nodes)
    (nodes_same f (after (lives_of n) there) kept nodes (omega (arith, long)) later)
  where
    later : AreThere (after (lives_of n) there) kept nodes
    later i m p at gone has = go (are (suc i) m p at gone has)
      where
        go : Has there p ⊎ ((t : ℕ) × (o : Node) × (t < suc i) × (slice_get (n ∷ nodes) t ≡ Some o) × (is_kept (true ∷ kept) t ≡ true) × Has (lives_of o) p)
            → Has (after (lives_of n) there) p ⊎ ((t : ℕ) × (o : Node) × (t < i) × (slice_get nodes t ≡ Some o) × (is_kept kept t ≡ true) × Has (lives_of o) p)
        go (inl known) = inl (Has-after_there (lives_of n) there p known)
        go (inr (zero, o, less, here, stays, h)) = let same : n ≡ o = cc in inl (Has-after_block (lives_of n) there p (subst (λ z. Has (lives_of z) p) (sym same) h))
        go (inr (suc t, o, less, here, stays, h)) = inr (t, o, omega (arith, less), here, stays, h)
nodes_same f there (false ∷ kept) (n ∷ nodes) long are =
    nodes_same f there kept nodes (omega (arith, long)) later
    ∙ sym (block_gone (lives_of n) there (flat_map lives_of nodes) known)
  where
    known : (p : LivePattern) → Has (lives_of n) p → Has there p
    known p h = go (are 0 n p refl refl h)
      where
        go : Has there p ⊎ ((t : ℕ) × (o : Node) × (t < 0) × (slice_get (n ∷ nodes) t ≡ Some o) × (is_kept (false ∷ kept) t ≡ true) × Has (lives_of o) p) → Has there p
        go (inl k) = k
        go (inr (t, o, less, here, stays, k)) = absurd (omega (arith, less))

    later : AreThere there kept nodes
    later i m p at gone has = go (are (suc i) m p at gone has)
      where
        go : Has there p ⊎ ((t : ℕ) × (o : Node) × (t < suc i) × (slice_get (n ∷ nodes) t ≡ Some o) × (is_kept (false ∷ kept) t ≡ true) × Has (lives_of o) p)
            → Has there p ⊎ ((t : ℕ) × (o : Node) × (t < i) × (slice_get nodes t ≡ Some o) × (is_kept kept t ≡ true) × Has (lives_of o) p)
        go (inl k) = inl k
        go (inr (zero, o, less, here, stays, h)) = absurd (false≢true stays)
        go (inr (suc t, o, less, here, stays, h)) = inr (t, o, omega (arith, less), here, stays, h)

all_new : (xs : List LivePattern) → filter (is_new []) xs ≡ xs
all_new [] = refl
all_new (x ∷ xs) = ap (λ zs. x ∷ zs) (all_new xs)

-- The live patterns of kept nodes, in their order.
pub same_live_patterns : (f : ℕ → ℕ) (kept : List Bool) (nodes : List Node) → length kept ≡ length nodes → AreThere [] kept nodes → plan_live (picked f kept nodes) ≡ plan_live nodes
same_live_patterns f kept nodes long are =
    ap once (lives_flat (picked f kept nodes)) ∙ sym (all_new (once (flat_map lives_of (picked f kept nodes))))
    ∙ nodes_same f [] kept nodes long are
    ∙ all_new (once (flat_map lives_of nodes)) ∙ sym (ap once (lives_flat nodes))

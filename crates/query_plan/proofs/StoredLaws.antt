-- What is stored of a plan: its laws.
use Rattle.std.specs.Prelude.{◌≡◌, ◌⊎◌, ◌≤◌, ◌<◌, ◌+◌, ℕ, zero, suc, Bool, true, false, not, ◌&&◌, if◌then◌else◌, List, [], ◌∷◌, length, map, slice_get, Option, Some, None, refl}
use Rattle.std.specs.List.{AllByRecursion}
use Rattle.std.proofs.Common.{ap, sym, subst, ◌∙◌, inl, inr, arith}
use Rattle.std.proofs.lemmas.Bool.{false≢true}
use Rattle.std.proofs.lemmas.Option.{slice_get_cases, slice_get_within}
use Rattle.da_values.specs.Sets.{Has}
use Rattle.da_lang.specs.declared.query.LivePattern.{LivePattern}
use Rattle.da_lang.specs.declared.query.Node.{Node}
use Rattle.da_lang.specs.declared.query.Node.TheVariants as node
use Rattle.da_lang.specs.declared.query.RGen.{RGen}
use Rattle.da_lang.specs.Matching.{Row}
use Rattle.da_lang.specs.World.{Data}
use Rattle.query_plan.specs.declared.plan.Plan.{Plan}
use Rattle.query_plan.specs.declared.stored.Seen.{Seen}
use Rattle.query_plan.specs.declared.stored.Stored.{Stored}
use Rattle.query_plan.specs.declared.stored.Test.{Test}
use Rattle.query_plan.specs.Nodes.{IsPlan, ReadsBelow, Tables, node_rows}
use Rattle.query_plan.specs.PlainNodes.{PlainNodes}
use Rattle.query_plan.specs.PlanLive.{plan_live}
use Rattle.query_plan.specs.Seen.{IsStored, are_met, given, given_if, is_met, seen_rows}
use Rattle.query_plan.specs.Storing.{AreEntries, AreKept, IsChoice, is_kept, named_nodes, number_in, picked, ranks, renumbered, renumbered_test, seen_as, table_from, test_nodes}
use Rattle.query_plan.specs.Told.{has_row}
use Rattle.query_plan.specs.Work.{work}
use Rattle.query_plan.proofs.FewerWork.{fewer_work}
use Rattle.query_plan.proofs.KeptLive.{AreThere, lives_of, same_live_patterns}
use Rattle.query_plan.proofs.NodeLaws.{node_rows-past}
use Rattle.query_plan.proofs.PickedLaws.{kept_inside, number_is, picks_only, picks_plain, picks_plan, picks_same, rows_number}

-- ENTRIES BY THE NEW NUMBERS

module _ (old new : Tables) (f : ℕ → ℕ) where
  met_same : (t : Test) → new (f t.node) ≡ old t.node → is_met new (renumbered_test f t) ≡ is_met old t
  met_same t same = ap (λ rows. if t.filled then has_row rows else not (has_row rows)) same

  all_met_same : (tests : List Test) → AllByRecursion (λ k. new (f k) ≡ old k) (test_nodes tests) → are_met new (map (renumbered_test f) tests) ≡ are_met old tests
  all_met_same [] same = refl
  all_met_same (t ∷ tests) same =
      ap (λ b. b && are_met new (map (renumbered_test f) tests)) (met_same t same.0) ∙ ap (λ b. is_met old t && b) (all_met_same tests same.1)

  -- it gives the same rows
  pub given_same : (s : Seen) → AllByRecursion (λ k. new (f k) ≡ old k) (named_nodes s) → given new (renumbered f s) ≡ given old s
  given_same s same = ap (λ b. if b then new (f s.node) else []) (all_met_same s.tests same.1) ∙ ap (λ (rows : List Row). if are_met old s.tests then rows else []) same.0

table_some : (f : ℕ → ℕ) (kept : List Bool) (start : ℕ) (entries : List Seen) (i : ℕ) (s : Seen) → slice_get entries i ≡ Some s
    → slice_get (table_from f kept start entries) i ≡ Some (seen_as f (is_kept kept (start + i)) (start + i) s)
table_some f kept start [] i s there = absurd (cc)
table_some f kept start (e ∷ entries) zero s there =
    let same : e ≡ s = cc in
    let at : start ≡ start + 0 = omega arith in
    ap (λ z. Some (seen_as f (is_kept kept start) start z)) same ∙ ap (λ k. Some (seen_as f (is_kept kept k) k s)) at
table_some f kept start (e ∷ entries) (suc i) s there =
    table_some f kept (suc start) entries i s there ∙ ap (λ k. Some (seen_as f (is_kept kept k) k s)) (let at : suc start + i ≡ start + suc i = omega arith in at)

table_none : (f : ℕ → ℕ) (kept : List Bool) (start : ℕ) (entries : List Seen) (i : ℕ) → slice_get entries i ≡ None → slice_get (table_from f kept start entries) i ≡ None
table_none f kept start [] i none = none
table_none f kept start (e ∷ entries) zero none = absurd (cc)
table_none f kept start (e ∷ entries) (suc i) none = table_none f kept (suc start) entries i none

each_named : (P : ℕ → Type 0) (kept : List Bool) (ks : List ℕ) → ((k : ℕ) → is_kept kept k ≡ true → P k) → AreKept kept ks → AllByRecursion P ks
each_named P kept [] one all = tt
each_named P kept (k ∷ ks) one all = (one k all.0, each_named P kept ks one all.1)

one_named : (kept : List Bool) (ks : List ℕ) (k : ℕ) → AreKept kept ks → Has ks k → is_kept kept k ≡ true
one_named kept [] k all h = absurd h
one_named kept (j ∷ ks) k all (inl e) = subst (λ z. is_kept kept z ≡ true) (sym e) all.0
one_named kept (j ∷ ks) k all (inr h) = one_named kept ks k all.1 h

named_below : (i : ℕ) (ks : List ℕ) (k : ℕ) → AllByRecursion (λ j. j ≤ i) ks → Has ks k → k ≤ i
named_below i [] k all h = absurd h
named_below i (j ∷ ks) k all (inl e) = omega (arith, all.0, e)
named_below i (j ∷ ks) k all (inr h) = named_below i ks k all.1 h

less_or_same : (t i : ℕ) → t ≤ i → (t < i) ⊎ (t ≡ i)
less_or_same zero zero small = inr refl
less_or_same zero (suc i) small = inl (omega arith)
less_or_same (suc t) zero small = absurd (omega (arith, small))
less_or_same (suc t) (suc i) small = elim (less_or_same t i (omega (arith, small))) [ inl less ↦ inl (omega (arith, less)) | inr same ↦ inr (ap suc same) ]

less_from : (t i : ℕ) → t ≤ i → (t ≡ i → ⊥) → t < i
less_from t i small other = elim (less_or_same t i small) [ inl less ↦ less | inr same ↦ absurd (other same) ]

past_end : {A : Type 0} (xs : List A) (i : ℕ) → slice_get xs i ≡ None → length xs ≤ i
past_end xs i none = elim ((slice_get_cases xs i).1) [ inl within ↦ absurd (cc) | inr out ↦ out.0 ]

-- THE LAWS

module _ (nodes : List Node) (entries : List Seen) (kept : List Bool) (plan : IsPlan nodes) (plain : PlainNodes nodes) (are : AreEntries nodes entries)
    (many : length entries ≡ length nodes) (choice : IsChoice nodes entries kept) where
  abbrev Number : ℕ → ℕ
  Number = number_in (ranks 0 kept)

  abbrev Picks : List Node
  Picks = picked Number kept nodes

  lower : (i : ℕ) (n : Node) → slice_get nodes i ≡ Some n → ReadsBelow i n
  lower i n there = (plan i n there).0

  within : (j : ℕ) → is_kept kept j ≡ true → j < length nodes
  within j stays = omega (arith, choice.many, kept_inside kept j stays)

  kept_rows : (d : Data) (j : ℕ) → is_kept kept j ≡ true → node_rows d Picks (Number j) ≡ node_rows d nodes j
  kept_rows d j stays = rows_number nodes kept Number (number_is kept) lower choice.read d j (within j stays) stays

  -- Rows.
  seen_one : (d : Data) (i : ℕ) (s : Seen) → slice_get entries i ≡ Some s → (b : Bool) → is_kept kept i ≡ b → given (node_rows d Picks) (seen_as Number b i s) ≡ node_rows d nodes i
  seen_one d i s there true stays = kept_rows d i stays
  seen_one d i s there false gone =
      given_same (node_rows d nodes) (node_rows d Picks) Number s (each_named (λ k. node_rows d Picks (Number k) ≡ node_rows d nodes k) kept (named_nodes s) (kept_rows d) (choice.named i s there))
      ∙ (are i s there).rows d

  seen_all : (d : Data) (i : ℕ) → seen_rows (node_rows d Picks) (table_from Number kept 0 entries) i ≡ node_rows d nodes i
  seen_all d i = go (slice_get entries i) refl
    where
      go : (o : Option Seen) → slice_get entries i ≡ o → seen_rows (node_rows d Picks) (table_from Number kept 0 entries) i ≡ node_rows d nodes i
      go None e =
          ap (given_if (node_rows d Picks)) (table_none Number kept 0 entries i e)
          ∙ sym (node_rows-past d nodes i (omega (arith, many, past_end entries i e)))
      go (Some s) e =
          ap (given_if (node_rows d Picks))
          (table_some Number kept 0 entries i s e ∙ ap (λ k. Some (seen_as Number (is_kept kept k) k s)) (let at : 0 + i ≡ i = omega arith in at))
          ∙ seen_one d i s e (is_kept kept i) refl

  -- Live patterns.
  gen_named : (n : Node) (p : LivePattern) → Has (lives_of n) p → (q : ℕ) × (g : RGen) × (n ≡ node.Gen q g)
  gen_named node.Root p h = absurd h
  gen_named (node.Gen q g) p h = (q, g, refl)
  gen_named (node.Filter q b) p h = absurd h
  gen_named (node.Semi q c) p h = absurd h
  gen_named (node.Anti q c) p h = absurd h
  gen_named (node.Union a b) p h = absurd h
  gen_named (node.AggBind q c op t other) p h = absurd h

  live_there : AreThere [] kept nodes
  live_there i n p there gone has = go (slice_get entries i) refl
    where
      go : (o : Option Seen) → slice_get entries i ≡ o → Has {A = LivePattern} [] p ⊎ ((t : ℕ) × (m : Node) × (t < i) × (slice_get nodes t ≡ Some m) × (is_kept kept t ≡ true) × Has (lives_of m) p)
      go None e = absurd (omega (arith, many, past_end entries i e, slice_get_within nodes i n there))
      go (Some s) e =
          let (q, g, is) = gen_named n p has in
          let (t, r, named, at) = (are i s e).same_gen q g (there ∙ ap Some is) in
          let stays : is_kept kept t ≡ true = one_named kept (named_nodes s) t (choice.named i s e) named in
          let small : t ≤ i = named_below i (named_nodes s) t (are i s e).below named in
          let less : t < i = less_from t i small (λ same. false≢true (sym (ap (is_kept kept) same ∙ gone) ∙ stays)) in
          inr (t, node.Gen r g, less, at, stays, subst (λ z. Has (lives_of z) p) is has)

  pub stored_is : (s : Stored) → s.plan.nodes ≡ Picks → s.seen ≡ table_from Number kept 0 entries → IsStored nodes s
  stored_is s nodes_are seen_are = record {
    plan = subst IsPlan (sym nodes_are) (picks_plan nodes kept Number (number_is kept) lower choice.read plan choice.many);
    plain = subst PlainNodes (sym nodes_are) (picks_plain Number kept nodes plain);
    rows = λ d i. ap (λ ns. seen_rows (node_rows d ns) s.seen i) nodes_are ∙ ap (λ table. seen_rows (node_rows d Picks) table i) seen_are ∙ seen_all d i;
    same = λ m h. let (n, there, is) = picks_same Number kept nodes m (subst (λ ns. Has ns m) nodes_are h) in (Number, n, there, is);
    only = λ d k.
        let (i, same) = picks_only nodes kept Number (number_is kept) lower choice.read d choice.many k in
        (i, ap (λ ns. node_rows d ns k) nodes_are ∙ same);
    fewer = λ u d. subst (λ ns. work u d ns ≤ work u d nodes) (sym nodes_are) (fewer_work nodes kept Number (number_is kept) lower choice.read within u d);
    live = ap plan_live nodes_are ∙ same_live_patterns Number kept nodes choice.many live_there;
  }

-- as code makes it
pub stored_made : (whole nodes : List Node) (entries told : List Seen) (kept stays : List Bool) (numbers renamed : List ℕ) (plan_is : Plan) (seen : List Seen) → nodes ≡ whole → IsPlan whole → PlainNodes whole
    → AreEntries nodes entries → length entries ≡ length nodes → told ≡ entries → IsChoice nodes told kept → stays ≡ kept → numbers ≡ ranks 0 stays → renamed ≡ numbers
    → plan_is.nodes ≡ picked (number_in renamed) stays nodes → seen ≡ table_from (number_in renamed) stays 0 told → IsStored whole (record { plan = plan_is; seen = seen })
stored_made whole nodes entries told kept stays numbers renamed plan_is seen same plan plain are many told_is choice stays_is numbers_is renamed_is nodes_are seen_are =
    let ranked : renamed ≡ ranks 0 kept = renamed_is ∙ numbers_is ∙ ap (ranks 0) stays_is in
    stored_is whole entries kept plan plain (subst (λ ns. AreEntries ns entries) same are) (many ∙ ap length same)
    (subst (λ ns. IsChoice ns entries kept) same (subst (λ es. IsChoice nodes es kept) told_is choice)) (record { plan = plan_is; seen = seen })
    (nodes_are ∙ ap (λ ns. picked (number_in ns) stays nodes) ranked ∙ ap (λ bs. picked (number_in (ranks 0 kept)) bs nodes) stays_is ∙ ap (picked (number_in (ranks 0 kept)) kept) same)
    (seen_are ∙ ap (λ ns. table_from (number_in ns) stays 0 told) ranked ∙ ap (λ bs. table_from (number_in (ranks 0 kept)) bs 0 told) stays_is ∙ ap (table_from (number_in (ranks 0 kept)) kept 0) told_is)

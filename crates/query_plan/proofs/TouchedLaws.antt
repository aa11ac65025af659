-- A node that an update does not touch keeps its rows, where the update brings no element into a slot that the node names and
-- takes none out of it.
use Rattle.std.specs.Prelude.{◌≡◌, ◌≤◌, ℕ, zero, suc, Bool, true, false, ◌||◌, if◌then◌else◌, List, [], ◌∷◌, ◌++◌, map, length, slice_get, Option, Some, None, refl}
use Rattle.std.specs.List.{AllByRecursion, list_any, filter_map}
use Rattle.std.proofs.Common.{ap, sym, subst, ◌∙◌, inl, inr, arith}
use Rattle.std.proofs.lemmas.Bool.{true≢false, or_parts}
use Rattle.da_values.specs.declared.val.Val.{Val}
use Rattle.da_values.specs.declared.val.Val.TheVariants as val
use Rattle.da_values.specs.Order.{val_cmp, row_cmp}
use Rattle.da_values.specs.Sets.{Has, Ascends, IsAlike, set_insert, set_remove}
use Rattle.da_values.specs.Views.{elements_of}
use Rattle.da_values.proofs.Members.{Has-append_left, of_append, Has-map, of_map, Has-filter_map, of_filter_map}
use Rattle.da_values.proofs.OrderLaws.{row_order, same_from_row_cmp}
use Rattle.da_values.proofs.SetLaws.{one_list, has_or_not, Has-difference, Has-insert}
use Rattle.da_lang.specs.declared.query.Node.{Node}
use Rattle.da_lang.specs.declared.query.Node.TheVariants as node
use Rattle.da_lang.specs.declared.query.RGen.{RGen}
use Rattle.da_lang.specs.declared.query.Source.{Source}
use Rattle.da_lang.specs.declared.query.Source.TheVariants as source
use Rattle.da_lang.specs.Caught.{caught_entry, with_caught}
use Rattle.da_lang.specs.Live.{is_history, live_gen, live_rows}
use Rattle.da_lang.specs.Matching.{Row, Candidate, Element, Message, matched_entry, matched_candidate}
use Rattle.da_lang.specs.Naming.{gen_names}
use Rattle.da_lang.specs.Queries.{candidates, step_rows}
use Rattle.da_lang.specs.World.{Data, slot_of}
use Rattle.da_lang.proofs.CaughtLaws.{taken_from_match, live_is_step, live_rows-received, live_rows-sent}
use Rattle.da_lang.proofs.NamingLaws.{candidate_stays}
use Rattle.query_plan.specs.Agreeing.{stored}
use Rattle.query_plan.specs.Nodes.{node_rows, reads, IsPlan}
use Rattle.query_plan.specs.PlainNodes.{is_plain_node}
use Rattle.query_plan.specs.PlanTerms.{Terms, cond_terms, default_terms, named_in, node_names}
use Rattle.query_plan.specs.Updates.{Update, Receives, Sends, Joins, Leaves, Assigns, after, gained, lost, change, swapped, moved}
use Rattle.query_plan.specs.Work.{is_some_of, source_moves, moves, names_assigned, is_touched}
use Rattle.query_plan.proofs.NodeLaws.{node_rows-at, node_rows-ascend, node_rows-past, step_local}
use Rattle.query_plan.proofs.PlainReads.{SameValues, plain_same, unnamed_values}
use Rattle.query_plan.proofs.SameRows.{NodeSame, step_same}
use Rattle.query_plan.proofs.UpdateLaws.{history_grows, swapped_covers}

-- Sets of rows that do not change.

nil_from_none : {A : Type 0} (xs : List A) → is_some_of xs ≡ false → xs ≡ []
nil_from_none [] e = refl
nil_from_none (x ∷ xs) e = absurd (true≢false e)

nil_parts : {A : Type 0} (xs ys : List A) → xs ++ ys ≡ [] → (xs ≡ []) × (ys ≡ [])
nil_parts [] ys e = (refl, e)
nil_parts (x ∷ xs) ys e = absurd (cc)

-- where nothing comes, what is there now was there before
no_gain : (old new : List Row) → gained old new ≡ [] → (r : Row) → Has new r → Has old r
no_gain old new none r h = elim (has_or_not row_cmp row_order same_from_row_cmp old r) [
  | inl there ↦ there
  | inr fresh ↦ absurd (subst (λ z. Has z r) none (Has-difference row_cmp row_order same_from_row_cmp new old r h fresh))
]

pub unchanged : (old new : List Row) → Ascends row_cmp old → Ascends row_cmp new → change old new ≡ [] → new ≡ old
unchanged old new old_up new_up none =
    let (came, left) = nil_parts (gained old new) (lost old new) none in
    one_list row_cmp row_order same_from_row_cmp new old new_up old_up (λ r. (no_gain old new came r, no_gain new old left r))

past_end : {A : Type 0} (xs : List A) (i : ℕ) → slice_get xs i ≡ None → length xs ≤ i
past_end [] i none = omega arith
past_end (x ∷ xs) zero none = absurd (cc)
past_end (x ∷ xs) (suc i) none = omega (arith, past_end xs i none)

-- the rows of each node ascend
pub rows_ascend : (d : Data) (nodes : List Node) → IsPlan nodes → (i : ℕ) → Ascends row_cmp (node_rows d nodes i)
rows_ascend d nodes plan i = go (slice_get nodes i) refl
  where
    go : (o : Option Node) → slice_get nodes i ≡ o → Ascends row_cmp (node_rows d nodes i)
    go None e = subst (Ascends row_cmp) (sym (node_rows-past d nodes i (past_end nodes i e))) tt
    go (Some n) e = node_rows-ascend d nodes i n e (plan i n e).0

-- Slots that are not named.

-- the update changes no slot of which the test is true
abbrev pub Spares : Update → (ℕ → Bool) → Type 0
Spares (Receives m p time) test = Unit {0}
Spares (Sends m p time) test = Unit {0}
Spares (Joins s x) test = test s ≡ false
Spares (Leaves s x) test = test s ≡ false
Spares (Assigns s x) test = test s ≡ false

pub match_kept : (u : Update) (d : Data) (g : RGen) → Spares u (λ s. gen_names s g) → (c : Candidate) (row : Row) → matched_candidate (after u d) g.message g.peer c row ≡ matched_candidate d g.message g.peer c row
match_kept (Receives m p time) d g free (Element x) row = refl
match_kept (Receives m p time) d g free (Message x q) row = refl
match_kept (Sends m p time) d g free (Element x) row = refl
match_kept (Sends m p time) d g free (Message x q) row = refl
match_kept (Joins s x) d g free c row = candidate_stays d s (val.Set (set_insert val_cmp (elements_of (slot_of d s)) x)) g free c row
match_kept (Leaves s x) d g free c row = candidate_stays d s (val.Set (set_remove val_cmp (elements_of (slot_of d s)) x)) g free c row
match_kept (Assigns s x) d g free c row = candidate_stays d s x g free c row

pub values_kept : (u : Update) (d : Data) (terms : Terms) → Spares u (λ s. named_in s terms) → SameValues (after u d) d terms
values_kept (Receives m p time) d terms free = λ t h row. refl
values_kept (Sends m p time) d terms free = λ t h row. refl
values_kept (Joins s x) d terms free = unnamed_values d s (val.Set (set_insert val_cmp (elements_of (slot_of d s)) x)) terms free
values_kept (Leaves s x) d terms free = unnamed_values d s (val.Set (set_remove val_cmp (elements_of (slot_of d s)) x)) terms free
values_kept (Assigns s x) d terms free = unnamed_values d s x terms free

-- Generators whose source does not move.

pub filter_map_alike : {A B : Type 0} (f g : A → Option B) → ((x : A) → f x ≡ g x) → (xs ys : List A) → IsAlike xs ys → IsAlike (filter_map f xs) (filter_map g ys)
filter_map_alike f g same xs ys alike z = (
  λ h. let (x, there, e) = of_filter_map f xs z h in Has-filter_map g ys x z ((alike x).0 there) (sym (same x) ∙ e),
  λ h. let (x, there, e) = of_filter_map g ys z h in Has-filter_map f xs x z ((alike x).1 there) (same x ∙ e),
)

module _ (u : Update) (d : Data) (g : RGen) (free : Spares u (λ s. gen_names s g)) (row : Row) where
  abbrev now : Candidate → Option Row
  now c = matched_candidate (after u d) g.message g.peer c row

  abbrev before : Candidate → Option Row
  before c = matched_candidate d g.message g.peer c row

  -- of a slot
  same_elements : (k : ℕ) → moved u d (source.Slot k) ≡ [] → IsAlike (candidates (after u d) (source.Slot k)) (candidates d (source.Slot k))
  same_elements k none c =
      let old = elements_of (slot_of d k) in
      let new = elements_of (slot_of (after u d) k) in
      let never : (x : Val) → Has (swapped old new) x → ⊥ = λ x h. subst (λ z. Has z (Element x)) none (Has-map Element (swapped old new) x h) in (
        λ h.
            let (x, there, is) = of_map Element new c h in
            subst (Has (map Element old)) (sym is) (Has-map Element old x (elim ((swapped_covers old new x).1 there) [ inl k ↦ k | inr k ↦ absurd (never x k) ])),
        λ h.
            let (x, there, is) = of_map Element old c h in
            subst (Has (map Element new)) (sym is) (Has-map Element new x (elim ((swapped_covers old new x).0 there) [ inl k ↦ k | inr k ↦ absurd (never x k) ])),
      )

  -- of a history to which no live row comes: an entry that came gives no new row
  module _ (over : is_history g.source ≡ true) (none : gained (live_rows (live_gen g) d) (live_rows (live_gen g) (after u d)) ≡ []) where
    known_live : (live : Row) → Has (live_rows (live_gen g) (after u d)) live → Has (live_rows (live_gen g) d) live
    known_live = no_gain (live_rows (live_gen g) d) (live_rows (live_gen g) (after u d)) none

    with_row : (rows : List Row) (found : Option Row) (live : Row) → found ≡ Some live → Has (with_caught rows found) live
    with_row rows found live is = subst (λ z. Has (with_caught rows z) live) (sym is) (Has-insert row_cmp row_order same_from_row_cmp rows live live (inl refl))

    -- an entry that matches and whose live row is there
    entry_known : (m : Val) (p : ℕ) (r : Row) → matched_entry d g.message g.peer m p row ≡ Some r → live_rows (live_gen g) (after u d) ≡ with_caught (live_rows (live_gen g) d) (caught_entry d.me g.message g.peer m p) → Has (step_rows d g row) r
    entry_known m p r e grown =
        let (live, is, gives) = taken_from_match d g m p row r e in
        live_is_step d g row over live r (known_live live (subst (λ z. Has z live) (sym grown) (with_row (live_rows (live_gen g) d) (caught_entry d.me g.message g.peer m p) live is))) gives

  moved_known : (v : Update) → v ≡ u → (s : Source) → g.source ≡ s → is_history s ≡ true → gained (live_rows (live_gen g) d) (live_rows (live_gen g) (after u d)) ≡ [] → (c : Candidate) (r : Row) → Has (moved v d s) c → before c ≡ Some r → Has (step_rows d g row) r
  moved_known (Receives m p time) this source.Received is over none c r (inl e) found =
      entry_known (ap is_history is) none m p r (sym (ap before e) ∙ found)
      (ap (λ z. live_rows (live_gen g) (after z d)) (sym this) ∙ live_rows-received g m p time d is)
  moved_known (Receives m p time) this source.Received is over none c r (inr h) found = absurd h
  moved_known (Receives m p time) this source.Sent is over none c r h found = absurd h
  moved_known (Sends m p time) this source.Sent is over none c r (inl e) found =
      entry_known (ap is_history is) none m p r (sym (ap before e) ∙ found)
      (ap (λ z. live_rows (live_gen g) (after z d)) (sym this) ∙ live_rows-sent g m p time d is)
  moved_known (Sends m p time) this source.Sent is over none c r (inr h) found = absurd h
  moved_known (Sends m p time) this source.Received is over none c r h found = absurd h
  moved_known (Joins k x) this source.Received is over none c r h found = absurd h
  moved_known (Joins k x) this source.Sent is over none c r h found = absurd h
  moved_known (Leaves k x) this source.Received is over none c r h found = absurd h
  moved_known (Leaves k x) this source.Sent is over none c r h found = absurd h
  moved_known (Assigns k x) this source.Received is over none c r h found = absurd h
  moved_known (Assigns k x) this source.Sent is over none c r h found = absurd h
  moved_known v this (source.Slot k) is over none c r h found = absurd (true≢false (sym over))

  same_entries : (s : Source) → g.source ≡ s → is_history s ≡ true → gained (live_rows (live_gen g) d) (live_rows (live_gen g) (after u d)) ≡ [] → IsAlike (filter_map now (candidates (after u d) s)) (filter_map before (candidates d s))
  same_entries s is over none r = (
    λ h.
        let (c, there, e) = of_filter_map now (candidates (after u d) s) r h in
        elim (of_append (candidates d s) (moved u d s) c (subst (λ z. Has z c) (history_grows u d s over) there)) [
          | inl old ↦ Has-filter_map before (candidates d s) c r old (sym (match_kept u d g free c row) ∙ e)
          | inr came ↦ subst (λ z. Has (filter_map before (candidates d z)) r) is (moved_known u refl s is over none c r came (sym (match_kept u d g free c row) ∙ e))
        ],
    λ h.
        let (c, there, e) = of_filter_map before (candidates d s) r h in
        Has-filter_map now (candidates (after u d) s) c r
        (subst (λ z. Has z c) (sym (history_grows u d s over)) (Has-append_left (candidates d s) (moved u d s) c there))
        (match_kept u d g free c row ∙ e),
  )

  gen_kept : source_moves u d g ≡ false → IsAlike (step_rows (after u d) g row) (step_rows d g row)
  gen_kept still = go g.source refl still
    where
      stored_is : (e : Data) → is_history g.source ≡ true → stored e g ≡ live_rows (live_gen g) e
      stored_is e over = ap (λ b. if b then live_rows (live_gen g) e else []) over

      none_stored : is_history g.source ≡ true → is_some_of (gained (stored d g) (stored (after u d) g)) ≡ false → gained (live_rows (live_gen g) d) (live_rows (live_gen g) (after u d)) ≡ []
      none_stored over e =
          ap (λ z. gained z (live_rows (live_gen g) (after u d))) (sym (stored_is d over))
          ∙ ap (gained (stored d g)) (sym (stored_is (after u d) over))
          ∙ nil_from_none (gained (stored d g) (stored (after u d) g)) e

      go : (s : Source) → g.source ≡ s → (if is_history s then is_some_of (gained (stored d g) (stored (after u d) g)) else is_some_of (moved u d s)) ≡ false → IsAlike (filter_map now (candidates (after u d) s)) (filter_map before (candidates d s))
      go source.Received is e = same_entries source.Received is refl (none_stored (ap is_history is) e)
      go source.Sent is e = same_entries source.Sent is refl (none_stored (ap is_history is) e)
      go (source.Slot k) is e =
          filter_map_alike now before (λ c. match_kept u d g free c row) (candidates (after u d) (source.Slot k)) (candidates d (source.Slot k))
          (same_elements k (nil_from_none (moved u d (source.Slot k)) e))

-- A node.

-- an assigned slot that a node does not name
unassigned : (u : Update) (n : Node) → names_assigned u n ≡ false → ((s : ℕ) (x : Val) → u ≡ Joins s x → node_names s n ≡ false) → ((s : ℕ) (x : Val) → u ≡ Leaves s x → node_names s n ≡ false) → Spares u (λ s. node_names s n)
unassigned (Receives m p time) n none joins leaves = tt
unassigned (Sends m p time) n none joins leaves = tt
unassigned (Joins s x) n none joins leaves = joins s x refl
unassigned (Leaves s x) n none joins leaves = leaves s x refl
unassigned (Assigns s x) n none joins leaves = none

node_kept : (u : Update) (d : Data) (n : Node) → is_plain_node n ≡ true → Spares u (λ s. node_names s n) → moves u d n ≡ false → NodeSame (after u d) d n
node_kept u d node.Root plain free still = tt
node_kept u d (node.Gen p g) plain free still = λ row. gen_kept u d g free row still
node_kept u d (node.Filter p b) plain free still = λ row. plain_same (after u d) d b plain (values_kept u d (cond_terms b) free) row
node_kept u d (node.Semi p c) plain free still = tt
node_kept u d (node.Anti p c) plain free still = tt
node_kept u d (node.Union a b) plain free still = tt
node_kept u d (node.AggBind p c op t other) plain free still = values_kept u d (t ∷ default_terms op other) free

module _ (u : Update) (d : Data) (nodes : List Node) (plan : IsPlan nodes) where
  abbrev Old : ℕ → List Row
  Old = node_rows d nodes

  abbrev New : ℕ → List Row
  New = node_rows (after u d) nodes

  inputs_kept : (js : List ℕ) → list_any (λ j. is_some_of (change (Old j) (New j))) js ≡ false → AllByRecursion (λ j. New j ≡ Old j) js
  inputs_kept [] none = tt
  inputs_kept (j ∷ js) none =
      let (first, others) = or_parts (is_some_of (change (Old j) (New j))) (list_any (λ j. is_some_of (change (Old j) (New j))) js) none in (
        unchanged (Old j) (New j) (rows_ascend d nodes plan j) (rows_ascend (after u d) nodes plan j) (nil_from_none (change (Old j) (New j)) first),
        inputs_kept js others,
      )

  -- Where an update does not touch a node of a plan, it leaves its rows as they are.
  pub untouched : (i : ℕ) (n : Node) → slice_get nodes i ≡ Some n → is_plain_node n ≡ true → is_touched u d Old New n ≡ false
      → ((s : ℕ) (x : Val) → u ≡ Joins s x → node_names s n ≡ false) → ((s : ℕ) (x : Val) → u ≡ Leaves s x → node_names s n ≡ false) → New i ≡ Old i
  untouched i n there plain none joins leaves =
      let (read, unnamed) = or_parts (list_any (λ j. is_some_of (change (Old j) (New j))) (reads n) || moves u d n) (names_assigned u n) none in
      let (inputs, still) = or_parts (list_any (λ j. is_some_of (change (Old j) (New j))) (reads n)) (moves u d n) read in
      let below = (plan i n there).0 in
      node_rows-at (after u d) nodes i n there below
      ∙ step_local (after u d) New Old n (inputs_kept (reads n) inputs)
      ∙ step_same (after u d) d n (node_kept u d n plain (unassigned u n unnamed joins leaves) still) Old
      ∙ sym (node_rows-at d nodes i n there below)

-- The values that the ids of answers name are those that the process has to keep.
use Rattle.std.specs.Prelude.{◌≡◌, ◌⊎◌, ◌<◌, ℕ, zero, suc, Bool, true, false, if◌then◌else◌, List, [], ◌∷◌, ◌++◌, length, map, get_or, slice_get, Option, Some, None, refl}
use Rattle.std.specs.List.{All}
use Rattle.std.proofs.Common.{sym, ap, ◌∙◌, subst, inl, inr, arith}
use Rattle.da_values.specs.Sets.{Has}
use Rattle.da_values.specs.declared.val.Val.{Val}
use Rattle.da_values.proofs.Members.{Has-append_left, Has-append_right, Has-map, of_append, of_map, place_of}
use Rattle.da_lang.specs.declared.query.LivePattern.{LivePattern}
use Rattle.da_lang.specs.declared.query.Node.{Node}
use Rattle.da_lang.specs.Live.{live_rows}
use Rattle.da_lang.specs.Matching.{Row}
use Rattle.da_lang.specs.World.{Data}
use Rattle.query_plan.specs.declared.stored.Seen.{Seen}
use Rattle.query_plan.specs.declared.stored.Stored.{Stored}
use Rattle.query_plan.specs.Nodes.{node_rows}
use Rattle.query_plan.specs.PlanLive.{plan_live}
use Rattle.query_plan.specs.Seen.{IsStored, are_met, given, given_if}
use Rattle.row_pool.specs.Cells.{Cells}
use Rattle.row_pool.specs.InUse.{AreHeld, InUse, IsCounted, Within}
use Rattle.row_pool.specs.Pool.{HoldsAll, val_at}
use Rattle.answer_index.specs.Answers.{IsSet, ids_of, ids_of_sets, rows_of}
use Rattle.answer_index.specs.Rows.{ids_in, row_in, row_of, rows_in}
use Rattle.answer_index.specs.declared.row.IdRow.{IdRow}
use Rattle.answer_index.specs.declared.set.AnswerSet.{AnswerSet}
use Rattle.delta_rules.specs.declared.answers.Answers.{Answers}
use Rattle.delta_rules.specs.Holding.{ids_of_answers}
use Rattle.delta_rules.specs.Keeping.{Keeps, all_live, all_rows, set_rows}
use Rattle.delta_rules.specs.Laid.{IsLaid}
use Rattle.da_core.specs.HeldCells.{HeldCells, IsKeptValue, IsLivePart, IsNodePart}
use Rattle.answer_index.proofs.StoredLaws.{listed_is_stored, stored_is_listed}
use Rattle.da_core.proofs.HeldIds.{all_values, held_by, holder_of}

each : {A : Type 0} (P : A → Type 0) (xs : List A) → All P xs → (z : A) → Has xs z → P z
each P xs all z has = let (k, inside, at) = place_of xs z z has in subst P at (all k z inside)

module _ (pool : Cells) where
  -- x is a part of a row of some of these tables
  record InTable (tables : List (List Row)) (x : Val) : Type 0 where
    table : List Row
    row : Row
    of_these : Has tables table
    there : Has table row
    part : Has row x

  -- x has an id among these
  record HasId (ids : List ℕ) (x : Val) : Type 0 where
    id : ℕ
    here : Has ids id
    value : x ≡ val_at pool id

  id_left : (xs ys : List ℕ) (x : Val) → HasId xs x → HasId (xs ++ ys) x
  id_left xs ys x h = record { id = h.id; here = Has-append_left xs ys h.id h.here; value = h.value }

  id_right : (xs ys : List ℕ) (x : Val) → HasId ys x → HasId (xs ++ ys) x
  id_right xs ys x h = record { id = h.id; here = Has-append_right xs ys h.id h.here; value = h.value }

  -- of one row
  id_in_row : (ids : List ℕ) (x : Val) → Has (row_of pool ids) x → HasId ids x
  id_in_row ids x has = let (k, here, value) = of_map (val_at pool) ids x has in record { id = k; here = here; value = value }

  -- of rows
  part_in_rows : (rows : List IdRow) (k : ℕ) → Has (ids_in rows) k → (row : Row) × Has (rows_in pool rows) row × Has row (val_at pool k)
  part_in_rows [] k has = absurd has
  part_in_rows (r ∷ rs) k has = go (of_append r.ids (ids_in rs) k has) (part_in_rows rs k)
    where
      go : Has r.ids k ⊎ Has (ids_in rs) k → (Has (ids_in rs) k → (row : Row) × Has (rows_in pool rs) row × Has row (val_at pool k)) → (row : Row) × Has (rows_in pool (r ∷ rs)) row × Has row (val_at pool k)
      go (inl here) later = (row_in pool r, inl refl, Has-map (val_at pool) r.ids k here)
      go (inr behind) later = let (row, there, part) = later behind in (row, inr there, part)

  id_in_rows : (rows : List IdRow) (row : Row) (x : Val) → Has (rows_in pool rows) row → Has row x → HasId (ids_in rows) x
  id_in_rows [] row x there part = absurd there
  id_in_rows (r ∷ rs) row x (inl e) part = id_left r.ids (ids_in rs) x (id_in_row r.ids x (subst (λ (ys : Row). Has ys x) e part))
  id_in_rows (r ∷ rs) row x (inr h) part = id_right r.ids (ids_in rs) x (id_in_rows rs row x h part)

  -- of sets
  part_in_sets : (sets : List AnswerSet) → ((set : AnswerSet) → Has sets set → IsSet set pool) → (k : ℕ) → Has (ids_of_sets sets) k → InTable (set_rows pool sets) (val_at pool k)
  part_in_sets [] are k has = absurd has
  part_in_sets (s ∷ ss) are k has = go (of_append (ids_of s) (ids_of_sets ss) k has) (part_in_sets ss (λ set there. are set (inr there)) k)
    where
      go : Has (ids_of s) k ⊎ Has (ids_of_sets ss) k → (Has (ids_of_sets ss) k → InTable (set_rows pool ss) (val_at pool k)) → InTable (set_rows pool (s ∷ ss)) (val_at pool k)
      go (inl here) later =
          let (row, stored, part) = part_in_rows s.rows k here in
          record { table = rows_of s pool; row = row; of_these = inl refl; there = stored_is_listed s pool (are s (inl refl)) row stored; part = part }
      go (inr behind) later =
          let t = later behind in
          record { table = t.table; row = t.row; of_these = inr t.of_these; there = t.there; part = t.part }

  id_in_sets : (sets : List AnswerSet) → ((set : AnswerSet) → Has sets set → IsSet set pool) → (table : List Row) (row : Row) (x : Val) → Has (set_rows pool sets) table → Has table row → Has row x → HasId (ids_of_sets sets) x
  id_in_sets [] are table row x of_these there part = absurd of_these
  id_in_sets (s ∷ ss) are table row x (inl e) there part =
      let listed : Has (rows_of s pool) row = subst (λ (t : List Row). Has t row) e there in
      id_left (ids_of s) (ids_of_sets ss) x (id_in_rows s.rows row x (listed_is_stored s pool (are s (inl refl)) row listed) part)
  id_in_sets (s ∷ ss) are table row x (inr h) there part =
      id_right (ids_of s) (ids_of_sets ss) x (id_in_sets ss (λ set among. are set (inr among)) table row x h there part)

-- TABLES OF NODES AND LIVE PATTERNS

module _ {A : Type 0} where
  at_place : (xs : List A) (x none : A) → Has xs x → (i : ℕ) × (x ≡ get_or xs i none)
  at_place [] x none has = absurd has
  at_place (y ∷ ys) x none (inl e) = (zero, e)
  at_place (y ∷ ys) x none (inr h) = let (i, same) = at_place ys x none h in (suc i, same)

of_some_place : (tables : List (List Row)) (i : ℕ) (row : Row) → Has (get_or tables i []) row → (table : List Row) × Has tables table × Has table row
of_some_place [] i row has = absurd has
of_some_place (t ∷ ts) zero row has = (t, inl refl, has)
of_some_place (t ∷ ts) (suc i) row has = let (table, of_these, there) = of_some_place ts i row has in (table, inr of_these, there)

module _ (pool : Cells) (nodes : List Node) (d : Data) where
  node_part : (x : Val) → InTable pool (all_rows d nodes) x → IsNodePart nodes d x
  node_part x t =
      let (i, same) = at_place (all_rows d nodes) t.table [] t.of_these in
      record { node = i; row = t.row; there = subst (λ (rows : List Row). Has rows t.row) same t.there; part = t.part }

  in_node_table : (x : Val) → IsNodePart nodes d x → InTable pool (all_rows d nodes) x
  in_node_table x p =
      let (table, of_these, there) = of_some_place (all_rows d nodes) p.node p.row p.there in
      record { table = table; row = p.row; of_these = of_these; there = there; part = p.part }

  live_part : (x : Val) → InTable pool (all_live d nodes) x → IsLivePart nodes d x
  live_part x t =
      let (pattern, of_plan, same) = of_map (λ p. live_rows p d) (plan_live nodes) t.table t.of_these in
      record { pattern = pattern; row = t.row; of_plan = of_plan; there = subst (λ (rows : List Row). Has rows t.row) same t.there; part = t.part }

  in_live_table : (x : Val) → IsLivePart nodes d x → InTable pool (all_live d nodes) x
  in_live_table x p =
      record { table = live_rows p.pattern d; row = p.row; of_these = Has-map (λ p. live_rows p d) (plan_live nodes) p.pattern p.of_plan; there = p.there; part = p.part }

-- THE VALUES OF ANSWERS

module _ (answers : Answers) (pool : Cells) (nodes : List Node) (d : Data) (keeps : Keeps answers pool nodes d) (laid : IsLaid answers pool nodes) where
  kept_value : (k : ℕ) → Has (ids_of_answers answers) k → IsKeptValue nodes d (val_at pool k)
  kept_value k has =
      elim (of_append answers.slots.ids (ids_of_sets answers.nodes.items ++ ids_of_sets answers.live.items) k has) [
        | inl slot ↦ inl (subst (λ (row : Row). Has row (val_at pool k)) keeps.slots (Has-map (val_at pool) answers.slots.ids k slot))
        | inr behind ↦ inr (elim (of_append (ids_of_sets answers.nodes.items) (ids_of_sets answers.live.items) k behind) [
          | inl here ↦ inl (node_part pool nodes d (val_at pool k) (subst (λ tables. InTable pool tables (val_at pool k)) keeps.rows (part_in_sets pool answers.nodes.items (each (λ set. IsSet set pool) answers.nodes.items laid.sets) k here)))
          | inr live ↦ inr (live_part pool nodes d (val_at pool k) (subst (λ tables. InTable pool tables (val_at pool k)) keeps.live (part_in_sets pool answers.live.items (each (λ set. IsSet set pool) answers.live.items laid.live_sets) k live)))
        ])
      ]

  has_id : (x : Val) → IsKeptValue nodes d x → HasId pool (ids_of_answers answers) x
  has_id x (inl slot) = id_left pool answers.slots.ids _ x (id_in_row pool answers.slots.ids x (subst (λ (row : Row). Has row x) (sym keeps.slots) slot))
  has_id x (inr (inl part)) =
      let t : InTable pool (set_rows pool answers.nodes.items) x = subst (λ tables. InTable pool tables x) (sym keeps.rows) (in_node_table pool nodes d x part) in
      id_right pool answers.slots.ids _ x (id_left pool (ids_of_sets answers.nodes.items) _ x (id_in_sets pool answers.nodes.items (each (λ set. IsSet set pool) answers.nodes.items laid.sets) t.table t.row x t.of_these t.there t.part))
  has_id x (inr (inr part)) =
      let t : InTable pool (set_rows pool answers.live.items) x = subst (λ tables. InTable pool tables x) (sym keeps.live) (in_live_table pool nodes d x part) in
      id_right pool answers.slots.ids _ x (id_right pool (ids_of_sets answers.nodes.items) _ x (id_in_sets pool answers.live.items (each (λ set. IsSet set pool) answers.live.items laid.live_sets) t.table t.row x t.of_these t.there t.part))

  module _ (held : HoldsAll pool (ids_of_answers answers)) (used : InUse pool) (counted : IsCounted pool) where
    -- the set of what is held in the pool is the set of what is to be kept
    cells_held : (set : List Val) → AreHeld pool set → HeldCells nodes d set
    cells_held set are = record {
      ascends = are.ascends;
      all = λ x y kept within.
          let h = has_id x kept in
          are.all y (held_by pool (ids_of_answers answers) held counted h.id y h.here (subst (λ z. Within z y) h.value within));
      only = λ y has.
          let (k, here, within) = holder_of pool (ids_of_answers answers) held counted y (are.only y has) in
          (val_at pool k, kept_value k here, within);
    }

    pub so_many : (n : ℕ) → ((set : List Val) → AreHeld pool set → n ≡ length set) → (set : List Val) × HeldCells nodes d set × (n ≡ length set)
    so_many n count = let (set, are) = all_values pool used in (set, cells_held set are, count set are)

-- A plan, and what is stored of it: the values to be kept are the same.

module _ (nodes : List Node) (s : Stored) (d : Data) (stored : IsStored nodes s) where
  abbrev Kept : ℕ → List Row
  Kept = node_rows d s.plan.nodes

  in_given : (e : Seen) (row : Row) → Has (given Kept e) row → Has (Kept e.node) row
  in_given e row there = go (are_met Kept e.tests) there
    where
      go : (b : Bool) → Has (if b then Kept e.node else []) row → Has (Kept e.node) row
      go true h = h
      go false h = absurd h

  in_stored : (o : Option Seen) (row : Row) → Has (given_if Kept o) row → (k : ℕ) × Has (Kept k) row
  in_stored None row there = absurd there
  in_stored (Some e) row there = (e.node, in_given e row there)

  stored_part : (x : Val) → IsNodePart nodes d x → IsNodePart s.plan.nodes d x
  stored_part x p =
      let (k, there) = in_stored (slice_get s.seen p.node) p.row (subst (λ (rows : List Row). Has rows p.row) (sym (stored.rows d p.node)) p.there) in
      record { node = k; row = p.row; there = there; part = p.part }

  node_part_of : (x : Val) → IsNodePart s.plan.nodes d x → IsNodePart nodes d x
  node_part_of x p =
      let (i, same) = stored.only d p.node in
      record { node = i; row = p.row; there = subst (λ (rows : List Row). Has rows p.row) same p.there; part = p.part }

  kept_stored : (x : Val) → IsKeptValue nodes d x → IsKeptValue s.plan.nodes d x
  kept_stored x (inl slot) = inl slot
  kept_stored x (inr (inl part)) = inr (inl (stored_part x part))
  kept_stored x (inr (inr part)) =
      inr (inr (record { pattern = part.pattern; row = part.row; of_plan = subst (λ (ps : List LivePattern). Has ps part.pattern) (sym stored.live) part.of_plan; there = part.there; part = part.part }))

  kept_of_plan : (x : Val) → IsKeptValue s.plan.nodes d x → IsKeptValue nodes d x
  kept_of_plan x (inl slot) = inl slot
  kept_of_plan x (inr (inl part)) = inr (inl (node_part_of x part))
  kept_of_plan x (inr (inr part)) =
      inr (inr (record { pattern = part.pattern; row = part.row; of_plan = subst (λ (ps : List LivePattern). Has ps part.pattern) stored.live part.of_plan; there = part.there; part = part.part }))

  pub cells_of : (set : List Val) → HeldCells s.plan.nodes d set → HeldCells nodes d set
  cells_of set cells = record {
    ascends = cells.ascends;
    all = λ x y kept within. cells.all x y (kept_stored x kept) within;
    only = λ y has. let (x, kept, within) = cells.only y has in (x, kept_of_plan x kept, within);
  }

-- What has to be read for a node is within its term. For a generator: the rows that agree with each element, the live rows
-- that agree with each row of the parent that came, and the own rows that extend each row of the parent that left. For Semi
-- and Anti: a row for each row in the changes of what they read. For an aggregate: the group of each row whose group changed,
-- and one own row.
use Rattle.std.specs.Prelude.{◌≡◌, ◌≤◌, ◌+◌, ℕ, true, if◌then◌else◌, List, length, slice_get, Option, Some, sum_by}
use Rattle.std.specs.List.{filter}
use Rattle.std.proofs.Common.{ap, arith, length-append}
use Rattle.da_values.specs.Order.{row_cmp}
use Rattle.da_values.specs.Sets.{Has, Distinct}
use Rattle.da_values.proofs.Members.{Has-flat_map}
use Rattle.da_values.proofs.OrderLaws.{row_order, same_from_row_cmp}
use Rattle.da_values.proofs.SetLaws.{Distinct-ascends, of_difference, Has-difference, Ascends-difference}
use Rattle.da_lang.specs.declared.query.AggOp.{AggOp}
use Rattle.da_lang.specs.declared.query.Cond.{Cond}
use Rattle.da_lang.specs.declared.query.Node.{Node}
use Rattle.da_lang.specs.declared.query.Node.TheVariants as node
use Rattle.da_lang.specs.declared.query.RGen.{RGen}
use Rattle.da_lang.specs.declared.query.Term.{Term}
use Rattle.da_lang.specs.Matching.{Row}
use Rattle.da_lang.specs.Queries.{step_rows}
use Rattle.da_lang.specs.World.{Data}
use Rattle.query_plan.specs.Nodes.{extends, node_rows, reads, width_of, IsPlan}
use Rattle.query_plan.specs.Updates.{Update, after, gained, lost}
use Rattle.query_plan.specs.Work.{node_change, is_touched, group_size, regrouped, element_reads, gained_reads, anew_reads, further, node_work, names_assigned}
use Rattle.query_plan.proofs.NodeLaws.{of_rows}
use Rattle.query_plan.proofs.ReadBounds.{gen_from, groups_most, sum_most}
use Rattle.query_plan.proofs.TouchedLaws.{rows_ascend}
use Rattle.query_plan.proofs.WidthLaws.{rows_wide}

module _ (u : Update) (d : Data) (nodes : List Node) (plan : IsPlan nodes) where
  abbrev Old : ℕ → List Row
  Old = node_rows d nodes

  abbrev New : ℕ → List Row
  New = node_rows (after u d) nodes

  -- the own rows of a node that extend a row
  abbrev pub own_group : ℕ → Row → ℕ
  own_group i s = length (filter (extends s) (Old i))

  -- a row of the parent that left
  was_there : (p : ℕ) (s : Row) → Has (lost (Old p) (New p)) s → Has (Old p) s
  was_there p s h = (of_difference row_cmp row_order same_from_row_cmp (Old p) (New p) s h).0

  went : (p : ℕ) (s : Row) → Has (lost (Old p) (New p)) s → Has (New p) s → ⊥
  went p s h = (of_difference row_cmp row_order same_from_row_cmp (Old p) (New p) s h).1

  -- a row of a generator that is there now extends none that left
  still_there : (i p : ℕ) (g : RGen) → slice_get nodes i ≡ Some (node.Gen p g) → (s r : Row) → Has (lost (Old p) (New p)) s → Has (New i) r → extends s r ≡ true → Has (New p) s
  still_there i p g there s r h now e =
      let (t, parent, found) = of_rows (after u d) nodes i (node.Gen p g) r there (plan i (node.Gen p g) there).0 now in
      gen_from (after u d) g (width_of nodes p) (New p) s r (λ z k. rows_wide (after u d) nodes plan p z k) (rows_wide d nodes plan p s (was_there p s h)) e
      (Has-flat_map (step_rows (after u d) g) (New p) t r parent found)

  -- The own rows of a generator that extend rows of its parent which left are rows that leave it.
  pub lost_groups : (i p : ℕ) (g : RGen) → slice_get nodes i ≡ Some (node.Gen p g) → sum_by (own_group i) (lost (Old p) (New p)) ≤ length (lost (Old i) (New i))
  lost_groups i p g there =
      groups_most (width_of nodes p) (Old i) (Distinct-ascends row_cmp row_order same_from_row_cmp (Old i) (rows_ascend d nodes plan i)) (lost (Old p) (New p)) (lost (Old i) (New i))
      (λ s h. rows_wide d nodes plan p s (was_there p s h))
      (Distinct-ascends row_cmp row_order same_from_row_cmp (lost (Old p) (New p)) (Ascends-difference row_cmp row_order same_from_row_cmp (Old p) (New p) (rows_ascend d nodes plan p)))
      (λ s r h own e. Has-difference row_cmp row_order same_from_row_cmp (Old i) (New i) r own (λ now. went p s h (still_there i p g there s r h now e)))

  -- The term of a node that is touched.

  abbrev term : ℕ → Node → ℕ
  term i n = node_work u d Old New i n

  term_is : (i : ℕ) (n : Node) → is_touched u d Old New n ≡ true → term i n ≡ 1 + sum_by (λ j. length (node_change u d Old New j)) (reads n) + length (node_change u d Old New i) + further u d Old New i n
  term_is i n touched = ap (λ b. if b then 1 + sum_by (λ j. length (node_change u d Old New j)) (reads n) + length (node_change u d Old New i) + further u d Old New i n else 0) touched

  change_is : (i : ℕ) → length (node_change u d Old New i) ≡ length (gained (Old i) (New i)) + length (lost (Old i) (New i))
  change_is i = length-append (gained (Old i) (New i)) (lost (Old i) (New i))

  -- What a generator reads.
  pub gen_fits : (i p : ℕ) (g : RGen) → slice_get nodes i ≡ Some (node.Gen p g) → is_touched u d Old New (node.Gen p g) ≡ true
      → element_reads u d Old New p g + gained_reads u d Old New p g + sum_by (own_group i) (lost (Old p) (New p)) ≤ term i (node.Gen p g)
  gen_fits i p g there touched = omega (arith, term_is i (node.Gen p g) touched, change_is i, lost_groups i p g there)

  -- One whose patterns name the slot that is assigned is worked out anew.
  pub gen_anew_fits : (i p : ℕ) (g : RGen) → is_touched u d Old New (node.Gen p g) ≡ true → names_assigned u (node.Gen p g) ≡ true → anew_reads u d Old New i p g ≤ term i (node.Gen p g)
  gen_anew_fits i p g touched named =
      let all : (if names_assigned u (node.Gen p g) then anew_reads u d Old New i p g else 0) ≡ anew_reads u d Old New i p g = ap (λ b. if b then anew_reads u d Old New i p g else 0) named in
      omega (arith, term_is i (node.Gen p g) touched, all)

  -- What a Semi and an Anti read.
  pub semi_fits : (i p c : ℕ) → is_touched u d Old New (node.Semi p c) ≡ true → length (node_change u d Old New p) + length (node_change u d Old New c) ≤ term i (node.Semi p c)
  semi_fits i p c touched = omega (arith, term_is i (node.Semi p c) touched)

  pub anti_fits : (i p c : ℕ) → is_touched u d Old New (node.Anti p c) ≡ true → length (node_change u d Old New p) + length (node_change u d Old New c) ≤ term i (node.Anti p c)
  anti_fits i p c touched = omega (arith, term_is i (node.Anti p c) touched)

  -- What a Filter reads whose condition names the slot that is assigned.
  pub filter_fits : (i p : ℕ) (b : Cond) → is_touched u d Old New (node.Filter p b) ≡ true → names_assigned u (node.Filter p b) ≡ true → length (New p) ≤ term i (node.Filter p b)
  filter_fits i p b touched named =
      let all : (if names_assigned u (node.Filter p b) then length (New p) else 0) ≡ length (New p) = ap (λ t. if t then length (New p) else 0) named in
      omega (arith, term_is i (node.Filter p b) touched, all)

  -- What an aggregate reads: of rows of the parent whose groups changed, each once, the group and one own row.
  pub bind_fits : (i p c : ℕ) (op : AggOp) (t : Term) (other : Option Term) (rows : List Row) → is_touched u d Old New (node.AggBind p c op t other) ≡ true → Distinct rows
      → ((row : Row) → Has rows row → Has (regrouped u d Old New p c) row) → sum_by (group_size (New c)) rows ≤ term i (node.AggBind p c op t other)
  bind_fits i p c op t other rows touched once within =
      let few : sum_by (group_size (New c)) rows ≤ sum_by (group_size (New c)) (regrouped u d Old New p c) = sum_most (group_size (New c)) rows (regrouped u d Old New p c) once within in
      omega (arith, term_is i (node.AggBind p c op t other) touched, few)

  pub bind_anew_fits : (i p c : ℕ) (op : AggOp) (t : Term) (other : Option Term) → is_touched u d Old New (node.AggBind p c op t other) ≡ true → names_assigned u (node.AggBind p c op t other) ≡ true
      → sum_by (group_size (New c)) (New p) ≤ term i (node.AggBind p c op t other)
  bind_anew_fits i p c op t other touched named =
      let all : (if names_assigned u (node.AggBind p c op t other) then sum_by (group_size (New c)) (New p) else 0) ≡ sum_by (group_size (New c)) (New p) = ap (λ b. if b then sum_by (group_size (New c)) (New p) else 0) named in
      omega (arith, term_is i (node.AggBind p c op t other) touched, all)

-- Lists of what came and of what left, each row once, are as long as the change. So is a list of the rows of an aggregate's
-- parent whose groups are read.
use Rattle.std.specs.Prelude.{◌≡◌, ◌⊎◌, ◌+◌, ℕ, ◌||◌, List, length}
use Rattle.std.specs.List.{list_any}
use Rattle.std.proofs.Common.{ap, sym, ◌∙◌, inl, inr, length-append}
use Rattle.std.proofs.lemmas.Bool.{or_cases, or_left, or_right}
use Rattle.da_values.specs.Order.{row_cmp}
use Rattle.da_values.specs.Sets.{Has, Distinct, Ascends, set_has, set_union}
use Rattle.da_values.proofs.Members.{Has-filter, of_filter, Has-from_any, any_from_has}
use Rattle.da_values.proofs.OrderLaws.{row_order, same_from_row_cmp}
use Rattle.da_values.proofs.SetLaws.{length_of_listing, of_difference, Has-difference, Ascends-difference, of_union, Has-union_left, Has-union_right, Has-from_test, test_from_has}
use Rattle.da_lang.specs.Matching.{Row, Extends}
use Rattle.da_lang.specs.World.{Data}
use Rattle.query_plan.specs.Nodes.{Tables, extends}
use Rattle.query_plan.specs.Updates.{Update, gained, lost, change}
use Rattle.query_plan.specs.Work.{node_change, regrouped}
use Rattle.query_plan.proofs.NodeLaws.{Extends-from_test, test_from_Extends}

-- what is in the second of two sets and not in the first, each row once
pub record ListsGain (old new rows : List Row) : Type 0 where
  pub once : Distinct rows
  pub only : (r : Row) → Has rows r → Has new r × (Has old r → ⊥)
  pub all : (r : Row) → Has new r → Has old r ⊎ Has rows r

pub gained_long : (old new came : List Row) → Ascends row_cmp new → ListsGain old new came → length came ≡ length (gained old new)
gained_long old new came sorted lists =
    length_of_listing row_cmp row_order same_from_row_cmp came (gained old new) lists.once (Ascends-difference row_cmp row_order same_from_row_cmp new old sorted)
    (λ r. (
      (λ h. let (there, fresh) = lists.only r h in Has-difference row_cmp row_order same_from_row_cmp new old r there fresh),
      (λ h.
          let (there, fresh) = of_difference row_cmp row_order same_from_row_cmp new old r h in
          elim (lists.all r there) [ inl before ↦ absurd (fresh before) | inr listed ↦ listed ]),
    ))

-- The lists of what came and of what left are together as long as the change.
pub change_long : (old new came left : List Row) → Ascends row_cmp old → Ascends row_cmp new → ListsGain old new came → ListsGain new old left → length (change old new) ≡ length came + length left
change_long old new came left old_sorted new_sorted lists_came lists_left =
    let one = gained_long old new came new_sorted lists_came in
    let two = gained_long new old left old_sorted lists_left in
    length-append (gained old new) (lost old new) ∙ ap (λ z. z + length (lost old new)) (sym one) ∙ ap (λ z. length came + z) (sym two)

-- The rows of an aggregate's parent whose groups are read: those that changed, and those that a changed row extends.
module _ (u : Update) (d : Data) (old new : Tables) (p c : ℕ) where
  pub of_regrouped : (row : Row) → Has (regrouped u d old new p c) row → (Has (old p) row ⊎ Has (new p) row) × (Has (node_change u d old new p) row ⊎ ((r : Row) × Has (node_change u d old new c) r × Extends row r))
  of_regrouped row h =
      let (there, found) = of_filter (λ z. set_has row_cmp (node_change u d old new p) z || list_any (extends z) (node_change u d old new c)) (set_union row_cmp (old p) (new p)) row h in (
        of_union row_cmp row_order same_from_row_cmp (old p) (new p) row there,
        elim (or_cases (set_has row_cmp (node_change u d old new p) row) (list_any (extends row) (node_change u d old new c)) found) [
          | inl own ↦ inl (Has-from_test row_cmp row_order same_from_row_cmp (node_change u d old new p) row own)
          | inr child ↦ (let (r, among, e) = Has-from_any (extends row) (node_change u d old new c) child in inr (r, among, Extends-from_test row r e))
        ],
      )

  pub in_regrouped : (row : Row) → Has (old p) row ⊎ Has (new p) row → Has (node_change u d old new p) row ⊎ ((r : Row) × Has (node_change u d old new c) r × Extends row r) → Has (regrouped u d old new p c) row
  in_regrouped row there found =
      Has-filter (λ z. set_has row_cmp (node_change u d old new p) z || list_any (extends z) (node_change u d old new c)) (set_union row_cmp (old p) (new p)) row
      (elim there [ inl before ↦ Has-union_left row_cmp row_order same_from_row_cmp (old p) (new p) row before | inr now ↦ Has-union_right row_cmp row_order same_from_row_cmp (old p) (new p) row now ])
      (elim found [
        | inl own ↦ or_left (set_has row_cmp (node_change u d old new p) row) (list_any (extends row) (node_change u d old new c)) (test_from_has row_cmp row_order same_from_row_cmp (node_change u d old new p) row own)
        | inr child ↦
            or_right (set_has row_cmp (node_change u d old new p) row) (list_any (extends row) (node_change u d old new c))
            (any_from_has (extends row) (node_change u d old new c) child.0 child.1 (test_from_Extends row child.0 child.2))
      ])

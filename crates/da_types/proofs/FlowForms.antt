-- The slots after statements, by their forms.
use Rattle.std.specs.Prelude.{◌≡◌, refl, ℕ, List, [], ◌++◌, map, Option, Some, None, option_map, unwrap_or}
use Rattle.std.proofs.Common.{◌∙◌, ap, sym}
use Rattle.std.proofs.lemmas.List.{map-append}
use Rattle.da_lang.specs.declared.program.Alt.{Alt, out-Alt, roll-out-Alt}
use Rattle.da_lang.specs.declared.program.Class.{Class}
use Rattle.da_lang.specs.declared.program.Item.{Item, out-Item, roll-out-Item}
use Rattle.da_lang.specs.declared.program.ItemKind.TheVariants as it
use Rattle.da_lang.specs.declared.program.RBranch.{RBranch, out-RBranch, roll-out-RBranch}
use Rattle.da_lang.specs.declared.query.Query.{Query}
use Rattle.da_lang.specs.declared.tree.MessageDecl.{MessageDecl}
use Rattle.da_lang.specs.Typing.{Slots, alt_flow, branch_flow, filled_slots, found_row, handler_types, in_turn, item_types, kind_flow, with_row_types}
use Rattle.da_lang.proofs.typing.TypingAt.{kind_flow_at-Assign, kind_flow_at-Add, kind_flow_at-Del, kind_flow_at-Send, kind_flow_at-Output, kind_flow_at-If, kind_flow_at-While, kind_flow_at-For, kind_flow_at-Call, kind_flow_at-Await, kind_flow_at-Label, kind_flow_at-Pass, alt_flow_at-of, item_types_at-of, branch_flow_at-of}
use Rattle.da_types.proofs.SlotLaws.{in_turn-append}

module _ (messages : List MessageDecl) (queries : List Query) where
  pub flow-If : (branches : List RBranch) (other : List Item) (slots : Slots) → kind_flow messages queries (it.If branches other) slots ≡ in_turn (map (item_types messages queries) other) (in_turn (map (branch_flow messages queries) branches) slots)
  flow-If branches other slots = kind_flow_at-If messages queries branches other slots ∙ in_turn-append (map (branch_flow messages queries) branches) (map (item_types messages queries) other) slots

  -- after the block of a timeout, if there is one
  timeout_flow : (timeout : Option (List Item)) (slots : Slots)
      → in_turn (unwrap_or (option_map (map (item_types messages queries)) timeout) []) slots ≡ in_turn (map (item_types messages queries) (unwrap_or timeout [])) slots
  timeout_flow None slots = refl
  timeout_flow (Some body) slots = refl

  pub flow-Await : (alts : List Alt) (timeout : Option (List Item)) (label : Option ℕ) (slots : Slots)
      → kind_flow messages queries (it.Await alts timeout label) slots ≡ in_turn (map (item_types messages queries) (unwrap_or timeout [])) (in_turn (map (alt_flow messages queries) alts) slots)
  flow-Await alts timeout label slots =
      kind_flow_at-Await messages queries alts timeout label slots
      ∙ in_turn-append (map (alt_flow messages queries) alts) (unwrap_or (option_map (map (item_types messages queries)) timeout) []) slots
      ∙ timeout_flow timeout (in_turn (map (alt_flow messages queries) alts) slots)

  pub item_flow : (i : Item) (slots : Slots) → item_types messages queries i slots ≡ kind_flow messages queries (out-Item i).kind slots
  item_flow i slots = ap (λ (j : Item). item_types messages queries j slots) (sym (roll-out-Item i)) ∙ item_types_at-of messages queries (out-Item i).line (out-Item i).kind slots

  pub branch_flows : (b : RBranch) (slots : Slots) → branch_flow messages queries b slots ≡ in_turn (map (item_types messages queries) (out-RBranch b).body) (with_row_types (out-RBranch b).binds (found_row messages queries (out-RBranch b).found slots) slots)
  branch_flows b slots = let o = out-RBranch b in ap (λ (c : RBranch). branch_flow messages queries c slots) (sym (roll-out-RBranch b)) ∙ branch_flow_at-of messages queries o.cond o.found o.binds o.body o.line slots

  pub alt_flows : (a : Alt) (slots : Slots) → alt_flow messages queries a slots ≡ in_turn (map (item_types messages queries) (out-Alt a).body) (with_row_types (out-Alt a).binds (found_row messages queries (out-Alt a).found slots) slots)
  alt_flows a slots = let o = out-Alt a in ap (λ (c : Alt). alt_flow messages queries c slots) (sym (roll-out-Alt a)) ∙ alt_flow_at-of messages queries o.cond o.found o.binds o.body o.line slots

pub ruleset flow_rules = (kind_flow_at-Assign, kind_flow_at-Add, kind_flow_at-Del, kind_flow_at-Send, kind_flow_at-Output, flow-If, kind_flow_at-While, kind_flow_at-For, kind_flow_at-Call, flow-Await, kind_flow_at-Label, kind_flow_at-Pass, item_flow, branch_flows, alt_flows)

-- the statements of a class in the order in which the slots take their types
pub class_filled : (messages : List MessageDecl) (c : Class) → filled_slots messages c ≡ in_turn (map (handler_types messages c.queries) c.handlers) (in_turn (map (item_types messages c.queries) c.run) (in_turn (map (item_types messages c.queries) c.setup) c.slots))
unfolding filled_slots
class_filled messages c =
    let flows = item_types messages c.queries in
    in_turn-append (map flows (c.setup ++ c.run)) (map (handler_types messages c.queries) c.handlers) c.slots
    ∙ ap (in_turn (map (handler_types messages c.queries) c.handlers)) (ap (λ fs. in_turn fs c.slots) (map-append flows c.setup c.run) ∙ in_turn-append (map flows c.setup) (map flows c.run) c.slots)

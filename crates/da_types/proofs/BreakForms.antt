-- The lines that break a rule, by the forms of statements.
use Rattle.std.specs.Prelude.{◌≡◌, refl, ℕ, ◌&&◌, true, is_some, List, [], ◌∷◌, ◌++◌, map, flat_map, Option, Some, None, option_map, unwrap_or}
use Rattle.std.proofs.Common.{◌∙◌, ap, sym}
use Rattle.std.proofs.lemmas.Grind.{flat_map-append}
use Rattle.da_lang.specs.declared.program.Alt.{Alt, out-Alt, roll-out-Alt}
use Rattle.da_lang.specs.declared.program.BindArg.{BindArg}
use Rattle.da_lang.specs.declared.program.Item.{Item, out-Item, roll-out-Item}
use Rattle.da_lang.specs.declared.program.ItemKind.{ItemKind}
use Rattle.da_lang.specs.declared.program.ItemKind.TheVariants as it
use Rattle.da_lang.specs.declared.program.RBranch.{RBranch, out-RBranch, roll-out-RBranch}
use Rattle.da_lang.specs.declared.program.RExpr.{RExpr}
use Rattle.da_lang.specs.declared.program.RExpr.TheVariants as re
use Rattle.da_lang.specs.declared.query.Query.{Query}
use Rattle.da_lang.specs.declared.tree.MessageDecl.{MessageDecl}
use Rattle.da_lang.specs.ExprTypes.{truth}
use Rattle.da_lang.specs.QueryTypes.{cond_holds, holds_of}
use Rattle.da_lang.specs.Typing.{Breaks, Slots, all, alt_broken, branch_broken, fits_element, fits_params, fits_slot, have_found, is_element, is_message, is_recipient, item_breaks, kind_broken, known, takes_elements, typed, unless}
use Rattle.da_lang.proofs.typing.TypingAt.{kind_broken-Assign, kind_broken-Add, kind_broken-Del, kind_broken-Send, kind_broken-Output, kind_broken-If, kind_broken-While, kind_broken-For, kind_broken-Call, kind_broken-Await, kind_broken-Label, kind_broken-Pass, alt_broken-of, item_breaks-of, branch_broken-of}
use Rattle.da_types.specs.Telling.{telling}
use Rattle.da_types.proofs.TellingLaws.{telling-append, telling_none}

pub ruleset expr_forms = (re.outs-Const, re.outs-Procs, re.outs-Me, re.outs-Slot, re.outs-Clock, re.outs-Ask, re.outs-Range, re.outs-Tuple, re.outs-SetOf, re.outs-Or, re.outs-And, re.outs-Not, re.outs-Cmp, re.outs-Member, re.outs-Chain)

-- the lines of all parts
pub all_each : {A : Type 0} (f : A → List ℕ) (xs : List A) → all (map f xs) ≡ flat_map f xs
all_each f [] = refl
all_each f (x ∷ xs) = ap (λ rest. f x ++ rest) (all_each f xs)

all-append : (xs ys : List (List ℕ)) → all (xs ++ ys) ≡ all xs ++ all ys
all-append xs ys = flat_map-append (λ (part : List ℕ). part) xs ys

module _ (messages : List MessageDecl) (queries : List Query) (slots : Slots) where
  abbrev broken : ItemKind → Breaks
  broken = kind_broken messages queries slots

  abbrev item_lines : Item → List ℕ
  item_lines = item_breaks messages queries slots

  pub rule-Assign : (slot : ℕ) (x : RExpr) → (broken (it.Assign slot x)).rule ≡ fits_slot messages queries slots slot x
  rule-Assign slot x = ap (λ (b : Breaks). b.rule) (kind_broken-Assign messages queries slots slot x)

  pub rule-Add : (slot : ℕ) (x : RExpr) → (broken (it.Add slot x)).rule ≡ fits_element messages queries slots slot x
  rule-Add slot x = ap (λ (b : Breaks). b.rule) (kind_broken-Add messages queries slots slot x)

  pub rule-Del : (slot : ℕ) (x : RExpr) → (broken (it.Del slot x)).rule ≡ is_element messages queries slots slot x
  rule-Del slot x = ap (λ (b : Breaks). b.rule) (kind_broken-Del messages queries slots slot x)

  pub rule-Send : (x to : RExpr) → (broken (it.Send x to)).rule ≡ (is_message messages queries slots x && holds_of (typed messages queries slots to).type_ (is_recipient messages queries slots))
  rule-Send x to = ap (λ (b : Breaks). b.rule) (kind_broken-Send messages queries slots x to)

  pub rule-Output : (x : RExpr) → (broken (it.Output x)).rule ≡ is_some (typed messages queries slots x).type_
  rule-Output x = ap (λ (b : Breaks). b.rule) (kind_broken-Output messages queries slots x)

  pub rule-If : (branches : List RBranch) (other : List Item) → (broken (it.If branches other)).rule ≡ true
  rule-If branches other = ap (λ (b : Breaks). b.rule) (kind_broken-If messages queries slots branches other)

  pub rule-While : (x : RExpr) (body : List Item) → (broken (it.While x body)).rule ≡ truth (typed messages queries slots x)
  rule-While x body = ap (λ (b : Breaks). b.rule) (kind_broken-While messages queries slots x body)

  pub rule-For : (slot : ℕ) (x : RExpr) (body : List Item) → (broken (it.For slot x body)).rule ≡ takes_elements messages queries slots slot x
  rule-For slot x body = ap (λ (b : Breaks). b.rule) (kind_broken-For messages queries slots slot x body)

  pub rule-Call : (args : List BindArg) (body : List Item) → (broken (it.Call args body)).rule ≡ fits_params messages queries slots args
  rule-Call args body = ap (λ (b : Breaks). b.rule) (kind_broken-Call messages queries slots args body)

  pub rule-Await : (alts : List Alt) (timeout : Option (List Item)) (label : Option ℕ) → (broken (it.Await alts timeout label)).rule ≡ true
  rule-Await alts timeout label = ap (λ (b : Breaks). b.rule) (kind_broken-Await messages queries slots alts timeout label)

  pub rule-Label : (l : ℕ) → (broken (it.Label l)).rule ≡ true
  rule-Label l = ap (λ (b : Breaks). b.rule) (kind_broken-Label messages queries slots l)

  pub rule-Pass : (broken it.Pass).rule ≡ true
  rule-Pass = ap (λ (b : Breaks). b.rule) (kind_broken-Pass messages queries slots)

  pub blocks-Assign : (told : Option ℕ) (slot : ℕ) (x : RExpr) → telling told (broken (it.Assign slot x)).blocks ≡ told
  blocks-Assign told slot x = ap (λ (b : Breaks). telling told b.blocks) (kind_broken-Assign messages queries slots slot x) ∙ telling_none told

  pub blocks-Add : (told : Option ℕ) (slot : ℕ) (x : RExpr) → telling told (broken (it.Add slot x)).blocks ≡ told
  blocks-Add told slot x = ap (λ (b : Breaks). telling told b.blocks) (kind_broken-Add messages queries slots slot x) ∙ telling_none told

  pub blocks-Del : (told : Option ℕ) (slot : ℕ) (x : RExpr) → telling told (broken (it.Del slot x)).blocks ≡ told
  blocks-Del told slot x = ap (λ (b : Breaks). telling told b.blocks) (kind_broken-Del messages queries slots slot x) ∙ telling_none told

  pub blocks-Send : (told : Option ℕ) (x to : RExpr) → telling told (broken (it.Send x to)).blocks ≡ told
  blocks-Send told x to = ap (λ (b : Breaks). telling told b.blocks) (kind_broken-Send messages queries slots x to) ∙ telling_none told

  pub blocks-Output : (told : Option ℕ) (x : RExpr) → telling told (broken (it.Output x)).blocks ≡ told
  blocks-Output told x = ap (λ (b : Breaks). telling told b.blocks) (kind_broken-Output messages queries slots x) ∙ telling_none told

  pub blocks-If : (told : Option ℕ) (branches : List RBranch) (other : List Item) → telling told (broken (it.If branches other)).blocks ≡ telling (telling told (flat_map (branch_broken messages queries slots) branches)) (flat_map item_lines other)
  blocks-If told branches other =
      ap (λ (b : Breaks). telling told b.blocks) (kind_broken-If messages queries slots branches other)
      ∙ ap (telling told) (all-append (map (branch_broken messages queries slots) branches) (map item_lines other))
      ∙ telling-append told (all (map (branch_broken messages queries slots) branches)) (all (map item_lines other))
      ∙ ap (λ lines. telling (telling told lines) (all (map item_lines other))) (all_each (branch_broken messages queries slots) branches)
      ∙ ap (telling (telling told (flat_map (branch_broken messages queries slots) branches))) (all_each item_lines other)

  pub blocks-While : (told : Option ℕ) (x : RExpr) (body : List Item) → telling told (broken (it.While x body)).blocks ≡ telling told (flat_map item_lines body)
  blocks-While told x body = ap (λ (b : Breaks). telling told b.blocks) (kind_broken-While messages queries slots x body) ∙ ap (telling told) (all_each item_lines body)

  pub blocks-For : (told : Option ℕ) (slot : ℕ) (x : RExpr) (body : List Item) → telling told (broken (it.For slot x body)).blocks ≡ telling told (flat_map item_lines body)
  blocks-For told slot x body = ap (λ (b : Breaks). telling told b.blocks) (kind_broken-For messages queries slots slot x body) ∙ ap (telling told) (all_each item_lines body)

  pub blocks-Call : (told : Option ℕ) (args : List BindArg) (body : List Item) → telling told (broken (it.Call args body)).blocks ≡ telling told (flat_map item_lines body)
  blocks-Call told args body = ap (λ (b : Breaks). telling told b.blocks) (kind_broken-Call messages queries slots args body) ∙ ap (telling told) (all_each item_lines body)

  -- the lines in the block of a timeout, if there is one
  timeout_lines : (timeout : Option (List Item)) → all (unwrap_or (option_map (map item_lines) timeout) []) ≡ flat_map item_lines (unwrap_or timeout [])
  timeout_lines None = refl
  timeout_lines (Some body) = all_each item_lines body

  pub blocks-Await : (told : Option ℕ) (alts : List Alt) (timeout : Option (List Item)) (label : Option ℕ)
      → telling told (broken (it.Await alts timeout label)).blocks ≡ telling (telling told (flat_map (alt_broken messages queries slots) alts)) (flat_map item_lines (unwrap_or timeout []))
  blocks-Await told alts timeout label =
      let others = unwrap_or (option_map (map item_lines) timeout) [] in
      ap (λ (b : Breaks). telling told b.blocks) (kind_broken-Await messages queries slots alts timeout label)
      ∙ ap (telling told) (all-append (map (alt_broken messages queries slots) alts) others)
      ∙ telling-append told (all (map (alt_broken messages queries slots) alts)) (all others)
      ∙ ap (λ lines. telling (telling told lines) (all others)) (all_each (alt_broken messages queries slots) alts)
      ∙ ap (telling (telling told (flat_map (alt_broken messages queries slots) alts))) (timeout_lines timeout)

  pub blocks-Label : (told : Option ℕ) (l : ℕ) → telling told (broken (it.Label l)).blocks ≡ told
  blocks-Label told l = ap (λ (b : Breaks). telling told b.blocks) (kind_broken-Label messages queries slots l) ∙ telling_none told

  pub blocks-Pass : (told : Option ℕ) → telling told (broken it.Pass).blocks ≡ told
  blocks-Pass told = ap (λ (b : Breaks). telling told b.blocks) (kind_broken-Pass messages queries slots) ∙ telling_none told

  pub item_told : (told : Option ℕ) (i : Item) → telling told (item_lines i) ≡ telling (telling told (unless (out-Item i).line (broken (out-Item i).kind).rule)) (broken (out-Item i).kind).blocks
  item_told told i =
      let o = out-Item i in
      ap (λ (j : Item). telling told (item_lines j)) (sym (roll-out-Item i))
      ∙ ap (telling told) (item_breaks-of messages queries slots o.line o.kind)
      ∙ telling-append told (unless o.line (broken o.kind).rule) (broken o.kind).blocks

  pub branch_told : (told : Option ℕ) (b : RBranch) → telling told (branch_broken messages queries slots b) ≡ telling (telling told (unless (out-RBranch b).line (truth (typed messages queries slots (out-RBranch b).cond) && have_found messages queries slots (out-RBranch b).found (out-RBranch b).binds))) (flat_map item_lines (out-RBranch b).body)
  branch_told told b =
      let o = out-RBranch b in
      let first = unless o.line (truth (typed messages queries slots o.cond) && have_found messages queries slots o.found o.binds) in
      ap (λ (c : RBranch). telling told (branch_broken messages queries slots c)) (sym (roll-out-RBranch b))
      ∙ ap (telling told) (branch_broken-of messages queries slots o.cond o.found o.binds o.body o.line)
      ∙ telling-append told first (all (map item_lines o.body))
      ∙ ap (telling (telling told first)) (all_each item_lines o.body)

  pub alt_told : (told : Option ℕ) (a : Alt) → telling told (alt_broken messages queries slots a) ≡ telling (telling told (unless (out-Alt a).line (cond_holds (known messages queries slots) (out-Alt a).cond [] && have_found messages queries slots (out-Alt a).found (out-Alt a).binds))) (flat_map item_lines (out-Alt a).body)
  alt_told told a =
      let o = out-Alt a in
      let first = unless o.line (cond_holds (known messages queries slots) o.cond [] && have_found messages queries slots o.found o.binds) in
      ap (λ (c : Alt). telling told (alt_broken messages queries slots c)) (sym (roll-out-Alt a))
      ∙ ap (telling told) (alt_broken-of messages queries slots o.cond o.found o.binds o.body o.line)
      ∙ telling-append told first (all (map item_lines o.body))
      ∙ ap (telling (telling told first)) (all_each item_lines o.body)

pub ruleset rule_rules = (rule-Assign, rule-Add, rule-Del, rule-Send, rule-Output, rule-If, rule-While, rule-For, rule-Call, rule-Await, rule-Label, rule-Pass)

pub ruleset block_rules = (telling_none, blocks-Assign, blocks-Add, blocks-Del, blocks-Send, blocks-Output, blocks-If, blocks-While, blocks-For, blocks-Call, blocks-Await, blocks-Label, blocks-Pass)

pub ruleset item_rules = (item_told, branch_told, alt_told)

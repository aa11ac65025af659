-- What statements demand, by their forms.
use Rattle.std.specs.Prelude.{◌≡◌, refl, ℕ, ◌<◌, List, [], ◌∷◌, ◌++◌, map, flat_map, length, Option, Some, None, option_map, unwrap_or}
use Rattle.std.proofs.Common.{◌∙◌, ap, ap₂, sym, append_assoc, append-nil, arith}
use Rattle.std.proofs.lemmas.Grind.{flat_map-append}
use Rattle.da_lang.specs.declared.program.Alt.{Alt, out-Alt, roll-out-Alt}
use Rattle.da_lang.specs.declared.program.BindArg.{BindArg}
use Rattle.da_lang.specs.declared.program.Item.{Item, out-Item, roll-out-Item}
use Rattle.da_lang.specs.declared.program.ItemKind.{ItemKind}
use Rattle.da_lang.specs.declared.program.ItemKind.TheVariants as it
use Rattle.da_lang.specs.declared.program.RBranch.{RBranch, out-RBranch, roll-out-RBranch}
use Rattle.da_lang.specs.declared.program.RExpr.{RExpr}
use Rattle.da_lang.specs.declared.program.RExpr.TheVariants as re
use Rattle.da_lang.specs.declared.query.Query.{Query}
use Rattle.type_table.specs.declared.scheme.Scheme.{Scheme}
use Rattle.type_demands.specs.declared.demand.Demand.{Demand}
use Rattle.type_demands.specs.declared.demand.Demand.TheVariants as d
use Rattle.type_demands.specs.declared.demand.LineDemand.{LineDemand}
use Rattle.type_demands.specs.Conds.{cond_sym}
use Rattle.type_demands.specs.Demands.{at_line}
use Rattle.type_demands.specs.Exprs.{is_one}
use Rattle.type_demands.specs.Syms.{Context}
use Rattle.type_demands.proofs.PutLaws.{at_line-both}
use Rattle.class_demands.specs.Statements.{KindDemands, all, sym_of, fits_slot, fits_element, is_element, takes_elements, fits_params, sends, have_found, have_types, args_fit, item_demands, kind_demands, alt_demands, branch_demands}
use Rattle.class_demands.proofs.StatementsAt.{asks-Assign, asks-Add, asks-Del, asks-Send, asks-Output, asks-If, asks-While, asks-For, asks-Call, asks-Await, asks-Label, asks-Pass, item_asks-of, alt_asks-of, branch_asks-of}

pub ruleset putting = (at_line-both, append_assoc, append-nil)

pub ruleset parts = (append_assoc, append-nil)

pub ruleset expr_forms = (re.outs-Const, re.outs-Procs, re.outs-Me, re.outs-Slot, re.outs-Clock, re.outs-Ask, re.outs-Range, re.outs-Tuple, re.outs-SetOf, re.outs-Or, re.outs-And, re.outs-Not, re.outs-Cmp, re.outs-Member, re.outs-Chain)

-- what all parts demand
all_each : {A : Type 0} (f : A → List LineDemand) (xs : List A) → all (map f xs) ≡ flat_map f xs
all_each f [] = refl
all_each f (x ∷ xs) = ap (λ rest. f x ++ rest) (all_each f xs)

all_both : (xs ys : List (List LineDemand)) → all (xs ++ ys) ≡ all xs ++ all ys
all_both xs ys = flat_map-append (λ (part : List LineDemand). part) xs ys

module _ (context : Context) (queries : List Query) where
  abbrev kind : ItemKind → KindDemands
  kind = kind_demands context queries

  abbrev items : List Item → List LineDemand
  items xs = flat_map (item_demands context queries) xs

  -- what a statement itself demands
  pub rule-Assign : (slot : ℕ) (x : RExpr) → (kind (it.Assign slot x)).rule ≡ fits_slot context queries slot x
  rule-Assign slot x = ap (λ (k : KindDemands). k.rule) (asks-Assign context queries slot x)

  pub rule-Add : (slot : ℕ) (x : RExpr) → (kind (it.Add slot x)).rule ≡ fits_element (context.slot slot) (sym_of context queries x)
  rule-Add slot x = ap (λ (k : KindDemands). k.rule) (asks-Add context queries slot x)

  pub rule-Del : (slot : ℕ) (x : RExpr) → (kind (it.Del slot x)).rule ≡ is_element (context.slot slot) (sym_of context queries x)
  rule-Del slot x = ap (λ (k : KindDemands). k.rule) (asks-Del context queries slot x)

  pub rule-Send : (x to : RExpr) → (kind (it.Send x to)).rule ≡ sends context queries x to
  rule-Send x to = ap (λ (k : KindDemands). k.rule) (asks-Send context queries x to)

  pub rule-Output : (x : RExpr) → (kind (it.Output x)).rule ≡ (sym_of context queries x).itself.demands
  rule-Output x = ap (λ (k : KindDemands). k.rule) (asks-Output context queries x)

  pub rule-If : (branches : List RBranch) (other : List Item) → (kind (it.If branches other)).rule ≡ []
  rule-If branches other = ap (λ (k : KindDemands). k.rule) (asks-If context queries branches other)

  pub rule-While : (x : RExpr) (body : List Item) → (kind (it.While x body)).rule ≡ is_one d.Truth (sym_of context queries x)
  rule-While x body = ap (λ (k : KindDemands). k.rule) (asks-While context queries x body)

  pub rule-For : (slot : ℕ) (x : RExpr) (body : List Item) → (kind (it.For slot x body)).rule ≡ takes_elements (context.slot slot) (sym_of context queries x)
  rule-For slot x body = ap (λ (k : KindDemands). k.rule) (asks-For context queries slot x body)

  pub rule-Call : (args : List BindArg) (body : List Item) → (kind (it.Call args body)).rule ≡ fits_params context queries args
  rule-Call args body = ap (λ (k : KindDemands). k.rule) (asks-Call context queries args body)

  pub rule-Await : (alts : List Alt) (timeout : Option (List Item)) (label : Option ℕ) → (kind (it.Await alts timeout label)).rule ≡ []
  rule-Await alts timeout label = ap (λ (k : KindDemands). k.rule) (asks-Await context queries alts timeout label)

  pub rule-Label : (l : ℕ) → (kind (it.Label l)).rule ≡ []
  rule-Label l = ap (λ (k : KindDemands). k.rule) (asks-Label context queries l)

  pub rule-Pass : (kind it.Pass).rule ≡ []
  rule-Pass = ap (λ (k : KindDemands). k.rule) (asks-Pass context queries)

  -- what its blocks demand
  pub blocks-Assign : (slot : ℕ) (x : RExpr) → (kind (it.Assign slot x)).blocks ≡ []
  blocks-Assign slot x = ap (λ (k : KindDemands). k.blocks) (asks-Assign context queries slot x)

  pub blocks-Add : (slot : ℕ) (x : RExpr) → (kind (it.Add slot x)).blocks ≡ []
  blocks-Add slot x = ap (λ (k : KindDemands). k.blocks) (asks-Add context queries slot x)

  pub blocks-Del : (slot : ℕ) (x : RExpr) → (kind (it.Del slot x)).blocks ≡ []
  blocks-Del slot x = ap (λ (k : KindDemands). k.blocks) (asks-Del context queries slot x)

  pub blocks-Send : (x to : RExpr) → (kind (it.Send x to)).blocks ≡ []
  blocks-Send x to = ap (λ (k : KindDemands). k.blocks) (asks-Send context queries x to)

  pub blocks-Output : (x : RExpr) → (kind (it.Output x)).blocks ≡ []
  blocks-Output x = ap (λ (k : KindDemands). k.blocks) (asks-Output context queries x)

  pub blocks-If : (branches : List RBranch) (other : List Item) → (kind (it.If branches other)).blocks ≡ flat_map (branch_demands context queries) branches ++ items other
  blocks-If branches other =
      ap (λ (k : KindDemands). k.blocks) (asks-If context queries branches other)
      ∙ all_both (map (branch_demands context queries) branches) (map (item_demands context queries) other)
      ∙ ap₂ (λ (a b : List LineDemand). a ++ b) (all_each (branch_demands context queries) branches) (all_each (item_demands context queries) other)

  pub blocks-While : (x : RExpr) (body : List Item) → (kind (it.While x body)).blocks ≡ items body
  blocks-While x body = ap (λ (k : KindDemands). k.blocks) (asks-While context queries x body) ∙ all_each (item_demands context queries) body

  pub blocks-For : (slot : ℕ) (x : RExpr) (body : List Item) → (kind (it.For slot x body)).blocks ≡ items body
  blocks-For slot x body = ap (λ (k : KindDemands). k.blocks) (asks-For context queries slot x body) ∙ all_each (item_demands context queries) body

  pub blocks-Call : (args : List BindArg) (body : List Item) → (kind (it.Call args body)).blocks ≡ items body
  blocks-Call args body = ap (λ (k : KindDemands). k.blocks) (asks-Call context queries args body) ∙ all_each (item_demands context queries) body

  -- what the block of a timeout demands, if there is one
  timeout_asks : (timeout : Option (List Item)) → all (unwrap_or (option_map (map (item_demands context queries)) timeout) []) ≡ items (unwrap_or timeout [])
  timeout_asks None = refl
  timeout_asks (Some body) = all_each (item_demands context queries) body

  pub blocks-Await : (alts : List Alt) (timeout : Option (List Item)) (label : Option ℕ) → (kind (it.Await alts timeout label)).blocks ≡ flat_map (alt_demands context queries) alts ++ items (unwrap_or timeout [])
  blocks-Await alts timeout label =
      ap (λ (k : KindDemands). k.blocks) (asks-Await context queries alts timeout label)
      ∙ all_both (map (alt_demands context queries) alts) (unwrap_or (option_map (map (item_demands context queries)) timeout) [])
      ∙ ap₂ (λ (a b : List LineDemand). a ++ b) (all_each (alt_demands context queries) alts) (timeout_asks timeout)

  pub blocks-Label : (l : ℕ) → (kind (it.Label l)).blocks ≡ []
  blocks-Label l = ap (λ (k : KindDemands). k.blocks) (asks-Label context queries l)

  pub blocks-Pass : (kind it.Pass).blocks ≡ []
  blocks-Pass = ap (λ (k : KindDemands). k.blocks) (asks-Pass context queries)

  -- statements, branches and alternatives: the rule on its line, and then the blocks
  pub item_is : (i : Item) → item_demands context queries i ≡ at_line (out-Item i).line (kind (out-Item i).kind).rule ++ (kind (out-Item i).kind).blocks
  item_is i = ap (λ (j : Item). item_demands context queries j) (sym (roll-out-Item i)) ∙ item_asks-of context queries (out-Item i).line (out-Item i).kind

  pub branch_is : (b : RBranch) →
      branch_demands context queries b ≡ at_line (out-RBranch b).line (is_one d.Truth (sym_of context queries (out-RBranch b).cond) ++ have_found context queries (out-RBranch b).found (out-RBranch b).binds) ++ items (out-RBranch b).body
  branch_is b =
      let o = out-RBranch b in
      let rule = at_line o.line (is_one d.Truth (sym_of context queries o.cond) ++ have_found context queries o.found o.binds) in
      ap (λ (c : RBranch). branch_demands context queries c) (sym (roll-out-RBranch b))
      ∙ branch_asks-of context queries o.cond o.found o.binds o.body o.line
      ∙ ap (λ (ds : List LineDemand). rule ++ ds) (all_each (item_demands context queries) o.body)

  pub alt_is : (a : Alt) →
      alt_demands context queries a ≡ at_line (out-Alt a).line (cond_sym context (out-Alt a).cond [] ++ have_found context queries (out-Alt a).found (out-Alt a).binds) ++ items (out-Alt a).body
  alt_is a =
      let o = out-Alt a in
      let rule = at_line o.line (cond_sym context o.cond [] ++ have_found context queries o.found o.binds) in
      ap (λ (c : Alt). alt_demands context queries c) (sym (roll-out-Alt a))
      ∙ alt_asks-of context queries o.cond o.found o.binds o.body o.line
      ∙ ap (λ (ds : List LineDemand). rule ++ ds) (all_each (item_demands context queries) o.body)

  -- no arguments are left; no types are left for a slot
  no_args : (params : List ℕ) → args_fit context queries params [] ≡ []
  no_args [] = refl
  no_args (param ∷ params) = refl

  no_types : (bs : List ℕ) → 0 < length bs → have_types context queries bs [] ≡ d.Never ∷ []
  no_types [] some = absurd (omega (arith, some))
  no_types (b ∷ bs) some = refl

  pub args_stop : (line : ℕ) (params : List ℕ) (rest : List RExpr) (now whole : List LineDemand) → rest ≡ [] → now ++ at_line line (args_fit context queries params rest) ≡ whole → now ≡ whole
  args_stop line params rest now whole none so_far =
      sym (append-nil now)
      ∙ sym (ap (λ (ds : List Demand). now ++ at_line line ds) (ap (args_fit context queries params) none ∙ no_args params))
      ∙ so_far

  pub types_stop : (line : ℕ) (bs : List ℕ) (rest : List Scheme) (now more whole : List LineDemand) → 0 < length bs → rest ≡ [] → more ≡ now ++ at_line line (d.Never ∷ []) → now ++ at_line line (have_types context queries bs rest) ≡ whole → more ≡ whole
  types_stop line bs rest now more whole some none put so_far =
      put
      ∙ sym (ap (λ (ds : List Demand). now ++ at_line line ds) (ap (have_types context queries bs) none ∙ no_types bs some))
      ∙ so_far

pub ruleset rule_rules = (rule-Assign, rule-Add, rule-Del, rule-Send, rule-Output, rule-If, rule-While, rule-For, rule-Call, rule-Await, rule-Label, rule-Pass, at_line-both, append_assoc, append-nil)

pub ruleset block_rules = (blocks-Assign, blocks-Add, blocks-Del, blocks-Send, blocks-Output, blocks-If, blocks-While, blocks-For, blocks-Call, blocks-Await, blocks-Label, blocks-Pass, append_assoc, append-nil)

pub ruleset item_rules = (item_is, branch_is, alt_is, append_assoc, append-nil)

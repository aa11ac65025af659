-- The types of slots, and the lines that break a rule of types, one layer at a time.
use Rattle.std.specs.Prelude.{ℕ, List, map, Option, Some, None, option_map, unwrap_or}
use Rattle.std.proofs.Common.{◌≡◌, ◌∙◌, ap, sym}
use Rattle.da_lang.specs.declared.program.Alt.{Alt, roll-Alt}
use Rattle.da_lang.specs.declared.program.BindArg.{BindArg}
use Rattle.da_lang.specs.declared.program.Item.{Item, roll-Item}
use Rattle.da_lang.specs.declared.program.ItemKind.{ItemKind, roll-ItemKind}
use Rattle.da_lang.specs.declared.program.ItemKind.TheVariants as it
use Rattle.da_lang.specs.declared.program.ItemKind.TheOpen.{ItemKind-F}
use Rattle.da_lang.specs.declared.program.ItemKind.TheFolds.{map-ItemKind, fold-roll-ItemKind, fold-roll-Alt, fold-roll-Item, fold-roll-RBranch}
use Rattle.da_lang.specs.declared.program.RBranch.{RBranch, roll-RBranch}
use Rattle.da_lang.specs.declared.program.RExpr.{RExpr}
use Rattle.da_lang.specs.declared.query.Cond.{Cond}
use Rattle.da_lang.specs.declared.query.Query.{Query}
use Rattle.da_lang.specs.declared.tree.MessageDecl.{MessageDecl}
use Rattle.da_lang.specs.Typing.{Slots, Breaks, kind_flow, alt_flow, item_types, branch_flow, kind_types, alt_types, item_types_step, branch_types, kind_broken, alt_broken, item_breaks, branch_broken, kind_breaks, alt_breaks, item_breaks_step, branch_breaks}

kind_flow_layer : (messages : List MessageDecl) (queries : List Query) (x : ItemKind-F ItemKind Alt Item RBranch) → (kind_flow messages queries) (roll-ItemKind x) ≡ (kind_types messages queries) (map-ItemKind ItemKind Alt Item RBranch (Slots → Slots) (Slots → Slots) (Slots → Slots) (Slots → Slots) (kind_flow messages queries) (alt_flow messages queries) (item_types messages queries) (branch_flow messages queries) x)
unfolding kind_flow alt_flow item_types branch_flow
kind_flow_layer messages queries x = fold-roll-ItemKind (Slots → Slots) (Slots → Slots) (Slots → Slots) (Slots → Slots) (kind_types messages queries) (alt_types messages queries) (item_types_step messages queries) (branch_types messages queries) x

pub kind_flow-Assign : (messages : List MessageDecl) (queries : List Query) (slot : ℕ) (x : RExpr) → (kind_flow messages queries) (it.Assign slot x) ≡ (kind_types messages queries) (ItemKind-F.Assign slot x)
kind_flow-Assign messages queries slot x = ap ((kind_flow messages queries)) (sym (it.rolls-Assign slot x)) ∙ kind_flow_layer messages queries (ItemKind-F.Assign slot x)

pub kind_flow_at-Assign : (messages : List MessageDecl) (queries : List Query) (slot : ℕ) (x : RExpr) (slots : Slots) → (kind_flow messages queries) (it.Assign slot x) slots ≡ (kind_types messages queries) (ItemKind-F.Assign slot x) slots
kind_flow_at-Assign messages queries slot x slots = ap (λ (f : Slots → Slots). f slots) (kind_flow-Assign messages queries slot x)

pub kind_flow-Add : (messages : List MessageDecl) (queries : List Query) (slot : ℕ) (x : RExpr) → (kind_flow messages queries) (it.Add slot x) ≡ (kind_types messages queries) (ItemKind-F.Add slot x)
kind_flow-Add messages queries slot x = ap ((kind_flow messages queries)) (sym (it.rolls-Add slot x)) ∙ kind_flow_layer messages queries (ItemKind-F.Add slot x)

pub kind_flow_at-Add : (messages : List MessageDecl) (queries : List Query) (slot : ℕ) (x : RExpr) (slots : Slots) → (kind_flow messages queries) (it.Add slot x) slots ≡ (kind_types messages queries) (ItemKind-F.Add slot x) slots
kind_flow_at-Add messages queries slot x slots = ap (λ (f : Slots → Slots). f slots) (kind_flow-Add messages queries slot x)

pub kind_flow-Del : (messages : List MessageDecl) (queries : List Query) (slot : ℕ) (x : RExpr) → (kind_flow messages queries) (it.Del slot x) ≡ (kind_types messages queries) (ItemKind-F.Del slot x)
kind_flow-Del messages queries slot x = ap ((kind_flow messages queries)) (sym (it.rolls-Del slot x)) ∙ kind_flow_layer messages queries (ItemKind-F.Del slot x)

pub kind_flow_at-Del : (messages : List MessageDecl) (queries : List Query) (slot : ℕ) (x : RExpr) (slots : Slots) → (kind_flow messages queries) (it.Del slot x) slots ≡ (kind_types messages queries) (ItemKind-F.Del slot x) slots
kind_flow_at-Del messages queries slot x slots = ap (λ (f : Slots → Slots). f slots) (kind_flow-Del messages queries slot x)

pub kind_flow-Send : (messages : List MessageDecl) (queries : List Query) (x : RExpr) (to : RExpr) → (kind_flow messages queries) (it.Send x to) ≡ (kind_types messages queries) (ItemKind-F.Send x to)
kind_flow-Send messages queries x to = ap ((kind_flow messages queries)) (sym (it.rolls-Send x to)) ∙ kind_flow_layer messages queries (ItemKind-F.Send x to)

pub kind_flow_at-Send : (messages : List MessageDecl) (queries : List Query) (x : RExpr) (to : RExpr) (slots : Slots) → (kind_flow messages queries) (it.Send x to) slots ≡ (kind_types messages queries) (ItemKind-F.Send x to) slots
kind_flow_at-Send messages queries x to slots = ap (λ (f : Slots → Slots). f slots) (kind_flow-Send messages queries x to)

pub kind_flow-Output : (messages : List MessageDecl) (queries : List Query) (x : RExpr) → (kind_flow messages queries) (it.Output x) ≡ (kind_types messages queries) (ItemKind-F.Output x)
kind_flow-Output messages queries x = ap ((kind_flow messages queries)) (sym (it.rolls-Output x)) ∙ kind_flow_layer messages queries (ItemKind-F.Output x)

pub kind_flow_at-Output : (messages : List MessageDecl) (queries : List Query) (x : RExpr) (slots : Slots) → (kind_flow messages queries) (it.Output x) slots ≡ (kind_types messages queries) (ItemKind-F.Output x) slots
kind_flow_at-Output messages queries x slots = ap (λ (f : Slots → Slots). f slots) (kind_flow-Output messages queries x)

pub kind_flow-If : (messages : List MessageDecl) (queries : List Query) (branches : List RBranch) (other : List Item) → (kind_flow messages queries) (it.If branches other) ≡ (kind_types messages queries) (ItemKind-F.If (map (branch_flow messages queries) branches) (map (item_types messages queries) other))
kind_flow-If messages queries branches other = ap ((kind_flow messages queries)) (sym (it.rolls-If branches other)) ∙ kind_flow_layer messages queries (ItemKind-F.If branches other)

pub kind_flow_at-If : (messages : List MessageDecl) (queries : List Query) (branches : List RBranch) (other : List Item) (slots : Slots) → (kind_flow messages queries) (it.If branches other) slots ≡ (kind_types messages queries) (ItemKind-F.If (map (branch_flow messages queries) branches) (map (item_types messages queries) other)) slots
kind_flow_at-If messages queries branches other slots = ap (λ (f : Slots → Slots). f slots) (kind_flow-If messages queries branches other)

pub kind_flow-While : (messages : List MessageDecl) (queries : List Query) (x : RExpr) (body : List Item) → (kind_flow messages queries) (it.While x body) ≡ (kind_types messages queries) (ItemKind-F.While x (map (item_types messages queries) body))
kind_flow-While messages queries x body = ap ((kind_flow messages queries)) (sym (it.rolls-While x body)) ∙ kind_flow_layer messages queries (ItemKind-F.While x body)

pub kind_flow_at-While : (messages : List MessageDecl) (queries : List Query) (x : RExpr) (body : List Item) (slots : Slots) → (kind_flow messages queries) (it.While x body) slots ≡ (kind_types messages queries) (ItemKind-F.While x (map (item_types messages queries) body)) slots
kind_flow_at-While messages queries x body slots = ap (λ (f : Slots → Slots). f slots) (kind_flow-While messages queries x body)

pub kind_flow-For : (messages : List MessageDecl) (queries : List Query) (slot : ℕ) (x : RExpr) (body : List Item) → (kind_flow messages queries) (it.For slot x body) ≡ (kind_types messages queries) (ItemKind-F.For slot x (map (item_types messages queries) body))
kind_flow-For messages queries slot x body = ap ((kind_flow messages queries)) (sym (it.rolls-For slot x body)) ∙ kind_flow_layer messages queries (ItemKind-F.For slot x body)

pub kind_flow_at-For : (messages : List MessageDecl) (queries : List Query) (slot : ℕ) (x : RExpr) (body : List Item) (slots : Slots) → (kind_flow messages queries) (it.For slot x body) slots ≡ (kind_types messages queries) (ItemKind-F.For slot x (map (item_types messages queries) body)) slots
kind_flow_at-For messages queries slot x body slots = ap (λ (f : Slots → Slots). f slots) (kind_flow-For messages queries slot x body)

pub kind_flow-Call : (messages : List MessageDecl) (queries : List Query) (args : List BindArg) (body : List Item) → (kind_flow messages queries) (it.Call args body) ≡ (kind_types messages queries) (ItemKind-F.Call args (map (item_types messages queries) body))
kind_flow-Call messages queries args body = ap ((kind_flow messages queries)) (sym (it.rolls-Call args body)) ∙ kind_flow_layer messages queries (ItemKind-F.Call args body)

pub kind_flow_at-Call : (messages : List MessageDecl) (queries : List Query) (args : List BindArg) (body : List Item) (slots : Slots) → (kind_flow messages queries) (it.Call args body) slots ≡ (kind_types messages queries) (ItemKind-F.Call args (map (item_types messages queries) body)) slots
kind_flow_at-Call messages queries args body slots = ap (λ (f : Slots → Slots). f slots) (kind_flow-Call messages queries args body)

pub kind_flow-Await : (messages : List MessageDecl) (queries : List Query) (alts : List Alt) (timeout : Option (List Item)) (label : Option ℕ) → (kind_flow messages queries) (it.Await alts timeout label) ≡ (kind_types messages queries) (ItemKind-F.Await (map (alt_flow messages queries) alts) (option_map (map (item_types messages queries)) timeout) label)
kind_flow-Await messages queries alts None label = ap ((kind_flow messages queries)) (sym (it.rolls-Await alts None label)) ∙ kind_flow_layer messages queries (ItemKind-F.Await alts None label)
kind_flow-Await messages queries alts (Some body) label = ap ((kind_flow messages queries)) (sym (it.rolls-Await alts (Some body) label)) ∙ kind_flow_layer messages queries (ItemKind-F.Await alts (Some body) label)

pub kind_flow_at-Await : (messages : List MessageDecl) (queries : List Query) (alts : List Alt) (timeout : Option (List Item)) (label : Option ℕ) (slots : Slots) → (kind_flow messages queries) (it.Await alts timeout label) slots ≡ (kind_types messages queries) (ItemKind-F.Await (map (alt_flow messages queries) alts) (option_map (map (item_types messages queries)) timeout) label) slots
kind_flow_at-Await messages queries alts timeout label slots = ap (λ (f : Slots → Slots). f slots) (kind_flow-Await messages queries alts timeout label)

pub kind_flow-Label : (messages : List MessageDecl) (queries : List Query) (l : ℕ) → (kind_flow messages queries) (it.Label l) ≡ (kind_types messages queries) (ItemKind-F.Label l)
kind_flow-Label messages queries l = ap ((kind_flow messages queries)) (sym (it.rolls-Label l)) ∙ kind_flow_layer messages queries (ItemKind-F.Label l)

pub kind_flow_at-Label : (messages : List MessageDecl) (queries : List Query) (l : ℕ) (slots : Slots) → (kind_flow messages queries) (it.Label l) slots ≡ (kind_types messages queries) (ItemKind-F.Label l) slots
kind_flow_at-Label messages queries l slots = ap (λ (f : Slots → Slots). f slots) (kind_flow-Label messages queries l)

pub kind_flow-Pass : (messages : List MessageDecl) (queries : List Query) → (kind_flow messages queries) it.Pass ≡ (kind_types messages queries) ItemKind-F.Pass
kind_flow-Pass messages queries = ap ((kind_flow messages queries)) (sym it.rolls-Pass) ∙ kind_flow_layer messages queries ItemKind-F.Pass

pub kind_flow_at-Pass : (messages : List MessageDecl) (queries : List Query) (slots : Slots) → (kind_flow messages queries) it.Pass slots ≡ (kind_types messages queries) ItemKind-F.Pass slots
kind_flow_at-Pass messages queries slots = ap (λ (f : Slots → Slots). f slots) (kind_flow-Pass messages queries)

pub alt_flow-of : (messages : List MessageDecl) (queries : List Query) (cond_ : Cond) (found_ : Option ℕ) (binds_ : List ℕ) (body_ : List Item) (line_ : ℕ) → (alt_flow messages queries) (roll-Alt (record { cond = cond_; found = found_; binds = binds_; body = body_; line = line_ })) ≡ (alt_types messages queries) (record { cond = cond_; found = found_; binds = binds_; body = (map (item_types messages queries) body_); line = line_ })
unfolding kind_flow alt_flow item_types branch_flow
alt_flow-of messages queries cond_ found_ binds_ body_ line_ = fold-roll-Alt (Slots → Slots) (Slots → Slots) (Slots → Slots) (Slots → Slots) (kind_types messages queries) (alt_types messages queries) (item_types_step messages queries) (branch_types messages queries) (record { cond = cond_; found = found_; binds = binds_; body = body_; line = line_ })

pub alt_flow_at-of : (messages : List MessageDecl) (queries : List Query) (cond_ : Cond) (found_ : Option ℕ) (binds_ : List ℕ) (body_ : List Item) (line_ : ℕ) (slots : Slots) → (alt_flow messages queries) (roll-Alt (record { cond = cond_; found = found_; binds = binds_; body = body_; line = line_ })) slots ≡ (alt_types messages queries) (record { cond = cond_; found = found_; binds = binds_; body = (map (item_types messages queries) body_); line = line_ }) slots
alt_flow_at-of messages queries cond_ found_ binds_ body_ line_ slots = ap (λ (f : Slots → Slots). f slots) (alt_flow-of messages queries cond_ found_ binds_ body_ line_)

pub item_types-of : (messages : List MessageDecl) (queries : List Query) (line_ : ℕ) (kind_ : ItemKind) → (item_types messages queries) (roll-Item (record { line = line_; kind = kind_ })) ≡ (item_types_step messages queries) (record { line = line_; kind = ((kind_flow messages queries) kind_) })
unfolding kind_flow alt_flow item_types branch_flow
item_types-of messages queries line_ kind_ = fold-roll-Item (Slots → Slots) (Slots → Slots) (Slots → Slots) (Slots → Slots) (kind_types messages queries) (alt_types messages queries) (item_types_step messages queries) (branch_types messages queries) (record { line = line_; kind = kind_ })

pub item_types_at-of : (messages : List MessageDecl) (queries : List Query) (line_ : ℕ) (kind_ : ItemKind) (slots : Slots) → (item_types messages queries) (roll-Item (record { line = line_; kind = kind_ })) slots ≡ (item_types_step messages queries) (record { line = line_; kind = ((kind_flow messages queries) kind_) }) slots
item_types_at-of messages queries line_ kind_ slots = ap (λ (f : Slots → Slots). f slots) (item_types-of messages queries line_ kind_)

pub branch_flow-of : (messages : List MessageDecl) (queries : List Query) (cond_ : RExpr) (found_ : Option ℕ) (binds_ : List ℕ) (body_ : List Item) (line_ : ℕ) → (branch_flow messages queries) (roll-RBranch (record { cond = cond_; found = found_; binds = binds_; body = body_; line = line_ })) ≡ (branch_types messages queries) (record { cond = cond_; found = found_; binds = binds_; body = (map (item_types messages queries) body_); line = line_ })
unfolding kind_flow alt_flow item_types branch_flow
branch_flow-of messages queries cond_ found_ binds_ body_ line_ = fold-roll-RBranch (Slots → Slots) (Slots → Slots) (Slots → Slots) (Slots → Slots) (kind_types messages queries) (alt_types messages queries) (item_types_step messages queries) (branch_types messages queries) (record { cond = cond_; found = found_; binds = binds_; body = body_; line = line_ })

pub branch_flow_at-of : (messages : List MessageDecl) (queries : List Query) (cond_ : RExpr) (found_ : Option ℕ) (binds_ : List ℕ) (body_ : List Item) (line_ : ℕ) (slots : Slots) → (branch_flow messages queries) (roll-RBranch (record { cond = cond_; found = found_; binds = binds_; body = body_; line = line_ })) slots ≡ (branch_types messages queries) (record { cond = cond_; found = found_; binds = binds_; body = (map (item_types messages queries) body_); line = line_ }) slots
branch_flow_at-of messages queries cond_ found_ binds_ body_ line_ slots = ap (λ (f : Slots → Slots). f slots) (branch_flow-of messages queries cond_ found_ binds_ body_ line_)

pub ruleset flowing = (kind_flow-Assign, kind_flow_at-Assign, kind_flow-Add, kind_flow_at-Add, kind_flow-Del, kind_flow_at-Del, kind_flow-Send, kind_flow_at-Send, kind_flow-Output, kind_flow_at-Output, kind_flow-If, kind_flow_at-If, kind_flow-While, kind_flow_at-While, kind_flow-For, kind_flow_at-For, kind_flow-Call, kind_flow_at-Call, kind_flow-Await, kind_flow_at-Await, kind_flow-Label, kind_flow_at-Label, kind_flow-Pass, kind_flow_at-Pass, alt_flow-of, alt_flow_at-of, item_types-of, item_types_at-of, branch_flow-of, branch_flow_at-of)

kind_broken_layer : (messages : List MessageDecl) (queries : List Query) (slots : Slots) (x : ItemKind-F ItemKind Alt Item RBranch) → (kind_broken messages queries slots) (roll-ItemKind x) ≡ (kind_breaks messages queries slots) (map-ItemKind ItemKind Alt Item RBranch Breaks (List ℕ) (List ℕ) (List ℕ) (kind_broken messages queries slots) (alt_broken messages queries slots) (item_breaks messages queries slots) (branch_broken messages queries slots) x)
unfolding kind_broken alt_broken item_breaks branch_broken
kind_broken_layer messages queries slots x = fold-roll-ItemKind Breaks (List ℕ) (List ℕ) (List ℕ) (kind_breaks messages queries slots) (alt_breaks messages queries slots) (item_breaks_step messages queries slots) (branch_breaks messages queries slots) x

pub kind_broken-Assign : (messages : List MessageDecl) (queries : List Query) (slots : Slots) (slot : ℕ) (x : RExpr) → (kind_broken messages queries slots) (it.Assign slot x) ≡ (kind_breaks messages queries slots) (ItemKind-F.Assign slot x)
kind_broken-Assign messages queries slots slot x = ap ((kind_broken messages queries slots)) (sym (it.rolls-Assign slot x)) ∙ kind_broken_layer messages queries slots (ItemKind-F.Assign slot x)

pub kind_broken-Add : (messages : List MessageDecl) (queries : List Query) (slots : Slots) (slot : ℕ) (x : RExpr) → (kind_broken messages queries slots) (it.Add slot x) ≡ (kind_breaks messages queries slots) (ItemKind-F.Add slot x)
kind_broken-Add messages queries slots slot x = ap ((kind_broken messages queries slots)) (sym (it.rolls-Add slot x)) ∙ kind_broken_layer messages queries slots (ItemKind-F.Add slot x)

pub kind_broken-Del : (messages : List MessageDecl) (queries : List Query) (slots : Slots) (slot : ℕ) (x : RExpr) → (kind_broken messages queries slots) (it.Del slot x) ≡ (kind_breaks messages queries slots) (ItemKind-F.Del slot x)
kind_broken-Del messages queries slots slot x = ap ((kind_broken messages queries slots)) (sym (it.rolls-Del slot x)) ∙ kind_broken_layer messages queries slots (ItemKind-F.Del slot x)

pub kind_broken-Send : (messages : List MessageDecl) (queries : List Query) (slots : Slots) (x : RExpr) (to : RExpr) → (kind_broken messages queries slots) (it.Send x to) ≡ (kind_breaks messages queries slots) (ItemKind-F.Send x to)
kind_broken-Send messages queries slots x to = ap ((kind_broken messages queries slots)) (sym (it.rolls-Send x to)) ∙ kind_broken_layer messages queries slots (ItemKind-F.Send x to)

pub kind_broken-Output : (messages : List MessageDecl) (queries : List Query) (slots : Slots) (x : RExpr) → (kind_broken messages queries slots) (it.Output x) ≡ (kind_breaks messages queries slots) (ItemKind-F.Output x)
kind_broken-Output messages queries slots x = ap ((kind_broken messages queries slots)) (sym (it.rolls-Output x)) ∙ kind_broken_layer messages queries slots (ItemKind-F.Output x)

pub kind_broken-If : (messages : List MessageDecl) (queries : List Query) (slots : Slots) (branches : List RBranch) (other : List Item) → (kind_broken messages queries slots) (it.If branches other) ≡ (kind_breaks messages queries slots) (ItemKind-F.If (map (branch_broken messages queries slots) branches) (map (item_breaks messages queries slots) other))
kind_broken-If messages queries slots branches other = ap ((kind_broken messages queries slots)) (sym (it.rolls-If branches other)) ∙ kind_broken_layer messages queries slots (ItemKind-F.If branches other)

pub kind_broken-While : (messages : List MessageDecl) (queries : List Query) (slots : Slots) (x : RExpr) (body : List Item) → (kind_broken messages queries slots) (it.While x body) ≡ (kind_breaks messages queries slots) (ItemKind-F.While x (map (item_breaks messages queries slots) body))
kind_broken-While messages queries slots x body = ap ((kind_broken messages queries slots)) (sym (it.rolls-While x body)) ∙ kind_broken_layer messages queries slots (ItemKind-F.While x body)

pub kind_broken-For : (messages : List MessageDecl) (queries : List Query) (slots : Slots) (slot : ℕ) (x : RExpr) (body : List Item) → (kind_broken messages queries slots) (it.For slot x body) ≡ (kind_breaks messages queries slots) (ItemKind-F.For slot x (map (item_breaks messages queries slots) body))
kind_broken-For messages queries slots slot x body = ap ((kind_broken messages queries slots)) (sym (it.rolls-For slot x body)) ∙ kind_broken_layer messages queries slots (ItemKind-F.For slot x body)

pub kind_broken-Call : (messages : List MessageDecl) (queries : List Query) (slots : Slots) (args : List BindArg) (body : List Item) → (kind_broken messages queries slots) (it.Call args body) ≡ (kind_breaks messages queries slots) (ItemKind-F.Call args (map (item_breaks messages queries slots) body))
kind_broken-Call messages queries slots args body = ap ((kind_broken messages queries slots)) (sym (it.rolls-Call args body)) ∙ kind_broken_layer messages queries slots (ItemKind-F.Call args body)

pub kind_broken-Await : (messages : List MessageDecl) (queries : List Query) (slots : Slots) (alts : List Alt) (timeout : Option (List Item)) (label : Option ℕ) → (kind_broken messages queries slots) (it.Await alts timeout label) ≡ (kind_breaks messages queries slots) (ItemKind-F.Await (map (alt_broken messages queries slots) alts) (option_map (map (item_breaks messages queries slots)) timeout) label)
kind_broken-Await messages queries slots alts None label = ap ((kind_broken messages queries slots)) (sym (it.rolls-Await alts None label)) ∙ kind_broken_layer messages queries slots (ItemKind-F.Await alts None label)
kind_broken-Await messages queries slots alts (Some body) label = ap ((kind_broken messages queries slots)) (sym (it.rolls-Await alts (Some body) label)) ∙ kind_broken_layer messages queries slots (ItemKind-F.Await alts (Some body) label)

pub kind_broken-Label : (messages : List MessageDecl) (queries : List Query) (slots : Slots) (l : ℕ) → (kind_broken messages queries slots) (it.Label l) ≡ (kind_breaks messages queries slots) (ItemKind-F.Label l)
kind_broken-Label messages queries slots l = ap ((kind_broken messages queries slots)) (sym (it.rolls-Label l)) ∙ kind_broken_layer messages queries slots (ItemKind-F.Label l)

pub kind_broken-Pass : (messages : List MessageDecl) (queries : List Query) (slots : Slots) → (kind_broken messages queries slots) it.Pass ≡ (kind_breaks messages queries slots) ItemKind-F.Pass
kind_broken-Pass messages queries slots = ap ((kind_broken messages queries slots)) (sym it.rolls-Pass) ∙ kind_broken_layer messages queries slots ItemKind-F.Pass

pub alt_broken-of : (messages : List MessageDecl) (queries : List Query) (slots : Slots) (cond_ : Cond) (found_ : Option ℕ) (binds_ : List ℕ) (body_ : List Item) (line_ : ℕ) → (alt_broken messages queries slots) (roll-Alt (record { cond = cond_; found = found_; binds = binds_; body = body_; line = line_ })) ≡ (alt_breaks messages queries slots) (record { cond = cond_; found = found_; binds = binds_; body = (map (item_breaks messages queries slots) body_); line = line_ })
unfolding kind_broken alt_broken item_breaks branch_broken
alt_broken-of messages queries slots cond_ found_ binds_ body_ line_ = fold-roll-Alt Breaks (List ℕ) (List ℕ) (List ℕ) (kind_breaks messages queries slots) (alt_breaks messages queries slots) (item_breaks_step messages queries slots) (branch_breaks messages queries slots) (record { cond = cond_; found = found_; binds = binds_; body = body_; line = line_ })

pub item_breaks-of : (messages : List MessageDecl) (queries : List Query) (slots : Slots) (line_ : ℕ) (kind_ : ItemKind) → (item_breaks messages queries slots) (roll-Item (record { line = line_; kind = kind_ })) ≡ (item_breaks_step messages queries slots) (record { line = line_; kind = ((kind_broken messages queries slots) kind_) })
unfolding kind_broken alt_broken item_breaks branch_broken
item_breaks-of messages queries slots line_ kind_ = fold-roll-Item Breaks (List ℕ) (List ℕ) (List ℕ) (kind_breaks messages queries slots) (alt_breaks messages queries slots) (item_breaks_step messages queries slots) (branch_breaks messages queries slots) (record { line = line_; kind = kind_ })

pub branch_broken-of : (messages : List MessageDecl) (queries : List Query) (slots : Slots) (cond_ : RExpr) (found_ : Option ℕ) (binds_ : List ℕ) (body_ : List Item) (line_ : ℕ) → (branch_broken messages queries slots) (roll-RBranch (record { cond = cond_; found = found_; binds = binds_; body = body_; line = line_ })) ≡ (branch_breaks messages queries slots) (record { cond = cond_; found = found_; binds = binds_; body = (map (item_breaks messages queries slots) body_); line = line_ })
unfolding kind_broken alt_broken item_breaks branch_broken
branch_broken-of messages queries slots cond_ found_ binds_ body_ line_ = fold-roll-RBranch Breaks (List ℕ) (List ℕ) (List ℕ) (kind_breaks messages queries slots) (alt_breaks messages queries slots) (item_breaks_step messages queries slots) (branch_breaks messages queries slots) (record { cond = cond_; found = found_; binds = binds_; body = body_; line = line_ })

pub ruleset breaking = (kind_broken-Assign, kind_broken-Add, kind_broken-Del, kind_broken-Send, kind_broken-Output, kind_broken-If, kind_broken-While, kind_broken-For, kind_broken-Call, kind_broken-Await, kind_broken-Label, kind_broken-Pass, alt_broken-of, item_breaks-of, branch_broken-of)

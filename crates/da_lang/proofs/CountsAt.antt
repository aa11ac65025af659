-- The numbers of statements and of blocks within blocks, one layer at a time.
use Rattle.std.specs.Prelude.{ℕ, List, map, Option, Some, None, option_map, unwrap_or}
use Rattle.std.proofs.Common.{◌≡◌, ◌∙◌, ap, sym}
use Rattle.da_lang.specs.declared.program.Alt.{Alt, roll-Alt}
use Rattle.da_lang.specs.declared.program.BindArg.{BindArg}
use Rattle.da_lang.specs.declared.program.Item.{Item, roll-Item}
use Rattle.da_lang.specs.declared.program.ItemKind.{ItemKind, roll-ItemKind}
use Rattle.da_lang.specs.declared.program.ItemKind.TheVariants as it
use Rattle.da_lang.specs.declared.program.ItemKind.TheOpen.{ItemKind-F}
use Rattle.da_lang.specs.declared.program.ItemKind.TheFolds.{map-ItemKind, fold-roll-ItemKind, fold-roll-Alt, fold-roll-Item, fold-roll-RBranch}
use Rattle.da_lang.specs.declared.program.RBranch.{RBranch, roll-RBranch}
use Rattle.da_lang.specs.declared.program.RExpr.{RExpr}
use Rattle.da_lang.specs.declared.query.Cond.{Cond}
use Rattle.da_lang.specs.Limits.{kind_counted, alt_counted, item_count, branch_counted, kind_depth_of, alt_depth_of, item_depth, branch_depth_of, kind_count, alt_count, item_count_step, branch_count, kind_depth, alt_depth, item_depth_step, branch_depth}

kind_counted_layer : (x : ItemKind-F ItemKind Alt Item RBranch) → kind_counted (roll-ItemKind x) ≡ kind_count (map-ItemKind ItemKind Alt Item RBranch ℕ ℕ ℕ ℕ kind_counted alt_counted item_count branch_counted x)
unfolding kind_counted alt_counted item_count branch_counted
kind_counted_layer x = fold-roll-ItemKind ℕ ℕ ℕ ℕ kind_count alt_count item_count_step branch_count x

pub kind_counted-Assign : (slot : ℕ) (x : RExpr) → kind_counted (it.Assign slot x) ≡ kind_count (ItemKind-F.Assign slot x)
kind_counted-Assign slot x = ap (kind_counted) (sym (it.rolls-Assign slot x)) ∙ kind_counted_layer (ItemKind-F.Assign slot x)

pub kind_counted-Add : (slot : ℕ) (x : RExpr) → kind_counted (it.Add slot x) ≡ kind_count (ItemKind-F.Add slot x)
kind_counted-Add slot x = ap (kind_counted) (sym (it.rolls-Add slot x)) ∙ kind_counted_layer (ItemKind-F.Add slot x)

pub kind_counted-Del : (slot : ℕ) (x : RExpr) → kind_counted (it.Del slot x) ≡ kind_count (ItemKind-F.Del slot x)
kind_counted-Del slot x = ap (kind_counted) (sym (it.rolls-Del slot x)) ∙ kind_counted_layer (ItemKind-F.Del slot x)

pub kind_counted-Send : (x : RExpr) (to : RExpr) → kind_counted (it.Send x to) ≡ kind_count (ItemKind-F.Send x to)
kind_counted-Send x to = ap (kind_counted) (sym (it.rolls-Send x to)) ∙ kind_counted_layer (ItemKind-F.Send x to)

pub kind_counted-Output : (x : RExpr) → kind_counted (it.Output x) ≡ kind_count (ItemKind-F.Output x)
kind_counted-Output x = ap (kind_counted) (sym (it.rolls-Output x)) ∙ kind_counted_layer (ItemKind-F.Output x)

pub kind_counted-If : (branches : List RBranch) (other : List Item) → kind_counted (it.If branches other) ≡ kind_count (ItemKind-F.If (map branch_counted branches) (map item_count other))
kind_counted-If branches other = ap (kind_counted) (sym (it.rolls-If branches other)) ∙ kind_counted_layer (ItemKind-F.If branches other)

pub kind_counted-While : (x : RExpr) (body : List Item) → kind_counted (it.While x body) ≡ kind_count (ItemKind-F.While x (map item_count body))
kind_counted-While x body = ap (kind_counted) (sym (it.rolls-While x body)) ∙ kind_counted_layer (ItemKind-F.While x body)

pub kind_counted-For : (slot : ℕ) (x : RExpr) (body : List Item) → kind_counted (it.For slot x body) ≡ kind_count (ItemKind-F.For slot x (map item_count body))
kind_counted-For slot x body = ap (kind_counted) (sym (it.rolls-For slot x body)) ∙ kind_counted_layer (ItemKind-F.For slot x body)

pub kind_counted-Call : (args : List BindArg) (body : List Item) → kind_counted (it.Call args body) ≡ kind_count (ItemKind-F.Call args (map item_count body))
kind_counted-Call args body = ap (kind_counted) (sym (it.rolls-Call args body)) ∙ kind_counted_layer (ItemKind-F.Call args body)

pub kind_counted-Await : (alts : List Alt) (timeout : Option (List Item)) (label : Option ℕ) → kind_counted (it.Await alts timeout label) ≡ kind_count (ItemKind-F.Await (map alt_counted alts) (option_map (map item_count) timeout) label)
kind_counted-Await alts None label = ap (kind_counted) (sym (it.rolls-Await alts None label)) ∙ kind_counted_layer (ItemKind-F.Await alts None label)
kind_counted-Await alts (Some body) label = ap (kind_counted) (sym (it.rolls-Await alts (Some body) label)) ∙ kind_counted_layer (ItemKind-F.Await alts (Some body) label)

pub kind_counted-Label : (l : ℕ) → kind_counted (it.Label l) ≡ kind_count (ItemKind-F.Label l)
kind_counted-Label l = ap (kind_counted) (sym (it.rolls-Label l)) ∙ kind_counted_layer (ItemKind-F.Label l)

pub kind_counted-Pass : kind_counted it.Pass ≡ kind_count ItemKind-F.Pass
kind_counted-Pass = ap (kind_counted) (sym it.rolls-Pass) ∙ kind_counted_layer ItemKind-F.Pass

pub alt_counted-of : (cond_ : Cond) (found_ : Option ℕ) (binds_ : List ℕ) (body_ : List Item) (line_ : ℕ) → alt_counted (roll-Alt (record { cond = cond_; found = found_; binds = binds_; body = body_; line = line_ })) ≡ alt_count (record { cond = cond_; found = found_; binds = binds_; body = (map item_count body_); line = line_ })
unfolding kind_counted alt_counted item_count branch_counted
alt_counted-of cond_ found_ binds_ body_ line_ = fold-roll-Alt ℕ ℕ ℕ ℕ kind_count alt_count item_count_step branch_count (record { cond = cond_; found = found_; binds = binds_; body = body_; line = line_ })

pub item_count-of : (line_ : ℕ) (kind_ : ItemKind) → item_count (roll-Item (record { line = line_; kind = kind_ })) ≡ item_count_step (record { line = line_; kind = (kind_counted kind_) })
unfolding kind_counted alt_counted item_count branch_counted
item_count-of line_ kind_ = fold-roll-Item ℕ ℕ ℕ ℕ kind_count alt_count item_count_step branch_count (record { line = line_; kind = kind_ })

pub branch_counted-of : (cond_ : RExpr) (found_ : Option ℕ) (binds_ : List ℕ) (body_ : List Item) (line_ : ℕ) → branch_counted (roll-RBranch (record { cond = cond_; found = found_; binds = binds_; body = body_; line = line_ })) ≡ branch_count (record { cond = cond_; found = found_; binds = binds_; body = (map item_count body_); line = line_ })
unfolding kind_counted alt_counted item_count branch_counted
branch_counted-of cond_ found_ binds_ body_ line_ = fold-roll-RBranch ℕ ℕ ℕ ℕ kind_count alt_count item_count_step branch_count (record { cond = cond_; found = found_; binds = binds_; body = body_; line = line_ })

pub ruleset counting = (kind_counted-Assign, kind_counted-Add, kind_counted-Del, kind_counted-Send, kind_counted-Output, kind_counted-If, kind_counted-While, kind_counted-For, kind_counted-Call, kind_counted-Await, kind_counted-Label, kind_counted-Pass, alt_counted-of, item_count-of, branch_counted-of)

kind_depth_of_layer : (x : ItemKind-F ItemKind Alt Item RBranch) → kind_depth_of (roll-ItemKind x) ≡ kind_depth (map-ItemKind ItemKind Alt Item RBranch ℕ ℕ ℕ ℕ kind_depth_of alt_depth_of item_depth branch_depth_of x)
unfolding kind_depth_of alt_depth_of item_depth branch_depth_of
kind_depth_of_layer x = fold-roll-ItemKind ℕ ℕ ℕ ℕ kind_depth alt_depth item_depth_step branch_depth x

pub kind_depth_of-Assign : (slot : ℕ) (x : RExpr) → kind_depth_of (it.Assign slot x) ≡ kind_depth (ItemKind-F.Assign slot x)
kind_depth_of-Assign slot x = ap (kind_depth_of) (sym (it.rolls-Assign slot x)) ∙ kind_depth_of_layer (ItemKind-F.Assign slot x)

pub kind_depth_of-Add : (slot : ℕ) (x : RExpr) → kind_depth_of (it.Add slot x) ≡ kind_depth (ItemKind-F.Add slot x)
kind_depth_of-Add slot x = ap (kind_depth_of) (sym (it.rolls-Add slot x)) ∙ kind_depth_of_layer (ItemKind-F.Add slot x)

pub kind_depth_of-Del : (slot : ℕ) (x : RExpr) → kind_depth_of (it.Del slot x) ≡ kind_depth (ItemKind-F.Del slot x)
kind_depth_of-Del slot x = ap (kind_depth_of) (sym (it.rolls-Del slot x)) ∙ kind_depth_of_layer (ItemKind-F.Del slot x)

pub kind_depth_of-Send : (x : RExpr) (to : RExpr) → kind_depth_of (it.Send x to) ≡ kind_depth (ItemKind-F.Send x to)
kind_depth_of-Send x to = ap (kind_depth_of) (sym (it.rolls-Send x to)) ∙ kind_depth_of_layer (ItemKind-F.Send x to)

pub kind_depth_of-Output : (x : RExpr) → kind_depth_of (it.Output x) ≡ kind_depth (ItemKind-F.Output x)
kind_depth_of-Output x = ap (kind_depth_of) (sym (it.rolls-Output x)) ∙ kind_depth_of_layer (ItemKind-F.Output x)

pub kind_depth_of-If : (branches : List RBranch) (other : List Item) → kind_depth_of (it.If branches other) ≡ kind_depth (ItemKind-F.If (map branch_depth_of branches) (map item_depth other))
kind_depth_of-If branches other = ap (kind_depth_of) (sym (it.rolls-If branches other)) ∙ kind_depth_of_layer (ItemKind-F.If branches other)

pub kind_depth_of-While : (x : RExpr) (body : List Item) → kind_depth_of (it.While x body) ≡ kind_depth (ItemKind-F.While x (map item_depth body))
kind_depth_of-While x body = ap (kind_depth_of) (sym (it.rolls-While x body)) ∙ kind_depth_of_layer (ItemKind-F.While x body)

pub kind_depth_of-For : (slot : ℕ) (x : RExpr) (body : List Item) → kind_depth_of (it.For slot x body) ≡ kind_depth (ItemKind-F.For slot x (map item_depth body))
kind_depth_of-For slot x body = ap (kind_depth_of) (sym (it.rolls-For slot x body)) ∙ kind_depth_of_layer (ItemKind-F.For slot x body)

pub kind_depth_of-Call : (args : List BindArg) (body : List Item) → kind_depth_of (it.Call args body) ≡ kind_depth (ItemKind-F.Call args (map item_depth body))
kind_depth_of-Call args body = ap (kind_depth_of) (sym (it.rolls-Call args body)) ∙ kind_depth_of_layer (ItemKind-F.Call args body)

pub kind_depth_of-Await : (alts : List Alt) (timeout : Option (List Item)) (label : Option ℕ) → kind_depth_of (it.Await alts timeout label) ≡ kind_depth (ItemKind-F.Await (map alt_depth_of alts) (option_map (map item_depth) timeout) label)
kind_depth_of-Await alts None label = ap (kind_depth_of) (sym (it.rolls-Await alts None label)) ∙ kind_depth_of_layer (ItemKind-F.Await alts None label)
kind_depth_of-Await alts (Some body) label = ap (kind_depth_of) (sym (it.rolls-Await alts (Some body) label)) ∙ kind_depth_of_layer (ItemKind-F.Await alts (Some body) label)

pub kind_depth_of-Label : (l : ℕ) → kind_depth_of (it.Label l) ≡ kind_depth (ItemKind-F.Label l)
kind_depth_of-Label l = ap (kind_depth_of) (sym (it.rolls-Label l)) ∙ kind_depth_of_layer (ItemKind-F.Label l)

pub kind_depth_of-Pass : kind_depth_of it.Pass ≡ kind_depth ItemKind-F.Pass
kind_depth_of-Pass = ap (kind_depth_of) (sym it.rolls-Pass) ∙ kind_depth_of_layer ItemKind-F.Pass

pub alt_depth_of-of : (cond_ : Cond) (found_ : Option ℕ) (binds_ : List ℕ) (body_ : List Item) (line_ : ℕ) → alt_depth_of (roll-Alt (record { cond = cond_; found = found_; binds = binds_; body = body_; line = line_ })) ≡ alt_depth (record { cond = cond_; found = found_; binds = binds_; body = (map item_depth body_); line = line_ })
unfolding kind_depth_of alt_depth_of item_depth branch_depth_of
alt_depth_of-of cond_ found_ binds_ body_ line_ = fold-roll-Alt ℕ ℕ ℕ ℕ kind_depth alt_depth item_depth_step branch_depth (record { cond = cond_; found = found_; binds = binds_; body = body_; line = line_ })

pub item_depth-of : (line_ : ℕ) (kind_ : ItemKind) → item_depth (roll-Item (record { line = line_; kind = kind_ })) ≡ item_depth_step (record { line = line_; kind = (kind_depth_of kind_) })
unfolding kind_depth_of alt_depth_of item_depth branch_depth_of
item_depth-of line_ kind_ = fold-roll-Item ℕ ℕ ℕ ℕ kind_depth alt_depth item_depth_step branch_depth (record { line = line_; kind = kind_ })

pub branch_depth_of-of : (cond_ : RExpr) (found_ : Option ℕ) (binds_ : List ℕ) (body_ : List Item) (line_ : ℕ) → branch_depth_of (roll-RBranch (record { cond = cond_; found = found_; binds = binds_; body = body_; line = line_ })) ≡ branch_depth (record { cond = cond_; found = found_; binds = binds_; body = (map item_depth body_); line = line_ })
unfolding kind_depth_of alt_depth_of item_depth branch_depth_of
branch_depth_of-of cond_ found_ binds_ body_ line_ = fold-roll-RBranch ℕ ℕ ℕ ℕ kind_depth alt_depth item_depth_step branch_depth (record { cond = cond_; found = found_; binds = binds_; body = body_; line = line_ })

pub ruleset measuring_depth = (kind_depth_of-Assign, kind_depth_of-Add, kind_depth_of-Del, kind_depth_of-Send, kind_depth_of-Output, kind_depth_of-If, kind_depth_of-While, kind_depth_of-For, kind_depth_of-Call, kind_depth_of-Await, kind_depth_of-Label, kind_depth_of-Pass, alt_depth_of-of, item_depth-of, branch_depth_of-of)

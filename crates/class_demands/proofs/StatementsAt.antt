-- What statements demand, one layer at a time.
use Rattle.std.specs.Prelude.{◌≡◌, ℕ, List, map, Option, Some, None, option_map}
use Rattle.std.proofs.Common.{◌∙◌, ap, sym}
use Rattle.da_lang.specs.declared.program.Alt.{Alt, roll-Alt}
use Rattle.da_lang.specs.declared.program.BindArg.{BindArg}
use Rattle.da_lang.specs.declared.program.Item.{Item, roll-Item}
use Rattle.da_lang.specs.declared.program.ItemKind.{ItemKind, roll-ItemKind}
use Rattle.da_lang.specs.declared.program.ItemKind.TheVariants as it
use Rattle.da_lang.specs.declared.program.ItemKind.TheOpen.{ItemKind-F}
use Rattle.da_lang.specs.declared.program.ItemKind.TheFolds.{map-ItemKind, fold-roll-ItemKind, fold-roll-Alt, fold-roll-Item, fold-roll-RBranch}
use Rattle.da_lang.specs.declared.program.RBranch.{RBranch, roll-RBranch}
use Rattle.da_lang.specs.declared.program.RExpr.{RExpr}
use Rattle.da_lang.specs.declared.query.Cond.{Cond}
use Rattle.da_lang.specs.declared.query.Query.{Query}
use Rattle.type_demands.specs.declared.demand.LineDemand.{LineDemand}
use Rattle.type_demands.specs.Syms.{Context}
use Rattle.class_demands.specs.Statements.{KindDemands, kind_demands_step, alt_demands_step, item_demands_step, branch_demands_step, item_demands, kind_demands, alt_demands, branch_demands}

module _ (context : Context) (queries : List Query) where
  abbrev kind : ItemKind → KindDemands
  kind = kind_demands context queries

  abbrev item : Item → List LineDemand
  item = item_demands context queries

  abbrev alt : Alt → List LineDemand
  alt = alt_demands context queries

  abbrev branch : RBranch → List LineDemand
  branch = branch_demands context queries

  layer : (x : ItemKind-F ItemKind Alt Item RBranch) → kind (roll-ItemKind x) ≡ kind_demands_step context queries (map-ItemKind ItemKind Alt Item RBranch KindDemands (List LineDemand) (List LineDemand) (List LineDemand) kind alt item branch x)
  unfolding kind_demands alt_demands item_demands branch_demands
  layer x = fold-roll-ItemKind KindDemands (List LineDemand) (List LineDemand) (List LineDemand) (kind_demands_step context queries) (alt_demands_step context queries) (item_demands_step context queries) (branch_demands_step context queries) x

  pub asks-Assign : (slot : ℕ) (x : RExpr) → kind (it.Assign slot x) ≡ kind_demands_step context queries (ItemKind-F.Assign slot x)
  asks-Assign slot x = ap kind (sym (it.rolls-Assign slot x)) ∙ layer (ItemKind-F.Assign slot x)

  pub asks-Add : (slot : ℕ) (x : RExpr) → kind (it.Add slot x) ≡ kind_demands_step context queries (ItemKind-F.Add slot x)
  asks-Add slot x = ap kind (sym (it.rolls-Add slot x)) ∙ layer (ItemKind-F.Add slot x)

  pub asks-Del : (slot : ℕ) (x : RExpr) → kind (it.Del slot x) ≡ kind_demands_step context queries (ItemKind-F.Del slot x)
  asks-Del slot x = ap kind (sym (it.rolls-Del slot x)) ∙ layer (ItemKind-F.Del slot x)

  pub asks-Send : (x to : RExpr) → kind (it.Send x to) ≡ kind_demands_step context queries (ItemKind-F.Send x to)
  asks-Send x to = ap kind (sym (it.rolls-Send x to)) ∙ layer (ItemKind-F.Send x to)

  pub asks-Output : (x : RExpr) → kind (it.Output x) ≡ kind_demands_step context queries (ItemKind-F.Output x)
  asks-Output x = ap kind (sym (it.rolls-Output x)) ∙ layer (ItemKind-F.Output x)

  pub asks-If : (branches : List RBranch) (other : List Item) → kind (it.If branches other) ≡ kind_demands_step context queries (ItemKind-F.If (map branch branches) (map item other))
  asks-If branches other = ap kind (sym (it.rolls-If branches other)) ∙ layer (ItemKind-F.If branches other)

  pub asks-While : (x : RExpr) (body : List Item) → kind (it.While x body) ≡ kind_demands_step context queries (ItemKind-F.While x (map item body))
  asks-While x body = ap kind (sym (it.rolls-While x body)) ∙ layer (ItemKind-F.While x body)

  pub asks-For : (slot : ℕ) (x : RExpr) (body : List Item) → kind (it.For slot x body) ≡ kind_demands_step context queries (ItemKind-F.For slot x (map item body))
  asks-For slot x body = ap kind (sym (it.rolls-For slot x body)) ∙ layer (ItemKind-F.For slot x body)

  pub asks-Call : (args : List BindArg) (body : List Item) → kind (it.Call args body) ≡ kind_demands_step context queries (ItemKind-F.Call args (map item body))
  asks-Call args body = ap kind (sym (it.rolls-Call args body)) ∙ layer (ItemKind-F.Call args body)

  pub asks-Label : (l : ℕ) → kind (it.Label l) ≡ kind_demands_step context queries (ItemKind-F.Label l)
  asks-Label l = ap kind (sym (it.rolls-Label l)) ∙ layer (ItemKind-F.Label l)

  pub asks-Pass : kind it.Pass ≡ kind_demands_step context queries ItemKind-F.Pass
  asks-Pass = ap kind (sym it.rolls-Pass) ∙ layer ItemKind-F.Pass

  pub asks-Await : (alts : List Alt) (timeout : Option (List Item)) (label : Option ℕ) → kind (it.Await alts timeout label) ≡ kind_demands_step context queries (ItemKind-F.Await (map alt alts) (option_map (map item) timeout) label)
  asks-Await alts None label = ap kind (sym (it.rolls-Await alts None label)) ∙ layer (ItemKind-F.Await alts None label)
  asks-Await alts (Some body) label = ap kind (sym (it.rolls-Await alts (Some body) label)) ∙ layer (ItemKind-F.Await alts (Some body) label)

  pub item_asks-of : (line : ℕ) (k : ItemKind) → item (roll-Item (record { line = line; kind = k })) ≡ item_demands_step context queries (record { line = line; kind = kind k })
  unfolding kind_demands alt_demands item_demands branch_demands
  item_asks-of line k = fold-roll-Item KindDemands (List LineDemand) (List LineDemand) (List LineDemand) (kind_demands_step context queries) (alt_demands_step context queries) (item_demands_step context queries) (branch_demands_step context queries) (record { line = line; kind = k })

  pub alt_asks-of : (cond : Cond) (found : Option ℕ) (binds : List ℕ) (body : List Item) (line : ℕ) → alt (roll-Alt (record { cond = cond; found = found; binds = binds; body = body; line = line })) ≡ alt_demands_step context queries (record { cond = cond; found = found; binds = binds; body = map item body; line = line })
  unfolding kind_demands alt_demands item_demands branch_demands
  alt_asks-of cond found binds body line = fold-roll-Alt KindDemands (List LineDemand) (List LineDemand) (List LineDemand) (kind_demands_step context queries) (alt_demands_step context queries) (item_demands_step context queries) (branch_demands_step context queries) (record { cond = cond; found = found; binds = binds; body = body; line = line })

  pub branch_asks-of : (cond : RExpr) (found : Option ℕ) (binds : List ℕ) (body : List Item) (line : ℕ) → branch (roll-RBranch (record { cond = cond; found = found; binds = binds; body = body; line = line })) ≡ branch_demands_step context queries (record { cond = cond; found = found; binds = binds; body = map item body; line = line })
  unfolding kind_demands alt_demands item_demands branch_demands
  branch_asks-of cond found binds body line = fold-roll-RBranch KindDemands (List LineDemand) (List LineDemand) (List LineDemand) (kind_demands_step context queries) (alt_demands_step context queries) (item_demands_step context queries) (branch_demands_step context queries) (record { cond = cond; found = found; binds = binds; body = body; line = line })

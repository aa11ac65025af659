-- What statements demand, each on its line.
use Rattle.std.specs.Prelude.{ℕ, List, [], ◌∷◌, ◌++◌, flat_map, Option, Some, None, unwrap_or}
use Rattle.da_lang.specs.declared.program.Alt.{Alt}
use Rattle.da_lang.specs.declared.program.BindArg.{BindArg}
use Rattle.da_lang.specs.declared.program.Handler.{Handler}
use Rattle.da_lang.specs.declared.program.Item.{Item}
use Rattle.da_lang.specs.declared.program.ItemKind.{ItemKind}
use Rattle.da_lang.specs.declared.program.ItemKind.TheFolds.{fold-Item, fold-ItemKind, fold-Alt, fold-RBranch}
use Rattle.da_lang.specs.declared.program.ItemKind.TheOpen.{ItemKind-F, Alt-F, Item-F, RBranch-F}
use Rattle.da_lang.specs.declared.program.RBranch.{RBranch}
use Rattle.da_lang.specs.declared.program.RExpr.{RExpr, out-RExpr}
use Rattle.da_lang.specs.declared.query.Query.{Query}
use Rattle.da_lang.specs.Typing.{message_tag}
use Rattle.da_lang.specs.World.{at_number}
use Rattle.type_table.specs.declared.scheme.Scheme.{Scheme}
use Rattle.type_table.specs.declared.scheme.Scheme.TheVariants as s
use Rattle.type_demands.specs.declared.demand.Demand.{Demand}
use Rattle.type_demands.specs.declared.demand.Demand.TheVariants as d
use Rattle.type_demands.specs.declared.demand.LineDemand.{LineDemand}
use Rattle.type_demands.specs.Conds.{cond_sym, query_rows}
use Rattle.type_demands.specs.Demands.{at_line}
use Rattle.type_demands.specs.Exprs.{ExprSym, expr_sym, is_one}
use Rattle.type_demands.specs.Syms.{Sym, Context, flat_sym, same_as}
use Rattle.type_demands.specs.Terms.{RowSym, row_then, no_row, message_sym, pattern_sym}

-- the row of a numbered `some`, and that of a handler: its message is over a declared message, its sender over processes
abbrev pub found_rows : Context → Option Query → RowSym
found_rows context None = no_row []
found_rows context (Some query) = query_rows context query

abbrev pub handler_rows : Context → Handler → RowSym
handler_rows context h = row_then (message_sym context h.message []) (pattern_sym context h.from s.Proc)

-- an expression fits what is found; fits its elements; is one of its elements
abbrev pub fits_sym : Sym → ExprSym → List Demand
fits_sym x y = x.demands ++ y.fits x.scheme

abbrev pub fits_element : Sym → ExprSym → List Demand
fits_element x y = x.demands ++ y.fits (s.Element x.scheme)

abbrev pub is_element : Sym → ExprSym → List Demand
is_element x y = x.demands ++ same_as (s.Element x.scheme) y.itself

-- what is found has the type of the elements of an expression
abbrev pub takes_elements : Sym → ExprSym → List Demand
takes_elements x y = y.itself.demands ++ same_as (s.Element y.itself.scheme) x

-- a message fits the declaration of its tag
abbrev pub fits_message : Context → Option (List ℕ) → ExprSym → List Demand
fits_message context None x = d.Never ∷ []
fits_message context (Some tag) x = fits_sym (flat_sym (context.message tag)) x

-- what a statement itself demands, and what its blocks demand
pub record KindDemands : Type 0 where
  pub rule : List Demand
  pub blocks : List LineDemand

abbrev pub all : List (List LineDemand) → List LineDemand
all parts = flat_map (λ part. part) parts

abbrev pub asks : List Demand → List (List LineDemand) → KindDemands
asks rule blocks = record { rule = rule; blocks = all blocks }

module _ (context : Context) (queries : List Query) where
  abbrev pub sym_of : RExpr → ExprSym
  sym_of = expr_sym context queries

  abbrev pub fits_slot : ℕ → RExpr → List Demand
  fits_slot slot x = fits_sym (context.slot slot) (sym_of x)

  abbrev pub fits_params : List BindArg → List Demand
  fits_params args = flat_map (λ a. fits_slot a.slot a.value) args

  abbrev pub sends : RExpr → RExpr → List Demand
  sends x to = fits_message context (message_tag (out-RExpr x)) (sym_of x) ++ is_one d.Receives (sym_of to)

  -- slots have the types of a row, one each
  abbrev pub have_types : List ℕ → List Scheme → List Demand
  have_types [] [] = []
  have_types [] (x ∷ xs) = d.Never ∷ []
  have_types (b ∷ bs) [] = d.Never ∷ []
  have_types (b ∷ bs) (x ∷ xs) = same_as x (context.slot b) ++ have_types bs xs

  abbrev pub have_row : List ℕ → RowSym → List Demand
  have_row binds rows = rows.demands ++ have_types binds rows.row

  abbrev pub have_found : Option ℕ → List ℕ → List Demand
  have_found None binds = []
  have_found (Some query) binds = have_row binds (found_rows context (at_number queries query))

  abbrev pub kind_demands_step : ItemKind-F KindDemands (List LineDemand) (List LineDemand) (List LineDemand) → KindDemands
  kind_demands_step (ItemKind-F.Assign slot x) = asks (fits_slot slot x) []
  kind_demands_step (ItemKind-F.Add slot x) = asks (fits_element (context.slot slot) (sym_of x)) []
  kind_demands_step (ItemKind-F.Del slot x) = asks (is_element (context.slot slot) (sym_of x)) []
  kind_demands_step (ItemKind-F.Send x to) = asks (sends x to) []
  kind_demands_step (ItemKind-F.Output x) = asks (sym_of x).itself.demands []
  kind_demands_step (ItemKind-F.If branches other) = asks [] (branches ++ other)
  kind_demands_step (ItemKind-F.While x body) = asks (is_one d.Truth (sym_of x)) body
  kind_demands_step (ItemKind-F.For slot x body) = asks (takes_elements (context.slot slot) (sym_of x)) body
  kind_demands_step (ItemKind-F.Call args body) = asks (fits_params args) body
  kind_demands_step (ItemKind-F.Await alts timeout label) = asks [] (alts ++ unwrap_or timeout [])
  kind_demands_step (ItemKind-F.Label l) = asks [] []
  kind_demands_step ItemKind-F.Pass = asks [] []

  abbrev pub alt_demands_step : Alt-F KindDemands (List LineDemand) (List LineDemand) (List LineDemand) → List LineDemand
  alt_demands_step a = at_line a.line (cond_sym context a.cond [] ++ have_found a.found a.binds) ++ all a.body

  abbrev pub item_demands_step : Item-F KindDemands (List LineDemand) (List LineDemand) (List LineDemand) → List LineDemand
  item_demands_step i = at_line i.line i.kind.rule ++ i.kind.blocks

  abbrev pub branch_demands_step : RBranch-F KindDemands (List LineDemand) (List LineDemand) (List LineDemand) → List LineDemand
  branch_demands_step b = at_line b.line (is_one d.Truth (sym_of b.cond) ++ have_found b.found b.binds) ++ all b.body

  unfoldable pub item_demands : Item → List LineDemand
  item_demands = fold-Item KindDemands (List LineDemand) (List LineDemand) (List LineDemand) kind_demands_step alt_demands_step item_demands_step branch_demands_step

  unfoldable pub kind_demands : ItemKind → KindDemands
  kind_demands = fold-ItemKind KindDemands (List LineDemand) (List LineDemand) (List LineDemand) kind_demands_step alt_demands_step item_demands_step branch_demands_step

  unfoldable pub alt_demands : Alt → List LineDemand
  alt_demands = fold-Alt KindDemands (List LineDemand) (List LineDemand) (List LineDemand) kind_demands_step alt_demands_step item_demands_step branch_demands_step

  unfoldable pub branch_demands : RBranch → List LineDemand
  branch_demands = fold-RBranch KindDemands (List LineDemand) (List LineDemand) (List LineDemand) kind_demands_step alt_demands_step item_demands_step branch_demands_step

  abbrev pub handler_demands : Handler → List LineDemand
  handler_demands h = at_line h.line (have_row h.binds (handler_rows context h)) ++ flat_map item_demands h.body

  -- the arguments of a line of `setup` fit the parameters of the class
  abbrev pub args_fit : List ℕ → List RExpr → List Demand
  args_fit [] args = []
  args_fit (param ∷ params) [] = []
  args_fit (param ∷ params) (x ∷ xs) = fits_slot param x ++ args_fit params xs

-- What expressions outside queries demand.
use Rattle.std.specs.Prelude.{ℕ, suc, if◌then◌else◌, List, [], ◌∷◌, ◌++◌, map, flat_map, length}
use Rattle.da_lang.specs.declared.program.ChainPart.{ChainPart}
use Rattle.da_lang.specs.declared.program.RExpr.{RExpr}
use Rattle.da_lang.specs.declared.program.RExpr.TheFolds.{fold-RExpr, fold-ChainPart}
use Rattle.da_lang.specs.declared.program.RExpr.TheOpen.{RExpr-F, ChainPart-F}
use Rattle.da_lang.specs.declared.query.Query.{Query}
use Rattle.da_lang.specs.declared.tree.ArithOp.{ArithOp}
use Rattle.da_lang.specs.declared.tree.CmpOp.{CmpOp}
use Rattle.da_lang.specs.ExprTypes.{is_for_sets}
use Rattle.da_lang.specs.QueryTypes.{asks_order}
use Rattle.da_lang.specs.World.{at_number}
use Rattle.type_table.specs.declared.scheme.Scheme.{Scheme}
use Rattle.type_table.specs.declared.scheme.Scheme.TheVariants as s
use Rattle.type_demands.specs.declared.demand.Demand.{Demand}
use Rattle.type_demands.specs.declared.demand.Demand.TheVariants as d
use Rattle.type_demands.specs.Syms.{Sym, Context, never, demanding, flat_sym, same_as, tuple_sym, literal_sym}
use Rattle.type_demands.specs.Conds.{asked_sym}

-- an expression by itself, and what it demands in a place that asks for a type
pub record ExprSym : Type 0 where
  pub itself : Sym
  pub fits : Scheme → List Demand

-- an expression that has its type by itself
abbrev pub alone : Sym → ExprSym
alone x = record { itself = flat_sym x; fits = λ asked. same_as asked (flat_sym x) }

-- a type where these demands are met
abbrev pub where_met : List Demand → Scheme → ExprSym
where_met demands scheme = alone (record { demands = demands; scheme = scheme })

abbrev pub is_one : (Scheme → Demand) → ExprSym → List Demand
is_one make x = demanding make x.itself

abbrev pub syms : List ExprSym → List Sym
syms xs = map (λ x. x.itself) xs

-- the parts from a place on fit those of a tuple with so many
abbrev pub parts_ask : ℕ → ℕ → Scheme → List ExprSym → List Demand
parts_ask at count asked [] = []
parts_ask at count asked (x ∷ xs) = x.fits (s.Part asked at count) ++ parts_ask (suc at) count asked xs

abbrev pub tuple_asks : List ExprSym → ExprSym
tuple_asks xs = record {
  itself = flat_sym (tuple_sym (syms xs));
  fits = λ asked. d.Flat asked ∷ d.Width asked (length xs) ∷ parts_ask 0 (length xs) asked xs;
}

-- a set whose elements are of the type of the first
abbrev pub first_set : List ExprSym → Sym
first_set [] = never
first_set (x ∷ xs) = flat_sym (record { demands = x.itself.demands ++ flat_map (λ y. same_as x.itself.scheme y.itself) xs; scheme = s.Set x.itself.scheme })

abbrev pub set_asks : List ExprSym → ExprSym
set_asks xs = record {
  itself = first_set xs;
  fits = λ asked. d.Flat asked ∷ d.Elements asked ∷ flat_map (λ x. x.fits (s.Element asked)) xs;
}

-- the right side of `==` and `!=` fits the type of the left one; other comparisons are of one ordered type
abbrev pub right_asks : CmpOp → Scheme → ExprSym → List Demand
right_asks o left y = if asks_order o then d.Ordered left ∷ same_as left y.itself else y.fits left

-- a further operand of a chain is of the type of the first, which its operation takes
pub record FurtherSym : Type 0 where
  pub op : ArithOp
  pub sym : ExprSym

abbrev pub taken : ArithOp → Scheme → Demand
taken o scheme = if is_for_sets o then d.Adds scheme else d.Int scheme

abbrev pub further_asks : Scheme → FurtherSym → List Demand
further_asks first y = taken y.op first ∷ same_as first y.sym.itself

module _ (context : Context) (queries : List Query) where
  abbrev pub expr_sym_step : RExpr-F ExprSym FurtherSym → ExprSym
  expr_sym_step (RExpr-F.Const value) = alone (literal_sym value)
  expr_sym_step (RExpr-F.Procs processes) = where_met [] (s.Set s.Proc)
  expr_sym_step RExpr-F.Me = where_met [] s.Proc
  expr_sym_step (RExpr-F.Slot slot) = alone (context.slot slot)
  expr_sym_step RExpr-F.Clock = where_met [] s.Int
  expr_sym_step (RExpr-F.Ask query) = alone (asked_sym context (at_number queries query))
  expr_sym_step (RExpr-F.Range x y) = where_met (is_one d.Int x ++ is_one d.Int y) (s.Set s.Int)
  expr_sym_step (RExpr-F.Tuple xs) = tuple_asks xs
  expr_sym_step (RExpr-F.SetOf xs) = set_asks xs
  expr_sym_step (RExpr-F.Or xs) = where_met (flat_map (is_one d.Truth) xs) s.Bool
  expr_sym_step (RExpr-F.And xs) = where_met (flat_map (is_one d.Truth) xs) s.Bool
  expr_sym_step (RExpr-F.Not x) = where_met (is_one d.Truth x) s.Bool
  expr_sym_step (RExpr-F.Cmp o x y) = where_met (x.itself.demands ++ right_asks o x.itself.scheme y) s.Bool
  expr_sym_step (RExpr-F.Member x y) = where_met (y.itself.demands ++ same_as (s.Element y.itself.scheme) x.itself) s.Bool
  expr_sym_step (RExpr-F.Chain x more) = where_met (x.itself.demands ++ flat_map (further_asks x.itself.scheme) more) x.itself.scheme

  abbrev pub further_sym_step : ChainPart-F ExprSym FurtherSym → FurtherSym
  further_sym_step p = record { op = p.op; sym = p.operand }

  unfoldable pub expr_sym : RExpr → ExprSym
  expr_sym = fold-RExpr ExprSym FurtherSym expr_sym_step further_sym_step

  unfoldable pub further_sym : ChainPart → FurtherSym
  further_sym = fold-ChainPart ExprSym FurtherSym expr_sym_step further_sym_step

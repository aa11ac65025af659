-- What lists of expressions demand.
use Rattle.std.specs.Prelude.{ℕ, suc, List, [], ◌∷◌, ◌++◌, map, flat_map}
use Rattle.da_lang.specs.declared.program.ChainPart.{ChainPart, out-ChainPart}
use Rattle.da_lang.specs.declared.program.RExpr.{RExpr}
use Rattle.da_lang.specs.declared.query.Query.{Query}
use Rattle.da_lang.specs.declared.tree.CmpOp.{CmpOp}
use Rattle.type_table.specs.declared.scheme.Scheme.{Scheme}
use Rattle.type_table.specs.declared.scheme.Scheme.TheVariants as s
use Rattle.type_demands.specs.declared.demand.Demand.{Demand}
use Rattle.type_demands.specs.declared.demand.Demand.TheVariants as d
use Rattle.type_demands.specs.Syms.{Sym, Context, demanding, never, flat_sym, same_as}
use Rattle.type_demands.specs.Exprs.{expr_sym, right_asks, taken}

-- a type, where these demands are met
abbrev pub sym_where : List Demand → Scheme → Sym
sym_where demands scheme = record { demands = demands; scheme = scheme }

module _ (context : Context) (queries : List Query) where
  abbrev pub syms_in : List RExpr → List Sym
  syms_in xs = map (λ x. (expr_sym context queries x).itself) xs

  abbrev pub truths_in : List RExpr → List Demand
  truths_in xs = flat_map (λ x. demanding d.Truth (expr_sym context queries x).itself) xs

  abbrev pub sames_in : Scheme → List RExpr → List Demand
  sames_in asked xs = flat_map (λ x. same_as asked (expr_sym context queries x).itself) xs

  -- those after the first
  abbrev pub others_in : Scheme → List RExpr → List Demand
  others_in asked [] = []
  others_in asked (x ∷ xs) = sames_in asked xs

  abbrev pub first_set_in : List RExpr → Sym
  first_set_in [] = never
  first_set_in (x ∷ xs) = flat_sym (record { demands = (expr_sym context queries x).itself.demands ++ sames_in (expr_sym context queries x).itself.scheme xs; scheme = s.Set (expr_sym context queries x).itself.scheme })

  abbrev pub right_in : CmpOp → Scheme → RExpr → List Demand
  right_in o left x = right_asks o left (expr_sym context queries x)

  abbrev pub further_in : Scheme → List ChainPart → List Demand
  further_in first more = flat_map (λ p. taken (out-ChainPart p).op first ∷ same_as first (expr_sym context queries (out-ChainPart p).operand).itself) more

  abbrev pub elements_in : Scheme → List RExpr → List Demand
  elements_in element xs = flat_map (λ x. (expr_sym context queries x).fits element) xs

  abbrev pub parts_in : ℕ → ℕ → Scheme → List RExpr → List Demand
  parts_in at count asked [] = []
  parts_in at count asked (x ∷ xs) = (expr_sym context queries x).fits (s.Part asked at count) ++ parts_in (suc at) count asked xs

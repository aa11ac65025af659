-- What conditions, sides of comparisons, aggregates and queries demand.
use Rattle.std.specs.Prelude.{Bool, true, false, if◌then◌else◌, List, [], ◌∷◌, ◌++◌, flat_map, Option, Some, None, option_map}
use Rattle.da_lang.specs.declared.query.Agg.{Agg}
use Rattle.da_lang.specs.declared.query.AggOp.{AggOp}
use Rattle.da_lang.specs.declared.query.AggOp.TheVariants as agg
use Rattle.da_lang.specs.declared.query.Cond.{Cond}
use Rattle.da_lang.specs.declared.query.Cond.TheFolds.{fold-Cond, fold-Operand, fold-Agg, fold-SignedOperand}
use Rattle.da_lang.specs.declared.query.Cond.TheOpen.{Cond-F, Operand-F, Agg-F, SignedOperand-F}
use Rattle.da_lang.specs.declared.query.Operand.{Operand}
use Rattle.da_lang.specs.declared.query.Query.{Query}
use Rattle.da_lang.specs.declared.query.Query.TheVariants as qu
use Rattle.da_lang.specs.declared.query.RGen.{RGen}
use Rattle.da_lang.specs.declared.query.SignedOperand.{SignedOperand}
use Rattle.da_lang.specs.declared.query.Term.{Term}
use Rattle.da_lang.specs.declared.tree.CmpOp.{CmpOp}
use Rattle.da_lang.specs.QueryTypes.{asks_order}
use Rattle.type_table.specs.declared.scheme.Scheme.{Scheme}
use Rattle.type_table.specs.declared.scheme.Scheme.TheVariants as s
use Rattle.type_demands.specs.declared.demand.Demand.{Demand}
use Rattle.type_demands.specs.declared.demand.Demand.TheVariants as d
use Rattle.type_demands.specs.Syms.{Sym, Context, never, demanding, same_as}
use Rattle.type_demands.specs.Terms.{RowSym, row_sym, row_then, no_row, term_sym, gens_sym}

-- a side of a comparison: its type where the demands are met, and whether it is a `sum`
pub record SideSym : Type 0 where
  pub itself : Sym
  pub sum : Bool

abbrev pub side_sym : Sym → SideSym
side_sym x = record { itself = x; sum = false }

-- an operand of a chain is an integer, and no `sum`
abbrev pub no_sum : Bool → List Demand
no_sum sum = if sum then d.Never ∷ [] else []

abbrev pub operand_asks : SideSym → List Demand
operand_asks x = demanding d.Int x.itself ++ no_sum x.sum

abbrev pub ordered_if : Bool → Scheme → List Demand
ordered_if asked x = if asked then d.Ordered x ∷ [] else []

-- two of one type, ordered but for `==` and `!=`
abbrev pub compared_sides : CmpOp → SideSym → SideSym → List Demand
compared_sides o x y = x.itself.demands ++ y.itself.demands ++ d.Same y.itself.scheme x.itself.scheme ∷ ordered_if (asks_order o) x.itself.scheme

-- conditions, over a row; a missing condition demands nothing
abbrev pub CondSym : Type 0
CondSym = List Scheme → List Demand

abbrev pub SidedSym : Type 0
SidedSym = List Scheme → SideSym

abbrev pub demands_if : Option CondSym → CondSym
demands_if None row = []
demands_if (Some cond) row = cond row

abbrev pub filtered_sym : Option CondSym → List Scheme → RowSym
filtered_sym cond row = row_sym (demands_if cond row) row

abbrev pub rows_sym : Context → List RGen → Option CondSym → List Scheme → RowSym
rows_sym context gens cond row = row_then (gens_sym context gens row) (filtered_sym cond)

-- the value that `min` and `max` give of the empty set
abbrev pub other_sym : Context → Option Term → List Scheme → Sym
other_sym context None row = never
other_sym context (Some x) row = term_sym context x row

abbrev pub extreme_sym : Scheme → Sym → SideSym
extreme_sym x other = side_sym (record { demands = d.Ordered x ∷ same_as x other; scheme = x })

-- an aggregate over a set with elements of this type
abbrev pub agg_over : AggOp → Scheme → Sym → SideSym
agg_over agg.Count x other = side_sym (record { demands = []; scheme = s.Int })
agg_over agg.Sum x other = record { itself = record { demands = d.Int x ∷ []; scheme = s.Int }; sum = true }
agg_over agg.Min x other = extreme_sym x other
agg_over agg.Max x other = extreme_sym x other

-- what comes after demands
abbrev pub behind : List Demand → SideSym → SideSym
behind demands x = record { itself = record { demands = demands ++ x.itself.demands; scheme = x.itself.scheme }; sum = x.sum }

abbrev pub set_sym : Sym → Sym
set_sym x = record { demands = x.demands ++ d.Flat (s.Set x.scheme) ∷ []; scheme = s.Set x.scheme }

abbrev pub agg_found : AggOp → Sym → Sym → SideSym
agg_found o x other = behind (set_sym x).demands (agg_over o x.scheme other)

module _ (context : Context) where
  abbrev pub cond_sym_step : Cond-F CondSym SidedSym SidedSym SidedSym → CondSym
  cond_sym_step (Cond-F.Truth x) row = demanding d.Truth (term_sym context x row)
  cond_sym_step (Cond-F.Cmp o x y) row = compared_sides o (x row) (y row)
  cond_sym_step (Cond-F.Not x) row = x row
  cond_sym_step (Cond-F.And xs) row = flat_map (λ x. x row) xs
  cond_sym_step (Cond-F.Or xs) row = flat_map (λ x. x row) xs
  cond_sym_step (Cond-F.Quant each gens cond) row = (rows_sym context gens cond row).demands

  abbrev pub operand_sym_step : Operand-F CondSym SidedSym SidedSym SidedSym → SidedSym
  operand_sym_step (Operand-F.Term x) row = side_sym (term_sym context x row)
  operand_sym_step (Operand-F.Agg a) row = a row
  operand_sym_step (Operand-F.Chain x more) row = side_sym (record { demands = operand_asks (x row) ++ flat_map (λ y. operand_asks (y row)) more; scheme = s.Int })

  abbrev pub agg_sym_step : Agg-F CondSym SidedSym SidedSym SidedSym → SidedSym
  agg_sym_step a row =
      let rows = rows_sym context a.gens a.cond row in
      behind rows.demands (agg_found a.op (term_sym context a.term rows.row) (other_sym context a.other row))

  abbrev pub signed_sym_step : SignedOperand-F CondSym SidedSym SidedSym SidedSym → SidedSym
  signed_sym_step x row = x.operand row

  unfoldable pub cond_sym : Cond → CondSym
  cond_sym = fold-Cond CondSym SidedSym SidedSym SidedSym cond_sym_step operand_sym_step agg_sym_step signed_sym_step

  unfoldable pub operand_sym : Operand → SidedSym
  operand_sym = fold-Operand CondSym SidedSym SidedSym SidedSym cond_sym_step operand_sym_step agg_sym_step signed_sym_step

  unfoldable pub agg_sym : Agg → SidedSym
  agg_sym = fold-Agg CondSym SidedSym SidedSym SidedSym cond_sym_step operand_sym_step agg_sym_step signed_sym_step

  unfoldable pub signed_sym : SignedOperand → SidedSym
  signed_sym = fold-SignedOperand CondSym SidedSym SidedSym SidedSym cond_sym_step operand_sym_step agg_sym_step signed_sym_step

  -- the rows of generators where a condition holds
  abbrev pub where_sym : List RGen → Option Cond → List Scheme → RowSym
  where_sym gens cond row = rows_sym context gens (option_map cond_sym cond) row

  -- the row of the generators of a `some`
  abbrev pub query_rows : Query → RowSym
  query_rows (qu.Quant each gens cond) = where_sym gens cond []
  query_rows (qu.Comp x gens cond) = no_row []
  query_rows (qu.Agg a) = no_row []

  abbrev pub comp_sym : Term → RowSym → Sym
  comp_sym x rows = let found = set_sym (term_sym context x rows.row) in record { demands = rows.demands ++ found.demands; scheme = found.scheme }

  abbrev pub query_sym : Query → Sym
  query_sym (qu.Quant each gens cond) = record { demands = (where_sym gens cond []).demands; scheme = s.Bool }
  query_sym (qu.Comp x gens cond) = comp_sym x (where_sym gens cond [])
  query_sym (qu.Agg a) = (agg_sym a []).itself

  abbrev pub asked_sym : Option Query → Sym
  asked_sym None = never
  asked_sym (Some query) = query_sym query

-- What calls list: demands of the statement on a line, after those that are there.
use Rattle.std.specs.Prelude.{◌≡◌, List, ◌++◌}
use Rattle.da_lang.specs.declared.program.RExpr.{RExpr}
use Rattle.type_table.specs.declared.scheme.Scheme.{Scheme}
use Rattle.type_demands.specs.declared.demand.Demand.{Demand}
use Rattle.type_demands.specs.declared.demand.LineDemand.{LineDemand}
use Rattle.type_demands.specs.declared.known.Known.{Known}
use Rattle.type_demands.specs.declared.sides.SideScheme.{SideScheme}
use Rattle.type_demands.specs.Demands.{at_line}
use Rattle.type_demands.specs.Syms.{Sym}
use Rattle.type_demands.specs.Terms.{RowSym}
use Rattle.type_demands.specs.Conds.{SideSym}
use Rattle.type_demands.specs.Exprs.{ExprSym, expr_sym}
use Rattle.type_demands.specs.KnownView.{context_of}

abbrev pub Lists : List LineDemand → List LineDemand → Known → List Demand → Type 0
Lists old new known demands = new ≡ old ++ at_line known.line demands

-- and answers what stands for a type, for a row of types, for a side of a comparison
abbrev pub ListsType : List LineDemand → List LineDemand → Known → Sym → Scheme → Type 0
ListsType old new known x scheme = (scheme ≡ x.scheme) × (new ≡ old ++ at_line known.line x.demands)

abbrev pub ListsRow : List LineDemand → List LineDemand → Known → RowSym → List Scheme → Type 0
ListsRow old new known x row = (row ≡ x.row) × (new ≡ old ++ at_line known.line x.demands)

abbrev pub ListsSide : List LineDemand → List LineDemand → Known → SideSym → SideScheme → Type 0
ListsSide old new known x side = (side.scheme ≡ x.itself.scheme) × (side.sum ≡ x.sum) × (new ≡ old ++ at_line known.line x.itself.demands)

-- what an expression demands, by what is known
abbrev pub expr_in : Known → RExpr → ExprSym
expr_in known x = expr_sym (context_of known) known.queries.now x

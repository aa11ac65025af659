-- Expressions whose slots and queries are there.
use Rattle.std.specs.Prelude.{Bool, true, ◌&&◌, is_some}
use Rattle.std.specs.List.{list_all}
use Rattle.da_lang.specs.declared.program.Class.{Class}
use Rattle.da_lang.specs.declared.program.RExpr.{RExpr}
use Rattle.da_lang.specs.declared.program.RExpr.TheOpen as ex
use Rattle.da_lang.specs.declared.program.RExpr.TheOpen.{RExpr-F, ChainPart-F}
use Rattle.da_lang.specs.declared.program.RExpr.TheFolds.{fold-RExpr, fold-ChainPart}
use Rattle.da_lang.specs.declared.program.ChainPart.{ChainPart}
use Rattle.da_lang.specs.QueryTypes.{type_at}
use Rattle.da_lang.specs.World.{at_number}

module _ (class : Class) where
  abbrev pub reads_step : RExpr-F Bool Bool → Bool
  reads_step (ex.Slot s) = is_some (type_at class.slots s)
  reads_step (ex.Ask n) = is_some (at_number class.queries n)
  reads_step (ex.Range a b) = a && b
  reads_step (ex.Tuple es) = list_all (λ e. e) es
  reads_step (ex.SetOf es) = list_all (λ e. e) es
  reads_step (ex.Or es) = list_all (λ e. e) es
  reads_step (ex.And es) = list_all (λ e. e) es
  reads_step (ex.Not e) = e
  reads_step (ex.Cmp o a b) = a && b
  reads_step (ex.Member a b) = a && b
  reads_step (ex.Chain a parts) = a && list_all (λ e. e) parts
  reads_step _ = true

  abbrev pub reads_part_step : ChainPart-F Bool Bool → Bool
  reads_part_step p = p.operand

  -- each slot of the expression has a type in the class, and each query is there
  abbrev pub reads : RExpr → Bool
  reads = fold-RExpr Bool Bool reads_step reads_part_step

  abbrev pub reads_part : ChainPart → Bool
  reads_part = fold-ChainPart Bool Bool reads_step reads_part_step

-- The program in which a type stands for each unknown type.
use Rattle.std.specs.Prelude.{List}
use Rattle.da_lang.specs.declared.program.Program.{Program}
use Rattle.da_lang.specs.declared.ty.Ty.{Ty}
use Rattle.da_lang.specs.Limits.{Resolves}
use Rattle.da_parse.specs.declared.loose.LooseTree.{LooseTree}
use Rattle.added_names.specs.Filled.{filled}
use Rattle.da_infer.specs.Fills.{Fills, open_in, count_in}
use Rattle.da_infer.specs.Unknowns.{AreUnknowns}

pub record IsMarked (l : LooseTree) (p : Program) : Type 0 where
  pub unknowns : List Ty
  pub numbers : AreUnknowns (count_in l) unknowns
  pub fills : Fills l unknowns (filled (open_in l) unknowns)
  pub resolves : Resolves (filled (open_in l) unknowns) p

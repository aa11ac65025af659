-- Classes whose queries and conditions keep the rules of types.
use Rattle.std.specs.Prelude.{◌≡◌, true, [], is_some}
use Rattle.da_values.specs.Sets.{Has}
use Rattle.da_lang.specs.declared.program.Class.{Class}
use Rattle.da_lang.specs.declared.query.Cond.{Cond}
use Rattle.da_lang.specs.declared.query.Query.{Query}
use Rattle.da_lang.specs.QueryTypes.{Known, query_type, cond_holds}
use Rattle.query_plan.specs.Questions.{awaited, class_met}

-- each numbered query has a type, and each condition of an `await` keeps the rules
pub record KeepsTypes (rules : Known) (class : Class) : Type 0 where
  pub queries : (q : Query) → Has class.queries q → is_some (query_type rules q) ≡ true
  pub conds : (b : Cond) → Has (awaited (class_met class)) b → cond_holds rules b [] ≡ true

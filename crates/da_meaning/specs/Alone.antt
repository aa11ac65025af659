-- Expressions with none outside of queries within them: constants, names, and queries.
use Rattle.std.specs.Prelude.{◌≡◌, List}
use Rattle.da_lang.specs.declared.tree.ChainTree.{ChainTree}
use Rattle.da_lang.specs.declared.tree.CmpOp.{CmpOp}
use Rattle.da_lang.specs.declared.tree.Expr.{Expr}
use Rattle.da_lang.specs.declared.tree.Expr.TheVariants as ex

pub record IsAlone (x : Expr) : Type 0 where
  pub no_or : (xs : List Expr) → x ≡ ex.Or xs → ⊥
  pub no_and : (xs : List Expr) → x ≡ ex.And xs → ⊥
  pub no_not : (y : Expr) → x ≡ ex.Not y → ⊥
  pub no_cmp : (op : CmpOp) (y z : Expr) → x ≡ ex.Cmp op y z → ⊥
  pub no_member : (y z : Expr) → x ≡ ex.Member y z → ⊥
  pub no_chain : (y : Expr) (more : List ChainTree) → x ≡ ex.Chain y more → ⊥
  pub no_range : (y z : Expr) → x ≡ ex.Range y z → ⊥
  pub no_tuple : (xs : List Expr) → x ≡ ex.Tuple xs → ⊥
  pub no_set : (xs : List Expr) → x ≡ ex.SetOf xs → ⊥

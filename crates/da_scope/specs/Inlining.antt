-- Function values that copy the bodies of methods.
use Rattle.std.specs.Prelude.{◌≡◌, ℕ, List, Result, IfOk, OnOk}
use Rattle.std.specs.declared.alloc.Global.{Global}
use denote.Bor.{Bor}
use denote.Ref.{MutBor}
use Rattle.da_lang.specs.declared.program.ItemKind.{ItemKind}
use Rattle.da_lang.specs.declared.program.RExpr.{RExpr}
use Rattle.da_lang.specs.declared.tree.ClassTree.{ClassTree}
use Rattle.da_lang.specs.BodyMeaning.{Copy, copies}
use Rattle.da_lang.specs.ExprMeaning.{Tables}
use Rattle.da_scope.specs.declared.home.Home.{Home}
use Rattle.da_values.specs.declared.list.NoMemory.{NoMemory}

-- it copies the bodies of this class, in which at most so many calls are within calls
pub record Copies (c : ClassTree) (most : ℕ)
    (pre : Global → Bor Home → ℕ → Bor (List ℕ) → List RExpr → MutBor Tables → Type 0)
    (post : Global → Bor Home → ℕ → Bor (List ℕ) → List RExpr → MutBor Tables → Result ItemKind NoMemory → MutBor Tables → Type 0) : Type 0 where
  pub callable : (alloc : Global) (home : Bor Home) (name : Bor (List ℕ)) (args : List RExpr) (old : MutBor Tables) → pre alloc home most name args old
  pub kind : (alloc : Global) (home : Bor Home) (name : Bor (List ℕ)) (args : List RExpr) (old new : MutBor Tables) (r : Result ItemKind NoMemory)
      → home.now.class.now ≡ c → post alloc home most name args old r new → IfOk r (λ kind. kind ≡ ((copies most c).call name.now args old.now).0)
  pub tables : (alloc : Global) (home : Bor Home) (name : Bor (List ℕ)) (args : List RExpr) (old new : MutBor Tables) (r : Result ItemKind NoMemory)
      → home.now.class.now ≡ c → post alloc home most name args old r new → OnOk r (new.now ≡ ((copies most c).call name.now args old.now).1)

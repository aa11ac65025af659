-- Function values that read what is one deeper.
use Rattle.std.specs.Prelude.{ℕ, ◌<◌, ◌+◌, List, Result}
use Rattle.std.specs.declared.alloc.Global.{Global}
use denote.Ref.{MutBor}
use Rattle.da_lang.specs.declared.tree.Expr.{Expr}
use Rattle.da_lang.specs.declared.tree.PatternTree.{PatternTree}
use Rattle.da_values.specs.Marks.{Tok}
use Rattle.da_phrases.specs.declared.cursor.Stop.{Stop}
use Rattle.da_phrases.specs.declared.place.Level.{Level}
use Rattle.da_phrases.specs.Reader.{Reads}
use Rattle.da_phrases.specs.Exprs.{at_depth}

pub record Nests (depth : ℕ)
    (pre_expr : Global → MutBor (List Tok) → ℕ → Level → Type 0)
    (post_expr : Global → MutBor (List Tok) → ℕ → Level → Result Expr Stop → MutBor (List Tok) → Type 0)
    (pre_pattern : Global → MutBor (List Tok) → ℕ → Type 0)
    (post_pattern : Global → MutBor (List Tok) → ℕ → Result PatternTree Stop → MutBor (List Tok) → Type 0) : Type 0 where
  pub expr_callable : depth < 32 → (alloc : Global) (old : MutBor (List Tok)) (level : Level) → pre_expr alloc old (depth + 1) level
  pub expr_reads : depth < 32 → (alloc : Global) (old new : MutBor (List Tok)) (level : Level) (r : Result Expr Stop) → post_expr alloc old (depth + 1) level r new → Reads ((at_depth depth).expr level old.now) r new.now
  pub pattern_callable : depth < 32 → (alloc : Global) (old : MutBor (List Tok)) → pre_pattern alloc old (depth + 1)
  pub pattern_reads : depth < 32 → (alloc : Global) (old new : MutBor (List Tok)) (r : Result PatternTree Stop) → post_pattern alloc old (depth + 1) r new → Reads ((at_depth depth).pattern old.now) r new.now

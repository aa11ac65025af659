-- Function values that read the types one deeper.
use Rattle.std.specs.Prelude.{ℕ, ◌<◌, ◌+◌, List, Result}
use Rattle.std.specs.declared.alloc.Global.{Global}
use denote.Ref.{MutBor}
use Rattle.da_lang.specs.declared.ty.Ty.{Ty}
use Rattle.da_values.specs.Marks.{Tok}
use Rattle.da_phrases.specs.declared.cursor.Stop.{Stop}
use Rattle.da_phrases.specs.Reader.{Reads}
use Rattle.da_phrases.specs.Types.{type_below}

pub record HoldsTypes (depth : ℕ) (pre : Global → MutBor (List Tok) → ℕ → Type 0)
    (post : Global → MutBor (List Tok) → ℕ → Result Ty Stop → MutBor (List Tok) → Type 0) : Type 0 where
  pub callable : depth < 32 → (alloc : Global) (old : MutBor (List Tok)) → pre alloc old (depth + 1)
  pub reads : depth < 32 → (alloc : Global) (old new : MutBor (List Tok)) (r : Result Ty Stop) → post alloc old (depth + 1) r new → Reads (type_below depth old.now) r new.now

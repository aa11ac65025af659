-- What a rule knows of its place.
use Rattle.std.specs.Prelude.{ℕ, Bool, if◌then◌else◌, nat_lt, length, Ok, Err}
use Rattle.da_values.specs.declared.token.Mark.{Mark}
use Rattle.da_lang.specs.declared.tree.Expr.{Expr}
use Rattle.da_lang.specs.declared.tree.PatternTree.{PatternTree}
use Rattle.da_phrases.specs.declared.cursor.Stop.TheVariants.{Deep}
use Rattle.da_phrases.specs.declared.place.Level.{Level}
use Rattle.da_phrases.specs.Reader.{Reader, refuse, rest, sees}

-- whether a token may open one thing more, by how many things are open and how many tokens are left from it on
abbrev pub Limit : Type 0
Limit = ℕ → ℕ → Bool

abbrev pub at_most_32 : Limit
at_most_32 depth left = nat_lt depth 32

-- the token opens one thing more, where it may
unfoldable pub opens : (ℕ → Bool) → Reader (Unit {0})
opens may_open = λ i. if may_open (length i) then Ok (tt, rest i) else Err (Deep (length i))

-- a token with this mark, which opens one thing more
unfoldable pub opening : (ℕ → Bool) → Mark → Reader (Unit {0})
opening may_open k = λ i. if sees k i then opens may_open i else refuse i

-- whether one thing more may be opened, and how expressions and patterns inside it are read
pub record Place : Type 0 where
  pub may_open : ℕ → Bool
  pub expr : Level → Reader Expr
  pub pattern : Reader PatternTree

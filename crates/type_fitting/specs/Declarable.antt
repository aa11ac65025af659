-- Types that may be declared where a declaration is added.
use Rattle.std.specs.Prelude.{◌≡◌, ℕ, ◌≤◌, false, List, [], length}
use Rattle.std.specs.List.{All}
use Rattle.da_values.specs.Marks.{Tok}
use Rattle.da_lang.specs.declared.ty.Ty.{Ty}
use Rattle.da_lang.specs.Limits.{wide}
use Rattle.da_lang.specs.Spelling.{IsSpelled}
use Rattle.da_lang.specs.TypeGrammar.{TypeIn}
use Rattle.da_lang.specs.Written.{type_width}

unfoldable pub most_tokens : ℕ
most_tokens = 1024

-- so many tokens or fewer spell the type, and no tuple in it has more parts than the limit
pub record IsDeclarable (x : Ty) : Type 0 where
  pub tokens : List Tok
  pub spelled : All IsSpelled tokens
  pub size : ℕ
  pub spells : TypeIn (λ d t. Unit {0}) size 0 x tokens []
  pub short : length tokens ≤ most_tokens
  pub narrow : wide (type_width x) ≡ false

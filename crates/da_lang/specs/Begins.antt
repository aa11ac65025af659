-- When a list of tokens begins a program.
use Rattle.std.specs.Prelude.{ℕ, ◌<◌, List, ◌++◌, length}
use Rattle.std.specs.List.{All}
use Rattle.da_values.specs.Marks.{Tok}
use Rattle.da_lang.specs.declared.tree.Tree.{Tree}
use Rattle.da_lang.specs.Grammar.{IsTypedProgram, Spells}
use Rattle.da_lang.specs.Spelling.{IsSpelled, Room}

-- some program has these as its first tokens
pub record Begins (front : List Tok) : Type 0 where
  pub rest : List Tok
  pub tree : Tree
  pub spells : Spells tree (front ++ rest)

-- the tokens before the rest open at most so many things at once; of the rest nothing is asked
abbrev pub front_room : ℕ → List Tok → ℕ → Room
front_room most rest d t = length rest < length t → d < most

-- some program has these as its first tokens, and none of them opens more than so many things at once
pub record BeginsWithin (most : ℕ) (front : List Tok) : Type 0 where
  pub rest : List Tok
  pub tree : Tree
  pub spelled : All IsSpelled (front ++ rest)
  pub size : ℕ
  pub within : IsTypedProgram (front_room most rest) size tree (front ++ rest)

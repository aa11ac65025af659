-- Which token is the first at fault, in the words of the grammar.
use Rattle.std.specs.Prelude.{◌≡◌, ℕ, List, [], ◌∷◌, ◌++◌, length}
use Rattle.da_values.specs.Marks.{Tok}
use Rattle.da_lang.specs.declared.tree.Tree.{Tree}
use Rattle.da_lang.specs.Begins.{Begins, BeginsWithin}
use Rattle.da_lang.specs.Grammar.{Spells}
use Rattle.da_parse.specs.declared.whole.ParseFault.{ParseFault}
use Rattle.da_parse.specs.declared.whole.ParseFault.TheVariants as fault
use Rattle.da_parse.specs.Parse.{line_at}

-- no program goes on with the next token, however many things are open; and at the end, these are none
abbrev pub NoneGoesOn : List Tok → List Tok → Type 0
NoneGoesOn front [] = (tree : Tree) → Spells tree front → ⊥
NoneGoesOn front (token ∷ rest) = Begins (front ++ token ∷ []) → ⊥

-- The tokens before one token begin a program and none of them opens more than 32 things, and with that token they begin none;
-- the end of the tokens counts as one. The line is that of this place.
pub record IsSyntax (tokens : List Tok) (line : ℕ) : Type 0 where
  pub front : List Tok
  pub rest : List Tok
  pub whole : tokens ≡ front ++ rest
  pub begins : BeginsWithin 32 front
  pub refused : NoneGoesOn front rest
  pub place : line ≡ line_at tokens (length rest)

-- The tokens up to one token begin a program, in which this token opens one thing more than 32 and none before it does.
pub record IsDeep (tokens : List Tok) (line : ℕ) : Type 0 where
  pub front : List Tok
  pub token : Tok
  pub rest : List Tok
  pub whole : tokens ≡ front ++ token ∷ rest
  pub before : BeginsWithin 32 front
  pub begins : Begins (front ++ token ∷ [])
  pub deep : BeginsWithin 32 (front ++ token ∷ []) → ⊥
  pub place : line ≡ line_at tokens (length (token ∷ rest))

-- a fault, but want of memory, is the first in the text
abbrev pub IsFirst : List Tok → ParseFault → Type 0
IsFirst tokens (fault.Syntax line) = IsSyntax tokens line
IsFirst tokens (fault.Deep line) = IsDeep tokens line
IsFirst tokens fault.Memory = ⊥

-- what parsing may tell
abbrev pub Fault : Type 0
Fault = ParseFault

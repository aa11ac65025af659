-- The programs that the grammar, the names, the limits and the types accept.
use Rattle.std.specs.Prelude.{ℕ, ◌^◌, ◌<◌, List, length}
use Rattle.da_values.specs.Marks.{Tok}
use Rattle.da_lang.specs.declared.program.Program.{Program}
use Rattle.da_lang.specs.declared.tree.Tree.{Tree}
use Rattle.da_lang.specs.Grammar.{Spells}
use Rattle.da_lang.specs.Limits.{Resolves}
use Rattle.da_lang.specs.Typing.{Typed}

-- a tree that some text may have: its tokens can be counted by 32 bits
pub record IsWritten (t : Tree) : Type 0 where
  pub tokens : List Tok
  pub few : length tokens < 2 ^ 32
  pub spells : Spells t tokens

-- the program of such a tree, in which names have their slots
pub record IsResolved (p : Program) : Type 0 where
  pub tree : Tree
  pub written : IsWritten tree
  pub resolves : Resolves tree p

-- the same with its types, where it keeps their rules
pub record IsAccepted (p : Program) : Type 0 where
  pub untyped : Program
  pub resolved : IsResolved untyped
  pub typed : Typed untyped p

-- What the text of a tree tells.
use Rattle.std.specs.Prelude.{◌≡◌, ℕ, List, Ok}
use Rattle.da_values.specs.declared.token.Token.{Token}
use Rattle.da_values.specs.Marks.{toks}
use Rattle.da_values.specs.Tokens.{tokens}
use Rattle.da_lang.specs.declared.tree.Tree.{Tree}
use Rattle.da_lang.specs.Grammar.{Spells, SpellsWithin}
use Rattle.da_unparse.specs.Unlined.{unlined}

-- the tokens of the text spell the tree, but for the numbers of lines
pub record SpellsAgain (text : List ℕ) (tree : Tree) : Type 0 where
  pub list : List Token
  pub lexed : tokens text ≡ Ok list
  pub other : Tree
  pub same : unlined other ≡ unlined tree
  pub spelled : Spells other (toks text list)

-- the same, and none of them opens more than so many things at once
pub record SpellsAgainWithin (most : ℕ) (text : List ℕ) (tree : Tree) : Type 0 where
  pub list : List Token
  pub lexed : tokens text ≡ Ok list
  pub other : Tree
  pub same : unlined other ≡ unlined tree
  pub spelled : SpellsWithin most other (toks text list)

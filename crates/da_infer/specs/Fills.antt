-- Programs without declarations, with types for what has none.
use Rattle.std.specs.Prelude.{◌≡◌, ℕ, ◌≤◌, true, List, length, map, Ok}
use Rattle.std.specs.List.{All}
use Rattle.da_values.specs.declared.token.Token.{Token}
use Rattle.da_values.specs.Marks.{toks}
use Rattle.da_values.specs.Tokens.{tokens}
use Rattle.da_lang.specs.declared.tree.Tree.{Tree}
use Rattle.da_lang.specs.declared.ty.Ty.{Ty}
use Rattle.da_parse.specs.declared.loose.LooseTree.{LooseTree}
use Rattle.da_parse.specs.declared.loose.OpenParam.{OpenParam}
use Rattle.da_parse.specs.Loose.{loose_of}
use Rattle.da_parse.specs.Parameters.{SpellsWithinBy}
use Rattle.added_names.specs.declared.added.OpenPlace.{OpenPlace}
use Rattle.added_names.specs.Filled.{Loose, filled, type_count}
use Rattle.type_fitting.specs.Declarable.{IsDeclarable}

-- the bytes that the text of a program may have
unfoldable pub most_bytes : ℕ
most_bytes = 1048576

-- the tokens of a text spell such a program, and none of them opens a thing where 32 are open
pub record IsLoose (l : LooseTree) : Type 0 where
  pub text : List ℕ
  pub size : length text ≤ most_bytes
  pub list : List Token
  pub lexed : tokens text ≡ Ok list
  pub tree : Tree
  pub spelled : SpellsWithinBy true 32 tree (toks text list)
  pub made : l ≡ loose_of tree

-- the places of parameters without types
abbrev pub place_of : OpenParam → OpenPlace
place_of x = record { class = x.class; member = x.member; param = x.param }

abbrev pub open_in : LooseTree → Loose
open_in l = record { tree = l.tree; untyped = map place_of l.untyped }

-- how many types it takes
abbrev pub count_in : LooseTree → ℕ
count_in l = type_count (open_in l)

-- the types are one each: first for the parts of added tags, then class by class for its added variables and its open
-- parameters; each of them may be declared, and this is the program with them
pub record Fills (l : LooseTree) (types : List Ty) (t : Tree) : Type 0 where
  pub size : length types ≡ count_in l
  pub each : All IsDeclarable types
  pub is : t ≡ filled (open_in l) types

-- The grammar where a parameter may lack its type, beside the one where each has it, and which token is the first at fault by either.
use Rattle.std.specs.Prelude.{◌≡◌, ℕ, suc, ◌<◌, Bool, true, false, List, [], ◌∷◌, ◌++◌, length}
use Rattle.std.specs.List.{All}
use Rattle.da_values.specs.declared.token.Mark.TheVariants as m
use Rattle.da_values.specs.Marks.{Tok}
use Rattle.da_lang.specs.declared.tree.Param.{Param}
use Rattle.da_lang.specs.declared.tree.Tree.{Tree}
use Rattle.da_lang.specs.declared.ty.Ty.{Ty}
use Rattle.da_lang.specs.Begins.{front_room}
use Rattle.da_lang.specs.Grammar.{IsParam, IsProgram}
use Rattle.da_lang.specs.Spelling.{Spelling, Room, IsSpelled, At, Named}
use Rattle.da_lang.specs.TypeGrammar.{TypeIn}
use Rattle.da_parse.specs.declared.whole.ParseFault.{ParseFault}
use Rattle.da_parse.specs.declared.whole.ParseFault.TheVariants as fault
use Rattle.da_parse.specs.Members.{no_type}
use Rattle.da_parse.specs.Parse.{line_at}

-- NAME [ ":" type ]
pub data IsLooseParam (Type_ : Spelling Ty) : Param → List Tok → List Tok → Type 0 where
  written : {n : List ℕ} {x : Ty} {t r s q : List Tok} → Named n t r → At m.Colon r s → Type_ x s q → IsLooseParam Type_ (record { name = n; ty = x }) t q
  without : {n : List ℕ} {t r : List Tok} → Named n t r → IsLooseParam Type_ (record { name = n; ty = no_type }) t r

-- a parameter, which may lack its type or may not
abbrev pub ParamBy : Bool → Spelling Ty → Spelling Param
ParamBy false Type_ = IsParam Type_
ParamBy true Type_ = IsLooseParam Type_

-- the same after the "(" of a member
abbrev pub ParameterBy : Bool → (ℕ → Room) → ℕ → Spelling Param
ParameterBy loose room f = ParamBy loose (TypeIn room f 2)

-- a program with such parameters
abbrev pub IsProgramBy : Bool → (ℕ → Room) → ℕ → Tree → List Tok → Type 0
IsProgramBy loose room f = IsProgram room f (ParameterBy loose room f)

-- each token is spelled as its mark says, and together they spell the tree
unfoldable pub SpellsBy : Bool → Tree → List Tok → Type 0
SpellsBy loose tree tokens = All IsSpelled tokens × ((f : ℕ) × IsProgramBy loose (λ d t. Unit {0}) f tree tokens)

-- the same, and none of them opens more than so many things at once
unfoldable pub SpellsWithinBy : Bool → ℕ → Tree → List Tok → Type 0
SpellsWithinBy loose most tree tokens = All IsSpelled tokens × IsProgramBy loose (λ d t. d < most) (suc most) tree tokens

-- some program has these as its first tokens
pub record BeginsBy (loose : Bool) (front : List Tok) : Type 0 where
  pub rest : List Tok
  pub tree : Tree
  pub spells : SpellsBy loose tree (front ++ rest)

-- some program has these as its first tokens, and none of them opens more than so many things at once
pub record BeginsWithinBy (loose : Bool) (most : ℕ) (front : List Tok) : Type 0 where
  pub rest : List Tok
  pub tree : Tree
  pub spelled : All IsSpelled (front ++ rest)
  pub size : ℕ
  pub within : IsProgramBy loose (front_room most rest) size tree (front ++ rest)

-- no program goes on with the next token, however many things are open; and at the end, these are none
abbrev pub NoneGoesOnBy : Bool → List Tok → List Tok → Type 0
NoneGoesOnBy loose front [] = (tree : Tree) → SpellsBy loose tree front → ⊥
NoneGoesOnBy loose front (token ∷ rest) = BeginsBy loose (front ++ token ∷ []) → ⊥

-- The tokens before one token begin a program and none of them opens more than 32 things, and with that token they begin none;
-- the end of the tokens counts as one. The line is that of this place.
pub record IsSyntaxBy (loose : Bool) (tokens : List Tok) (line : ℕ) : Type 0 where
  pub front : List Tok
  pub rest : List Tok
  pub whole : tokens ≡ front ++ rest
  pub begins : BeginsWithinBy loose 32 front
  pub refused : NoneGoesOnBy loose front rest
  pub place : line ≡ line_at tokens (length rest)

-- The tokens up to one token begin a program, in which this token opens one thing more than 32 and none before it does.
pub record IsDeepBy (loose : Bool) (tokens : List Tok) (line : ℕ) : Type 0 where
  pub front : List Tok
  pub token : Tok
  pub rest : List Tok
  pub whole : tokens ≡ front ++ token ∷ rest
  pub before : BeginsWithinBy loose 32 front
  pub begins : BeginsBy loose (front ++ token ∷ [])
  pub deep : BeginsWithinBy loose 32 (front ++ token ∷ []) → ⊥
  pub place : line ≡ line_at tokens (length (token ∷ rest))

-- a fault, but want of memory, is the first in the text
abbrev pub IsFirstBy : Bool → List Tok → ParseFault → Type 0
IsFirstBy loose tokens (fault.Syntax line) = IsSyntaxBy loose tokens line
IsFirstBy loose tokens (fault.Deep line) = IsDeepBy loose tokens line
IsFirstBy loose tokens fault.Memory = ⊥

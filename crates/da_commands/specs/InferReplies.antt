-- The replies of `infer`.
use Rattle.std.specs.Prelude.{◌≡◌, ℕ, ◌<◌, ◌≤◌, ◌⊎◌, true, List, [], ◌∷◌, length, codes, Option, Ok}
use Rattle.da_values.specs.declared.token.LexKind.{LexKind}
use Rattle.da_values.specs.declared.token.Token.{Token}
use Rattle.da_values.specs.Marks.{toks}
use Rattle.da_values.specs.Tokens.{tokens}
use Rattle.da_infer.specs.Answers.{HasNoTypes, IsInferred}
use Rattle.da_infer.specs.Answers as infer
use Rattle.da_lang.specs.declared.refusal.LimitKind.{LimitKind}
use Rattle.da_lang.specs.declared.refusal.ScopeKind.{ScopeKind}
use Rattle.da_lang.specs.declared.tree.Tree.{Tree}
use Rattle.da_parse.specs.declared.loose.LooseTree.{LooseTree}
use Rattle.da_parse.specs.declared.whole.ParseFault.{ParseFault}
use Rattle.da_parse.specs.declared.whole.ParseFault.TheVariants as parse
use Rattle.da_parse.specs.Loose.{loose_of}
use Rattle.da_parse.specs.Parameters.{IsFirstBy, SpellsWithinBy}
use Rattle.da_parse.specs.Parse.{IsLineOf}
use Rattle.da_unparse.specs.Programs.{tree_text}
use Rattle.da_front.specs.declared.refusal.ProgramFault.{ProgramFault}
use Rattle.da_front.specs.declared.refusal.ProgramFault.TheVariants as fault
use Rattle.da_front.specs.declared.refusal.RefusedKind.{RefusedKind}
use Rattle.da_front.specs.declared.refusal.RefusedKind.TheVariants as kind_is
use Rattle.da_commands.specs.declared.status.Status.{Status}
use Rattle.da_commands.specs.declared.status.Status.TheVariants.{Done, Memory, Refused}
use Rattle.da_commands.specs.Lines.{refused_text}
use Rattle.da_commands.specs.Told.{Gains, OfTold}
use Rattle.da_front.specs.Verdict.{IsNotCut, kind_after, kind_of_limit, kind_of_name, program_limit}

-- the words ask for the declarations of the program of this name
abbrev pub IsInfer : List (List ℕ) → List ℕ → Type 0
IsInfer words program = words ≡ codes "infer" ∷ program ∷ []

-- THE TEXT

-- by the grammar in which a parameter may lack its type, the tokens of the text spell the tree of which this is made, and none of
-- them opens a thing where 32 are open
pub record HasLoose (text : List ℕ) (l : LooseTree) : Type 0 where
  pub size : length text ≤ program_limit
  pub list : List Token
  pub lexed : tokens text ≡ Ok list
  pub tree : Tree
  pub spelled : SpellsWithinBy true 32 tree (toks text list)
  pub made : l ≡ loose_of tree

-- the text has tokens, and they spell no such tree: this is the first fault in them
pub record HasNoLoose (text : List ℕ) (why : ParseFault) (line : ℕ) : Type 0 where
  pub size : length text ≤ program_limit
  pub list : List Token
  pub lexed : tokens text ≡ Ok list
  pub none : (tree : Tree) → SpellsWithinBy true 32 tree (toks text list) → ⊥
  pub told : IsFirstBy true (toks text list) why
  pub on : IsLineOf text line

-- the text is refused so, at this line, or at 0 where no line is to blame: by its size, its tokens, this grammar, names, limits, and
-- last by types, with the least line up to which none keep the rules
pub data RefusesLoosely (text : List ℕ) : RefusedKind → ℕ → Type 0 where
  too_long : program_limit < length text → RefusesLoosely text kind_is.Size 0
  not_cut : (kind : LexKind) (line : ℕ) → IsNotCut text kind line → RefusesLoosely text (kind_after kind) line
  no_program : (line : ℕ) → HasNoLoose text (parse.Syntax line) line → RefusesLoosely text kind_is.Syntax line
  too_deep : (line : ℕ) → HasNoLoose text (parse.Deep line) line → RefusesLoosely text kind_is.Deep line
  misnamed : (l : LooseTree) (kind : ScopeKind) (line : ℕ) → HasLoose text l → infer.IsMisnamed l kind line → RefusesLoosely text (kind_of_name kind) line
  too_large : (l : LooseTree) (which : LimitKind) (line : ℕ) → HasLoose text l → infer.IsTooLarge l which line → RefusesLoosely text (kind_of_limit which) line
  untypable : (l : LooseTree) (line : ℕ) → HasLoose text l → HasNoTypes l line → RefusesLoosely text kind_is.Infer line

-- a text that gets no declarations is refused so, or memory was refused
abbrev pub IsLooselyRefusedAs : List ℕ → ProgramFault → Type 0
IsLooselyRefusedAs text (fault.Refused kind line) = RefusesLoosely text kind line
IsLooselyRefusedAs text fault.Memory = Unit {0}

-- this is the program of the text, with types for what has none
pub record IsCompleted (text : List ℕ) (tree : Tree) : Type 0 where
  pub loose : LooseTree
  pub has : HasLoose text loose
  pub inferred : IsInferred loose tree

-- THE REPLY

-- the status and the bytes with which `infer` answers a program's text
pub data InferReply (text : List ℕ) : Status → List ℕ → Type 0 where
  declined : (kind : RefusedKind) (line : ℕ) → RefusesLoosely text kind line → InferReply text (Refused kind line) (refused_text kind line)
  completed : (tree : Tree) → IsCompleted text tree → InferReply text Done (tree_text tree)

-- it was answered so, or memory was refused
abbrev pub IsCompletedWhole : Option (List ℕ) → Status → Option (List ℕ) → Option (List ℕ) → Type 0
IsCompletedWhole told status before after = (status ≡ Memory) ⊎ OfTold told (λ text. Gains (InferReply text) status before after)

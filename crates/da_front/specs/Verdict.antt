-- Which program a text gives, and by what a text is refused that gives none.
use Rattle.std.specs.Prelude.{◌≡◌, ℕ, ◌<◌, ◌≤◌, List, [], length, Ok, Err, None, Some}
use Rattle.da_values.specs.declared.token.LexKind.{LexKind}
use Rattle.da_values.specs.declared.token.LexKind.TheVariants as lex
use Rattle.da_values.specs.declared.token.Token.{Token}
use Rattle.da_values.specs.Marks.{toks}
use Rattle.da_values.specs.Tokens.{tokens}
use Rattle.da_lang.specs.declared.program.Program.{Program}
use Rattle.da_lang.specs.declared.refusal.LimitKind.{LimitKind}
use Rattle.da_lang.specs.declared.refusal.LimitKind.TheVariants as limit
use Rattle.da_lang.specs.declared.refusal.ScopeKind.{ScopeKind}
use Rattle.da_lang.specs.declared.refusal.ScopeKind.TheVariants as name
use Rattle.da_lang.specs.declared.tree.Tree.{Tree}
use Rattle.da_lang.specs.Grammar.{SpellsWithin}
use Rattle.da_lang.specs.Limits.{Resolves, limit_fault}
use Rattle.da_lang.specs.NameRules.{name_fault, name_refusals}
use Rattle.da_lang.specs.Typing.{Typed, type_fault}
use Rattle.da_core.specs.PlanLimit.{nodes_fault}
use Rattle.da_parse.specs.declared.whole.ParseFault.{ParseFault}
use Rattle.da_parse.specs.declared.whole.ParseFault.TheVariants as parse
use Rattle.da_parse.specs.FirstFault.{IsFirst}
use Rattle.da_parse.specs.Parse.{IsLineOf}
use Rattle.da_front.specs.declared.refusal.ProgramFault.{ProgramFault}
use Rattle.da_front.specs.declared.refusal.ProgramFault.TheVariants as fault
use Rattle.da_front.specs.declared.refusal.RefusedKind.{RefusedKind}
use Rattle.da_front.specs.declared.refusal.RefusedKind.TheVariants as kind_is

-- the bytes that the text of a program may have
abbrev pub program_limit : ℕ
program_limit = 1048576

-- the tokens of the text spell this tree, and none of them opens a thing where 32 are open
pub record HasTree (text : List ℕ) (tree : Tree) : Type 0 where
  pub size : length text ≤ program_limit
  pub list : List Token
  pub lexed : tokens text ≡ Ok list
  pub spelled : SpellsWithin 32 tree (toks text list)

-- the text has tokens, and they spell no such tree: this is the first fault in them
pub record HasNoTree (text : List ℕ) (why : ParseFault) (line : ℕ) : Type 0 where
  pub size : length text ≤ program_limit
  pub list : List Token
  pub lexed : tokens text ≡ Ok list
  pub none : (tree : Tree) → SpellsWithin 32 tree (toks text list) → ⊥
  pub told : IsFirst (toks text list) why
  pub on : IsLineOf text line

-- the text has a tree, and the tree has this program
pub record HasProgram (text : List ℕ) (program : Program) : Type 0 where
  pub tree : Tree
  pub has : HasTree text tree
  pub resolves : Resolves tree program

-- this is the program of the text with its types, which keeps the rules of types
pub record HasTyped (text : List ℕ) (program : Program) : Type 0 where
  pub resolved : Program
  pub has : HasProgram text resolved
  pub typed : Typed resolved program

-- the text gives this program: it has a tree, the tree has a program, that program keeps the rules of types, and the plan of no
-- class has too many nodes
pub record Accepts (text : List ℕ) (program : Program) : Type 0 where
  pub tree : Tree
  pub has : HasTree text tree
  pub resolved : Program
  pub resolves : Resolves tree resolved
  pub typed : Typed resolved program
  pub planned : nodes_fault program ≡ None

-- the first fault of the text, where it is cut into tokens, is of this kind and on this line
abbrev pub IsNotCut : List ℕ → LexKind → ℕ → Type 0
IsNotCut text kind line = (length text ≤ program_limit) × (tokens text ≡ Err (record { kind = kind; line = line }))

-- the kind of the refusal of a text that is not cut into tokens
abbrev pub kind_after : LexKind → RefusedKind
kind_after lex.BadByte = kind_is.Byte
kind_after lex.BadIndent = kind_is.Indent
kind_after lex.BadToken = kind_is.Token
kind_after lex.Unclosed = kind_is.Unclosed

-- why a text has no tokens, or memory was refused
pub data NotCut (text : List ℕ) : RefusedKind → ℕ → Type 0 where
  overlong : program_limit < length text → NotCut text kind_is.Size 0
  uncut : (kind : LexKind) (line : ℕ) → IsNotCut text kind line → NotCut text (kind_after kind) line

abbrev pub IsNotCutAs : List ℕ → ProgramFault → Type 0
IsNotCutAs text (fault.Refused kind line) = NotCut text kind line
IsNotCutAs text fault.Memory = Unit {0}

-- the tree of the text breaks a rule of names: this is the one that is reported
pub record IsMisnamed (text : List ℕ) (kind : ScopeKind) (line : ℕ) : Type 0 where
  pub tree : Tree
  pub has : HasTree text tree
  pub is : name_fault tree ≡ Some (record { kind = kind; line = line })

-- it breaks no rule of names, and exceeds a limit: this is the one that is reported
pub record IsTooLarge (text : List ℕ) (which : LimitKind) (line : ℕ) : Type 0 where
  pub tree : Tree
  pub has : HasTree text tree
  pub named : name_refusals tree ≡ []
  pub is : limit_fault tree ≡ Some (record { kind = which; line = line })

-- it has a program, and this is the earliest line of it that breaks a rule of types
pub record IsMistyped (text : List ℕ) (line : ℕ) : Type 0 where
  pub tree : Tree
  pub has : HasTree text tree
  pub resolved : Program
  pub resolves : Resolves tree resolved
  pub is : type_fault resolved ≡ Some line

-- it has a program that keeps the rules of types, and this is the earliest line of a class of it whose plan has too many nodes
pub record IsOverplanned (text : List ℕ) (line : ℕ) : Type 0 where
  pub tree : Tree
  pub has : HasTree text tree
  pub resolved : Program
  pub resolves : Resolves tree resolved
  pub program : Program
  pub typed : Typed resolved program
  pub is : nodes_fault program ≡ Some line

-- the kinds of refusal by names and by limits
abbrev pub kind_of_name : ScopeKind → RefusedKind
kind_of_name name.Unknown = kind_is.Unknown
kind_of_name name.Twice = kind_is.Twice
kind_of_name name.Shadow = kind_is.Shadow
kind_of_name name.Recursive = kind_is.Recursive
kind_of_name name.Yield = kind_is.Yield
kind_of_name name.Setup = kind_is.Setup
kind_of_name name.NoRun = kind_is.NoRun
kind_of_name name.Arity = kind_is.Arity

abbrev pub kind_of_limit : LimitKind → RefusedKind
kind_of_limit limit.Classes = kind_is.Classes
kind_of_limit limit.Processes = kind_is.Processes
kind_of_limit limit.Items = kind_is.Items
kind_of_limit limit.Blocks = kind_is.Blocks
kind_of_limit limit.Variables = kind_is.Variables
kind_of_limit limit.Parts = kind_is.Parts
kind_of_limit limit.Generators = kind_is.Generators

-- the text is refused so, at this line, or at 0 where no line is to blame
pub data Refuses (text : List ℕ) : RefusedKind → ℕ → Type 0 where
  too_long : program_limit < length text → Refuses text kind_is.Size 0
  not_cut : (kind : LexKind) (line : ℕ) → IsNotCut text kind line → Refuses text (kind_after kind) line
  no_program : (line : ℕ) → HasNoTree text (parse.Syntax line) line → Refuses text kind_is.Syntax line
  too_deep : (line : ℕ) → HasNoTree text (parse.Deep line) line → Refuses text kind_is.Deep line
  misnamed : (kind : ScopeKind) (line : ℕ) → IsMisnamed text kind line → Refuses text (kind_of_name kind) line
  too_large : (which : LimitKind) (line : ℕ) → IsTooLarge text which line → Refuses text (kind_of_limit which) line
  mistyped : (line : ℕ) → IsMistyped text line → Refuses text kind_is.Types line
  overplanned : (line : ℕ) → IsOverplanned text line → Refuses text kind_is.Nodes line

-- a text that gives no program is refused so, or memory was refused
abbrev pub IsRefusedAs : List ℕ → ProgramFault → Type 0
IsRefusedAs text (fault.Refused kind line) = Refuses text kind line
IsRefusedAs text fault.Memory = Unit {0}

-- the text is refused
pub record IsRefused (text : List ℕ) : Type 0 where
  pub kind : RefusedKind
  pub line : ℕ
  pub refuses : Refuses text kind line

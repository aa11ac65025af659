-- The program of a watch, beside a program of so many processes.
use Rattle.std.specs.Prelude.{◌≡◌, ℕ, ◌+◌, Bool, true, false, not, ◌&&◌, if◌then◌else◌, List, [], ◌∷◌, ◌++◌, Option, Some, None, Ok, bytes_eq, codes, decimal, drop, is_some, length, option_map, slice_get, take}
use Rattle.std.specs.List.{list_all}
use Rattle.da_values.specs.declared.token.Token.{Token}
use Rattle.da_values.specs.Marks.{slice_of}
use Rattle.da_values.specs.Tokens.{tokens}
use Rattle.da_lang.specs.declared.program.Program.{Program}
use Rattle.da_lang.specs.declared.tree.MainLine.{MainLine}
use Rattle.da_lang.specs.declared.tree.MainLine.TheVariants.{New, Setup}
use Rattle.da_lang.specs.declared.tree.Tree.{Tree}
use Rattle.da_front.specs.declared.refusal.ProgramFault.{ProgramFault}
use Rattle.da_front.specs.declared.refusal.ProgramFault.TheVariants as fault
use Rattle.da_front.specs.declared.refusal.RefusedKind.{RefusedKind}
use Rattle.da_front.specs.declared.refusal.RefusedKind.TheVariants as kind_is
use Rattle.da_front.specs.Verdict.{Accepts, HasTree, Refuses}

-- THE MAIN OF A WATCH makes one process, and sets it up or not

abbrev pub is_setup : MainLine → Bool
is_setup (Setup name args line) = true
is_setup (New name class count line) = false

abbrev pub is_one : MainLine → Bool
is_one (New name class count line) = not (is_some count)
is_one (Setup name args line) = false

abbrev pub makes_one : List MainLine → Bool
makes_one [] = false
makes_one (line ∷ others) = is_one line && list_all is_setup others

-- THE TEXT BESIDE so many processes: `, COUNT` stands behind the class that is made, one more than they are. So the watch is the last
-- process, and the others have the numbers that they have in their own program.

abbrev pub is_new : List ℕ → Token → Bool
is_new text token = bytes_eq (slice_of text token) (codes "new")

abbrev pub end_of : Token → ℕ
end_of token = token.first + token.length

abbrev pub second_end : List Token → Option ℕ
second_end tokens = option_map end_of (slice_get tokens 1)

-- the end of the class in the first `new ( CLASS`
abbrev pub class_end : List ℕ → List Token → Option ℕ
class_end text [] = None
class_end text (token ∷ others) = if is_new text token then second_end others else class_end text others

abbrev pub text_with : ℕ → ℕ → List ℕ → List ℕ
text_with count place text = take place text ++ codes ", " ++ decimal (count + 1) ++ drop place text

-- the text has a tree with such a `main`, and is this one beside so many
pub record IsBeside (text : List ℕ) (count : ℕ) (other : List ℕ) : Type 0 where
  pub tree : Tree
  pub has : HasTree text tree
  pub one : makes_one tree.main ≡ true
  pub list : List Token
  pub lexed : tokens text ≡ Ok list
  pub place : ℕ
  pub there : class_end text list ≡ Some place
  pub is : other ≡ text_with count place text

-- which gives this program, of one process more
pub record AcceptsBeside (text : List ℕ) (count : ℕ) (program : Program) : Type 0 where
  pub other : List ℕ
  pub beside : IsBeside text count other
  pub accepts : Accepts other program
  pub more : length program.procs ≡ count + 1

-- WHY A TEXT IS NO WATCH

-- the line of the second process, or of the first where it makes several
abbrev pub line_of_main : MainLine → ℕ
line_of_main (New name class count line) = line
line_of_main (Setup name args line) = line

abbrev pub odd_in : ℕ → List MainLine → ℕ
odd_in first [] = first
odd_in first (line ∷ others) = if is_setup line then odd_in first others else line_of_main line

abbrev pub odd_line : List MainLine → ℕ
odd_line [] = 0
odd_line (line ∷ others) = odd_in (line_of_main line) others

-- the text has a tree, and its `main` is none of a watch
pub record HasOtherMain (text : List ℕ) (line : ℕ) : Type 0 where
  pub tree : Tree
  pub has : HasTree text tree
  pub other : makes_one tree.main ≡ false
  pub line_is : line ≡ odd_line tree.main

-- the text is refused so, at this line: by itself, or its `main` is none of a watch, or beside so many
pub data RefusesBeside (text : List ℕ) (count : ℕ) : RefusedKind → ℕ → Type 0 where
  by_itself : (kind : RefusedKind) (line : ℕ) → Refuses text kind line → RefusesBeside text count kind line
  other_main : (line : ℕ) → HasOtherMain text line → RefusesBeside text count kind_is.Watch line
  beside : (other : List ℕ) (kind : RefusedKind) (line : ℕ) → IsBeside text count other → Refuses other kind line → RefusesBeside text count kind line

abbrev pub IsNoWatchAs : List ℕ → ℕ → ProgramFault → Type 0
IsNoWatchAs text count (fault.Refused kind line) = RefusesBeside text count kind line
IsNoWatchAs text count fault.Memory = Unit {0}

-- What parsing answers.
use Rattle.std.specs.Prelude.{◌≡◌, ℕ, ◌≤◌, Bool, false, max, ◌-◌, List, [], ◌∷◌, length, drop, Result, Ok, Err}
use Rattle.da_values.specs.Marks.{Tok}
use Rattle.da_values.specs.TokenFacts.{line_count}
use Rattle.da_lang.specs.declared.tree.Tree.{Tree}
use Rattle.da_phrases.specs.declared.cursor.Stop.{Stop}
use Rattle.da_phrases.specs.declared.cursor.Stop.TheVariants as stop
use Rattle.da_parse.specs.declared.whole.ParseFault.{ParseFault}
use Rattle.da_parse.specs.declared.whole.ParseFault.TheVariants as fault
use Rattle.da_phrases.specs.Reader.{Reading}
use Rattle.da_parse.specs.Programs.{outermost, program}

abbrev pub line_or_one : List Tok → ℕ
line_or_one [] = 1
line_or_one (t ∷ ts) = t.line

-- the line of the place from which so many tokens are left: that of the token there; at the end that of the last token, or 1
unfoldable pub line_at : List Tok → ℕ → ℕ
line_at tokens left = line_or_one (drop (length tokens - max left 1) tokens)

abbrev pub fault_of : List Tok → Stop → ParseFault
fault_of tokens stop.Memory = fault.Memory
fault_of tokens (stop.Syntax left) = fault.Syntax (line_at tokens left)
fault_of tokens (stop.Deep left) = fault.Deep (line_at tokens left)

abbrev pub answer : List Tok → Reading Tree → Result Tree ParseFault
answer tokens (Ok (tree, rest)) = Ok tree
answer tokens (Err stop) = Err (fault_of tokens stop)

-- the tree that the tokens spell, or the place of the first fault, where parameters may lack their types or may not
unfoldable pub parsed_by : Bool → List Tok → Result Tree ParseFault
parsed_by loose tokens = answer tokens (program (outermost loose) tokens)

-- where each has it
abbrev pub parsed : List Tok → Result Tree ParseFault
parsed = parsed_by false

-- a call answers this, unless memory is refused
abbrev pub Answers : Result Tree ParseFault → Result Tree ParseFault → Type 0
Answers (Ok tree) given = given ≡ Ok tree
Answers (Err fault.Memory) given = Unit {0}
Answers (Err (fault.Syntax line)) given = given ≡ Err (fault.Syntax line)
Answers (Err (fault.Deep line)) given = given ≡ Err (fault.Deep line)

-- a line of the text, counted from 1
abbrev pub IsLineOf : List ℕ → ℕ → Type 0
IsLineOf text line = (1 ≤ line) × (line ≤ line_count text)

-- a fault that has a line names one of the text
abbrev pub NamesLine : List ℕ → ParseFault → Type 0
NamesLine text fault.Memory = Unit {0}
NamesLine text (fault.Syntax line) = IsLineOf text line
NamesLine text (fault.Deep line) = IsLineOf text line

-- How rules read tokens: what a rule looks at, what it asks for, and how it goes on.
use Rattle.std.specs.Prelude.{◌≡◌, ◌≢◌, ℕ, Bool, true, false, List, [], ◌∷◌, length, Option, Some, None, Result, Ok, Err, if◌then◌else◌}
use denote.Enum.Bare.{sameb}
use Rattle.da_values.specs.contracts.token.Mark.{the_type}
use Rattle.da_values.specs.declared.token.Mark.{Mark}
use Rattle.da_values.specs.declared.token.Mark.TheVariants as m
use Rattle.da_values.specs.Marks.{Tok}
use Rattle.da_values.specs.Piece.{number_of}
use Rattle.da_lang.specs.Literals.{text_of}
use Rattle.da_phrases.specs.declared.cursor.Stop.{Stop}
use Rattle.da_phrases.specs.declared.cursor.Stop.TheVariants.{Memory, Syntax}

-- ---- the tokens that are left

-- the mark, the bytes and the line of the next one
abbrev pub mark : List Tok → Option Mark
mark [] = None
mark (t ∷ ts) = Some t.mark

abbrev pub text : List Tok → List ℕ
text [] = []
text (t ∷ ts) = t.text

abbrev pub line : List Tok → ℕ
line [] = 0
line (t ∷ ts) = t.line

-- those after it
abbrev pub rest : List Tok → List Tok
rest [] = []
rest (t ∷ ts) = ts

-- `==` on marks
abbrev pub same : Mark → Mark → Bool
same = sameb the_type

abbrev pub is_mark : Mark → Option Mark → Bool
is_mark k None = false
is_mark k (Some other) = same other k

-- the next token has this mark
unfoldable pub sees : Mark → List Tok → Bool
sees k i = is_mark k (mark i)

-- those that are left where the next one is passed, and where it is not
abbrev pub rest_if : Bool → List Tok → List Tok
rest_if true i = rest i
rest_if false i = i

-- ---- what a rule makes of them

-- a value with the tokens that are left after it, or where the rule stopped
abbrev pub Reading : Type 0 → Type 0
Reading A = Result (A × List Tok) Stop

abbrev pub Reader : Type 0 → Type 0
Reader A = List Tok → Reading A

-- nothing is passed
abbrev pub pure : {A : Type 0} → A → Reader A
pure a = λ i. Ok (a, i)

-- the rule stops at the next token
abbrev pub refusal : List Tok → Stop
refusal i = Syntax (length i)

abbrev pub refuse : {A : Type 0} → Reader A
refuse = λ i. Err (refusal i)

-- ---- a rule that begins with the next token

-- whatever it is it is passed, and its bytes are not needed
abbrev pub past : {A : Type 0} → Reader A → Reader A
past p = λ i. p (rest i)

-- the same with its bytes
abbrev pub taking : {A : Type 0} → (List ℕ → Reader A) → Reader A
taking f = λ i. f (text i) (rest i)

-- a rule for each mark
abbrev pub by_mark : {A : Type 0} → (Option Mark → Reader A) → Reader A
by_mark f = λ i. f (mark i) i

-- a rule that keeps the line
abbrev pub at_line : {A : Type 0} → (ℕ → Reader A) → Reader A
at_line f = λ i. f (line i) i

-- one rule where the token has this mark, and one where it has not
abbrev pub if_next : {A : Type 0} → Mark → Reader A → Reader A → Reader A
if_next k p q = λ i. (if sees k i then p else q) i

-- the same, where the token with this mark is passed: a part that may be missing
abbrev pub after_token : {A : Type 0} → Mark → Reader A → Reader A → Reader A
after_token k p q = λ i. (if sees k i then p else q) (rest_if (sees k i) i)

-- ---- tokens that must stand there

-- a token with this mark
unfoldable pub expect : Mark → Reader (Unit {0})
expect k = λ i. if sees k i then Ok (tt, rest i) else refuse i

-- the same with its bytes
unfoldable pub word : Mark → Reader (List ℕ)
word k = λ i. if sees k i then Ok (text i, rest i) else refuse i

-- passes the next token where it stands for something, and gives that
abbrev pub stands_for : {A : Type 0} → Option A → Reader A
stands_for (Some a) = λ i. Ok (a, rest i)
stands_for None = refuse

-- an integer
unfoldable pub number : Reader ℕ
number = λ i. if sees m.Number i then stands_for (number_of (text i)) i else refuse i

-- a text literal
unfoldable pub quoted : Reader (List ℕ)
quoted = λ i. if sees m.Quoted i then stands_for (text_of (text i)) i else refuse i

-- ---- rules one after the other

-- goes on where the first part ended, if it did not stop
abbrev pub continued : {A B : Type 0} → (A → Reader B) → Reading A → Reading B
continued next (Ok read) = next read.0 read.1
continued next (Err stop) = Err stop

infixl 10 ◌>>=◌
abbrev pub ◌>>=◌ : {A B : Type 0} → Reader A → (A → Reader B) → Reader B
first >>= next = λ i. continued next (first i)

infixl 10 ◌>>◌
abbrev pub ◌>>◌ : {A B : Type 0} → Reader A → Reader B → Reader B
first >> second = first >>= (λ _. second)

-- ---- what a function that reads ensures: it reads as the rule does, unless memory is refused
abbrev pub Reads : {A : Type 0} → Reading A → Result A Stop → List Tok → Type 0
Reads reading (Ok a) new = reading ≡ Ok (a, new)
Reads reading (Err e) new = e ≢ Memory → reading ≡ Err e

-- Value text, read from the front of some bytes.
use Rattle.std.specs.Prelude.{◌≡◌, ◌==◌, ◌||◌, ℕ, ◌^◌, ◌<◌, ◌≤◌, Bool, true, false, IsTrue, FitsSigned, List, [], ◌∷◌, ◌++◌, codes, decimal, length, map}
use Rattle.std.specs.Int.{w128}
use Rattle.std.specs.Fmt.{signed_decimal}
use Rattle.da_values.specs.declared.val.Val.{Val}
use Rattle.da_values.specs.declared.value.Value.{Value}
use Rattle.da_values.specs.declared.value.Value.TheVariants.{Int, Bool as Truth, Proc}
use Rattle.da_values.specs.Nesting.{deepest, nesting}
use Rattle.da_values.specs.Proper.{IsValue, AreValues}
use Rattle.da_values.specs.Text.{value_text, separated}

-- the text of a value nested at most 64 deep
pub record IsTextOf (text : List ℕ) (x : Val) : Type 0 where
  pub value : IsValue x
  pub nested : nesting x ≤ 64
  pub is : text ≡ value_text x

-- a byte that may stand after a value: `,`, `)` or `}`
abbrev pub is_stop : ℕ → Bool
is_stop b = (b == 44) || (b == 41) || (b == 125)

-- nothing follows, or such a byte does
abbrev pub Stops : List ℕ → Type 0
Stops [] = Unit {0}
Stops (b ∷ bs) = IsTrue (is_stop b)

-- the bytes are the text of x, which is nested at most so deep, and the rest
pub record Spells (depth : ℕ) (x : Val) (bytes rest : List ℕ) : Type 0 where
  pub value : IsValue x
  pub nested : nesting x ≤ depth
  pub is : bytes ≡ value_text x ++ rest

-- the bytes are the texts of one value or more, with a comma and a space between, and the rest
pub record SpellsEach (depth : ℕ) (xs : List Val) (bytes rest : List ℕ) : Type 0 where
  pub values : AreValues xs
  pub some : 0 < length xs
  pub nested : deepest (map nesting xs) ≤ depth
  pub is : bytes ≡ separated (map value_text xs) ++ rest

-- what may stand after values that no other one follows
pub record Ends (rest : List ℕ) : Type 0 where
  pub stops : Stops rest
  pub last : (next : List ℕ) → rest ≡ codes ", " ++ next → ⊥

abbrev pub truth_text : Bool → List ℕ
truth_text true = codes "true"
truth_text false = codes "false"

-- the word is the text of this integer, truth value or process
abbrev pub IsWordOf : List ℕ → Value → Type 0
IsWordOf word (Int number) = FitsSigned w128 number × (word ≡ signed_decimal number)
IsWordOf word (Truth b) = word ≡ truth_text b
IsWordOf word (Proc p) = (0 < p) × (p < 2 ^ 16) × (word ≡ codes "p" ++ decimal p)
IsWordOf word _ = ⊥

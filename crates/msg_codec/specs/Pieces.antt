-- What stands at the front of some bytes of a packet.
use Rattle.std.specs.Prelude.{◌≡◌, ◌⊎◌, ℕ, zero, suc, ◌-◌, ◌^◌, ◌<◌, ◌≤◌, IsTrue, FitsSigned, List, [], ◌∷◌, ◌++◌, length, map}
use Rattle.std.specs.Int.{w16, w32, w64, cast_unsigned, to_be_bytes}
use Rattle.std.specs.List.{All, AllByRecursion, list_all}
use Rattle.da_values.specs.declared.val.Val.{Val, out-Val}
use Rattle.da_values.specs.declared.val.Val.TheOpen as layers
use Rattle.da_values.specs.declared.val.Val.TheOpen.{Val-F}
use Rattle.da_values.specs.declared.value.Value.{Value}
use Rattle.da_values.specs.declared.value.Value.TheVariants.{Int, Bool as Truth, Text, Proc, Tuple, Set}
use Rattle.da_values.specs.Narrow.{is_narrow}
use Rattle.da_values.specs.Order.{val_cmp}
use Rattle.da_values.specs.Sets.{Ascends}
use Rattle.da_values.specs.Str.{IsTextByte}
use Rattle.msg_codec.specs.Packets.{has_few_parts, joined, mark, truth_byte, value_bytes}

-- WHAT A PACKET CARRIES

-- a value, where Inside says what may stand in a tuple or a set
abbrev pub CarriesLayer : (List Val → Type 0) → Val-F Val → Type 0
CarriesLayer Inside (layers.Int number) = FitsSigned w64 number
CarriesLayer Inside (layers.Bool truth) = Unit {0}
CarriesLayer Inside (layers.Text text) = All IsTextByte text
CarriesLayer Inside (layers.Proc process) = (0 < process) × (process < 2 ^ 16)
CarriesLayer Inside (layers.Tuple parts) = (length parts ≤ 255) × Inside parts
CarriesLayer Inside (layers.Set elements) = Ascends val_cmp elements × Inside elements

-- a value that is nested at most so deep, by what stands in it
unfoldable pub Carries : ℕ → Val → Type 0
Carries zero v = CarriesLayer (λ inside. ⊥) (out-Val v)
Carries (suc depth) v = CarriesLayer (AllByRecursion (Carries depth)) (out-Val v)

-- a value whose integers and tuples are small enough to be written
abbrev pub HasRoom : Val → Type 0
HasRoom x = IsTrue (is_narrow x) × IsTrue (has_few_parts x)

abbrev pub HaveRoom : List Val → Type 0
HaveRoom xs = IsTrue (list_all is_narrow xs) × IsTrue (list_all has_few_parts xs)

-- AT THE FRONT

-- the bytes of a packet up to its value, and the rest
pub record IsHead (sender clock : ℕ) (bytes rest : List ℕ) : Type 0 where
  pub sender_fits : sender < 2 ^ 16
  pub clock_fits : clock < 2 ^ 63
  pub is : bytes ≡ mark ++ to_be_bytes w16 sender ++ to_be_bytes w64 clock ++ rest

-- the bytes of a value that is nested at most so deep, and the rest
pub record Begins (depth : ℕ) (x : Val) (bytes rest : List ℕ) : Type 0 where
  pub carries : Carries depth x
  pub is : bytes ≡ value_bytes x ++ rest

-- the values that may stand in a tuple or a set which is nested at most so deep
abbrev pub AreInside : ℕ → List Val → Type 0
AreInside depth xs = (0 < depth) × AllByRecursion (Carries (depth - 1)) xs

-- the bytes of so many values, one after the other, and the rest
pub record BeginsEach (depth : ℕ) (count : ℕ) (xs : List Val) (bytes rest : List ℕ) : Type 0 where
  pub carried : AllByRecursion (Carries depth) xs
  pub counted : length xs ≡ count
  pub is : bytes ≡ joined (map value_bytes xs) ++ rest

-- a kept value by its letter and what stands after that
abbrev pub AfterLetter : ℕ → Value → ℕ → List ℕ → List ℕ → Type 0
AfterLetter depth (Int number) letter bytes rest = (letter ≡ 105) × FitsSigned w64 number × (bytes ≡ to_be_bytes w64 (cast_unsigned w64 number) ++ rest)
AfterLetter depth (Truth truth) letter bytes rest = (letter ≡ 98) × (bytes ≡ truth_byte truth ∷ rest)
AfterLetter depth (Text text) letter bytes rest = (letter ≡ 115) × All IsTextByte text × (bytes ≡ to_be_bytes w16 (length text) ++ text ++ rest)
AfterLetter depth (Proc process) letter bytes rest = (letter ≡ 112) × (0 < process) × (process < 2 ^ 16) × (bytes ≡ to_be_bytes w16 process ++ rest)
AfterLetter depth (Tuple parts) letter bytes rest = (letter ≡ 116) × (length parts ≤ 255) × AreInside depth parts × (bytes ≡ length parts ∷ joined (map value_bytes parts) ++ rest)
AfterLetter depth (Set elements) letter bytes rest = (letter ≡ 83) × Ascends val_cmp elements × AreInside depth elements × (bytes ≡ to_be_bytes w32 (length elements) ++ joined (map value_bytes elements) ++ rest)

-- WHERE MEMORY MAY BE WANTED

-- the letter of a text, a tuple or a set
abbrev pub TakesMemory : ℕ → Type 0
TakesMemory letter = (letter ≡ 115) ⊎ (letter ≡ 116) ⊎ (letter ≡ 83)

-- bytes that begin with such a letter
abbrev pub MayHoldMuch : List ℕ → Type 0
MayHoldMuch [] = ⊥
MayHoldMuch (letter ∷ rest) = TakesMemory letter

-- bytes that begin as a packet does, up to such a letter, and are no more than a packet may have
pub record MayWantMemory (bytes : List ℕ) : Type 0 where
  pub sender : ℕ
  pub clock : ℕ
  pub rest : List ℕ
  pub head : IsHead sender clock bytes rest
  pub holds : MayHoldMuch rest
  pub small : length bytes ≤ 60000

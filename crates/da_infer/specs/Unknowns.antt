-- Types that stand for unknown types.
use Rattle.std.specs.Prelude.{◌≡◌, ℕ, zero, suc, ◌+◌, ◌*◌, ◌^◌, ◌<◌, ◌≤◌, List, [], length, map, Some}
use Rattle.std.specs.List.{All}
use Rattle.da_values.specs.Marks.{Tok}
use Rattle.da_lang.specs.declared.ty.Ty.{Ty}
use Rattle.da_lang.specs.declared.ty.Ty.TheVariants as t
use Rattle.da_lang.specs.Spelling.{IsSpelled}
use Rattle.da_lang.specs.TypeGrammar.{TypeIn}
use Rattle.da_lang.specs.Written.{type_width}
use Rattle.type_fitting.specs.Declarable.{IsDeclarable}
use Rattle.type_table.specs.Draws.{numbers_from}
use Rattle.class_demands.specs.Unknowns.{number_in, unknown_in}

-- one for each number below this one, in order
abbrev pub AreUnknowns : ℕ → List Ty → Type 0
AreUnknowns count types = map unknown_in types ≡ map Some (numbers_from 0 count)

-- so many tokens or fewer spell the type, and no tuple in it has two parts
pub record IsShort (most : ℕ) (x : Ty) : Type 0 where
  pub tokens : List Tok
  pub spelled : All IsSpelled tokens
  pub size : ℕ
  pub spells : TypeIn (λ d t. Unit {0}) size 0 x tokens []
  pub short : length tokens ≤ most
  pub narrow : type_width x ≤ 1

-- the number is written with it, and each digit takes three tokens
pub record IsNumbered (number : ℕ) (x : Ty) : Type 0 where
  pub is : number_in x ≡ Some number
  pub short : (digits : ℕ) → number < 2 ^ digits → IsShort (1 + 3 * digits) x

-- a type in so many sets
abbrev pub sets : ℕ → Ty → Ty
sets zero x = x
sets (suc count) x = t.Set (sets count x)

-- the type stands for the unknown type of this number
pub record IsUnknown (number : ℕ) (x : Ty) : Type 0 where
  pub is : unknown_in x ≡ Some number
  pub may : IsDeclarable x

-- The values that there are. The plain type `Val` has more: texts of any bytes, and sets in any order.
use Rattle.std.specs.Prelude.{ℕ, ℤ, ◌^◌, ◌<◌, Bool, FitsSigned, List, [], ◌∷◌}
use Rattle.std.specs.Int.{w128}
use Rattle.std.specs.List.{All}
use Rattle.da_values.specs.declared.val.Val.{Val}
use Rattle.da_values.specs.declared.val.Val.TheVariants.{Int, Bool as Truth, Text, Proc, Tuple, Set}
use Rattle.da_values.specs.Order.{val_cmp}
use Rattle.da_values.specs.Sets.{Ascends}
use Rattle.da_values.specs.Str.{IsTextByte}

mutual
  pub data IsValue : Val → Type 0 where
    integer : (number : ℤ) → FitsSigned w128 number → IsValue (Int number)
    truth : (b : Bool) → IsValue (Truth b)
    text : (bytes : List ℕ) → All IsTextByte bytes → IsValue (Text bytes)
    process : (p : ℕ) → 0 < p → p < 2 ^ 16 → IsValue (Proc p)
    tuple : (parts : List Val) → AreValues parts → IsValue (Tuple parts)
    set : (elements : List Val) → AreValues elements → Ascends val_cmp elements → IsValue (Set elements)

  pub data AreValues : List Val → Type 0 where
    none : AreValues []
    more : (x : Val) (xs : List Val) → IsValue x → AreValues xs → AreValues (x ∷ xs)

-- The text of a value.
use Rattle.std.specs.Prelude.{ℕ, true, false, List, [], ◌∷◌, ◌++◌, codes, decimal}
use Rattle.std.specs.Fmt.{signed_decimal}
use Rattle.std.specs.List.{flat_map}
use Rattle.da_values.specs.declared.val.Val.{Val}
use Rattle.da_values.specs.declared.val.Val.TheOpen.{Val-F, Int, Bool, Text, Proc, Tuple, Set}
use Rattle.da_values.specs.declared.val.Val.TheFolds.{fold-Val}

-- texts with a comma and a space between
abbrev pub separated : List (List ℕ) → List ℕ
separated [] = []
separated (t ∷ ts) = t ++ flat_map (λ u. codes ", " ++ u) ts

-- what closes a tuple of these parts: one part alone has a comma after it
abbrev pub closing : List (List ℕ) → List ℕ
closing (t ∷ []) = codes ",)"
closing _ = codes ")"

abbrev pub text_step : Val-F (List ℕ) → List ℕ
text_step (Int number) = signed_decimal number
text_step (Bool true) = codes "true"
text_step (Bool false) = codes "false"
text_step (Text text) = codes "'" ++ text ++ codes "'"
text_step (Proc process) = codes "p" ++ decimal process
text_step (Tuple parts) = codes "(" ++ separated parts ++ closing parts
text_step (Set elements) = codes "{" ++ separated elements ++ codes "}"

abbrev pub value_text : Val → List ℕ
value_text = fold-Val (List ℕ) text_step

-- What the variables of a pattern take of a value, in order: nothing of a tuple that the pattern's tuple has no part for.
use Rattle.std.specs.Prelude.{List, [], ◌∷◌, ◌++◌}
use Rattle.da_values.specs.declared.val.Val.{Val, out-Val}
use Rattle.da_values.specs.declared.val.Val.TheOpen as layer
use Rattle.da_values.specs.declared.val.Val.TheOpen.{Val-F}
use Rattle.da_lang.specs.declared.query.Pattern.{Pattern}
use Rattle.da_lang.specs.declared.query.Pattern.TheOpen.{Pattern-F, Any, Bind, Const, Me, Equal, Tuple}
use Rattle.da_lang.specs.declared.query.Pattern.TheFolds.{fold-Pattern}
use Rattle.da_lang.specs.Matching.{Row}

abbrev pub Takes : Type 0
Takes = Val → Row

-- of the parts of a tuple, one after the other
abbrev pub taken_parts : List Takes → List Val → Row
taken_parts [] xs = []
taken_parts (m ∷ ms) [] = []
taken_parts (m ∷ ms) (x ∷ xs) = m x ++ taken_parts ms xs

abbrev pub taken_tuple : List Takes → Val-F Val → Row
taken_tuple ms (layer.Tuple xs) = taken_parts ms xs
taken_tuple ms _ = []

abbrev pub taken_step : Pattern-F Takes → Takes
taken_step Any x = []
taken_step Bind x = x ∷ []
taken_step (Const c) x = []
taken_step Me x = []
taken_step (Equal t) x = []
taken_step (Tuple ms) x = taken_tuple ms (out-Val x)

abbrev pub taken : Pattern → Takes
taken = fold-Pattern Takes taken_step

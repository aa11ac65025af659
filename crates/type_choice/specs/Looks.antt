-- What is seen of the types of a table, number by number.
use Rattle.std.specs.Prelude.{◌≡◌, ℕ, zero, suc, ◌+◌, ◌<◌, min, nat_le, Bool, true, false, List, [], ◌∷◌, map, length, Option, Some, None, slice_get}
use Rattle.da_lang.specs.declared.ty.Ty.{Ty}
use Rattle.da_lang.specs.declared.ty.Ty.TheFolds.{fold-Ty}
use Rattle.da_lang.specs.declared.ty.Ty.TheOpen as ty
use Rattle.da_lang.specs.Types.{ordered, is_set, levels, levels_step}
use Rattle.type_table.specs.declared.form.Form.{Form}
use Rattle.type_table.specs.declared.form.Form.TheVariants as f
use Rattle.type_table.specs.Values.{types_of}
use Rattle.type_choice.specs.declared.looks.Looks.{Looks}

-- the commas of a tuple with so many parts
abbrev pub commas : ℕ → ℕ
commas zero = 0
commas (suc zero) = 1
commas (suc (suc more)) = suc more

abbrev pub total : List ℕ → ℕ
total [] = 0
total (n ∷ ns) = n + total ns

-- how many tokens spell a type
abbrev pub tokens_step : ty.Ty-F ℕ → ℕ
tokens_step ty.Int = 1
tokens_step ty.Bool = 1
tokens_step ty.Text = 1
tokens_step ty.Proc = 1
tokens_step (ty.Tuple parts) = 2 + commas (length parts) + total parts
tokens_step (ty.Set element) = 3 + element

unfoldable pub tokens : Ty → ℕ
tokens = fold-Ty ℕ tokens_step

unfoldable pub most_tokens : ℕ
most_tokens = 1024

abbrev pub is_short : Ty → Bool
is_short x = nat_le (tokens x) most_tokens

-- levels and tokens, counted no further than one too many
abbrev pub cut_levels : ℕ → ℕ
cut_levels n = min n 33

abbrev pub cut_tokens : ℕ → ℕ
cut_tokens n = min n 1025

abbrev pub few_levels : Ty → ℕ
few_levels x = cut_levels (levels x)

abbrev pub few_tokens : Ty → ℕ
few_tokens x = cut_tokens (tokens x)

abbrev pub few_levels_step : ty.Ty-F ℕ → ℕ
few_levels_step x = cut_levels (levels_step x)

abbrev pub few_tokens_step : ty.Ty-F ℕ → ℕ
few_tokens_step x = cut_tokens (tokens_step x)

abbrev pub set_step : ty.Ty-F Bool → Bool
set_step (ty.Set element) = true
set_step _ = false

-- a layer of a type by the form of its number; an open number is `int`
abbrev pub by_form : {A : Type 0} → (ty.Ty-F A → A) → (ℕ → A) → Form → A
by_form step seen f.Open = step ty.Int
by_form step seen (f.Same number) = seen number
by_form step seen f.Int = step ty.Int
by_form step seen f.Bool = step ty.Bool
by_form step seen f.Text = step ty.Text
by_form step seen f.Proc = step ty.Proc
by_form step seen (f.Tuple parts) = step (ty.Tuple (map seen parts))
by_form step seen (f.Set element) = step (ty.Set (seen element))

abbrev pub number_in : Option ℕ → ℕ
number_in None = 0
number_in (Some number) = number

abbrev pub number_at : List ℕ → ℕ → ℕ
number_at numbers k = number_in (slice_get numbers k)

-- for each number of the table, what is seen of its type
abbrev pub IsLook : {A : Type 0} → (Ty → A) → List Form → List A → Type 0
IsLook test forms seen = (k : ℕ) → k < length forms → slice_get seen k ≡ Some (test (types_of forms k))

pub record AreLooks (forms : List Form) (looks : Looks) : Type 0 where
  pub are_ordered : IsLook ordered forms looks.ordered
  pub are_sets : IsLook is_set forms looks.sets
  pub of_levels : IsLook few_levels forms looks.levels
  pub of_tokens : IsLook few_tokens forms looks.tokens

-- The methods that statements call, by their numbers, and their yield points.
use Rattle.std.specs.Prelude.{ℕ, Bool, List, Option, filter_map}
use Rattle.std.specs.List.{list_any}
use Rattle.da_lang.specs.Calls.{called, is_yield}
use Rattle.da_lang.specs.Deeds.{Deed}

-- the numbers of those that have one
unfoldable pub calls_by : (List ℕ → Option ℕ) → List Deed → List ℕ
calls_by number ds = filter_map number (filter_map (λ d. called d.does) ds)

unfoldable pub some_yield : List Deed → Bool
some_yield ds = list_any (λ d. is_yield d.does) ds

-- Which methods lead to which by calls, and which hold a yield point. No chain of different methods is longer than the
-- number of members of its class.
use Rattle.std.specs.Prelude.{ℕ, zero, suc, Bool, true, false, ◌||◌, List, length, Option, Some, None, filter_map, bytes_eq}
use Rattle.std.specs.List.{list_any}
use Rattle.da_lang.specs.declared.tree.ClassTree.{ClassTree}
use Rattle.da_lang.specs.ClassParts.{method_of, stmts_if}
use Rattle.da_lang.specs.Deeds.{Doing, Calls, Labels, Awaits, Deed, deeds}

-- the method that a statement calls
abbrev pub called : Doing → Option (List ℕ)
called (Calls name) = Some name
called _ = None

abbrev pub is_yield : Doing → Bool
is_yield (Labels name) = true
is_yield Awaits = true
is_yield _ = false

-- the statements of the method of a name, and what they call
abbrev pub deeds_in : ClassTree → List ℕ → List Deed
deeds_in c name = deeds (stmts_if (method_of c name))

abbrev pub calls_in : ClassTree → List ℕ → List (List ℕ)
calls_in c name = filter_map (λ d. called d.does) (deeds_in c name)

-- a method is or leads to another by at most so many calls
unfoldable pub leads_within : ℕ → ClassTree → List ℕ → List ℕ → Bool
leads_within zero c name goal = bytes_eq name goal
leads_within (suc most) c name goal = bytes_eq name goal || list_any (λ next. leads_within most c next goal) (calls_in c name)

abbrev pub leads : ClassTree → List ℕ → List ℕ → Bool
leads c = leads_within (length c.members) c

-- some method that a method leads to, or it, holds a yield point
unfoldable pub yields_within : ℕ → ClassTree → List ℕ → Bool
yields_within zero c name = list_any (λ d. is_yield d.does) (deeds_in c name)
yields_within (suc most) c name = list_any (λ d. is_yield d.does) (deeds_in c name) || list_any (yields_within most c) (calls_in c name)

abbrev pub yields : ClassTree → List ℕ → Bool
yields c = yields_within (length c.members) c

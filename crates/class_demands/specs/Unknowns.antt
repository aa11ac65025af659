-- Declared types that stand for unknown types: sets of sets, deeper than any text may nest them, with a number inside.
use Rattle.std.specs.Prelude.{ℕ, zero, suc, ◌+◌, ◌*◌, List, [], ◌∷◌, map, Option, Some, None, option_map}
use Rattle.da_lang.specs.declared.tree.MessageDecl.{MessageDecl}
use Rattle.da_lang.specs.declared.ty.Ty.{Ty}
use Rattle.da_lang.specs.declared.ty.Ty.TheFolds.{fold-Ty}
use Rattle.da_lang.specs.declared.ty.Ty.TheOpen as ty
use Rattle.da_lang.specs.QueryTypes.{given}
use Rattle.da_lang.specs.Types.{element_of}
use Rattle.type_table.specs.declared.scheme.Scheme.{Scheme}
use Rattle.type_table.specs.declared.scheme.Scheme.TheVariants as s
use Rattle.type_table.specs.Fits.{Meaning}
use Rattle.type_demands.specs.declared.known.MessageScheme.{MessageScheme}
use Rattle.type_demands.specs.declared.known.SlotScheme.{SlotScheme}
use Rattle.type_demands.specs.declared.known.SlotScheme.TheVariants as slot

-- a number, written with two digits, the last one outermost: a set for 1 and a tuple of one part for 2, round `int`
abbrev pub digit : List (Option ℕ) → Option ℕ
digit [] = None
digit (x ∷ []) = option_map (λ n. 2 * n + 2) x
digit (x ∷ y ∷ ys) = None

abbrev pub number_step : ty.Ty-F (Option ℕ) → Option ℕ
number_step ty.Int = Some 0
number_step ty.Bool = None
number_step ty.Text = None
number_step ty.Proc = None
number_step (ty.Tuple parts) = digit parts
number_step (ty.Set x) = option_map (λ n. 2 * n + 1) x

unfoldable pub number_in : Ty → Option ℕ
number_in = fold-Ty (Option ℕ) number_step

-- what stands in so many sets
abbrev pub inside : ℕ → Ty → Option Ty
inside zero x = Some x
inside (suc count) x = given (element_of x) (inside count)

-- one more than may be open at once in a text
unfoldable pub depth : ℕ
depth = 33

-- the number of the unknown type for which a type stands
unfoldable pub unknown_in : Ty → Option ℕ
unknown_in x = given (inside depth x) number_in

-- the type for which a declared type stands, where the unknown types are these
abbrev pub known_type : Meaning → Ty → Option ℕ → Ty
known_type m x None = x
known_type m x (Some k) = m k

unfoldable pub put : Meaning → Ty → Ty
put m x = known_type m x (unknown_in x)

-- what stands for a type
abbrev pub written_step : ty.Ty-F Scheme → Scheme
written_step ty.Int = s.Int
written_step ty.Bool = s.Bool
written_step ty.Text = s.Text
written_step ty.Proc = s.Proc
written_step (ty.Tuple parts) = s.Tuple parts
written_step (ty.Set x) = s.Set x

unfoldable pub written : Ty → Scheme
written = fold-Ty Scheme written_step

abbrev pub scheme_at : Ty → Option ℕ → Scheme
scheme_at x None = written x
scheme_at x (Some k) = s.Unknown k

unfoldable pub scheme_of : Ty → Scheme
scheme_of x = scheme_at x (unknown_in x)

-- what stands for a slot, and for the messages with a tag
abbrev pub declared_slot : Option Ty → SlotScheme
declared_slot None = slot.Untyped
declared_slot (Some x) = slot.Declared (scheme_of x)

abbrev pub declared_message : MessageDecl → MessageScheme
declared_message x = record { tag = x.tag; whole = s.Tuple (s.Text ∷ map scheme_of x.parts) }

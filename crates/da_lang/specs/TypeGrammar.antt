-- The grammar of types.
use Rattle.std.specs.Prelude.{ℕ, zero, suc, List, ◌∷◌}
use Rattle.da_values.specs.declared.token.Mark.TheVariants as m
use Rattle.da_values.specs.Marks.{Tok}
use Rattle.da_lang.specs.declared.ty.Ty.{Ty}
use Rattle.da_lang.specs.declared.ty.Ty.TheVariants as ty
use Rattle.da_lang.specs.Spelling.{Spelling, Room, At, Opens, Closed}

-- type, whose inner types are spelled by Inner
pub data IsType (room : Room) (Inner : Spelling Ty) : Ty → List Tok → List Tok → Type 0 where
  int : {t r : List Tok} → At m.Int t r → IsType room Inner ty.Int t r
  bool : {t r : List Tok} → At m.Bool t r → IsType room Inner ty.Bool t r
  str : {t r : List Tok} → At m.Str t r → IsType room Inner ty.Text t r
  proc : {t r : List Tok} → At m.Proc t r → IsType room Inner ty.Proc t r
  set : {x : Ty} {t r s q z : List Tok} → At m.Set t r → Opens m.OpenBracket room r s → Inner x s q → At m.CloseBracket q z → IsType room Inner (ty.Set x) t z
  tuple : {x : Ty} {xs : List Ty} {t r s q z : List Tok} → Opens m.OpenParen room t r → Inner x r s → At m.Comma s q → Closed m.CloseParen Inner xs q z → IsType room Inner (ty.Tuple (x ∷ xs)) t z

-- a type where d things are open; the first number bounds how many more there are
unfoldable pub TypeIn : (ℕ → Room) → ℕ → ℕ → Spelling Ty
TypeIn room zero d x t r = ⊥
TypeIn room (suc f) d x t r = IsType (room d) (TypeIn room f (suc d)) x t r

-- No tokens spell the type of a parameter that has none.
use Rattle.std.proofs.Common.{◌≡◌, ℕ, zero, suc, ◌==◌, Bool, false, List, ◌∷◌, length, ap, ◌∙◌, arith}
use Rattle.da_values.specs.Marks.{Tok}
use Rattle.da_lang.specs.declared.ty.Ty.{Ty}
use Rattle.da_lang.specs.declared.ty.Ty.TheOpen.{Ty-F}
use Rattle.da_lang.specs.declared.ty.Ty.TheVariants as ty
use Rattle.da_lang.specs.Spelling.{Spelling, Room}
use Rattle.da_lang.specs.TypeGrammar.{IsType, TypeIn}
use Rattle.da_lang.specs.Types.{parts_in}
use Rattle.da_parse.specs.Loose.{has_none, is_open}

abbrev none_in : Ty-F Ty → Bool
none_in x = has_none (parts_in x)

some_parts : (x : Ty) (xs : List Ty) → (length (x ∷ xs) == 0) ≡ false
some_parts x xs = grind arith

form_written : (room : Room) (Inner : Spelling Ty) (x : Ty) (here rest : List Tok) → IsType room Inner x here rest → is_open x ≡ false
form_written room Inner _ here rest (IsType.int h) = ap none_in ty.outs-Int
form_written room Inner _ here rest (IsType.bool h) = ap none_in ty.outs-Bool
form_written room Inner _ here rest (IsType.str h) = ap none_in ty.outs-Text
form_written room Inner _ here rest (IsType.proc h) = ap none_in ty.outs-Proc
form_written room Inner _ here rest (IsType.set {x = x} h o inner c) = ap none_in (ty.outs-Set x)
form_written room Inner _ here rest (IsType.tuple {x = x} {xs = xs} o inner c others) = ap none_in (ty.outs-Tuple (x ∷ xs)) ∙ some_parts x xs

pub type_written : (room : ℕ → Room) (f d : ℕ) (x : Ty) (here rest : List Tok) → TypeIn room f d x here rest → is_open x ≡ false
unfolding TypeIn
type_written room zero d x here rest h = absurd h
type_written room (suc f) d x here rest h = form_written (room d) (TypeIn room f (suc d)) x here rest h

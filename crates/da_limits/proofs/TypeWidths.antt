-- The widest tuples of types, from those of their parts.
use Rattle.std.specs.Prelude.{◌≡◌, ℕ, ◌+◌, ◌<◌, max, List, [], ◌∷◌, ◌++◌, map, length}
use Rattle.std.proofs.Common.{◌∙◌, ap, arith, get_or, take}
use Rattle.std.proofs.lemmas.List.{length-map, map-append}
use Rattle.da_lang.specs.declared.ty.Ty.{Ty}
use Rattle.da_lang.specs.declared.ty.Ty.TheVariants as t
use Rattle.da_lang.specs.Written.{greatest, type_width}
use Rattle.da_lang.proofs.typing.TypesAt.{type_width-Int, type_width-Bool, type_width-Text, type_width-Proc, type_width-Tuple, type_width-Set}
use Rattle.da_limits.specs.Capped.{capped}
use Rattle.da_lang.proofs.Taken.{taken}

pub width-Int : capped (type_width t.Int) ≡ 0
width-Int = ap capped type_width-Int

pub width-Bool : capped (type_width t.Bool) ≡ 0
width-Bool = ap capped type_width-Bool

pub width-Text : capped (type_width t.Text) ≡ 0
width-Text = ap capped type_width-Text

pub width-Proc : capped (type_width t.Proc) ≡ 0
width-Proc = ap capped type_width-Proc

pub width-Tuple : (parts : List Ty) → capped (type_width (t.Tuple parts)) ≡ max (capped (length parts)) (capped (greatest (map type_width parts)))
width-Tuple parts = omega (arith, type_width-Tuple parts, length-map parts type_width)

pub ruleset width_rules = (width-Int, width-Bool, width-Text, width-Proc, width-Tuple, type_width-Set)

greatest-more : (ns : List ℕ) (n : ℕ) → greatest (ns ++ n ∷ []) ≡ max (greatest ns) n
greatest-more [] n = omega arith
greatest-more (m ∷ ns) n = omega (arith, greatest-more ns n)

pub greatest_step : {A : Type 0} (f : A → ℕ) (xs : List A) (i : ℕ) (x : A) → i < length xs → x ≡ get_or xs i x → greatest (map f (take (i + 1) xs)) ≡ max (greatest (map f (take i xs))) (f x)
greatest_step f xs i x inside here = ap (λ ys. greatest (map f ys)) (taken xs i x inside here) ∙ ap greatest (map-append f (take i xs) (x ∷ [])) ∙ greatest-more (map f (take i xs)) (f x)

-- A type that is another one with `int` or `proc` in place of some parts, and with `proc` nowhere in the place of `int`. Two types
-- of which each is so beside the other are equal.
use Rattle.std.specs.Prelude.{◌≡◌, List, [], ◌∷◌}
use Rattle.da_lang.specs.declared.ty.Ty.{Ty}
use Rattle.da_lang.specs.declared.ty.Ty.TheVariants as t

mutual
  pub data IsLean : Ty → Ty → Type 0 where
    int : (other : Ty) → IsLean t.Int other
    proc : (other : Ty) → (other ≡ t.Int → ⊥) → IsLean t.Proc other
    truth : IsLean t.Bool t.Bool
    text : IsLean t.Text t.Text
    tuple : (parts others : List Ty) → AreLean parts others → IsLean (t.Tuple parts) (t.Tuple others)
    set : (element other : Ty) → IsLean element other → IsLean (t.Set element) (t.Set other)

  pub data AreLean : List Ty → List Ty → Type 0 where
    none : AreLean [] []
    more : (part other : Ty) (parts others : List Ty) → IsLean part other → AreLean parts others → AreLean (part ∷ parts) (other ∷ others)

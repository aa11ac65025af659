-- Slots beside the pool: a value that is put into one, and a set that is taken out and put back.
use Rattle.std.specs.Prelude.{◌≡◌, ℕ, zero, suc, ◌≤◌, List, [], ◌∷◌, length, slice_get, slice_set, refl}
use Rattle.std.proofs.Common.{ap, sym, ◌∙◌, arith}
use Rattle.std.proofs.lemmas.Option.{slice_get_past}
use Rattle.da_values.specs.declared.val.Val.{Val}
use Rattle.da_values.specs.Views.{elements_of}
use Rattle.da_lang.specs.World.{or_nothing, value_in, with_slot}
use Rattle.delta_rules.proofs.SlotLaws.{elements_of-nothing}

pub set_past : (values : List Val) (place : ℕ) (x : Val) → length values ≤ place → values ≡ slice_set values place x
set_past [] place x past = refl
set_past (y ∷ values) zero x past = absurd (omega (arith, past))
set_past (y ∷ values) (suc place) x past = ap (λ (zs : List Val). y ∷ zs) (set_past values place x (omega (arith, past)))

pub set_twice : (values : List Val) (place : ℕ) (x y : Val) → slice_set (slice_set values place x) place y ≡ slice_set values place y
set_twice [] place x y = refl
set_twice (z ∷ values) zero x y = refl
set_twice (z ∷ values) (suc place) x y = ap (λ (zs : List Val). z ∷ zs) (set_twice values place x y)

-- where there is no such place, or no such slot
pub none_past : (values : List Val) (place : ℕ) → length values ≤ place → elements_of (or_nothing (slice_get values place)) ≡ []
none_past values place past = ap (λ o. elements_of (or_nothing o)) (slice_get_past values place past) ∙ elements_of-nothing

pub none_below : (values : List Val) (s : ℕ) → s ≡ 0 → elements_of (value_in values s) ≡ []
none_below values s none = ap (λ (n : ℕ). elements_of (value_in values n)) none ∙ elements_of-nothing

pub put_below : (values : List Val) (s : ℕ) (x : Val) → s ≡ 0 → values ≡ with_slot values s x
put_below values s x none = sym (ap (λ (n : ℕ). with_slot values n x) none)

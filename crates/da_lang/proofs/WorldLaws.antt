-- Slots that are read and written, and the values with which they begin.
use Rattle.std.specs.Prelude.{◌≡◌, ◌<◌, ◌≤◌, ◌^◌, ℕ, zero, suc, pos, false, FitsSigned, List, [], ◌∷◌, map, length, slice_get, slice_set, Some, None, codes, refl}
use Rattle.std.specs.Int.{w128}
use Rattle.std.specs.List.{AllByRecursion}
use Rattle.std.proofs.Common.{ap, sym, ◌∙◌, subst, arith, rules}
use Rattle.da_values.specs.declared.val.Val.{Val}
use Rattle.da_values.specs.declared.val.Val.TheVariants as val
use Rattle.da_values.specs.Proper.{IsValue, AreValues}
use Rattle.da_lang.specs.declared.ty.Ty.{Ty, roll-Ty}
use Rattle.da_lang.specs.declared.ty.Ty.TheVariants as ty
use Rattle.da_lang.specs.declared.ty.Ty.TheOpen as layer
use Rattle.da_lang.specs.declared.ty.Ty.TheOpen.{Ty-F}
use Rattle.da_lang.specs.declared.ty.Ty.TheFolds.{fold-roll-Ty, ind-Ty, map-Ty}
use Rattle.da_lang.specs.declared.program.Class.{Class}
use Rattle.da_lang.specs.declared.program.Program.{Program}
use Rattle.da_lang.specs.declared.ty.ChannelKind.TheVariants.{UnorderedUnreliable}
use Rattle.da_lang.specs.World.{default_step, default, value_in, with_slot, or_nothing, nothing, opening_data, opening_slots}
use Rattle.da_lang.proofs.TermInduction.{bare, all_of-bare}

module _ (me : ℕ) where
  pub default-Int : default me ty.Int ≡ val.Int (pos 0)
  default-Int = ap (default me) (sym ty.rolls-Int) ∙ fold-roll-Ty Val (default_step me) layer.Int

  pub default-Bool : default me ty.Bool ≡ val.Bool false
  default-Bool = ap (default me) (sym ty.rolls-Bool) ∙ fold-roll-Ty Val (default_step me) layer.Bool

  pub default-Text : default me ty.Text ≡ val.Text []
  default-Text = ap (default me) (sym ty.rolls-Text) ∙ fold-roll-Ty Val (default_step me) layer.Text

  pub default-Proc : default me ty.Proc ≡ val.Proc me
  default-Proc = ap (default me) (sym ty.rolls-Proc) ∙ fold-roll-Ty Val (default_step me) layer.Proc

  pub default-Tuple : (parts : List Ty) → default me (ty.Tuple parts) ≡ val.Tuple (map (default me) parts)
  default-Tuple parts = ap (default me) (sym (ty.rolls-Tuple parts)) ∙ fold-roll-Ty Val (default_step me) (layer.Tuple parts)

  pub default-Set : (element : Ty) → default me (ty.Set element) ≡ val.Set []
  default-Set element = ap (default me) (sym (ty.rolls-Set element)) ∙ fold-roll-Ty Val (default_step me) (layer.Set element)

pub ruleset beginning = (default-Int, default-Bool, default-Text, default-Proc, default-Tuple, default-Set)

-- `(int, (proc, bool), set[str])` in process 3
default_of_tuple : default 3 (ty.Tuple (ty.Int ∷ ty.Tuple (ty.Proc ∷ ty.Bool ∷ []) ∷ ty.Set ty.Text ∷ [])) ≡ val.Tuple (val.Int (pos 0) ∷ val.Tuple (val.Proc 3 ∷ val.Bool false ∷ []) ∷ val.Set [] ∷ [])
default_of_tuple = simp beginning

module _ (P : Ty → Type 0) (int : P ty.Int) (bool : P ty.Bool) (text : P ty.Text) (proc : P ty.Proc) (tuple : (parts : List Ty) → AllByRecursion P parts → P (ty.Tuple parts)) (set : (element : Ty) → P element → P (ty.Set element)) where
  ty_case : (y : Ty-F ((x : Ty) × P x)) → P (roll-Ty (map-Ty ((x : Ty) × P x) Ty (λ pair. pair.0) y))
  ty_case layer.Int = subst P (sym ty.rolls-Int) int
  ty_case layer.Bool = subst P (sym ty.rolls-Bool) bool
  ty_case layer.Text = subst P (sym ty.rolls-Text) text
  ty_case layer.Proc = subst P (sym ty.rolls-Proc) proc
  ty_case (layer.Tuple pairs) = subst P (sym (ty.rolls-Tuple (bare pairs))) (tuple (bare pairs) (all_of-bare P pairs))
  ty_case (layer.Set pair) = subst P (sym (ty.rolls-Set pair.0)) (set pair.0 pair.1)

  pub ty_induction : (t : Ty) → P t
  ty_induction = ind-Ty P (λ x y is. subst (λ z. P (roll-Ty z)) is (ty_case y))

defaults_are_values : (me : ℕ) (parts : List Ty) → AllByRecursion (λ t. IsValue (default me t)) parts → AreValues (map (default me) parts)
defaults_are_values me [] each = AreValues.none
defaults_are_values me (t ∷ ts) each = AreValues.more (default me t) (map (default me) ts) each.0 (defaults_are_values me ts each.1)

zero_fits : FitsSigned w128 (pos 0)
zero_fits = search rules

-- what a slot begins with is a value
pub default_is_value : (me : ℕ) → 0 < me → me < 2 ^ 16 → (t : Ty) → IsValue (default me t)
default_is_value me positive small =
    ty_induction (λ t. IsValue (default me t))
    (subst IsValue (sym (default-Int me)) (IsValue.integer (pos 0) zero_fits))
    (subst IsValue (sym (default-Bool me)) (IsValue.truth false))
    (subst IsValue (sym (default-Text me)) (IsValue.text [] (λ k byte within. absurd (omega (arith, within)))))
    (subst IsValue (sym (default-Proc me)) (IsValue.process me positive small))
    (λ parts each. subst IsValue (sym (default-Tuple me parts)) (IsValue.tuple (map (default me) parts) (defaults_are_values me parts each)))
    (λ element of_element. subst IsValue (sym (default-Set me element)) (IsValue.set [] AreValues.none tt))

get-set_there : {A : Type 0} (xs : List A) (k : ℕ) (x : A) → k < length xs → slice_get (slice_set xs k x) k ≡ Some x
get-set_there [] k x inside = absurd (omega (arith, inside))
get-set_there (y ∷ ys) zero x inside = refl
get-set_there (y ∷ ys) (suc k) x inside = get-set_there ys k x (omega (arith, inside))

get-set_other : {A : Type 0} (xs : List A) (j k : ℕ) (x : A) → (j ≡ k → ⊥) → slice_get (slice_set xs k x) j ≡ slice_get xs j
get-set_other [] j k x other = refl
get-set_other (y ∷ ys) zero zero x other = absurd (other refl)
get-set_other (y ∷ ys) (suc j) zero x other = refl
get-set_other (y ∷ ys) zero (suc k) x other = refl
get-set_other (y ∷ ys) (suc j) (suc k) x other = get-set_other ys j k x (λ e. other (ap suc e))

-- a slot that was written has the value, and each other slot has the value that it had
pub slot-put_there : (slots : List Val) (s : ℕ) (x : Val) → 0 < s → s ≤ length slots → value_in (with_slot slots s x) s ≡ x
slot-put_there slots zero x positive inside = absurd (omega (arith, positive))
slot-put_there slots (suc k) x positive inside = ap or_nothing (get-set_there slots k x (omega (arith, inside)))

pub slot-put_other : (slots : List Val) (s t : ℕ) (x : Val) → (t ≡ s → ⊥) → value_in (with_slot slots s x) t ≡ value_in slots t
slot-put_other slots zero t x other = refl
slot-put_other slots (suc k) zero x other = refl
slot-put_other slots (suc k) (suc j) x other = ap or_nothing (get-set_other slots j k x (λ e. other (ap suc e)))

-- A process before any event: the second one, of a class with an integer, a process and a slot of no known type.

abbrev of_class : Class
of_class = record { name = codes "P"; slots = Some ty.Int ∷ Some ty.Proc ∷ None ∷ []; params = []; setup = []; run = []; handlers = []; queries = []; line = 1 }

abbrev two_processes : Program
two_processes = record { kind = UnorderedUnreliable; messages = []; classes = of_class ∷ []; procs = record { class = 0; setup = None } ∷ record { class = 0; setup = None } ∷ [] }

opening_of_second : opening_data two_processes 2 ≡ record { me = 2; slots = val.Int (pos 0) ∷ val.Proc 2 ∷ nothing ∷ []; sent = []; received = []; clock = 0 }
opening_of_second = simp beginning

opening_of_none : opening_slots two_processes 3 ≡ []
opening_of_none = refl

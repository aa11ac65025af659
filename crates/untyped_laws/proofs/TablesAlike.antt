-- Tables that are equal but for the types of their slots, and what comes with such tables.
use Rattle.std.specs.Prelude.{◌≡◌, ℕ, suc, List, [], ◌∷◌, map, Option, None}
use Rattle.std.specs.List.{range_with_len}
use Rattle.std.proofs.Common.{ap, ap₂, subst}
use Rattle.da_lang.specs.declared.ty.Ty.{Ty}
use Rattle.da_lang.specs.BodyMeaning.{Becomes, with_slots, next, fresh, named_slots, untyped}
use Rattle.da_lang.specs.ExprMeaning.{Meaning, InSlot, Tables, numbered}
use Rattle.da_lang.specs.Scopes.{Scope}
use Rattle.untyped_laws.specs.Beside.{Beside}
use Rattle.untyped_laws.proofs.BesideLaws.{beside_length, beside_append}

module _ (R : Option Ty → Option Ty → Type 0) where
  pub record TablesAlike (a b : Tables) : Type 0 where
    pub slots : Beside R a.slots b.slots
    pub queries : a.queries ≡ b.queries

  -- the same thing, with such tables
  pub record ComesAlike {A : Type 0} (x y : A × Tables) : Type 0 where
    pub thing : x.0 ≡ y.0
    pub tables : TablesAlike x.1 y.1

  abbrev pub GoesAlike : {A : Type 0} → Becomes A → Becomes A → Type 0
  GoesAlike f g = (scope : Scope Meaning) (a b : Tables) → TablesAlike a b → ComesAlike (f scope a) (g scope b)

  -- what is made of one thing, and of two of which the second comes last
  pub made : {A B : Type 0} (make : A → B) (x y : A × Tables) → ComesAlike x y → ComesAlike {A = B} (make x.0, x.1) (make y.0, y.1)
  made make x y l = record { thing = ap make l.thing; tables = l.tables }

  pub made_two : {A B C : Type 0} (make : A → B → C) (a b : A) (x y : B × Tables) → a ≡ b → ComesAlike x y → ComesAlike {A = C} (make a x.0, x.1) (make b y.0, y.1)
  made_two make a b x y same l = record { thing = ap₂ make same l.thing; tables = l.tables }

  -- the second by other things that are the same
  pub moved : {A X Y : Type 0} (F : X → Y → A × Tables) (p : A × Tables) (x u : X) (y v : Y) → x ≡ u → y ≡ v → ComesAlike p (F x y) → ComesAlike p (F u v)
  moved F p x u y v e h l = subst (λ z. ComesAlike p (F u z)) h (subst (λ z. ComesAlike p (F z y)) e l)

  pub next_equal : (a b : Tables) → TablesAlike a b → next a ≡ next b
  next_equal a b l = ap suc (beside_length R a.slots b.slots l.slots)

  pub fresh_equal : (a b : Tables) (many : ℕ) → TablesAlike a b → fresh a many ≡ fresh b many
  fresh_equal a b many l = ap (λ n. range_with_len n many) (next_equal a b l)

  pub named_equal : (names : List (List ℕ)) (a b : Tables) (scope : Scope Meaning) → TablesAlike a b → named_slots names a scope ≡ named_slots names b scope
  named_equal names a b scope l = ap (λ n. numbered InSlot n names scope) (next_equal a b l)

  pub more_slots : (us vs : List (Option Ty)) (a b : Tables) → Beside R us vs → TablesAlike a b → TablesAlike (with_slots us a) (with_slots vs b)
  more_slots us vs a b all l = record { slots = beside_append R a.slots us b.slots vs l.slots all; queries = l.queries }

  nones : R None None → (names : List (List ℕ)) → Beside R (map (λ name. None) names) (map (λ name. None) names)
  nones r [] = tt
  nones r (name ∷ names) = (r, nones r names)

  pub more_untyped : R None None → (names : List (List ℕ)) (a b : Tables) → TablesAlike a b → TablesAlike (untyped names a) (untyped names b)
  more_untyped r names a b l = more_slots (map (λ name. None) names) (map (λ name. None) names) a b (nones r names) l

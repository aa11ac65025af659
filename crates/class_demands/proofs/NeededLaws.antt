-- What is demanded besides where slots are in use that headers bind.
use Rattle.std.specs.Prelude.{◌≡◌, refl, ℕ, Bool, true, false, ◌&&◌, ◌||◌, if◌then◌else◌, List, [], ◌∷◌, ◌++◌}
use Rattle.std.specs.List.{list_any}
use Rattle.std.proofs.Common.{◌∙◌, ap₂, sym}
use Rattle.type_table.specs.Fits.{Meaning}
use Rattle.type_demands.specs.declared.demand.Demand.{Demand}
use Rattle.type_demands.specs.declared.demand.Demand.TheVariants as d
use Rattle.type_demands.specs.Demands.{met, all_met}
use Rattle.type_demands.proofs.FoundLaws.{and_true, met_both}
use Rattle.class_demands.specs.declared.demands.Head.{Head}
use Rattle.class_demands.specs.Prefix.{binds, is_use, with_head, needed, headed}

-- of two demands, each of which may use a slot
mixed : (a b u v c : Bool) → ((a && (if u then c else true)) && (b && (if v then c else true))) ≡ ((a && b) && (if u || v then c else true))
mixed false b u v c = refl
mixed true true true true true = refl
mixed true true true true false = refl
mixed true true true false true = refl
mixed true true true false false = refl
mixed true true false true true = refl
mixed true true false true false = refl
mixed true true false false true = refl
mixed true true false false false = refl
mixed true false true true true = refl
mixed true false true true false = refl
mixed true false true false true = refl
mixed true false true false false = refl
mixed true false false true true = refl
mixed true false false true false = refl
mixed true false false false true = refl
mixed true false false false false = refl

module _ (m : Meaning) (h : Head) (before : ℕ → Bool) where
  -- whether all is met that the header demands, and the same of slots
  abbrev fine : Bool
  fine = all_met m before h.demands

  abbrev after : ℕ → Bool
  after slot = before slot && (if binds h.binds slot then fine else true)

  one : (x : Demand) → met m after x ≡ (met m before x && (if is_use h.binds x then fine else true))
  one d.Never = refl
  one (d.Same x y) = sym (and_true (met m before (d.Same x y)))
  one (d.Int x) = sym (and_true (met m before (d.Int x)))
  one (d.Truth x) = sym (and_true (met m before (d.Truth x)))
  one (d.Width x count) = sym (and_true (met m before (d.Width x count)))
  one (d.Elements x) = sym (and_true (met m before (d.Elements x)))
  one (d.Ordered x) = sym (and_true (met m before (d.Ordered x)))
  one (d.Adds x) = sym (and_true (met m before (d.Adds x)))
  one (d.Single x) = sym (and_true (met m before (d.Single x)))
  one (d.Receives x) = sym (and_true (met m before (d.Receives x)))
  one (d.Flat x) = sym (and_true (met m before (d.Flat x)))
  one (d.Uses slot) = refl

  each : (xs : List Demand) → all_met m after xs ≡ (all_met m before xs && (if list_any (is_use h.binds) xs then fine else true))
  each [] = refl
  each (x ∷ xs) = ap₂ (λ a b. a && b) (one x) (each xs) ∙ mixed (met m before x) (all_met m before xs) (is_use h.binds x) (list_any (is_use h.binds) xs) fine

  used : (xs : List Demand) (b : Bool) → (all_met m before xs && (if b then fine else true)) ≡ all_met m before (if b then xs ++ h.demands else xs)
  used xs true = sym (met_both m before xs h.demands)
  used xs false = and_true (all_met m before xs)

  head_needed : (xs : List Demand) → all_met m after xs ≡ all_met m before (with_head h xs)
  head_needed xs = each xs ∙ used xs (list_any (is_use h.binds) xs)

pub heads_needed : (m : Meaning) (hs : List Head) (before : ℕ → Bool) (demands : List Demand) → all_met m (headed m hs before) demands ≡ all_met m before (needed hs demands)
heads_needed m [] before demands = refl
heads_needed m (h ∷ hs) before demands = heads_needed m hs (after m h before) demands ∙ head_needed m h before (needed hs demands)

-- Lines that break a rule, and demands, up to a line.
use Rattle.std.specs.Prelude.{◌≡◌, refl, ℕ, nat_le, Bool, true, false, not, ◌&&◌, if◌then◌else◌, List, [], ◌∷◌, ◌++◌, map, flat_map}
use Rattle.std.specs.List.{AllByRecursion}
use Rattle.std.proofs.Common.{◌∙◌, ap, ap₂, sym}
use Rattle.da_lang.specs.Typing as typing
use Rattle.da_lang.specs.Typing.{unless}
use Rattle.type_table.specs.Fits.{Meaning}
use Rattle.type_demands.specs.declared.demand.Demand.{Demand}
use Rattle.type_demands.specs.declared.demand.LineDemand.{LineDemand}
use Rattle.type_demands.specs.Demands.{all_met, at_line}
use Rattle.type_demands.proofs.FoundLaws.{and_assoc, met_both}
use Rattle.class_demands.specs.Prefix.{none_upto, upto}
use Rattle.class_demands.specs.Statements as demanded

module _ (n : ℕ) where
  pub none_both : (xs ys : List ℕ) → none_upto n (xs ++ ys) ≡ (none_upto n xs && none_upto n ys)
  none_both [] ys = refl
  none_both (x ∷ xs) ys = ap (λ b. not (nat_le x n) && b) (none_both xs ys) ∙ sym (and_assoc (not (nat_le x n)) (none_upto n xs) (none_upto n ys))

  upto_on : (b : Bool) (x : Demand) (both ds es : List Demand) → both ≡ ds ++ es → (if b then x ∷ both else both) ≡ (if b then x ∷ ds else ds) ++ es
  upto_on true x both ds es e = ap (λ z. x ∷ z) e
  upto_on false x both ds es e = e

  pub upto_both : (xs ys : List LineDemand) → upto n (xs ++ ys) ≡ upto n xs ++ upto n ys
  upto_both [] ys = refl
  upto_both (x ∷ xs) ys = upto_on (nat_le x.line n) x.demand (upto n (xs ++ ys)) (upto n xs) (upto n ys) (upto_both xs ys)

  -- the demands of one line
  upto_here : (line : ℕ) (ds : List Demand) → nat_le line n ≡ true → upto n (at_line line ds) ≡ ds
  upto_here line [] e = refl
  upto_here line (x ∷ ds) e = ap (λ b. if b then x ∷ upto n (at_line line ds) else upto n (at_line line ds)) e ∙ ap (λ z. x ∷ z) (upto_here line ds e)

  upto_later : (line : ℕ) (ds : List Demand) → nat_le line n ≡ false → upto n (at_line line ds) ≡ []
  upto_later line [] e = refl
  upto_later line (x ∷ ds) e = ap (λ b. if b then x ∷ upto n (at_line line ds) else upto n (at_line line ds)) e ∙ upto_later line ds e

  none_here : (line : ℕ) (holds : Bool) → not (nat_le line n) ≡ false → none_upto n (unless line holds) ≡ holds
  none_here line true e = refl
  none_here line false e = ap (λ b. b && true) e

  none_later : (line : ℕ) (holds : Bool) → not (nat_le line n) ≡ true → none_upto n (unless line holds) ≡ true
  none_later line true e = refl
  none_later line false e = ap (λ b. b && true) e

  module _ (m : Meaning) (headed : ℕ → Bool) where
    -- no line is at most this one exactly where the demands up to it are met
    abbrev pub Told : List ℕ → List LineDemand → Type 0
    Told lines demands = none_upto n lines ≡ all_met m headed (upto n demands)

    pub told_both : (xs ys : List ℕ) (ds es : List LineDemand) → Told xs ds → Told ys es → Told (xs ++ ys) (ds ++ es)
    told_both xs ys ds es p q = none_both xs ys ∙ ap₂ (λ a b. a && b) p q ∙ sym (ap (all_met m headed) (upto_both ds es) ∙ met_both m headed (upto n ds) (upto n es))

    pub told_line : (line : ℕ) (holds : Bool) (ds : List Demand) → holds ≡ all_met m headed ds → Told (unless line holds) (at_line line ds)
    told_line line holds ds is = go (nat_le line n) refl
      where
        go : (b : Bool) → nat_le line n ≡ b → none_upto n (unless line holds) ≡ all_met m headed (upto n (at_line line ds))
        go true e = none_here line holds (ap not e) ∙ is ∙ sym (ap (all_met m headed) (upto_here line ds e))
        go false e = none_later line holds (ap not e) ∙ sym (ap (all_met m headed) (upto_later line ds e))

    pub told_each : {A : Type 0} (f : A → List ℕ) (g : A → List LineDemand) (xs : List A) → AllByRecursion (λ x. Told (f x) (g x)) xs → Told (flat_map f xs) (flat_map g xs)
    told_each f g [] each = refl
    told_each f g (x ∷ xs) each = told_both (f x) (flat_map f xs) (g x) (flat_map g xs) each.0 (told_each f g xs each.1)

    -- parts side by side
    abbrev pub Sides : List (List ℕ) → List (List LineDemand) → Type 0
    Sides [] [] = Unit {0}
    Sides [] (d ∷ ds) = ⊥
    Sides (x ∷ xs) [] = ⊥
    Sides (x ∷ xs) (d ∷ ds) = Told x d × Sides xs ds

    pub told_sides : (xs : List (List ℕ)) (ds : List (List LineDemand)) → Sides xs ds → Told (typing.all xs) (demanded.all ds)
    told_sides [] [] each = refl
    told_sides [] (d ∷ ds) each = absurd each
    told_sides (x ∷ xs) [] each = absurd each
    told_sides (x ∷ xs) (d ∷ ds) each = told_both x (typing.all xs) d (demanded.all ds) each.0 (told_sides xs ds each.1)

    pub sides_both : (xs ys : List (List ℕ)) (ds es : List (List LineDemand)) → Sides xs ds → Sides ys es → Sides (xs ++ ys) (ds ++ es)
    sides_both [] ys [] es p q = q
    sides_both [] ys (d ∷ ds) es p q = absurd p
    sides_both (x ∷ xs) ys [] es p q = absurd p
    sides_both (x ∷ xs) ys (d ∷ ds) es p q = (p.0, sides_both xs ys ds es p.1 q)

    pub sides_each : {A : Type 0} (f : A → List ℕ) (g : A → List LineDemand) (xs : List A) → AllByRecursion (λ x. Told (f x) (g x)) xs → Sides (map f xs) (map g xs)
    sides_each f g [] each = tt
    sides_each f g (x ∷ xs) each = (each.0, sides_each f g xs each.1)

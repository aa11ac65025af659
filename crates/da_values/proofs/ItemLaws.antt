-- Values read one after the other, with a comma and a space between.
use Rattle.std.specs.Prelude.{◌≡◌, ℕ, ◌<◌, ◌≤◌, List, [], ◌∷◌, ◌++◌, codes, length, map, refl}
use Rattle.std.specs.List.{flat_map}
use Rattle.std.proofs.Common.{◌∙◌, ap, sym, arith, append_assoc, append-nil}
use Rattle.std.proofs.lemmas.List.{map-append}
use Rattle.da_values.specs.declared.val.Val.{Val}
use Rattle.da_values.specs.declared.value.Value.{Value}
use Rattle.da_values.specs.Nesting.{deepest, nesting}
use Rattle.da_values.specs.Proper.{IsValue, AreValues, none, more}
use Rattle.da_values.specs.Reading.{Stops, Spells, SpellsEach, Ends}
use Rattle.da_values.specs.Text.{value_text, separated}
use Rattle.da_values.specs.Value.{val_of, vals}

-- the texts with a comma and a space before each, and after each
abbrev pub later : List Val → List ℕ
later xs = flat_map (λ t. codes ", " ++ t) (map value_text xs)

abbrev pub earlier : List Val → List ℕ
earlier [] = []
earlier (x ∷ xs) = value_text x ++ (codes ", " ++ earlier xs)

-- what was read, what is left, and that nothing else can have been meant
pub record ReadSoFar (depth : ℕ) (bytes : List ℕ) (done : List Val) (left : List ℕ) : Type 0 where
  pub values : AreValues done
  pub nested : deepest (map nesting done) ≤ depth
  pub is : bytes ≡ earlier done ++ left
  pub only : (xs : List Val) (rest : List ℕ) → SpellsEach depth xs bytes rest → Ends rest → (others : List Val) × (xs ≡ done ++ others) × SpellsEach depth others left rest

-- no other value stands at the front
abbrev pub OnlyValue : ℕ → Val → List ℕ → List ℕ → Type 0
OnlyValue depth x left rest = (y : Val) (t : List ℕ) → Spells depth y left t → Stops t → (x ≡ y) × (rest ≡ t)

pub nothing_read : (depth : ℕ) (bytes : List ℕ) → ReadSoFar depth bytes [] bytes
nothing_read depth bytes = record { values = none; nested = omega arith; is = refl; only = λ xs rest spelled ends. (xs, refl, spelled) }

AreValues-push : (xs : List Val) (x : Val) → AreValues xs → IsValue x → AreValues (xs ++ x ∷ [])
AreValues-push [] x each is = more x [] is none
AreValues-push (y ∷ ys) x (more _ _ first rest) is = more y (ys ++ x ∷ []) first (AreValues-push ys x rest is)

deepest-push : (xs : List Val) (x : Val) (depth : ℕ) → deepest (map nesting xs) ≤ depth → nesting x ≤ depth → deepest (map nesting (xs ++ x ∷ [])) ≤ depth
deepest-push [] x depth before here = omega (arith, here)
deepest-push (y ∷ ys) x depth before here = omega (arith, before, deepest-push ys x depth (omega (arith, before)) here)

earlier-push : (xs : List Val) (x : Val) → earlier (xs ++ x ∷ []) ≡ earlier xs ++ (value_text x ++ codes ", ")
earlier-push [] x = ap (λ t. value_text x ++ t) refl
earlier-push (y ∷ ys) x =
    ap (λ t. value_text y ++ (codes ", " ++ t)) (earlier-push ys x) ∙ sym (append_assoc (value_text y) (codes ", " ++ earlier ys) (value_text x ++ codes ", "))

-- the last one has nothing after it
separated-push : (xs : List Val) (x : Val) → earlier xs ++ value_text x ≡ separated (map value_text (xs ++ x ∷ []))
separated-push [] x = sym (append-nil (value_text x))
separated-push (y ∷ []) x = append_assoc (value_text y) (codes ", ") (value_text x) ∙ ap (λ t. value_text y ++ (codes ", " ++ t)) (sym (append-nil (value_text x)))
separated-push (y ∷ z ∷ zs) x =
    append_assoc (value_text y) (codes ", " ++ earlier (z ∷ zs)) (value_text x) ∙ ap (λ t. value_text y ++ (codes ", " ++ t)) (separated-push (z ∷ zs) x)

-- the first of several values
pub first_of_each : (depth : ℕ) (y : Val) (ys : List Val) (left rest : List ℕ) → SpellsEach depth (y ∷ ys) left rest → Ends rest → Spells depth y left (later ys ++ rest) × Stops (later ys ++ rest)
first_of_each depth y ys left rest spelled ends =
    (record { value = first_value spelled.values; nested = omega (arith, spelled.nested); is = spelled.is ∙ append_assoc (value_text y) (later ys) rest }, stops ys)
  where
    first_value : AreValues (y ∷ ys) → IsValue y
    first_value (more _ _ first others) = first

    stops : (zs : List Val) → Stops (later zs ++ rest)
    stops [] = ends.stops
    stops (z ∷ zs) = refl

pub failed : (P : Type 0) (depth : ℕ) (bytes : List ℕ) (done : List Val) (left : List ℕ) → ReadSoFar depth bytes done left → ((y : Val) (t : List ℕ) → Spells depth y left t → Stops t → P) → (xs : List Val) (t : List ℕ) → SpellsEach depth xs bytes t → Ends t → P
failed P depth bytes done left before fails xs t spelled ends = go (before.only xs t spelled ends)
  where
    go : (others : List Val) × (xs ≡ done ++ others) × SpellsEach depth others left t → P
    go ([], same, each) = absurd (omega (arith, each.some))
    go (y ∷ ys, same, each) = let first = first_of_each depth y ys left t each ends in fails y (later ys ++ t) first.0 first.1

module _ (depth : ℕ) (bytes : List ℕ) (done : List Val) (left : List ℕ) (before : ReadSoFar depth bytes done left) (x : Val) (rest : List ℕ) (here : Spells depth x left rest) (only : OnlyValue depth x left rest) where
  tail_values : (y : Val) (ys : List Val) → AreValues (y ∷ ys) → AreValues ys
  tail_values y ys (more _ _ first others) = others

  after_comma : (a b : List ℕ) → codes ", " ++ a ≡ codes ", " ++ b → a ≡ b
  after_comma a b e = cc

  pub read_more : (next : List ℕ) → rest ≡ codes ", " ++ next → ReadSoFar depth bytes (done ++ x ∷ []) next
  read_more next comma = record {
    values = AreValues-push done x before.values here.value;
    nested = deepest-push done x depth before.nested here.nested;
    is = before.is ∙ ap (λ t. earlier done ++ t) (here.is ∙ ap (λ t. value_text x ++ t) comma ∙ sym (append_assoc (value_text x) (codes ", ") next))
        ∙ sym (append_assoc (earlier done) (value_text x ++ codes ", ") next) ∙ ap (λ t. t ++ next) (sym (earlier-push done x));
    only = λ xs t spelled ends. go xs t ends (before.only xs t spelled ends);
  }
    where
      go : (xs : List Val) (t : List ℕ) → Ends t → (others : List Val) × (xs ≡ done ++ others) × SpellsEach depth others left t → (others : List Val) × (xs ≡ (done ++ x ∷ []) ++ others) × SpellsEach depth others next t
      go xs t ends ([], same, each) = absurd (omega (arith, each.some))
      go xs t ends (y ∷ [], same, each) =
          let first = first_of_each depth y [] left t each ends in
          let found = only y t first.0 first.1 in absurd (ends.last next (sym found.1 ∙ comma))
      go xs t ends (y ∷ z ∷ zs, same, each) =
          let first = first_of_each depth y (z ∷ zs) left t each ends in
          let found = only y (later (z ∷ zs) ++ t) first.0 first.1 in (
            z ∷ zs,
            same ∙ ap (λ v. done ++ v ∷ z ∷ zs) (sym found.0) ∙ sym (append_assoc done (x ∷ []) (z ∷ zs)),
            record { values = tail_values y (z ∷ zs) each.values; some = omega arith; nested = omega (arith, each.nested); is = after_comma next (separated (map value_text (z ∷ zs)) ++ t) (sym comma ∙ found.1) },
          )

  pub all_read : SpellsEach depth (done ++ x ∷ []) bytes rest
  all_read = record {
    values = AreValues-push done x before.values here.value;
    some = omega (arith, length-push done);
    nested = deepest-push done x depth before.nested here.nested;
    is = before.is ∙ ap (λ t. earlier done ++ t) here.is ∙ sym (append_assoc (earlier done) (value_text x) rest) ∙ ap (λ t. t ++ rest) (separated-push done x);
  }
    where
      length-push : (ys : List Val) → 0 < length (ys ++ x ∷ [])
      length-push [] = omega arith
      length-push (y ∷ ys) = omega arith

  pub only_these : ((next : List ℕ) → rest ≡ codes ", " ++ next → ⊥) → (xs : List Val) (t : List ℕ) → SpellsEach depth xs bytes t → Ends t → (done ++ x ∷ [] ≡ xs) × (rest ≡ t)
  only_these last xs t spelled ends = go (before.only xs t spelled ends)
    where
      go : (others : List Val) × (xs ≡ done ++ others) × SpellsEach depth others left t → (done ++ x ∷ [] ≡ xs) × (rest ≡ t)
      go ([], same, each) = absurd (omega (arith, each.some))
      go (y ∷ [], same, each) =
          let first = first_of_each depth y [] left t each ends in
          let found = only y t first.0 first.1 in
          (ap (λ v. done ++ v ∷ []) found.0 ∙ sym same, found.1)
      go (y ∷ z ∷ zs, same, each) =
          let first = first_of_each depth y (z ∷ zs) left t each ends in
          let found = only y (later (z ∷ zs) ++ t) first.0 first.1 in
          absurd (last (separated (map value_text (z ∷ zs)) ++ t) found.1)

-- the kept list, with one more value
pub vals-push : (kept new : List Value) (v : Value) → new ≡ kept ++ v ∷ [] → vals new ≡ vals kept ++ val_of v ∷ []
vals-push kept new v is = ap vals is ∙ map-append val_of kept (v ∷ [])

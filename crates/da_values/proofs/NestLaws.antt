-- Tuples and sets: what stands between their brackets.
use Rattle.std.specs.Prelude.{◌≡◌, ◌⊎◌, ℕ, zero, suc, ◌+◌, ◌-◌, ◌≤◌, true, List, [], ◌∷◌, ◌++◌, codes, length, map, refl}
use Rattle.std.proofs.Common.{◌∙◌, ap, sym, subst, inl, inr, arith, append_assoc}
use Rattle.std.proofs.lemmas.Bool.{false≢true}
use Rattle.da_values.specs.declared.val.Val.{Val}
use Rattle.da_values.specs.declared.val.Val.TheVariants as val
use Rattle.da_values.specs.declared.value.Value.{Value}
use Rattle.da_values.specs.declared.value.Value.TheVariants.{Tuple, Set}
use Rattle.da_values.specs.Nesting.{deepest, nesting}
use Rattle.da_values.specs.Order.{val_cmp}
use Rattle.da_values.specs.Proper.{AreValues, none, tuple, set}
use Rattle.da_values.specs.Reading.{is_stop, Spells, SpellsEach, Ends}
use Rattle.da_values.specs.Sets.{Ascends}
use Rattle.da_values.specs.Text.{value_text, separated, closing}
use Rattle.da_values.specs.Value.{vals}
use Rattle.da_values.proofs.FoldsAt.{nesting_of}
use Rattle.da_values.proofs.ItemLaws.{first_of_each}
use Rattle.da_values.proofs.ReadLaws.{proper_at, no_stop_spelled}
use Rattle.da_values.proofs.TextLemmas.{value_text_of}
use Rattle.da_values.proofs.WordLaws.{first_same}

-- the values stand after an opening bracket, and then the ending
pub record Inside (depth : ℕ) (xs : List Val) (bytes ending : List ℕ) : Type 0 where
  pub values : AreValues xs
  pub nested : 1 + deepest (map nesting xs) ≤ depth
  pub is : bytes ≡ separated (map value_text xs) ++ ending

rest_same : (a b : ℕ) (xs ys : List ℕ) → a ∷ xs ≡ b ∷ ys → xs ≡ ys
rest_same a b xs ys e = cc

-- endings
pub tuple_ends : (texts : List (List ℕ)) (t : List ℕ) → Ends (closing texts ++ t)
tuple_ends [] t = record { stops = refl; last = λ next e. omega (arith, first_same 41 44 t (32 ∷ next) e) }
tuple_ends (x ∷ []) t = record { stops = refl; last = λ next e. omega (arith, first_same 41 32 t next (rest_same 44 44 (41 ∷ t) (32 ∷ next) e)) }
tuple_ends (x ∷ y ∷ ys) t = record { stops = refl; last = λ next e. omega (arith, first_same 41 44 t (32 ∷ next) e) }

pub set_ends : (t : List ℕ) → Ends (codes "}" ++ t)
set_ends t = record { stops = refl; last = λ next e. omega (arith, first_same 125 44 t (32 ∷ next) e) }

pub closing_same : (texts : List (List ℕ)) (s t : List ℕ) → closing texts ++ s ≡ closing texts ++ t → s ≡ t
closing_same [] s t e = cc
closing_same (x ∷ []) s t e = cc
closing_same (x ∷ y ∷ ys) s t e = cc

-- between the brackets
pub tuple_inside : (depth : ℕ) (parts : List Val) (bytes t : List ℕ) → Spells depth (val.Tuple parts) (40 ∷ bytes) t → Inside depth parts bytes (closing (map value_text parts) ++ t)
tuple_inside depth parts bytes t spelled = record {
  values = proper_at (Tuple parts) spelled.value;
  nested = omega (arith, spelled.nested, nesting_of (Tuple parts));
  is = rest_same 40 40 bytes ((separated (map value_text parts) ++ closing (map value_text parts)) ++ t) (spelled.is ∙ ap (λ s. s ++ t) (value_text_of (Tuple parts)))
      ∙ append_assoc (separated (map value_text parts)) (closing (map value_text parts)) t;
}

pub tuple_spelled : (depth : ℕ) (parts : List Val) (bytes t : List ℕ) → Inside depth parts bytes (closing (map value_text parts) ++ t) → Spells depth (val.Tuple parts) (40 ∷ bytes) t
tuple_spelled depth parts bytes t inside = record {
  value = tuple parts inside.values;
  nested = omega (arith, inside.nested, nesting_of (Tuple parts));
  is = ap (λ s. 40 ∷ s) (inside.is ∙ sym (append_assoc (separated (map value_text parts)) (closing (map value_text parts)) t)) ∙ ap (λ s. s ++ t) (sym (value_text_of (Tuple parts)));
}

pub set_inside : (depth : ℕ) (elements : List Val) (bytes t : List ℕ) → Spells depth (val.Set elements) (123 ∷ bytes) t → Inside depth elements bytes (codes "}" ++ t) × Ascends val_cmp elements
set_inside depth elements bytes t spelled =
    let proper = proper_at (Set elements) spelled.value in (
      record {
        values = proper.0;
        nested = omega (arith, spelled.nested, nesting_of (Set elements));
        is = rest_same 123 123 bytes ((separated (map value_text elements) ++ codes "}") ++ t) (spelled.is ∙ ap (λ s. s ++ t) (value_text_of (Set elements)))
            ∙ append_assoc (separated (map value_text elements)) (codes "}") t;
      },
      proper.1,
    )

pub set_spelled : (depth : ℕ) (elements : List Val) (bytes t : List ℕ) → Inside depth elements bytes (codes "}" ++ t) → Ascends val_cmp elements → Spells depth (val.Set elements) (123 ∷ bytes) t
set_spelled depth elements bytes t inside up = record {
  value = set elements inside.values up;
  nested = omega (arith, inside.nested, nesting_of (Set elements));
  is = ap (λ s. 123 ∷ s) (inside.is ∙ sym (append_assoc (separated (map value_text elements)) (codes "}") t)) ∙ ap (λ s. s ++ t) (sym (value_text_of (Set elements)));
}

-- nothing or something stands there
pub none_inside : (depth : ℕ) (bytes ending : List ℕ) → (depth ≡ 0 → ⊥) → bytes ≡ ending → Inside depth [] bytes ending
none_inside depth bytes ending some is = record { values = none; nested = go depth some; is = is }
  where
    go : (n : ℕ) → (n ≡ 0 → ⊥) → 1 ≤ n
    go zero s = absurd (s refl)
    go (suc n) s = omega arith

pub each_inside : (depth : ℕ) (xs : List Val) (bytes ending : List ℕ) → (depth ≡ 0 → ⊥) → SpellsEach (depth - 1) xs bytes ending → Inside depth xs bytes ending
each_inside depth xs bytes ending some each = record { values = each.values; nested = go depth some each.nested; is = each.is }
  where
    go : (n : ℕ) → (n ≡ 0 → ⊥) → deepest (map nesting xs) ≤ n - 1 → 1 + deepest (map nesting xs) ≤ n
    go zero s h = absurd (s refl)
    go (suc n) s h = omega (arith, h)

pub not_at_0 : (depth : ℕ) (xs : List Val) (bytes ending : List ℕ) → depth ≡ 0 → Inside depth xs bytes ending → ⊥
not_at_0 depth xs bytes ending shallow inside = omega (arith, inside.nested, shallow)

pub none_or_each : (depth : ℕ) (xs : List Val) (bytes ending : List ℕ) → Inside depth xs bytes ending → ((xs ≡ []) × (bytes ≡ ending)) ⊎ SpellsEach (depth - 1) xs bytes ending
none_or_each depth [] bytes ending inside = inl (refl, inside.is)
none_or_each depth (y ∷ ys) bytes ending inside = inr (record { values = inside.values; some = omega arith; nested = omega (arith, inside.nested); is = inside.is })

-- where a byte that may stand after a value comes first, nothing stands there
pub none_before_stop : (depth : ℕ) (xs : List Val) (b : ℕ) (rest ending : List ℕ) → is_stop b ≡ true → Ends ending → Inside depth xs (b ∷ rest) ending → (xs ≡ []) × (b ∷ rest ≡ ending)
none_before_stop depth xs b rest ending stop ends inside = go xs (none_or_each depth xs (b ∷ rest) ending inside)
  where
    go : (ys : List Val) → ((ys ≡ []) × (b ∷ rest ≡ ending)) ⊎ SpellsEach (depth - 1) ys (b ∷ rest) ending → (ys ≡ []) × (b ∷ rest ≡ ending)
    go ys (inl nothing) = nothing
    go [] (inr each) = absurd (omega (arith, each.some))
    go (y ∷ ys) (inr each) = absurd (false≢true (sym (no_stop_spelled (depth - 1) y b rest _ (first_of_each (depth - 1) y ys (b ∷ rest) ending each ends).0) ∙ stop))

-- where such a byte does not come first, something does
pub each_without : (depth : ℕ) (xs : List Val) (bytes ending : List ℕ) → (bytes ≡ ending → xs ≡ [] → ⊥) → Inside depth xs bytes ending → SpellsEach (depth - 1) xs bytes ending
each_without depth xs bytes ending other inside = elim (none_or_each depth xs bytes ending inside) [ inl nothing ↦ absurd (other nothing.1 nothing.0) | inr each ↦ each ]

-- the only values there
abbrev pub OnlyValues : ℕ → List Val → List ℕ → List ℕ → Type 0
OnlyValues depth items bytes left = (xs : List Val) (t : List ℕ) → SpellsEach depth xs bytes t → Ends t → (items ≡ xs) × (left ≡ t)

module _ (depth : ℕ) (bytes : List ℕ) where
  -- tuples
  pub empty_tuple : (parts : List Val) (rest : List ℕ) → (depth ≡ 0 → ⊥) → parts ≡ [] → bytes ≡ codes ")" ++ rest → Spells depth (val.Tuple parts) (40 ∷ bytes) rest
  empty_tuple parts rest some empty is =
      subst (λ ps. Spells depth (val.Tuple ps) (40 ∷ bytes) rest) (sym empty) (tuple_spelled depth [] bytes rest (none_inside depth bytes (codes ")" ++ rest) some is))

  pub empty_tuple_only : (new : List Val) (rest : List ℕ) → new ≡ [] → bytes ≡ codes ")" ++ rest → (parts : List Val) (t : List ℕ) → Spells depth (val.Tuple parts) (40 ∷ bytes) t → (new ≡ parts) × (rest ≡ t)
  empty_tuple_only new rest empty is parts t spelled =
      let inside = subst (λ bs. Inside depth parts bs (closing (map value_text parts) ++ t)) is (tuple_inside depth parts bytes t spelled) in
      let nothing = none_before_stop depth parts 41 rest (closing (map value_text parts) ++ t) refl (tuple_ends (map value_text parts) t) inside in
      (empty ∙ sym nothing.0, rest_same 41 41 rest t (nothing.1 ∙ ap (λ ps. closing (map value_text ps) ++ t) nothing.0))

  pub tuple_each : ((r : List ℕ) → bytes ≡ codes ")" ++ r → ⊥) → (parts : List Val) (t : List ℕ) → Spells depth (val.Tuple parts) (40 ∷ bytes) t → SpellsEach (depth - 1) parts bytes (closing (map value_text parts) ++ t)
  tuple_each unended parts t spelled =
      each_without depth parts bytes (closing (map value_text parts) ++ t) (λ e empty. unended t (e ∙ ap (λ ps. closing (map value_text ps) ++ t) empty)) (tuple_inside depth parts bytes t spelled)

  pub tuple_found : (items row : List Val) (left rest : List ℕ) → (depth ≡ 0 → ⊥) → row ≡ items → SpellsEach (depth - 1) items bytes left → left ≡ closing (map value_text items) ++ rest → Spells depth (val.Tuple row) (40 ∷ bytes) rest
  tuple_found items row left rest some same each closed =
      subst (λ ps. Spells depth (val.Tuple ps) (40 ∷ bytes) rest) (sym same)
      (tuple_spelled depth items bytes rest (each_inside depth items bytes (closing (map value_text items) ++ rest) some (subst (SpellsEach (depth - 1) items bytes) closed each)))

  pub tuple_only : (items row : List Val) (left rest : List ℕ) → ((r : List ℕ) → bytes ≡ codes ")" ++ r → ⊥) → row ≡ items → OnlyValues (depth - 1) items bytes left → left ≡ closing (map value_text items) ++ rest → (parts : List Val) (t : List ℕ) → Spells depth (val.Tuple parts) (40 ∷ bytes) t → (row ≡ parts) × (rest ≡ t)
  tuple_only items row left rest unended same only closed parts t spelled =
      let found = only parts (closing (map value_text parts) ++ t) (tuple_each unended parts t spelled) (tuple_ends (map value_text parts) t) in
      (same ∙ found.0, closing_same (map value_text parts) rest t (ap (λ ps. closing (map value_text ps) ++ rest) (sym found.0) ∙ sym closed ∙ found.1))

  pub unclosed_tuple : (items : List Val) (left : List ℕ) → ((r : List ℕ) → bytes ≡ codes ")" ++ r → ⊥) → OnlyValues (depth - 1) items bytes left → ((r : List ℕ) → left ≡ closing (map value_text items) ++ r → ⊥) → (parts : List Val) (t : List ℕ) → Spells depth (val.Tuple parts) (40 ∷ bytes) t → ⊥
  unclosed_tuple items left unended only unclosed parts t spelled =
      let found = only parts (closing (map value_text parts) ++ t) (tuple_each unended parts t spelled) (tuple_ends (map value_text parts) t) in
      unclosed t (found.1 ∙ ap (λ ps. closing (map value_text ps) ++ t) (sym found.0))

  -- sets
  pub empty_set : (elements : List Val) (rest : List ℕ) → (depth ≡ 0 → ⊥) → elements ≡ [] → bytes ≡ codes "}" ++ rest → Spells depth (val.Set elements) (123 ∷ bytes) rest
  empty_set elements rest some empty is =
      subst (λ es. Spells depth (val.Set es) (123 ∷ bytes) rest) (sym empty) (set_spelled depth [] bytes rest (none_inside depth bytes (codes "}" ++ rest) some is) tt)

  pub empty_set_only : (new : List Val) (rest : List ℕ) → new ≡ [] → bytes ≡ codes "}" ++ rest → (elements : List Val) (t : List ℕ) → Spells depth (val.Set elements) (123 ∷ bytes) t → (new ≡ elements) × (rest ≡ t)
  empty_set_only new rest empty is elements t spelled =
      let inside = subst (λ bs. Inside depth elements bs (codes "}" ++ t)) is (set_inside depth elements bytes t spelled).0 in
      let nothing = none_before_stop depth elements 125 rest (codes "}" ++ t) refl (set_ends t) inside in
      (empty ∙ sym nothing.0, rest_same 125 125 rest t nothing.1)

  pub set_each : ((r : List ℕ) → bytes ≡ codes "}" ++ r → ⊥) → (elements : List Val) (t : List ℕ) → Spells depth (val.Set elements) (123 ∷ bytes) t → SpellsEach (depth - 1) elements bytes (codes "}" ++ t)
  set_each unended elements t spelled = each_without depth elements bytes (codes "}" ++ t) (λ e empty. unended t e) (set_inside depth elements bytes t spelled).0

  pub set_found : (items new : List Val) (left rest : List ℕ) → (depth ≡ 0 → ⊥) → new ≡ items → SpellsEach (depth - 1) items bytes left → left ≡ codes "}" ++ rest → Ascends val_cmp items → Spells depth (val.Set new) (123 ∷ bytes) rest
  set_found items new left rest some same each closed up =
      subst (λ es. Spells depth (val.Set es) (123 ∷ bytes) rest) (sym same)
      (set_spelled depth items bytes rest (each_inside depth items bytes (codes "}" ++ rest) some (subst (SpellsEach (depth - 1) items bytes) closed each)) up)

  module _ (items : List Val) (left : List ℕ) (unended : (r : List ℕ) → bytes ≡ codes "}" ++ r → ⊥) (only : OnlyValues (depth - 1) items bytes left) where
    these : (elements : List Val) (t : List ℕ) → Spells depth (val.Set elements) (123 ∷ bytes) t → (items ≡ elements) × (left ≡ codes "}" ++ t)
    these elements t spelled = only elements (codes "}" ++ t) (set_each unended elements t spelled) (set_ends t)

    pub set_only : (new : List Val) (rest : List ℕ) → new ≡ items → left ≡ codes "}" ++ rest → (elements : List Val) (t : List ℕ) → Spells depth (val.Set elements) (123 ∷ bytes) t → (new ≡ elements) × (rest ≡ t)
    set_only new rest same closed elements t spelled =
        let found = these elements t spelled in (same ∙ found.0, rest_same 125 125 rest t (sym closed ∙ found.1))

    pub unclosed_set : ((r : List ℕ) → left ≡ codes "}" ++ r → ⊥) → (elements : List Val) (t : List ℕ) → Spells depth (val.Set elements) (123 ∷ bytes) t → ⊥
    unclosed_set unclosed elements t spelled = unclosed t (these elements t spelled).1

    pub unsorted_set : (Ascends val_cmp items → ⊥) → (elements : List Val) (t : List ℕ) → Spells depth (val.Set elements) (123 ∷ bytes) t → ⊥
    unsorted_set unsorted elements t spelled = unsorted (subst (Ascends val_cmp) (sym (these elements t spelled).0) (set_inside depth elements bytes t spelled).1)

pub length-texts : (values : List Value) → length (map value_text (vals values)) ≡ length values
length-texts [] = refl
length-texts (v ∷ vs) = omega (arith, length-texts vs)

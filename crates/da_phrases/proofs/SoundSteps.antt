-- Taking apart what was read, step by step. Each lemma hands what a step read to the proof of what follows, so that a proof
-- speaks of variables and its terms stay small.
use Rattle.std.proofs.Common.{◌≡◌, ℕ, Bool, true, false, List, length, Ok, Err, refl, subst, inl, inr}
use Rattle.std.specs.Prelude.{if◌then◌else◌}
use Rattle.da_values.specs.declared.token.Mark.{Mark}
use Rattle.da_values.specs.declared.token.Mark.TheVariants as m
use Rattle.da_values.specs.Marks.{Tok}
use Rattle.da_lang.specs.Spelling.{Spelling, Room, At, Opens, Named, Number, Quoted}
use Rattle.da_phrases.specs.Reader as reader
use Rattle.da_phrases.specs.Reader.{rest, sees, Reading, Reader, continued, after_token, expect, word}
use Rattle.da_phrases.specs.Place as place
use Rattle.da_phrases.proofs.Steps.{after_ok, expect_ok, word_ok, number_ok, quoted_ok, opens_ok, opening_ok}

-- something was read, and what follows was read after it
pub reads : {A B C : Type 0} (o : Reading A) (f : A → Reader B) (y : B × List Tok) → continued f o ≡ Ok y → ((x : A) (r : List Tok) → o ≡ Ok (x, r) → f x r ≡ Ok y → C) → C
reads (Ok (x, r)) f y e next = next x r refl e
reads (Err s) f y e next = cc

-- the tokens spell what was made of them
pub made : {A : Type 0} (G : Spelling A) (t : List Tok) {x : A} {r : List Tok} (y : A × List Tok) → ◌≡◌ {A = Reading A} (Ok (x, r)) (Ok y) → G x t r → G y.0 t y.1
made {A} G t y e h = subst (λ (z : A × List Tok). G z.0 t z.1) (cc) h

-- a token of this mark was passed
pub passes : {B C : Type 0} (k : Mark) (i : List Tok) (f : Unit {0} → Reader B) (y : B × List Tok) → continued f (expect k i) ≡ Ok y → ((r : List Tok) → At k i r → f tt r ≡ Ok y → C) → C
passes k i f y e next = reads (expect k i) f y e (λ x r read later. next r (expect_ok k i (x, r) read) later)

-- a token of this mark was passed, or there is none
pub passes_or : {B C : Type 0} (k : Mark) (p q : Reader B) (i : List Tok) (y : B × List Tok) → after_token k p q i ≡ Ok y
    → ((r : List Tok) → At k i r → p r ≡ Ok y → C) → (sees k i ≡ false → q i ≡ Ok y → C) → C
passes_or k p q i y e there missing = elim (after_ok k p q i y e) [ inl h ↦ there h.0 h.1 h.2 | inr h ↦ missing h.0 h.1 ]

pub names : {B C : Type 0} (i : List Tok) (f : List ℕ → Reader B) (y : B × List Tok) → continued f (word m.Name i) ≡ Ok y → ((b : List ℕ) (r : List Tok) → Named b i r → f b r ≡ Ok y → C) → C
names i f y e next = reads (word m.Name i) f y e (λ x r read later. next x r (word_ok i (x, r) read) later)

pub numbers : {B C : Type 0} (i : List Tok) (f : ℕ → Reader B) (y : B × List Tok) → continued f (reader.number i) ≡ Ok y → ((n : ℕ) (r : List Tok) → Number n i r → f n r ≡ Ok y → C) → C
numbers i f y e next = reads (reader.number i) f y e (λ x r read later. next x r (number_ok i (x, r) read) later)

pub quotes : {B C : Type 0} (i : List Tok) (f : List ℕ → Reader B) (y : B × List Tok) → continued f (reader.quoted i) ≡ Ok y → ((b : List ℕ) (r : List Tok) → Quoted b i r → f b r ≡ Ok y → C) → C
quotes i f y e next = reads (reader.quoted i) f y e (λ x r read later. next x r (quoted_ok i (x, r) read) later)

-- where the rule of the reader allows what that of the grammar does
module _ (may_open : ℕ → Bool) (room : Room) (fits : (t : List Tok) → may_open (length t) ≡ true → room t) where
  -- a token that is there opened one thing more
  pub opened_by : {B C : Type 0} (k : Mark) (i : List Tok) (f : Unit {0} → Reader B) (y : B × List Tok) → At k i (rest i) → continued f (place.opens may_open i) ≡ Ok y
      → ((r : List Tok) → Opens k room i r → f tt r ≡ Ok y → C) → C
  opened_by k i f y there e next = reads (place.opens may_open i) f y e (λ x r read later. next r (opens_ok may_open room fits k i (x, r) there read) later)

  -- a token of this mark opened one thing more
  pub opening_by : {B C : Type 0} (k : Mark) (i : List Tok) (f : Unit {0} → Reader B) (y : B × List Tok) → continued f (place.opening may_open k i) ≡ Ok y
      → ((r : List Tok) → Opens k room i r → f tt r ≡ Ok y → C) → C
  opening_by k i f y e next = reads (place.opening may_open k i) f y e (λ x r read later. next r (opening_ok may_open room fits k i (x, r) read) later)

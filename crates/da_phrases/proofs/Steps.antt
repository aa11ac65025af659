-- What the steps of a reader tell, and what tells that they go through.
use Rattle.std.proofs.Common.{◌≡◌, ℕ, ◌<◌, Bool, true, false, List, [], ◌∷◌, length, Option, Some, None, Ok, Err, refl, sym, ap, ◌∙◌, subst, rules, arith, inl, inr}
use Rattle.std.specs.Prelude.{if◌then◌else◌, ◌⊎◌}
use denote.Enum.Bare.{same_true, same_false, true_same}
use Rattle.da_values.specs.contracts.token.Mark.{the_type}
use Rattle.da_values.specs.declared.token.Mark.{Mark}
use Rattle.da_values.specs.declared.token.Mark.TheVariants as m
use Rattle.da_values.specs.Marks.{Tok}
use Rattle.da_values.specs.Piece.{number_of}
use Rattle.da_lang.specs.Literals.{text_of}
use Rattle.da_lang.specs.Spelling.{Room, At, at, Opens, opens, NotAt, not_at, Named, named, Number, number, Quoted, quoted}
use Rattle.da_phrases.specs.declared.cursor.Stop.TheVariants.{Deep}
use Rattle.da_phrases.specs.Reader as reader
use Rattle.da_phrases.specs.Reader.{same, mark, text, rest, rest_if, is_mark, sees, Reading, Reader, continued, refuse, past, taking, after_token, expect, word, stands_for}
use Rattle.da_phrases.specs.Place as place

pub same_marks : (a b : Mark) → same a b ≡ true → a ≡ b
same_marks a b e = same_true the_type (search rules) a b e

-- something was read, and what follows was read after it
pub went_on : {A B : Type 0} (o : Reading A) (f : A → Reader B) (y : B × List Tok) → continued f o ≡ Ok y → (p : A × List Tok) × (o ≡ Ok p) × (f p.0 p.1 ≡ Ok y)
went_on (Ok p) f y e = (p, refl, e)
went_on (Err s) f y e = cc

pub chosen : {B : Type 0} (b : Bool) (p q : Reader B) (i : List Tok) (y : B × List Tok) → (if b then p else q) i ≡ Ok y → ((b ≡ true) × (p i ≡ Ok y)) ⊎ ((b ≡ false) × (q i ≡ Ok y))
chosen true p q i y e = inl (refl, e)
chosen false p q i y e = inr (refl, e)

pub chosen_value : {X : Type 0} (b : Bool) (p q y : X) → (if b then p else q) ≡ y → ((b ≡ true) × (p ≡ y)) ⊎ ((b ≡ false) × (q ≡ y))
chosen_value true p q y e = inl (refl, e)
chosen_value false p q y e = inr (refl, e)

pub bool_cases : (b : Bool) → (b ≡ true) ⊎ (b ≡ false)
bool_cases true = inl refl
bool_cases false = inr refl

-- what a reading leaves, and what was read, where something was
abbrev pub left : {A : Type 0} → Reading A → List Tok
left (Ok p) = p.1
left (Err e) = []

abbrev pub read_or : {A : Type 0} → A → Reading A → A
read_or a (Ok p) = p.0
read_or a (Err e) = a

-- ---- what was passed

pub At-sees : (k : Mark) (i : List Tok) → sees k i ≡ true → At k i (rest i)
unfolding sees
At-sees k [] e = cc
At-sees k (t ∷ r) e = at (same_marks t.mark k e)

pub At-mark : (k : Mark) (i : List Tok) → mark i ≡ Some k → At k i (rest i)
At-mark k [] e = cc
At-mark k (t ∷ r) e = at (cc)

pub Named-mark : (i : List Tok) → mark i ≡ Some m.Name → Named (text i) i (rest i)
Named-mark [] e = cc
Named-mark (t ∷ r) e = named (cc)

-- a token of this mark was passed, or there is none
pub after_ok : {B : Type 0} (k : Mark) (p q : Reader B) (i : List Tok) (y : B × List Tok) → after_token k p q i ≡ Ok y
    → ((r : List Tok) × At k i r × (p r ≡ Ok y)) ⊎ ((sees k i ≡ false) × (q i ≡ Ok y))
after_ok k p q i y e = elim (chosen (sees k i) p q (rest_if (sees k i) i) y e) [
  | inl h ↦ inl (rest i, At-sees k i h.0, sym (ap (λ b. p (rest_if b i)) h.0) ∙ h.1)
  | inr h ↦ inr (h.0, sym (ap (λ b. q (rest_if b i)) h.0) ∙ h.1)
]

pub expect_ok : (k : Mark) (i : List Tok) (y : Unit {0} × List Tok) → expect k i ≡ Ok y → At k i y.1
unfolding expect
expect_ok k i y e = elim (chosen_value (sees k i) (Ok (tt, rest i)) (refuse i) (Ok y) e) [
  | inl h ↦ (let passed : rest i ≡ y.1 = ap (λ (o : Reading (Unit {0})). left o) h.1 in subst (At k i) passed (At-sees k i h.0))
  | inr h ↦ cc
]

Named-sees : (i : List Tok) → sees m.Name i ≡ true → Named (text i) i (rest i)
unfolding sees
Named-sees [] e = cc
Named-sees (t ∷ r) e = named (same_marks t.mark m.Name e)

pub word_ok : (i : List Tok) (y : List ℕ × List Tok) → word m.Name i ≡ Ok y → Named y.0 i y.1
unfolding word
word_ok i y e = elim (chosen_value (sees m.Name i) (Ok (text i, rest i)) (refuse i) (Ok y) e) [
  | inl h ↦ subst (λ (z : List ℕ × List Tok). Named z.0 i z.1) (cc) (Named-sees i h.0)
  | inr h ↦ cc
]

stands_ok : {A : Type 0} (o : Option A) (i : List Tok) (y : A × List Tok) → stands_for o i ≡ Ok y → (o ≡ Some y.0) × (rest i ≡ y.1)
stands_ok (Some a) i y e = (ap (λ z. Some (read_or a z)) e, ap left e)
stands_ok None i y e = cc

Number-sees : (i : List Tok) (n : ℕ) → sees m.Number i ≡ true → number_of (text i) ≡ Some n → Number n i (rest i)
unfolding sees
Number-sees [] n e is = cc
Number-sees (t ∷ r) n e is = number (same_marks t.mark m.Number e) is

pub number_ok : (i : List Tok) (y : ℕ × List Tok) → reader.number i ≡ Ok y → Number y.0 i y.1
unfolding reader.number
number_ok i y e = elim (chosen_value (sees m.Number i) (stands_for (number_of (text i)) i) (refuse i) (Ok y) e) [
  | inl h ↦ (let (is, passed) = stands_ok (number_of (text i)) i y h.1 in subst (Number y.0 i) passed (Number-sees i y.0 h.0 is))
  | inr h ↦ cc
]

Quoted-sees : (i : List Tok) (b : List ℕ) → sees m.Quoted i ≡ true → text_of (text i) ≡ Some b → Quoted b i (rest i)
unfolding sees
Quoted-sees [] b e is = cc
Quoted-sees (t ∷ r) b e is = quoted (same_marks t.mark m.Quoted e) is

pub quoted_ok : (i : List Tok) (y : List ℕ × List Tok) → reader.quoted i ≡ Ok y → Quoted y.0 i y.1
unfolding reader.quoted
quoted_ok i y e = elim (chosen_value (sees m.Quoted i) (stands_for (text_of (text i)) i) (refuse i) (Ok y) e) [
  | inl h ↦ (let (is, passed) = stands_ok (text_of (text i)) i y h.1 in subst (Quoted y.0 i) passed (Quoted-sees i y.0 h.0 is))
  | inr h ↦ cc
]

-- a token opened one thing more, where the rule of the reader allows what that of the grammar does
pub opens_ok : (may_open : ℕ → Bool) (room : Room) (fits : (t : List Tok) → may_open (length t) ≡ true → room t) (k : Mark) (i : List Tok) (y : Unit {0} × List Tok)
    → At k i (rest i) → place.opens may_open i ≡ Ok y → Opens k room i y.1
unfolding place.opens
opens_ok may_open room fits k i y there e = elim (chosen_value (may_open (length i)) (Ok (tt, rest i)) (Err (Deep (length i))) (Ok y) e) [
  | inl h ↦ (let passed : rest i ≡ y.1 = ap (λ (o : Reading (Unit {0})). left o) h.1 in subst (Opens k room i) passed (opens (fits i h.0) there))
  | inr h ↦ cc
]

pub opening_ok : (may_open : ℕ → Bool) (room : Room) (fits : (t : List Tok) → may_open (length t) ≡ true → room t) (k : Mark) (i : List Tok) (y : Unit {0} × List Tok)
    → place.opening may_open k i ≡ Ok y → Opens k room i y.1
unfolding place.opening
opening_ok may_open room fits k i y e = elim (chosen_value (sees k i) (place.opens may_open i) (refuse i) (Ok y) e) [
  | inl h ↦ opens_ok may_open room fits k i y (At-sees k i h.0) h.1
  | inr h ↦ cc
]

-- the next token has another mark
pub NotAt-sees : (k : Mark) (i : List Tok) (t : Tok) (r : List Tok) → i ≡ t ∷ r → sees k i ≡ false → NotAt k i
unfolding sees
NotAt-sees k i t r is e = subst (NotAt k) (sym is) (not_at (λ same_mark. same_false the_type t.mark k (ap (λ z. is_mark k (mark z)) (sym is) ∙ e) same_mark))

-- ---- what is there is passed

pub mark-At : {k : Mark} {i r : List Tok} → At k i r → mark i ≡ Some k
mark-At (at e) = ap Some e

pub shorter-At : {k : Mark} {i r : List Tok} → At k i r → length r < length i
shorter-At (at e) = omega arith

pub rest-At : {k : Mark} {i r : List Tok} → At k i r → rest i ≡ r
rest-At (at e) = refl

pub sees-At : {k : Mark} {i r : List Tok} → At k i r → sees k i ≡ true
unfolding sees
sees-At {k} (at {t} {r} e) = true_same the_type t.mark k e

pub behind_is : {B : Type 0} {k : Mark} {i r : List Tok} (p q : Reader B) → At k i r → after_token k p q i ≡ p r
behind_is {k = k} {i = i} {r = r} p q h = ap (λ b. (if b then p else q) (rest_if b i)) (sees-At h) ∙ ap p (rest-At h)

pub after_not : {B : Type 0} (k : Mark) {i : List Tok} (p q : Reader B) → sees k i ≡ false → after_token k p q i ≡ q i
after_not k {i} p q h = ap (λ b. (if b then p else q) (rest_if b i)) h

pub expect_is : {k : Mark} {i r : List Tok} → At k i r → expect k i ≡ Ok (tt, r)
unfolding expect
expect_is {k} {i} {r} h = ap (λ b. if b then Ok (tt, rest i) else refuse i) (sees-At h) ∙ ap (λ z. Ok (tt, z)) (rest-At h)

-- the next token has this mark, and so no other
pub not_seen : (k : Mark) {l : Mark} {i r : List Tok} → At l i r → same l k ≡ false → sees k i ≡ false
unfolding sees
not_seen k {l} {i} {r} h d = ap (is_mark k) (mark-At h) ∙ d

pub mark-Opens : {k : Mark} {room : Room} {i r : List Tok} → Opens k room i r → mark i ≡ Some k
mark-Opens (opens some h) = mark-At h

pub At-Opens : {k : Mark} {room : Room} {i r : List Tok} → Opens k room i r → At k i r
At-Opens (opens some h) = h

pub room-Opens : {k : Mark} {room : Room} {i r : List Tok} → Opens k room i r → room i
room-Opens (opens some h) = some

pub opens_is : (may_open : ℕ → Bool) {room : Room} (allows : (t : List Tok) → room t → may_open (length t) ≡ true) {k : Mark} {i r : List Tok} → Opens k room i r → place.opens may_open i ≡ Ok (tt, r)
unfolding place.opens
opens_is may_open allows {k} {i} {r} (opens some h) = ap (λ b. if b then Ok (tt, rest i) else Err (Deep (length i))) (allows i some) ∙ ap (λ z. Ok (tt, z)) (rest-At h)

pub opening_is : (may_open : ℕ → Bool) {room : Room} (allows : (t : List Tok) → room t → may_open (length t) ≡ true) {k : Mark} {i r : List Tok} → Opens k room i r → place.opening may_open k i ≡ Ok (tt, r)
unfolding place.opening
opening_is may_open allows {k} {i} {r} h = ap (λ b. if b then place.opens may_open i else refuse i) (sees-At (At-Opens h)) ∙ opens_is may_open allows h

pub word_is : {b : List ℕ} {i r : List Tok} → Named b i r → word m.Name i ≡ Ok (b, r)
unfolding word sees
word_is (named {t} {r} e) = ap (λ c. if c then Ok (text (t ∷ r), r) else refuse (t ∷ r)) (true_same the_type t.mark m.Name e)

pub number_is : {n : ℕ} {i r : List Tok} → Number n i r → reader.number i ≡ Ok (n, r)
unfolding reader.number sees
number_is (number {n} {t} {r} e is) =
    ap (λ c. (if c then stands_for (number_of t.text) (t ∷ r) else refuse (t ∷ r))) (true_same the_type t.mark m.Number e) ∙ ap (λ o. stands_for o (t ∷ r)) is

pub quoted_is : {b : List ℕ} {i r : List Tok} → Quoted b i r → reader.quoted i ≡ Ok (b, r)
unfolding reader.quoted sees
quoted_is (quoted {b} {t} {r} e is) =
    ap (λ c. (if c then stands_for (text_of t.text) (t ∷ r) else refuse (t ∷ r))) (true_same the_type t.mark m.Quoted e) ∙ ap (λ o. stands_for o (t ∷ r)) is

pub mark-Named : {b : List ℕ} {i r : List Tok} → Named b i r → mark i ≡ Some m.Name
mark-Named (named e) = ap Some e

pub mark-Number : {n : ℕ} {i r : List Tok} → Number n i r → mark i ≡ Some m.Number
mark-Number (number e is) = ap Some e

pub mark-Quoted : {b : List ℕ} {i r : List Tok} → Quoted b i r → mark i ≡ Some m.Quoted
mark-Quoted (quoted e is) = ap Some e

pub shorter-Named : {b : List ℕ} {i r : List Tok} → Named b i r → length r < length i
shorter-Named (named e) = omega arith

pub shorter-Number : {n : ℕ} {i r : List Tok} → Number n i r → length r < length i
shorter-Number (number e is) = omega arith

pub shorter-Quoted : {b : List ℕ} {i r : List Tok} → Quoted b i r → length r < length i
shorter-Quoted (quoted e is) = omega arith

pub taking_is : {A : Type 0} {b : List ℕ} {i r : List Tok} (f : List ℕ → Reader A) → Named b i r → taking f i ≡ f b r
taking_is f (named e) = refl

-- a token of this mark that is passed
pub past_is : {A : Type 0} {k : Mark} {i r : List Tok} (p : Reader A) → At k i r → past p i ≡ p r
past_is p (at e) = refl

-- What is shown of a reader, so that the place where it stops tells what can stand there: that what it reads may stand before
-- anything, that what stands before the place where it stops can be completed, and that another reader stops there too on all
-- tokens that are the same up to and with the next one.
use Rattle.std.proofs.Common.{◌≡◌, ℕ, zero, suc, ◌≤◌, ◌<◌, Bool, true, false, List, [], ◌∷◌, ◌++◌, length, Option, Some, None, Ok, Err, refl, sym, ap, ◌∙◌, subst, arith, inl, inr}
use Rattle.std.specs.Prelude.{◌⊎◌, nat_lt}
use Rattle.da_values.specs.declared.token.Mark.{Mark}
use Rattle.da_values.specs.Marks.{Tok}
use Rattle.da_lang.specs.Spelling.{Spelling, Room}
use Rattle.da_phrases.specs.declared.cursor.Stop.{Stop}
use Rattle.da_phrases.specs.declared.cursor.Stop.TheVariants.{Memory, Syntax, Deep}
use Rattle.da_phrases.specs.Reader.{mark, text, line, Reading, Reader}
use Rattle.da_phrases.specs.Place.{Limit}
use Rattle.da_phrases.proofs.Samples.{onto}

-- the tokens from the first list up to the second are those from the third up to the fourth
pub data Shifted : List Tok → List Tok → List Tok → List Tok → Type 0 where
  here : {r s : List Tok} → Shifted r r s s
  behind : {t : Tok} {i r j s : List Tok} → Shifted i r j s → Shifted (t ∷ i) r (t ∷ j) s

pub onwards : {i r j s q k : List Tok} → Shifted i r j s → Shifted r q s k → Shifted i q j k
onwards here b = b
onwards (behind a) b = behind (onwards a b)

pub not_longer : {i r j s : List Tok} → Shifted i r j s → length r ≤ length i
not_longer here = omega arith
not_longer (behind a) = omega (arith, not_longer a)

-- ---- where one more thing may be opened

-- After the first so many tokens from the end anything may be opened, before them only where fewer things are open; or
-- anything may be opened anywhere.
abbrev pub room_of : ℕ → Bool → ℕ → ℕ → Room
room_of most false n d t = n < length t → d < most
room_of most true n d t = Unit {0}

pub room_few : (most : ℕ) (wide : Bool) (n d : ℕ) (t : List Tok) → d < most → room_of most wide n d t
room_few most false n d t few = λ _. few
room_few most true n d t few = tt

pub room_late : (most : ℕ) (wide : Bool) (n d : ℕ) (t : List Tok) → length t ≤ n → room_of most wide n d t
room_late most false n d t late = λ less. absurd (omega (arith, late, less))
room_late most true n d t late = tt

-- ---- a reader and what it may read

-- a relation of the grammar by the rule of what may be opened
abbrev pub Rule : Type 0 → Type 1
Rule A = (ℕ → Room) → Spelling A

abbrev pub Anywhere : List Tok → Type 0
Anywhere i = Unit {0}

-- The place that a stop tells, by the tokens from it on; or the place after its token, which opened one thing too many. There
-- is such a token, so that anything holds where there is none.
abbrev pub Placed : Bool → Stop → ℕ → Type 0
Placed false (Syntax left) k = left ≡ k
Placed false (Deep left) k = left ≡ k
Placed true (Deep left) k = (left ≡ suc k) ⊎ (left ≡ 0)
Placed _ _ k = ⊥

-- tokens of these marks spell it
pub record Makes (most : ℕ) (w : List Mark) {A : Type 0} (G : Rule A) : Type 0 where
  pub of : (wide : Bool) (n : ℕ) (s : List Tok) → length (onto w s) ≤ n → (x : A) × G (room_of most wide n) x (onto w s) s

-- what stands before the place with so many tokens left can be completed by tokens of some marks
abbrev pub Completed : ℕ → Bool → {A : Type 0} → Rule A → List Tok → ℕ → Type 0
Completed most wide {A} G i k = (r : List Tok) × (w : List Mark) × (k ≡ length r)
    × ((n : ℕ) (s : List Tok) → length (onto w s) ≤ n → (x : A) × (j : List Tok) × Shifted i r j (onto w s) × G (room_of most wide n) x j s)

pub record Viable (most : ℕ) {A : Type 0} (P : List Tok → Type 0) (p : Reader A) (G : Rule A) : Type 0 where
  pub moves : (i : List Tok) → P i → (y : A × List Tok) → p i ≡ Ok y → (wide : Bool) (n : ℕ) (s : List Tok) → (j : List Tok) × Shifted i y.1 j s × G (room_of most wide n) y.0 j s
  pub stops : (i : List Tok) → P i → (stop : Stop) (wide : Bool) (k : ℕ) → Placed wide stop k → p i ≡ Err stop → Completed most wide G i k

-- ---- two readers on tokens that are the same up to and with the next one

abbrev pub ahead : List Tok → Option Tok
ahead [] = None
ahead (t ∷ ts) = Some t

-- The rule of a reader that opens up to so many things, another rule, and the place up to which the tokens are the same: the
-- other rule allows what the first does, and `both` says that it allows no more at that place.
pub record Cut : Type 0 where
  pub most : ℕ
  pub wider : Limit
  pub from : List Tok
  pub to : List Tok
  pub same : ahead from ≡ ahead to
  pub both : Bool
  pub more : (d : ℕ) (i : List Tok) → d < most → wider d (length i) ≡ true
  pub no : both ≡ true → (d : ℕ) → (d < most → ⊥) → wider d (length to) ≡ false

-- the stop is at that place
abbrev pub Told : Cut → Stop → Type 0
Told c (Syntax left) = left ≡ length c.from
Told c (Deep left) = (c.both ≡ true) × (left ≡ length c.from)
Told c Memory = ⊥

-- the other reading is the same, or no token up to that place tells of it; and where the first stops there, so does it
abbrev pub Follows : Cut → {A : Type 0} → Reading A → Reading A → Type 0
Follows c {A} (Ok y) other = ((j : List Tok) × Shifted y.1 c.from j c.to × (◌≡◌ {A = Reading A} other (Ok (y.0, j)))) ⊎ (length y.1 < length c.from)
Follows c {A} (Err stop) other = Told c stop → (y : A × List Tok) → other ≡ Ok y → ⊥

abbrev pub Local : Cut → {A : Type 0} → (List Tok → Type 0) → Reader A → Reader A → Type 0
Local c P p q = (i : List Tok) → P i → (j : List Tok) → Shifted i c.from j c.to → Follows c (p i) (q j)

-- ---- both

-- under a condition Q, on tokens with P
pub record Good (c : Cut) (Q : Type 0) {A : Type 0} (P : List Tok → Type 0) (p q : Reader A) (G : Rule A) : Type 0 where
  pub viable : Q → Viable c.most P p G
  pub local : Q → Local c P p q

-- on all tokens, and tokens of these marks spell it
pub record Whole (c : Cut) (Q : Type 0) (w : List Mark) {A : Type 0} (p q : Reader A) (G : Rule A) : Type 0 where
  pub good : Good c Q Anywhere p q G
  pub makes : Makes c.most w G

-- ---- what comes after that place

abbrev pub Beyond : Cut → {A : Type 0} → Reading A → Type 0
Beyond c (Ok y) = length y.1 < length c.from
Beyond c (Err stop) = Told c stop → ⊥

pub beyond_follows : (c : Cut) {A : Type 0} (o other : Reading A) → Beyond c o → Follows c o other
beyond_follows c (Ok y) other b = inr b
beyond_follows c (Err stop) other b = λ told y e. b told

told_placed : (c : Cut) (stop : Stop) → Told c stop → Placed false stop (length c.from)
told_placed c (Syntax left) told = told
told_placed c (Deep left) told = told.1
told_placed c Memory told = told

viable_beyond_by : (c : Cut) {A : Type 0} (P : List Tok → Type 0) (p : Reader A) (G : Rule A) → Viable c.most P p G → (i : List Tok) → P i → length i < length c.from → (o : Reading A) → p i ≡ o → Beyond c o
viable_beyond_by c P p G v i ok less (Ok y) e = let (j, a, h) = v.moves i ok y e true 0 [] in omega (arith, not_longer a, less)
viable_beyond_by c P p G v i ok less (Err stop) e = λ told.
    let (r, w, is, go) = v.stops i ok stop false (length c.from) (told_placed c stop told) e in
    let (x, j, a, h) = go (length (onto w [])) [] (omega arith) in
    omega (arith, not_longer a, less, is)

pub viable_beyond : (c : Cut) {A : Type 0} {P : List Tok → Type 0} {p : Reader A} {G : Rule A} → Viable c.most P p G → (i : List Tok) → P i → length i < length c.from → Beyond c (p i)
viable_beyond c {P = P} {p = p} {G = G} v i ok less = viable_beyond_by c P p G v i ok less (p i) refl

pub same_ahead : (c : Cut) {i j : List Tok} → Shifted i c.from j c.to → ahead i ≡ ahead j
same_ahead c a = by_shift a c.same
  where
    by_shift : {i r j s : List Tok} → Shifted i r j s → ahead r ≡ ahead s → ahead i ≡ ahead j
    by_shift here e = e
    by_shift (behind a) e = refl

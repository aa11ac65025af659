-- Parts of a line, how they are put side by side, and what a line is then.
use Rattle.std.proofs.Common.{◌≡◌, ℕ, ◌+◌, ◌-◌, Bool, true, false, not, ◌||◌, List, [], ◌∷◌, ◌++◌, refl, sym, ap, ◌∙◌, subst, arith, append_assoc, append-nil}
use Rattle.std.specs.Prelude.{if◌then◌else◌}
use Rattle.da_values.specs.declared.token.Mark.{Mark}
use Rattle.da_unparse.specs.Pieces.{Piece, gap, token, one, between, before, each_after, joined}
use Rattle.da_unparse.specs.Printable.{Makes, opens, closes, stands_alone, begins_equal, leads, may_touch, Touch, opened, open_behind, IsPrintable}

-- What a part begins or ends with: a token; one that is neither `=` nor `==`; a gap or a token that stands alone.
pub data Side : Type 0 where
  solid : Side
  operand : Side
  loose : Side

abbrev pub is_side : Side → Piece → Bool
is_side solid gap = false
is_side solid (token k b) = true
is_side operand gap = false
is_side operand (token k b) = not (begins_equal k)
is_side loose gap = true
is_side loose (token k b) = stands_alone k

-- Pieces that stand together, whatever stands round them that touches their first and their last; all brackets are closed.
pub record Part (a z : Side) (ps : List Piece) : Type 0 where
  pub first : Piece
  pub last : Piece
  pub first_is : is_side a first ≡ true
  pub last_is : is_side z last ≡ true
  pub touch : (p : Piece) (rest : List Piece) (q : Piece) → may_touch p first ≡ true → Touch last rest q → Touch p (ps ++ rest) q
  pub closed : (n : ℕ) (rest : List Piece) → open_behind n (ps ++ rest) ≡ open_behind n rest

-- no piece, or a part
pub data Optional (a z : Side) : List Piece → Type 0 where
  none : Optional a z []
  some : {ps : List Piece} → Part a z ps → Optional a z ps

-- ---- neighbours

or_first : (x y z : Bool) → x ≡ true → (x || y || z) ≡ true
or_first true y z e = refl
or_first false y z e = absurd (cc)

or_second : (x y z : Bool) → y ≡ true → (x || y || z) ≡ true
or_second true y z e = refl
or_second false true z e = refl
or_second false false z e = absurd (cc)

pub solid_loose : (p q : Piece) → is_side solid p ≡ true → is_side loose q ≡ true → may_touch p q ≡ true
solid_loose gap q s l = absurd (cc)
solid_loose (token k b) gap s l = refl
solid_loose (token k b) (token j c) s l = or_second (stands_alone k) (stands_alone j) (leads k j) l

pub loose_solid : (p q : Piece) → is_side loose p ≡ true → is_side solid q ≡ true → may_touch p q ≡ true
loose_solid p gap l s = absurd (cc)
loose_solid gap (token j c) l s = refl
loose_solid (token k b) (token j c) l s = or_first (stands_alone k) (stands_alone j) (leads k j) l

-- ---- one piece

bare : (k : Mark) (n : ℕ) → opens k ≡ false → closes k ≡ false → (if opens k then n + 1 else if closes k then n - 1 else n) ≡ n
bare k n o c = rw (o, c) refl

-- a token that is no bracket
pub part : {k : Mark} {b : List ℕ} (a z : Side) → Makes k b → is_side a (token k b) ≡ true → is_side z (token k b) ≡ true → opens k ≡ false → closes k ≡ false → Part a z (one k b)
part {k} {b} a z proper f l o c = record {
  first = token k b;
  last = token k b;
  first_is = f;
  last_is = l;
  touch = λ p rest q h t. (h, proper, t);
  closed = λ n rest. ap (λ j. open_behind j rest) (bare k n o c);
}

pub gap_part : Part loose loose (gap ∷ [])
gap_part = record { first = gap; last = gap; first_is = refl; last_is = refl; touch = λ p rest q h t. (h, tt, t); closed = λ n rest. refl }

-- ---- parts side by side

pub join_at : {a y x z : Side} {ps qs : List Piece} (l : Part a y ps) (r : Part x z qs) → may_touch l.last r.first ≡ true → Part a z (ps ++ qs)
join_at {a} {y} {x} {z} {ps} {qs} l r meets = record {
  first = l.first;
  last = r.last;
  first_is = l.first_is;
  last_is = r.last_is;
  touch = λ p rest q h t. subst (λ w. Touch p w q) (sym (append_assoc ps qs rest)) (l.touch p (qs ++ rest) q h (r.touch l.last rest q meets t));
  closed = λ n rest. ap (open_behind n) (append_assoc ps qs rest) ∙ l.closed n (qs ++ rest) ∙ r.closed n rest;
}

-- a token before what it may touch
pub lead : {k : Mark} {b : List ℕ} (a : Side) {x z : Side} {qs : List Piece} → Makes k b → is_side a (token k b) ≡ true → opens k ≡ false → closes k ≡ false
    → (r : Part x z qs) → may_touch (token k b) r.first ≡ true → Part a z (one k b ++ qs)
unfolding part
lead {k} {b} a proper f o c r meets = join_at (part a solid proper f refl o c) r meets

-- two tokens without a gap
pub pair : {k j : Mark} {b c : List ℕ} (a z : Side) → Makes k b → Makes j c → may_touch (token k b) (token j c) ≡ true → is_side a (token k b) ≡ true → is_side z (token j c) ≡ true
    → opens k ≡ false → closes k ≡ false → opens j ≡ false → closes j ≡ false → Part a z (token k b ∷ token j c ∷ [])
unfolding part
pair a z before_it behind_it meets f l o c p d = lead a before_it f o c (part solid z behind_it refl l p d) meets

-- a token, and then a gap or what stands alone
pub join : {a z : Side} {ps qs : List Piece} → Part a solid ps → Part loose z qs → Part a z (ps ++ qs)
join l r = join_at l r (solid_loose l.last r.first l.last_is r.first_is)

-- a gap or what stands alone, and then a token
pub next : {a z : Side} {ps qs : List Piece} → Part a loose ps → Part solid z qs → Part a z (ps ++ qs)
next l r = join_at l r (loose_solid l.last r.first l.last_is r.first_is)

operand_solid : (p : Piece) → is_side operand p ≡ true → is_side solid p ≡ true
operand_solid gap h = h
operand_solid (token k b) h = refl

pub as_solid : {z : Side} {ps : List Piece} → Part operand z ps → Part solid z ps
as_solid o = record { first = o.first; last = o.last; first_is = operand_solid o.first o.first_is; last_is = o.last_is; touch = o.touch; closed = o.closed }

-- what may be absent, after a token
pub follow : {a : Side} {ps qs : List Piece} → Part a solid ps → Optional loose solid qs → Part a solid (ps ++ qs)
follow {a} {ps} l none = subst (Part a solid) (sym (append-nil ps)) l
follow l (some r) = join l r

-- what may be absent, before a part
pub ahead : {z : Side} {ps qs : List Piece} → Optional loose solid ps → Part loose z qs → Part loose z (ps ++ qs)
ahead none r = r
ahead (some l) r = join l r

-- a token with a space on each side of it
pub between_part : {k : Mark} {b : List ℕ} → Makes k b → opens k ≡ false → closes k ≡ false → Part loose loose (between k b)
between_part proper o c = next gap_part (join (part solid solid proper refl refl o c) gap_part)

-- a word with a space after it
pub before_part : {k : Mark} {b : List ℕ} → Makes k b → begins_equal k ≡ false → opens k ≡ false → closes k ≡ false → Part operand loose (before k b)
before_part proper e o c = join (part operand solid proper (ap not e) refl o c) gap_part

-- ---- lists

-- each of these is a part
abbrev pub Each : List (List Piece) → Type 0
Each [] = Unit {0}
Each (ps ∷ pss) = Part solid solid ps × Each pss

pub after_optional : {separator : List Piece} → Part loose loose separator → (pss : List (List Piece)) → Each pss → Optional loose solid (each_after separator pss)
after_optional s [] each = none
after_optional s (ps ∷ pss) each = some (follow (next s each.0) (after_optional s pss each.1))

pub joined_part : {a : Side} {separator ps : List Piece} → Part loose loose separator → Part a solid ps → (pss : List (List Piece)) → Each pss → Part a solid (joined separator (ps ∷ pss))
joined_part s l pss each = follow l (after_optional s pss each)

pub joined_optional : {separator : List Piece} → Part loose loose separator → (pss : List (List Piece)) → Each pss → Optional solid solid (joined separator pss)
joined_optional s [] each = none
joined_optional s (ps ∷ pss) each = some (joined_part s each.0 pss each.1)

-- ---- brackets

up : (k : Mark) (n : ℕ) → opens k ≡ true → (if opens k then n + 1 else if closes k then n - 1 else n) ≡ n + 1
up k n o = rw o refl

down : (k : Mark) (n : ℕ) → opens k ≡ false → closes k ≡ true → (if opens k then (n + 1) + 1 else if closes k then (n + 1) - 1 else (n + 1)) ≡ n
down k n o c = rw (o, c) (omega arith)

-- what stands between two brackets, or nothing
pub bracketed : {k j : Mark} {b c : List ℕ} {ps : List Piece} (a z : Side) → Makes k b → Makes j c → opens k ≡ true → opens j ≡ false → closes j ≡ true
    → is_side a (token k b) ≡ true → is_side z (token j c) ≡ true → is_side loose (token k b) ≡ true → is_side loose (token j c) ≡ true
    → Optional solid solid ps → Part a z (one k b ++ ps ++ one j c)
bracketed {k} {j} {b} {c} a z before_it behind_it o n s f l lk lj none = record {
  first = token k b;
  last = token j c;
  first_is = f;
  last_is = l;
  touch = λ p rest q h t. (h, before_it, (loose_solid (token k b) (token j c) lk refl, behind_it, t));
  closed = λ depth rest. ap (λ i. open_behind (opened i (token j c)) rest) (up k depth o) ∙ ap (λ i. open_behind i rest) (down j depth n s);
}
bracketed {k} {j} {b} {c} {ps} a z before_it behind_it o n s f l lk lj (some inner) = record {
  first = token k b;
  last = token j c;
  first_is = f;
  last_is = l;
  touch = λ p rest q h t. (
    h,
    before_it,
    subst (λ w. Touch (token k b) w q) (sym (append_assoc ps (one j c) rest))
        (inner.touch (token k b) (token j c ∷ rest) q (loose_solid (token k b) inner.first lk inner.first_is) (solid_loose inner.last (token j c) inner.last_is lj, behind_it, t)),
  );
  closed = λ depth rest.
      ap (λ i. open_behind i ((ps ++ one j c) ++ rest)) (up k depth o) ∙ ap (open_behind (depth + 1)) (append_assoc ps (one j c) rest)
      ∙ inner.closed (depth + 1) (token j c ∷ rest) ∙ ap (λ i. open_behind i rest) (down j depth n s);
}

-- ---- a line

pub printable_part : {ps : List Piece} → Part solid solid ps → IsPrintable ps
printable_part {ps} l = record {
  touch = subst (λ w. Touch gap w gap) (append-nil ps) (l.touch gap [] gap (loose_solid gap l.first refl l.first_is) (solid_loose l.last gap l.last_is refl));
  closed = ap (open_behind 0) (sym (append-nil ps)) ∙ l.closed 0 [];
}

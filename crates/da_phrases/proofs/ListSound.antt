-- Readers of lists: what they read is spelled as a list of what the reader of one element reads.
use Rattle.std.proofs.Common.{◌≡◌, ℕ, zero, suc, List, [], ◌∷◌, ◌++◌, length, Option, Some, None, Ok, refl, sym, ap, ◌∙◌, subst, inl, inr, append_assoc, append-nil}
use Rattle.da_values.specs.declared.token.Mark.{Mark}
use Rattle.da_values.specs.declared.token.Mark.TheVariants as m
use Rattle.da_values.specs.Marks.{Tok}
use Rattle.da_lang.specs.declared.tree.ArithOp.{ArithOp}
use Rattle.da_lang.specs.declared.tree.ChainTree.{ChainTree, roll-ChainTree}
use Rattle.da_lang.specs.declared.tree.Expr.{Expr}
use Rattle.da_lang.specs.Spelling as g
use Rattle.da_lang.specs.Spelling.{Spelling, At, Separated, Closed, EachAfter, Many, Ended}
use Rattle.da_lang.specs.ExprGrammar.{IsOthers, no_other, other}
use Rattle.da_phrases.specs.Reader.{mark, rest, sees, Reader, ◌>>=◌, ◌>>◌, pure, expect, past}
use Rattle.da_phrases.specs.Lists.{separated_from, separated, begun_from, begun, ended_from, ended, closed, others_by, others_from, others}
use Rattle.da_phrases.proofs.Steps.{went_on, chosen, after_ok, expect_ok, left, read_or, At-sees}
use Rattle.da_phrases.proofs.Laws.{IsSound, Led, led}

-- after those found come these, which are spelled here
abbrev pub Finds : {A : Type 0} → Spelling (List A) → List A → List Tok → List A × List Tok → Type 0
Finds {A} Items found i y = (xs : List A) × (y.0 ≡ found ++ xs) × Items xs i y.1

-- where nothing was found before, these are all
pub found_all : {A : Type 0} (Items : Spelling (List A)) (i : List Tok) (y : List A × List Tok) → Finds Items [] i y → Items y.0 i y.1
found_all Items i y f = subst (λ xs. Items xs i y.1) (sym f.1) f.2

module _ {A : Type 0} (k : Mark) (item : Reader A) (Item : Spelling A) (sound : IsSound item Item) where
  pub separated_from-sound : (n : ℕ) (found : List A) (i : List Tok) (y : List A × List Tok) → separated_from k item n found i ≡ Ok y → Finds (Separated k Item) found i y
  unfolding separated_from
  separated_from-sound zero found i y e = cc
  separated_from-sound (suc n) found i y e =
      let (p, read, next) = went_on (item i) _ y e in
      let x = sound i p read in
      elim (after_ok k (separated_from k item n (found ++ p.0 ∷ [])) (pure (found ++ p.0 ∷ [])) p.1 y next) [
        | inl h ↦ (let (xs, is, spelled) = separated_from-sound n (found ++ p.0 ∷ []) h.0 y h.2 in (p.0 ∷ xs, is ∙ append_assoc found (p.0 ∷ []) xs, g.more x h.1 spelled))
        | inr h ↦ (p.0 ∷ [], sym (ap (read_or []) h.1), subst (Separated k Item (p.0 ∷ []) i) (ap left h.1) (g.last x))
      ]

  pub separated-sound : (found : List A) (i : List Tok) (y : List A × List Tok) → separated k item found i ≡ Ok y → Finds (Separated k Item) found i y
  unfolding separated
  separated-sound found i y e = separated_from-sound (length i) found i y e

  pub all_separated : IsSound (separated k item []) (Separated k Item)
  all_separated i y e = found_all (Separated k Item) i y (separated-sound [] i y e)

module _ {A : Type 0} (close : Mark) (item : Reader A) (Item : Spelling A) (sound : IsSound item Item) where
  pub closed-sound : (found : List A) (i : List Tok) (y : List A × List Tok) → closed close item found i ≡ Ok y → Finds (Closed close Item) found i y
  unfolding closed
  closed-sound found i y e = elim (after_ok close (pure found) (separated m.Comma item found >>= λ all. expect close >> pure all) i y e) [
    | inl h ↦ ([], sym (append-nil found ∙ ap (read_or []) h.2), subst (Closed close Item [] i) (ap left h.2) (g.empty h.1))
    | inr h ↦ (
        let (p, read, next) = went_on (separated m.Comma item found i) _ y h.1 in
        let (q, passed, last) = went_on (expect close p.1) _ y next in
        let (xs, is, spelled) = separated-sound m.Comma item Item sound found i p read in
        (xs, sym (ap (read_or []) last) ∙ is, subst (Closed close Item xs i) (ap left last) (g.full spelled (expect_ok close p.1 q passed))))
  ]

  pub all_closed : IsSound (closed close item []) (Closed close Item)
  all_closed i y e = found_all (Closed close Item) i y (closed-sound [] i y e)

-- the reader of one element is asked only where a token of this mark is next
abbrev pub IsSoundAt : {A : Type 0} → Mark → Reader A → Spelling A → Type 0
IsSoundAt {A} k p G = (i : List Tok) (y : A × List Tok) → At k i (rest i) → p i ≡ Ok y → G y.0 i y.1

module _ {A : Type 0} (k : Mark) (item : Reader A) (Item : Spelling A) (sound : IsSoundAt k item Item) where
  pub begun_from-sound : (n : ℕ) (found : List A) (i : List Tok) (y : List A × List Tok) → begun_from k item n found i ≡ Ok y → Finds (Many Item) found i y
  unfolding begun_from
  begun_from-sound zero found i y e = ([], sym (append-nil found ∙ ap (read_or []) e), subst (Many Item [] i) (ap left e) g.Many.none)
  begun_from-sound (suc n) found i y e = elim (chosen (sees k i) (item >>= λ x. begun_from k item n (found ++ x ∷ [])) (pure found) i y e) [
    | inl h ↦ (
        let (p, read, next) = went_on (item i) _ y h.1 in
        let (xs, is, spelled) = begun_from-sound n (found ++ p.0 ∷ []) p.1 y next in
        (p.0 ∷ xs, is ∙ append_assoc found (p.0 ∷ []) xs, g.Many.one (sound i p (At-sees k i h.0) read) spelled))
    | inr h ↦ ([], sym (append-nil found ∙ ap (read_or []) h.1), subst (Many Item [] i) (ap left h.1) g.Many.none)
  ]

  pub begun-sound : (found : List A) (i : List Tok) (y : List A × List Tok) → begun k item found i ≡ Ok y → Finds (Many Item) found i y
  unfolding begun
  begun-sound found i y e = begun_from-sound (length i) found i y e

  pub all_begun : IsSound (begun k item []) (Many Item)
  all_begun i y e = found_all (Many Item) i y (begun-sound [] i y e)

Many-behind : {A : Type 0} {k : Mark} {Item : Spelling A} {xs : List A} {t r : List Tok} → Many (Led k Item) xs t r → EachAfter k Item xs t r
Many-behind g.Many.none = g.EachAfter.none
Many-behind (g.Many.one (led h x) xs) = g.EachAfter.one h x (Many-behind xs)

module _ {A : Type 0} (k : Mark) (item : Reader A) (Item : Spelling A) (sound : IsSound item Item) where
  led-sound : IsSoundAt k (past item) (Led k Item)
  led-sound i y h e = led h (sound (rest i) y e)

  -- where the reader of one element passes that token, whatever it is
  pub behind-sound : (found : List A) (i : List Tok) (y : List A × List Tok) → begun k (past item) found i ≡ Ok y → Finds (EachAfter k Item) found i y
  behind-sound found i y e =
      let (xs, is, spelled) = begun-sound k (past item) (Led k Item) led-sound found i y e in
      (xs, is, Many-behind spelled)

  pub all_behind : IsSound (begun k (past item) []) (EachAfter k Item)
  all_behind i y e = found_all (EachAfter k Item) i y (behind-sound [] i y e)

module _ {A : Type 0} (item : Reader A) (Item : Spelling A) (sound : IsSound item Item) where
  pub ended_from-sound : (n : ℕ) (found : List A) (i : List Tok) (y : List A × List Tok) → ended_from item n found i ≡ Ok y → Finds (Ended Item) found i y
  unfolding ended_from
  ended_from-sound zero found i y e = cc
  ended_from-sound (suc n) found i y e =
      let (p, read, next) = went_on (item i) _ y e in
      let x = sound i p read in
      elim (after_ok m.Dedent (pure (found ++ p.0 ∷ [])) (ended_from item n (found ++ p.0 ∷ [])) p.1 y next) [
        | inl h ↦ (p.0 ∷ [], sym (ap (read_or []) h.2), subst (Ended Item (p.0 ∷ []) i) (ap left h.2) (g.ends x h.1))
        | inr h ↦ (let (xs, is, spelled) = ended_from-sound n (found ++ p.0 ∷ []) p.1 y h.1 in (p.0 ∷ xs, is ∙ append_assoc found (p.0 ∷ []) xs, g.goes_on x spelled))
      ]

  pub ended-sound : IsSound (ended item) (Ended Item)
  unfolding ended
  ended-sound i y e = found_all (Ended Item) i y (ended_from-sound (length i) [] i y e)

module _ (sign : Option Mark → Option ArithOp) (Sign : Spelling ArithOp) (signs : (i : List Tok) (op : ArithOp) → sign (mark i) ≡ Some op → Sign op i (rest i))
    (operand : Reader Expr) (Operand : Spelling Expr) (sound : IsSound operand Operand) where
  -- one step, where the steps after it are sound
  others_by-sound : (next_turns : List ChainTree → Reader (List ChainTree)) (next : (found : List ChainTree) (i : List Tok) (y : List ChainTree × List Tok) → next_turns found i ≡ Ok y → Finds (IsOthers Sign Operand) found i y)
      (found : List ChainTree) (o : Option ArithOp) (i : List Tok) (y : List ChainTree × List Tok) → sign (mark i) ≡ o → others_by sign operand next_turns found o i ≡ Ok y → Finds (IsOthers Sign Operand) found i y
  others_by-sound next_turns next found None i y is e = ([], sym (append-nil found ∙ ap (read_or []) e), subst (IsOthers Sign Operand [] i) (ap left e) no_other)
  others_by-sound next_turns next found (Some op) i y is e =
      let (p, read, later) = went_on (operand (rest i)) _ y e in
      let (ps, all, spelled) = next (found ++ roll-ChainTree (record { op = op; operand = p.0 }) ∷ []) p.1 y later in
      (roll-ChainTree (record { op = op; operand = p.0 }) ∷ ps, all ∙ append_assoc found (roll-ChainTree (record { op = op; operand = p.0 }) ∷ []) ps, other (signs i op is) (sound (rest i) p read) spelled)

  pub others_from-sound : (n : ℕ) (found : List ChainTree) (i : List Tok) (y : List ChainTree × List Tok) → others_from sign operand n found i ≡ Ok y → Finds (IsOthers Sign Operand) found i y
  unfolding others_from
  others_from-sound zero found i y e = ([], sym (append-nil found ∙ ap (read_or []) e), subst (IsOthers Sign Operand [] i) (ap left e) no_other)
  others_from-sound (suc n) found i y e = others_by-sound (others_from sign operand n) (others_from-sound n) found (sign (mark i)) i y refl e

  pub others-sound : IsSound (others sign operand) (IsOthers Sign Operand)
  unfolding others
  others-sound i y e = found_all (IsOthers Sign Operand) i y (others_from-sound (length i) [] i y e)

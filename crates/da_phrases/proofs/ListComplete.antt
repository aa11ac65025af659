-- A list that is spelled by the grammar is read, whatever reads its elements, if each element that is spelled is read and passes a token.
use Rattle.std.proofs.Common.{◌≡◌, ℕ, zero, suc, ◌≤◌, Bool, true, false, List, [], ◌∷◌, ◌++◌, length, Option, Some, None, Ok, refl, sym, ap, ◌∙◌, arith, append_assoc, append-nil}
use Rattle.da_values.specs.declared.token.Mark.{Mark}
use Rattle.da_values.specs.declared.token.Mark.TheVariants as m
use Rattle.da_values.specs.Marks.{Tok}
use Rattle.da_lang.specs.declared.tree.ArithOp.{ArithOp}
use Rattle.da_lang.specs.declared.tree.ChainTree.{ChainTree, roll-ChainTree}
use Rattle.da_lang.specs.declared.tree.Expr.{Expr}
use Rattle.da_lang.specs.Spelling.{Spelling, At, Separated, Closed, EachAfter, Many, Ended}
use Rattle.da_lang.specs.ExprGrammar.{IsOthers}
use Rattle.da_phrases.specs.Reader.{Reading, Reader, ◌>>◌, mark, rest, same, sees, past}
use Rattle.da_phrases.specs.Lists.{separated, separated_from, begun, begun_from, ended, ended_from, closed, others, others_from}
use Rattle.da_phrases.proofs.Laws.{IsComplete, Shrinks, Begins, Led, led}
use Rattle.da_phrases.proofs.Steps.{At-sees, shorter-At, behind_is, after_not, expect_is, sees-At, not_seen, past_is}
use Rattle.da_phrases.proofs.Firsts.{never_seen, Separated-begins}

-- what was found, one more, and the others
append_one : {A : Type 0} (found : List A) (x : A) (xs : List A) (r : List Tok) {o : Reading (List A)} → o ≡ Ok ((found ++ x ∷ []) ++ xs, r) → o ≡ Ok (found ++ x ∷ xs, r)
append_one found x xs r e = e ∙ ap (λ z. Ok (z, r)) (append_assoc found (x ∷ []) xs)

append_none : {A : Type 0} (found : List A) (r : List Tok) → ◌≡◌ {A = Reading (List A)} (Ok (found, r)) (Ok (found ++ [], r))
append_none found r = ap (λ z. Ok (z, r)) (sym (append-nil found))

module _ {A : Type 0} {Stops : List Tok → Type 0} {item : Reader A} {Item : Spelling A} (complete : IsComplete Stops item Item) (shrinks : Shrinks Item) where
  -- one or more, where an element may end before the token between
  separated_from-complete : (k : Mark) (between : (i r : List Tok) → At k i r → Stops i) (n : ℕ) (found xs : List A) (i r : List Tok)
      → Separated k Item xs i r → Stops r → sees k r ≡ false → length i ≤ n → separated_from k item n found i ≡ Ok (found ++ xs, r)
  unfolding separated_from
  separated_from-complete k between zero found _ i r (Separated.last a) s c turns = absurd (omega (arith, shrinks _ _ _ a))
  separated_from-complete k between (suc n) found _ i r (Separated.last a) s c turns = rw (complete _ _ _ a s) (after_not k _ _ c)
  separated_from-complete k between zero found _ i r (Separated.more a h l) s c turns = absurd (omega (arith, shrinks _ _ _ a))
  separated_from-complete k between (suc n) found _ i r (Separated.more {x} {xs} a h l) s c turns =
      rw (complete _ _ _ a (between _ _ h)) (behind_is _ _ h ∙ append_one found x xs r (separated_from-complete k between n (found ++ x ∷ []) xs _ r l s c (omega (arith, shrinks _ _ _ a, shorter-At h))))

  pub separated-complete : (k : Mark) (between : (i r : List Tok) → At k i r → Stops i) (found xs : List A) (i r : List Tok)
      → Separated k Item xs i r → Stops r → sees k r ≡ false → separated k item found i ≡ Ok (found ++ xs, r)
  unfolding separated
  separated-complete k between found xs i r l s c = separated_from-complete k between (length i) found xs i r l s c (omega arith)

  -- up to the closing token, which begins no element, and before which and before commas an element may end
  pub closed-complete : (close : Mark) (one : Mark → Bool) (begins : Begins one Item) (apart : one close ≡ false) (differs : same close m.Comma ≡ false)
      (commas : (i r : List Tok) → At m.Comma i r → Stops i) (over : (i r : List Tok) → At close i r → Stops i) (found xs : List A) (i r : List Tok)
      → Closed close Item xs i r → closed close item found i ≡ Ok (found ++ xs, r)
  unfolding closed
  closed-complete close one begins apart differs commas over found _ i r (Closed.empty h) = behind_is _ _ h ∙ append_none found r
  closed-complete close one begins apart differs commas over found xs i r (Closed.full l h) =
      after_not close _ _ (never_seen one close i apart (Separated-begins Item one begins _ xs i _ l))
      ∙ rw (separated-complete m.Comma commas found xs i _ l (over _ _ h) (not_seen m.Comma h differs), expect_is h) refl

  -- what follows the first of several may follow the element before it
  Many-stops : (k : Mark) (starts : (x : A) (i r : List Tok) → Item x i r → sees k i ≡ true) (between : (i r : List Tok) → At k i r → Stops i) (xs : List A) (i r : List Tok) → Many Item xs i r → Stops r → Stops i
  Many-stops k starts between _ i r Many.none s = s
  Many-stops k starts between _ i r (Many.one a l) s = between _ _ (At-sees k i (starts _ _ _ a))

  begun_from-complete : (k : Mark) (starts : (x : A) (i r : List Tok) → Item x i r → sees k i ≡ true) (between : (i r : List Tok) → At k i r → Stops i) (n : ℕ) (found xs : List A) (i r : List Tok)
      → Many Item xs i r → Stops r → sees k r ≡ false → length i ≤ n → begun_from k item n found i ≡ Ok (found ++ xs, r)
  unfolding begun_from
  begun_from-complete k starts between zero found _ i r Many.none s c turns = append_none found r
  begun_from-complete k starts between (suc n) found _ i r Many.none s c turns = rw c (append_none found r)
  begun_from-complete k starts between zero found _ i r (Many.one a l) s c turns = absurd (omega (arith, shrinks _ _ _ a))
  begun_from-complete k starts between (suc n) found _ i r (Many.one {x} {xs} a l) s c turns =
      rw (starts _ _ _ a, complete _ _ _ a (Many-stops k starts between _ _ _ l s))
      (append_one found x xs r (begun_from-complete k starts between n (found ++ x ∷ []) xs _ r l s c (omega (arith, shrinks _ _ _ a))))

  -- none or more, each of which begins with a token of this mark
  pub begun-complete : (k : Mark) (starts : (x : A) (i r : List Tok) → Item x i r → sees k i ≡ true) (between : (i r : List Tok) → At k i r → Stops i) (found xs : List A) (i r : List Tok)
      → Many Item xs i r → Stops r → sees k r ≡ false → begun k item found i ≡ Ok (found ++ xs, r)
  unfolding begun
  begun-complete k starts between found xs i r l s c = begun_from-complete k starts between (length i) found xs i r l s c (omega arith)

  Ended-starts : (starts : (x : A) (i r : List Tok) → Item x i r → (sees m.Dedent i ≡ false) × Stops i) (xs : List A) (i r : List Tok) → Ended Item xs i r → (sees m.Dedent i ≡ false) × Stops i
  Ended-starts starts _ i r (Ended.ends a h) = starts _ _ _ a
  Ended-starts starts _ i r (Ended.goes_on a l) = starts _ _ _ a

  ended_from-complete : (starts : (x : A) (i r : List Tok) → Item x i r → (sees m.Dedent i ≡ false) × Stops i) (over : (i r : List Tok) → At m.Dedent i r → Stops i) (n : ℕ) (found xs : List A) (i r : List Tok)
      → Ended Item xs i r → length i ≤ n → ended_from item n found i ≡ Ok (found ++ xs, r)
  unfolding ended_from
  ended_from-complete starts over zero found _ i r (Ended.ends a h) turns = absurd (omega (arith, shrinks _ _ _ a))
  ended_from-complete starts over (suc n) found _ i r (Ended.ends a h) turns = rw (complete _ _ _ a (over _ _ h)) (behind_is _ _ h)
  ended_from-complete starts over zero found _ i r (Ended.goes_on a l) turns = absurd (omega (arith, shrinks _ _ _ a))
  ended_from-complete starts over (suc n) found _ i r (Ended.goes_on {x} {xs} a l) turns =
      let (other, s) = Ended-starts starts xs _ r l in
      rw (complete _ _ _ a s) (after_not m.Dedent _ _ other ∙ append_one found x xs r (ended_from-complete starts over n (found ++ x ∷ []) xs _ r l (omega (arith, shrinks _ _ _ a))))

  -- one or more up to a `Dedent`, which begins none, where an element may end before it and before another
  pub ended-complete : (starts : (x : A) (i r : List Tok) → Item x i r → (sees m.Dedent i ≡ false) × Stops i) (over : (i r : List Tok) → At m.Dedent i r → Stops i) (xs : List A) (i r : List Tok)
      → Ended Item xs i r → ended item i ≡ Ok (xs, r)
  unfolding ended
  ended-complete starts over xs i r l = ended_from-complete starts over (length i) [] xs i r l (omega arith)

-- ---- elements that each stand after a token

Behind-many : {A : Type 0} (k : Mark) (Item : Spelling A) (xs : List A) (i r : List Tok) → EachAfter k Item xs i r → Many (Led k Item) xs i r
Behind-many k Item _ i r EachAfter.none = Many.none
Behind-many k Item _ i r (EachAfter.one h a l) = Many.one (led h a) (Behind-many k Item _ _ _ l)

led-complete : {A : Type 0} {Stops : List Tok → Type 0} {item : Reader A} {Item : Spelling A} → IsComplete Stops item Item → (k : Mark) → IsComplete Stops (past item) (Led k Item)
led-complete {item = item} complete k _ i r (led h a) s = past_is item h ∙ complete _ _ _ a s

led-shrinks : {A : Type 0} {Item : Spelling A} → Shrinks Item → (k : Mark) → Shrinks (Led k Item)
led-shrinks shrinks k _ i r (led h a) = omega (arith, shorter-At h, shrinks _ _ _ a)

led-sees : {A : Type 0} (k : Mark) (Item : Spelling A) (x : A) (i r : List Tok) → Led k Item x i r → sees k i ≡ true
led-sees k Item _ i r (led h a) = sees-At h

pub behind-complete : {A : Type 0} {Stops : List Tok → Type 0} {item : Reader A} {Item : Spelling A} (complete : IsComplete Stops item Item) (shrinks : Shrinks Item)
    (k : Mark) (between : (i r : List Tok) → At k i r → Stops i) (found xs : List A) (i r : List Tok)
    → EachAfter k Item xs i r → Stops r → sees k r ≡ false → begun k (past item) found i ≡ Ok (found ++ xs, r)
behind-complete {item = item} {Item = Item} complete shrinks k between found xs i r l s c =
    begun-complete {item = past item} {Item = Led k Item} (led-complete complete k) (led-shrinks shrinks k) k (led-sees k Item) between found xs i r (Behind-many k Item xs i r l) s c

-- ---- the further operands of a chain

module _ {Stops : List Tok → Type 0} {operand : Reader Expr} {Operand : Spelling Expr} (complete : IsComplete Stops operand Operand) (shrinks : Shrinks Operand)
    (sign : Option Mark → Option ArithOp) (Sign : Spelling ArithOp) (signs : Shrinks Sign) (reads : (o : ArithOp) (i r : List Tok) → Sign o i r → (sign (mark i) ≡ Some o) × (rest i ≡ r) × Stops i) where
  pub IsOthers-stops : (ps : List ChainTree) (i r : List Tok) → IsOthers Sign Operand ps i r → Stops r → Stops i
  IsOthers-stops _ i r IsOthers.no_other s = s
  IsOthers-stops _ i r (IsOthers.other o a l) s = (reads _ _ _ o).2

  others_from-complete : (n : ℕ) (found ps : List ChainTree) (i r : List Tok) → IsOthers Sign Operand ps i r → Stops r → sign (mark r) ≡ None → length i ≤ n → others_from sign operand n found i ≡ Ok (found ++ ps, r)
  unfolding others_from
  others_from-complete zero found _ i r IsOthers.no_other s c turns = append_none found r
  others_from-complete (suc n) found _ i r IsOthers.no_other s c turns = rw c (append_none found r)
  others_from-complete zero found _ i r (IsOthers.other o a l) s c turns = absurd (omega (arith, signs _ _ _ o))
  others_from-complete (suc n) found _ i r (IsOthers.other {o} {x} {ps} g a l) s c turns =
      let (is, passed, _) = reads _ _ _ g in
      let one = roll-ChainTree (record { op = o; operand = x }) in
      rw (is, passed, complete _ _ _ a (IsOthers-stops _ _ _ l s)) (append_one found one ps r (others_from-complete n (found ++ one ∷ []) ps _ r l s c (omega (arith, signs _ _ _ g, shrinks _ _ _ a))))

  pub others-complete : (ps : List ChainTree) (i r : List Tok) → IsOthers Sign Operand ps i r → Stops r → sign (mark r) ≡ None → others sign operand i ≡ Ok (ps, r)
  unfolding others
  others-complete ps i r l s c = others_from-complete (length i) [] ps i r l s c (omega arith)

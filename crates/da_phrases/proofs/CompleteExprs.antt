-- An atom, a unary expression, a generator or a pattern that is spelled by the grammar is read, if what stands one deeper is.
use Rattle.std.proofs.Common.{◌≡◌, ℕ, Bool, true, false, List, [], ◌∷◌, Option, Some, None, Ok, refl, ap, ◌∙◌, inl, inr}
use Rattle.da_values.specs.declared.token.Mark.{Mark}
use Rattle.da_values.specs.declared.token.Mark.TheVariants as m
use Rattle.da_values.specs.Marks.{Tok}
use Rattle.da_lang.specs.declared.tree.Expr.{Expr}
use Rattle.da_lang.specs.declared.tree.Expr.TheVariants as ex
use Rattle.da_lang.specs.declared.tree.GenTree.{GenTree}
use Rattle.da_lang.specs.declared.tree.PatternTree.{PatternTree}
use Rattle.da_lang.specs.declared.tree.PatternTree.TheVariants as pat
use Rattle.da_lang.specs.declared.tree.SourceTree.{SourceTree}
use Rattle.da_lang.specs.declared.tree.SourceTree.TheVariants as source_tree
use Rattle.da_lang.specs.Spelling.{Room, At, Opens, NotAt, not_at, Number, Separated, Closed}
use Rattle.da_lang.specs.ExprGrammar.{Deeper, IsSource, IsPeer, IsGen, IsGens, IsCond, IsAtom, IsUnary, IsPattern}
use Rattle.da_phrases.specs.Reader.{Reading, pure, mark, same, sees, is_mark, ◌>>=◌, ◌>>◌}
use Rattle.da_phrases.specs.Place.{Place}
use Rattle.da_phrases.specs.Exprs.{quantifier, source, generator_with, generator, generators, condition, no_argument, first_argument, last_argument, one_argument, two_arguments, grouped_by, grouped, comprehension, braced, atom_by, atom, after_minus, unary, tuple_pattern, pattern_by, pattern}
use Rattle.da_phrases.proofs.Laws.{IsComplete, Anything, Lacks, Completes, goes_on_disj, goes_on_expr}
use Rattle.da_phrases.proofs.Steps.{same_marks, bool_cases, mark-At, sees-At, rest-At, behind_is, after_not, expect_is, not_seen, mark-Opens, At-Opens, room-Opens, opens_is, opening_is, number_is, quoted_is, mark-Named, mark-Number, mark-Quoted, taking_is, past_is}
use Rattle.da_phrases.proofs.Shorter.{Shrinking, IsGen-shrinks}
use Rattle.da_phrases.proofs.Firsts.{Beginning, begins_atom, begins_disj, begins_pattern, never_seen, lacked, next-At, not_quantified, IsAtom-begins}
use Rattle.da_phrases.proofs.ListComplete.{separated-complete, closed-complete}

-- the next token has another mark
pub NotAt-unseen : {k : Mark} {i : List Tok} → NotAt k i → sees k i ≡ false
unfolding sees
NotAt-unseen {k} (not_at {t} {r} other) = elim (bool_cases (same t.mark k)) [
  | inl e ↦ absurd (other (same_marks t.mark k e))
  | inr e ↦ e
]

sees-Number : {n : ℕ} {i r : List Tok} → Number n i r → sees m.Number i ≡ true
unfolding sees
sees-Number h = ap (is_mark m.Number) (mark-Number h)

pub source-complete : {x : SourceTree} {t r s : List Tok} → At m.In t r → IsSource x r s → source t ≡ Ok (x, s)
unfolding source
source-complete h (IsSource.received a) = rw (expect_is h, mark-At a) (past_is (pure source_tree.Received) a)
source-complete h (IsSource.sent a) = rw (expect_is h, mark-At a) (past_is (pure source_tree.Sent) a)
source-complete h (IsSource.name a) = rw (expect_is h, mark-Named a) (taking_is (λ b. pure (source_tree.Name b)) a)

module _ (p : Place) (room : Room) (deep : Deeper) (shrinking : Shrinking deep) (beginning : Beginning deep) (c : Completes p room deep) where
  -- ---- generators and conditions, after a token that opened something

  module _ (there : List Tok) (some : room there) where
    pub generator-complete : IsComplete Anything (generator p) (IsGen deep.pattern)
    unfolding generator generator_with
    generator-complete _ i r (IsGen.gen a IsPeer.no_peer h x) s =
        rw (c.pattern there some _ _ _ a tt) (after_not m.From _ _ (not_seen m.From h refl) ∙ after_not m.To _ _ (not_seen m.To h refl) ∙ rw (source-complete h x) refl)
    generator-complete _ i r (IsGen.gen a (IsPeer.from f b) h x) s =
        rw (c.pattern there some _ _ _ a tt) (behind_is _ _ f ∙ rw (c.pattern there some _ _ _ b tt, source-complete h x) refl)
    generator-complete _ i r (IsGen.gen a (IsPeer.to f b) h x) s =
        rw (c.pattern there some _ _ _ a tt) (after_not m.From _ _ (not_seen m.From f refl) ∙ behind_is _ _ f ∙ rw (c.pattern there some _ _ _ b tt, source-complete h x) refl)

    pub generators-complete : (gs : List GenTree) (i r : List Tok) → IsGens deep.pattern gs i r → sees m.Comma r ≡ false → generators p i ≡ Ok (gs, r)
    unfolding generators
    generators-complete gs i r l s = separated-complete generator-complete (IsGen-shrinks deep shrinking) m.Comma (λ j q h. tt) [] gs i r l tt s

    pub condition-complete : IsComplete (Lacks goes_on_expr) (condition p) (IsCond deep.expr)
    unfolding condition
    condition-complete _ i r IsCond.no_cond s = after_not m.Bar _ _ (lacked goes_on_expr m.Bar i refl s) ∙ after_not m.Has _ _ (lacked goes_on_expr m.Has i refl s)
    condition-complete _ i r (IsCond.bar h a) s = behind_is _ _ h ∙ rw (c.expr there some _ _ _ a s) refl
    condition-complete _ i r (IsCond.has h a) s = after_not m.Bar _ _ (not_seen m.Bar h refl) ∙ behind_is _ _ h ∙ rw (c.expr there some _ _ _ a s) refl

  -- generators end where a condition begins, or where an expression does not go on
  pub IsCond-ends : (o : Option Expr) (i r : List Tok) → IsCond deep.expr o i r → Lacks goes_on_expr r → sees m.Comma i ≡ false
  IsCond-ends _ i r IsCond.no_cond s = lacked goes_on_expr m.Comma i refl s
  IsCond-ends _ i r (IsCond.bar h a) s = not_seen m.Comma h refl
  IsCond-ends _ i r (IsCond.has h a) s = not_seen m.Comma h refl

  -- ---- atoms

  no_argument-complete : {t r s : List Tok} → Opens m.OpenParen room t r → At m.CloseParen r s → no_argument p t ≡ Ok (tt, s)
  unfolding no_argument
  no_argument-complete o h = rw (opening_is p.may_open c.allows o) (expect_is h)

  last_argument-complete : (there : List Tok) (some : room there) {x : Expr} {t r s : List Tok} → deep.disj x t r → At m.CloseParen r s → last_argument p t ≡ Ok (x, s)
  unfolding last_argument
  last_argument-complete there some a h = rw (c.disj there some _ _ _ a (next-At goes_on_disj h), expect_is h) refl

  one_argument-complete : {x : Expr} {t r s q : List Tok} → Opens m.OpenParen room t r → deep.disj x r s → At m.CloseParen s q → one_argument p t ≡ Ok (x, q)
  unfolding one_argument
  one_argument-complete o a h = rw (opening_is p.may_open c.allows o) (last_argument-complete _ (room-Opens o) a h)

  first_argument-complete : {x : Expr} {t r s q : List Tok} → Opens m.OpenParen room t r → deep.disj x r s → At m.Comma s q → first_argument p t ≡ Ok (x, q)
  unfolding first_argument
  first_argument-complete o a h = rw (opening_is p.may_open c.allows o, c.disj _ (room-Opens o) _ _ _ a (next-At goes_on_disj h), expect_is h) refl

  two_arguments-complete : (make : Expr → Expr → Expr) {x y : Expr} {t r s q z a : List Tok}
      → Opens m.OpenParen room t r → deep.disj x r s → At m.Comma s q → deep.disj y q z → At m.CloseParen z a → two_arguments p make t ≡ Ok (make x y, a)
  unfolding two_arguments
  two_arguments-complete make o a h b e = rw (first_argument-complete o a h, last_argument-complete _ (room-Opens o) b e) refl

  group_by-complete : (there : List Tok) (some : room there) (k : Option Bool) {x : Expr} {i r s : List Tok} → quantifier (mark i) ≡ k → deep.expr x i r → At m.CloseParen r s → grouped_by p k i ≡ Ok (x, s)
  group_by-complete there some (Some each) is a h = rw (c.expr there some _ _ _ a (next-At goes_on_expr h), expect_is h) refl
  group_by-complete there some None is a h =
      rw (c.disj there some _ _ _ (beginning.loose _ _ _ a is) (next-At goes_on_disj h)) (after_not m.Comma _ _ (not_seen m.Comma h refl) ∙ rw (expect_is h) refl)

  group-complete : (there : List Tok) (some : room there) {x : Expr} {i r s : List Tok} → deep.expr x i r → At m.CloseParen r s → grouped p i ≡ Ok (x, s)
  unfolding grouped
  group-complete there some {i = i} a h = group_by-complete there some (quantifier (mark i)) refl a h

  tuple-complete : (there : List Tok) (some : room there) {x : Expr} {xs : List Expr} {i r s q : List Tok} → deep.disj x i r → At m.Comma r s → Closed m.CloseParen deep.disj xs s q → grouped p i ≡ Ok (ex.Tuple (x ∷ xs), q)
  unfolding grouped
  tuple-complete there some {x} {xs} {i = i} a h l =
      ap (λ k. grouped_by p k i) (not_quantified (mark i) (beginning.disj _ _ _ a))
      ∙ rw (c.disj there some _ _ _ a (next-At goes_on_disj h))
      (behind_is _ _ h ∙ rw (closed-complete (c.disj there some) shrinking.disj m.CloseParen begins_disj beginning.disj refl refl (λ j z e. next-At goes_on_disj e) (λ j z e. next-At goes_on_disj e) (x ∷ []) xs _ _ l) refl)

  -- nothing that stands in braces begins with their end
  not_over : {x : Expr} {i r : List Tok} → deep.disj x i r → sees m.CloseBrace i ≡ false
  not_over a = never_seen begins_disj m.CloseBrace _ refl (beginning.disj _ _ _ a)

  set_of-complete : (there : List Tok) (some : room there) {xs : List Expr} {i r : List Tok} → Closed m.CloseBrace deep.disj xs i r → braced p i ≡ Ok (ex.SetOf xs, r)
  unfolding braced
  set_of-complete there some (Closed.empty h) = behind_is _ _ h
  set_of-complete there some (Closed.full (Separated.last a) h) =
      after_not m.CloseBrace _ _ (not_over a)
      ∙ rw (c.disj there some _ _ _ a (next-At goes_on_disj h)) (after_not m.Colon _ _ (not_seen m.Colon h refl) ∙ after_not m.Comma _ _ (not_seen m.Comma h refl) ∙ rw (expect_is h) refl)
  set_of-complete there some (Closed.full (Separated.more {x} {xs} a b l) h) =
      after_not m.CloseBrace _ _ (not_over a)
      ∙ rw (c.disj there some _ _ _ a (next-At goes_on_disj b)) (after_not m.Colon _ _ (not_seen m.Colon b refl)
      ∙ behind_is _ _ b ∙ rw (separated-complete (c.disj there some) shrinking.disj m.Comma (λ j z e. next-At goes_on_disj e) (x ∷ []) xs _ _ l (next-At goes_on_disj h) (not_seen m.Comma h refl), expect_is h) refl)

  comprehension-complete : (there : List Tok) (some : room there) {x : Expr} {gs : List GenTree} {o : Option Expr} {i r s q z a : List Tok}
      → deep.disj x i r → At m.Colon r s → IsGens deep.pattern gs s q → IsCond deep.expr o q z → At m.CloseBrace z a → braced p i ≡ Ok (ex.Comp x gs o, a)
  unfolding braced comprehension
  comprehension-complete there some {x} {gs} {o} a h l b e =
      let s = next-At goes_on_expr e in
      after_not m.CloseBrace _ _ (not_over a)
      ∙ rw (c.disj there some _ _ _ a (next-At goes_on_disj h)) (behind_is _ _ h ∙ rw (generators-complete there some gs _ _ l (IsCond-ends o _ _ b s), condition-complete there some o _ _ b s, expect_is e) refl)

  at_atom : {k : Mark} (i : List Tok) {o : Reading Expr} → mark i ≡ Some k → atom_by p (Some k) i ≡ o → atom p i ≡ o
  unfolding atom
  at_atom {k} i is e = ap (λ z. atom_by p z i) is ∙ e

  pub atom-complete : IsComplete Anything (atom p) (IsAtom room deep)
  atom-complete _ i r (IsAtom.int h) s = at_atom i (mark-Number h) (rw (number_is h) refl)
  atom-complete _ i r (IsAtom.text h) s = at_atom i (mark-Quoted h) (rw (quoted_is h) refl)
  atom-complete _ i r (IsAtom.yes h) s = at_atom i (mark-At h) (past_is (pure (ex.Truth true)) h)
  atom-complete _ i r (IsAtom.no h) s = at_atom i (mark-At h) (past_is (pure (ex.Truth false)) h)
  atom-complete _ i r (IsAtom.me h) s = at_atom i (mark-At h) (past_is (pure ex.Me) h)
  atom-complete _ i r (IsAtom.name h) s = at_atom i (mark-Named h) (taking_is (λ b. pure (ex.Name b)) h)
  atom-complete _ i r (IsAtom.clock h o e) s = at_atom i (mark-At h) (past_is (no_argument p >> pure ex.Clock) h ∙ rw (no_argument-complete o e) refl)
  atom-complete _ i r (IsAtom.range h o a d b e) s = at_atom i (mark-At h) (past_is (two_arguments p ex.Range) h ∙ two_arguments-complete ex.Range o a d b e)
  atom-complete _ i r (IsAtom.group o a e) s = at_atom i (mark-Opens o) (rw (opens_is p.may_open c.allows o) (group-complete _ (room-Opens o) a e))
  atom-complete _ i r (IsAtom.tuple o a d l) s = at_atom i (mark-Opens o) (rw (opens_is p.may_open c.allows o) (tuple-complete _ (room-Opens o) a d l))
  atom-complete _ i r (IsAtom.set_of o l) s = at_atom i (mark-Opens o) (rw (opens_is p.may_open c.allows o) (set_of-complete _ (room-Opens o) l))
  atom-complete _ i r (IsAtom.comprehension o a d l q e) s = at_atom i (mark-Opens o) (rw (opens_is p.may_open c.allows o) (comprehension-complete _ (room-Opens o) a d l q e))
  atom-complete _ i r (IsAtom.count h o a e) s = at_atom i (mark-At h) (past_is (one_argument p >>= λ x. pure (ex.Count x)) h ∙ rw (one_argument-complete o a e) refl)
  atom-complete _ i r (IsAtom.sum h o a e) s = at_atom i (mark-At h) (past_is (one_argument p >>= λ x. pure (ex.Sum x)) h ∙ rw (one_argument-complete o a e) refl)
  atom-complete _ i r (IsAtom.min h o a d b e) s = at_atom i (mark-At h) (past_is (two_arguments p ex.Min) h ∙ two_arguments-complete ex.Min o a d b e)
  atom-complete _ i r (IsAtom.max h o a d b e) s = at_atom i (mark-At h) (past_is (two_arguments p ex.Max) h ∙ two_arguments-complete ex.Max o a d b e)

  -- ---- unary expressions

  pub unary-complete : IsComplete Anything (unary p) (IsUnary room deep)
  unfolding unary after_minus
  unary-complete x i r (IsUnary.atom a) s = rw (never_seen begins_atom m.Minus i refl (IsAtom-begins room deep x i r a)) (atom-complete x i r a s)
  unary-complete _ i r (IsUnary.negative o h) s = rw (sees-At (At-Opens o), opens_is p.may_open c.allows o, sees-Number h, number_is h) refl
  unary-complete _ i r (IsUnary.minus o n a) s = rw (sees-At (At-Opens o), opens_is p.may_open c.allows o, NotAt-unseen n, c.unary _ (room-Opens o) _ _ _ a tt) refl

  -- ---- patterns

  tuple_pattern-complete : (there : List Tok) (some : room there) {x : PatternTree} {xs : List PatternTree} {i r s q : List Tok}
      → deep.pattern x i r → At m.Comma r s → Closed m.CloseParen deep.pattern xs s q → tuple_pattern p i ≡ Ok (pat.Tuple (x ∷ xs), q)
  unfolding tuple_pattern
  tuple_pattern-complete there some {x} {xs} a h l =
      rw (c.pattern there some _ _ _ a tt, expect_is h, closed-complete (c.pattern there some) shrinking.pattern m.CloseParen begins_pattern beginning.pattern refl refl (λ j z e. tt) (λ j z e. tt) (x ∷ []) xs _ _ l) refl

  at_pattern : {k : Mark} (i : List Tok) {o : Reading PatternTree} → mark i ≡ Some k → pattern_by p (Some k) i ≡ o → pattern p i ≡ o
  unfolding pattern
  at_pattern {k} i is e = ap (λ z. pattern_by p z i) is ∙ e

  pub pattern-complete : IsComplete Anything (pattern p) (IsPattern room deep)
  pattern-complete _ i r (IsPattern.wild h) s = at_pattern i (mark-At h) (past_is (pure pat.Wild) h)
  pattern-complete _ i r (IsPattern.name h) s = at_pattern i (mark-Named h) (taking_is (λ b. pure (pat.Name b)) h)
  pattern-complete _ i r (IsPattern.int h) s = at_pattern i (mark-Number h) (rw (number_is h) refl)
  pattern-complete _ i r (IsPattern.negative h n) s = at_pattern i (mark-At h) (rw (rest-At h, number_is n) refl)
  pattern-complete _ i r (IsPattern.text h) s = at_pattern i (mark-Quoted h) (rw (quoted_is h) refl)
  pattern-complete _ i r (IsPattern.yes h) s = at_pattern i (mark-At h) (past_is (pure (pat.Truth true)) h)
  pattern-complete _ i r (IsPattern.no h) s = at_pattern i (mark-At h) (past_is (pure (pat.Truth false)) h)
  pattern-complete _ i r (IsPattern.me h) s = at_pattern i (mark-At h) (past_is (pure pat.Me) h)
  pattern-complete _ i r (IsPattern.equal {x} h a) s = at_pattern i (mark-At h) (rw (rest-At h, unary-complete x _ r a tt) refl)
  pattern-complete _ i r (IsPattern.tuple o a h l) s = at_pattern i (mark-Opens o) (rw (opens_is p.may_open c.allows o) (tuple_pattern-complete _ (room-Opens o) a h l))

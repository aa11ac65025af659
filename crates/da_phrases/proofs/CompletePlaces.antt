-- An expression or a pattern that is spelled by the grammar is read, if the reader may open as many things as the grammar.
use Rattle.std.proofs.Common.{◌≡◌, ℕ, zero, suc, ◌-◌, ◌<◌, true, false, List, [], length, Ok, refl, arith, inr, lt-ltb}
use Rattle.da_values.specs.declared.token.Mark.TheVariants as m
use Rattle.da_values.specs.Marks.{Tok}
use Rattle.da_lang.specs.declared.tree.Expr.{Expr}
use Rattle.da_lang.specs.Spelling.{Room, Opens, Closed, EachAfter}
use Rattle.da_lang.specs.ExprGrammar.{Deeper, IsExpr, IsPattern, deeper}
use Rattle.da_phrases.specs.declared.place.Level.TheVariants as level
use Rattle.da_phrases.specs.Reader.{◌>>◌, sees, past}
use Rattle.da_phrases.specs.Lists.{begun, closed}
use Rattle.da_phrases.specs.Place.{Limit, Place, at_most_32}
use Rattle.da_phrases.specs.Exprs.{place, expression, pattern}
use Rattle.da_phrases.proofs.Laws.{IsComplete, Anything, Lacks, Completes, goes_on_disj, goes_on_expr}
use Rattle.da_phrases.proofs.Steps.{room-Opens}
use Rattle.da_phrases.proofs.Shorter.{Shrinking, deeper-shrinks}
use Rattle.da_phrases.proofs.Firsts.{Beginning, begins_disj, deeper-begins, next-At}
use Rattle.da_phrases.proofs.ListComplete.{closed-complete, behind-complete}
use Rattle.da_phrases.proofs.CompleteTypes.{Enough, enough_any, enough_inside}
use Rattle.da_phrases.proofs.CompleteExprs.{unary-complete, pattern-complete}
use Rattle.da_phrases.proofs.CompleteOperators.{negation-complete, disjunction-complete, expression-complete}

-- ---- what is known of a place

-- what the readers of statements and members take for granted of a place and of what the grammar has there
pub record Ready (p : Place) (room : Room) (deep : Deeper) : Type 0 where
  pub shrinking : Shrinking deep
  pub beginning : Beginning deep
  pub completes : Completes p room deep

module _ (limit : Limit) (room : ℕ → Room) (allows : (d : ℕ) (t : List Tok) → room d t → limit d (length t) ≡ true) where
  pub place-complete : (g f d : ℕ) → Enough room g f d → Completes (place limit f d) (room d) (deeper room g (suc d))
  unfolding place deeper
  place-complete zero zero d e = record {
    allows = allows d;
    expr = λ t some x i r h s. absurd h;
    disj = λ t some x i r h s. absurd h;
    neg = λ t some x i r h s. absurd h;
    unary = λ t some x i r h s. absurd h;
    pattern = λ t some x i r h s. absurd h;
  }
  place-complete zero (suc f) d e = record {
    allows = allows d;
    expr = λ t some x i r h s. absurd h;
    disj = λ t some x i r h s. absurd h;
    neg = λ t some x i r h s. absurd h;
    unary = λ t some x i r h s. absurd h;
    pattern = λ t some x i r h s. absurd h;
  }
  place-complete (suc g) zero d e = record {
    allows = allows d;
    expr = λ t some x i r h s. absurd (enough_any room g d t some e);
    disj = λ t some x i r h s. absurd (enough_any room g d t some e);
    neg = λ t some x i r h s. absurd (enough_any room g d t some e);
    unary = λ t some x i r h s. absurd (enough_any room g d t some e);
    pattern = λ t some x i r h s. absurd (enough_any room g d t some e);
  }
  place-complete (suc g) (suc f) d e =
      let p = place limit f (suc d) in
      let deep = deeper room g (suc (suc d)) in
      let shrinking = deeper-shrinks room g (suc (suc d)) in
      let beginning = deeper-begins room g (suc (suc d)) in
      let inner = place-complete g f (suc d) (enough_inside room g f d e) in
      record {
        allows = allows d;
        expr = λ t some. expression-complete p (room (suc d)) deep shrinking beginning inner;
        disj = λ t some. disjunction-complete p (room (suc d)) deep shrinking beginning inner;
        neg = λ t some. negation-complete p (room (suc d)) deep shrinking beginning inner;
        unary = λ t some. unary-complete p (room (suc d)) deep shrinking beginning inner;
        pattern = λ t some. pattern-complete p (room (suc d)) deep shrinking beginning inner;
      }

  pub place-ready : (g f d : ℕ) → Enough room g f d → Ready (place limit f d) (room d) (deeper room g (suc d))
  place-ready g f d e = record { shrinking = deeper-shrinks room g (suc d); beginning = deeper-begins room g (suc d); completes = place-complete g f d e }

  pub expression_there-complete : (g f d : ℕ) → Enough room g f d → IsComplete (Lacks goes_on_expr) (expression (place limit f d)) (IsExpr (room d) (deeper room g (suc d)))
  expression_there-complete g f d e =
      expression-complete (place limit f d) (room d) (deeper room g (suc d)) (deeper-shrinks room g (suc d)) (deeper-begins room g (suc d)) (place-complete g f d e)

  pub pattern_there-complete : (g f d : ℕ) → Enough room g f d → IsComplete Anything (pattern (place limit f d)) (IsPattern (room d) (deeper room g (suc d)))
  pattern_there-complete g f d e =
      pattern-complete (place limit f d) (room d) (deeper room g (suc d)) (deeper-shrinks room g (suc d)) (deeper-begins room g (suc d)) (place-complete g f d e)

-- ---- what statements, members and programs take from a place

module _ (p : Place) (room : Room) (deep : Deeper) (ready : Ready p room deep) where
  pub expression_ready : IsComplete (Lacks goes_on_expr) (expression p) (IsExpr room deep)
  expression_ready = expression-complete p room deep ready.shrinking ready.beginning ready.completes

  pub pattern_ready : IsComplete Anything (pattern p) (IsPattern room deep)
  pattern_ready = pattern-complete p room deep ready.shrinking ready.beginning ready.completes

  -- expressions after a parenthesis, up to its end
  pub after_paren-complete : {t s : List Tok} → Opens m.OpenParen room t s → (xs : List Expr) (i r : List Tok) → Closed m.CloseParen deep.disj xs i r → closed m.CloseParen (p.expr level.Disj) [] i ≡ Ok (xs, r)
  after_paren-complete o xs i r l =
      closed-complete (ready.completes.disj _ (room-Opens o)) ready.shrinking.disj m.CloseParen begins_disj ready.beginning.disj refl refl
      (λ j q h. next-At goes_on_disj h) (λ j q h. next-At goes_on_disj h) [] xs i r l

  -- expressions that each stand after a comma, after a parenthesis
  pub after_commas-complete : {t s : List Tok} → Opens m.OpenParen room t s → (xs : List Expr) (i r : List Tok) → EachAfter m.Comma deep.disj xs i r → Lacks goes_on_disj r → sees m.Comma r ≡ false
      → begun m.Comma (past (p.expr level.Disj)) [] i ≡ Ok (xs, r)
  after_commas-complete o xs i r l s c =
      behind-complete (ready.completes.disj _ (room-Opens o)) ready.shrinking.disj m.Comma (λ j q h. next-At goes_on_disj h) [] xs i r l s c

-- ---- at most so many things may be open

abbrev pub under : ℕ → ℕ → Room
under most d t = d < most

pub under-allows : (d : ℕ) (t : List Tok) → under 32 d t → at_most_32 d (length t) ≡ true
under-allows d t h = lt-ltb d 32 h

-- the reader's number of things that may still be opened
pub under-enough : (most g d : ℕ) → Enough (under most) g (most - d) d
under-enough most g d = inr (λ t h. omega arith)

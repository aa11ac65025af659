-- The statements of blocks where so many things are open: what is shown of their readers.
use Rattle.std.proofs.Common.{◌≡◌, ℕ, zero, suc, ◌+◌, ◌≤◌, ◌<◌, true, List, [], ◌∷◌, ◌++◌, length, Ok, refl, sym, subst, arith}
use Rattle.da_values.specs.declared.token.Mark.{Mark}
use Rattle.da_values.specs.declared.token.Mark.TheVariants as m
use Rattle.da_values.specs.Marks.{Tok}
use Rattle.da_lang.specs.declared.tree.Branch.{Branch}
use Rattle.da_lang.specs.declared.tree.Stmt.{Stmt}
use Rattle.da_lang.specs.Spelling.{Room, at, Ended, ends}
use Rattle.da_lang.specs.ExprGrammar.{Deeper, IsExpr, deeper}
use Rattle.da_lang.specs.StmtGrammar.{IsBlock, IsStmt, BodyIn}
use Rattle.da_lang.specs.StmtGrammar as g
use Rattle.da_phrases.specs.Reader.{sees, Reader}
use Rattle.da_phrases.specs.Place.{Limit, Place}
use Rattle.da_phrases.specs.Exprs.{place, expression}
use Rattle.da_parse.specs.Stmts.{block_after_colon, branch, stmt, stmts, bodies}
use Rattle.da_phrases.proofs.Laws.{IsSound, Sounds}
use Rattle.da_phrases.proofs.Steps.{At-sees}
use Rattle.da_phrases.proofs.Shorter.{Shrinking, deeper-shrinks}
use Rattle.da_parse.proofs.ShorterStmts.{IsBranch-shrinks, IsStmt-shrinks, BodyIn-shrinks}
use Rattle.da_phrases.proofs.SoundPlaces.{places-sound, expression_there-sound}
use Rattle.da_parse.proofs.SoundStmts.{AfterColon, branch-sound, stmt-sound, bodies-sound}
use Rattle.da_phrases.proofs.Faults.{Rule, Makes, Cut, Good, Whole}
use Rattle.da_phrases.proofs.FaultLists.{Strict}
use Rattle.da_phrases.proofs.FaultTypes.{below}
use Rattle.da_phrases.proofs.FaultExprs.{Exact}
use Rattle.da_phrases.proofs.FaultPlaces.{by_parts, levels, places}
use Rattle.da_parse.proofs.FaultStmts.{stmts-whole, block_after_colon-whole}

abbrev Any : ℕ → Room
Any d t = Unit {0}

-- ---- what readers pass, whatever may be opened

module _ (limit : Limit) (f d : ℕ) where
  abbrev T : Place
  T = place limit f d

  abbrev B : Reader (List Stmt)
  B = bodies limit f (suc d)

  expression_is : IsSound (expression T) (IsExpr (Any d) (deeper Any f (suc d)))
  expression_is = expression_there-sound limit Any (λ d t h. tt) f f d (omega arith)

  body_is : IsSound B (BodyIn Any f (suc d))
  body_is = bodies-sound limit Any (λ d t h. tt) f f (suc d) (omega arith)

  there : Sounds T (Any d) (deeper Any f (suc d))
  there = places-sound limit Any (λ d t h. tt) f f d (omega arith)

  pub branch-strict : (k : Mark) (i : List Tok) (y : Branch × List Tok) → sees k i ≡ true → branch T B i ≡ Ok y → length y.1 < length i
  branch-strict k i y seen e = IsBranch-shrinks (Any d) (deeper Any f (suc d)) (deeper-shrinks Any f (suc d)) (BodyIn Any f (suc d)) (BodyIn-shrinks Any f (suc d)) k _ _ _
      (branch-sound T (Any d) (deeper Any f (suc d)) there expression_is B (BodyIn Any f (suc d)) body_is k i y (At-sees k i seen) e)

  pub stmt-strict : Strict (stmt T B)
  stmt-strict i y e = IsStmt-shrinks (Any d) (deeper Any f (suc d)) (deeper-shrinks Any f (suc d)) (BodyIn Any f (suc d)) (BodyIn-shrinks Any f (suc d)) _ _ _
      (stmt-sound T (Any d) (deeper Any f (suc d)) there expression_is B (BodyIn Any f (suc d)) body_is i y e)

-- ---- by the parts of places

module _ (c : Cut) (Q : Type 0) (f h n d : ℕ) (sum : f + d ≡ c.most) (le : f ≤ h) (less : f < n) {w : List Mark} (body : Whole c (d < c.most) w (bodies (below c.most) f (suc d)) (bodies c.wider h (suc d)) (λ room. BodyIn room n (suc d))) where
  abbrev First : Place
  First = record { may_open = below c.most d; expr = (place (below c.most) f d).expr; pattern = (place (below c.most) f d).pattern }

  abbrev Second : Place
  Second = record { may_open = c.wider d; expr = (place c.wider h d).expr; pattern = (place c.wider h d).pattern }

  abbrev B1 : Reader (List Stmt)
  B1 = bodies (below c.most) f (suc d)

  abbrev B2 : Reader (List Stmt)
  B2 = bodies c.wider h (suc d)

  first_is : First ≡ place (below c.most) f d
  first_is = by_parts (below c.most) f d

  second_is : Second ≡ place c.wider h d
  second_is = by_parts c.wider h d

  exact : Exact c d (place (below c.most) f d).expr (place c.wider h d).expr (place (below c.most) f d).pattern (place c.wider h d).pattern (λ room. deeper room n (suc d))
  exact = places c f h n d sum le less

  expr_whole : Whole c Q (m.Name ∷ []) (expression First) (expression Second) (λ room. IsExpr (room d) (deeper room n (suc d)))
  expr_whole = subst (λ p. Whole c Q (m.Name ∷ []) (expression p) (expression Second) (λ room. IsExpr (room d) (deeper room n (suc d)))) (sym first_is)
      (subst (λ q. Whole c Q (m.Name ∷ []) (expression (place (below c.most) f d)) (expression q) (λ room. IsExpr (room d) (deeper room n (suc d)))) (sym second_is) (levels c Q f h n d exact).expr)

  branch1 : (k : Mark) (i : List Tok) (y : Branch × List Tok) → sees k i ≡ true → branch First B1 i ≡ Ok y → length y.1 < length i
  branch1 = subst (λ p. (k : Mark) (i : List Tok) (y : Branch × List Tok) → sees k i ≡ true → branch p B1 i ≡ Ok y → length y.1 < length i) (sym first_is) (branch-strict (below c.most) f d)

  branch2 : (k : Mark) (i : List Tok) (y : Branch × List Tok) → sees k i ≡ true → branch Second B2 i ≡ Ok y → length y.1 < length i
  branch2 = subst (λ p. (k : Mark) (i : List Tok) (y : Branch × List Tok) → sees k i ≡ true → branch p B2 i ≡ Ok y → length y.1 < length i) (sym second_is) (branch-strict c.wider h d)

  stmt1 : Strict (stmt First B1)
  stmt1 = subst (λ p. Strict (stmt p B1)) (sym first_is) (stmt-strict (below c.most) f d)

  stmt2 : Strict (stmt Second B2)
  stmt2 = subst (λ p. Strict (stmt p B2)) (sym second_is) (stmt-strict c.wider h d)

  pub statements : Whole c Q (m.Pass ∷ m.Newline ∷ m.Dedent ∷ []) (stmts (place (below c.most) f d) B1) (stmts (place c.wider h d) B2) (λ room. Ended (IsStmt (room d) (deeper room n (suc d)) (BodyIn room n (suc d))))
  statements = subst (λ p. Whole c Q (m.Pass ∷ m.Newline ∷ m.Dedent ∷ []) (stmts p B1) (stmts (place c.wider h d) B2) (λ room. Ended (IsStmt (room d) (deeper room n (suc d)) (BodyIn room n (suc d))))) first_is
      (subst (λ q. Whole c Q (m.Pass ∷ m.Newline ∷ m.Dedent ∷ []) (stmts First B1) (stmts q B2) (λ room. Ended (IsStmt (room d) (deeper room n (suc d)) (BodyIn room n (suc d))))) second_is
      (stmts-whole c d exact Q expr_whole body branch1 branch2 stmt1 stmt2))

  pub block_whole : Whole c Q (m.Colon ∷ m.Newline ∷ m.Indent ∷ w) (block_after_colon (place (below c.most) f d) B1) (block_after_colon (place c.wider h d) B2) (λ room. AfterColon (IsBlock (room d) (deeper room n (suc d)) (BodyIn room n (suc d))))
  block_whole = subst (λ p. Whole c Q (m.Colon ∷ m.Newline ∷ m.Indent ∷ w) (block_after_colon p B1) (block_after_colon (place c.wider h d) B2) (λ room. AfterColon (IsBlock (room d) (deeper room n (suc d)) (BodyIn room n (suc d))))) first_is
      (subst (λ q. Whole c Q (m.Colon ∷ m.Newline ∷ m.Indent ∷ w) (block_after_colon First B1) (block_after_colon q B2) (λ room. AfterColon (IsBlock (room d) (deeper room n (suc d)) (BodyIn room n (suc d))))) second_is
      (block_after_colon-whole c d exact Q expr_whole body))

-- the grammar may have more things open than the readers, of which the second may have more than the first
pub bodies-whole : (c : Cut) (f h n d : ℕ) → f + d ≡ suc c.most → f ≤ h → f < n → Whole c (d ≤ c.most) (m.Pass ∷ m.Newline ∷ m.Dedent ∷ []) (bodies (below c.most) f d) (bodies c.wider h d) (λ room. BodyIn room n d)
unfolding bodies BodyIn
bodies-whole c zero h zero d sum le less = absurd (omega (arith, less))
bodies-whole c (suc f) h zero d sum le less = absurd (omega (arith, less))
bodies-whole c (suc f) zero n d sum le less = absurd (omega (arith, le))
bodies-whole c zero h (suc n) d sum le less = record {
  good = record { viable = λ so. absurd (omega (arith, so, sum)); local = λ so. absurd (omega (arith, so, sum)) };
  makes = record { of = λ wide most s few. (_, ends (g.pass (at refl) (at refl)) (at refl)) };
}
bodies-whole c (suc f) (suc h) (suc n) d sum le less =
    statements c (d ≤ c.most) f h n d (omega (arith, sum)) (omega (arith, le)) (omega (arith, less)) (bodies-whole c f h n (suc d) (omega (arith, sum)) (omega (arith, le)) (omega (arith, less)))

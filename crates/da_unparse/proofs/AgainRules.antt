-- What is printed of a type, a pattern or an expression that some tokens spell, spells it, with no more nesting: one law for each rule.
use Rattle.std.proofs.Common.{ℕ, suc, List, ◌++◌, arith}
use Rattle.da_values.specs.Marks.{Tok}
use Rattle.da_lang.specs.Spelling.{Spelling}
use Rattle.da_lang.specs.TypeGrammar.{TypeIn}
use Rattle.da_lang.specs.ExprGrammar.{IsExpr, IsDisj, IsConj, IsNeg, IsComp, IsSum, IsProd, IsUnary, IsPattern, deeper}
use Rattle.da_unparse.specs.Expressions.{either, both, negation, comparison, sum, product, signed, expr_pieces, pattern_pieces, type_pieces}
use Rattle.da_unparse.specs.Lines.{toks_of}
use Rattle.da_unparse.specs.Pieces.{Piece}
use Rattle.da_unparse.proofs.AgainTools.{put, Again}
use Rattle.da_unparse.proofs.AgainTypes.{type-again}
use Rattle.da_unparse.proofs.AgainPlaces.{operand, expr-below, held, fits-operand, loosened}
use Rattle.da_unparse.proofs.AgainExprs.{below-again, expr-again, disj-again, conj-again, neg-again, comp-again, sum-again, prod-again, unary-again, pattern-again}

-- whatever spells it, its printed tokens do so too, and whatever follows them
abbrev pub Spells_again : ℕ → {A : Type 0} → Spelling A → (A → List Piece) → Type 0
Spells_again n {A} Item pieces = (x : A) (i r : List Tok) → Item x i r → (s : List Tok) → Item x (toks_of n (pieces x) ++ s) s

as_toks : {A : Type 0} {Item : Spelling A} (n : ℕ) (pieces : A → List Piece) → Again n Item Item pieces → Spells_again n Item pieces
unfolding put
as_toks n pieces h = h

pub type_spells_again : (R : ℕ → Type 0) (n f d : ℕ) → Spells_again n (TypeIn (λ d t. R d) f d) type_pieces
type_spells_again R n f d = as_toks n _ (type-again R n f d)

module _ (R : ℕ → Type 0) (down : (d : ℕ) → R (suc d) → R d) (n f d : ℕ) where
  pub exprs-again : Again n (IsExpr (λ t. R d) (deeper (λ d t. R d) f (suc d))) (IsExpr (λ t. R d) (deeper (λ d t. R d) f (suc d))) expr_pieces
  exprs-again x i r h s = loosened (λ t. R d) (deeper (λ d t. R d) f (suc d)) _ 0 (omega arith) x _ s (held R down n (expr-again R down n f d (below-again R down n f d) x i r h) s)

  pub expr_spells_again : Spells_again n (IsExpr (λ t. R d) (deeper (λ d t. R d) f (suc d))) expr_pieces
  expr_spells_again = as_toks n _ exprs-again

  pub disj_spells_again : Spells_again n (IsDisj (λ t. R d) (deeper (λ d t. R d) f (suc d))) (operand either)
  disj_spells_again = as_toks n _ (λ x i r h. fits-operand R down n (disj-again R down n f d (below-again R down n f d) x i r h))

  pub conj_spells_again : Spells_again n (IsConj (λ t. R d) (deeper (λ d t. R d) f (suc d))) (operand both)
  conj_spells_again = as_toks n _ (λ x i r h. fits-operand R down n (conj-again R down n f d (below-again R down n f d) x i r h))

  pub neg_spells_again : Spells_again n (IsNeg (λ t. R d) (deeper (λ d t. R d) f (suc d))) (operand negation)
  neg_spells_again = as_toks n _ (λ x i r h. fits-operand R down n (neg-again R down n f d (below-again R down n f d) x i r h))

  pub comp_spells_again : Spells_again n (IsComp (λ t. R d) (deeper (λ d t. R d) f (suc d))) (operand comparison)
  comp_spells_again = as_toks n _ (λ x i r h. fits-operand R down n (comp-again R down n f d (below-again R down n f d) x i r h))

  pub sum_spells_again : Spells_again n (IsSum (λ t. R d) (deeper (λ d t. R d) f (suc d))) (operand sum)
  sum_spells_again = as_toks n _ (λ x i r h. fits-operand R down n (sum-again R down n f d (below-again R down n f d) x i r h))

  pub prod_spells_again : Spells_again n (IsProd (λ t. R d) (deeper (λ d t. R d) f (suc d))) (operand product)
  prod_spells_again = as_toks n _ (λ x i r h. fits-operand R down n (prod-again R down n f d (below-again R down n f d) x i r h))

  pub unary_spells_again : Spells_again n (IsUnary (λ t. R d) (deeper (λ d t. R d) f (suc d))) (operand signed)
  unary_spells_again = as_toks n _ (λ x i r h. fits-operand R down n (unary-again R down n f d (below-again R down n f d) x i r h))

  pub patterns-again : Again n (IsPattern (λ t. R d) (deeper (λ d t. R d) f (suc d))) (IsPattern (λ t. R d) (deeper (λ d t. R d) f (suc d))) pattern_pieces
  patterns-again = pattern-again R down n f d (below-again R down n f d)

  pub pattern_spells_again : Spells_again n (IsPattern (λ t. R d) (deeper (λ d t. R d) f (suc d))) pattern_pieces
  pattern_spells_again = as_toks n _ patterns-again

  pub below_exprs-again : Again n (deeper (λ d t. R d) f (suc d)).expr (deeper (λ d t. R d) f (suc d)).expr expr_pieces
  below_exprs-again x i r h = expr-below R down n f d x ((below-again R down n f d).expr x i r h)

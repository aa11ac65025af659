-- How tightly an expression must hold together where a rule of the grammar stands, and what its printed tokens spell there:
-- as it is where that is tight enough, else in parentheses, for which there is room where the tokens that were read had opened something.
use Rattle.std.proofs.Common.{◌≡◌, ℕ, zero, suc, ◌≤◌, true, false, List, refl, sym, ap, subst, arith, inl, inr}
use Rattle.std.proofs.lemmas.Bool.Decides.{nat_tests}
use Rattle.std.specs.Prelude.{nat_lt, if◌then◌else◌}
use Rattle.da_values.specs.Marks.{Tok}
use Rattle.da_lang.specs.declared.tree.Expr.{Expr}
use Rattle.da_lang.specs.Spelling as g
use Rattle.da_lang.specs.Spelling.{Spelling, Room}
use Rattle.da_lang.specs.ExprGrammar as eg
use Rattle.da_lang.specs.ExprGrammar.{Deeper, IsAtom, IsUnary, IsProd, IsSum, IsComp, IsNeg, IsConj, IsDisj, IsExpr, deeper}
use Rattle.da_unparse.specs.Expressions.{Shown, shown, expr_pieces, at_least}
use Rattle.da_unparse.specs.Pieces.{Piece, in_parens}
use Rattle.da_phrases.proofs.Steps.{bool_cases}
use Rattle.da_unparse.proofs.AgainMore.{Within, deeper-down, IsExpr-more, IsDisj-more, IsConj-more, IsNeg-more, IsComp-more, IsSum-more, IsProd-more, IsUnary-more, DeepWithin}
use Rattle.da_unparse.proofs.AgainTools.{put, put-in_parens}

-- the pieces of an expression where so much is asked for
abbrev pub operand : ℕ → Expr → List Piece
operand asked x = at_least asked (shown x)

-- ---- the rules, the loosest first

module _ (room : Room) (deep : Deeper) where
  abbrev pub Rule : ℕ → Spelling Expr
  Rule zero = IsExpr room deep
  Rule (suc zero) = IsDisj room deep
  Rule (suc (suc zero)) = IsConj room deep
  Rule (suc (suc (suc zero))) = IsNeg room deep
  Rule (suc (suc (suc (suc zero)))) = IsComp room deep
  Rule (suc (suc (suc (suc (suc zero))))) = IsSum room deep
  Rule (suc (suc (suc (suc (suc (suc zero)))))) = IsProd room deep
  Rule _ = IsUnary room deep

  looser : (k : ℕ) → Within (Rule (suc k)) (Rule k)
  looser zero a i r h = eg.IsExpr.disj h
  looser (suc zero) a i r h = eg.IsJoined.lone h
  looser (suc (suc zero)) a i r h = eg.IsJoined.lone h
  looser (suc (suc (suc zero))) a i r h = eg.IsNeg.comp h
  looser (suc (suc (suc (suc zero)))) a i r h = eg.IsComp.lone h
  looser (suc (suc (suc (suc (suc zero))))) a i r h = eg.IsChain.lone h
  looser (suc (suc (suc (suc (suc (suc zero)))))) a i r h = eg.IsChain.lone h
  looser (suc (suc (suc (suc (suc (suc (suc k))))))) a i r h = h

  pub loosened : (k j : ℕ) → j ≤ k → Within (Rule k) (Rule j)
  loosened zero j le a i r h = let e : zero ≡ j = omega arith in subst (λ l. Rule l a i r) e h
  loosened (suc k) j le a i r h = elim (bool_cases (nat_lt k j)) [
    | inl above ↦ (let e : suc k ≡ j = grind (arith, nat_tests) in subst (λ l. Rule l a i r) e h)
    | inr below ↦ loosened k j (grind (arith, nat_tests)) a i r (looser k a i r h)
  ]

  -- what holds together most stands at every place
  pub anywhere : (j : ℕ) → Within (IsUnary room deep) (Rule j)
  anywhere (suc (suc (suc (suc (suc (suc (suc j))))))) a i r h = h
  anywhere zero a i r h = loosened 7 0 (omega arith) a i r h
  anywhere (suc zero) a i r h = loosened 7 1 (omega arith) a i r h
  anywhere (suc (suc zero)) a i r h = loosened 7 2 (omega arith) a i r h
  anywhere (suc (suc (suc zero))) a i r h = loosened 7 3 (omega arith) a i r h
  anywhere (suc (suc (suc (suc zero)))) a i r h = loosened 7 4 (omega arith) a i r h
  anywhere (suc (suc (suc (suc (suc zero))))) a i r h = loosened 7 5 (omega arith) a i r h
  anywhere (suc (suc (suc (suc (suc (suc zero)))))) a i r h = loosened 7 6 (omega arith) a i r h

Rule-more : (room wider : Room) (widens : (t : List Tok) → room t → wider t) (deep more : Deeper) (w : DeepWithin deep more) (k : ℕ) → Within (Rule room deep k) (Rule wider more k)
Rule-more room wider widens deep more w zero = IsExpr-more room wider widens deep more w
Rule-more room wider widens deep more w (suc zero) = IsDisj-more room wider widens deep more w
Rule-more room wider widens deep more w (suc (suc zero)) = IsConj-more room wider widens deep more w
Rule-more room wider widens deep more w (suc (suc (suc zero))) = IsNeg-more room wider widens deep more w
Rule-more room wider widens deep more w (suc (suc (suc (suc zero)))) = IsComp-more room wider widens deep more w
Rule-more room wider widens deep more w (suc (suc (suc (suc (suc zero))))) = IsSum-more room wider widens deep more w
Rule-more room wider widens deep more w (suc (suc (suc (suc (suc (suc zero)))))) = IsProd-more room wider widens deep more w
Rule-more room wider widens deep more w (suc (suc (suc (suc (suc (suc (suc k))))))) = IsUnary-more room wider widens deep more w

-- ---- parentheses

as_it_is : (asked : ℕ) (x : Expr) → nat_lt (shown x).holds asked ≡ false → operand asked x ≡ expr_pieces x
unfolding at_least
as_it_is asked x e = ap (λ b. if b then in_parens (expr_pieces x) else expr_pieces x) e

put_in : (asked : ℕ) (x : Expr) → nat_lt (shown x).holds asked ≡ true → operand asked x ≡ in_parens (expr_pieces x)
unfolding at_least
put_in asked x e = ap (λ b. if b then in_parens (expr_pieces x) else expr_pieces x) e

-- ---- places: so many things are open, and so many more may be

module _ (R : ℕ → Type 0) (down : (d : ℕ) → R (suc d) → R d) (n : ℕ) where
  abbrev pub below : ℕ → ℕ → Deeper
  below f d = deeper (λ d t. R d) f (suc d)

  abbrev pub RuleAt : ℕ → ℕ → ℕ → Spelling Expr
  RuleAt f d = Rule (λ t. R d) (below f d)

  -- its pieces spell it by the rule for how tightly it holds together
  abbrev pub Held : ℕ → ℕ → Expr → Type 0
  Held f d x = (s : List Tok) → RuleAt f d (shown x).holds x (put n (expr_pieces x) s) s

  -- the same, one deeper
  abbrev pub HeldBelow : ℕ → ℕ → Expr → Type 0
  HeldBelow zero d x = ⊥
  HeldBelow (suc f) d x = Held f (suc d) x

  -- it may stand where so much is asked for: it holds together so much, or there is room for parentheses
  pub data Fits (f d asked : ℕ) (x : Expr) : Type 0 where
    as_is : asked ≤ (shown x).holds → Held f d x → Fits f d asked x
    grouped : R d → HeldBelow f d x → Fits f d asked x

  pub held-up : (f d : ℕ) (x : Expr) → HeldBelow f d x → Held f d x
  unfolding deeper
  held-up zero d x h = absurd h
  held-up (suc f) d x h = λ s. Rule-more (λ t. R (suc d)) (λ t. R d) (λ t. down d) (below f (suc d)) (below (suc f) d) (deeper-down R down f (suc d)) (shown x).holds x _ s (h s)

  pub expr-below : (f d : ℕ) (x : Expr) → HeldBelow f d x → (s : List Tok) → (below f d).expr x (put n (expr_pieces x) s) s
  unfolding deeper
  expr-below zero d x h = absurd h
  expr-below (suc f) d x h = λ s. loosened (λ t. R (suc d)) (below f (suc d)) (shown x).holds 0 (omega arith) x _ s (h s)

  pub in_parens-again : (f d : ℕ) (x : Expr) → R d → HeldBelow f d x → (s : List Tok) → IsAtom (λ t. R d) (below f d) x (put n (in_parens (expr_pieces x)) s) s
  in_parens-again f d x some h s = rw (put-in_parens n (expr_pieces x) s) (eg.IsAtom.group (g.Opens.opens some (g.At.at refl)) (expr-below f d x h _) (g.At.at refl))

  pub held : {f d asked : ℕ} {x : Expr} → Fits f d asked x → Held f d x
  held (as_is le h) = h
  held {f} {d} {asked} {x} (grouped some h) = held-up f d x h

  pub fits-looser : {f d asked less : ℕ} {x : Expr} → less ≤ asked → Fits f d asked x → Fits f d less x
  fits-looser le (as_is more h) = as_is (omega arith) h
  fits-looser le (grouped some h) = grouped some h

  held-operand : (f d asked : ℕ) (x : Expr) → nat_lt (shown x).holds asked ≡ false → Held f d x → (s : List Tok) → RuleAt f d asked x (put n (operand asked x) s) s
  held-operand f d asked x e h s =
      rw (as_it_is asked x e) (loosened (λ t. R d) (below f d) (shown x).holds asked (grind (arith, nat_tests)) x _ s (h s))

  -- where so much is asked for, its pieces there spell it by the rule of the place
  pub fits-operand : {f d asked : ℕ} {x : Expr} → Fits f d asked x → (s : List Tok) → RuleAt f d asked x (put n (operand asked x) s) s
  fits-operand {f} {d} {asked} {x} (as_is le h) s = held-operand f d asked x (grind (arith, nat_tests)) h s
  fits-operand {f} {d} {asked} {x} (grouped some h) s = elim (bool_cases (nat_lt (shown x).holds asked)) [
    | inl less ↦ rw (put_in asked x less) (anywhere (λ t. R d) (below f d) asked x _ s (eg.IsUnary.atom (in_parens-again f d x some h s)))
    | inr enough ↦ held-operand f d asked x enough (held-up f d x h) s
  ]

  pub fits-shown : {f d asked : ℕ} {x : Expr} (w : Shown) → shown x ≡ w → asked ≤ w.holds → ((s : List Tok) → RuleAt f d w.holds x (put n w.pieces s) s) → Fits f d asked x
  fits-shown {f} {d} {asked} {x} w e le h = as_is (omega (arith, ap (λ z. z.holds) e)) (λ s. subst (λ (z : Shown). RuleAt f d z.holds x (put n z.pieces s) s) (sym e) (h s))

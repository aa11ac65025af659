-- How the lists of the grammar are read. Each turn passes a token, so there are as many turns as tokens; the number counts
-- those that are left.
use Rattle.std.specs.Prelude.{ℕ, zero, suc, List, [], ◌∷◌, ◌++◌, length, Option, Some, None}
use Rattle.da_values.specs.declared.token.Mark.{Mark}
use Rattle.da_values.specs.declared.token.Mark.TheVariants as m
use Rattle.da_lang.specs.declared.tree.ArithOp.{ArithOp}
use Rattle.da_lang.specs.declared.tree.ChainTree.{ChainTree, roll-ChainTree}
use Rattle.da_lang.specs.declared.tree.Expr.{Expr}
use Rattle.da_phrases.specs.Reader.{Reader, ◌>>=◌, ◌>>◌, pure, refuse, past, by_mark, if_next, after_token, expect}

-- what stands in a block: one or more, and its end
module _ {A : Type 0} (item : Reader A) where
  unfoldable pub ended_from : ℕ → List A → Reader (List A)
  ended_from zero found = refuse
  ended_from (suc n) found = item >>= λ x. after_token m.Dedent (pure (found ++ x ∷ [])) (ended_from n (found ++ x ∷ []))

  unfoldable pub ended : Reader (List A)
  ended = λ i. ended_from (length i) [] i

-- branches and arguments after those found: none or more, each of which begins with a token of this mark
module _ {A : Type 0} (k : Mark) (item : Reader A) where
  unfoldable pub begun_from : ℕ → List A → Reader (List A)
  begun_from zero found = pure found
  begun_from (suc n) found = if_next k (item >>= λ x. begun_from n (found ++ x ∷ [])) (pure found)

  unfoldable pub begun : List A → Reader (List A)
  begun found = λ i. begun_from (length i) found i

-- the further operands of a chain, each after its sign
module _ (sign : Option Mark → Option ArithOp) (operand : Reader Expr) where
  abbrev pub others_by : (List ChainTree → Reader (List ChainTree)) → List ChainTree → Option ArithOp → Reader (List ChainTree)
  others_by next found None = pure found
  others_by next found (Some op) = past (operand >>= λ x. next (found ++ roll-ChainTree (record { op = op; operand = x }) ∷ []))

  unfoldable pub others_from : ℕ → List ChainTree → Reader (List ChainTree)
  others_from zero found = pure found
  others_from (suc n) found = by_mark (λ k. others_by (others_from n) found (sign k))

  unfoldable pub others : Reader (List ChainTree)
  others = λ i. others_from (length i) [] i

-- one or more after those found, with a token of this mark between
module _ {A : Type 0} (k : Mark) (item : Reader A) where
  unfoldable pub separated_from : ℕ → List A → Reader (List A)
  separated_from zero found = refuse
  separated_from (suc n) found = item >>= λ x. after_token k (separated_from n (found ++ x ∷ [])) (pure (found ++ x ∷ []))

  unfoldable pub separated : List A → Reader (List A)
  separated found = λ i. separated_from (length i) found i

-- what stands in brackets, up to the closing one: those found alone, or more after them with commas between
unfoldable pub closed : {A : Type 0} → Mark → Reader A → List A → Reader (List A)
closed close item found = after_token close (pure found) (do all ← separated m.Comma item found; expect close; pure all)

-- One turn of each reader of lists, as a loop takes it.
use Rattle.std.proofs.Common.{◌≡◌, ℕ, suc, ◌+◌, ◌-◌, ◌<◌, ◌≤◌, List, [], ◌∷◌, ◌++◌, length, Option, refl, ap, arith}
use Rattle.da_values.specs.declared.token.Mark.{Mark}
use Rattle.da_values.specs.declared.token.Mark.TheVariants as m
use Rattle.da_values.specs.Marks.{Tok}
use Rattle.da_lang.specs.declared.tree.ArithOp.{ArithOp}
use Rattle.da_lang.specs.declared.tree.ChainTree.{ChainTree}
use Rattle.da_lang.specs.declared.tree.Expr.{Expr}
use Rattle.da_phrases.specs.Reader.{Reader, ◌>>=◌, pure, refuse, by_mark, if_next, after_token}
use Rattle.da_phrases.specs.Lists.{separated, separated_from, begun, begun_from, ended, ended_from, others, others_by, others_from}

module _ {A : Type 0} (k : Mark) (item : Reader A) where
  pub separated_start : (found : List A) (i : List Tok) → separated k item found i ≡ separated_from k item (length i) found i
  unfolding separated
  separated_start found i = refl

  pub separated_turn : (n at : ℕ) (found : List A) (i : List Tok) → at < n
      → separated_from k item (n - at) found i ≡ (item >>= λ x. after_token k (separated_from k item (n - (at + 1)) (found ++ x ∷ [])) (pure (found ++ x ∷ []))) i
  unfolding separated_from
  separated_turn n at found i h = let e : n - at ≡ suc (n - (at + 1)) = omega arith in ap (λ c. separated_from k item c found i) e

  pub separated_end : (n at : ℕ) (found : List A) (i : List Tok) → n ≤ at → separated_from k item (n - at) found i ≡ refuse i
  unfolding separated_from
  separated_end n at found i h = let e : n - at ≡ 0 = omega arith in ap (λ c. separated_from k item c found i) e

  pub begun_start : (found : List A) (i : List Tok) → begun k item found i ≡ begun_from k item (length i) found i
  unfolding begun
  begun_start found i = refl

  pub begun_turn : (n at : ℕ) (found : List A) (i : List Tok) → at < n
      → begun_from k item (n - at) found i ≡ if_next k (item >>= λ x. begun_from k item (n - (at + 1)) (found ++ x ∷ [])) (pure found) i
  unfolding begun_from
  begun_turn n at found i h = let e : n - at ≡ suc (n - (at + 1)) = omega arith in ap (λ c. begun_from k item c found i) e

  pub begun_end : (n at : ℕ) (found : List A) (i : List Tok) → n ≤ at → begun_from k item (n - at) found i ≡ pure found i
  unfolding begun_from
  begun_end n at found i h = let e : n - at ≡ 0 = omega arith in ap (λ c. begun_from k item c found i) e

module _ {A : Type 0} (item : Reader A) where
  pub ended_start : (i : List Tok) → ended item i ≡ ended_from item (length i) [] i
  unfolding ended
  ended_start i = refl

  pub ended_turn : (n at : ℕ) (found : List A) (i : List Tok) → at < n
      → ended_from item (n - at) found i ≡ (item >>= λ x. after_token m.Dedent (pure (found ++ x ∷ [])) (ended_from item (n - (at + 1)) (found ++ x ∷ []))) i
  unfolding ended_from
  ended_turn n at found i h = let e : n - at ≡ suc (n - (at + 1)) = omega arith in ap (λ c. ended_from item c found i) e

  pub ended_end : (n at : ℕ) (found : List A) (i : List Tok) → n ≤ at → ended_from item (n - at) found i ≡ refuse i
  unfolding ended_from
  ended_end n at found i h = let e : n - at ≡ 0 = omega arith in ap (λ c. ended_from item c found i) e

module _ (sign : Option Mark → Option ArithOp) (operand : Reader Expr) where
  pub others_start : (i : List Tok) → others sign operand i ≡ others_from sign operand (length i) [] i
  unfolding others
  others_start i = refl

  pub others_turn : (n at : ℕ) (found : List ChainTree) (i : List Tok) → at < n
      → others_from sign operand (n - at) found i ≡ by_mark (λ k. others_by sign operand (others_from sign operand (n - (at + 1))) found (sign k)) i
  unfolding others_from
  others_turn n at found i h = let e : n - at ≡ suc (n - (at + 1)) = omega arith in ap (λ c. others_from sign operand c found i) e

  pub others_end : (n at : ℕ) (found : List ChainTree) (i : List Tok) → n ≤ at → others_from sign operand (n - at) found i ≡ pure found i
  unfolding others_from
  others_end n at found i h = let e : n - at ≡ 0 = omega arith in ap (λ c. others_from sign operand c found i) e

pub ruleset separated_loop = (separated_start, separated_turn, separated_end)

pub ruleset begun_loop = (begun_start, begun_turn, begun_end)

pub ruleset ended_loop = (ended_start, ended_turn, ended_end)

pub ruleset others_loop = (others_start, others_turn, others_end)

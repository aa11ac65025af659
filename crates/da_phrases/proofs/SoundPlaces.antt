-- Places: where d things are open, the readers of expressions and patterns are sound, for every rule of nesting of the grammar
-- that allows what the rule of the readers does.
use Rattle.std.proofs.Common.{◌≡◌, ℕ, zero, suc, ◌≤◌, true, List, ◌∷◌, length, refl, arith}
use Rattle.da_values.specs.declared.token.Mark.{Mark}
use Rattle.da_values.specs.Marks.{Tok}
use Rattle.da_lang.specs.declared.tree.Expr.{Expr}
use Rattle.da_lang.specs.Spelling.{Room, At, at, Opens, opens, Named, named, Number, number, Quoted, quoted}
use Rattle.da_lang.specs.ExprGrammar as g
use Rattle.da_lang.specs.ExprGrammar.{Deeper, IsAtom, IsUnary, IsExpr, IsPattern, deeper}
use Rattle.da_phrases.specs.Place.{Limit, Place}
use Rattle.da_phrases.specs.Exprs.{expression, pattern, place}
use Rattle.da_phrases.proofs.Laws.{IsSound, Sounds}
use Rattle.da_phrases.proofs.SoundExprs.{Shaped}
use Rattle.da_phrases.proofs.SoundOperators.{unary-sound, negation-sound, disjunction-sound, expression-sound, pattern-sound}

-- there is a token
abbrev pub Starts : List Tok → Type 0
Starts i = (t : Tok) × (s : List Tok) × (i ≡ t ∷ s)

At-starts : {k : Mark} {i r : List Tok} → At k i r → Starts i
At-starts (at {t} {r} e) = (t, r, refl)

Opens-starts : {k : Mark} {room : Room} {i r : List Tok} → Opens k room i r → Starts i
Opens-starts (opens some h) = At-starts h

Named-starts : {b : List ℕ} {i r : List Tok} → Named b i r → Starts i
Named-starts (named {t} {r} e) = (t, r, refl)

Number-starts : {n : ℕ} {i r : List Tok} → Number n i r → Starts i
Number-starts (number {n} {t} {r} e is) = (t, r, refl)

Quoted-starts : {b : List ℕ} {i r : List Tok} → Quoted b i r → Starts i
Quoted-starts (quoted {b} {t} {r} e is) = (t, r, refl)

atom-starts : {room : Room} {deep : Deeper} {x : Expr} {i r : List Tok} → IsAtom room deep x i r → Starts i
atom-starts (g.IsAtom.int h) = Number-starts h
atom-starts (g.IsAtom.text h) = Quoted-starts h
atom-starts (g.IsAtom.yes h) = At-starts h
atom-starts (g.IsAtom.no h) = At-starts h
atom-starts (g.IsAtom.me h) = At-starts h
atom-starts (g.IsAtom.name h) = Named-starts h
atom-starts (g.IsAtom.clock h opened over) = At-starts h
atom-starts (g.IsAtom.range h opened one comma two over) = At-starts h
atom-starts (g.IsAtom.group opened inside over) = Opens-starts opened
atom-starts (g.IsAtom.tuple opened first comma others) = Opens-starts opened
atom-starts (g.IsAtom.set_of opened all) = Opens-starts opened
atom-starts (g.IsAtom.comprehension opened term colon gens cond over) = Opens-starts opened
atom-starts (g.IsAtom.count h opened one over) = At-starts h
atom-starts (g.IsAtom.sum h opened one over) = At-starts h
atom-starts (g.IsAtom.min h opened one comma two over) = At-starts h
atom-starts (g.IsAtom.max h opened one comma two over) = At-starts h

unary-starts : {room : Room} {deep : Deeper} {x : Expr} {i r : List Tok} → IsUnary room deep x i r → Starts i
unary-starts (g.IsUnary.atom a) = atom-starts a
unary-starts (g.IsUnary.negative opened n) = Opens-starts opened
unary-starts (g.IsUnary.minus opened other operand) = Opens-starts opened

pub deeper-shaped : (room : ℕ → Room) (n d : ℕ) → Shaped (deeper room n d)
unfolding deeper
deeper-shaped room zero d = record { widens = λ x i r none. absurd none; starts = λ x i r none. absurd none }
deeper-shaped room (suc n) d = record { widens = λ x i r h. g.IsExpr.disj h; starts = λ x i r h. unary-starts h }

module _ (limit : Limit) (room : ℕ → Room) (fits : (d : ℕ) (t : List Tok) → limit d (length t) ≡ true → room d t) where
  pub places-sound : (f n d : ℕ) → f ≤ n → Sounds (place limit f d) (room d) (deeper room n (suc d))
  unfolding place deeper
  places-sound zero n d le = record { fits = fits d; expr = λ i y e. cc; disj = λ i y e. cc; neg = λ i y e. cc; unary = λ i y e. cc; pattern = λ i y e. cc }
  places-sound (suc f) zero d le = absurd (omega arith)
  places-sound (suc f) (suc n) d le =
      let inner : Place = place limit f (suc d) in
      let deep : Deeper = deeper room n (suc (suc d)) in
      let s : Sounds inner (room (suc d)) deep = places-sound f n (suc d) (omega arith) in
      let shaped : Shaped deep = deeper-shaped room n (suc (suc d)) in
      record {
        fits = fits d;
        expr = expression-sound inner (room (suc d)) deep s shaped;
        disj = disjunction-sound inner (room (suc d)) deep s shaped;
        neg = negation-sound inner (room (suc d)) deep s shaped;
        unary = unary-sound inner (room (suc d)) deep s shaped;
        pattern = pattern-sound inner (room (suc d)) deep s shaped;
      }

  -- an expression where d things are open
  pub expression_there-sound : (f n d : ℕ) → f ≤ n → IsSound (expression (place limit f d)) (IsExpr (room d) (deeper room n (suc d)))
  expression_there-sound f n d le = expression-sound (place limit f d) (room d) (deeper room n (suc d)) (places-sound f n d le) (deeper-shaped room n (suc d))

  -- a pattern where d things are open
  pub pattern_there-sound : (f n d : ℕ) → f ≤ n → IsSound (pattern (place limit f d)) (IsPattern (room d) (deeper room n (suc d)))
  pattern_there-sound f n d le = pattern-sound (place limit f d) (room d) (deeper room n (suc d)) (places-sound f n d le) (deeper-shaped room n (suc d))

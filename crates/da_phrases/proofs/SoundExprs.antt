-- Generators, arguments and atoms: what is read is spelled so.
use Rattle.std.proofs.Common.{◌≡◌, Bool, List, [], ◌∷◌, Option, Some, None, Ok, refl, sym, subst}
use Rattle.da_values.specs.declared.token.Mark.{Mark}
use Rattle.da_values.specs.declared.token.Mark.TheVariants as m
use Rattle.da_values.specs.Marks.{Tok}
use Rattle.da_lang.specs.declared.tree.Expr.{Expr}
use Rattle.da_lang.specs.declared.tree.Expr.TheVariants as ex
use Rattle.da_lang.specs.declared.tree.GenTree.{GenTree}
use Rattle.da_lang.specs.declared.tree.PatternTree.{PatternTree}
use Rattle.da_lang.specs.declared.tree.PeerTree.{PeerTree}
use Rattle.da_lang.specs.declared.tree.PeerTree.TheVariants as peer_tree
use Rattle.da_lang.specs.declared.tree.SourceTree.{SourceTree}
use Rattle.da_lang.specs.Spelling as spelling
use Rattle.da_lang.specs.Spelling.{Spelling, Room, At, Opens}
use Rattle.da_lang.specs.ExprGrammar as g
use Rattle.da_lang.specs.ExprGrammar.{Deeper, IsSource, IsPeer, IsGen, IsGens, IsCond, IsAtom}
use Rattle.da_phrases.specs.declared.place.Level.TheVariants as level
use Rattle.da_phrases.specs.Reader.{mark, rest}
use Rattle.da_phrases.specs.Lists.{separated, closed}
use Rattle.da_phrases.specs.Place.{Place}
use Rattle.da_phrases.specs.Exprs as exprs
use Rattle.da_phrases.specs.Exprs.{quantifier, source_by, source, generator_with, generator, generators, condition, no_argument, first_argument, last_argument, one_argument, two_arguments, grouped_by, grouped, comprehension, braced, atom_by, atom}
use Rattle.da_phrases.proofs.Steps.{expect_ok, At-mark, Named-mark}
use Rattle.da_phrases.proofs.Laws.{IsSound, Sounds}
use Rattle.da_phrases.proofs.SoundSteps.{reads, made, passes, passes_or, numbers, quotes, opened_by, opening_by}
use Rattle.da_phrases.proofs.ListSound.{separated-sound, all_separated, closed-sound}

-- What holds of everything that stands deeper: without a quantifier it is an expression too, and it has a first token.
pub record Shaped (deep : Deeper) : Type 0 where
  pub widens : (x : Expr) (i r : List Tok) → deep.disj x i r → deep.expr x i r
  pub starts : (x : Expr) (i r : List Tok) → deep.unary x i r → (t : Tok) × (s : List Tok) × (i ≡ t ∷ s)

source_by-sound : (k : Option Mark) (i : List Tok) (y : SourceTree × List Tok) → mark i ≡ k → source_by k i ≡ Ok y → IsSource y.0 i y.1
source_by-sound (Some m.Received) i y is e = made IsSource i y e (g.received (At-mark m.Received i is))
source_by-sound (Some m.Sent) i y is e = made IsSource i y e (g.sent (At-mark m.Sent i is))
source_by-sound (Some m.Name) i y is e = made IsSource i y e (g.IsSource.name (Named-mark i is))
source_by-sound _ i y is e = cc

-- `in`, and what a generator goes through
abbrev pub InSource : SourceTree → List Tok → List Tok → Type 0
InSource x i r = (s : List Tok) × At m.In i s × IsSource x s r

pub source-sound : IsSound source InSource
unfolding source
source-sound i y e = passes m.In i _ y e (λ r h next. (r, h, source_by-sound (mark r) r y refl next))

module _ (p : Place) (room : Room) (deep : Deeper) (s : Sounds p room deep) where
  generator_with-sound : (message : PatternTree) (other : PatternTree → PeerTree) (t a i : List Tok) (y : GenTree × List Tok) → deep.pattern message t a
      → ((x : PatternTree) (r : List Tok) → deep.pattern x i r → IsPeer deep.pattern (Some (other x)) a r) → generator_with p message other i ≡ Ok y → IsGen deep.pattern y.0 t y.1
  unfolding generator_with
  generator_with-sound message other t a i y of peer e =
      reads (p.pattern i) _ y e (λ x r read e1.
      reads (source r) _ y e1 (λ from q goes last.
      let (z, h, through) = source-sound r (from, q) goes in
      made (IsGen deep.pattern) t y last (g.gen of (peer x r (s.pattern i (x, r) read)) h through)))

  pub generator-sound : IsSound (generator p) (IsGen deep.pattern)
  unfolding generator
  generator-sound i y e =
      reads (p.pattern i) _ y e (λ message r read e1.
      let of = s.pattern i (message, r) read in
      passes_or m.From _ _ r y e1
      (λ q h e2. generator_with-sound message peer_tree.From i r q y of (λ x z there. g.IsPeer.from h there) e2)
      (λ no e2. passes_or m.To _ _ r y e2
      (λ q h e3. generator_with-sound message peer_tree.To i r q y of (λ x z there. g.IsPeer.to h there) e3)
      (λ nor e3. reads (source r) _ y e3 (λ from q goes last.
      let (z, h, through) = source-sound r (from, q) goes in
      made (IsGen deep.pattern) i y last (g.gen of g.no_peer h through)))))

  pub generators-sound : IsSound (generators p) (IsGens deep.pattern)
  unfolding generators
  generators-sound = all_separated m.Comma (generator p) (IsGen deep.pattern) generator-sound

  pub condition-sound : IsSound (condition p) (IsCond deep.expr)
  unfolding condition
  condition-sound i y e = passes_or m.Bar _ _ i y e
      (λ r h e1. reads (p.expr level.Expr r) _ y e1 (λ x q read last. made (IsCond deep.expr) i y last (g.bar h (s.expr r (x, q) read))))
      (λ no e1. passes_or m.Has _ _ i y e1
      (λ r h e2. reads (p.expr level.Expr r) _ y e2 (λ x q read last. made (IsCond deep.expr) i y last (g.has h (s.expr r (x, q) read))))
      (λ nor last. made (IsCond deep.expr) i y last g.no_cond))

  -- `()`
  abbrev pub NoArgument : List Tok → List Tok → Type 0
  NoArgument i z = (r : List Tok) × Opens m.OpenParen room i r × At m.CloseParen r z

  -- `(EXPR,`
  abbrev pub FirstArgument : Spelling Expr
  FirstArgument x i z = (r : List Tok) × (q : List Tok) × Opens m.OpenParen room i r × deep.disj x r q × At m.Comma q z

  -- `EXPR)`
  abbrev pub LastArgument : Spelling Expr
  LastArgument x i z = (r : List Tok) × deep.disj x i r × At m.CloseParen r z

  -- `(EXPR)`
  abbrev pub OneArgument : Spelling Expr
  OneArgument x i z = (r : List Tok) × (q : List Tok) × Opens m.OpenParen room i r × deep.disj x r q × At m.CloseParen q z

  pub no_argument-sound : (i : List Tok) (y : Unit {0} × List Tok) → no_argument p i ≡ Ok y → NoArgument i y.1
  unfolding no_argument
  no_argument-sound i y e = opening_by p.may_open room s.fits m.OpenParen i _ y e (λ r opened last. (r, opened, expect_ok m.CloseParen r y last))

  pub first_argument-sound : IsSound (first_argument p) FirstArgument
  unfolding first_argument
  first_argument-sound i y e =
      opening_by p.may_open room s.fits m.OpenParen i _ y e (λ r opened e1.
      reads (p.expr level.Disj r) _ y e1 (λ x q read e2.
      passes m.Comma q _ y e2 (λ z comma last.
      made FirstArgument i y last (r, q, opened, s.disj r (x, q) read, comma))))

  pub last_argument-sound : IsSound (last_argument p) LastArgument
  unfolding last_argument
  last_argument-sound i y e =
      reads (p.expr level.Disj i) _ y e (λ x r read e1.
      passes m.CloseParen r _ y e1 (λ z over last.
      made LastArgument i y last (r, s.disj i (x, r) read, over)))

  pub one_argument-sound : IsSound (one_argument p) OneArgument
  unfolding one_argument
  one_argument-sound i y e =
      opening_by p.may_open room s.fits m.OpenParen i _ y e (λ r opened e1.
      let (q, x, over) = last_argument-sound r y e1 in
      (r, q, opened, x, over))

  pub two_arguments-sound : (make : Expr → Expr → Expr) (t i : List Tok) (y : Expr × List Tok)
      → ((a b : Expr) (r q z u v : List Tok) → Opens m.OpenParen room i r → deep.disj a r q → At m.Comma q z → deep.disj b z u → At m.CloseParen u v → IsAtom room deep (make a b) t v)
      → two_arguments p make i ≡ Ok y → IsAtom room deep y.0 t y.1
  unfolding two_arguments
  two_arguments-sound make t i y spells e =
      reads (first_argument p i) _ y e (λ a z first e1.
      let (r, q, opened, one, comma) = first_argument-sound i (a, z) first in
      reads (last_argument p z) _ y e1 (λ b v other last.
      let (u, two, over) = last_argument-sound z (b, v) other in
      made (IsAtom room deep) t y last (spells a b r q z u v opened one comma two over)))

  -- after `{ term :`
  comprehension-sound : (x : Expr) (t r q i : List Tok) (y : Expr × List Tok) → Opens m.OpenBrace room t r → deep.disj x r q → At m.Colon q i → comprehension p x i ≡ Ok y → IsAtom room deep y.0 t y.1
  unfolding comprehension
  comprehension-sound x t r q i y opened term colon e =
      reads (generators p i) _ y e (λ gens z read e1.
      reads (condition p z) _ y e1 (λ cond a asked e2.
      passes m.CloseBrace a _ y e2 (λ b over last.
      made (IsAtom room deep) t y last (g.comprehension opened term colon (generators-sound i (gens, z) read) (condition-sound z (cond, a) asked) over))))

  -- after `{`
  braced-sound : (t i : List Tok) (y : Expr × List Tok) → Opens m.OpenBrace room t i → braced p i ≡ Ok y → IsAtom room deep y.0 t y.1
  unfolding braced
  braced-sound t i y opened e = passes_or m.CloseBrace _ _ i y e
      (λ r over last. made (IsAtom room deep) t y last (g.set_of opened (spelling.empty over)))
      (λ some e1. reads (p.expr level.Disj i) _ y e1 (λ x r read e2.
      let term = s.disj i (x, r) read in
      passes_or m.Colon _ _ r y e2
      (λ q colon e3. comprehension-sound x t i r q y opened term colon e3)
      (λ no e3. passes_or m.Comma _ _ r y e3
      (λ q comma e4. reads (separated m.Comma (p.expr level.Disj) (x ∷ []) q) _ y e4 (λ all z others e5.
      passes m.CloseBrace z _ y e5 (λ a over last.
      let (xs, is, spelled) = separated-sound m.Comma (p.expr level.Disj) deep.disj s.disj (x ∷ []) q (all, z) others in
      made (IsAtom room deep) t y last (subst (λ l. IsAtom room deep (ex.SetOf l) t a) (sym is) (g.set_of opened (spelling.full (spelling.more term comma spelled) over))))))
      (λ nor e4. passes m.CloseBrace r _ y e4 (λ a over last. made (IsAtom room deep) t y last (g.set_of opened (spelling.full (spelling.last term) over)))))))

  -- an atom that a word begins
  word-sound : (k : Mark) (i : List Tok) (y : Expr × List Tok) → mark i ≡ Some k → exprs.word p k i ≡ Ok y → IsAtom room deep y.0 i y.1
  word-sound m.True i y is e = made (IsAtom room deep) i y e (g.IsAtom.yes (At-mark m.True i is))
  word-sound m.False i y is e = made (IsAtom room deep) i y e (g.IsAtom.no (At-mark m.False i is))
  word-sound m.SelfWord i y is e = made (IsAtom room deep) i y e (g.IsAtom.me (At-mark m.SelfWord i is))
  word-sound m.LogicalTime i y is e = reads (no_argument p (rest i)) _ y e (λ u q read last.
      let (r, opened, over) = no_argument-sound (rest i) (u, q) read in
      made (IsAtom room deep) i y last (g.clock (At-mark m.LogicalTime i is) opened over))
  word-sound m.Range i y is e = two_arguments-sound ex.Range i (rest i) y (λ a b r q z u v opened one comma two over. g.range (At-mark m.Range i is) opened one comma two over) e
  word-sound m.Count i y is e = reads (one_argument p (rest i)) _ y e (λ x z read last.
      let (r, q, opened, one, over) = one_argument-sound (rest i) (x, z) read in
      made (IsAtom room deep) i y last (g.IsAtom.count (At-mark m.Count i is) opened one over))
  word-sound m.Sum i y is e = reads (one_argument p (rest i)) _ y e (λ x z read last.
      let (r, q, opened, one, over) = one_argument-sound (rest i) (x, z) read in
      made (IsAtom room deep) i y last (g.IsAtom.sum (At-mark m.Sum i is) opened one over))
  word-sound m.Min i y is e = two_arguments-sound ex.Min i (rest i) y (λ a b r q z u v opened one comma two over. g.IsAtom.min (At-mark m.Min i is) opened one comma two over) e
  word-sound m.Max i y is e = two_arguments-sound ex.Max i (rest i) y (λ a b r q z u v opened one comma two over. g.IsAtom.max (At-mark m.Max i is) opened one comma two over) e
  word-sound _ i y is e = cc

module _ (p : Place) (room : Room) (deep : Deeper) (s : Sounds p room deep) (shaped : Shaped deep) where
  -- after `(`
  grouped_by-sound : (quantified : Option Bool) (t i : List Tok) (y : Expr × List Tok) → Opens m.OpenParen room t i → grouped_by p quantified i ≡ Ok y → IsAtom room deep y.0 t y.1
  grouped_by-sound (Some each) t i y opened e =
      reads (p.expr level.Expr i) _ y e (λ x r read e1.
      passes m.CloseParen r _ y e1 (λ q over last.
      made (IsAtom room deep) t y last (g.group opened (s.expr i (x, r) read) over)))
  grouped_by-sound None t i y opened e =
      reads (p.expr level.Disj i) _ y e (λ x r read e1.
      let inside = s.disj i (x, r) read in
      passes_or m.Comma _ _ r y e1
      (λ q comma e2. reads (closed m.CloseParen (p.expr level.Disj) (x ∷ []) q) _ y e2 (λ all z others last.
      let (xs, is, spelled) = closed-sound m.CloseParen (p.expr level.Disj) deep.disj s.disj (x ∷ []) q (all, z) others in
      made (IsAtom room deep) t y last (subst (λ l. IsAtom room deep (ex.Tuple l) t z) (sym is) (g.IsAtom.tuple opened inside comma spelled))))
      (λ no e2. passes m.CloseParen r _ y e2 (λ q over last. made (IsAtom room deep) t y last (g.group opened (shaped.widens x i r inside) over))))

  grouped-sound : (t i : List Tok) (y : Expr × List Tok) → Opens m.OpenParen room t i → grouped p i ≡ Ok y → IsAtom room deep y.0 t y.1
  unfolding grouped
  grouped-sound t i y opened e = grouped_by-sound (quantifier (mark i)) t i y opened e

  atom_by-sound : (k : Option Mark) (i : List Tok) (y : Expr × List Tok) → mark i ≡ k → atom_by p k i ≡ Ok y → IsAtom room deep y.0 i y.1
  atom_by-sound (Some m.Number) i y is e = numbers i _ y e (λ n r h last. made (IsAtom room deep) i y last (g.IsAtom.int h))
  atom_by-sound (Some m.Quoted) i y is e = quotes i _ y e (λ b r h last. made (IsAtom room deep) i y last (g.IsAtom.text h))
  atom_by-sound (Some m.Name) i y is e = made (IsAtom room deep) i y e (g.IsAtom.name (Named-mark i is))
  atom_by-sound (Some m.OpenParen) i y is e = opened_by p.may_open room s.fits m.OpenParen i _ y (At-mark m.OpenParen i is) e (λ r opened next. grouped-sound i r y opened next)
  atom_by-sound (Some m.OpenBrace) i y is e = opened_by p.may_open room s.fits m.OpenBrace i _ y (At-mark m.OpenBrace i is) e (λ r opened next. braced-sound p room deep s i r y opened next)
  atom_by-sound (Some k) i y is e = word-sound p room deep s k i y is e
  atom_by-sound None i y is e = cc

  pub atom-sound : IsSound (atom p) (IsAtom room deep)
  unfolding atom
  atom-sound i y e = atom_by-sound (mark i) i y refl e

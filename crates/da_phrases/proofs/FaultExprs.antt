-- Expressions and patterns: what is shown of a place where the reader stops.
use Rattle.std.proofs.Common.{◌≡◌, ℕ, zero, suc, ◌+◌, ◌≤◌, ◌<◌, pos, neg_ℤ, Bool, true, false, List, [], ◌∷◌, ◌++◌, length, Option, Some, None, Ok, Err, refl, sym, ap, ◌∙◌, subst, arith, inl, inr}
use Rattle.std.proofs.lemmas.Bool.Decides.{nat_tests}
use Rattle.std.specs.Prelude.{nat_lt}
use Rattle.da_values.specs.declared.token.Mark.{Mark}
use Rattle.da_values.specs.declared.token.Mark.TheVariants as m
use Rattle.da_values.specs.Marks.{Tok}
use Rattle.da_lang.specs.declared.tree.ChainTree.{ChainTree}
use Rattle.da_lang.specs.declared.tree.CmpOp.{CmpOp}
use Rattle.da_lang.specs.declared.tree.Expr.{Expr}
use Rattle.da_lang.specs.declared.tree.Expr.TheVariants as ex
use Rattle.da_lang.specs.declared.tree.GenTree.{GenTree}
use Rattle.da_lang.specs.declared.tree.PatternTree.{PatternTree}
use Rattle.da_lang.specs.declared.tree.PatternTree.TheVariants as pat
use Rattle.da_lang.specs.declared.tree.PeerTree.{PeerTree}
use Rattle.da_lang.specs.declared.tree.PeerTree.TheVariants as peer_tree
use Rattle.da_lang.specs.declared.tree.SourceTree.{SourceTree}
use Rattle.da_lang.specs.declared.tree.SourceTree.TheVariants as source_tree
use Rattle.da_lang.specs.Spelling as spelling
use Rattle.da_lang.specs.Spelling.{Spelling, Room, At, at, Opens, NotAt, not_at, named, Separated}
use Rattle.da_lang.specs.ExprGrammar as g
use Rattle.da_lang.specs.ExprGrammar.{Deeper, negated, IsSource, IsPeer, IsGen, IsGens, IsCond, IsAtom, IsUnary, IsTimes, IsPlus, IsOthers, IsChain, IsProd, IsSum, IsCmp, IsComp, IsNeg, IsJoined, IsConj, IsDisj, IsQuant, IsExpr, IsPattern, deeper}
use Rattle.da_phrases.specs.declared.place.Level.{Level}
use Rattle.da_phrases.specs.declared.place.Level.TheVariants as level
use Rattle.da_phrases.specs.Reader as reader
use Rattle.da_phrases.specs.Reader.{mark, Reading, Reader, continued, ◌>>=◌, ◌>>◌, expect, sees, pure}
use Rattle.da_phrases.specs.Place.{Limit, Place, opening}
use Rattle.da_phrases.specs.Exprs as exprs
use Rattle.da_phrases.specs.Exprs.{times_op, plus_op, cmp_op_at, quantifier, chained, joined, source_by, source, constant, generator_with, generator, generators, condition, no_argument, first_argument, last_argument, one_argument, two_arguments, grouped_by, grouped, comprehension, braced, atom_by, atom, after_minus, unary, product, sum, compared_by, comparison, negation, conjunction, disjunction, quantification, expression_by, expression, tuple_pattern, pattern_by, pattern}
use Rattle.da_phrases.proofs.Samples.{sample, onto}
use Rattle.da_phrases.proofs.Steps.{bool_cases, NotAt-sees}
use Rattle.da_phrases.proofs.SoundOperators.{times-sound, plus-sound, cmp-sound, quantifying, quantifier_is, chained-sound}
use Rattle.da_phrases.proofs.Faults as f
use Rattle.da_phrases.proofs.Faults.{Rule, Anywhere, Makes, Completed, Cut, Good, Whole, not_longer}
use Rattle.da_phrases.proofs.FaultSteps.{First, leads, split, bind, bind_good, bind_makes, pure_good, pure_whole, refuse_good, by_mark_good, if_good, good_same, good_as, good_on, past_good, past_mark, after_good, opens_good, opening_whole, expect_whole, word_whole, taking_name, number_whole, quoted_whole, first_mark, first_sees}
use Rattle.da_phrases.proofs.FaultLists.{Strict, separated_whole, all_separated, closed_whole, others_whole}

-- operands with the word between; a quantification by its word
with_more : {k : Mark} {join : List Expr → Expr} {Operand : Spelling Expr} (x : Expr) (xs : List Expr) {t r s q : List Tok} → Operand x t r → At k r s → Separated k Operand xs s q → IsJoined k join Operand (join (x ∷ xs)) t q
with_more x [] h word later = elim later [ ]
with_more x (y ∷ ys) h word later = g.joined (spelling.more h word later)

by_word : {room : Room} {deep : Deeper} (each : Bool) {gs : List GenTree} {o : Option Expr} {t r q z : List Tok} → Opens (quantifying each) room t r → IsGens deep.pattern gs r q → IsCond deep.expr o q z → IsQuant room deep (ex.Quant each gs o) t z
by_word false opened gens asked = g.«some» opened gens asked
by_word true opened gens asked = g.IsQuant.each opened gens asked

-- ---- what goes with every place

-- `in`, and what a generator goes through
abbrev pub Source : Rule SourceTree
Source room x i r = (s : List Tok) × At m.In i s × IsSource x s r

module _ (c : Cut) (Q : Type 0) where
  source_by-good : (k : Option Mark) → Good c Q (λ i. mark i ≡ k) (source_by k) (source_by k) (λ room. IsSource)
  source_by-good (Some m.Received) = past_mark c Q m.Received (λ i ok. ok) (pure_good c Q source_tree.Received (λ room i j word. g.received word))
  source_by-good (Some m.Sent) = past_mark c Q m.Sent (λ i ok. ok) (pure_good c Q source_tree.Sent (λ room i j word. g.sent word))
  source_by-good (Some m.Name) = taking_name c Q (λ i ok. ok) (λ b. pure_good c Q (source_tree.Name b) (λ room i j name. g.IsSource.name name))
  source_by-good _ = refuse_good c Q {w = m.Sent ∷ []} (record { of = λ wide n s few. (source_tree.Sent, g.sent (at refl)) })

  pub source-whole : Whole c Q (m.In ∷ m.Sent ∷ []) source source Source
  unfolding source
  source-whole = bind c Q (expect_whole c Q m.In) (λ _. record {
    good = good_as c Q (λ room x i r h j word. (i, word, h)) (by_mark_good c Q (λ k. good_on c Q (λ i ok. ok.1) (source_by-good k)));
    makes = record { of = λ wide n s few. (source_tree.Sent, λ j word. (_, word, g.sent (at refl))) };
  })

  -- words between operands
  module _ (k : Mark) (join : List Expr → Expr) {w : List Mark} {p q : Reader Expr} {Operand : Rule Expr} (one : Whole c Q w p q Operand) (strict : Strict p) (strict_too : Strict q) where
    pub joined-whole : Whole c Q (w ++ []) (joined k join p) (joined k join q) (λ room. IsJoined k join (Operand room))
    unfolding joined
    joined-whole = bind c Q one (λ x. record {
      good = after_good c Q k
          (bind_good c Q (separated_whole c Q k one strict strict_too (x ∷ [])).good (λ xs.
          pure_whole c Q (join xs) (λ room i i1 finds i2 word i3 h.
          let (l, is, spelled) = finds in subst (λ z. IsJoined k join (Operand room) (join z) i3 i) (sym is) (with_more x l h word spelled))))
          (pure_good c Q x (λ room i j h. g.IsJoined.lone h));
      makes = record { of = λ wide n s few. (x, λ j h. g.IsJoined.lone h) };
    })

abbrev first_in : Place → Reader Expr
first_in q = q.expr level.Disj >>= λ x. expect m.Comma >> pure x

abbrev two_in : Place → (Expr → Expr → Expr) → Reader Expr
two_in q make = first_in q >>= λ x. last_argument q >>= λ y. pure (make x y)

pub joins : {A B C : Type 0} (o : Reading A) (g1 : A → Reader B) (h : B → Reader C) → continued h (continued g1 o) ≡ continued (λ a. g1 a >>= h) o
joins (Ok y) g1 h = refl
joins (Err stop) g1 h = refl

two_are : (q : Place) (make : Expr → Expr → Expr) (i : List Tok) → two_arguments q make i ≡ (opening q.may_open m.OpenParen >> two_in q make) i
unfolding two_arguments first_argument
two_are q make i = joins (opening q.may_open m.OpenParen i) (λ _. first_in q) (λ x. last_argument q >>= λ y. pure (make x y))

-- ---- a place

-- what is shown of the readers of what is one deeper
pub record Exact (c : Cut) (d : ℕ) (e e1 : Level → Reader Expr) (r r1 : Reader PatternTree) (deep : (ℕ → Room) → Deeper) : Type 1 where
  pub expr : Whole c (d < c.most) (m.Name ∷ []) (e level.Expr) (e1 level.Expr) (λ room. (deep room).expr)
  pub disj : Whole c (d < c.most) (m.Name ∷ []) (e level.Disj) (e1 level.Disj) (λ room. (deep room).disj)
  pub neg : Whole c (d < c.most) (m.Name ∷ []) (e level.Neg) (e1 level.Neg) (λ room. (deep room).neg)
  pub unary : Whole c (d < c.most) (m.Name ∷ []) (e level.Unary) (e1 level.Unary) (λ room. (deep room).unary)
  pub pattern : Whole c (d < c.most) (m.Name ∷ []) r r1 (λ room. (deep room).pattern)
  pub unary_strict : Strict (e level.Unary)
  pub disj_strict : Strict (e level.Disj)
  pub disj_strict1 : Strict (e1 level.Disj)
  pub pattern_strict : Strict r
  pub pattern_strict1 : Strict r1
  pub widens : (room : ℕ → Room) (x : Expr) (i s : List Tok) → (deep room).disj x i s → (deep room).expr x i s

-- the first token is the same, and it is another than this
not_ahead : (k : Mark) {i j : List Tok} (t : Tok) (i1 j1 : List Tok) → i ≡ t ∷ i1 → j ≡ t ∷ j1 → sees k i ≡ false → NotAt k j
unfolding sees
not_ahead k t i1 j1 is_i is_j e = NotAt-sees k _ t j1 is_j (ap (λ z. sees k z) is_j ∙ sym (ap (λ z. sees k z) is_i) ∙ e)

first_cmp : {op : CmpOp} (i : List Tok) → cmp_op_at (mark i) ≡ Some op → First (λ t. cmp_op_at (Some t.mark) ≡ Some op) i
first_cmp [] is = cc
first_cmp (t ∷ i) is = leads is

-- an operand that does not begin with an integer
module _ (c : Cut) (Q : Type 0) {p q : Reader Expr} {G : Rule Expr} (one : Whole c Q (m.Name ∷ []) p q G) (strict : Strict p) where
  abbrev NoNumber : Rule Expr
  NoNumber room y i s = NotAt m.Number i × G room y i s

  name_no_number : (s : List Tok) → NotAt m.Number (onto (m.Name ∷ []) s)
  unfolding sees
  name_no_number s = NotAt-sees m.Number _ (sample m.Name) s refl refl

  no_number_stops : Q → (i : List Tok) → sees m.Number i ≡ false → (wide : Bool) (k : ℕ) → Completed c.most wide G i k → Completed c.most wide NoNumber i k
  no_number_stops so i other wide k (r, w, is, go) = elim (bool_cases (nat_lt k (length i))) [
    | inl some ↦ (
        let passed : k < length i = grind (arith, nat_tests, some) in (
          r,
          w,
          is,
          λ n s few.
              let (x, j, a, h) = go n s few in
              elim (split a) [
                | inl both ↦ (let long : length i ≡ length r = ap length both.0 in absurd (omega (arith, long, is, passed)))
                | inr parts ↦ (let (t, i1, j1, is_i, is_j, b) = parts in (x, j, a, (not_ahead m.Number t i1 j1 is_i is_j other, h)))
              ],
        ))
    | inr none ↦ (
        let (x, j, a, h) = go (length (onto w [])) [] (omega arith) in
        let long : length i ≤ k = grind (arith, nat_tests, none) in
        (i, m.Name ∷ [], omega (arith, not_longer a, is, long), λ n s few. let (y, made) = one.makes.of wide n s few in (y, onto (m.Name ∷ []) s, f.here, (name_no_number s, made))))
  ]

  no_number : Good c Q (λ i. sees m.Number i ≡ false) p q NoNumber
  no_number = record {
    viable = λ so. record {
      moves = λ i other y e wide n s.
          let (j, a, h) = (one.good.viable so).moves i tt y e wide n s in
          elim (split a) [
            | inl both ↦ (let long : length i ≡ length y.1 = ap length both.0 in absurd (omega (arith, long, strict i y e)))
            | inr parts ↦ (let (t, i1, j1, is_i, is_j, b) = parts in (j, a, (not_ahead m.Number t i1 j1 is_i is_j other, h)))
          ];
      stops = λ i other stop wide k there e. no_number_stops so i other wide k ((one.good.viable so).stops i tt stop wide k there e);
    };
    local = λ so i other j a. one.good.local so i tt j a;
  }

module _ (c : Cut) (d : ℕ) {e e1 : Level → Reader Expr} {r r1 : Reader PatternTree} {deep : (ℕ → Room) → Deeper} (x : Exact c d e e1 r r1 deep) where
  -- the place of the first reader, and that of the second
  abbrev pub Here : Place
  Here = record { may_open = λ left. nat_lt d c.most; expr = e; pattern = r }

  abbrev pub There : Place
  There = record { may_open = c.wider d; expr = e1; pattern = r1 }

  abbrev D : Type 0
  D = d < c.most

  abbrev pub AtomHere : Rule Expr
  AtomHere room = IsAtom (room d) (deep room)

  abbrev GenHere : Rule GenTree
  GenHere room = IsGen (deep room).pattern

  abbrev CondHere : Rule (Option Expr)
  CondHere room = IsCond (deep room).expr

  -- generators and conditions stand after what opens one thing more
  source_in : Whole c D (m.In ∷ m.Sent ∷ []) source source Source
  source_in = source-whole c D

  generator_with-good : (message : PatternTree) (other : PatternTree → PeerTree)
      → Good c D Anywhere (generator_with Here message other) (generator_with There message other) (λ room y i s. (x : PatternTree) × (u : List Tok) × (from : SourceTree) × (deep room).pattern x i u × Source room from u s × (y ≡ exprs.made message (Some (other x)) from))
  unfolding generator_with
  generator_with-good message other = bind_good c D x.pattern.good (λ z.
      bind c D source_in (λ from.
      pure_whole c D (exprs.made message (Some (other z)) from) (λ room i i1 through i2 h. (z, i1, from, h, through, refl))))

  gen_peer : {room : ℕ → Room} (message : PatternTree) (other : PatternTree → PeerTree) {t u v : List Tok} (y : GenTree) {s : List Tok} → (deep room).pattern message t u
      → ((z : PatternTree) (q : List Tok) → (deep room).pattern z v q → IsPeer (deep room).pattern (Some (other z)) u q)
      → (x : PatternTree) × (q : List Tok) × (from : SourceTree) × (deep room).pattern x v q × Source room from q s × (y ≡ exprs.made message (Some (other x)) from) → GenHere room y t s
  gen_peer {room} message other {t} {u} {v} y {s} of peer h =
      let (z, q, from, there, through, is) = h in
      let (a, word, goes) = through in
      subst (λ w. GenHere room w t s) (sym is) (g.gen of (peer z q there) word goes)

  generator-whole : Whole c D (m.Name ∷ m.In ∷ m.Sent ∷ []) (generator Here) (generator There) GenHere
  unfolding generator
  generator-whole = bind c D x.pattern (λ message. record {
    good = after_good c D m.From
        (good_as c D (λ room y i s h i1 word i2 of. gen_peer {room = room} message peer_tree.From y of (λ z q there. g.IsPeer.from word there) h) (generator_with-good message peer_tree.From))
        (after_good c D m.To
        (good_as c D (λ room y i s h i1 word i2 of. gen_peer {room = room} message peer_tree.To y of (λ z q there. g.IsPeer.to word there) h) (generator_with-good message peer_tree.To))
        (bind_good c D (good_on c D (λ i ok. tt) source_in.good) (λ from. pure_whole c D (exprs.made message None from) (λ room i i1 through i2 of. let (a, word, goes) = through in g.gen of g.no_peer word goes))));
    makes = record { of = λ wide n s few. (exprs.made message None source_tree.Sent, λ i of. g.gen of g.no_peer (at refl) (g.sent (at refl))) };
  })

  module _ (strict : Strict (generator Here)) (strict1 : Strict (generator There)) where
    generators-whole : Whole c D (m.Name ∷ m.In ∷ m.Sent ∷ []) (generators Here) (generators There) (λ room. IsGens (deep room).pattern)
    unfolding generators
    generators-whole = all_separated c D m.Comma generator-whole strict strict1

  condition-whole : Whole c D [] (condition Here) (condition There) CondHere
  unfolding condition
  condition-whole = record {
    good = after_good c D m.Bar
        (bind_good c D x.expr.good (λ z. pure_whole c D (Some z) (λ room i i1 h i2 word. g.bar word h)))
        (after_good c D m.Has
        (bind_good c D x.expr.good (λ z. pure_whole c D (Some z) (λ room i i1 h i2 word. g.has word h)))
        (pure_good c D None (λ room i. g.no_cond)));
    makes = record { of = λ wide n s few. (None, g.no_cond) };
  }

  -- `EXPR)`, and `)`
  module _ (Q : Type 0) where
    -- what stands in the parentheses of an aggregate
    one_argument-whole : Whole c Q (m.OpenParen ∷ m.Name ∷ m.CloseParen ∷ []) (one_argument Here) (one_argument There)
        (λ room y i s. (a : List Tok) × (b : List Tok) × Opens m.OpenParen (room d) i a × (deep room).disj y a b × At m.CloseParen b s)
    unfolding one_argument last_argument
    one_argument-whole = opening_whole c Q d m.OpenParen (bind c D x.disj (λ z. bind c D (expect_whole c D m.CloseParen) (λ _. pure_whole c D z (λ room i i1 over i2 h i3 opened. (i2, i1, opened, h, over)))))

    no_argument-whole : Whole c Q (m.OpenParen ∷ m.CloseParen ∷ []) (no_argument Here) (no_argument There) (λ room y i s. (a : List Tok) × Opens m.OpenParen (room d) i a × At m.CloseParen a s)
    unfolding no_argument
    no_argument-whole = opening_whole c Q d m.OpenParen (record {
      good = good_as c D (λ room y i s over i1 opened. (i, opened, over)) (expect_whole c D m.CloseParen).good;
      makes = record { of = λ wide n s few. (tt, λ i opened. (_, opened, at refl)) };
    })

  -- `EXPR,` and `EXPR)`
  abbrev FirstIn : Rule Expr
  FirstIn room u i s = (a : List Tok) × (deep room).disj u i a × At m.Comma a s

  abbrev LastIn : Rule Expr
  LastIn room u i s = (a : List Tok) × (deep room).disj u i a × At m.CloseParen a s

  first_in-whole : Whole c D (m.Name ∷ m.Comma ∷ []) (first_in Here) (first_in There) FirstIn
  first_in-whole = bind c D x.disj (λ u. bind c D (expect_whole c D m.Comma) (λ _. pure_whole c D u (λ room i i1 comma i2 h. (i1, h, comma))))

  last_argument-whole : Whole c D (m.Name ∷ m.CloseParen ∷ []) (last_argument Here) (last_argument There) LastIn
  unfolding last_argument
  last_argument-whole = bind c D x.disj (λ v. bind c D (expect_whole c D m.CloseParen) (λ _. pure_whole c D v (λ room i i1 over i2 h. (i1, h, over))))

  -- `(EXPR, EXPR)`, after a word
  two_arguments-good : (Q : Type 0) (k : Mark) (make : Expr → Expr → Expr)
      → ((room : ℕ → Room) (u v : Expr) (t s q z a b f : List Tok) → At k t s → Opens m.OpenParen (room d) s q → (deep room).disj u q z → At m.Comma z a → (deep room).disj v a b → At m.CloseParen b f → AtomHere room (make u v) t f)
      → Good c Q (λ i. mark i ≡ Some k) (reader.past (two_arguments Here make)) (reader.past (two_arguments There make)) AtomHere
  two_arguments-good Q k make spells = past_mark c Q k (λ i ok. ok) (good_same c Q (two_are Here make) (two_are There make)
      (opening_whole c Q d m.OpenParen
      (bind c D first_in-whole (λ u.
      bind c D last_argument-whole (λ v.
      pure_whole c D (make u v) (λ room i i1 last i2 one i3 opened i4 word.
      let (a, h1, over) = last in let (b, h, comma) = one in spells room u v _ _ _ _ _ _ _ word opened h comma h1 over))))).good)

  -- a word and one expression in parentheses
  one_argument-good : (Q : Type 0) (k : Mark) (make : Expr → Expr)
      → ((room : ℕ → Room) (u : Expr) (t s q z a : List Tok) → At k t s → Opens m.OpenParen (room d) s q → (deep room).disj u q z → At m.CloseParen z a → AtomHere room (make u) t a)
      → Good c Q (λ i. mark i ≡ Some k) (reader.past (one_argument Here >>= λ u. pure (make u))) (reader.past (one_argument There >>= λ u. pure (make u))) AtomHere
  one_argument-good Q k make spells = past_mark c Q k (λ i ok. ok)
      (bind c Q (one_argument-whole Q) (λ u. pure_whole c Q (make u) (λ room i i1 one i2 word. let (a, b, opened, h, over) = one in spells room u _ _ _ _ _ word opened h over))).good

  -- after `(`
  grouped_by-whole : (k : Option Bool) → Good c D Anywhere (grouped_by Here k) (grouped_by There k) (λ room y i s. (t : List Tok) → Opens m.OpenParen (room d) t i → AtomHere room y t s)
  grouped_by-whole (Some each) = (bind c D x.expr (λ z. bind c D (expect_whole c D m.CloseParen) (λ _. pure_whole c D z (λ room i i1 over i2 h t opened. g.group opened h over)))).good
  grouped_by-whole None = bind_good c D {w = m.CloseParen ∷ []} x.disj.good (λ z. record {
    good = after_good c D m.Comma
        (bind_good c D (closed_whole c D m.CloseParen x.disj x.disj_strict x.disj_strict1 (z ∷ [])).good (λ xs.
        pure_whole c D (ex.Tuple xs) (λ room i i1 finds i2 comma i3 h t opened.
        let (l, is, spelled) = finds in subst (λ v. AtomHere room (ex.Tuple v) t i) (sym is) (g.IsAtom.tuple opened h comma spelled))))
        (bind_good c D (good_on c D (λ i ok. tt) (expect_whole c D m.CloseParen).good) (λ _. pure_whole c D z (λ room i i1 over i2 h t opened. g.group opened (x.widens room z i2 i1 h) over)));
    makes = record { of = λ wide n s few. (z, λ i h t opened. g.group opened (x.widens _ z i _ h) (at refl)) };
  })

  grouped-whole : Whole c D (m.Name ∷ m.CloseParen ∷ []) (grouped Here) (grouped There) (λ room y i s. (t : List Tok) → Opens m.OpenParen (room d) t i → AtomHere room y t s)
  unfolding grouped
  grouped-whole = record {
    good = by_mark_good c D (λ k. good_on c D (λ i ok. tt) (grouped_by-whole (quantifier k)));
    makes = bind_makes c D x.disj.makes (λ z. record { of = λ wide n s few. (z, λ i h t opened. g.group opened (x.widens _ z i _ h) (at refl)) });
  }

  module _ (strict : Strict (generator Here)) (strict1 : Strict (generator There)) where
    -- after `{ term :`
    comprehension-whole : (z : Expr) → Good c D Anywhere (comprehension Here z) (comprehension There z) (λ room y i s. (i1 : List Tok) → At m.Colon i1 i → (i2 : List Tok) → (deep room).disj z i2 i1 → (t : List Tok) → Opens m.OpenBrace (room d) t i2 → AtomHere room y t s)
    unfolding comprehension
    comprehension-whole z = (bind c D (generators-whole strict strict1) (λ gens.
        bind c D condition-whole (λ cond.
        bind c D (expect_whole c D m.CloseBrace) (λ _.
        pure_whole c D (ex.Comp z gens cond) (λ room i i1 over i2 asked i3 gs i4 colon i5 h t opened. g.comprehension opened h colon gs asked over))))).good

    -- after `{`
    braced-whole : Whole c D (m.CloseBrace ∷ []) (braced Here) (braced There) (λ room y i s. (t : List Tok) → Opens m.OpenBrace (room d) t i → AtomHere room y t s)
    unfolding braced
    braced-whole = record {
      good = after_good c D m.CloseBrace
          (pure_good c D (ex.SetOf []) (λ room i i1 over t opened. g.set_of opened (spelling.empty over)))
          (bind_good c D {w = m.CloseBrace ∷ []} (good_on c D (λ i ok. tt) x.disj.good) (λ z. record {
            good = after_good c D m.Colon (comprehension-whole z)
                (after_good c D m.Comma
                (bind_good c D (separated_whole c D m.Comma x.disj x.disj_strict x.disj_strict1 (z ∷ [])).good (λ xs.
                bind c D (expect_whole c D m.CloseBrace) (λ _.
                pure_whole c D (ex.SetOf xs) (λ room i i1 over i2 finds i3 comma i4 h t opened.
                let (l, is, spelled) = finds in subst (λ v. AtomHere room (ex.SetOf v) t i) (sym is) (g.set_of opened (spelling.full (spelling.more h comma spelled) over))))))
                (bind_good c D (good_on c D (λ i ok. tt) (expect_whole c D m.CloseBrace).good) (λ _. pure_whole c D (ex.SetOf (z ∷ [])) (λ room i i1 over i2 h t opened. g.set_of opened (spelling.full (spelling.last h) over)))));
            makes = record { of = λ wide n s few. (ex.SetOf (z ∷ []), λ i h t opened. g.set_of opened (spelling.full (spelling.last h) (at refl))) };
          }));
      makes = record { of = λ wide n s few. (ex.SetOf [], λ t opened. g.set_of opened (spelling.empty (at refl))) };
    }

    module _ (Q : Type 0) where
      atom_makes : Makes c.most (m.Name ∷ []) AtomHere
      atom_makes = record { of = λ wide n s few. (_, g.IsAtom.name (named refl)) }

      word-good : (k : Mark) → Good c Q (λ i. mark i ≡ Some k) (exprs.word Here k) (exprs.word There k) AtomHere
      word-good m.True = past_mark c Q m.True (λ i ok. ok) (pure_good c Q (ex.Truth true) (λ room i i1 word. g.IsAtom.yes word))
      word-good m.False = past_mark c Q m.False (λ i ok. ok) (pure_good c Q (ex.Truth false) (λ room i i1 word. g.IsAtom.no word))
      word-good m.SelfWord = past_mark c Q m.SelfWord (λ i ok. ok) (pure_good c Q ex.Me (λ room i i1 word. g.IsAtom.me word))
      word-good m.LogicalTime = past_mark c Q m.LogicalTime (λ i ok. ok) (bind c Q (no_argument-whole Q) (λ _. pure_whole c Q ex.Clock (λ room i i1 none i2 word. let (a, opened, over) = none in g.clock word opened over))).good
      word-good m.Range = two_arguments-good Q m.Range ex.Range (λ room u v t s q z a b f word opened one comma two over. g.range word opened one comma two over)
      word-good m.Count = one_argument-good Q m.Count ex.Count (λ room u t s q z a word opened one over. g.IsAtom.count word opened one over)
      word-good m.Sum = one_argument-good Q m.Sum ex.Sum (λ room u t s q z a word opened one over. g.IsAtom.sum word opened one over)
      word-good m.Min = two_arguments-good Q m.Min ex.Min (λ room u v t s q z a b f word opened one comma two over. g.IsAtom.min word opened one comma two over)
      word-good m.Max = two_arguments-good Q m.Max ex.Max (λ room u v t s q z a b f word opened one comma two over. g.IsAtom.max word opened one comma two over)
      word-good _ = refuse_good c Q atom_makes

      atom_by-good : (k : Option Mark) → Good c Q (λ i. mark i ≡ k) (atom_by Here k) (atom_by There k) AtomHere
      atom_by-good (Some m.Number) = bind_good c Q (good_on c Q (λ i ok. tt) (number_whole c Q).good) (λ n. pure_whole c Q (ex.Int (pos n)) (λ room i i1 h. g.IsAtom.int h))
      atom_by-good (Some m.Quoted) = bind_good c Q (good_on c Q (λ i ok. tt) (quoted_whole c Q).good) (λ b. pure_whole c Q (ex.Text b) (λ room i i1 h. g.IsAtom.text h))
      atom_by-good (Some m.Name) = taking_name c Q (λ i ok. ok) (λ b. pure_good c Q (ex.Name b) (λ room i i1 h. g.IsAtom.name h))
      atom_by-good (Some m.OpenParen) = opens_good c Q d m.OpenParen grouped-whole (λ i ok. first_mark i ok)
      atom_by-good (Some m.OpenBrace) = opens_good c Q d m.OpenBrace braced-whole (λ i ok. first_mark i ok)
      atom_by-good (Some k) = word-good k
      atom_by-good None = refuse_good c Q atom_makes

      pub atom-whole : Whole c Q (m.Name ∷ []) (atom Here) (atom There) AtomHere
      unfolding atom
      atom-whole = record { good = by_mark_good c Q (λ k. good_on c Q (λ i ok. ok.1) (atom_by-good k)); makes = atom_makes }

      -- after a `-` of an expression
      after_minus-whole : Whole c D (m.Number ∷ []) (after_minus Here) (after_minus There) (λ room y i s. (t : List Tok) → Opens m.Minus (room d) t i → IsUnary (room d) (deep room) y t s)
      unfolding after_minus
      after_minus-whole = record {
        good = if_good c D m.Number
            (bind_good c D (good_on c D (λ i ok. tt) (number_whole c D).good) (λ n. pure_whole c D (ex.Int (neg_ℤ (pos n))) (λ room i i1 h t opened. g.IsUnary.negative opened h)))
            (bind_good c D (good_on c D (λ i ok. ok.1) (no_number c D x.unary x.unary_strict)) (λ z. pure_whole c D (negated z) (λ room i i1 h t opened. g.IsUnary.minus opened h.0 h.1)));
        makes = bind_makes c D (number_whole c D).makes (λ n. record { of = λ wide k s few. (ex.Int (neg_ℤ (pos n)), λ i h t opened. g.IsUnary.negative opened h) });
      }

      abbrev pub UnaryHere : Rule Expr
      UnaryHere room = IsUnary (room d) (deep room)

      unary_makes : Makes c.most (m.Name ∷ []) UnaryHere
      unary_makes = record { of = λ wide n s few. (_, g.IsUnary.atom (g.IsAtom.name (named refl))) }

      pub unary-whole : Whole c Q (m.Name ∷ []) (unary Here) (unary There) UnaryHere
      unfolding unary
      unary-whole = record {
        good = if_good c Q m.Minus
            (opens_good c Q d m.Minus after_minus-whole (λ i ok. first_sees i ok.1))
            (good_as c Q (λ room y i s h. g.IsUnary.atom h) (good_on c Q (λ i ok. tt) atom-whole.good));
        makes = unary_makes;
      }

      -- ---- operators, where the readers of these pass something
      module _ (unary_strict : Strict (unary Here)) (unary_strict1 : Strict (unary There)) (product_strict : Strict (product Here)) (product_strict1 : Strict (product There)) where
        abbrev ProdHere : Rule Expr
        ProdHere room = IsProd (room d) (deep room)

        abbrev pub SumHere : Rule Expr
        SumHere room = IsSum (room d) (deep room)

        product-whole : Whole c Q (m.Name ∷ []) (product Here) (product There) ProdHere
        unfolding product
        product-whole = bind c Q unary-whole (λ z.
            bind c Q (others_whole c Q times_op refl IsTimes times-sound unary-whole unary_strict unary_strict1) (λ ps.
            pure_whole c Q (chained z ps) (λ room i i1 more i2 h. chained-sound z ps h more)))

        sum-whole : Whole c Q (m.Name ∷ []) (sum Here) (sum There) SumHere
        unfolding sum
        sum-whole = bind c Q product-whole (λ z.
            bind c Q (others_whole c Q plus_op refl IsPlus plus-sound product-whole product_strict product_strict1) (λ ps.
            pure_whole c Q (chained z ps) (λ room i i1 more i2 h. chained-sound z ps h more)))

        abbrev CompHere : Rule Expr
        CompHere room = IsComp (room d) (deep room)

        compared_by-good : (o : Option CmpOp) (z : Expr) → Good c Q (λ i. cmp_op_at (mark i) ≡ o) (compared_by Here z o) (compared_by There z o) (λ room y i s. (t : List Tok) → SumHere room z t i → CompHere room y t s)
        compared_by-good (Some op) z = past_good c Q (λ t. cmp_op_at (Some t.mark) ≡ Some op) first_cmp
            (bind c Q sum-whole (λ v. pure_whole c Q (ex.Cmp op z v) (λ room i i1 h t is t1 left. g.compared left (cmp-sound (t ∷ i1) op is) h))).good
        compared_by-good None z = pure_good c Q z (λ room i t left. g.IsComp.lone left)

        comparison-whole : Whole c Q (m.Name ∷ []) (comparison Here) (comparison There) CompHere
        unfolding comparison
        comparison-whole = bind c Q sum-whole (λ z. record {
          good = after_good c Q m.In
              (bind c Q sum-whole (λ v. pure_whole c Q (ex.Member z v) (λ room i i1 h i2 word t left. g.member left word h))).good
              (by_mark_good c Q (λ k. good_on c Q (λ i ok. ap cmp_op_at ok.1) (compared_by-good (cmp_op_at k) z)));
          makes = record { of = λ wide n s few. (z, λ i h. g.IsComp.lone h) };
        })

        abbrev pub NegHere : Rule Expr
        NegHere room = IsNeg (room d) (deep room)

        pub negation-whole : Whole c Q (m.Name ∷ []) (negation Here) (negation There) NegHere
        unfolding negation
        negation-whole = record {
          good = if_good c Q m.Not
              (opens_good c Q d m.Not (bind c D x.neg (λ z. pure_whole c D (ex.Not z) (λ room i i1 h i2 opened. g.negation opened h))) (λ i ok. first_sees i ok.1))
              (good_as c Q (λ room y i s h. g.comp h) (good_on c Q (λ i ok. tt) comparison-whole.good));
          makes = record { of = λ wide n s few. let (z, h) = comparison-whole.makes.of wide n s few in (z, g.comp h) };
        }

        -- ---- words, where these readers pass something
        module _ (neg_strict : Strict (negation Here)) (neg_strict1 : Strict (negation There)) (conj_strict : Strict (conjunction Here)) (conj_strict1 : Strict (conjunction There)) where
          conjunction-whole : Whole c Q (m.Name ∷ []) (conjunction Here) (conjunction There) (λ room. IsConj (room d) (deep room))
          unfolding conjunction
          conjunction-whole = joined-whole c Q m.And ex.And negation-whole neg_strict neg_strict1

          pub disjunction-whole : Whole c Q (m.Name ∷ []) (disjunction Here) (disjunction There) (λ room. IsDisj (room d) (deep room))
          unfolding disjunction
          disjunction-whole = joined-whole c Q m.Or ex.Or conjunction-whole conj_strict conj_strict1

          abbrev pub ExprHere : Rule Expr
          ExprHere room = IsExpr (room d) (deep room)

          quantification-good : (each : Bool) → Good c Q (λ i. mark i ≡ Some (quantifying each)) (quantification Here each) (quantification There each) ExprHere
          unfolding quantification
          quantification-good each = opens_good c Q d (quantifying each)
              (bind c D (generators-whole strict strict1) (λ gens.
              bind c D condition-whole (λ cond.
              pure_whole c D (ex.Quant each gens cond) (λ room i i1 asked i2 gs i3 opened. g.quant (by_word each opened gs asked)))))
              (λ i ok. first_mark i ok)

          expression_by-good : (o : Option Bool) → Good c Q (λ i. quantifier (mark i) ≡ o) (expression_by Here o) (expression_by There o) ExprHere
          expression_by-good (Some each) = good_on c Q (λ i ok. quantifier_is (mark i) each ok) (quantification-good each)
          expression_by-good None = good_as c Q (λ room y i s h. g.IsExpr.disj h) (good_on c Q (λ i ok. tt) disjunction-whole.good)

          pub expression-whole : Whole c Q (m.Name ∷ []) (expression Here) (expression There) ExprHere
          unfolding expression
          expression-whole = record {
            good = by_mark_good c Q (λ k. good_on c Q (λ i ok. ap quantifier ok.1) (expression_by-good (quantifier k)));
            makes = record { of = λ wide n s few. let (z, h) = disjunction-whole.makes.of wide n s few in (z, g.IsExpr.disj h) };
          }

      -- ---- patterns

      abbrev pub PatternHere : Rule PatternTree
      PatternHere room = IsPattern (room d) (deep room)

      pattern_makes : Makes c.most (m.Name ∷ []) PatternHere
      pattern_makes = record { of = λ wide n s few. (_, g.IsPattern.name (named refl)) }

      tuple_pattern-whole : Whole c D (m.Name ∷ m.Comma ∷ m.CloseParen ∷ []) (tuple_pattern Here) (tuple_pattern There) (λ room y i s. (t : List Tok) → Opens m.OpenParen (room d) t i → PatternHere room y t s)
      unfolding tuple_pattern
      tuple_pattern-whole = bind c D x.pattern (λ z.
          bind c D (expect_whole c D m.Comma) (λ _.
          bind c D (closed_whole c D m.CloseParen x.pattern x.pattern_strict x.pattern_strict1 (z ∷ [])) (λ xs.
          pure_whole c D (pat.Tuple xs) (λ room i i1 finds i2 comma i3 h t opened.
          let (l, is, spelled) = finds in subst (λ v. PatternHere room (pat.Tuple v) t i) (sym is) (g.IsPattern.tuple opened h comma spelled)))))

      constant-good : (k : Mark) → Good c Q (λ i. mark i ≡ Some k) (constant k) (constant k) PatternHere
      constant-good m.Wild = past_mark c Q m.Wild (λ i ok. ok) (pure_good c Q pat.Wild (λ room i i1 word. g.wild word))
      constant-good m.Minus = past_mark c Q m.Minus (λ i ok. ok) (bind c Q (number_whole c Q) (λ n. pure_whole c Q (pat.Int (neg_ℤ (pos n))) (λ room i i1 h i2 word. g.IsPattern.negative word h))).good
      constant-good m.True = past_mark c Q m.True (λ i ok. ok) (pure_good c Q (pat.Truth true) (λ room i i1 word. g.IsPattern.yes word))
      constant-good m.False = past_mark c Q m.False (λ i ok. ok) (pure_good c Q (pat.Truth false) (λ room i i1 word. g.IsPattern.no word))
      constant-good m.SelfWord = past_mark c Q m.SelfWord (λ i ok. ok) (pure_good c Q pat.Me (λ room i i1 word. g.IsPattern.me word))
      constant-good _ = refuse_good c Q pattern_makes

      pattern_by-good : (k : Option Mark) → Good c Q (λ i. mark i ≡ k) (pattern_by Here k) (pattern_by There k) PatternHere
      pattern_by-good (Some m.Name) = taking_name c Q (λ i ok. ok) (λ b. pure_good c Q (pat.Name b) (λ room i i1 h. g.IsPattern.name h))
      pattern_by-good (Some m.Number) = bind_good c Q (good_on c Q (λ i ok. tt) (number_whole c Q).good) (λ n. pure_whole c Q (pat.Int (pos n)) (λ room i i1 h. g.IsPattern.int h))
      pattern_by-good (Some m.Quoted) = bind_good c Q (good_on c Q (λ i ok. tt) (quoted_whole c Q).good) (λ b. pure_whole c Q (pat.Text b) (λ room i i1 h. g.IsPattern.text h))
      pattern_by-good (Some m.OpenParen) = opens_good c Q d m.OpenParen tuple_pattern-whole (λ i ok. first_mark i ok)
      pattern_by-good (Some m.Assign) = past_mark c Q m.Assign (λ i ok. ok) (bind c Q unary-whole (λ z. pure_whole c Q (pat.Equal z) (λ room i i1 h i2 word. g.equal word h))).good
      pattern_by-good (Some k) = constant-good k
      pattern_by-good None = refuse_good c Q pattern_makes

      pub pattern-whole : Whole c Q (m.Name ∷ []) (pattern Here) (pattern There) PatternHere
      unfolding pattern
      pattern-whole = record { good = by_mark_good c Q (λ k. good_on c Q (λ i ok. ok.1) (pattern_by-good k)); makes = pattern_makes }

-- Readers of lists: what is shown of the reader of one element is shown of them.
use Rattle.std.proofs.Common.{◌≡◌, ℕ, zero, suc, ◌+◌, ◌≤◌, ◌<◌, Bool, true, false, List, [], ◌∷◌, ◌++◌, length, Option, Some, None, Ok, Err, refl, sym, ap, ◌∙◌, subst, arith, inl, inr, append_assoc, append-nil}
use Rattle.std.specs.Prelude.{◌⊎◌, if◌then◌else◌}
use Rattle.da_values.specs.declared.token.Mark.{Mark}
use Rattle.da_values.specs.declared.token.Mark.TheVariants as m
use Rattle.da_values.specs.Marks.{Tok}
use Rattle.da_lang.specs.declared.tree.ArithOp.{ArithOp}
use Rattle.da_lang.specs.declared.tree.ChainTree.{ChainTree, roll-ChainTree}
use Rattle.da_lang.specs.declared.tree.Expr.{Expr}
use Rattle.da_lang.specs.Spelling as g
use Rattle.da_lang.specs.Spelling.{Spelling, Room, At, Separated, Closed, EachAfter, Many, Ended}
use Rattle.da_lang.specs.ExprGrammar.{IsOthers, no_other, other}
use Rattle.da_phrases.specs.declared.cursor.Stop.{Stop}
use Rattle.da_phrases.specs.Reader.{mark, rest, rest_if, sees, Reading, Reader, continued, ◌>>=◌, ◌>>◌, pure, refuse, expect, past, by_mark, if_next, after_token}
use Rattle.da_phrases.specs.Lists.{separated_from, separated, begun_from, begun, ended_from, ended, closed, others_by, others_from, others}
use Rattle.da_phrases.proofs.Steps.{bool_cases, At-sees}
use Rattle.da_phrases.proofs.Samples.{onto}
use Rattle.da_phrases.proofs.Faults.{Shifted, room_of, Rule, Anywhere, Makes, Viable, ahead, Cut, Follows, Local, Good, Whole, same_ahead}
use Rattle.da_phrases.proofs.FaultSteps.{bind, bind_good, bind_makes, pure_good, pure_whole, refuse_good, by_mark_good, if_good, good_as, good_on, past_good, past_mark, after_good, expect_whole, First, leads, first_mark, first_sees}

-- at least one token is passed
abbrev pub Strict : {A : Type 0} → Reader A → Type 0
Strict {A} p = (i : List Tok) (y : A × List Tok) → p i ≡ Ok y → length y.1 < length i

-- after those found come these, which are spelled here
abbrev pub Finds : {A : Type 0} → Rule (List A) → List A → Rule (List A)
Finds {A} Items found room ys i r = (xs : List A) × (ys ≡ found ++ xs) × Items room xs i r

pub continued_same : {A B : Type 0} (o : Reading A) (g h : A → Reader B) → ((x : A) (r : List Tok) → o ≡ Ok (x, r) → g x r ≡ h x r) → continued g o ≡ continued h o
continued_same (Ok (x, r)) g h e = e x r refl
continued_same (Err s) g h e = refl

after_same : {A : Type 0} (k : Mark) (p q p1 q1 : Reader A) (i : List Tok) → (sees k i ≡ true → p (rest i) ≡ q (rest i)) → p1 i ≡ q1 i → after_token k p p1 i ≡ after_token k q q1 i
after_same k p q p1 q1 i e missing = by_test (sees k i) refl
  where
    by_test : (b : Bool) → sees k i ≡ b → (if b then p else p1) (rest_if b i) ≡ (if b then q else q1) (rest_if b i)
    by_test true is = e is
    by_test false is = missing

if_same : {A : Type 0} (b : Bool) (p q p1 : Reader A) (i : List Tok) → (b ≡ true → p i ≡ q i) → (if b then p else p1) i ≡ (if b then q else p1) i
if_same true p q p1 i e = e refl
if_same false p q p1 i e = refl

pub rest_shorter : (k : Mark) (i : List Tok) → sees k i ≡ true → length (rest i) < length i
unfolding sees
rest_shorter k [] e = cc
rest_shorter k (t ∷ i) e = omega arith

-- where nothing is left of one, nothing is left of the other
pub none_left : (c : Cut) {j : List Tok} → Shifted [] c.from j c.to → j ≡ []
none_left c {j = j} a = by_ahead j (same_ahead c a)
  where
    by_ahead : (j : List Tok) → ahead [] ≡ ahead j → j ≡ []
    by_ahead [] e = refl
    by_ahead (t ∷ j) e = cc

-- ---- with a token between

module _ {A : Type 0} (k : Mark) (p : Reader A) (strict : Strict p) where
  separated_enough : (n l : ℕ) (found : List A) (i : List Tok) → 1 ≤ n → 1 ≤ l → length i ≤ n → length i ≤ l → separated_from k p n found i ≡ separated_from k p l found i
  unfolding separated_from
  separated_enough zero l found i a b few less = absurd (omega (arith, a))
  separated_enough (suc n) zero found i a b few less = absurd (omega (arith, b))
  separated_enough (suc n) (suc l) found i a b few less = continued_same (p i) _ _ (λ x r read.
      after_same k (separated_from k p n (found ++ x ∷ [])) (separated_from k p l (found ++ x ∷ [])) (pure (found ++ x ∷ [])) (pure (found ++ x ∷ [])) r
      (λ seen.
      let shorter = rest_shorter k r seen in
      let passed = strict i (x, r) read in
      separated_enough n l (found ++ x ∷ []) (rest r) (omega (arith, shorter, passed, few)) (omega (arith, shorter, passed, less)) (omega (arith, shorter, passed, few)) (omega (arith, shorter, passed, less))) refl)

module _ (c : Cut) (Q : Type 0) {A : Type 0} (k : Mark) {w : List Mark} {p q : Reader A} {Item : Rule A} (one : Whole c Q w p q Item) where
  abbrev Items : Rule (List A)
  Items room = Separated k (Item room)

  separated_makes : (found : List A) → Makes c.most w (Finds Items found)
  separated_makes found = record { of = λ wide n s few. let (x, h) = one.makes.of wide n s few in (found ++ x ∷ [], (x ∷ [], refl, g.last h)) }

  separated_from-good : (n : ℕ) (found : List A) → Good c Q Anywhere (separated_from k p n found) (separated_from k q n found) (Finds Items found)
  unfolding separated_from
  separated_from-good zero found = refuse_good c Q (separated_makes found)
  separated_from-good (suc n) found = bind_good c Q {w = []} one.good (λ x. record {
    good = after_good c Q k
        (good_as c Q (λ room ys i r later j at_it j0 first. let (xs, is, l) = later in (x ∷ xs, is ∙ append_assoc found (x ∷ []) xs, g.more first at_it l)) (separated_from-good n (found ++ x ∷ [])))
        (pure_good c Q (found ++ x ∷ []) (λ room i j first. (x ∷ [], refl, g.last first)));
    makes = record { of = λ wide n s few. (found ++ x ∷ [], λ j first. (x ∷ [], refl, g.last first)) };
  })

  module _ (strict : Strict p) (strict_too : Strict q) where
    separated_local : (found : List A) → Q → (i j : List Tok) → Shifted i c.from j c.to → Follows c (separated k p found i) (separated k q found j)
    unfolding separated separated_from
    separated_local found so [] j a = subst (λ z. Follows c (separated_from k p 0 found []) (separated_from k q (length z) found z)) (sym (none_left c a)) (λ told y e. cc)
    separated_local found so (t ∷ i) [] a = let never = same_ahead c a in absurd (cc)
    separated_local found so (t ∷ i) (u ∷ j) a =
        let n : ℕ = length (t ∷ i) + length (u ∷ j) in
        let e1 = separated_enough k p strict (length (t ∷ i)) n found (t ∷ i) (omega arith) (omega arith) (omega arith) (omega arith) in
        let e2 = separated_enough k q strict_too (length (u ∷ j)) n found (u ∷ j) (omega arith) (omega arith) (omega arith) (omega arith) in
        subst (λ o. Follows c o (separated_from k q (length (u ∷ j)) found (u ∷ j))) (sym e1)
        (subst (λ o. Follows c (separated_from k p n found (t ∷ i)) o) (sym e2) ((separated_from-good n found).local so (t ∷ i) tt (u ∷ j) a))

    pub separated_whole : (found : List A) → Whole c Q w (separated k p found) (separated k q found) (Finds Items found)
    unfolding separated
    separated_whole found = record {
      good = record {
        viable = λ so. record {
          moves = λ i ok. ((separated_from-good (length i) found).viable so).moves i tt;
          stops = λ i ok. ((separated_from-good (length i) found).viable so).stops i tt;
        };
        local = λ so i ok j a. separated_local found so i j a;
      };
      makes = separated_makes found;
    }

    -- where nothing was found before
    pub all_separated : Whole c Q w (separated k p []) (separated k q []) Items
    all_separated = record {
      good = good_as c Q (λ room ys i r finds. subst (λ xs. Items room xs i r) (sym finds.1) finds.2) (separated_whole []).good;
      makes = record { of = λ wide n s few. let (x, h) = one.makes.of wide n s few in (x ∷ [], g.last h) };
    }

-- ---- in brackets

module _ (c : Cut) (Q : Type 0) {A : Type 0} (close : Mark) {w : List Mark} {p q : Reader A} {Item : Rule A} (one : Whole c Q w p q Item) (strict : Strict p) (strict_too : Strict q) where
  abbrev InClosed : Rule (List A)
  InClosed room = Closed close (Item room)

  closed_makes : (found : List A) → Makes c.most (close ∷ []) (Finds InClosed found)
  closed_makes found = record { of = λ wide n s few. (found, ([], sym (append-nil found), g.empty (g.at refl))) }

  pub closed_whole : (found : List A) → Whole c Q (close ∷ []) (closed close p found) (closed close q found) (Finds InClosed found)
  unfolding closed
  closed_whole found = record {
    good = after_good c Q close
        (pure_good c Q found (λ room i j over. ([], sym (append-nil found), g.empty over)))
        (good_on c Q (λ i ok. tt)
        (bind_good c Q (separated_whole c Q m.Comma one strict strict_too found).good (λ all.
        bind c Q (expect_whole c Q close) (λ _.
        pure_whole c Q all (λ room i i1 over i2 finds. let (xs, is, l) = finds in (xs, is, g.full l over))))));
    makes = closed_makes found;
  }

  pub all_closed : Whole c Q (close ∷ []) (closed close p []) (closed close q []) InClosed
  all_closed = record {
    good = good_as c Q (λ room ys i r finds. subst (λ xs. InClosed room xs i r) (sym finds.1) finds.2) (closed_whole []).good;
    makes = record { of = λ wide n s few. ([], g.empty (g.at refl)) };
  }

-- ---- each after a token of this mark

module _ {A : Type 0} (k : Mark) (p : Reader A) (strict : (i : List Tok) (y : A × List Tok) → sees k i ≡ true → p i ≡ Ok y → length y.1 < length i) where
  begun_enough : (n l : ℕ) (found : List A) (i : List Tok) → length i ≤ n → length i ≤ l → begun_from k p n found i ≡ begun_from k p l found i
  unfolding begun_from sees
  begun_enough zero zero found i few less = refl
  begun_enough zero (suc l) found [] few less = refl
  begun_enough (suc n) zero found [] few less = refl
  begun_enough zero (suc l) found (t ∷ i) few less = absurd (omega (arith, few))
  begun_enough (suc n) zero found (t ∷ i) few less = absurd (omega (arith, less))
  begun_enough (suc n) (suc l) found i few less = if_same (sees k i) (p >>= λ x. begun_from k p n (found ++ x ∷ [])) (p >>= λ x. begun_from k p l (found ++ x ∷ [])) (pure found) i (λ is.
      continued_same (p i) _ _ (λ x r read.
      let passed = strict i (x, r) is read in
      begun_enough n l (found ++ x ∷ []) r (omega (arith, passed, few)) (omega (arith, passed, less))))

module _ (c : Cut) (Q : Type 0) {A : Type 0} (k : Mark) {p q : Reader A} {Item : Rule A} (one : Good c Q (λ i. sees k i ≡ true) p q Item) where
  abbrev Ones : Rule (List A)
  Ones room = Many (Item room)

  begun_from-good : (n : ℕ) (found : List A) → Good c Q Anywhere (begun_from k p n found) (begun_from k q n found) (Finds Ones found)
  unfolding begun_from
  begun_from-good zero found = pure_good c Q found (λ room i. ([], sym (append-nil found), g.Many.none))
  begun_from-good (suc n) found = if_good c Q k
      (bind_good c Q {w = []} (good_on c Q (λ i ok. ok.1) one) (λ x. record {
        good = good_as c Q (λ room ys i r later j first. let (xs, is, l) = later in (x ∷ xs, is ∙ append_assoc found (x ∷ []) xs, g.Many.one first l)) (begun_from-good n (found ++ x ∷ []));
        makes = record { of = λ wide n s few. (found ++ x ∷ [], λ j first. (x ∷ [], refl, g.Many.one first g.Many.none)) };
      }))
      (pure_good c Q found (λ room i. ([], sym (append-nil found), g.Many.none)))

  module _ (strict : (i : List Tok) (y : A × List Tok) → sees k i ≡ true → p i ≡ Ok y → length y.1 < length i) (strict_too : (i : List Tok) (y : A × List Tok) → sees k i ≡ true → q i ≡ Ok y → length y.1 < length i) where
    pub begun_whole : (found : List A) → Whole c Q [] (begun k p found) (begun k q found) (Finds Ones found)
    unfolding begun
    begun_whole found = record {
      good = record {
        viable = λ so. record {
          moves = λ i ok. ((begun_from-good (length i) found).viable so).moves i tt;
          stops = λ i ok. ((begun_from-good (length i) found).viable so).stops i tt;
        };
        local = λ so i ok j a.
            let n : ℕ = length i + length j in
            subst (λ o. Follows c o (begun_from k q (length j) found j)) (sym (begun_enough k p strict (length i) n found i (omega arith) (omega arith)))
            (subst (λ o. Follows c (begun_from k p n found i) o) (sym (begun_enough k q strict_too (length j) n found j (omega arith) (omega arith))) ((begun_from-good n found).local so i tt j a));
      };
      makes = record { of = λ wide n s few. (found, ([], sym (append-nil found), g.Many.none)) };
    }

-- ---- what stands in a block

module _ {A : Type 0} (p : Reader A) (strict : Strict p) (nothing : p [] ≡ refuse []) where
  ended_enough : (n l : ℕ) (found : List A) (i : List Tok) → length i ≤ n → length i ≤ l → ended_from p n found i ≡ ended_from p l found i
  unfolding ended_from
  ended_enough zero zero found i few less = refl
  ended_enough zero (suc l) found [] few less = sym (ap (λ o. continued (λ x. after_token m.Dedent (pure (found ++ x ∷ [])) (ended_from p l (found ++ x ∷ []))) o) nothing)
  ended_enough (suc n) zero found [] few less = ap (λ o. continued (λ x. after_token m.Dedent (pure (found ++ x ∷ [])) (ended_from p n (found ++ x ∷ []))) o) nothing
  ended_enough zero (suc l) found (t ∷ i) few less = absurd (omega (arith, few))
  ended_enough (suc n) zero found (t ∷ i) few less = absurd (omega (arith, less))
  ended_enough (suc n) (suc l) found i few less = continued_same (p i) _ _ (λ x r read.
      let passed = strict i (x, r) read in
      after_same m.Dedent (pure (found ++ x ∷ [])) (pure (found ++ x ∷ [])) (ended_from p n (found ++ x ∷ [])) (ended_from p l (found ++ x ∷ [])) r (λ seen. refl)
      (ended_enough n l (found ++ x ∷ []) r (omega (arith, passed, few)) (omega (arith, passed, less))))

module _ (c : Cut) (Q : Type 0) {A : Type 0} {w : List Mark} {p q : Reader A} {Item : Rule A} (one : Whole c Q w p q Item) where
  abbrev InBlock : Rule (List A)
  InBlock room = Ended (Item room)

  ended_makes : (found : List A) → Makes c.most (w ++ m.Dedent ∷ []) (Finds InBlock found)
  ended_makes found = bind_makes c Q one.makes (λ x. record { of = λ wide n s few. (found ++ x ∷ [], λ j first. (x ∷ [], refl, g.ends first (g.at refl))) })

  ended_from-good : (n : ℕ) (found : List A) → Good c Q Anywhere (ended_from p n found) (ended_from q n found) (Finds InBlock found)
  unfolding ended_from
  ended_from-good zero found = refuse_good c Q (ended_makes found)
  ended_from-good (suc n) found = bind_good c Q {w = m.Dedent ∷ []} one.good (λ x. record {
    good = after_good c Q m.Dedent
        (pure_good c Q (found ++ x ∷ []) (λ room i j over j0 first. (x ∷ [], refl, g.ends first over)))
        (good_on c Q (λ i ok. tt)
        (good_as c Q (λ room ys i r later j first. let (xs, is, l) = later in (x ∷ xs, is ∙ append_assoc found (x ∷ []) xs, g.goes_on first l)) (ended_from-good n (found ++ x ∷ []))));
    makes = record { of = λ wide n s few. (found ++ x ∷ [], λ j first. (x ∷ [], refl, g.ends first (g.at refl))) };
  })

  module _ (strict : Strict p) (strict_too : Strict q) (nothing : p [] ≡ refuse []) (nothing_too : q [] ≡ refuse []) where
    pub ended_whole : Whole c Q (w ++ m.Dedent ∷ []) (ended p) (ended q) InBlock
    unfolding ended
    ended_whole = record {
      good = good_as c Q {G = Finds InBlock []} (λ room ys i r finds. subst (λ xs. InBlock room xs i r) (sym finds.1) finds.2) (record {
        viable = λ so. record {
          moves = λ i ok. ((ended_from-good (length i) []).viable so).moves i tt;
          stops = λ i ok. ((ended_from-good (length i) []).viable so).stops i tt;
        };
        local = λ so i ok j a.
            let n : ℕ = length i + length j in
            subst (λ o. Follows c o (ended_from q (length j) [] j)) (sym (ended_enough p strict nothing (length i) n [] i (omega arith) (omega arith)))
            (subst (λ o. Follows c (ended_from p n [] i) o) (sym (ended_enough q strict_too nothing_too (length j) n [] j (omega arith) (omega arith))) ((ended_from-good n []).local so i tt j a));
      });
      makes = record { of = λ wide n s few. let (ys, finds) = (ended_makes []).of wide n s few in (ys, subst (λ xs. InBlock (room_of c.most wide n) xs (onto (w ++ m.Dedent ∷ []) s) s) (sym finds.1) finds.2) };
    }

-- ---- the further operands of a chain

module _ (sign : Option Mark → Option ArithOp) (unsigned : sign None ≡ None) (p : Reader Expr) (strict : Strict p) where
  signed_same : (g1 h1 : List ChainTree → Reader (List ChainTree)) (found : List ChainTree) (i : List Tok) (o : Option ArithOp)
      → ((op : ArithOp) (x : Expr) (r : List Tok) → p (rest i) ≡ Ok (x, r) → g1 (found ++ roll-ChainTree (record { op = op; operand = x }) ∷ []) r ≡ h1 (found ++ roll-ChainTree (record { op = op; operand = x }) ∷ []) r)
      → others_by sign p g1 found o i ≡ others_by sign p h1 found o i
  signed_same g1 h1 found i None e = refl
  signed_same g1 h1 found i (Some op) e = continued_same (p (rest i)) _ _ (λ x r read. e op x r read)

  others_enough : (n l : ℕ) (found : List ChainTree) (i : List Tok) → length i ≤ n → length i ≤ l → others_from sign p n found i ≡ others_from sign p l found i
  unfolding others_from
  others_enough zero zero found i few less = refl
  others_enough zero (suc l) found [] few less = sym (ap (λ o. others_by sign p (others_from sign p l) found o []) unsigned)
  others_enough (suc n) zero found [] few less = ap (λ o. others_by sign p (others_from sign p n) found o []) unsigned
  others_enough zero (suc l) found (t ∷ i) few less = absurd (omega (arith, few))
  others_enough (suc n) zero found (t ∷ i) few less = absurd (omega (arith, less))
  others_enough (suc n) (suc l) found [] few less = ap (λ o. others_by sign p (others_from sign p n) found o []) unsigned ∙ sym (ap (λ o. others_by sign p (others_from sign p l) found o []) unsigned)
  others_enough (suc n) (suc l) found (t ∷ i) few less = signed_same (others_from sign p n) (others_from sign p l) found (t ∷ i) (sign (Some t.mark)) (λ op x r read.
      let passed = strict i (x, r) read in
      others_enough n l (found ++ roll-ChainTree (record { op = op; operand = x }) ∷ []) r (omega (arith, passed, few)) (omega (arith, passed, less)))

first_sign : (sign : Option Mark → Option ArithOp) → sign None ≡ None → {op : ArithOp} (i : List Tok) → sign (mark i) ≡ Some op → First (λ t. sign (Some t.mark) ≡ Some op) i
first_sign sign unsigned [] is = let never = sym unsigned ∙ is in absurd (cc)
first_sign sign unsigned (t ∷ r) is = leads is

module _ (c : Cut) (Q : Type 0) (sign : Option Mark → Option ArithOp) (unsigned : sign None ≡ None) (Sign : Spelling ArithOp) (signs : (i : List Tok) (op : ArithOp) → sign (mark i) ≡ Some op → Sign op i (rest i))
    {w : List Mark} {p q : Reader Expr} {Operand : Rule Expr} (one : Whole c Q w p q Operand) where
  abbrev More : Rule (List ChainTree)
  More room = IsOthers Sign (Operand room)

  others_by-good : (g1 h1 : List ChainTree → Reader (List ChainTree)) → ((found : List ChainTree) → Good c Q Anywhere (g1 found) (h1 found) (Finds More found))
      → (found : List ChainTree) (o : Option ArithOp) → Good c Q (λ i. sign (mark i) ≡ o) (others_by sign p g1 found o) (others_by sign q h1 found o) (Finds More found)
  others_by-good g1 h1 next found None = pure_good c Q found (λ room i. ([], sym (append-nil found), no_other))
  others_by-good g1 h1 next found (Some op) = past_good c Q (λ t. sign (Some t.mark) ≡ Some op) (first_sign sign unsigned)
      (bind_good c Q {w = []} one.good (λ x.
      let link : ChainTree = roll-ChainTree (record { op = op; operand = x }) in
      record {
        good = good_as c Q (λ room ys i r later j first t is. let (ps, all, l) = later in (link ∷ ps, all ∙ append_assoc found (link ∷ []) ps, other (signs (t ∷ j) op is) first l)) (next (found ++ link ∷ []));
        makes = record { of = λ wide n s few. (found ++ link ∷ [], λ j first t is. (link ∷ [], refl, other (signs (t ∷ j) op is) first no_other)) };
      }))

  others_from-good : (n : ℕ) (found : List ChainTree) → Good c Q Anywhere (others_from sign p n found) (others_from sign q n found) (Finds More found)
  unfolding others_from
  others_from-good zero found = pure_good c Q found (λ room i. ([], sym (append-nil found), no_other))
  others_from-good (suc n) found = by_mark_good c Q (λ k. good_on c Q (λ i ok. ap sign ok.1) (others_by-good (others_from sign p n) (others_from sign q n) (others_from-good n) found (sign k)))

  module _ (strict : Strict p) (strict_too : Strict q) where
    pub others_whole : Whole c Q [] (others sign p) (others sign q) More
    unfolding others
    others_whole = record {
      good = good_as c Q {G = Finds More []} (λ room ys i r finds. subst (λ xs. More room xs i r) (sym finds.1) finds.2) (record {
        viable = λ so. record {
          moves = λ i ok. ((others_from-good (length i) []).viable so).moves i tt;
          stops = λ i ok. ((others_from-good (length i) []).viable so).stops i tt;
        };
        local = λ so i ok j a.
            let n : ℕ = length i + length j in
            subst (λ o. Follows c o (others_from sign q (length j) [] j)) (sym (others_enough sign unsigned p strict (length i) n [] i (omega arith) (omega arith)))
            (subst (λ o. Follows c (others_from sign p n [] i) o) (sym (others_enough sign unsigned q strict_too (length j) n [] j (omega arith) (omega arith))) ((others_from-good n []).local so i tt j a));
      });
      makes = record { of = λ wide n s few. ([], no_other) };
    }

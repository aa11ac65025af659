-- Programs: what is shown of a place where the reader stops.
use Rattle.std.proofs.Common.{◌≡◌, ℕ, zero, suc, ◌+◌, ◌≤◌, ◌<◌, Bool, true, false, List, [], ◌∷◌, ◌++◌, length, Option, Some, None, Ok, Err, refl, sym, ap, ◌∙◌, subst, arith, inl, inr, append_assoc, append-nil}
use Rattle.std.specs.Prelude.{nat_lt, ◌==◌, if◌then◌else◌}
use Rattle.da_values.specs.declared.token.Mark.{Mark}
use Rattle.da_values.specs.declared.token.Mark.TheVariants as m
use Rattle.da_values.specs.Marks.{Tok}
use Rattle.da_lang.specs.declared.tree.ClassTree.{ClassTree}
use Rattle.da_lang.specs.declared.tree.Expr.{Expr}
use Rattle.da_lang.specs.declared.tree.MainLine.{MainLine}
use Rattle.da_lang.specs.declared.tree.MainLine.TheVariants as line_tree
use Rattle.da_lang.specs.declared.tree.Member.{Member}
use Rattle.da_lang.specs.declared.tree.MessageDecl.{MessageDecl}
use Rattle.da_lang.specs.declared.tree.Param.{Param}
use Rattle.da_lang.specs.declared.tree.PatternTree.{PatternTree}
use Rattle.da_lang.specs.declared.tree.Stmt.{Stmt}
use Rattle.da_lang.specs.declared.tree.Tree.{Tree}
use Rattle.da_lang.specs.declared.ty.ChannelKind.{ChannelKind}
use Rattle.da_lang.specs.declared.ty.ChannelKind.TheVariants as kind_of
use Rattle.da_lang.specs.declared.ty.Ty.{Ty}
use Rattle.da_lang.specs.Spelling as sp
use Rattle.da_lang.specs.Spelling.{Spelling, Room, At, at, Opens, opens, Named, named, Closed, EachAfter, Many, Ended}
use Rattle.da_lang.specs.TypeGrammar.{TypeIn}
use Rattle.da_lang.specs.ExprGrammar.{IsPattern, deeper}
use Rattle.da_lang.specs.StmtGrammar.{IsBlock, BodyIn}
use Rattle.da_lang.specs.Grammar as g
use Rattle.da_lang.specs.Grammar.{IsMember, IsCount, IsMline, IsKind, IsParams, IsMessage, IsClass, IsDecls, IsMain, IsProgram}
use Rattle.da_phrases.specs.declared.cursor.Stop.{Stop}
use Rattle.da_phrases.specs.declared.place.Level.{Level}
use Rattle.da_phrases.specs.declared.place.Level.TheVariants as level
use Rattle.da_phrases.specs.Reader.{mark, line, rest, sees, Reading, Reader, continued, refuse, expect, past, by_mark, at_line, ◌>>=◌, ◌>>◌, pure}
use Rattle.da_phrases.specs.Lists.{begun}
use Rattle.da_phrases.specs.Place.{Limit, Place, opening}
use Rattle.da_parse.specs.Members.{Parts, members}
use Rattle.da_parse.specs.Programs.{Outer, count, kind_from, one_of, kind, finish, header_end, message, class, new_line, argument, setup_line, line_by, main_line, main, program_end, decls_by, decls_from, decls, program}
use Rattle.da_phrases.proofs.Laws.{Led, led}
use Rattle.da_phrases.proofs.Samples.{sample, onto}
use Rattle.da_phrases.proofs.Faults as f
use Rattle.da_phrases.proofs.Faults.{Shifted, Placed, Completed, room_of, room_late, Rule, Anywhere, Makes, Cut, Follows, Good, Whole, ahead, same_ahead, not_longer}
use Rattle.da_phrases.proofs.FaultSteps.{bind, bind_good, bind_makes, pure_good, pure_whole, refuse_good, refuse_stops, by_mark_good, at_line_good, good_as, good_on, whole_as, whole_same, mark_sees, past_mark, past_line, taking_line, after_good, opening_whole, expect_whole, word_whole, number_whole, first_sees}
use Rattle.da_phrases.proofs.FaultExprs.{joins}
use Rattle.da_phrases.proofs.FaultLists.{Strict, Finds, continued_same, none_left, rest_shorter, all_closed, begun_whole, ended_whole}

-- arguments that each stand after a comma
Many-Behind : {A : Type 0} {k : Mark} {Item : Spelling A} {xs : List A} {t r : List Tok} → Many (Led k Item) xs t r → EachAfter k Item xs t r
Many-Behind Many.none = EachAfter.none
Many-Behind (Many.one (led h x) xs) = EachAfter.one h x (Many-Behind xs)

-- ---- the parts that stand in no place

module _ (c : Cut) (Q : Type 0) where
  count-whole : Whole c Q [] count count (λ room. IsCount)
  unfolding count
  count-whole = record {
    good = after_good c Q m.Comma (bind c Q (number_whole c Q) (λ n. pure_whole c Q (Some n) (λ room i i1 h i2 comma. g.count comma h))).good (pure_good c Q None (λ room i. g.no_count));
    makes = record { of = λ wide n s few. (None, g.no_count) };
  }

  -- one of two tokens
  abbrev OneOf : Mark → Mark → Rule Bool
  OneOf k other room true i r = At k i r
  OneOf k other room false i r = At other i r

  one_of-whole : (k other : Mark) → Whole c Q (k ∷ []) (one_of k other) (one_of k other) (OneOf k other)
  unfolding one_of
  one_of-whole k other = record {
    good = after_good c Q k (pure_good c Q true (λ room i i1 there. there))
        (bind_good c Q (good_on c Q (λ i ok. tt) (expect_whole c Q other).good) (λ _. pure_whole c Q false (λ room i i1 there. there)));
    makes = record { of = λ wide n s few. (true, at refl) };
  }

  kinds : (room : ℕ → Room) (fifo reliable : Bool) (t r s q z : List Tok) → At m.Channel t r → OneOf m.Fifo m.Unordered room fifo r s → OneOf m.Reliable m.Unreliable room reliable s q → At m.Newline q z → IsKind (kind_from fifo reliable) t z
  kinds room true true t r s q z a b c1 e = g.fifo_reliable a b c1 e
  kinds room true false t r s q z a b c1 e = g.fifo_unreliable a b c1 e
  kinds room false true t r s q z a b c1 e = g.unordered_reliable a b c1 e
  kinds room false false t r s q z a b c1 e = g.unordered_unreliable a b c1 e

  pub kind-whole : Whole c Q [] kind kind (λ room. IsKind)
  unfolding kind
  kind-whole = record {
    good = after_good c Q m.Channel
        (bind c Q (one_of-whole m.Fifo m.Unordered) (λ fifo. bind c Q (one_of-whole m.Reliable m.Unreliable) (λ reliable. bind c Q (expect_whole c Q m.Newline) (λ _.
        pure_whole c Q (kind_from fifo reliable) (λ room i i1 over i2 b i3 a i4 there. kinds room fifo reliable i4 i3 i2 i1 i there a b over))))).good
        (pure_good c Q kind_of.UnorderedUnreliable (λ room i. g.no_kind));
    makes = record { of = λ wide n s few. (kind_of.UnorderedUnreliable, g.no_kind) };
  }

  -- the end of the tokens
  finish_some : (t : Tok) (i : List Tok) → finish (t ∷ i) ≡ refuse (t ∷ i)
  finish_some t i = let some : (length (t ∷ i) == 0) ≡ false = grind arith in ap (λ b. if b then Ok (tt {0}, t ∷ i) else refuse (t ∷ i)) some

  finish_moves : (i : List Tok) (y : Unit {0} × List Tok) → finish i ≡ Ok y → (s : List Tok) → (j : List Tok) × Shifted i y.1 j s × (j ≡ s)
  finish_moves [] y e s =
      let done : ◌≡◌ {A = Reading (Unit {0})} (Ok (tt, [])) (Ok y) = e in
      subst (λ (z : Unit {0} × List Tok). (j : List Tok) × Shifted [] z.1 j s × (j ≡ s)) (cc) (s, f.here, refl)
  finish_moves (t ∷ i) y e s = let never = sym (finish_some t i) ∙ e in absurd (cc)

  finish_makes : Makes c.most [] {A = Unit {0}} (λ room _ i r. i ≡ r)
  finish_makes = record { of = λ wide n s few. (tt, refl) }

  finish_stops : (i : List Tok) (stop : Stop) (wide : Bool) (k : ℕ) → Placed wide stop k → finish i ≡ Err stop → Completed c.most wide {A = Unit {0}} (λ room _ i r. i ≡ r) i k
  finish_stops [] stop wide k there e = let never : ◌≡◌ {A = Reading (Unit {0})} (Ok (tt, [])) (Err stop) = e in absurd (cc)
  finish_stops (t ∷ i) stop wide k there e = refuse_stops c finish_makes (t ∷ i) stop wide k there (sym (finish_some t i) ∙ e)

  finish_local : (i j : List Tok) → Shifted i c.from j c.to → Follows c (finish i) (finish j)
  finish_local [] [] a = inl ([], a, refl)
  finish_local [] (u ∷ j) a = let never = none_left c a in absurd (cc)
  finish_local (t ∷ i) [] a = let never = same_ahead c a in absurd (cc)
  finish_local (t ∷ i) (u ∷ j) a = subst (λ o. Follows c o (finish (u ∷ j))) (sym (finish_some t i)) (λ told y e. let never = sym (finish_some u j) ∙ e in cc)

  pub finish-whole : Whole c Q [] finish finish (λ room _ i r. i ≡ r)
  finish-whole = record {
    good = record {
      viable = λ so. record { moves = λ i ok y e wide n s. finish_moves i y e s; stops = λ i ok stop wide k there e. finish_stops i stop wide k there e };
      local = λ so i ok j a. finish_local i j a;
    };
    makes = finish_makes;
  }

three : {A B C E : Type 0} (o : Reading A) (g1 : Reader B) (h1 : Reader C) (p : Reader E) → continued (λ _. p) (continued (λ _. g1 >> h1) o) ≡ continued (λ _. g1 >> (h1 >> p)) o
three (Ok z) g1 h1 p = joins (g1 z.1) (λ _. h1) (λ _. p)
three (Err stop) g1 h1 p = refl

header_is : {A : Type 0} (o : Outer) (p : Reader A) (i : List Tok) → (header_end o >> p) i ≡ (expect m.Colon >> (expect m.Newline >> (opening o.place.may_open m.Indent >> p))) i
unfolding header_end
header_is o p i = three (expect m.Colon i) (expect m.Newline) (opening o.place.may_open m.Indent) p

-- messages and classes after those found take no more steps than there are tokens
module _ (o : Outer) (k : ChannelKind) (message_keeps : (at_it : ℕ) (i : List Tok) (y : MessageDecl × List Tok) → message o at_it i ≡ Ok y → length y.1 ≤ length i)
    (class_keeps : (at_it : ℕ) (i : List Tok) (y : ClassTree × List Tok) → class o at_it i ≡ Ok y → length y.1 ≤ length i) where
  decls_same : (g1 h1 : List MessageDecl → List ClassTree → Reader Tree) (xs : List MessageDecl) (cs : List ClassTree) (b : Option Mark) (i : List Tok)
      → ((ys : List MessageDecl) (ds : List ClassTree) (r : List Tok) → length r ≤ length (rest i) → g1 ys ds r ≡ h1 ys ds r) → decls_by o k g1 xs cs b i ≡ decls_by o k h1 xs cs b i
  decls_same g1 h1 xs cs (Some m.Message) i e = continued_same (message o (line i) (rest i)) _ _ (λ x r read. e (xs ++ x ∷ []) cs r (message_keeps (line i) (rest i) (x, r) read))
  decls_same g1 h1 xs cs (Some m.Class) i e = continued_same (class o (line i) (rest i)) _ _ (λ x r read. e xs (cs ++ x ∷ []) r (class_keeps (line i) (rest i) (x, r) read))
  decls_same g1 h1 xs cs _ i e = refl

  pub decls_enough : (n l : ℕ) (xs : List MessageDecl) (cs : List ClassTree) (i : List Tok) → length i ≤ n → length i ≤ l → decls_from o k n xs cs i ≡ decls_from o k l xs cs i
  unfolding decls_from
  decls_enough zero zero xs cs i few less = refl
  decls_enough zero (suc l) xs cs [] few less = refl
  decls_enough (suc n) zero xs cs [] few less = refl
  decls_enough (suc n) (suc l) xs cs [] few less = refl
  decls_enough zero (suc l) xs cs (t ∷ i) few less = absurd (omega (arith, few))
  decls_enough (suc n) zero xs cs (t ∷ i) few less = absurd (omega (arith, less))
  decls_enough (suc n) (suc l) xs cs (t ∷ i) few less = decls_same (decls_from o k n) (decls_from o k l) xs cs (Some t.mark) (t ∷ i) (λ ys ds r shorter. decls_enough n l ys ds r (omega (arith, shorter, few)) (omega (arith, shorter, less)))

-- the lines of `main` are read after what opens a block
abbrev pub main_marks : List Mark
main_marks = m.Def ∷ m.Main ∷ m.OpenParen ∷ m.CloseParen ∷ m.Colon ∷ m.Newline ∷ m.Indent ∷ m.Setup ∷ m.OpenParen ∷ m.Name ∷ m.CloseParen ∷ m.Newline ∷ m.Dedent ∷ []

-- ---- where nothing is open, and one deeper

module _ (c : Cut) (Q : Type 0) (N : ℕ) (e0 e01 e1 e11 : Level → Reader Expr) (r0 r01 r1 r11 : Reader PatternTree) (ty ty1 y y1 : Reader Ty) (a a1 : Reader Param) (b b1 : Reader (List Stmt)) (Parameter : Rule Param) where
  abbrev Inside : Parts
  Inside = record { place = record { may_open = λ left. nat_lt 1 c.most; expr = e1; pattern = r1 }; ty = y; param = a; block = b }

  abbrev Inside1 : Parts
  Inside1 = record { place = record { may_open = c.wider 1; expr = e11; pattern = r11 }; ty = y1; param = a1; block = b1 }

  abbrev O : Outer
  O = record { place = record { may_open = λ left. nat_lt 0 c.most; expr = e0; pattern = r0 }; inner_ty = ty; inside = Inside }

  abbrev O1 : Outer
  O1 = record { place = record { may_open = c.wider 0; expr = e01; pattern = r01 }; inner_ty = ty1; inside = Inside1 }

  abbrev RoomForOne : Type 0
  RoomForOne = 0 < c.most

  abbrev RoomForTwo : Type 0
  RoomForTwo = 1 < c.most

  abbrev MembersHere : Rule (List Member)
  MembersHere room = Ended (IsMember (room 1) (TypeIn room N 1) (IsParams (Parameter room)) (IsPattern (room 1) (deeper room N 2)) (IsBlock (room 1) (deeper room N 2) (BodyIn room N 2)))

  -- a colon, the end of the line and the beginning of a block, and what stands in it
  header_then : (Q1 : Type 0) {A : Type 0} {v : List Mark} {p q : Reader A} {H : Rule A} → Whole c RoomForOne v p q (λ room z q s. (i : List Tok) → Opens m.Indent (room 0) i q → (i1 : List Tok) → At m.Newline i1 i → (i2 : List Tok) → At m.Colon i2 i1 → H room z i2 s)
      → Whole c Q1 (m.Colon ∷ m.Newline ∷ m.Indent ∷ v) (header_end O >> p) (header_end O1 >> q) H
  header_then Q1 {p = p} {q = q} inside = whole_same c Q1 (header_is O p) (header_is O1 q)
      (bind c Q1 (expect_whole c Q1 m.Colon) (λ _. bind c Q1 (expect_whole c Q1 m.Newline) (λ _. opening_whole c Q1 0 m.Indent inside)))

  abbrev pub LineHere : Rule MainLine
  LineHere room = IsMline (room 1) (deeper room N 2)

  nothing : main_line O [] ≡ refuse []
  unfolding main_line
  nothing = refl

  nothing1 : main_line O1 [] ≡ refuse []
  unfolding main_line
  nothing1 = refl

  pub main-whole : Whole c RoomForOne (m.Setup ∷ m.OpenParen ∷ m.Name ∷ m.CloseParen ∷ m.Newline ∷ []) (main_line O) (main_line O1) LineHere → Strict (main_line O) → Strict (main_line O1) → Whole c Q main_marks (main O) (main O1) (λ room. IsMain room N)
  unfolding main
  main-whole lines strict strict1 = bind c Q (expect_whole c Q m.Def) (λ _. bind c Q (expect_whole c Q m.Main) (λ _. opening_whole c Q 0 m.OpenParen (bind c RoomForOne (expect_whole c RoomForOne m.CloseParen) (λ _.
      header_then RoomForOne (whole_as c RoomForOne (λ room ls i s all i1 opened i2 over i3 colon i4 close i5 opened0 i6 there i7 def. g.main def there opened0 close colon over opened all)
      (ended_whole c RoomForOne lines strict strict1 nothing nothing1))))))

  module _ {w wd wm : List Mark} (types : Whole c RoomForOne w ty ty1 (λ room. TypeIn room N 1)) (types_strict : Strict ty) (types_strict1 : Strict ty1)
      (disj : Whole c RoomForTwo wd (e1 level.Disj) (e11 level.Disj) (λ room. (deeper room N 2).disj)) (disj_strict : Strict (e1 level.Disj)) (disj_strict1 : Strict (e11 level.Disj))
      (members_in : Whole c RoomForOne wm (members Inside) (members Inside1) MembersHere) where
    pub message-good : (at_it : ℕ) → Good c Q Anywhere (message O at_it) (message O1 at_it) (λ room z q s. (i : List Tok) → At m.Message i q → sp.line i ≡ at_it → IsMessage room N z i s)
    unfolding message
    message-good at_it = (bind c Q (word_whole c Q) (λ n. opening_whole c Q 0 m.OpenParen (bind c RoomForOne (all_closed c RoomForOne m.CloseParen types types_strict types_strict1) (λ xs. bind c RoomForOne (expect_whole c RoomForOne m.Newline) (λ _.
        pure_whole c RoomForOne (record { tag = n; parts = xs; line = at_it }) (λ room i i1 over i2 l i3 opened i4 name i5 there lined.
        subst (λ v. IsMessage room N (record { tag = n; parts = xs; line = v }) i5 i) lined (g.IsMessage.message there name opened l over))))))).good

    pub class-good : (at_it : ℕ) → Good c Q Anywhere (class O at_it) (class O1 at_it) (λ room z q s. (i : List Tok) → At m.Class i q → sp.line i ≡ at_it → IsClass room N (Parameter room) z i s)
    unfolding class
    class-good at_it = (bind c Q (word_whole c Q) (λ n. bind c Q (expect_whole c Q m.Extends) (λ _. bind c Q (expect_whole c Q m.Process) (λ _. header_then Q (bind c RoomForOne members_in (λ ms.
        pure_whole c RoomForOne (record { name = n; members = ms; line = at_it }) (λ room i i1 l i2 opened i3 over i4 colon i5 process i6 extends i7 name i8 there lined.
        subst (λ v. IsClass room N (Parameter room) (record { name = n; members = ms; line = v }) i8 i) lined (g.IsClass.class there name extends process colon over opened l)))))))).good

    new_line-good : (n : List ℕ) (at_it : ℕ) → Good c Q Anywhere (new_line O n at_it) (new_line O1 n at_it) (λ room z q s. (i : List Tok) → Named n i q → sp.line i ≡ at_it → LineHere room z i s)
    unfolding new_line
    new_line-good n at_it = (bind c Q (expect_whole c Q m.Assign) (λ _. bind c Q (expect_whole c Q m.New) (λ _. opening_whole c Q 1 m.OpenParen
        (bind c RoomForTwo (word_whole c RoomForTwo) (λ k. bind c RoomForTwo (count-whole c RoomForTwo) (λ many. bind c RoomForTwo (expect_whole c RoomForTwo m.CloseParen) (λ _. bind c RoomForTwo (expect_whole c RoomForTwo m.Newline) (λ _.
        pure_whole c RoomForTwo (line_tree.New n k many at_it) (λ room i i1 over i2 close i3 many_are i4 class_is i5 opened i6 new i7 is i8 name lined.
        subst (λ v. LineHere room (line_tree.New n k many v) i8 i) lined (g.new name is new opened class_is many_are close over)))))))))).good

    argument-good : Good c RoomForTwo (λ i. sees m.Comma i ≡ true) (argument O) (argument O1) (λ room. Led m.Comma (deeper room N 2).disj)
    argument-good = past_mark c RoomForTwo m.Comma (λ i seen. mark_sees m.Comma i seen) (good_as c RoomForTwo (λ room z i s h i1 comma. led comma h) disj.good)

    argument_strict : (i : List Tok) (z : Expr × List Tok) → sees m.Comma i ≡ true → argument O i ≡ Ok z → length z.1 < length i
    argument_strict i z seen e = omega (arith, rest_shorter m.Comma i seen, disj_strict (rest i) z e)

    argument_strict1 : (i : List Tok) (z : Expr × List Tok) → sees m.Comma i ≡ true → argument O1 i ≡ Ok z → length z.1 < length i
    argument_strict1 i z seen e = omega (arith, rest_shorter m.Comma i seen, disj_strict1 (rest i) z e)

    setup_line-good : (at_it : ℕ) → Good c Q Anywhere (setup_line O at_it) (setup_line O1 at_it) (λ room z q s. (i : List Tok) → At m.Setup i q → sp.line i ≡ at_it → LineHere room z i s)
    unfolding setup_line
    setup_line-good at_it = (opening_whole c Q 1 m.OpenParen (bind c RoomForTwo (word_whole c RoomForTwo) (λ n. bind c RoomForTwo (begun_whole c RoomForTwo m.Comma argument-good argument_strict argument_strict1 []) (λ xs.
        bind c RoomForTwo (expect_whole c RoomForTwo m.CloseParen) (λ _. bind c RoomForTwo (expect_whole c RoomForTwo m.Newline) (λ _.
        pure_whole c RoomForTwo (line_tree.Setup n xs at_it) (λ room i i1 over i2 close i3 finds i4 name i5 opened i6 there lined.
        let (l, is, spelled) = finds in
        subst (λ v. LineHere room (line_tree.Setup n xs v) i6 i) lined (g.IsMline.setup there opened name (subst (λ v. EachAfter m.Comma (deeper room N 2).disj v i3 i2) (sym is) (Many-Behind spelled)) close over)))))))).good

    line_makes : Makes c.most (m.Setup ∷ m.OpenParen ∷ m.Name ∷ m.CloseParen ∷ m.Newline ∷ []) LineHere
    line_makes = record { of = λ wide n s few. (_, g.IsMline.setup (at refl) (opens (room_late c.most wide n 1 (onto (m.OpenParen ∷ m.Name ∷ m.CloseParen ∷ m.Newline ∷ []) s) (omega (arith, few))) (at refl)) (named refl) EachAfter.none (at refl) (at refl)) }

    line_by-good : (at_it : ℕ) (k : Option Mark) → Good c Q (λ i. (line i ≡ at_it) × (mark i ≡ k)) (line_by O at_it k) (line_by O1 at_it k) LineHere
    line_by-good at_it (Some m.Name) = taking_line c Q at_it (λ i ok. (ok.1, ok.0)) (λ n. new_line-good n at_it)
    line_by-good at_it (Some m.Setup) = past_line c Q m.Setup at_it (λ i ok. (ok.1, ok.0)) (setup_line-good at_it)
    line_by-good at_it _ = refuse_good c Q line_makes

    pub main_line-whole : Whole c Q (m.Setup ∷ m.OpenParen ∷ m.Name ∷ m.CloseParen ∷ m.Newline ∷ []) (main_line O) (main_line O1) LineHere
    unfolding main_line
    main_line-whole = record { good = at_line_good c Q (λ at_it. by_mark_good c Q (λ k. good_on c Q (λ i ok. (ok.0.1, ok.1)) (line_by-good at_it k))); makes = line_makes }

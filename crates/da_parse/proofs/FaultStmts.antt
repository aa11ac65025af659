-- Statements and blocks: what is shown of a place where the reader stops.
use Rattle.std.proofs.Common.{◌≡◌, ℕ, zero, suc, ◌+◌, ◌≤◌, ◌<◌, true, List, [], ◌∷◌, ◌++◌, length, Option, Some, None, Ok, refl, sym, ap, ◌∙◌, subst, arith}
use Rattle.std.specs.Prelude.{nat_lt}
use Rattle.da_values.specs.declared.token.Mark.{Mark}
use Rattle.da_values.specs.declared.token.Mark.TheVariants as m
use Rattle.da_values.specs.Marks.{Tok}
use Rattle.da_lang.specs.declared.tree.Branch.{Branch}
use Rattle.da_lang.specs.declared.tree.Expr.{Expr}
use Rattle.da_lang.specs.declared.tree.PatternTree.{PatternTree}
use Rattle.da_lang.specs.declared.tree.Stmt.{Stmt}
use Rattle.da_lang.specs.declared.tree.Stmt.TheVariants as stmt_tree
use Rattle.da_lang.specs.declared.tree.TimeoutTree.{TimeoutTree, roll-TimeoutTree}
use Rattle.da_lang.specs.Spelling as sp
use Rattle.da_lang.specs.Spelling.{Spelling, Room, At, at, Opens, Named, Closed, Many, Ended}
use Rattle.da_lang.specs.ExprGrammar.{Deeper, IsExpr, deeper}
use Rattle.da_lang.specs.StmtGrammar as g
use Rattle.da_lang.specs.StmtGrammar.{IsBlock, IsBranch, IsElse, IsTimeout, IsStmt, BodyIn}
use Rattle.da_phrases.specs.declared.place.Level.{Level}
use Rattle.da_phrases.specs.declared.place.Level.TheVariants as level
use Rattle.da_phrases.specs.Reader as reader
use Rattle.da_phrases.specs.Reader.{mark, line, sees, Reader, past, taking, refuse}
use Rattle.da_phrases.specs.Lists.{begun}
use Rattle.da_phrases.specs.Place.{Limit, Place}
use Rattle.da_phrases.specs.Exprs.{place, expression}
use Rattle.da_parse.specs.Stmts.{branch_of, in_parens, after_paren, arguments, assigned, changed, called, named, sending, output, passing, label, simple_by, block, block_after_colon, branch, otherwise, timeout, conditional, while_loop, for_loop, alternatives, awaiting, stmt_by, stmt, stmts, bodies}
use Rattle.da_parse.proofs.SoundStmts.{AfterColon}
use Rattle.da_phrases.proofs.Faults.{room_of, Rule, Anywhere, Makes, Cut, Good, Whole}
use Rattle.da_phrases.proofs.FaultSteps.{First, leads, mark_sees, by_line_good, bind, bind_good, bind_makes, pure_good, pure_whole, refuse_good, by_mark_good, at_line_good, if_good, good_same, good_as, good_on, whole_as, past_good, past_mark, past_line, taking_line, after_good, after_line, opening_whole, expect_whole, word_whole, first_mark}
use Rattle.da_phrases.proofs.FaultLists.{Strict, all_closed, begun_whole, ended_whole}
use Rattle.da_phrases.proofs.FaultExprs.{Exact, Here, There}

first_three : {k : Mark} {here at_it : ℕ} (i : List Tok) → mark i ≡ Some k → line i ≡ here → line i ≡ at_it → First (λ t. (t.mark ≡ k) × (t.line ≡ here) × (t.line ≡ at_it)) i
first_three [] is a b = cc
first_three (t ∷ i) is a b = leads (cc, a, b)

module _ (c : Cut) (d : ℕ) {e e1 : Level → Reader Expr} {r r1 : Reader PatternTree} {deep : (ℕ → Room) → Deeper} (x : Exact c d e e1 r r1 deep) where
  abbrev D : Type 0
  D = d < c.most

  abbrev P : Place
  P = Here c d x

  abbrev P1 : Place
  P1 = There c d x

  module _ (Q : Type 0) where
    in_parens-whole : Whole c Q (m.OpenParen ∷ m.Name ∷ m.CloseParen ∷ []) (in_parens P) (in_parens P1) (λ room y i s. (a : List Tok) × (b : List Tok) × Opens m.OpenParen (room d) i a × (deep room).expr y a b × At m.CloseParen b s)
    unfolding in_parens
    in_parens-whole = opening_whole c Q d m.OpenParen (bind c D x.expr (λ z. bind c D (expect_whole c D m.CloseParen) (λ _. pure_whole c D z (λ room i i1 over i2 h i3 opened. (i2, i1, opened, h, over)))))

    arguments-whole : Whole c Q (m.OpenParen ∷ m.CloseParen ∷ []) (arguments P) (arguments P1) (λ room ys i s. (a : List Tok) × Opens m.OpenParen (room d) i a × Closed m.CloseParen (deep room).disj ys a s)
    unfolding arguments
    arguments-whole = opening_whole c Q d m.OpenParen (whole_as c D (λ room ys i s all i1 opened. (i, opened, all)) (all_closed c D m.CloseParen x.disj x.disj_strict x.disj_strict1))

    module _ (expr : Whole c Q (m.Name ∷ []) (expression P) (expression P1) (λ room. IsExpr (room d) (deep room))) {w : List Mark} {body body1 : Reader (List Stmt)} {Body : Rule (List Stmt)} (inside : Whole c D w body body1 Body) where
      abbrev pub StmtHere : Rule Stmt
      StmtHere room = IsStmt (room d) (deep room) (Body room)

      abbrev pub BlockHere : Rule (List Stmt)
      BlockHere room = IsBlock (room d) (deep room) (Body room)

      -- ---- without blocks

      -- after a name
      abbrev NamedHere : List ℕ → ℕ → Rule Stmt
      NamedHere b at_it room y r s = (i : List Tok) → Named b i r → sp.line i ≡ at_it → StmtHere room y i s

      assigned-good : (b : List ℕ) (at_it : ℕ) → Good c Q Anywhere (assigned P b at_it) (assigned P1 b at_it) (λ room y r s. (i : List Tok) → At m.Assign i r → NamedHere b at_it room y i s)
      unfolding assigned
      assigned-good b at_it = (bind c Q expr (λ z. bind c Q (expect_whole c Q m.Newline) (λ _.
          pure_whole c Q (stmt_tree.Assign b z at_it) (λ room i i1 over i2 h i3 is i4 name lined. subst (λ l. StmtHere room (stmt_tree.Assign b z l) i4 i) lined (g.assign name is h over))))).good

      changed-good : (b : List ℕ) (at_it : ℕ) → Good c Q Anywhere (changed P b at_it) (changed P1 b at_it) (λ room y r s. (i : List Tok) → At m.Dot i r → NamedHere b at_it room y i s)
      unfolding changed
      changed-good b at_it = after_good c Q m.Add
          (bind c Q in_parens-whole (λ z. bind c Q (expect_whole c Q m.Newline) (λ _.
          pure_whole c Q (stmt_tree.Add b z at_it) (λ room i i1 over i2 in_it i3 adds i4 dot i5 name lined.
          let (u, v, opened, h, close) = in_it in subst (λ l. StmtHere room (stmt_tree.Add b z l) i5 i) lined (g.add name dot adds opened h close over))))).good
          (good_on c Q (λ i ok. tt) (bind c Q (expect_whole c Q m.Del) (λ _. bind c Q in_parens-whole (λ z. bind c Q (expect_whole c Q m.Newline) (λ _.
          pure_whole c Q (stmt_tree.Del b z at_it) (λ room i i1 over i2 in_it i3 dels i4 dot i5 name lined.
          let (u, v, opened, h, close) = in_it in subst (λ l. StmtHere room (stmt_tree.Del b z l) i5 i) lined (g.remove name dot dels opened h close over)))))).good)

      called-good : (b : List ℕ) (at_it : ℕ) → Good c Q Anywhere (called P b at_it) (called P1 b at_it) (NamedHere b at_it)
      unfolding called
      called-good b at_it = (bind c Q arguments-whole (λ xs. bind c Q (expect_whole c Q m.Newline) (λ _.
          pure_whole c Q (stmt_tree.Call b xs at_it) (λ room i i1 over i2 in_it i3 name lined. let (u, opened, all) = in_it in subst (λ l. StmtHere room (stmt_tree.Call b xs l) i3 i) lined (g.call name opened all over))))).good

      named-good : (b : List ℕ) (at_it : ℕ) → Good c Q Anywhere (named P b at_it) (named P1 b at_it) (NamedHere b at_it)
      unfolding named
      named-good b at_it = after_good c Q m.Assign (assigned-good b at_it) (after_good c Q m.Dot (changed-good b at_it) (good_on c Q (λ i ok. tt) (called-good b at_it)))

      -- after a word
      abbrev WordHere : Mark → ℕ → Rule Stmt
      WordHere k at_it room y r s = (i : List Tok) → At k i r → sp.line i ≡ at_it → StmtHere room y i s

      sending-good : (at_it : ℕ) → Good c Q Anywhere (sending P at_it) (sending P1 at_it) (WordHere m.Send at_it)
      unfolding sending
      sending-good at_it = (bind c Q expr (λ u. bind c Q (expect_whole c Q m.To) (λ _. bind c Q expr (λ v. bind c Q (expect_whole c Q m.Newline) (λ _.
          pure_whole c Q (stmt_tree.Send u v at_it) (λ room i i1 over i2 h1 i3 to i4 h i5 word lined. subst (λ l. StmtHere room (stmt_tree.Send u v l) i5 i) lined (g.send word h to h1 over))))))).good

      output-good : (at_it : ℕ) → Good c Q Anywhere (output P at_it) (output P1 at_it) (WordHere m.Output at_it)
      unfolding output
      output-good at_it = (bind c Q in_parens-whole (λ z. bind c Q (expect_whole c Q m.Newline) (λ _.
          pure_whole c Q (stmt_tree.Output z at_it) (λ room i i1 over i2 in_it i3 word lined. let (u, v, opened, h, close) = in_it in subst (λ l. StmtHere room (stmt_tree.Output z l) i3 i) lined (g.output word opened h close over))))).good

      passing-good : (at_it : ℕ) → Good c Q Anywhere (passing at_it) (passing at_it) (WordHere m.Pass at_it)
      unfolding passing
      passing-good at_it = (bind c Q (expect_whole c Q m.Newline) (λ _. pure_whole c Q (stmt_tree.Pass at_it) (λ room i i1 over i2 word lined. subst (λ l. StmtHere room (stmt_tree.Pass l) i2 i) lined (g.pass word over)))).good

      label-good : (at_it : ℕ) → Good c Q Anywhere (label at_it) (label at_it) (WordHere m.Dashes at_it)
      unfolding label
      label-good at_it = (bind c Q (word_whole c Q) (λ n. bind c Q (expect_whole c Q m.Newline) (λ _.
          pure_whole c Q (stmt_tree.Label n at_it) (λ room i i1 over i2 name i3 word lined. subst (λ l. StmtHere room (stmt_tree.Label n l) i3 i) lined (g.label word name over))))).good

      -- the mark and the line of the next token are known
      abbrev Next : ℕ → Option Mark → List Tok → Type 0
      Next at_it k i = (line i ≡ at_it) × (mark i ≡ k)

      stmt_makes : Makes c.most (m.Pass ∷ m.Newline ∷ []) StmtHere
      stmt_makes = record { of = λ wide n s few. (_, g.pass (at refl) (at refl)) }

      simple_by-good : (at_it : ℕ) (k : Option Mark) → Good c Q (Next at_it k) (simple_by P at_it k) (simple_by P1 at_it k) StmtHere
      simple_by-good at_it (Some m.Name) = taking_line c Q at_it (λ i ok. (ok.1, ok.0)) (λ b. named-good b at_it)
      simple_by-good at_it (Some m.Send) = past_line c Q m.Send at_it (λ i ok. (ok.1, ok.0)) (sending-good at_it)
      simple_by-good at_it (Some m.Output) = past_line c Q m.Output at_it (λ i ok. (ok.1, ok.0)) (output-good at_it)
      simple_by-good at_it (Some m.Pass) = past_line c Q m.Pass at_it (λ i ok. (ok.1, ok.0)) (passing-good at_it)
      simple_by-good at_it (Some m.Dashes) = past_line c Q m.Dashes at_it (λ i ok. (ok.1, ok.0)) (label-good at_it)
      simple_by-good at_it _ = refuse_good c Q stmt_makes

      -- ---- with blocks

      block-whole : Whole c Q (m.Newline ∷ m.Indent ∷ w) (block P body) (block P1 body1) BlockHere
      unfolding block
      block-whole = bind c Q (expect_whole c Q m.Newline) (λ _. opening_whole c Q d m.Indent (whole_as c D (λ room b i s h i1 opened i2 over. g.block over opened h) inside))

      pub block_after_colon-whole : Whole c Q (m.Colon ∷ m.Newline ∷ m.Indent ∷ w) (block_after_colon P body) (block_after_colon P1 body1) (λ room. AfterColon (BlockHere room))
      unfolding block_after_colon
      block_after_colon-whole = bind c Q (expect_whole c Q m.Colon) (λ _. whole_as c Q (λ room b i s h i1 colon. (i, colon, h)) block-whole)

      abbrev BranchHere : Mark → Rule Branch
      BranchHere k room = IsBranch (room d) (deep room) (Body room) k

      -- at a line that is known
      branch_at-good : (k : Mark) (at_it : ℕ) → Good c Q (Next at_it (Some k)) (branch P body) (branch P1 body1) (λ room y i s. BranchHere k room y i s × (sp.line i ≡ at_it))
      unfolding branch
      branch_at-good k at_it = at_line_good c Q (λ here. past_good c Q (λ t. (t.mark ≡ k) × (t.line ≡ here) × (t.line ≡ at_it)) (λ i ok. first_three i ok.0.1 ok.1 ok.0.0)
          (bind c Q expr (λ z. bind c Q block_after_colon-whole (λ b.
          pure_whole c Q (branch_of z b here) (λ room i i1 blk i2 h t is.
          let (u, colon, body_is) = blk in (subst (λ l. BranchHere k room (branch_of z b l) (t ∷ i2) i) is.1 (g.branch (at is.0) h colon body_is), is.2))))).good)

      branch-good : (k : Mark) → Good c Q (λ i. sees k i ≡ true) (branch P body) (branch P1 body1) (BranchHere k)
      branch-good k = by_line_good c Q (λ at_it. good_as c Q (λ room y i s h. h.0) (good_on c Q (λ i ok. (ok.1, mark_sees k i ok.0)) (branch_at-good k at_it)))

      otherwise-whole : Whole c Q [] (otherwise P body) (otherwise P1 body1) (λ room. IsElse (room d) (deep room) (Body room))
      unfolding otherwise
      otherwise-whole = record {
        good = after_good c Q m.Else
            (bind c Q block_after_colon-whole (λ b. pure_whole c Q (Some b) (λ room i i1 blk i2 word. let (u, colon, h) = blk in g.otherwise word colon h))).good
            (pure_good c Q None (λ room i. g.no_else));
        makes = record { of = λ wide n s few. (None, g.no_else) };
      }

      abbrev TimeoutHere : Rule (Option TimeoutTree)
      TimeoutHere room = IsTimeout (room d) (deep room) (Body room)

      timeout-whole : Whole c Q [] (timeout P body) (timeout P1 body1) TimeoutHere
      unfolding timeout
      timeout-whole = record {
        good = at_line_good c Q (λ at_it. after_line c Q m.Timeout at_it (λ i ok. ok.1)
            (bind c Q block_after_colon-whole (λ b. pure_whole c Q (Some (roll-TimeoutTree (record { body = b; line = at_it }))) (λ room i i1 blk i2 word lined.
            let (u, colon, h) = blk in subst (λ l. TimeoutHere room (Some (roll-TimeoutTree (record { body = b; line = l }))) i2 i) lined (g.timeout word colon h)))).good
            (pure_good c Q None (λ room i. g.no_timeout)));
        makes = record { of = λ wide n s few. (None, g.no_timeout) };
      }

      while_loop-good : (at_it : ℕ) → Good c Q Anywhere (while_loop P body at_it) (while_loop P1 body1 at_it) (WordHere m.While at_it)
      unfolding while_loop
      while_loop-good at_it = (bind c Q expr (λ z. bind c Q block_after_colon-whole (λ b.
          pure_whole c Q (stmt_tree.While z b at_it) (λ room i i1 blk i2 h i3 word lined. let (u, colon, body_is) = blk in subst (λ l. StmtHere room (stmt_tree.While z b l) i3 i) lined (g.while word h colon body_is))))).good

      for_loop-good : (at_it : ℕ) → Good c Q Anywhere (for_loop P body at_it) (for_loop P1 body1 at_it) (WordHere m.For at_it)
      unfolding for_loop
      for_loop-good at_it = (bind c Q (word_whole c Q) (λ n. bind c Q (expect_whole c Q m.In) (λ _. bind c Q expr (λ z. bind c Q block_after_colon-whole (λ b.
          pure_whole c Q (stmt_tree.For n z b at_it) (λ room i i1 blk i2 h i3 goes i4 name i5 word lined. let (u, colon, body_is) = blk in subst (λ l. StmtHere room (stmt_tree.For n z b l) i5 i) lined (g.for word name goes h colon body_is))))))).good

      -- where these readers pass something
      module _ (branch_strict : (k : Mark) (i : List Tok) (y : Branch × List Tok) → sees k i ≡ true → branch P body i ≡ Ok y → length y.1 < length i)
          (branch_strict1 : (k : Mark) (i : List Tok) (y : Branch × List Tok) → sees k i ≡ true → branch P1 body1 i ≡ Ok y → length y.1 < length i)
          (stmt_strict : Strict (stmt P body)) (stmt_strict1 : Strict (stmt P1 body1)) where
        conditional-good : (at_it : ℕ) → Good c Q (Next at_it (Some m.If)) (conditional P body at_it) (conditional P1 body1 at_it) StmtHere
        unfolding conditional
        conditional-good at_it = bind_good c Q (branch_at-good m.If at_it) (λ b.
            bind c Q (begun_whole c Q m.Elif (branch-good m.Elif) (branch_strict m.Elif) (branch_strict1 m.Elif) (b ∷ [])) (λ bs.
            bind c Q otherwise-whole (λ o.
            pure_whole c Q (stmt_tree.If bs o at_it) (λ room i i1 other i2 finds i3 leading.
            let (l, is, spelled) = finds in
            let (h, lined) = leading in
            subst (λ z. StmtHere room (stmt_tree.If z o at_it) i3 i) (sym is) (subst (λ n. StmtHere room (stmt_tree.If (b ∷ l) o n) i3 i) lined (g.conditional h spelled other))))))

        alternatives-good : (z : Expr) (at_it : ℕ) → Good c Q Anywhere (alternatives P body z at_it) (alternatives P1 body1 z at_it) (λ room y r s. (i : List Tok) → IsExpr (room d) (deep room) z i r → WordHere m.Await at_it room y i s)
        unfolding alternatives
        alternatives-good z at_it = (bind c Q block_after_colon-whole (λ b.
            bind c Q (begun_whole c Q m.Or (branch-good m.Or) (branch_strict m.Or) (branch_strict1 m.Or) (branch_of z b at_it ∷ [])) (λ bs.
            bind c Q timeout-whole (λ t.
            pure_whole c Q (stmt_tree.Await bs t at_it) (λ room i i1 over i2 finds i3 blk i4 h i5 word lined.
            let (l, is, spelled) = finds in
            let (u, colon, body_is) = blk in
            subst (λ v. StmtHere room (stmt_tree.Await v t at_it) i5 i) (sym is) (subst (λ n. StmtHere room (stmt_tree.Await (branch_of z b n ∷ l) t n) i5 i) lined (g.await (g.branch word h colon body_is) spelled over))))))).good

        awaiting-good : (at_it : ℕ) → Good c Q Anywhere (awaiting P body at_it) (awaiting P1 body1 at_it) (WordHere m.Await at_it)
        unfolding awaiting
        awaiting-good at_it = bind_good c Q {w = m.Newline ∷ []} expr.good (λ z. record {
          good = after_good c Q m.Newline
              (pure_good c Q (stmt_tree.AwaitOne z at_it) (λ room i i1 over i2 h i3 word lined. subst (λ l. StmtHere room (stmt_tree.AwaitOne z l) i3 i) lined (g.await_one word h over)))
              (good_on c Q (λ i ok. tt) (alternatives-good z at_it));
          makes = record { of = λ wide n s few. (stmt_tree.AwaitOne z at_it, λ i h i1 word lined. subst (λ l. StmtHere (room_of c.most wide n) (stmt_tree.AwaitOne z l) i1 s) lined (g.await_one word h (at refl))) };
        })

        stmt_by-good : (at_it : ℕ) (k : Option Mark) → Good c Q (Next at_it k) (stmt_by P body at_it k) (stmt_by P1 body1 at_it k) StmtHere
        stmt_by-good at_it (Some m.If) = conditional-good at_it
        stmt_by-good at_it (Some m.While) = past_line c Q m.While at_it (λ i ok. (ok.1, ok.0)) (while_loop-good at_it)
        stmt_by-good at_it (Some m.For) = past_line c Q m.For at_it (λ i ok. (ok.1, ok.0)) (for_loop-good at_it)
        stmt_by-good at_it (Some m.Await) = past_line c Q m.Await at_it (λ i ok. (ok.1, ok.0)) (awaiting-good at_it)
        stmt_by-good at_it k = simple_by-good at_it k

        stmt-whole : Whole c Q (m.Pass ∷ m.Newline ∷ []) (stmt P body) (stmt P1 body1) StmtHere
        unfolding stmt
        stmt-whole = record { good = at_line_good c Q (λ at_it. by_mark_good c Q (λ k. good_on c Q (λ i ok. (ok.0.1, ok.1)) (stmt_by-good at_it k))); makes = stmt_makes }

        nothing : stmt P body [] ≡ refuse []
        unfolding stmt
        nothing = refl

        nothing1 : stmt P1 body1 [] ≡ refuse []
        unfolding stmt
        nothing1 = refl

        pub stmts-whole : Whole c Q (m.Pass ∷ m.Newline ∷ m.Dedent ∷ []) (stmts P body) (stmts P1 body1) (λ room. Ended (StmtHere room))
        unfolding stmts
        stmts-whole = ended_whole c Q stmt-whole stmt_strict stmt_strict1 nothing nothing1

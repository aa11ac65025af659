-- The statements and blocks that are spelled so are read so.
use Rattle.std.proofs.Common.{◌≡◌, ℕ, zero, suc, true, false, List, [], ◌∷◌, length, Option, Some, Ok, refl, ap, ◌∙◌}
use Rattle.da_values.specs.declared.token.Mark.{Mark}
use Rattle.da_values.specs.declared.token.Mark.TheVariants as m
use Rattle.da_values.specs.Marks.{Tok}
use Rattle.da_lang.specs.declared.tree.Branch.{Branch}
use Rattle.da_lang.specs.declared.tree.Expr.{Expr}
use Rattle.da_lang.specs.declared.tree.Stmt.{Stmt}
use Rattle.da_lang.specs.declared.tree.Stmt.TheVariants as stmt_tree
use Rattle.da_lang.specs.declared.tree.TimeoutTree.{TimeoutTree, roll-TimeoutTree}
use Rattle.da_lang.specs.Spelling as sp
use Rattle.da_lang.specs.Spelling.{Spelling, Room, At, Opens, Named, Closed, Many, Ended}
use Rattle.da_lang.specs.ExprGrammar.{Deeper, IsExpr, deeper}
use Rattle.da_lang.specs.StmtGrammar.{IsBlock, IsBranch, IsElse, IsTimeout, IsStmt, BodyIn}
use Rattle.da_phrases.specs.Reader as reader
use Rattle.da_phrases.specs.Reader.{mark, text, rest, same, sees, Reading, Reader, continued, ◌>>=◌, ◌>>◌, pure, refuse, expect, word}
use Rattle.da_phrases.specs.Place.{Limit, Place}
use Rattle.da_phrases.specs.Exprs.{place, expression}
use Rattle.da_parse.specs.Stmts.{branch_of, in_parens, arguments, assigned, changed, called, named, sending, output, passing, label, block, block_after_colon, branch, otherwise, timeout, conditional, while_loop, for_loop, alternatives, awaiting, stmt_by, stmt, stmts, bodies}
use Rattle.da_phrases.proofs.Steps.{mark-At, mark-Named, sees-At, rest-At, behind_is, after_not, expect_is, not_seen, At-Opens, room-Opens, opening_is, word_is, taking_is}
use Rattle.da_phrases.proofs.Laws.{IsComplete, Shrinks, Lacks, Anything, Completes, goes_on_expr, goes_on_disj}
use Rattle.da_phrases.proofs.Firsts.{Beginning, deeper-begins, begins_disj, never_seen, lacked, apart, next-At}
use Rattle.da_phrases.proofs.Shorter.{Shrinking, deeper-shrinks}
use Rattle.da_phrases.proofs.CompleteTypes.{Enough, enough_inside, enough_any}
use Rattle.da_phrases.proofs.CompletePlaces.{place-complete, expression_there-complete}
use Rattle.da_parse.proofs.ShorterStmts.{begins_stmt, goes_on_stmt, next_stmt, IsStmt-begins, IsStmt-shrinks, IsBranch-shrinks, BodyIn-shrinks}
use Rattle.da_phrases.proofs.ListComplete.{closed-complete, begun-complete, ended-complete}
use Rattle.da_parse.proofs.SoundStmts.{same_line}

mark-Branch : {room : Room} {deep : Deeper} {Body : Spelling (List Stmt)} {word : Mark} {b : Branch} {i r : List Tok} → IsBranch room deep Body word b i r → mark i ≡ Some word
mark-Branch (IsBranch.branch h a c l) = mark-At h

IsBranch-sees : {room : Room} {deep : Deeper} {Body : Spelling (List Stmt)} {word : Mark} {b : Branch} {i r : List Tok} → IsBranch room deep Body word b i r → sees word i ≡ true
IsBranch-sees (IsBranch.branch h a c l) = sees-At h

-- what ends a statement of several blocks is none of its further branches
no_elif : {room : Room} {deep : Deeper} {Body : Spelling (List Stmt)} {o : Option (List Stmt)} {i r : List Tok} → IsElse room deep Body o i r → Lacks goes_on_stmt r → sees m.Elif i ≡ false
no_elif {i = i} IsElse.no_else s = lacked goes_on_stmt m.Elif i refl s
no_elif (IsElse.otherwise h c l) s = not_seen m.Elif h refl

no_or : {room : Room} {deep : Deeper} {Body : Spelling (List Stmt)} {o : Option TimeoutTree} {i r : List Tok} → IsTimeout room deep Body o i r → Lacks goes_on_stmt r → sees m.Or i ≡ false
no_or {i = i} IsTimeout.no_timeout s = lacked goes_on_stmt m.Or i refl s
no_or (IsTimeout.timeout h c l) s = not_seen m.Or h refl

module _ (p : Place) (room : Room) (deep : Deeper) (beginning : Beginning deep) (shrinking : Shrinking deep) (completes : Completes p room deep) where
  pub in_parens-complete : (x : Expr) (i r s q : List Tok) → Opens m.OpenParen room i r → deep.expr x r s → At m.CloseParen s q → in_parens p i ≡ Ok (x, q)
  unfolding in_parens
  in_parens-complete x i r s q o a h = rw (opening_is p.may_open completes.allows o, completes.expr i (room-Opens o) x r s a (next-At goes_on_expr h), expect_is h) refl

  pub arguments-complete : (xs : List Expr) (i r s : List Tok) → Opens m.OpenParen room i r → Closed m.CloseParen deep.disj xs r s → arguments p i ≡ Ok (xs, s)
  unfolding arguments
  arguments-complete xs i r s o l = rw (opening_is p.may_open completes.allows o)
      (closed-complete (completes.disj i (room-Opens o)) shrinking.disj m.CloseParen begins_disj beginning.disj refl refl (λ j q h. next-At goes_on_disj h) (λ j q h. next-At goes_on_disj h) [] xs r s l)

module _ (p : Place) (room : Room) (deep : Deeper) (beginning : Beginning deep) (shrinking : Shrinking deep) (completes : Completes p room deep)
    (expression_complete : IsComplete (Lacks goes_on_expr) (expression p) (IsExpr room deep))
    (body : Reader (List Stmt)) (Body : Spelling (List Stmt)) (body_shrinks : Shrinks Body) (body_complete : (t : List Tok) → room t → IsComplete Anything body Body) where
  pub block-complete : (b : List Stmt) (i r : List Tok) → IsBlock room deep Body b i r → block p body i ≡ Ok (b, r)
  unfolding block
  block-complete b i r (IsBlock.block h o l) = rw (expect_is h, opening_is p.may_open completes.allows o) (body_complete _ (room-Opens o) b _ r l tt)

  pub block_after_colon-complete : (b : List Stmt) (i r s : List Tok) → At m.Colon i r → IsBlock room deep Body b r s → block_after_colon p body i ≡ Ok (b, s)
  unfolding block_after_colon
  block_after_colon-complete b i r s h l = rw (expect_is h) (block-complete b r s l)

  branch-complete : (word : Mark) → IsComplete Anything (branch p body) (IsBranch room deep Body word)
  unfolding branch
  branch-complete word _ i r (IsBranch.branch {x} {b} h a c l) _ =
      rw (rest-At h, expression_complete x _ _ a (next-At goes_on_expr c), block_after_colon-complete b _ _ r c l) (ap (λ at. Ok (branch_of x b at, r)) (same_line i))

  otherwise-complete : IsComplete (Lacks goes_on_stmt) (otherwise p body) (IsElse room deep Body)
  unfolding otherwise
  otherwise-complete _ i r IsElse.no_else s = after_not m.Else _ _ (lacked goes_on_stmt m.Else i refl s)
  otherwise-complete _ i r (IsElse.otherwise {b} h c l) s = behind_is _ _ h ∙ rw (block_after_colon-complete b _ _ r c l) refl

  timeout-complete : IsComplete (Lacks goes_on_stmt) (timeout p body) (IsTimeout room deep Body)
  unfolding timeout
  timeout-complete _ i r IsTimeout.no_timeout s = after_not m.Timeout _ _ (lacked goes_on_stmt m.Timeout i refl s)
  timeout-complete _ i r (IsTimeout.timeout {b} h c l) s =
      behind_is _ _ h ∙ rw (block_after_colon-complete b _ _ r c l) (ap (λ at. Ok (Some (roll-TimeoutTree (record { body = b; line = at })), r)) (same_line i))

  conditional-complete : (b : Branch) (bs : List Branch) (o : Option (List Stmt)) (at : ℕ) (i r s q : List Tok) → IsBranch room deep Body m.If b i r → Many (IsBranch room deep Body m.Elif) bs r s → IsElse room deep Body o s q
      → Lacks goes_on_stmt q → conditional p body at i ≡ Ok (stmt_tree.If (b ∷ bs) o at, q)
  unfolding conditional
  conditional-complete b bs o at i r s q a l e stops =
      rw (
        branch-complete m.If b i r a tt,
        begun-complete (branch-complete m.Elif) (IsBranch-shrinks room deep shrinking Body body_shrinks m.Elif) m.Elif (λ x j k h. IsBranch-sees h) (λ j k h. tt) (b ∷ []) bs r s l tt (no_elif e stops),
        otherwise-complete o s q e stops,
      ) refl

  alternatives-complete : (x : Expr) (b : List Stmt) (bs : List Branch) (o : Option TimeoutTree) (at : ℕ) (i r s q z : List Tok) → At m.Colon i r → IsBlock room deep Body b r s → Many (IsBranch room deep Body m.Or) bs s q → IsTimeout room deep Body o q z
      → Lacks goes_on_stmt z → alternatives p body x at i ≡ Ok (stmt_tree.Await (branch_of x b at ∷ bs) o at, z)
  unfolding alternatives
  alternatives-complete x b bs o at i r s q z h a l e stops =
      rw (
        block_after_colon-complete b i r s h a,
        begun-complete (branch-complete m.Or) (IsBranch-shrinks room deep shrinking Body body_shrinks m.Or) m.Or (λ x j k h. IsBranch-sees h) (λ j k h. tt) (branch_of x b at ∷ []) bs s q l tt (no_or e stops),
        timeout-complete o q z e stops,
      ) refl

  -- a statement is read by its first token, at its line
  at_stmt : {k : Mark} (i : List Tok) {o : Reading Stmt} → mark i ≡ Some k → stmt_by p body (sp.line i) (Some k) i ≡ o → stmt p body i ≡ o
  unfolding stmt
  at_stmt {k} i is e = ap (λ z. stmt_by p body (reader.line i) z i) is ∙ ap (λ at. stmt_by p body at (Some k) i) (same_line i) ∙ e

  named_stmt : {b : List ℕ} {i r : List Tok} {o : Reading Stmt} → Named b i r → named p b (sp.line i) r ≡ o → stmt p body i ≡ o
  named_stmt {b} {i} h e = at_stmt i (mark-Named h) (taking_is (λ n. named p n (sp.line i)) h ∙ e)

  -- a word at the head of a statement is passed
  word_stmt : {k : Mark} {i r : List Tok} {o : Reading Stmt} (next : Reader Stmt) → At k i r → ((j : List Tok) → stmt_by p body (sp.line i) (Some k) j ≡ next (rest j)) → next r ≡ o → stmt p body i ≡ o
  word_stmt {i = i} next h is e = at_stmt i (mark-At h) (is i ∙ ap next (rest-At h) ∙ e)

  stmt-complete : IsComplete (Lacks goes_on_stmt) (stmt p body) (IsStmt room deep Body)
  unfolding named assigned changed called sending output passing label while_loop for_loop awaiting
  stmt-complete _ i r (IsStmt.assign {x = x} n h a e) s = named_stmt n (behind_is _ _ h ∙ rw (expression_complete x _ _ a (next-At goes_on_expr e), expect_is e) refl)
  stmt-complete _ i r (IsStmt.add {x = x} n h k o a c e) s =
      named_stmt n (after_not m.Assign _ _ (not_seen m.Assign h refl) ∙ behind_is _ _ h ∙ behind_is _ _ k ∙ rw (in_parens-complete p room deep beginning shrinking completes x _ _ _ _ o a c, expect_is e) refl)
  stmt-complete _ i r (IsStmt.remove {x = x} n h k o a c e) s =
      named_stmt n (after_not m.Assign _ _ (not_seen m.Assign h refl) ∙ behind_is _ _ h ∙ after_not m.Add _ _ (not_seen m.Add k refl) ∙ rw (expect_is k, in_parens-complete p room deep beginning shrinking completes x _ _ _ _ o a c, expect_is e) refl)
  stmt-complete _ i r (IsStmt.call {xs = xs} n o l e) s =
      named_stmt n (after_not m.Assign _ _ (not_seen m.Assign (At-Opens o) refl) ∙ after_not m.Dot _ _ (not_seen m.Dot (At-Opens o) refl) ∙ rw (arguments-complete p room deep beginning shrinking completes xs _ _ _ o l, expect_is e) refl)
  stmt-complete _ i r (IsStmt.send {x} {y} h a k b e) s =
      word_stmt (sending p (sp.line i)) h (λ j. refl) (rw (expression_complete x _ _ a (next-At goes_on_expr k), expect_is k, expression_complete y _ _ b (next-At goes_on_expr e), expect_is e) refl)
  stmt-complete _ i r (IsStmt.output {x} h o a c e) s =
      word_stmt (output p (sp.line i)) h (λ j. refl) (rw (in_parens-complete p room deep beginning shrinking completes x _ _ _ _ o a c, expect_is e) refl)
  stmt-complete _ i r (IsStmt.pass h e) s = word_stmt (passing (sp.line i)) h (λ j. refl) (rw (expect_is e) refl)
  stmt-complete _ i r (IsStmt.label h n e) s = word_stmt (label (sp.line i)) h (λ j. refl) (rw (word_is n, expect_is e) refl)
  stmt-complete _ i r (IsStmt.conditional {b} {bs} {o} a l e) s = at_stmt i (mark-Branch a) (conditional-complete b bs o (sp.line i) i _ _ r a l e s)
  stmt-complete _ i r (IsStmt.while {x} {b} h a c l) s =
      word_stmt (while_loop p body (sp.line i)) h (λ j. refl) (rw (expression_complete x _ _ a (next-At goes_on_expr c), block_after_colon-complete b _ _ r c l) refl)
  stmt-complete _ i r (IsStmt.for {x = x} {b = b} h n k a c l) s =
      word_stmt (for_loop p body (sp.line i)) h (λ j. refl) (rw (word_is n, expect_is k, expression_complete x _ _ a (next-At goes_on_expr c), block_after_colon-complete b _ _ r c l) refl)
  stmt-complete _ i r (IsStmt.await_one {x} h a e) s =
      word_stmt (awaiting p body (sp.line i)) h (λ j. refl) (rw (expression_complete x _ _ a (next-At goes_on_expr e)) (behind_is _ _ e))
  stmt-complete _ i r (IsStmt.await {bs = bs} {o = o} (IsBranch.branch {x} {b} h a c k) l e) s =
      word_stmt (awaiting p body (sp.line i)) h (λ j. refl)
      (rw (expression_complete x _ _ a (next-At goes_on_expr c)) (after_not m.Newline _ _ (not_seen m.Newline c refl) ∙ alternatives-complete x b bs o (sp.line i) _ _ _ _ r c k l e s))

  pub stmts-complete : (xs : List Stmt) (i r : List Tok) → Ended (IsStmt room deep Body) xs i r → stmts p body i ≡ Ok (xs, r)
  unfolding stmts
  stmts-complete xs i r l = ended-complete stmt-complete (IsStmt-shrinks room deep shrinking Body body_shrinks)
      (λ x j q h. (never_seen begins_stmt m.Dedent j refl (IsStmt-begins room deep Body x j q h), apart begins_stmt goes_on_stmt next_stmt j (IsStmt-begins room deep Body x j q h)))
      (λ j q h. next-At goes_on_stmt h) xs i r l

-- by a rule of how many things may be open, which allows all that the grammar allows
module _ (limit : Limit) (room : ℕ → Room) (allows : (d : ℕ) (t : List Tok) → room d t → limit d (length t) ≡ true) where
  -- the statements of a block after a token that opened it, where d things are open round it
  pub bodies-complete : (g f d : ℕ) → Enough room g f d → (t : List Tok) → room d t → IsComplete Anything (bodies limit f (suc d)) (BodyIn room g (suc d))
  unfolding bodies BodyIn
  bodies-complete zero f d e t some x i r h s = absurd h
  bodies-complete (suc g) zero d e t some x i r h s = absurd (enough_any room g d t some e)
  bodies-complete (suc g) (suc f) d e t some x i r h s =
      let inside = enough_inside room g f d e in
      stmts-complete (place limit f (suc d)) (room (suc d)) (deeper room g (suc (suc d))) (deeper-begins room g (suc (suc d))) (deeper-shrinks room g (suc (suc d)))
      (place-complete limit room allows g f (suc d) inside) (expression_there-complete limit room allows g f (suc d) inside)
      (bodies limit f (suc (suc d))) (BodyIn room g (suc (suc d))) (BodyIn-shrinks room g (suc (suc d))) (bodies-complete g f (suc d) inside) x i r h

  -- a block where d things are open, after its colon
  pub block_there-complete : (g f d : ℕ) → Enough room g f d → (b : List Stmt) (i r s : List Tok) → At m.Colon i r → IsBlock (room d) (deeper room g (suc d)) (BodyIn room g (suc d)) b r s
      → block_after_colon (place limit f d) (bodies limit f (suc d)) i ≡ Ok (b, s)
  block_there-complete g f d e =
      block_after_colon-complete (place limit f d) (room d) (deeper room g (suc d)) (deeper-begins room g (suc d)) (deeper-shrinks room g (suc d))
      (place-complete limit room allows g f d e) (expression_there-complete limit room allows g f d e)
      (bodies limit f (suc d)) (BodyIn room g (suc d)) (BodyIn-shrinks room g (suc d)) (bodies-complete g f d e)

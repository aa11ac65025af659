-- The printed tokens of statements spell them again, but for the numbers of lines, and with no more nesting.
use Rattle.std.proofs.Common.{◌≡◌, ℕ, zero, suc, ◌+◌, List, [], ◌∷◌, ◌++◌, map, Option, Some, None, refl, sym, ap, ◌∙◌, subst, arith, append_assoc}
use Rattle.std.specs.Option.{option_map}
use Rattle.std.specs.Prelude.{codes}
use Rattle.da_values.specs.declared.token.Mark.{Mark}
use Rattle.da_values.specs.declared.token.Mark.TheVariants as m
use Rattle.da_values.specs.Marks.{Tok}
use Rattle.da_lang.specs.declared.tree.Branch.{Branch, roll-Branch}
use Rattle.da_lang.specs.declared.tree.Expr.{Expr}
use Rattle.da_lang.specs.declared.tree.Stmt.{Stmt}
use Rattle.da_lang.specs.declared.tree.Stmt.TheVariants as stmt
use Rattle.da_lang.specs.declared.tree.TimeoutTree.{TimeoutTree, roll-TimeoutTree}
use Rattle.da_lang.specs.Spelling as g
use Rattle.da_lang.specs.Spelling.{Spelling, Opens, Named, Many}
use Rattle.da_lang.specs.ExprGrammar.{Deeper, IsExpr, deeper}
use Rattle.da_lang.specs.StmtGrammar as sg
use Rattle.da_lang.specs.StmtGrammar.{IsBlock, IsBranch, IsElse, IsTimeout, IsStmt, BodyIn}
use Rattle.da_unparse.specs.Expressions.{either, expr_pieces}
use Rattle.da_unparse.specs.Lines.{Line, lines_toks}
use Rattle.da_unparse.specs.Pieces.{Piece, one, name, colon, between, before, in_parens, listed}
use Rattle.da_unparse.specs.Statements.{Block, Guarded, line, block, headed, guarded, each_guarded, otherwise, timeout, guarded_of, timeout_of, stmt_lines, body_lines}
use Rattle.da_unparse.specs.Unlined.{unlined_stmt, unlined_branch, unlined_timeout}
use Rattle.da_unparse.proofs.AgainExprs.{below-again, operands, room-of}
use Rattle.da_unparse.proofs.AgainLines.{Begins, Low, line-toks, Indented, Reprinted, Reprints, Starts, all_lines, many-again, many-low, ended-again}
use Rattle.da_unparse.proofs.AgainPlaces.{operand}
use Rattle.da_unparse.proofs.AgainRules.{exprs-again, below_exprs-again}
use Rattle.da_unparse.proofs.AgainTools.{put, tok_of, putting, put-call, Again, closed-again}
use Rattle.da_unparse.proofs.AgainTypes.{opens-again}
use Rattle.da_unparse.proofs.ShownAt.{stmt-Assign, stmt-Add, stmt-Del, stmt-Send, stmt-Output, stmt-Pass, stmt-Label, stmt-Call, stmt-If, stmt-While, stmt-For, stmt-AwaitOne, stmt-Await, guarded_at, timeout_at}
use Rattle.da_unparse.proofs.UnlinedAt.{unlined-Assign, unlined-Add, unlined-Del, unlined-Send, unlined-Output, unlined-Pass, unlined-Label, unlined-Call, unlined-If, unlined-While, unlined-For, unlined-AwaitOne, unlined-Await, unlined_branch_at, unlined_timeout_at}

body_lines-are : (xs : List Stmt) (level : ℕ) → body_lines xs level ≡ all_lines stmt_lines xs (level + 1)
body_lines-are [] level = refl
body_lines-are (x ∷ xs) level = ap (λ z. stmt_lines x (level + 1) ++ z) (body_lines-are xs level)

-- what is to be known where a block opens: what stands in it is spelled again
abbrev pub Reprints_bodies : Spelling (List Stmt) → Type 0
Reprints_bodies Body = Reprints Body (Indented Body) body_lines (map unlined_stmt)

-- ---- lines of one statement begin at its level

starts-at : {w : Block} (st : Stmt) (level : ℕ) → stmt_lines st ≡ w → Begins level (w level) → Begins level (stmt_lines st level)
starts-at st level e h = subst (λ w. Begins level (w level)) (sym e) h

guarded-begins : (k : Mark) (bytes : List ℕ) (g : Guarded) (level : ℕ) → Begins level (guarded k bytes g level)
guarded-begins k bytes g level = record { first = before k bytes ++ g.cond ++ colon; others = block g.body level; is = refl }

module _ (X : Type 0) (deep : Deeper) (Body : Spelling (List Stmt)) where
  stmt-starts : Starts (IsStmt (λ t. X) deep Body) stmt_lines
  stmt-starts _ i r (sg.IsStmt.assign {b} {x} {t} h e a z) level = starts-at _ level (stmt-Assign b x (g.line t)) (record { first = _; others = []; is = refl })
  stmt-starts _ i r (sg.IsStmt.add {n} {x} {t} h d w o a e z) level = starts-at _ level (stmt-Add n x (g.line t)) (record { first = _; others = []; is = refl })
  stmt-starts _ i r (sg.IsStmt.remove {n} {x} {t} h d w o a e z) level = starts-at _ level (stmt-Del n x (g.line t)) (record { first = _; others = []; is = refl })
  stmt-starts _ i r (sg.IsStmt.send {x} {y} {t} h a w b z) level = starts-at _ level (stmt-Send x y (g.line t)) (record { first = _; others = []; is = refl })
  stmt-starts _ i r (sg.IsStmt.output {x} {t} h o a e z) level = starts-at _ level (stmt-Output x (g.line t)) (record { first = _; others = []; is = refl })
  stmt-starts _ i r (sg.IsStmt.pass {t} h z) level = starts-at _ level (stmt-Pass (g.line t)) (record { first = _; others = []; is = refl })
  stmt-starts _ i r (sg.IsStmt.label {n} {t} h b z) level = starts-at _ level (stmt-Label n (g.line t)) (record { first = _; others = []; is = refl })
  stmt-starts _ i r (sg.IsStmt.call {n} {xs} {t} h o l z) level = starts-at _ level (stmt-Call n xs (g.line t)) (record { first = _; others = []; is = refl })
  stmt-starts _ i r (sg.IsStmt.conditional {b} {bs} {o} {t} h l e) level =
      starts-at _ level (stmt-If (b ∷ bs) o (g.line t)) (record { first = _; others = _; is = refl })
  stmt-starts _ i r (sg.IsStmt.while {x} {b} {t} h a c l) level = starts-at _ level (stmt-While x b (g.line t)) (record { first = _; others = _; is = refl })
  stmt-starts _ i r (sg.IsStmt.for {n} {x} {b} {t} h w e a c l) level = starts-at _ level (stmt-For n x b (g.line t)) (record { first = _; others = _; is = refl })
  stmt-starts _ i r (sg.IsStmt.await_one {x} {t} h a z) level = starts-at _ level (stmt-AwaitOne x (g.line t)) (record { first = _; others = []; is = refl })
  stmt-starts _ i r (sg.IsStmt.await {b} {bs} {o} {t} h l e) level =
      starts-at _ level (stmt-Await (b ∷ bs) o (g.line t)) (record { first = _; others = _; is = refl })

-- ---- each statement, where the bodies of its blocks are spelled again

each-are : (k : Mark) (bytes : List ℕ) (bs : List Branch) (level : ℕ) → each_guarded k bytes (map guarded_of bs) level ≡ all_lines (λ b. guarded k bytes (guarded_of b)) bs level
each-are k bytes [] level = refl
each-are k bytes (b ∷ bs) level = ap (λ z. guarded k bytes (guarded_of b) level ++ z) (each-are k bytes bs level)

parts-are : {others all : List Line} (first last rest : List Line) → others ≡ all → first ++ others ++ last ++ rest ≡ first ++ (all ++ (last ++ rest))
parts-are {others} {all} first last rest e = ap (λ z. first ++ z ++ last ++ rest) e ∙ simp append_assoc

module _ (R : ℕ → Type 0) (down : (d : ℕ) → R (suc d) → R d) (f d : ℕ) (body : Reprints_bodies (BodyIn (λ d t. R d) f (suc d))) where
  abbrev Deep : Deeper
  Deep = deeper (λ d t. R d) f (suc d)

  abbrev Body : Spelling (List Stmt)
  Body = BodyIn (λ d t. R d) f (suc d)

  -- the block after a header on the line n
  pub block-again : (b : List Stmt) (i r : List Tok) → IsBlock (λ t. R d) (deeper (λ d t. R d) f (suc d)) (BodyIn (λ d t. R d) f (suc d)) b i r → (n level : ℕ) (rest : List Line) → Low level rest
      → (now : List Stmt) × (next : ℕ) × (map unlined_stmt now ≡ map unlined_stmt b)
      × IsBlock (λ t. R d) (deeper (λ d t. R d) f (suc d)) (BodyIn (λ d t. R d) f (suc d)) now (tok_of n m.Newline [] ∷ lines_toks (n + 1) level (body_lines b level ++ rest)) (lines_toks next level rest)
  block-again b i r (sg.IsBlock.block h o a) n level rest low =
      let inside = body b _ _ a (n + 1) level rest low in
      (inside.now, inside.next, inside.same, sg.IsBlock.block (g.At.at refl) (g.Opens.opens (room-of o) inside.spelled.1) inside.spelled.2)

  branch-again : (word : Mark) (bytes : List ℕ) → Reprints (IsBranch (λ t. R d) Deep Body word) (IsBranch (λ t. R d) Deep Body word) (λ b. guarded word bytes (guarded_of b)) unlined_branch
  branch-again word bytes _ i r (sg.IsBranch.branch {x} {b} {t} h a c l) n level rest low =
      let (now, next, same, spelled) = block-again b _ _ l n level rest low in
      record {
        now = roll-Branch (record { cond = x; body = now; line = n });
        next = next;
        same = unlined_branch_at x now n ∙ ap (λ z. roll-Branch (record { cond = x; body = z; line = 0 })) same ∙ sym (unlined_branch_at x b (g.line t));
        spelled = rw (guarded_at x b (g.line t), line-toks n level (before word bytes ++ expr_pieces x ++ colon) (body_lines b level ++ rest))
            (simp putting (sg.IsBranch.branch (g.At.at refl) (exprs-again R down n f d x _ _ a _) (g.At.at refl) spelled));
      }

  branch-starts : (word : Mark) (bytes : List ℕ) → Starts (IsBranch (λ t. R d) Deep Body word) (λ b. guarded word bytes (guarded_of b))
  branch-starts word bytes b i r h level = guarded-begins word bytes (guarded_of b) level

  else-low : (o : Option (List Stmt)) (level : ℕ) (rest : List Line) → Low level rest → Low level (otherwise (option_map (map stmt_lines) o) level ++ rest)
  else-low None level rest low = low
  else-low (Some b) level rest low = omega arith

  else-again : Reprints (IsElse (λ t. R d) Deep Body) (IsElse (λ t. R d) Deep Body) (λ o. otherwise (option_map (map stmt_lines) o)) (option_map (map unlined_stmt))
  else-again _ i r sg.IsElse.no_else n level rest low = record { now = None; next = n; same = refl; spelled = sg.IsElse.no_else }
  else-again _ i r (sg.IsElse.otherwise {b} h c l) n level rest low =
      let (now, next, same, spelled) = block-again b _ _ l n level rest low in
      record {
        now = Some now;
        next = next;
        same = ap Some same;
        spelled = rw (line-toks n level (one m.Else (codes "else") ++ colon) (body_lines b level ++ rest)) (simp putting (sg.IsElse.otherwise (g.At.at refl) (g.At.at refl) spelled));
      }

  timeout-low : (o : Option TimeoutTree) (level : ℕ) (rest : List Line) → Low level rest → Low level (timeout (option_map timeout_of o) level ++ rest)
  timeout-low None level rest low = low
  timeout-low (Some b) level rest low = omega arith

  timeout-again : Reprints (IsTimeout (λ t. R d) Deep Body) (IsTimeout (λ t. R d) Deep Body) (λ o. timeout (option_map timeout_of o)) (option_map unlined_timeout)
  timeout-again _ i r sg.IsTimeout.no_timeout n level rest low = record { now = None; next = n; same = refl; spelled = sg.IsTimeout.no_timeout }
  timeout-again _ i r (sg.IsTimeout.timeout {b} {t} h c l) n level rest low =
      let (now, next, same, spelled) = block-again b _ _ l n level rest low in
      record {
        now = Some (roll-TimeoutTree (record { body = now; line = n }));
        next = next;
        same = ap Some (unlined_timeout_at now n ∙ ap (λ z. roll-TimeoutTree (record { body = z; line = 0 })) same ∙ sym (unlined_timeout_at b (g.line t)));
        spelled = rw (timeout_at b (g.line t), line-toks n level (one m.Timeout (codes "timeout") ++ colon) (body_lines b level ++ rest)) (simp putting (sg.IsTimeout.timeout (g.At.at refl) (g.At.at refl) spelled));
      }

  abbrev Here : Spelling Stmt
  Here = IsStmt (λ t. R d) Deep Body

  abbrev Anew : Stmt → ℕ → ℕ → List Line → Type 0
  Anew = Reprinted Here stmt_lines unlined_stmt

  -- a statement on one line
  single : (st now : Stmt) (ps : List Piece) (n level : ℕ) (rest : List Line) → stmt_lines st ≡ line ps → unlined_stmt now ≡ unlined_stmt st
      → Here now (put n ps (tok_of n m.Newline [] ∷ lines_toks (n + 1) level rest)) (lines_toks (n + 1) level rest) → Anew st n level rest
  single st now ps n level rest e same h = record {
    now = now;
    next = n + 1;
    same = same;
    spelled = subst (λ w. Here now (lines_toks n level (w level ++ rest)) (lines_toks (n + 1) level rest)) (sym e) (rw (line-toks n level ps rest) h);
  }

  -- a header and a block
  with_block : (st : Stmt) (header : List Piece) (b : List Stmt) (i r : List Tok) (n level : ℕ) (rest : List Line) (low : Low level rest) (built : List Stmt → Stmt) → stmt_lines st ≡ headed header (map stmt_lines b)
      → IsBlock (λ t. R d) Deep Body b i r → ((now : List Stmt) → map unlined_stmt now ≡ map unlined_stmt b → unlined_stmt (built now) ≡ unlined_stmt st)
      → ((now : List Stmt) (q z : List Tok) → IsBlock (λ t. R d) Deep Body now q z → Here (built now) (put n (header ++ colon) q) z) → Anew st n level rest
  with_block st header b i r n level rest low built e l same h =
      let (now, next, same_body, spelled) = block-again b i r l n level rest low in
      record {
        now = built now;
        next = next;
        same = same now same_body;
        spelled = subst (λ w. Here (built now) (lines_toks n level (w level ++ rest)) (lines_toks next level rest)) (sym e)
            (rw (line-toks n level (header ++ colon) (body_lines b level ++ rest)) (h now _ _ spelled));
      }

  exprs : (n : ℕ) → Again n (IsExpr (λ t. R d) Deep) (IsExpr (λ t. R d) Deep) expr_pieces
  exprs n = exprs-again R down n f d

  inner : (n : ℕ) → Again n Deep.expr Deep.expr expr_pieces
  inner n = below_exprs-again R down n f d

  conditional-again : (b : Branch) (bs : List Branch) (o : Option (List Stmt)) (i r s q : List Tok) → IsBranch (λ t. R d) Deep Body m.If b i r → Many (IsBranch (λ t. R d) Deep Body m.Elif) bs r s → IsElse (λ t. R d) Deep Body o s q
      → (at n level : ℕ) (rest : List Line) → Low level rest → Anew (stmt.If (b ∷ bs) o at) n level rest
  conditional-again b bs o i r s q h l e at n level rest low =
      let after = otherwise (option_map (map stmt_lines) o) level ++ rest in
      let after_low : Low level after = else-low o level rest low in
      let elifs = λ (g : Branch). guarded m.Elif (codes "elif") (guarded_of g) in
      let one = branch-again m.If (codes "if") b _ _ h n level (all_lines elifs bs level ++ after) (many-low elifs unlined_branch (branch-again m.Elif (codes "elif")) (branch-starts m.Elif (codes "elif")) bs _ _ l level after after_low) in
      let more = many-again elifs unlined_branch (branch-again m.Elif (codes "elif")) (branch-starts m.Elif (codes "elif")) bs _ _ l one.next level after after_low in
      let last = else-again o _ _ e more.next level rest low in
      let start = guarded m.If (codes "if") (guarded_of b) level ++ (all_lines elifs bs level ++ after) in
      let lines : stmt_lines (stmt.If (b ∷ bs) o at) level ++ rest ≡ start =
      ap (λ w. w level ++ rest) (stmt-If (b ∷ bs) o at) ∙ parts-are (guarded m.If (codes "if") (guarded_of b) level) (otherwise (option_map (map stmt_lines) o) level) rest (each-are m.Elif (codes "elif") bs level) in
      record {
        now = stmt.If (one.now ∷ more.now) last.now (g.line (lines_toks n level start));
        next = last.next;
        same = cc (unlined-If (b ∷ bs) o at, unlined-If (one.now ∷ more.now) last.now (g.line (lines_toks n level start)), one.same, more.same, last.same);
        spelled = subst (λ z. Here (stmt.If (one.now ∷ more.now) last.now (g.line (lines_toks n level start))) (lines_toks n level z) (lines_toks last.next level rest)) (sym lines) (sg.IsStmt.conditional one.spelled more.spelled last.spelled);
      }

  await-again : (b : Branch) (bs : List Branch) (o : Option TimeoutTree) (i r s q : List Tok) → IsBranch (λ t. R d) Deep Body m.Await b i r → Many (IsBranch (λ t. R d) Deep Body m.Or) bs r s → IsTimeout (λ t. R d) Deep Body o s q
      → (at n level : ℕ) (rest : List Line) → Low level rest → Anew (stmt.Await (b ∷ bs) o at) n level rest
  await-again b bs o i r s q h l e at n level rest low =
      let after = timeout (option_map timeout_of o) level ++ rest in
      let after_low : Low level after = timeout-low o level rest low in
      let ors = λ (g : Branch). guarded m.Or (codes "or") (guarded_of g) in
      let one = branch-again m.Await (codes "await") b _ _ h n level (all_lines ors bs level ++ after) (many-low ors unlined_branch (branch-again m.Or (codes "or")) (branch-starts m.Or (codes "or")) bs _ _ l level after after_low) in
      let more = many-again ors unlined_branch (branch-again m.Or (codes "or")) (branch-starts m.Or (codes "or")) bs _ _ l one.next level after after_low in
      let last = timeout-again o _ _ e more.next level rest low in
      let start = guarded m.Await (codes "await") (guarded_of b) level ++ (all_lines ors bs level ++ after) in
      let lines : stmt_lines (stmt.Await (b ∷ bs) o at) level ++ rest ≡ start =
      ap (λ w. w level ++ rest) (stmt-Await (b ∷ bs) o at) ∙ parts-are (guarded m.Await (codes "await") (guarded_of b) level) (timeout (option_map timeout_of o) level) rest (each-are m.Or (codes "or") bs level) in
      record {
        now = stmt.Await (one.now ∷ more.now) last.now (g.line (lines_toks n level start));
        next = last.next;
        same = cc (unlined-Await (b ∷ bs) o at, unlined-Await (one.now ∷ more.now) last.now (g.line (lines_toks n level start)), one.same, more.same, last.same);
        spelled = subst (λ z. Here (stmt.Await (one.now ∷ more.now) last.now (g.line (lines_toks n level start))) (lines_toks n level z) (lines_toks last.next level rest)) (sym lines) (sg.IsStmt.await one.spelled more.spelled last.spelled);
      }

  call-again : (w : List ℕ) (xs : List Expr) (i r q : List Tok) → Opens m.OpenParen (λ t. R d) i r → g.Closed m.CloseParen Deep.disj xs r q → (at n level : ℕ) (rest : List Line) → Anew (stmt.Call w xs at) n level rest
  call-again w xs i r q o l at n level rest =
      single (stmt.Call w xs at) (stmt.Call w xs n) (name w ++ in_parens (listed (map (operand either) xs))) n level rest
      (stmt-Call w xs at ∙ ap (λ pss. line (name w ++ in_parens (listed pss))) (operands either xs)) (unlined-Call w xs n ∙ sym (unlined-Call w xs at))
      (rw (put-call n m.Name w (listed (map (operand either) xs)) (tok_of n m.Newline [] ∷ lines_toks (n + 1) level rest))
      (sg.IsStmt.call (g.Named.named refl) (opens-again o _ _ refl) (closed-again n (operand either) (below-again R down n f d).disj m.CloseParen _ xs _ _ l _) (g.At.at refl)))

  pub stmt-again : Reprints (IsStmt (λ t. R d) (deeper (λ d t. R d) f (suc d)) (BodyIn (λ d t. R d) f (suc d))) (IsStmt (λ t. R d) (deeper (λ d t. R d) f (suc d)) (BodyIn (λ d t. R d) f (suc d))) stmt_lines unlined_stmt
  stmt-again _ i r (sg.IsStmt.assign {b} {x} {t} h e a z) n level rest low =
      single _ (stmt.Assign b x n) _ n level rest (stmt-Assign b x (g.line t)) (unlined-Assign b x n ∙ sym (unlined-Assign b x (g.line t)))
      (simp putting (sg.IsStmt.assign (g.Named.named refl) (g.At.at refl) (exprs n x _ _ a _) (g.At.at refl)))
  stmt-again _ i r (sg.IsStmt.add {n = w} {x} {t} h e k o a c z) n level rest low =
      single _ (stmt.Add w x n) _ n level rest (stmt-Add w x (g.line t)) (unlined-Add w x n ∙ sym (unlined-Add w x (g.line t)))
      (simp putting (sg.IsStmt.add (g.Named.named refl) (g.At.at refl) (g.At.at refl) (opens-again o _ _ refl) (inner n x _ _ a _) (g.At.at refl) (g.At.at refl)))
  stmt-again _ i r (sg.IsStmt.remove {n = w} {x} {t} h e k o a c z) n level rest low =
      single _ (stmt.Del w x n) _ n level rest (stmt-Del w x (g.line t)) (unlined-Del w x n ∙ sym (unlined-Del w x (g.line t)))
      (simp putting (sg.IsStmt.remove (g.Named.named refl) (g.At.at refl) (g.At.at refl) (opens-again o _ _ refl) (inner n x _ _ a _) (g.At.at refl) (g.At.at refl)))
  stmt-again _ i r (sg.IsStmt.send {x} {y} {t} h a e b z) n level rest low =
      single _ (stmt.Send x y n) _ n level rest (stmt-Send x y (g.line t)) (unlined-Send x y n ∙ sym (unlined-Send x y (g.line t)))
      (simp putting (sg.IsStmt.send (g.At.at refl) (exprs n x _ _ a _) (g.At.at refl) (exprs n y _ _ b _) (g.At.at refl)))
  stmt-again _ i r (sg.IsStmt.output {x} {t} h o a c z) n level rest low =
      single _ (stmt.Output x n) _ n level rest (stmt-Output x (g.line t)) (unlined-Output x n ∙ sym (unlined-Output x (g.line t)))
      (simp putting (sg.IsStmt.output (g.At.at refl) (opens-again o _ _ refl) (inner n x _ _ a _) (g.At.at refl) (g.At.at refl)))
  stmt-again _ i r (sg.IsStmt.pass {t} h z) n level rest low =
      single _ (stmt.Pass n) _ n level rest (stmt-Pass (g.line t)) (unlined-Pass n ∙ sym (unlined-Pass (g.line t))) (simp putting (sg.IsStmt.pass (g.At.at refl) (g.At.at refl)))
  stmt-again _ i r (sg.IsStmt.label {n = w} {t} h e z) n level rest low =
      single _ (stmt.Label w n) _ n level rest (stmt-Label w (g.line t)) (unlined-Label w n ∙ sym (unlined-Label w (g.line t)))
      (simp putting (sg.IsStmt.label (g.At.at refl) (g.Named.named refl) (g.At.at refl)))
  stmt-again _ i r (sg.IsStmt.call {n = w} {xs} {t} h o l z) n level rest low = call-again w xs _ _ _ o l (g.line t) n level rest
  stmt-again _ i r (sg.IsStmt.conditional {b} {bs} {o} {t} h l e) n level rest low = conditional-again b bs o _ _ _ _ h l e (g.line t) n level rest low
  stmt-again _ i r (sg.IsStmt.while {x} {b} {t} h a c l) n level rest low =
      with_block _ (before m.While (codes "while") ++ expr_pieces x) b _ _ n level rest low (λ now. stmt.While x now n) (stmt-While x b (g.line t)) l
      (λ now e. unlined-While x now n ∙ ap (λ z. stmt.While x z 0) e ∙ sym (unlined-While x b (g.line t)))
      (λ now q z block. simp putting (sg.IsStmt.while (g.At.at refl) (exprs n x _ _ a _) (g.At.at refl) block))
  stmt-again _ i r (sg.IsStmt.for {n = w} {x} {b} {t} h k e a c l) n level rest low =
      with_block _ (before m.For (codes "for") ++ name w ++ between m.In (codes "in") ++ expr_pieces x) b _ _ n level rest low (λ now. stmt.For w x now n) (stmt-For w x b (g.line t)) l
      (λ now e. unlined-For w x now n ∙ ap (λ z. stmt.For w x z 0) e ∙ sym (unlined-For w x b (g.line t)))
      (λ now q z block. simp putting (sg.IsStmt.for (g.At.at refl) (g.Named.named refl) (g.At.at refl) (exprs n x _ _ a _) (g.At.at refl) block))
  stmt-again _ i r (sg.IsStmt.await_one {x} {t} h a z) n level rest low =
      single _ (stmt.AwaitOne x n) _ n level rest (stmt-AwaitOne x (g.line t)) (unlined-AwaitOne x n ∙ sym (unlined-AwaitOne x (g.line t)))
      (simp putting (sg.IsStmt.await_one (g.At.at refl) (exprs n x _ _ a _) (g.At.at refl)))
  stmt-again _ i r (sg.IsStmt.await {b} {bs} {o} {t} h l e) n level rest low = await-again b bs o _ _ _ _ h l e (g.line t) n level rest low

-- the bodies of blocks are spelled again, whatever is open there
pub body-again : (R : ℕ → Type 0) (down : (d : ℕ) → R (suc d) → R d) (f d : ℕ) → Reprints_bodies (BodyIn (λ d t. R d) f d)
unfolding BodyIn
body-again R down zero d b i r h n level rest low = absurd h
body-again R down (suc f) d b i r h n level rest low =
    let deep : Deeper = deeper (λ d t. R d) f (suc d) in
    let inside = ended-again stmt_lines unlined_stmt (stmt-again R down f d (body-again R down f (suc d))) (stmt-starts (R d) deep (BodyIn (λ d t. R d) f (suc d))) b i r h n level rest low in
    record {
      now = inside.now;
      next = inside.next;
      same = inside.same;
      spelled = rw (body_lines-are b level) inside.spelled;
    }

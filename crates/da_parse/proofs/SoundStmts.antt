-- What is read as a statement or as a block is spelled so.
use Rattle.std.proofs.Common.{◌≡◌, ℕ, zero, suc, ◌≤◌, true, List, [], ◌∷◌, length, Option, Some, None, Ok, refl, subst, arith, inl, inr}
use Rattle.std.specs.Prelude.{if◌then◌else◌}
use Rattle.da_values.specs.declared.token.Mark.{Mark}
use Rattle.da_values.specs.declared.token.Mark.TheVariants as m
use Rattle.da_values.specs.Marks.{Tok}
use Rattle.da_lang.specs.declared.tree.Branch.{Branch}
use Rattle.da_lang.specs.declared.tree.Expr.{Expr}
use Rattle.da_lang.specs.declared.tree.Stmt.{Stmt}
use Rattle.da_lang.specs.declared.tree.Stmt.TheVariants as stmt_tree
use Rattle.da_lang.specs.declared.tree.TimeoutTree.{TimeoutTree, roll-TimeoutTree}
use Rattle.da_lang.specs.Spelling as sp
use Rattle.da_lang.specs.Spelling.{Spelling, Room, At, Opens, Named, Closed, Many, Ended}
use Rattle.da_lang.specs.ExprGrammar.{Deeper, IsExpr, deeper}
use Rattle.da_lang.specs.StmtGrammar as g
use Rattle.da_lang.specs.StmtGrammar.{IsBlock, IsBranch, IsElse, IsTimeout, IsStmt, BodyIn}
use Rattle.da_phrases.specs.declared.place.Level.TheVariants as level
use Rattle.da_phrases.specs.Reader as reader
use Rattle.da_phrases.specs.Reader.{mark, text, rest, sees, Reading, Reader, continued, ◌>>=◌, ◌>>◌, pure, refuse, expect, word, after_token}
use Rattle.da_phrases.specs.Lists.{begun}
use Rattle.da_phrases.specs.Place.{Limit, Place}
use Rattle.da_phrases.specs.Exprs.{place, expression}
use Rattle.da_parse.specs.Stmts.{branch_of, in_parens, arguments, assigned, changed, called, named, sending, output, passing, label, simple_by, block, block_after_colon, branch, otherwise, timeout, conditional, while_loop, for_loop, alternatives, awaiting, stmt_by, stmt, stmts, bodies}
use Rattle.da_phrases.proofs.Steps.{after_ok, At-mark, Named-mark}
use Rattle.da_phrases.proofs.SoundSteps.{reads, made, passes, names, opening_by}
use Rattle.da_phrases.proofs.SoundPlaces.{places-sound, expression_there-sound}
use Rattle.da_phrases.proofs.ListSound.{IsSoundAt, all_closed, begun-sound, ended-sound}
use Rattle.da_phrases.proofs.Laws.{IsSound, Sounds}

-- what stands after a colon
abbrev pub AfterColon : {A : Type 0} → Spelling A → Spelling A
AfterColon G x i r = (s : List Tok) × At m.Colon i s × G x s r

-- the line of the next token, as the readers and as the grammar say it
pub same_line : (i : List Tok) → reader.line i ≡ sp.line i
same_line [] = refl
same_line (t ∷ r) = refl

module _ (p : Place) (room : Room) (deep : Deeper) (sounds : Sounds p room deep) where
  pub in_parens-sound : (i : List Tok) (y : Expr × List Tok) → in_parens p i ≡ Ok y
      → (r : List Tok) × (s : List Tok) × Opens m.OpenParen room i r × deep.expr y.0 r s × At m.CloseParen s y.1
  unfolding in_parens
  in_parens-sound i y e =
      opening_by p.may_open room sounds.fits m.OpenParen i _ y e (λ after_a opened e1.
      reads (p.expr level.Expr after_a) _ y e1 (λ b after_b read e2.
      passes m.CloseParen after_b _ y e2 (λ after_c passed last.
      subst (λ (z : Expr × List Tok). (r : List Tok) × (s : List Tok) × Opens m.OpenParen room i r × deep.expr z.0 r s × At m.CloseParen s z.1) (cc)
      (after_a, after_b, opened, sounds.expr after_a (b, after_b) read, passed))))

module _ (p : Place) (room : Room) (deep : Deeper) (sounds : Sounds p room deep) (expression_sound : IsSound (expression p) (IsExpr room deep)) (Body : Spelling (List Stmt)) where
  assigned-sound : (b : List ℕ) (t s i : List Tok) (y : Stmt × List Tok) → Named b t s → At m.Assign s i → assigned p b (sp.line t) i ≡ Ok y → IsStmt room deep Body y.0 t y.1
  unfolding assigned
  assigned-sound b t s i y name is e =
      reads (expression p i) _ y e (λ u after_u read e1.
      passes m.Newline after_u _ y e1 (λ after_v over last.
      made (IsStmt room deep Body) t y last (g.assign name is (expression_sound i (u, after_u) read) over)))

  changed-sound : (b : List ℕ) (t s i : List Tok) (y : Stmt × List Tok) → Named b t s → At m.Dot s i → changed p b (sp.line t) i ≡ Ok y → IsStmt room deep Body y.0 t y.1
  unfolding changed
  changed-sound b t s i y name dot e = elim (after_ok m.Add (in_parens p >>= λ x. expect m.Newline >> pure (stmt_tree.Add b x (sp.line t))) (expect m.Del >> (in_parens p >>= λ x. expect m.Newline >> pure (stmt_tree.Del b x (sp.line t)))) i y e) [
    | inl h ↦ (
        let (r, adds, e1) = h in
        reads (in_parens p r) _ y e1 (λ u after_u read e2.
        passes m.Newline after_u _ y e2 (λ after_v over last.
        let (c, d, opened, x, close) = in_parens-sound p room deep sounds r (u, after_u) read in
        made (IsStmt room deep Body) t y last (g.add name dot adds opened x close over))))
    | inr h ↦ (
        passes m.Del i _ y h.1 (λ after_w dels e1.
        reads (in_parens p after_w) _ y e1 (λ u after_u read e2.
        passes m.Newline after_u _ y e2 (λ after_v over last.
        let (c, d, opened, x, close) = in_parens-sound p room deep sounds after_w (u, after_u) read in
        made (IsStmt room deep Body) t y last (g.remove name dot dels opened x close over)))))
  ]

  arguments-sound : (i : List Tok) (y : List Expr × List Tok) → arguments p i ≡ Ok y → (r : List Tok) × Opens m.OpenParen room i r × Closed m.CloseParen deep.disj y.0 r y.1
  unfolding arguments
  arguments-sound i y e =
      opening_by p.may_open room sounds.fits m.OpenParen i _ y e (λ after_u opened e1.
      (after_u, opened, all_closed m.CloseParen (p.expr level.Disj) deep.disj sounds.disj after_u y e1))

  called-sound : (b : List ℕ) (t i : List Tok) (y : Stmt × List Tok) → Named b t i → called p b (sp.line t) i ≡ Ok y → IsStmt room deep Body y.0 t y.1
  unfolding called
  called-sound b t i y name e =
      reads (arguments p i) _ y e (λ u after_u read e1.
      passes m.Newline after_u _ y e1 (λ after_v over last.
      let (r, opened, xs) = arguments-sound i (u, after_u) read in
      made (IsStmt room deep Body) t y last (g.call name opened xs over)))

  named-sound : (b : List ℕ) (t i : List Tok) (y : Stmt × List Tok) → Named b t i → named p b (sp.line t) i ≡ Ok y → IsStmt room deep Body y.0 t y.1
  unfolding named
  named-sound b t i y name e = elim (after_ok m.Assign (assigned p b (sp.line t)) (after_token m.Dot (changed p b (sp.line t)) (called p b (sp.line t))) i y e) [
    | inl h ↦ assigned-sound b t i h.0 y name h.1 h.2
    | inr h ↦ elim (after_ok m.Dot (changed p b (sp.line t)) (called p b (sp.line t)) i y h.1) [
      | inl d ↦ changed-sound b t i d.0 y name d.1 d.2
      | inr d ↦ called-sound b t i y name d.1
    ]
  ]

  sending-sound : (t i : List Tok) (y : Stmt × List Tok) → At m.Send t i → sending p (sp.line t) i ≡ Ok y → IsStmt room deep Body y.0 t y.1
  unfolding sending
  sending-sound t i y there e =
      reads (expression p i) _ y e (λ a after_a read e1.
      passes m.To after_a _ y e1 (λ after_b to e2.
      reads (expression p after_b) _ y e2 (λ c after_c other e3.
      passes m.Newline after_c _ y e3 (λ after_d over last.
      made (IsStmt room deep Body) t y last (g.send there (expression_sound i (a, after_a) read) to (expression_sound after_b (c, after_c) other) over)))))

  output-sound : (t i : List Tok) (y : Stmt × List Tok) → At m.Output t i → output p (sp.line t) i ≡ Ok y → IsStmt room deep Body y.0 t y.1
  unfolding output
  output-sound t i y there e =
      reads (in_parens p i) _ y e (λ u after_u read e1.
      passes m.Newline after_u _ y e1 (λ after_v over last.
      let (c, d, opened, x, close) = in_parens-sound p room deep sounds i (u, after_u) read in
      made (IsStmt room deep Body) t y last (g.output there opened x close over)))

  passing-sound : (t i : List Tok) (y : Stmt × List Tok) → At m.Pass t i → passing (sp.line t) i ≡ Ok y → IsStmt room deep Body y.0 t y.1
  unfolding passing
  passing-sound t i y there e =
      passes m.Newline i _ y e (λ after_v over last.
      made (IsStmt room deep Body) t y last (g.pass there over))

  label-sound : (t i : List Tok) (y : Stmt × List Tok) → At m.Dashes t i → label (sp.line t) i ≡ Ok y → IsStmt room deep Body y.0 t y.1
  unfolding label
  label-sound t i y there e =
      names i _ y e (λ u after_u read e1.
      passes m.Newline after_u _ y e1 (λ after_v over last.
      made (IsStmt room deep Body) t y last (g.label there read over)))

  simple_by-sound : (k : Option Mark) (i : List Tok) (y : Stmt × List Tok) → mark i ≡ k → simple_by p (sp.line i) k i ≡ Ok y → IsStmt room deep Body y.0 i y.1
  simple_by-sound (Some m.Name) i y is e = named-sound (text i) i (rest i) y (Named-mark i is) e
  simple_by-sound (Some m.Send) i y is e = sending-sound i (rest i) y (At-mark m.Send i is) e
  simple_by-sound (Some m.Output) i y is e = output-sound i (rest i) y (At-mark m.Output i is) e
  simple_by-sound (Some m.Pass) i y is e = passing-sound i (rest i) y (At-mark m.Pass i is) e
  simple_by-sound (Some m.Dashes) i y is e = label-sound i (rest i) y (At-mark m.Dashes i is) e
  simple_by-sound _ i y is e = cc

module _ (p : Place) (room : Room) (deep : Deeper) (sounds : Sounds p room deep) (expression_sound : IsSound (expression p) (IsExpr room deep))
    (body : Reader (List Stmt)) (Body : Spelling (List Stmt)) (body_sound : IsSound body Body) where
  pub block-sound : IsSound (block p body) (IsBlock room deep Body)
  unfolding block
  block-sound i y e =
      passes m.Newline i _ y e (λ after_u over e1.
      opening_by p.may_open room sounds.fits m.Indent after_u _ y e1 (λ after_v opened e2.
      g.block over opened (body_sound after_v y e2)))

  pub block_after_colon-sound : IsSound (block_after_colon p body) (AfterColon (IsBlock room deep Body))
  unfolding block_after_colon
  block_after_colon-sound i y e =
      passes m.Colon i _ y e (λ after_u colon e1.
      (after_u, colon, block-sound after_u y e1))

  pub branch-sound : (k : Mark) → IsSoundAt k (branch p body) (IsBranch room deep Body k)
  unfolding branch
  branch-sound k i y there e =
      reads (expression p (rest i)) _ y e (λ u after_u read e1.
      reads (block_after_colon p body after_u) _ y e1 (λ v after_v does last.
      let (r, colon, b) = block_after_colon-sound after_u (v, after_v) does in
      subst (λ (z : Branch × List Tok). IsBranch room deep Body k z.0 i z.1) (cc (same_line i)) (g.branch there (expression_sound (rest i) (u, after_u) read) colon b)))

  otherwise-sound : IsSound (otherwise p body) (IsElse room deep Body)
  unfolding otherwise
  otherwise-sound i y e = elim (after_ok m.Else (block_after_colon p body >>= λ b. pure (Some b)) (pure None) i y e) [
    | inl h ↦ (
        let (r, there, e1) = h in
        reads (block_after_colon p body r) _ y e1 (λ u after_u read last.
        let (s, colon, b) = block_after_colon-sound r (u, after_u) read in
        made (IsElse room deep Body) i y last (g.otherwise there colon b)))
    | inr h ↦ made (IsElse room deep Body) i y h.1 g.no_else
  ]

  timeout-sound : IsSound (timeout p body) (IsTimeout room deep Body)
  unfolding timeout
  timeout-sound i y e = elim (after_ok m.Timeout (block_after_colon p body >>= λ b. pure (Some (roll-TimeoutTree (record { body = b; line = reader.line i })))) (pure None) i y e) [
    | inl h ↦ (
        let (r, there, e1) = h in
        reads (block_after_colon p body r) _ y e1 (λ u after_u read last.
        let (s, colon, b) = block_after_colon-sound r (u, after_u) read in
        subst (λ (z : Option TimeoutTree × List Tok). IsTimeout room deep Body z.0 i z.1) (cc (same_line i)) (g.timeout there colon b)))
    | inr h ↦ made (IsTimeout room deep Body) i y h.1 g.no_timeout
  ]

  conditional-sound : (i : List Tok) (y : Stmt × List Tok) → At m.If i (rest i) → conditional p body (sp.line i) i ≡ Ok y → IsStmt room deep Body y.0 i y.1
  unfolding conditional
  conditional-sound i y there e =
      reads (branch p body i) _ y e (λ u after_u read e1.
      reads (begun m.Elif (branch p body) (u ∷ []) after_u) _ y e1 (λ v after_v others e2.
      reads (otherwise p body after_v) _ y e2 (λ w after_w other last.
      let (bs, is, spelled) = begun-sound m.Elif (branch p body) (IsBranch room deep Body m.Elif) (branch-sound m.Elif) (u ∷ []) after_u (v, after_v) others in
      subst (λ (z : Stmt × List Tok). IsStmt room deep Body z.0 i z.1) (cc) (g.conditional (branch-sound m.If i (u, after_u) there read) spelled (otherwise-sound after_v (w, after_w) other)))))

  while_loop-sound : (t i : List Tok) (y : Stmt × List Tok) → At m.While t i → while_loop p body (sp.line t) i ≡ Ok y → IsStmt room deep Body y.0 t y.1
  unfolding while_loop
  while_loop-sound t i y there e =
      reads (expression p i) _ y e (λ u after_u read e1.
      reads (block_after_colon p body after_u) _ y e1 (λ v after_v does last.
      let (r, colon, b) = block_after_colon-sound after_u (v, after_v) does in
      made (IsStmt room deep Body) t y last (g.while there (expression_sound i (u, after_u) read) colon b)))

  for_loop-sound : (t i : List Tok) (y : Stmt × List Tok) → At m.For t i → for_loop p body (sp.line t) i ≡ Ok y → IsStmt room deep Body y.0 t y.1
  unfolding for_loop
  for_loop-sound t i y there e =
      names i _ y e (λ u after_u name e1.
      passes m.In after_u _ y e1 (λ after_v goes e2.
      reads (expression p after_v) _ y e2 (λ w after_w read e3.
      reads (block_after_colon p body after_w) _ y e3 (λ x after_x does last.
      let (r, colon, b) = block_after_colon-sound after_w (x, after_x) does in
      made (IsStmt room deep Body) t y last (g.for there name goes (expression_sound after_v (w, after_w) read) colon b)))))

  alternatives-sound : (x : Expr) (t s i : List Tok) (y : Stmt × List Tok) → At m.Await t s → IsExpr room deep x s i → alternatives p body x (sp.line t) i ≡ Ok y → IsStmt room deep Body y.0 t y.1
  unfolding alternatives
  alternatives-sound x t s i y there cond e =
      reads (block_after_colon p body i) _ y e (λ u after_u does e1.
      reads (begun m.Or (branch p body) (branch_of x u (sp.line t) ∷ []) after_u) _ y e1 (λ v after_v others e2.
      reads (timeout p body after_v) _ y e2 (λ w after_w over last.
      let (r, colon, b) = block_after_colon-sound i (u, after_u) does in
      let (bs, is, spelled) = begun-sound m.Or (branch p body) (IsBranch room deep Body m.Or) (branch-sound m.Or) (branch_of x u (sp.line t) ∷ []) after_u (v, after_v) others in
      subst (λ (z : Stmt × List Tok). IsStmt room deep Body z.0 t z.1) (cc) (g.await (g.branch there cond colon b) spelled (timeout-sound after_v (w, after_w) over)))))

  awaiting-sound : (t i : List Tok) (y : Stmt × List Tok) → At m.Await t i → awaiting p body (sp.line t) i ≡ Ok y → IsStmt room deep Body y.0 t y.1
  unfolding awaiting
  awaiting-sound t i y there e =
      reads (expression p i) _ y e (λ u after_u read e1.
      let x = expression_sound i (u, after_u) read in
      elim (after_ok m.Newline (pure (stmt_tree.AwaitOne u (sp.line t))) (alternatives p body u (sp.line t)) after_u y e1) [
        | inl h ↦ made (IsStmt room deep Body) t y h.2 (g.await_one there x h.1)
        | inr h ↦ alternatives-sound u t i after_u y there x h.1
      ])

  stmt_by-sound : (k : Option Mark) (i : List Tok) (y : Stmt × List Tok) → mark i ≡ k → stmt_by p body (sp.line i) k i ≡ Ok y → IsStmt room deep Body y.0 i y.1
  stmt_by-sound (Some m.If) i y is e = conditional-sound i y (At-mark m.If i is) e
  stmt_by-sound (Some m.While) i y is e = while_loop-sound i (rest i) y (At-mark m.While i is) e
  stmt_by-sound (Some m.For) i y is e = for_loop-sound i (rest i) y (At-mark m.For i is) e
  stmt_by-sound (Some m.Await) i y is e = awaiting-sound i (rest i) y (At-mark m.Await i is) e
  stmt_by-sound k i y is e = simple_by-sound p room deep sounds expression_sound Body k i y is e

  pub stmt-sound : IsSound (stmt p body) (IsStmt room deep Body)
  unfolding stmt
  stmt-sound i y e = stmt_by-sound (mark i) i y refl (subst (λ at. stmt_by p body at (mark i) i ≡ Ok y) (same_line i) e)

  pub stmts-sound : IsSound (stmts p body) (Ended (IsStmt room deep Body))
  unfolding stmts
  stmts-sound i y e = ended-sound (stmt p body) (IsStmt room deep Body) stmt-sound i y e

-- the statements of a block where d things are open, by a rule that allows no more than that of the grammar
module _ (limit : Limit) (room : ℕ → Room) (fits : (d : ℕ) (t : List Tok) → limit d (length t) ≡ true → room d t) where
  pub bodies-sound : (f n d : ℕ) → f ≤ n → IsSound (bodies limit f d) (BodyIn room n d)
  unfolding bodies BodyIn
  bodies-sound zero n d few i y e = cc
  bodies-sound (suc f) zero d few i y e = absurd (omega arith)
  bodies-sound (suc f) (suc n) d few i y e =
      let less : f ≤ n = omega arith in
      stmts-sound (place limit f d) (room d) (deeper room n (suc d)) (places-sound limit room fits f n d less) (expression_there-sound limit room fits f n d less)
      (bodies limit f (suc d)) (BodyIn room n (suc d)) (bodies-sound f n (suc d) less) i y e

  -- a block where d things are open, after its colon
  pub block_there-sound : (f n d : ℕ) → f ≤ n → IsSound (block_after_colon (place limit f d) (bodies limit f (suc d))) (AfterColon (IsBlock (room d) (deeper room n (suc d)) (BodyIn room n (suc d))))
  block_there-sound f n d few =
      block_after_colon-sound (place limit f d) (room d) (deeper room n (suc d)) (places-sound limit room fits f n d few) (expression_there-sound limit room fits f n d few)
      (bodies limit f (suc d)) (BodyIn room n (suc d)) (bodies-sound f n (suc d) few)

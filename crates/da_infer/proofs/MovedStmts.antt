-- What some tokens spell before others, as many tokens spell before any others: statements, `main` and the kind of channels.
use Rattle.std.specs.Prelude.{ℕ, zero, suc, ◌≤◌, List, ◌∷◌}
use Rattle.std.proofs.Common.{arith}
use Rattle.da_values.specs.declared.token.Mark.{Mark}
use Rattle.da_values.specs.declared.token.Mark.TheVariants as m
use Rattle.da_values.specs.Marks.{Tok}
use Rattle.da_lang.specs.declared.tree.Expr.{Expr}
use Rattle.da_lang.specs.declared.tree.PatternTree.{PatternTree}
use Rattle.da_lang.specs.declared.tree.Stmt.{Stmt}
use Rattle.da_lang.specs.Grammar as gr
use Rattle.da_lang.specs.Grammar.{IsFrom, IsAt, IsCount, IsMline, IsKind, IsMain}
use Rattle.da_lang.specs.Spelling as g
use Rattle.da_lang.specs.Spelling.{Spelling, Room}
use Rattle.da_lang.specs.ExprGrammar.{Deeper, IsExpr, deeper}
use Rattle.da_lang.specs.StmtGrammar as sg
use Rattle.da_lang.specs.StmtGrammar.{IsBlock, IsBranch, IsElse, IsTimeout, IsStmt, BodyIn}
use Rattle.da_infer.proofs.MovedLists.{Free, here, more, join, moved, Moves, named_moves, separated_moves, closed_moves, after_moves, many_moves, ended_moves}
use Rattle.da_infer.proofs.MovedExprs.{DeepMoves, expr_moves, deep_moves}

module _ (room : Room) (deep other : Deeper) (below : DeepMoves deep other) {Body Others : Spelling (List Stmt)} (body : Moves Body Others) where
  expr_here : Moves (IsExpr room deep) (IsExpr Free other)
  expr_here = expr_moves room deep other below

  pub block_moves : Moves (IsBlock room deep Body) (IsBlock Free other Others)
  block_moves b t r (sg.IsBlock.block (g.At.at e) (g.Opens.opens o (g.At.at f)) h) s =
      let a = body b _ _ h s in
      moved (more (more a.along)) (sg.IsBlock.block (g.At.at e) (g.Opens.opens tt (g.At.at f)) a.spelled)

  pub branch_moves : (word : Mark) → Moves (IsBranch room deep Body word) (IsBranch Free other Others word)
  branch_moves word _ t r (sg.IsBranch.branch {x} {b} (g.At.at e) h (g.At.at {t = c} f) l) s =
      let q = block_moves b _ _ l s in
      let a = expr_here x _ _ h (c ∷ q.now) in
      moved (more (join a.along (more q.along))) (sg.IsBranch.branch (g.At.at e) a.spelled (g.At.at f) q.spelled)

  pub else_moves : Moves (IsElse room deep Body) (IsElse Free other Others)
  else_moves _ t r sg.IsElse.no_else s = moved here sg.IsElse.no_else
  else_moves _ t r (sg.IsElse.otherwise {b} (g.At.at e) (g.At.at f) l) s =
      let q = block_moves b _ _ l s in
      moved (more (more q.along)) (sg.IsElse.otherwise (g.At.at e) (g.At.at f) q.spelled)

  pub timeout_moves : Moves (IsTimeout room deep Body) (IsTimeout Free other Others)
  timeout_moves _ t r sg.IsTimeout.no_timeout s = moved here sg.IsTimeout.no_timeout
  timeout_moves _ t r (sg.IsTimeout.timeout {b} (g.At.at e) (g.At.at f) l) s =
      let q = block_moves b _ _ l s in
      moved (more (more q.along)) (sg.IsTimeout.timeout (g.At.at e) (g.At.at f) q.spelled)

  pub stmt_moves : Moves (IsStmt room deep Body) (IsStmt Free other Others)
  stmt_moves _ t r (sg.IsStmt.assign {x} (g.Named.named e) (g.At.at f) h (g.At.at {t = z} i)) s =
      let a = expr_here x _ _ h (z ∷ s) in
      moved (more (more (join a.along (more here)))) (sg.IsStmt.assign (g.Named.named e) (g.At.at f) a.spelled (g.At.at i))
  stmt_moves _ t r (sg.IsStmt.add {x} (g.Named.named e) (g.At.at f) (g.At.at i) (g.Opens.opens o (g.At.at j)) h (g.At.at {t = z} k) (g.At.at {t = y} l)) s =
      let a = below.expr x _ _ h (z ∷ y ∷ s) in
      moved (more (more (more (more (join a.along (more (more here))))))) (sg.IsStmt.add (g.Named.named e) (g.At.at f) (g.At.at i) (g.Opens.opens tt (g.At.at j)) a.spelled (g.At.at k) (g.At.at l))
  stmt_moves _ t r (sg.IsStmt.remove {x} (g.Named.named e) (g.At.at f) (g.At.at i) (g.Opens.opens o (g.At.at j)) h (g.At.at {t = z} k) (g.At.at {t = y} l)) s =
      let a = below.expr x _ _ h (z ∷ y ∷ s) in
      moved (more (more (more (more (join a.along (more (more here))))))) (sg.IsStmt.remove (g.Named.named e) (g.At.at f) (g.At.at i) (g.Opens.opens tt (g.At.at j)) a.spelled (g.At.at k) (g.At.at l))
  stmt_moves _ t r (sg.IsStmt.send {x} {y} (g.At.at e) h (g.At.at {t = c} f) k (g.At.at {t = z} i)) s =
      let b = expr_here y _ _ k (z ∷ s) in
      let a = expr_here x _ _ h (c ∷ b.now) in
      moved (more (join a.along (more (join b.along (more here))))) (sg.IsStmt.send (g.At.at e) a.spelled (g.At.at f) b.spelled (g.At.at i))
  stmt_moves _ t r (sg.IsStmt.output {x} (g.At.at e) (g.Opens.opens o (g.At.at f)) h (g.At.at {t = z} i) (g.At.at {t = y} j)) s =
      let a = below.expr x _ _ h (z ∷ y ∷ s) in
      moved (more (more (join a.along (more (more here))))) (sg.IsStmt.output (g.At.at e) (g.Opens.opens tt (g.At.at f)) a.spelled (g.At.at i) (g.At.at j))
  stmt_moves _ t r (sg.IsStmt.pass (g.At.at e) (g.At.at f)) s = moved (more (more here)) (sg.IsStmt.pass (g.At.at e) (g.At.at f))
  stmt_moves _ t r (sg.IsStmt.label (g.At.at e) (g.Named.named f) (g.At.at i)) s = moved (more (more (more here))) (sg.IsStmt.label (g.At.at e) (g.Named.named f) (g.At.at i))
  stmt_moves _ t r (sg.IsStmt.call {xs} (g.Named.named e) (g.Opens.opens o (g.At.at f)) l (g.At.at {t = z} i)) s =
      let a = closed_moves below.disj m.CloseParen xs _ _ l (z ∷ s) in
      moved (more (more (join a.along (more here)))) (sg.IsStmt.call (g.Named.named e) (g.Opens.opens tt (g.At.at f)) a.spelled (g.At.at i))
  stmt_moves _ t r (sg.IsStmt.conditional {bs} {o} (sg.IsBranch.branch {x} {b = block} (g.At.at e) h (g.At.at {t = c} f) k) l i) s =
      let d = else_moves o _ _ i s in
      let q = many_moves (branch_moves m.Elif) bs _ _ l d.now in
      let v = block_moves block _ _ k q.now in
      let a = expr_here x _ _ h (c ∷ v.now) in
      moved (join (more (join a.along (more v.along))) (join q.along d.along)) (sg.IsStmt.conditional (sg.IsBranch.branch (g.At.at e) a.spelled (g.At.at f) v.spelled) q.spelled d.spelled)
  stmt_moves _ t r (sg.IsStmt.while {x} {b} (g.At.at e) h (g.At.at {t = c} f) l) s =
      let q = block_moves b _ _ l s in
      let a = expr_here x _ _ h (c ∷ q.now) in
      moved (more (join a.along (more q.along))) (sg.IsStmt.while (g.At.at e) a.spelled (g.At.at f) q.spelled)
  stmt_moves _ t r (sg.IsStmt.for {x} {b} (g.At.at e) (g.Named.named f) (g.At.at i) h (g.At.at {t = c} j) l) s =
      let q = block_moves b _ _ l s in
      let a = expr_here x _ _ h (c ∷ q.now) in
      moved (more (more (more (join a.along (more q.along))))) (sg.IsStmt.for (g.At.at e) (g.Named.named f) (g.At.at i) a.spelled (g.At.at j) q.spelled)
  stmt_moves _ t r (sg.IsStmt.await_one {x} (g.At.at e) h (g.At.at {t = z} i)) s =
      let a = expr_here x _ _ h (z ∷ s) in
      moved (more (join a.along (more here))) (sg.IsStmt.await_one (g.At.at e) a.spelled (g.At.at i))
  stmt_moves _ t r (sg.IsStmt.await {bs} {o} (sg.IsBranch.branch {x} {b = block} (g.At.at e) h (g.At.at {t = c} f) k) l i) s =
      let d = timeout_moves o _ _ i s in
      let q = many_moves (branch_moves m.Or) bs _ _ l d.now in
      let v = block_moves block _ _ k q.now in
      let a = expr_here x _ _ h (c ∷ v.now) in
      moved (join (more (join a.along (more v.along))) (join q.along d.along)) (sg.IsStmt.await (sg.IsBranch.branch (g.At.at e) a.spelled (g.At.at f) v.spelled) q.spelled d.spelled)

pub body_moves : (room : ℕ → Room) (f d size e : ℕ) → f ≤ size → Moves (BodyIn room f d) (BodyIn (λ d. Free) size e)
unfolding BodyIn
body_moves room zero d size e few b t r h s = absurd h
body_moves room (suc f) d zero e few b t r h s = absurd (omega (arith, few))
body_moves room (suc f) d (suc size) e few b t r h s =
    ended_moves (stmt_moves (room d) (deeper room f (suc d)) (deeper (λ d. Free) size (suc e)) (deep_moves room f (suc d) size (suc e) (omega (arith, few))) (body_moves room f (suc d) size (suc e) (omega (arith, few)))) b t r h s

-- ---- parts of members

pub from_moves : {X Y : Spelling PatternTree} → Moves X Y → Moves (IsFrom X) (IsFrom Y)
from_moves each _ t r gr.IsFrom.no_from s = moved here gr.IsFrom.no_from
from_moves each _ t r (gr.IsFrom.from {p} (g.At.at e) h) s = let a = each p _ _ h s in moved (more a.along) (gr.IsFrom.from (g.At.at e) a.spelled)

pub at_moves : Moves IsAt IsAt
at_moves _ t r gr.IsAt.no_at s = moved here gr.IsAt.no_at
at_moves ns t r (gr.IsAt.labels (g.At.at e) l) s = let a = separated_moves named_moves m.Comma ns _ _ l s in moved (more a.along) (gr.IsAt.labels (g.At.at e) a.spelled)

-- ---- main

mline_moves : (room : Room) {deep other : Deeper} → DeepMoves deep other → Moves (IsMline room deep) (IsMline Free other)
mline_moves room below _ t r (gr.IsMline.new (g.Named.named e) (g.At.at f) (g.At.at i) (g.Opens.opens o (g.At.at j)) (g.Named.named k) gr.IsCount.no_count (g.At.at l) (g.At.at n)) s =
    moved (more (more (more (more (more (more (more here))))))) (gr.IsMline.new (g.Named.named e) (g.At.at f) (g.At.at i) (g.Opens.opens tt (g.At.at j)) (g.Named.named k) gr.IsCount.no_count (g.At.at l) (g.At.at n))
mline_moves room below _ t r (gr.IsMline.new (g.Named.named e) (g.At.at f) (g.At.at i) (g.Opens.opens o (g.At.at j)) (g.Named.named k) (gr.IsCount.count (g.At.at p) (g.Number.number q is)) (g.At.at l) (g.At.at n)) s =
    moved (more (more (more (more (more (more (more (more (more here)))))))))
    (gr.IsMline.new (g.Named.named e) (g.At.at f) (g.At.at i) (g.Opens.opens tt (g.At.at j)) (g.Named.named k) (gr.IsCount.count (g.At.at p) (g.Number.number q is)) (g.At.at l) (g.At.at n))
mline_moves room below _ t r (gr.IsMline.setup {xs} (g.At.at e) (g.Opens.opens o (g.At.at f)) (g.Named.named i) l (g.At.at {t = z} j) (g.At.at {t = y} k)) s =
    let a = after_moves below.disj m.Comma xs _ _ l (z ∷ y ∷ s) in
    moved (more (more (more (join a.along (more (more here)))))) (gr.IsMline.setup (g.At.at e) (g.Opens.opens tt (g.At.at f)) (g.Named.named i) a.spelled (g.At.at j) (g.At.at k))

pub main_moves : (room : ℕ → Room) (f size : ℕ) → f ≤ size → Moves (IsMain room f) (IsMain (λ d. Free) size)
main_moves room f size few _ t r (gr.IsMain.main {ls} (g.At.at e) (g.At.at h) (g.Opens.opens o (g.At.at i)) (g.At.at j) (g.At.at k) (g.At.at l) (g.Opens.opens p (g.At.at n)) q) s =
    let a = ended_moves (mline_moves (room 1) (deep_moves room f 2 size 2 few)) ls _ _ q s in
    moved (more (more (more (more (more (more (more a.along))))))) (gr.IsMain.main (g.At.at e) (g.At.at h) (g.Opens.opens tt (g.At.at i)) (g.At.at j) (g.At.at k) (g.At.at l) (g.Opens.opens tt (g.At.at n)) a.spelled)

-- ---- the kind of channels

pub kind_moves : Moves IsKind IsKind
kind_moves _ t r gr.IsKind.no_kind s = moved here gr.IsKind.no_kind
kind_moves _ t r (gr.IsKind.fifo_reliable (g.At.at e) (g.At.at f) (g.At.at i) (g.At.at j)) s = moved (more (more (more (more here)))) (gr.IsKind.fifo_reliable (g.At.at e) (g.At.at f) (g.At.at i) (g.At.at j))
kind_moves _ t r (gr.IsKind.unordered_reliable (g.At.at e) (g.At.at f) (g.At.at i) (g.At.at j)) s = moved (more (more (more (more here)))) (gr.IsKind.unordered_reliable (g.At.at e) (g.At.at f) (g.At.at i) (g.At.at j))
kind_moves _ t r (gr.IsKind.fifo_unreliable (g.At.at e) (g.At.at f) (g.At.at i) (g.At.at j)) s = moved (more (more (more (more here)))) (gr.IsKind.fifo_unreliable (g.At.at e) (g.At.at f) (g.At.at i) (g.At.at j))
kind_moves _ t r (gr.IsKind.unordered_unreliable (g.At.at e) (g.At.at f) (g.At.at i) (g.At.at j)) s = moved (more (more (more (more here)))) (gr.IsKind.unordered_unreliable (g.At.at e) (g.At.at f) (g.At.at i) (g.At.at j))

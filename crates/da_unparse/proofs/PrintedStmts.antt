-- What is printed of a statement that some tokens spell are lines that may follow each other.
use Rattle.std.proofs.Common.{◌≡◌, ℕ, zero, suc, false, List, ◌∷◌, map, refl, sym, subst, Some}
use Rattle.std.specs.Option.{option_map}
use Rattle.da_values.specs.declared.token.Mark.{Mark}
use Rattle.da_values.specs.declared.token.Mark.TheVariants as m
use Rattle.da_lang.specs.declared.tree.Branch.{Branch}
use Rattle.da_lang.specs.declared.tree.Expr.{Expr}
use Rattle.da_lang.specs.declared.tree.Stmt.{Stmt}
use Rattle.da_lang.specs.Spelling.{Spelling, Room, Many, Ended}
use Rattle.da_lang.specs.ExprGrammar.{Deeper, deeper}
use Rattle.da_lang.specs.StmtGrammar.{IsBlock, IsBranch, IsElse, IsTimeout, IsStmt, BodyIn}
use Rattle.da_unparse.specs.Expressions.{either, all_at_least, shown}
use Rattle.da_unparse.specs.Printable.{Makes, opens, closes}
use Rattle.da_unparse.specs.Statements.{otherwise, timeout, change, stmt_lines, guarded_of, timeout_of}
use Rattle.da_unparse.proofs.PrintedParts.{solid, loose, some, part, join, next, as_solid, between_part, before_part}
use Rattle.da_unparse.proofs.PrintedSteps.{Shows, past, past_open, name_shows, EachHas, closed_shows, parens, listed_parens}
use Rattle.da_unparse.proofs.PrintedOperators.{ExprPart, name_part, each_at_least}
use Rattle.da_unparse.proofs.PrintedExprs.{DeepShows, deeper_shows, expr_shows}
use Rattle.da_unparse.proofs.PrintedLines.{BlockStarts, BlockGoes, line_starts, none_go, then_go, same_block, map_each, headed_starts, IsGuarded, guarded_all, otherwise_goes, timeout_goes}
use Rattle.da_unparse.proofs.PrintedWords.{makes-Dot, makes-Add, makes-Del, makes-Assign, makes-Send, makes-To, makes-Output, makes-Pass, makes-Dashes, makes-If, makes-Elif, makes-While, makes-For, makes-In, makes-Await, makes-Or}
use Rattle.da_unparse.proofs.ShownAt.{stmt-Assign, stmt-Add, stmt-Del, stmt-Send, stmt-Output, stmt-Pass, stmt-Label, stmt-Call, stmt-If, stmt-While, stmt-For, stmt-AwaitOne, stmt-Await, guarded_at, timeout_at}

abbrev pub StmtStarts : Stmt → Type 0
StmtStarts s = BlockStarts (stmt_lines s)

abbrev pub BranchGuarded : Branch → Type 0
BranchGuarded b = IsGuarded (guarded_of b)

-- the statements of a body
pub body_blocks : (b : List Stmt) → EachHas StmtStarts b → EachHas BlockStarts (map stmt_lines b)
body_blocks b each = map_each StmtStarts BlockStarts stmt_lines (λ s h. h) b each

-- ---- lists

module _ {A : Type 0} (Item : Spelling A) (P : A → Type 0) (shows : Shows Item P) where
  pub many_show : Shows (Many Item) (EachHas P)
  many_show _ i r Many.none s = (tt, s)
  many_show _ i r (Many.one a l) s =
      let (x, t) = shows _ _ _ a s in
      let (more, u) = many_show _ _ _ l t in
      ((x, more), u)

  pub ended_show : Shows (Ended Item) (EachHas P)
  ended_show _ i r (Ended.ends a h) s = let (x, t) = shows _ _ _ a s in ((x, tt), past h t)
  ended_show _ i r (Ended.goes_on a l) s =
      let (x, t) = shows _ _ _ a s in
      let (more, u) = ended_show _ _ _ l t in
      ((x, more), u)

-- ---- lines

-- `NAME.WORD(EXPR)`
change_starts : {k : Mark} {b : List ℕ} (n : List ℕ) (x : Expr) → Makes m.Name n → Makes k b → opens k ≡ false → closes k ≡ false → ExprPart x → BlockStarts (change n k b x)
change_starts n x named makes o c l level =
    line_starts level (next (join (name_part solid named refl) (part loose loose makes-Dot refl refl refl refl)) (join (part solid solid makes refl refl o c) (parens loose refl (some (as_solid l)))))

module _ (room : Room) (deep : Deeper) (Body : Spelling (List Stmt)) (d : DeepShows deep) (body : Shows Body (EachHas StmtStarts)) where
  pub block_shows : Shows (IsBlock room deep Body) (EachHas StmtStarts)
  block_shows _ i r (IsBlock.block h o a) s = body _ _ _ a (past_open o (past h s))

  branch_shows : (k : Mark) → Shows (IsBranch room deep Body k) BranchGuarded
  branch_shows k _ i r (IsBranch.branch {x} {b} h a c e) s =
      let (l, t) = expr_shows room deep d _ _ _ a (past h s) in
      let (each, u) = block_shows _ _ _ e (past c t) in
      (subst IsGuarded (sym (guarded_at x b _)) (as_solid l, body_blocks b each), u)

  branches_show : (k : Mark) → Shows (Many (IsBranch room deep Body k)) (λ bs. EachHas IsGuarded (map guarded_of bs))
  branches_show k bs i r l s =
      let (each, t) = many_show (IsBranch room deep Body k) BranchGuarded (branch_shows k) bs i r l s in
      (map_each BranchGuarded IsGuarded guarded_of (λ b h. h) bs each, t)

  else_shows : Shows (IsElse room deep Body) (λ o. BlockGoes (otherwise (option_map (map stmt_lines) o)))
  else_shows _ i r IsElse.no_else s = (none_go, s)
  else_shows _ i r (IsElse.otherwise {b} h c a) s =
      let (each, t) = block_shows _ _ _ a (past c (past h s)) in
      (otherwise_goes (map stmt_lines b) (body_blocks b each), t)

  timeout_shows : Shows (IsTimeout room deep Body) (λ o. BlockGoes (timeout (option_map timeout_of o)))
  timeout_shows _ i r IsTimeout.no_timeout s = (none_go, s)
  timeout_shows _ i r (IsTimeout.timeout {b} h c a) s =
      let (each, t) = block_shows _ _ _ a (past c (past h s)) in
      (subst (λ stmts. BlockGoes (timeout (Some stmts))) (sym (timeout_at b _)) (timeout_goes (map stmt_lines b) (body_blocks b each)), t)

  pub stmt_shows : Shows (IsStmt room deep Body) StmtStarts
  stmt_shows _ i r (IsStmt.assign {b} {x} h e a n) s =
      let (named, t) = name_shows _ _ _ h s in
      let (l, u) = expr_shows room deep d _ _ _ a (past e t) in
      (same_block (stmt-Assign b x _) (λ level. line_starts level (next (join (name_part solid named refl) (between_part makes-Assign refl refl)) (as_solid l))), past n u)
  stmt_shows _ i r (IsStmt.add {n} {x} h dot k o a c e) s =
      let (named, t) = name_shows _ _ _ h s in
      let (l, u) = d.expr _ _ _ a (past_open o (past k (past dot t))) in
      (same_block (stmt-Add n x _) (change_starts n x named makes-Add refl refl l), past e (past c u))
  stmt_shows _ i r (IsStmt.remove {n} {x} h dot k o a c e) s =
      let (named, t) = name_shows _ _ _ h s in
      let (l, u) = d.expr _ _ _ a (past_open o (past k (past dot t))) in
      (same_block (stmt-Del n x _) (change_starts n x named makes-Del refl refl l), past e (past c u))
  stmt_shows _ i r (IsStmt.send {x} {y} h a to b e) s =
      let (l, t) = expr_shows room deep d _ _ _ a (past h s) in
      let (k, u) = expr_shows room deep d _ _ _ b (past to t) in
      (same_block (stmt-Send x y _) (λ level. line_starts level (next (join (next (as_solid (before_part makes-Send refl refl refl)) (as_solid l)) (between_part makes-To refl refl)) (as_solid k))), past e u)
  stmt_shows _ i r (IsStmt.output {x} h o a c e) s =
      let (l, t) = d.expr _ _ _ a (past_open o (past h s)) in
      (same_block (stmt-Output x _) (λ level. line_starts level (join (part solid solid makes-Output refl refl refl refl) (parens loose refl (some (as_solid l))))), past e (past c t))
  stmt_shows _ i r (IsStmt.pass h e) s = (same_block (stmt-Pass _) (λ level. line_starts level (part solid solid makes-Pass refl refl refl refl)), past e (past h s))
  stmt_shows _ i r (IsStmt.label {n} h a e) s =
      let (named, t) = name_shows _ _ _ a (past h s) in
      (same_block (stmt-Label n _) (λ level. line_starts level (next (as_solid (before_part makes-Dashes refl refl refl)) (name_part solid named refl))), past e t)
  stmt_shows _ i r (IsStmt.call {n} {xs} h o l e) s =
      let (named, t) = name_shows _ _ _ h s in
      let (each, u) = closed_shows deep.disj ExprPart d.disj m.CloseParen xs _ _ l (past_open o t) in
      (same_block (stmt-Call n xs _) (λ level. line_starts level (join (name_part solid named refl) (listed_parens loose refl (all_at_least either (map shown xs)) (each_at_least either xs each)))), past e u)
  stmt_shows _ i r (IsStmt.conditional {b} {bs} {o} a l e) s =
      let (first, t) = branch_shows m.If _ _ _ a s in
      let (others, u) = branches_show m.Elif bs _ _ l t in
      let (last, v) = else_shows o _ _ e u in
      (same_block (stmt-If (b ∷ bs) o _) (λ level. then_go level (guarded_all makes-If refl refl refl makes-Elif refl refl refl (guarded_of b) (map guarded_of bs) first others level) (last level)), v)
  stmt_shows _ i r (IsStmt.while {x} {b} h a c e) s =
      let (l, t) = expr_shows room deep d _ _ _ a (past h s) in
      let (each, u) = block_shows _ _ _ e (past c t) in
      (same_block (stmt-While x b _) (headed_starts (next (as_solid (before_part makes-While refl refl refl)) (as_solid l)) (map stmt_lines b) (body_blocks b each)), u)
  stmt_shows _ i r (IsStmt.for {n} {x} {b} h v k a c e) s =
      let (named, t) = name_shows _ _ _ v (past h s) in
      let (l, u) = expr_shows room deep d _ _ _ a (past k t) in
      let (each, w) = block_shows _ _ _ e (past c u) in
      (same_block (stmt-For n x b _) (headed_starts (next (join (next (as_solid (before_part makes-For refl refl refl)) (name_part solid named refl)) (between_part makes-In refl refl)) (as_solid l)) (map stmt_lines b) (body_blocks b each)), w)
  stmt_shows _ i r (IsStmt.await_one {x} h a e) s =
      let (l, t) = expr_shows room deep d _ _ _ a (past h s) in
      (same_block (stmt-AwaitOne x _) (λ level. line_starts level (next (as_solid (before_part makes-Await refl refl refl)) (as_solid l))), past e t)
  stmt_shows _ i r (IsStmt.await {b} {bs} {o} a l e) s =
      let (first, t) = branch_shows m.Await _ _ _ a s in
      let (others, u) = branches_show m.Or bs _ _ l t in
      let (last, v) = timeout_shows o _ _ e u in
      (same_block (stmt-Await (b ∷ bs) o _) (λ level. then_go level (guarded_all makes-Await refl refl refl makes-Or refl refl refl (guarded_of b) (map guarded_of bs) first others level) (last level)), v)

-- ---- any number of things that are open

pub body_shows : (room : ℕ → Room) (f d : ℕ) → Shows (BodyIn room f d) (EachHas StmtStarts)
unfolding BodyIn
body_shows room zero d b i r h s = absurd h
body_shows room (suc f) d b i r h s =
    ended_show (IsStmt (room d) (deeper room f (suc d)) (BodyIn room f (suc d))) StmtStarts
    (stmt_shows (room d) (deeper room f (suc d)) (BodyIn room f (suc d)) (deeper_shows room f (suc d)) (body_shows room f (suc d))) b i r h s

-- Each tag in a statement, each part after it and each name that is changed takes two tokens, and these names are tokens.
use Rattle.std.specs.Prelude.{◌≡◌, refl, ℕ, zero, suc, ◌+◌, ◌*◌, ◌≤◌, List, [], ◌∷◌, ◌++◌, length, flat_map, Option, Some, None}
use Rattle.std.specs.List.{All, AllByRecursion}
use Rattle.std.proofs.Common.{◌∙◌, ap, sym, subst, arith}
use Rattle.std.proofs.lemmas.List.{length-append}
use Rattle.std.proofs.lemmas.List.Elements.{All-tail}
use Rattle.da_values.specs.declared.token.Mark.{Mark}
use Rattle.da_values.specs.declared.token.Mark.TheVariants as m
use Rattle.da_values.specs.Marks.{Tok}
use Rattle.da_lang.specs.declared.tree.Branch.{Branch, roll-Branch}
use Rattle.da_lang.specs.declared.tree.Expr.{Expr}
use Rattle.da_lang.specs.declared.tree.Stmt.{Stmt}
use Rattle.da_lang.specs.declared.tree.Stmt.TheOpen.{Branch-F, TimeoutTree-F}
use Rattle.da_lang.specs.declared.tree.Stmt.TheVariants as stmt
use Rattle.da_lang.specs.declared.tree.Stmt.TheViews.{out-roll-Branch, out-roll-TimeoutTree}
use Rattle.da_lang.specs.declared.tree.TimeoutTree.{TimeoutTree, roll-TimeoutTree}
use Rattle.da_lang.specs.Spelling as g
use Rattle.da_lang.specs.Spelling.{Spelling, Room, IsSpelled, At, Opens, Named, Many, Ended}
use Rattle.da_lang.specs.ExprGrammar.{Deeper, IsExpr, deeper}
use Rattle.da_lang.specs.StmtGrammar as sg
use Rattle.da_lang.specs.StmtGrammar.{IsBlock, IsBranch, IsElse, IsTimeout, IsStmt, BodyIn}
use Rattle.added_names.specs.declared.added.AddedVariable.{AddedVariable}
use Rattle.added_names.specs.Changes.{Changes, change, stmt_changes, branch_changes, else_changes, late_changes}
use Rattle.added_names.specs.StmtTags.{send_tags, stmt_tags, branch_tags, else_tags, late_tags}
use Rattle.added_names.specs.Tags.{Tags, tags_in, sent_tag}
use Rattle.added_names.proofs.ChangesAt as change_at
use Rattle.added_names.proofs.StmtTagsAt as stmt_at
use Rattle.da_infer.proofs.AddedLines.{parts_in_lines}
use Rattle.da_infer.proofs.KnownLaws.{all_both}
use Rattle.da_infer.proofs.MovedLists.{Free, Moves, many_moves}
use Rattle.da_infer.proofs.MovedExprs.{DeepMoves, deep_moves, expr_moves}
use Rattle.da_infer.proofs.MovedStmts.{block_moves, branch_moves, else_moves, stmt_moves, body_moves}
use Rattle.da_infer.proofs.SpelledWords.{IsWord, AreWords, word_of}
use Rattle.da_infer.proofs.TagNames.{branch_parts, timeout_parts}
use Rattle.da_infer.proofs.TakenExprs.{none, both, three, each_of, lines_append, at_one, opens_one, named_one, Takes, DeepTakes, full, disj_list, expr_takes, deep_takes}

-- ---- what is left of tokens

pub after_at : {k : Mark} {t r : List Tok} → At k t r → All IsSpelled t → All IsSpelled r
after_at (g.At.at {t = a} {r = q} e) all = All-tail IsSpelled a q all

pub after_opens : {k : Mark} {room : Room} {t r : List Tok} → Opens k room t r → All IsSpelled t → All IsSpelled r
after_opens (g.Opens.opens o h) all = after_at h all

pub after_named : {b : List ℕ} {t r : List Tok} → Named b t r → All IsSpelled t → All IsSpelled r
after_named (g.Named.named {t = a} {r = q} e) all = All-tail IsSpelled a q all

abbrev pub Passes : {A : Type 0} → Spelling A → Type 0
Passes {A} X = (x : A) (t r : List Tok) → X x t r → All IsSpelled t → All IsSpelled r

pub passes : {A : Type 0} {X Y : Spelling A} → Moves X Y → Passes X
passes moves x t r h all = (moves x t r h []).along.rest all

-- ---- two tokens for each line, part and name, and some more; and the names are tokens

pub record Held (more lines : ℕ) (names : Changes) (t r : List Tok) : Type 0 where
  pub few : 2 * (lines + length names) + more + length r ≤ length t
  pub words : All IsSpelled t → AreWords names

abbrev pub Holds : {A : Type 0} → ℕ → (A → Tags) → (A → Changes) → Spelling A → Type 0
Holds {A} more tags names X = (x : A) (t r : List Tok) → X x t r → Held more (parts_in_lines (tags x)) (names x) t r

-- by the names that are listed
pub held : (more : ℕ) (ts : Tags) (vs ws : Changes) (t r : List Tok) → ws ≡ vs → 2 * (parts_in_lines ts + length vs) + more + length r ≤ length t → (All IsSpelled t → AreWords vs) → Held more (parts_in_lines ts) ws t r
held more ts vs ws t r same few words = subst (λ z. Held more (parts_in_lines ts) z t r) (sym same) (record { few = few; words = words })

pub both_words : (vs ws : Changes) → AreWords vs → AreWords ws → AreWords (vs ++ ws)
both_words vs ws p q = all_both (λ (v : AddedVariable). IsWord v.name) vs ws p q

module _ {A : Type 0} (tags : A → Tags) (names : A → Changes) (X : Spelling A) (next : Passes X) (each : Holds 1 tags names X) where
  pub many_holds : Holds 0 (flat_map tags) (flat_map names) (Many X)
  many_holds _ t r g.Many.none = record { few = omega arith; words = λ all. tt }
  many_holds _ t r (g.Many.one {x} {xs} h l) =
      let p = each x _ _ h in
      let q = many_holds xs _ _ l in
      record {
        few = omega (arith, p.few, q.few, lines_append (tags x) (flat_map tags xs), length-append (names x) (flat_map names xs));
        words = λ all. both_words (names x) (flat_map names xs) (p.words all) (q.words (next x _ _ h all));
      }

  pub ended_holds : Holds 1 (flat_map tags) (flat_map names) (Ended X)
  ended_holds _ t r (g.Ended.ends {x} h a) =
      let p = each x _ _ h in
      record {
        few = omega (arith, p.few, at_one a, lines_append (tags x) [], length-append (names x) []);
        words = λ all. both_words (names x) [] (p.words all) tt;
      }
  ended_holds _ t r (g.Ended.goes_on {x} {xs} h l) =
      let p = each x _ _ h in
      let q = ended_holds xs _ _ l in
      record {
        few = omega (arith, p.few, q.few, lines_append (tags x) (flat_map tags xs), length-append (names x) (flat_map names xs));
        words = λ all. both_words (names x) (flat_map names xs) (p.words all) (q.words (next x _ _ h all));
      }

-- ---- single changes

change_one : (b : List ℕ) (line : ℕ) → length (change b line) ≡ 1
unfolding change
change_one b line = refl

change_word : (b : List ℕ) (line : ℕ) → IsWord b → AreWords (change b line)
unfolding change
change_word b line word = (word, tt)

send_size : (line : ℕ) (x to : Expr) → parts_in_lines (send_tags line x to) ≡ parts_in_lines (sent_tag line x) + parts_in_lines (tags_in line x) + parts_in_lines (tags_in line to)
unfolding send_tags
send_size line x to = three (send_tags line x to) (sent_tag line x) (tags_in line x) (tags_in line to) refl

branch_names : (x : Expr) (body : List Stmt) (line : ℕ) → branch_changes (roll-Branch (record { cond = x; body = body; line = line })) ≡ flat_map stmt_changes body
branch_names x body line =
    change_at.branch_of (roll-Branch (record { cond = x; body = body; line = line }))
    ∙ ap (λ (v : Branch-F Stmt Branch TimeoutTree). flat_map stmt_changes v.body) (out-roll-Branch (record { cond = x; body = body; line = line }))

timeout_names : (body : List Stmt) (line : ℕ) → late_changes (Some (roll-TimeoutTree (record { body = body; line = line }))) ≡ flat_map stmt_changes body
timeout_names body line =
    change_at.late_of (roll-TimeoutTree (record { body = body; line = line }))
    ∙ ap (λ (v : TimeoutTree-F Stmt Branch TimeoutTree). flat_map stmt_changes v.body) (out-roll-TimeoutTree (record { body = body; line = line }))

-- ---- statements

abbrev pub HoldsBody : Spelling (List Stmt) → Type 0
HoldsBody = Holds 1 (flat_map stmt_tags) (flat_map stmt_changes)

module _ (room : Room) (deep other : Deeper) (moves : DeepMoves deep other) (below : (line : ℕ) → DeepTakes line deep) (Body Others : Spelling (List Stmt)) (to_others : Moves Body Others) (body : HoldsBody Body) where
  exprs : (line : ℕ) → Takes (full line) (IsExpr room deep)
  exprs line = expr_takes line room deep (below line)

  next_expr : Passes (IsExpr room deep)
  next_expr = passes (expr_moves room deep other moves)

  next_branch : (word : Mark) → Passes (IsBranch room deep Body word)
  next_branch word = passes (branch_moves room deep other moves to_others word)

  pub block_holds : HoldsBody (IsBlock room deep Body)
  block_holds b t r (sg.IsBlock.block a o h) =
      let p = body b _ _ h in
      record { few = omega (arith, at_one a, opens_one o, p.few); words = λ all. p.words (after_opens o (after_at a all)) }

  branch_holds : (word : Mark) → Holds 1 branch_tags branch_changes (IsBranch room deep Body word)
  branch_holds word _ t r (sg.IsBranch.branch {x} {b} {t = u} a h c l) =
      let p = block_holds b _ _ l in
      let whole = roll-Branch (record { cond = x; body = b; line = g.line u }) in
      held 1 (branch_tags whole) (flat_map stmt_changes b) (branch_changes whole) _ _ (branch_names x b (g.line u))
      (omega (arith, at_one a, exprs (g.line u) x _ _ h, at_one c, p.few, both (branch_tags whole) (tags_in (g.line u) x) (flat_map stmt_tags b) (branch_parts x b (g.line u))))
      (λ all. p.words (after_at c (next_expr x _ _ h (after_at a all))))

  branches_hold : (word : Mark) → Holds 0 (flat_map branch_tags) (flat_map branch_changes) (Many (IsBranch room deep Body word))
  branches_hold word = many_holds branch_tags branch_changes (IsBranch room deep Body word) (next_branch word) (branch_holds word)

  next_branches : (word : Mark) → Passes (Many (IsBranch room deep Body word))
  next_branches word = passes (many_moves (branch_moves room deep other moves to_others word))

  else_holds : Holds 0 else_tags else_changes (IsElse room deep Body)
  else_holds _ t r sg.IsElse.no_else = held 0 (else_tags None) [] (else_changes None) _ _ change_at.else-None (omega (arith, none stmt_at.else-None)) (λ all. tt)
  else_holds _ t r (sg.IsElse.otherwise {b} a c l) =
      let p = block_holds b _ _ l in
      held 0 (else_tags (Some b)) (flat_map stmt_changes b) (else_changes (Some b)) _ _ (change_at.else-Some b) (omega (arith, at_one a, at_one c, p.few, ap parts_in_lines (stmt_at.else-Some b))) (λ all. p.words (after_at c (after_at a all)))

  timeout_holds : Holds 0 late_tags late_changes (IsTimeout room deep Body)
  timeout_holds _ t r sg.IsTimeout.no_timeout = held 0 (late_tags None) [] (late_changes None) _ _ change_at.late-None (omega (arith, none stmt_at.late-None)) (λ all. tt)
  timeout_holds _ t r (sg.IsTimeout.timeout {b} {t = u} a c l) =
      let p = block_holds b _ _ l in
      let whole = Some (roll-TimeoutTree (record { body = b; line = g.line u })) in
      held 0 (late_tags whole) (flat_map stmt_changes b) (late_changes whole) _ _ (timeout_names b (g.line u)) (omega (arith, at_one a, at_one c, p.few, ap parts_in_lines (timeout_parts b (g.line u)))) (λ all. p.words (after_at c (after_at a all)))

  stmt_holds : Holds 1 stmt_tags stmt_changes (IsStmt room deep Body)
  stmt_holds _ t r (sg.IsStmt.assign {b} {x} {t = u} n a h z) =
      let line = g.line u in
      held 1 (stmt_tags (stmt.Assign b x line)) (change b line) (stmt_changes (stmt.Assign b x line)) _ _ (change_at.at-Assign b x line)
      (omega (arith, named_one n, at_one a, exprs line x _ _ h, at_one z, ap parts_in_lines (stmt_at.at-Assign b x line), change_one b line)) (λ all. change_word b line (word_of b _ _ n all))
  stmt_holds _ t r (sg.IsStmt.add {n = b} {x} {t = u} n a d o h c z) =
      let line = g.line u in
      held 1 (stmt_tags (stmt.Add b x line)) (change b line) (stmt_changes (stmt.Add b x line)) _ _ (change_at.at-Add b x line)
      (omega (arith, named_one n, at_one a, at_one d, opens_one o, (below line).expr x _ _ h, at_one c, at_one z, ap parts_in_lines (stmt_at.at-Add b x line), change_one b line)) (λ all. change_word b line (word_of b _ _ n all))
  stmt_holds _ t r (sg.IsStmt.remove {n = b} {x} {t = u} n a d o h c z) =
      let line = g.line u in
      held 1 (stmt_tags (stmt.Del b x line)) (change b line) (stmt_changes (stmt.Del b x line)) _ _ (change_at.at-Del b x line)
      (omega (arith, named_one n, at_one a, at_one d, opens_one o, (below line).expr x _ _ h, at_one c, at_one z, ap parts_in_lines (stmt_at.at-Del b x line), change_one b line)) (λ all. change_word b line (word_of b _ _ n all))
  stmt_holds _ t r (sg.IsStmt.send {x} {y} {t = u} a h c k z) =
      let line = g.line u in
      held 1 (stmt_tags (stmt.Send x y line)) [] (stmt_changes (stmt.Send x y line)) _ _ (change_at.at-Send x y line)
      (omega (arith, at_one a, exprs line x _ _ h, at_one c, exprs line y _ _ k, at_one z, ap parts_in_lines (stmt_at.at-Send x y line), send_size line x y)) (λ all. tt)
  stmt_holds _ t r (sg.IsStmt.output {x} {t = u} a o h c z) =
      let line = g.line u in
      held 1 (stmt_tags (stmt.Output x line)) [] (stmt_changes (stmt.Output x line)) _ _ (change_at.at-Output x line)
      (omega (arith, at_one a, opens_one o, (below line).expr x _ _ h, at_one c, at_one z, ap parts_in_lines (stmt_at.at-Output x line))) (λ all. tt)
  stmt_holds _ t r (sg.IsStmt.pass {t = u} a z) =
      let line = g.line u in
      held 1 (stmt_tags (stmt.Pass line)) [] (stmt_changes (stmt.Pass line)) _ _ (change_at.at-Pass line) (omega (arith, at_one a, at_one z, none (stmt_at.at-Pass line))) (λ all. tt)
  stmt_holds _ t r (sg.IsStmt.label {n = b} {t = u} a n z) =
      let line = g.line u in
      held 1 (stmt_tags (stmt.Label b line)) [] (stmt_changes (stmt.Label b line)) _ _ (change_at.at-Label b line) (omega (arith, at_one a, named_one n, at_one z, none (stmt_at.at-Label b line))) (λ all. tt)
  stmt_holds _ t r (sg.IsStmt.call {n = b} {xs} {t = u} n o l z) =
      let line = g.line u in
      held 1 (stmt_tags (stmt.Call b xs line)) [] (stmt_changes (stmt.Call b xs line)) _ _ (change_at.at-Call b xs line)
      (omega (arith, named_one n, opens_one o, disj_list line room deep (below line) m.CloseParen xs _ _ l, at_one z, each_of (tags_in line) xs (stmt_tags (stmt.Call b xs line)) (stmt_at.at-Call b xs line))) (λ all. tt)
  stmt_holds _ t r (sg.IsStmt.conditional {b} {bs} {o} {t = u} h l i) =
      let line = g.line u in
      let p = branch_holds m.If b _ _ h in
      let q = branches_hold m.Elif bs _ _ l in
      let d = else_holds o _ _ i in
      held 1 (stmt_tags (stmt.If (b ∷ bs) o line)) (branch_changes b ++ flat_map branch_changes bs ++ else_changes o) (stmt_changes (stmt.If (b ∷ bs) o line)) _ _ (change_at.at-If (b ∷ bs) o line)
      (omega (
        arith,
        p.few,
        q.few,
        d.few,
        three (stmt_tags (stmt.If (b ∷ bs) o line)) (branch_tags b) (flat_map branch_tags bs) (else_tags o) (stmt_at.at-If (b ∷ bs) o line),
        length-append (branch_changes b ++ flat_map branch_changes bs) (else_changes o),
        length-append (branch_changes b) (flat_map branch_changes bs),
      ))
      (λ all.
      let first = next_branch m.If b _ _ h all in
      both_words (branch_changes b ++ flat_map branch_changes bs) (else_changes o) (both_words (branch_changes b) (flat_map branch_changes bs) (p.words all) (q.words first)) (d.words (next_branches m.Elif bs _ _ l first)))
  stmt_holds _ t r (sg.IsStmt.while {x} {b} {t = u} a h c l) =
      let line = g.line u in
      let p = block_holds b _ _ l in
      held 1 (stmt_tags (stmt.While x b line)) (flat_map stmt_changes b) (stmt_changes (stmt.While x b line)) _ _ (change_at.at-While x b line)
      (omega (arith, at_one a, exprs line x _ _ h, at_one c, p.few, both (stmt_tags (stmt.While x b line)) (tags_in line x) (flat_map stmt_tags b) (stmt_at.at-While x b line)))
      (λ all. p.words (after_at c (next_expr x _ _ h (after_at a all))))
  stmt_holds _ t r (sg.IsStmt.for {n = w} {x} {b} {t = u} a n i h c l) =
      let line = g.line u in
      let p = block_holds b _ _ l in
      held 1 (stmt_tags (stmt.For w x b line)) (flat_map stmt_changes b) (stmt_changes (stmt.For w x b line)) _ _ (change_at.at-For w x b line)
      (omega (arith, at_one a, named_one n, at_one i, exprs line x _ _ h, at_one c, p.few, both (stmt_tags (stmt.For w x b line)) (tags_in line x) (flat_map stmt_tags b) (stmt_at.at-For w x b line)))
      (λ all. p.words (after_at c (next_expr x _ _ h (after_at i (after_named n (after_at a all))))))
  stmt_holds _ t r (sg.IsStmt.await_one {x} {t = u} a h z) =
      let line = g.line u in
      held 1 (stmt_tags (stmt.AwaitOne x line)) [] (stmt_changes (stmt.AwaitOne x line)) _ _ (change_at.at-AwaitOne x line)
      (omega (arith, at_one a, exprs line x _ _ h, at_one z, ap parts_in_lines (stmt_at.at-AwaitOne x line))) (λ all. tt)
  stmt_holds _ t r (sg.IsStmt.await {b} {bs} {o} {t = u} h l i) =
      let line = g.line u in
      let p = branch_holds m.Await b _ _ h in
      let q = branches_hold m.Or bs _ _ l in
      let d = timeout_holds o _ _ i in
      held 1 (stmt_tags (stmt.Await (b ∷ bs) o line)) (branch_changes b ++ flat_map branch_changes bs ++ late_changes o) (stmt_changes (stmt.Await (b ∷ bs) o line)) _ _ (change_at.at-Await (b ∷ bs) o line)
      (omega (
        arith,
        p.few,
        q.few,
        d.few,
        three (stmt_tags (stmt.Await (b ∷ bs) o line)) (branch_tags b) (flat_map branch_tags bs) (late_tags o) (stmt_at.at-Await (b ∷ bs) o line),
        length-append (branch_changes b ++ flat_map branch_changes bs) (late_changes o),
        length-append (branch_changes b) (flat_map branch_changes bs),
      ))
      (λ all.
      let first = next_branch m.Await b _ _ h all in
      both_words (branch_changes b ++ flat_map branch_changes bs) (late_changes o) (both_words (branch_changes b) (flat_map branch_changes bs) (p.words all) (q.words first)) (d.words (next_branches m.Or bs _ _ l first)))

  pub stmts_hold : HoldsBody (Ended (IsStmt room deep Body))
  stmts_hold = ended_holds stmt_tags stmt_changes (IsStmt room deep Body) (passes (stmt_moves room deep other moves to_others)) stmt_holds

pub bodies_hold : (room : ℕ → Room) (f d : ℕ) → HoldsBody (BodyIn room f d)
unfolding BodyIn
bodies_hold room zero d b t r h = absurd h
bodies_hold room (suc f) d b t r h =
    stmts_hold (room d) (deeper room f (suc d)) (deeper (λ d. Free) f (suc d)) (deep_moves room f (suc d) f (suc d) (omega arith)) (λ line. deep_takes line room f (suc d))
    (BodyIn room f (suc d)) (BodyIn (λ d. Free) f (suc d)) (body_moves room f (suc d) f (suc d) (omega arith)) (bodies_hold room f (suc d)) b t r h

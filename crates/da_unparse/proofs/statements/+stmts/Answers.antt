use Rattle.std.proofs.Common.{◌++◌, ◌∙◌, ap, sym, codes, append-nil}
use Rattle.da_unparse.specs.Texts.{stmt_text, branches_text, otherwise_text}
use Rattle.da_unparse.proofs.StmtTexts.{stmt_text-If}
use Rattle.da_unparse.proofs.statements.+stmts.Goals as goal

pub put_stmt-returns-in-None : goal.put_stmt-returns-in-None
unfolding otherwise_text
put_stmt-returns-in-None t c =
    let before = c.args.out.now in
    let level = c.args.level in
    let q = c.in-If in
    let branches = branches_text (codes "if ") (codes "elif ") level q.branches in
    c.in_ok-put_branches-in-If.ensures ∙ ap (λ bs. before ++ branches_text (codes "if ") (codes "elif ") level bs) c.as_slice-in-If.ensures
    ∙ ap (λ u. before ++ u)
    (sym (ap (stmt_text level) q.is ∙ stmt_text-If level q.branches q.otherwise q.line ∙ ap (λ o. branches ++ otherwise_text level o) c.in-None.is ∙ append-nil branches))

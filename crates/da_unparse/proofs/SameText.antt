-- Trees that differ in the numbers of lines alone are printed as the same text: no line's number is printed. First statements with
-- their blocks, then members, classes, messages, the lines of main, and trees.
use Rattle.std.proofs.Common.{◌≡◌, ℕ, ◌+◌, List, [], ◌∷◌, ◌++◌, map, Option, Some, None, refl, sym, ap, ◌∙◌, subst}
use Rattle.std.specs.List.{flat_map}
use Rattle.std.specs.Option.{option_map}
use Rattle.std.specs.Prelude.{codes}
use Rattle.da_values.specs.declared.token.Mark.TheVariants as m
use Rattle.da_lang.specs.declared.tree.Branch.{Branch, roll-Branch}
use Rattle.da_lang.specs.declared.tree.ClassTree.{ClassTree}
use Rattle.da_lang.specs.declared.tree.Expr.{Expr}
use Rattle.da_lang.specs.declared.tree.MainLine.{MainLine}
use Rattle.da_lang.specs.declared.tree.MainLine.TheVariants as main_line
use Rattle.da_lang.specs.declared.tree.Member.{Member}
use Rattle.da_lang.specs.declared.tree.Member.TheVariants as member
use Rattle.da_lang.specs.declared.tree.Stmt.{Stmt, roll-Stmt}
use Rattle.da_lang.specs.declared.tree.Stmt.TheVariants as stmt
use Rattle.da_lang.specs.declared.tree.Stmt.TheOpen.{Stmt-F, Branch-F, TimeoutTree-F}
use Rattle.da_lang.specs.declared.tree.Stmt.TheFolds.{ind-Stmt, map-Stmt, map-Branch, map-TimeoutTree}
use Rattle.da_lang.specs.declared.tree.TimeoutTree.{TimeoutTree, roll-TimeoutTree}
use Rattle.da_lang.specs.declared.tree.Tree.{Tree}
use Rattle.da_unparse.specs.Expressions.{expr_pieces, pattern_pieces}
use Rattle.da_unparse.specs.Lines.{lines_text}
use Rattle.da_unparse.specs.Pieces.{Piece, token, name, colon, between, before}
use Rattle.da_unparse.specs.Programs.{with_body, params, sender, labels, member_lines, message_lines, class_lines, main_line_lines, main_lines, kind_lines, tree_lines, tree_text}
use Rattle.da_unparse.specs.Statements.{Block, Guarded, line, then, block, headed, first_and_others, otherwise, timeout, stmt_lines, guarded_of, timeout_of}
use Rattle.da_unparse.specs.Unlined.{unlined_stmt, unlined_branch, unlined_timeout, unlined_member, unlined_message, unlined_class, unlined_main_line, unlined}
use Rattle.da_unparse.proofs.ShownAt.{stmt-Assign, stmt-Add, stmt-Del, stmt-Send, stmt-Output, stmt-Pass, stmt-Label, stmt-Call, stmt-If, stmt-While, stmt-For, stmt-AwaitOne, stmt-Await, guarded_at, timeout_at}
use Rattle.da_unparse.proofs.UnlinedAt.{unlined-Assign, unlined-Add, unlined-Del, unlined-Send, unlined-Output, unlined-Pass, unlined-Label, unlined-Call, unlined-If, unlined-While, unlined-For, unlined-AwaitOne, unlined-Await, unlined_branch_at, unlined_timeout_at}

-- ---- lists

-- what is shown of something does not change when its numbers of lines do
abbrev Same : {A B : Type 0} → (A → B) → (A → A) → A → Type 0
Same shows clears x = shows (clears x) ≡ shows x

map-same : {A B : Type 0} (shows : A → B) (clears : A → A) → ((x : A) → Same shows clears x) → (xs : List A) → Same (map shows) (map clears) xs
map-same shows clears same [] = refl
map-same shows clears same (x ∷ xs) = ap (λ z. z ∷ map shows (map clears xs)) (same x) ∙ ap (λ z. shows x ∷ z) (map-same shows clears same xs)

-- the same where each is given with its proof
abbrev bare : {A : Type 0} {P : A → Type 0} → List ((x : A) × P x) → List A
bare pairs = map (λ pair. pair.0) pairs

bare-same : {A B : Type 0} (shows : A → B) (clears : A → A) (pairs : List ((x : A) × Same shows clears x)) → Same (map shows) (map clears) (bare pairs)
bare-same shows clears [] = refl
bare-same shows clears (pair ∷ pairs) = ap (λ z. z ∷ map shows (map clears (bare pairs))) pair.1 ∙ ap (λ z. shows pair.0 ∷ z) (bare-same shows clears pairs)

-- the lines of several things at one level
flat_map-same : {A : Type 0} (lines : A → Block) (clears : A → A) (level : ℕ) → ((x : A) → lines (clears x) level ≡ lines x level) → (xs : List A)
    → flat_map (λ x. lines x level) (map clears xs) ≡ flat_map (λ x. lines x level) xs
flat_map-same lines clears level same [] = refl
flat_map-same lines clears level same (x ∷ xs) =
    ap (λ z. z ++ flat_map (λ y. lines y level) (map clears xs)) (same x) ∙ ap (λ z. lines x level ++ z) (flat_map-same lines clears level same xs)

-- ---- statements

abbrev SameStmt : Stmt → Type 0
SameStmt = Same stmt_lines unlined_stmt

abbrev SameBranch : Branch → Type 0
SameBranch = Same guarded_of unlined_branch

abbrev SameTimeout : TimeoutTree → Type 0
SameTimeout = Same timeout_of unlined_timeout

-- from what a statement is without its numbers of lines, and what is printed of both
by-variant : (s : Stmt) {clear : Stmt} {now was : Block} → unlined_stmt s ≡ clear → stmt_lines clear ≡ now → stmt_lines s ≡ was → now ≡ was → SameStmt s
by-variant s e printed first same = ap stmt_lines e ∙ printed ∙ same ∙ sym first

abbrev StmtPair : Type 0
StmtPair = (s : Stmt) × SameStmt s

abbrev BranchPair : Type 0
BranchPair = (b : Branch) × SameBranch b

abbrev TimeoutPair : Type 0
TimeoutPair = (t : TimeoutTree) × SameTimeout t

-- what is printed of an `if` and of an `await`, by their parts
abbrev if_lines : List Guarded → Option (List Block) → Block
if_lines gs other = then (first_and_others m.If (codes "if") m.Elif (codes "elif") gs) (otherwise other)

abbrev await_lines : List Guarded → Option (List Block) → Block
await_lines gs over = then (first_and_others m.Await (codes "await") m.Or (codes "or") gs) (timeout over)

branches-same : (bs : List BranchPair) → Same (map guarded_of) (map unlined_branch) (bare bs)
branches-same = bare-same guarded_of unlined_branch

stmts-same : (ss : List StmtPair) → Same (map stmt_lines) (map unlined_stmt) (bare ss)
stmts-same = bare-same stmt_lines unlined_stmt

same-Assign : (n : List ℕ) (x : Expr) (at : ℕ) → SameStmt (stmt.Assign n x at)
same-Assign n x at = by-variant (stmt.Assign n x at) (unlined-Assign n x at) (stmt-Assign n x 0) (stmt-Assign n x at) refl

same-Add : (n : List ℕ) (x : Expr) (at : ℕ) → SameStmt (stmt.Add n x at)
same-Add n x at = by-variant (stmt.Add n x at) (unlined-Add n x at) (stmt-Add n x 0) (stmt-Add n x at) refl

same-Del : (n : List ℕ) (x : Expr) (at : ℕ) → SameStmt (stmt.Del n x at)
same-Del n x at = by-variant (stmt.Del n x at) (unlined-Del n x at) (stmt-Del n x 0) (stmt-Del n x at) refl

same-Send : (x y : Expr) (at : ℕ) → SameStmt (stmt.Send x y at)
same-Send x y at = by-variant (stmt.Send x y at) (unlined-Send x y at) (stmt-Send x y 0) (stmt-Send x y at) refl

same-Output : (x : Expr) (at : ℕ) → SameStmt (stmt.Output x at)
same-Output x at = by-variant (stmt.Output x at) (unlined-Output x at) (stmt-Output x 0) (stmt-Output x at) refl

same-Pass : (at : ℕ) → SameStmt (stmt.Pass at)
same-Pass at = by-variant (stmt.Pass at) (unlined-Pass at) (stmt-Pass 0) (stmt-Pass at) refl

same-Label : (n : List ℕ) (at : ℕ) → SameStmt (stmt.Label n at)
same-Label n at = by-variant (stmt.Label n at) (unlined-Label n at) (stmt-Label n 0) (stmt-Label n at) refl

same-Call : (n : List ℕ) (xs : List Expr) (at : ℕ) → SameStmt (stmt.Call n xs at)
same-Call n xs at = by-variant (stmt.Call n xs at) (unlined-Call n xs at) (stmt-Call n xs 0) (stmt-Call n xs at) refl

same-AwaitOne : (x : Expr) (at : ℕ) → SameStmt (stmt.AwaitOne x at)
same-AwaitOne x at = by-variant (stmt.AwaitOne x at) (unlined-AwaitOne x at) (stmt-AwaitOne x 0) (stmt-AwaitOne x at) refl

-- a statement with blocks, whose parts are given with their proofs
same-If : (bs : List BranchPair) (other : Option (List StmtPair)) (at : ℕ) → SameStmt (stmt.If (bare bs) (option_map bare other) at)
same-If bs None at =
    by-variant (stmt.If (bare bs) None at) (unlined-If (bare bs) None at) (stmt-If (map unlined_branch (bare bs)) None 0) (stmt-If (bare bs) None at)
    (ap (λ gs. if_lines gs None) (branches-same bs))
same-If bs (Some ss) at =
    let body = map unlined_stmt (bare ss) in
    by-variant (stmt.If (bare bs) (Some (bare ss)) at) (unlined-If (bare bs) (Some (bare ss)) at) (stmt-If (map unlined_branch (bare bs)) (Some body) 0) (stmt-If (bare bs) (Some (bare ss)) at)
    (ap (λ gs. if_lines gs (Some (map stmt_lines body))) (branches-same bs) ∙ ap (λ z. if_lines (map guarded_of (bare bs)) (Some z)) (stmts-same ss))

same-While : (x : Expr) (ss : List StmtPair) (at : ℕ) → SameStmt (stmt.While x (bare ss) at)
same-While x ss at =
    by-variant (stmt.While x (bare ss) at) (unlined-While x (bare ss) at) (stmt-While x (map unlined_stmt (bare ss)) 0) (stmt-While x (bare ss) at)
    (ap (headed (before m.While (codes "while") ++ expr_pieces x)) (stmts-same ss))

same-For : (n : List ℕ) (x : Expr) (ss : List StmtPair) (at : ℕ) → SameStmt (stmt.For n x (bare ss) at)
same-For n x ss at =
    by-variant (stmt.For n x (bare ss) at) (unlined-For n x (bare ss) at) (stmt-For n x (map unlined_stmt (bare ss)) 0) (stmt-For n x (bare ss) at)
    (ap (headed (before m.For (codes "for") ++ name n ++ between m.In (codes "in") ++ expr_pieces x)) (stmts-same ss))

same-Await : (bs : List BranchPair) (over : Option TimeoutPair) (at : ℕ) → SameStmt (stmt.Await (bare bs) (option_map (λ pair. pair.0) over) at)
same-Await bs None at =
    by-variant (stmt.Await (bare bs) None at) (unlined-Await (bare bs) None at) (stmt-Await (map unlined_branch (bare bs)) None 0) (stmt-Await (bare bs) None at)
    (ap (λ gs. await_lines gs None) (branches-same bs))
same-Await bs (Some t) at =
    let clear = unlined_timeout t.0 in
    by-variant (stmt.Await (bare bs) (Some t.0) at) (unlined-Await (bare bs) (Some t.0) at) (stmt-Await (map unlined_branch (bare bs)) (Some clear) 0) (stmt-Await (bare bs) (Some t.0) at)
    (ap (λ gs. await_lines gs (Some (timeout_of clear))) (branches-same bs) ∙ ap (λ z. await_lines (map guarded_of (bare bs)) (Some z)) t.1)

-- each kind of a layer, whose parts are given with their proofs
abbrev bare_stmt : Stmt-F StmtPair BranchPair TimeoutPair → Stmt
bare_stmt s = roll-Stmt (map-Stmt StmtPair BranchPair TimeoutPair Stmt Branch TimeoutTree (λ pair. pair.0) (λ pair. pair.0) (λ pair. pair.0) s)

stmt-case : (s : Stmt-F StmtPair BranchPair TimeoutPair) → SameStmt (bare_stmt s)
stmt-case (Stmt-F.Assign n x at) = subst SameStmt (sym (stmt.rolls-Assign n x at)) (same-Assign n x at)
stmt-case (Stmt-F.Add n x at) = subst SameStmt (sym (stmt.rolls-Add n x at)) (same-Add n x at)
stmt-case (Stmt-F.Del n x at) = subst SameStmt (sym (stmt.rolls-Del n x at)) (same-Del n x at)
stmt-case (Stmt-F.Send x y at) = subst SameStmt (sym (stmt.rolls-Send x y at)) (same-Send x y at)
stmt-case (Stmt-F.Output x at) = subst SameStmt (sym (stmt.rolls-Output x at)) (same-Output x at)
stmt-case (Stmt-F.Pass at) = subst SameStmt (sym (stmt.rolls-Pass at)) (same-Pass at)
stmt-case (Stmt-F.Label n at) = subst SameStmt (sym (stmt.rolls-Label n at)) (same-Label n at)
stmt-case (Stmt-F.Call n xs at) = subst SameStmt (sym (stmt.rolls-Call n xs at)) (same-Call n xs at)
stmt-case (Stmt-F.If bs None at) = subst SameStmt (sym (stmt.rolls-If (bare bs) None at)) (same-If bs None at)
stmt-case (Stmt-F.If bs (Some ss) at) = subst SameStmt (sym (stmt.rolls-If (bare bs) (Some (bare ss)) at)) (same-If bs (Some ss) at)
stmt-case (Stmt-F.While x ss at) = subst SameStmt (sym (stmt.rolls-While x (bare ss) at)) (same-While x ss at)
stmt-case (Stmt-F.For n x ss at) = subst SameStmt (sym (stmt.rolls-For n x (bare ss) at)) (same-For n x ss at)
stmt-case (Stmt-F.AwaitOne x at) = subst SameStmt (sym (stmt.rolls-AwaitOne x at)) (same-AwaitOne x at)
stmt-case (Stmt-F.Await bs None at) = subst SameStmt (sym (stmt.rolls-Await (bare bs) None at)) (same-Await bs None at)
stmt-case (Stmt-F.Await bs (Some t) at) = subst SameStmt (sym (stmt.rolls-Await (bare bs) (Some t.0) at)) (same-Await bs (Some t) at)

abbrev bare_branch : Branch-F StmtPair BranchPair TimeoutPair → Branch
bare_branch b = roll-Branch (map-Branch StmtPair BranchPair TimeoutPair Stmt Branch TimeoutTree (λ pair. pair.0) (λ pair. pair.0) (λ pair. pair.0) b)

branch-case : (b : Branch-F StmtPair BranchPair TimeoutPair) → SameBranch (bare_branch b)
branch-case b =
    ap guarded_of (unlined_branch_at b.cond (bare b.body) b.line) ∙ guarded_at b.cond (map unlined_stmt (bare b.body)) 0
    ∙ ap (λ z. record { cond = expr_pieces b.cond; body = z }) (stmts-same b.body) ∙ sym (guarded_at b.cond (bare b.body) b.line)

abbrev bare_timeout : TimeoutTree-F StmtPair BranchPair TimeoutPair → TimeoutTree
bare_timeout t = roll-TimeoutTree (map-TimeoutTree StmtPair BranchPair TimeoutPair Stmt Branch TimeoutTree (λ pair. pair.0) (λ pair. pair.0) (λ pair. pair.0) t)

timeout-case : (t : TimeoutTree-F StmtPair BranchPair TimeoutPair) → SameTimeout (bare_timeout t)
timeout-case t =
    ap timeout_of (unlined_timeout_at (bare t.body) t.line) ∙ timeout_at (map unlined_stmt (bare t.body)) 0 ∙ stmts-same t.body ∙ sym (timeout_at (bare t.body) t.line)

-- a statement is printed the same without its numbers of lines
pub stmt-unlined : (s : Stmt) → stmt_lines (unlined_stmt s) ≡ stmt_lines s
stmt-unlined =
    ind-Stmt SameStmt SameBranch SameTimeout
    (λ s layer is. subst (λ z. SameStmt (roll-Stmt z)) is (stmt-case layer))
    (λ b layer is. subst (λ z. SameBranch (roll-Branch z)) is (branch-case layer))
    (λ t layer is. subst (λ z. SameTimeout (roll-TimeoutTree z)) is (timeout-case layer))

pub stmts-unlined : (ss : List Stmt) → map stmt_lines (map unlined_stmt ss) ≡ map stmt_lines ss
stmts-unlined = map-same stmt_lines unlined_stmt stmt-unlined

-- ---- members, classes, messages, lines of main

body-unlined : (header : List Piece) (body : List Stmt) → with_body header (map unlined_stmt body) ≡ with_body header body
body-unlined header body = ap (λ z. then (line (header ++ colon)) (block z)) (stmts-unlined body)

pub member-unlined : (x : Member) → member_lines (unlined_member x) ≡ member_lines x
member-unlined (member.Var n x at) = refl
member-unlined (member.Setup ps body at) = body-unlined (before m.Def (codes "def") ++ token m.Setup (codes "setup") ∷ params ps) body
member-unlined (member.Run body at) = body-unlined (before m.Def (codes "def") ++ token m.Run (codes "run") ∷ params []) body
member-unlined (member.Method n ps body at) = body-unlined (before m.Def (codes "def") ++ name n ++ params ps) body
member-unlined (member.Receive p from at_labels body at) = body-unlined (before m.Receive (codes "receive") ++ pattern_pieces p ++ sender from ++ labels at_labels) body

pub class-unlined : (c : ClassTree) (level : ℕ) → class_lines (unlined_class c) level ≡ class_lines c level
class-unlined c level =
    ap (λ z. class_lines (record { name = c.name; members = []; line = 0 }) level ++ z)
    (flat_map-same member_lines unlined_member (level + 1) (λ x. ap (λ z. z (level + 1)) (member-unlined x)) c.members)

main_line-unlined : (l : MainLine) → main_line_lines (unlined_main_line l) ≡ main_line_lines l
main_line-unlined (main_line.New n c many at) = refl
main_line-unlined (main_line.Setup n xs at) = refl

main-unlined : (ls : List MainLine) (level : ℕ) → main_lines (map unlined_main_line ls) level ≡ main_lines ls level
main-unlined ls level =
    ap (λ z. main_lines [] level ++ z) (flat_map-same main_line_lines unlined_main_line (level + 1) (λ l. ap (λ z. z (level + 1)) (main_line-unlined l)) ls)

-- ---- trees

-- the lines of a tree do not tell the numbers of the lines that its parts had
pub lines-unlined : (t : Tree) → tree_lines (unlined t) ≡ tree_lines t
unfolding tree_lines unlined
lines-unlined t =
    let messages = flat_map-same message_lines unlined_message 0 (λ x. refl) t.messages in
    let classes = flat_map-same class_lines unlined_class 0 (λ c. class-unlined c 0) t.classes in
    let main = main-unlined t.main 0 in
    ap (λ z. kind_lines t.kind 0 ++ z ++ flat_map (λ c. class_lines c 0) (map unlined_class t.classes) ++ main_lines (map unlined_main_line t.main) 0) messages
    ∙ ap (λ z. kind_lines t.kind 0 ++ flat_map (λ x. message_lines x 0) t.messages ++ z ++ main_lines (map unlined_main_line t.main) 0) classes
    ∙ ap (λ z. kind_lines t.kind 0 ++ flat_map (λ x. message_lines x 0) t.messages ++ flat_map (λ c. class_lines c 0) t.classes ++ z) main

-- so trees that differ in the numbers of lines alone are printed as the same text
pub same_text : (t u : Tree) → unlined t ≡ unlined u → tree_text t ≡ tree_text u
unfolding tree_text
same_text t u e = ap lines_text (sym (lines-unlined t) ∙ ap tree_lines e ∙ lines-unlined u)

-- The text of a statement, one layer at a time.
use Rattle.std.specs.Prelude.{ℕ, ◌+◌, List, [], ◌∷◌, ◌++◌, codes, map, Option, Some, None}
use Rattle.std.specs.List.{flat_map}
use Rattle.std.specs.Option.{option_map}
use Rattle.std.proofs.Common.{◌≡◌, refl, ◌∙◌, ap, sym, append_assoc, append-nil}
use Rattle.std.proofs.lemmas.Grind.{flat_map-append}
use Rattle.da_values.specs.declared.token.Mark.{Mark}
use Rattle.da_values.specs.declared.token.Mark.TheVariants as m
use Rattle.da_lang.specs.declared.tree.Branch.{Branch, out-Branch, roll-out-Branch}
use Rattle.da_lang.specs.declared.tree.Expr.{Expr}
use Rattle.da_lang.specs.declared.tree.Stmt.{Stmt}
use Rattle.da_lang.specs.declared.tree.Stmt.TheVariants as stmt
use Rattle.da_lang.specs.declared.tree.TimeoutTree.{TimeoutTree, out-TimeoutTree, roll-out-TimeoutTree}
use Rattle.da_unparse.specs.Expressions.{at_least, either, shown, expr_pieces}
use Rattle.da_unparse.specs.Lines.{Line, line_text, lines_text}
use Rattle.da_unparse.specs.Pieces.{Piece, token, one, name, close_paren, in_parens, between, colon, before, text_of, comma, listed}
use Rattle.da_unparse.specs.Statements.{line, block, headed, guarded, each_guarded, first_and_others, otherwise, timeout, arguments, stmt_lines, guarded_of, timeout_of}
use Rattle.da_unparse.specs.Texts.{expr_text, text_at, separated, margin, stmt_text, stmts_text, worded_line, named_line, plain_line, send_line, call_line, for_line, branch_text, branches_text, block_text, otherwise_text, timeout_text}
use Rattle.da_unparse.proofs.ShownAt as layer
use Rattle.da_unparse.proofs.TextsOf.{text_of-append, text_of-three, in_parens_is, joined_is, operands_are}

pub lines_text-append : (xs ys : List Line) → lines_text (xs ++ ys) ≡ lines_text xs ++ lines_text ys
lines_text-append xs ys = flat_map-append line_text xs ys

pub line_is : (ps : List Piece) (level : ℕ) → lines_text (line ps level) ≡ margin level ++ text_of ps ++ codes "\n"
unfolding margin
line_is ps level = append-nil (margin level ++ text_of ps ++ codes "\n")

-- the lines of a block
pub block_is : (body : List Stmt) (level : ℕ) → lines_text (block (map stmt_lines body) level) ≡ stmts_text (level + 1) body
unfolding stmts_text stmt_text
block_is [] level = refl
block_is (s ∷ body) level = lines_text-append (stmt_lines s (level + 1)) (block (map stmt_lines body) level) ∙ ap (λ t. lines_text (stmt_lines s (level + 1)) ++ t) (block_is body level)

pub headed_is : (header : List Piece) (body : List Stmt) (level : ℕ)
    → lines_text (headed header (map stmt_lines body) level) ≡ margin level ++ text_of header ++ codes ":\n" ++ stmts_text (level + 1) body
headed_is header body level =
    lines_text-append (line (header ++ colon) level) (block (map stmt_lines body) level)
    ∙ rw (line_is (header ++ colon) level, block_is body level, text_of-append header colon)
    (ap (λ t. t ++ stmts_text (level + 1) body)
    (ap (λ t. t ++ codes "\n") (sym (append_assoc (margin level) (text_of header) (codes ":"))) ∙ append_assoc (margin level ++ text_of header) (codes ":") (codes "\n")))

-- the same texts, grouped from the front
pub two_front : (m w e : List ℕ) → m ++ (w ++ e) ≡ m ++ w ++ e
two_front m w e = sym (append_assoc m w e)

pub three_front : (m n w e : List ℕ) → m ++ (n ++ (w ++ e)) ≡ m ++ n ++ w ++ e
three_front m n w e = two_front m n (w ++ e) ∙ two_front (m ++ n) w e

pub ended : (m w e p q : List ℕ) → m ++ (w ++ (e ++ p)) ++ q ≡ m ++ w ++ e ++ (p ++ q)
ended m w e p q = ap (λ t. t ++ q) (three_front m w e p) ∙ append_assoc (m ++ w ++ e) p q

-- a condition and a block after a word
branch_is : (k : Mark) (bytes : List ℕ) (level : ℕ) (b : Branch) → lines_text (guarded k bytes (guarded_of b) level) ≡ branch_text (bytes ++ codes " ") level b
unfolding branch_text worded_line expr_text
branch_is k bytes level b =
    let v = out-Branch b in
    ap (λ g. lines_text (guarded k bytes g level)) (ap guarded_of (sym (roll-out-Branch b)) ∙ layer.guarded_at v.cond v.body v.line)
    ∙ headed_is (before k bytes ++ expr_pieces v.cond) v.body level
    ∙ ap (λ t. t ++ codes ":\n" ++ stmts_text (level + 1) v.body) (three_front (margin level) bytes (codes " ") (text_of (expr_pieces v.cond)) ∙ ap (λ t. t ++ text_of (expr_pieces v.cond)) (append_assoc (margin level) bytes (codes " ")))

each_are : (k : Mark) (bytes : List ℕ) (level : ℕ) (bs : List Branch) → lines_text (each_guarded k bytes (map guarded_of bs) level) ≡ flat_map (branch_text (bytes ++ codes " ") level) bs
each_are k bytes level [] = refl
each_are k bytes level (b ∷ bs) =
    lines_text-append (guarded k bytes (guarded_of b) level) (each_guarded k bytes (map guarded_of bs) level) ∙ rw (branch_is k bytes level b, each_are k bytes level bs) refl

branches_are : (k : Mark) (bytes : List ℕ) (l : Mark) (others : List ℕ) (level : ℕ) (bs : List Branch)
    → lines_text (first_and_others k bytes l others (map guarded_of bs) level) ≡ branches_text (bytes ++ codes " ") (others ++ codes " ") level bs
unfolding branches_text
branches_are k bytes l others level [] = refl
branches_are k bytes l others level (b ∷ bs) =
    lines_text-append (guarded k bytes (guarded_of b) level) (each_guarded l others (map guarded_of bs) level) ∙ rw (branch_is k bytes level b, each_are l others level bs) refl

-- a block after a word alone
block_alone : (k : Mark) (bytes : List ℕ) (level : ℕ) (body : List Stmt) → lines_text (headed (one k bytes) (map stmt_lines body) level) ≡ block_text (bytes ++ codes ":") level body
unfolding block_text plain_line
block_alone k bytes level body =
    headed_is (one k bytes) body level
    ∙ ap (λ t. t ++ stmts_text (level + 1) body)
    (ap (λ t. margin level ++ t ++ codes ":\n") (append-nil bytes) ∙ append_assoc (margin level) bytes (codes ":\n") ∙ ap (λ t. margin level ++ t) (sym (append_assoc bytes (codes ":") (codes "\n")))
    ∙ sym (append_assoc (margin level) (bytes ++ codes ":") (codes "\n")))

otherwise_is : (level : ℕ) (other : Option (List Stmt)) → lines_text (otherwise (option_map (map stmt_lines) other) level) ≡ otherwise_text level other
unfolding otherwise_text
otherwise_is level None = refl
otherwise_is level (Some body) = block_alone m.Else (codes "else") level body

timeout_is : (level : ℕ) (over : Option TimeoutTree) → lines_text (timeout (option_map timeout_of over) level) ≡ timeout_text level over
unfolding timeout_text
timeout_is level None = refl
timeout_is level (Some t) =
    let v = out-TimeoutTree t in
    ap (λ body. lines_text (headed (one m.Timeout (codes "timeout")) body level)) (ap timeout_of (sym (roll-out-TimeoutTree t)) ∙ layer.timeout_at v.body v.line)
    ∙ block_alone m.Timeout (codes "timeout") level v.body

pub stmt_text-Assign : (level : ℕ) (n : List ℕ) (x : Expr) (at : ℕ) → stmt_text level (stmt.Assign n x at) ≡ named_line level n (codes " = ") x (codes "\n")
unfolding stmt_text expr_text named_line
stmt_text-Assign level n x at =
    ap (λ b. lines_text (b level)) (layer.stmt-Assign n x at) ∙ line_is (name n ++ between m.Assign (codes "=") ++ expr_pieces x) level
    ∙ ap (λ t. t ++ codes "\n") (three_front (margin level) n (codes " = ") (text_of (expr_pieces x)))

pub stmt_text-Add : (level : ℕ) (n : List ℕ) (x : Expr) (at : ℕ) → stmt_text level (stmt.Add n x at) ≡ named_line level n (codes ".add(") x (codes ")\n")
unfolding stmt_text expr_text named_line
stmt_text-Add level n x at =
    ap (λ b. lines_text (b level)) (layer.stmt-Add n x at) ∙ line_is (name n ++ one m.Dot (codes ".") ++ token m.Add (codes "add") ∷ in_parens (expr_pieces x)) level
    ∙ ap (λ t. margin level ++ (n ++ (codes ".add(" ++ t)) ++ codes "\n") (text_of-append (expr_pieces x) close_paren)
    ∙ ap (λ t. t ++ codes "\n") (two_front (margin level) n (codes ".add(" ++ (text_of (expr_pieces x) ++ codes ")"))) ∙ ended (margin level ++ n) (codes ".add(") (text_of (expr_pieces x)) (codes ")") (codes "\n")

pub stmt_text-Del : (level : ℕ) (n : List ℕ) (x : Expr) (at : ℕ) → stmt_text level (stmt.Del n x at) ≡ named_line level n (codes ".del(") x (codes ")\n")
unfolding stmt_text expr_text named_line
stmt_text-Del level n x at =
    ap (λ b. lines_text (b level)) (layer.stmt-Del n x at) ∙ line_is (name n ++ one m.Dot (codes ".") ++ token m.Del (codes "del") ∷ in_parens (expr_pieces x)) level
    ∙ ap (λ t. margin level ++ (n ++ (codes ".del(" ++ t)) ++ codes "\n") (text_of-append (expr_pieces x) close_paren)
    ∙ ap (λ t. t ++ codes "\n") (two_front (margin level) n (codes ".del(" ++ (text_of (expr_pieces x) ++ codes ")"))) ∙ ended (margin level ++ n) (codes ".del(") (text_of (expr_pieces x)) (codes ")") (codes "\n")

pub stmt_text-Send : (level : ℕ) (x y : Expr) (at : ℕ) → stmt_text level (stmt.Send x y at) ≡ send_line level x y
unfolding stmt_text expr_text send_line
stmt_text-Send level x y at =
    ap (λ b. lines_text (b level)) (layer.stmt-Send x y at) ∙ line_is (before m.Send (codes "send") ++ expr_pieces x ++ between m.To (codes "to") ++ expr_pieces y) level
    ∙ ap (λ t. margin level ++ (codes "send " ++ t) ++ codes "\n") (text_of-three (expr_pieces x) (between m.To (codes "to")) (expr_pieces y))
    ∙ ap (λ t. t ++ codes "\n") (two_front (margin level) (codes "send " ++ text_of (expr_pieces x) ++ codes " to ") (text_of (expr_pieces y))
    ∙ ap (λ t. t ++ text_of (expr_pieces y)) (two_front (margin level) (codes "send " ++ text_of (expr_pieces x)) (codes " to ") ∙ ap (λ t. t ++ codes " to ") (two_front (margin level) (codes "send ") (text_of (expr_pieces x)))))

pub stmt_text-Output : (level : ℕ) (x : Expr) (at : ℕ) → stmt_text level (stmt.Output x at) ≡ worded_line level (codes "output(") x (codes ")\n")
unfolding stmt_text expr_text worded_line
stmt_text-Output level x at =
    ap (λ b. lines_text (b level)) (layer.stmt-Output x at) ∙ line_is (token m.Output (codes "output") ∷ in_parens (expr_pieces x)) level
    ∙ ap (λ t. margin level ++ (codes "output(" ++ t) ++ codes "\n") (text_of-append (expr_pieces x) close_paren)
    ∙ ended (margin level) (codes "output(") (text_of (expr_pieces x)) (codes ")") (codes "\n")

pub stmt_text-Pass : (level : ℕ) (at : ℕ) → stmt_text level (stmt.Pass at) ≡ plain_line level (codes "pass")
unfolding stmt_text expr_text plain_line
stmt_text-Pass level at =
    ap (λ b. lines_text (b level)) (layer.stmt-Pass at) ∙ line_is (one m.Pass (codes "pass")) level

pub stmt_text-Label : (level : ℕ) (n : List ℕ) (at : ℕ) → stmt_text level (stmt.Label n at) ≡ plain_line level (codes "-- " ++ n)
unfolding stmt_text expr_text plain_line
stmt_text-Label level n at =
    ap (λ b. lines_text (b level)) (layer.stmt-Label n at) ∙ line_is (before m.Dashes (codes "--") ++ name n) level
    ∙ ap (λ t. margin level ++ (codes "-- " ++ t) ++ codes "\n") (append-nil n)

pub stmt_text-Call : (level : ℕ) (n : List ℕ) (xs : List Expr) (at : ℕ) → stmt_text level (stmt.Call n xs at) ≡ call_line level n xs
unfolding stmt_text expr_text call_line text_at
stmt_text-Call level n xs at =
    ap (λ b. lines_text (b level)) (layer.stmt-Call n xs at) ∙ line_is (name n ++ arguments xs) level
    ∙ ap (λ t. margin level ++ (n ++ t) ++ codes "\n")
    (ap (λ pss. text_of (in_parens (listed pss))) (operands_are either xs) ∙ in_parens_is (listed (map (λ x. at_least either (shown x)) xs))
    ∙ ap (λ t. codes "(" ++ t ++ codes ")") (joined_is comma (λ x. at_least either (shown x)) xs))
    ∙ ap (λ t. t ++ codes "\n") (two_front (margin level) n (codes "(" ++ (separated (codes ", ") (text_at either) xs ++ codes ")")))
    ∙ ended (margin level ++ n) (codes "(") (separated (codes ", ") (text_at either) xs) (codes ")") (codes "\n")

pub stmt_text-If : (level : ℕ) (gs : List Branch) (other : Option (List Stmt)) (at : ℕ) → stmt_text level (stmt.If gs other at) ≡ branches_text (codes "if ") (codes "elif ") level gs ++ otherwise_text level other
unfolding stmt_text expr_text
stmt_text-If level gs other at =
    ap (λ b. lines_text (b level)) (layer.stmt-If gs other at) ∙ lines_text-append (first_and_others m.If (codes "if") m.Elif (codes "elif") (map guarded_of gs) level) (otherwise (option_map (map stmt_lines) other) level)
    ∙ rw (branches_are m.If (codes "if") m.Elif (codes "elif") level gs, otherwise_is level other) refl

pub stmt_text-While : (level : ℕ) (x : Expr) (body : List Stmt) (at : ℕ) → stmt_text level (stmt.While x body at) ≡ worded_line level (codes "while ") x (codes ":\n") ++ stmts_text (level + 1) body
unfolding stmt_text expr_text worded_line
stmt_text-While level x body at =
    ap (λ b. lines_text (b level)) (layer.stmt-While x body at) ∙ headed_is (before m.While (codes "while") ++ expr_pieces x) body level
    ∙ ap (λ t. t ++ codes ":\n" ++ stmts_text (level + 1) body) (two_front (margin level) (codes "while ") (text_of (expr_pieces x)))

pub stmt_text-For : (level : ℕ) (n : List ℕ) (x : Expr) (body : List Stmt) (at : ℕ) → stmt_text level (stmt.For n x body at) ≡ for_line level n x ++ stmts_text (level + 1) body
unfolding stmt_text expr_text for_line
stmt_text-For level n x body at =
    ap (λ b. lines_text (b level)) (layer.stmt-For n x body at) ∙ headed_is (before m.For (codes "for") ++ name n ++ between m.In (codes "in") ++ expr_pieces x) body level
    ∙ ap (λ t. t ++ codes ":\n" ++ stmts_text (level + 1) body)
    (two_front (margin level) (codes "for ") (n ++ (codes " in " ++ text_of (expr_pieces x))) ∙ three_front (margin level ++ codes "for ") n (codes " in ") (text_of (expr_pieces x)))

pub stmt_text-AwaitOne : (level : ℕ) (x : Expr) (at : ℕ) → stmt_text level (stmt.AwaitOne x at) ≡ worded_line level (codes "await ") x (codes "\n")
unfolding stmt_text expr_text worded_line
stmt_text-AwaitOne level x at =
    ap (λ b. lines_text (b level)) (layer.stmt-AwaitOne x at) ∙ line_is (before m.Await (codes "await") ++ expr_pieces x) level
    ∙ ap (λ t. t ++ codes "\n") (two_front (margin level) (codes "await ") (text_of (expr_pieces x)))

pub stmt_text-Await : (level : ℕ) (gs : List Branch) (over : Option TimeoutTree) (at : ℕ) → stmt_text level (stmt.Await gs over at) ≡ branches_text (codes "await ") (codes "or ") level gs ++ timeout_text level over
unfolding stmt_text expr_text
stmt_text-Await level gs over at =
    ap (λ b. lines_text (b level)) (layer.stmt-Await gs over at) ∙ lines_text-append (first_and_others m.Await (codes "await") m.Or (codes "or") (map guarded_of gs) level) (timeout (option_map timeout_of over) level)
    ∙ rw (branches_are m.Await (codes "await") m.Or (codes "or") level gs, timeout_is level over) refl

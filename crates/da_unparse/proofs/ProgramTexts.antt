-- The text of a program, by its parts.
use Rattle.std.specs.Prelude.{ℕ, List, [], ◌∷◌, ◌++◌, codes, decimal, map, Option, Some, None}
use Rattle.std.specs.List.{flat_map}
use Rattle.std.proofs.Common.{◌≡◌, refl, ◌∙◌, ap, append_assoc, append-nil}
use Rattle.da_values.specs.declared.token.Mark.TheVariants as m
use Rattle.da_lang.specs.declared.tree.ClassTree.{ClassTree}
use Rattle.da_lang.specs.declared.tree.Expr.{Expr}
use Rattle.da_lang.specs.declared.tree.MainLine.{MainLine}
use Rattle.da_lang.specs.declared.tree.MainLine.TheVariants as main_line
use Rattle.da_lang.specs.declared.tree.Member.TheVariants as member
use Rattle.da_lang.specs.declared.tree.MessageDecl.{MessageDecl}
use Rattle.da_lang.specs.declared.tree.Param.{Param}
use Rattle.da_lang.specs.declared.tree.PatternTree.{PatternTree}
use Rattle.da_lang.specs.declared.tree.Stmt.{Stmt}
use Rattle.da_lang.specs.declared.tree.Tree.{Tree}
use Rattle.da_lang.specs.declared.ty.Ty.{Ty}
use Rattle.da_unparse.specs.Expressions.{all_at_least, at_least, either, shown, pattern_pieces, type_pieces}
use Rattle.da_unparse.specs.Lines.{Line, lines_text}
use Rattle.da_unparse.specs.Pieces.{gap, token, one, name, before, between, each_after, colon, comma, close_paren, in_parens, listed, text_of}
use Rattle.da_unparse.specs.Programs.{param, params, sender, labels, count, kind_lines, message_lines, member_lines, class_lines, main_line_lines, main_lines, tree_lines, tree_text}
use Rattle.da_unparse.specs.ProgramTexts.{param_text, params_text, sender_text, labels_text, count_text, member_text, members_text, kind_text, message_text, messages_text, class_text, classes_text, main_line_text, main_lines_text, main_text}
use Rattle.da_unparse.specs.Statements.{line}
use Rattle.da_unparse.specs.Texts.{pattern_text, type_text, separated, stmts_text, text_at, margin}
use Rattle.da_unparse.proofs.StmtTexts.{lines_text-append, line_is, headed_is, two_front, three_front, ended}
use Rattle.da_unparse.proofs.TextsOf.{text_of-append, text_of-three, in_parens_is, joined_is, behind_is, operands_are}

-- what a list of blocks prints is what each of them prints
blocks_are : {A : Type 0} (f : A → List Line) (xs : List A) → lines_text (flat_map f xs) ≡ flat_map (λ x. lines_text (f x)) xs
blocks_are f [] = refl
blocks_are f (x ∷ xs) = lines_text-append (f x) (flat_map f xs) ∙ ap (λ t. lines_text (f x) ++ t) (blocks_are f xs)

pub param_text-of : (p : Param) → param_text p ≡ p.name ++ codes ": " ++ type_text p.ty
unfolding param_text type_text
param_text-of p = two_front p.name (codes ": ") (text_of (type_pieces p.ty))

params_are : (ps : List Param) → text_of (params ps) ≡ params_text ps
unfolding param_text params_text
params_are ps = in_parens_is (listed (map param ps)) ∙ ap (λ t. codes "(" ++ t ++ codes ")") (joined_is comma param ps)

sender_is : (from : Option PatternTree) → text_of (sender from) ≡ sender_text from
unfolding sender_text pattern_text
sender_is None = refl
sender_is (Some p) = refl

names_are : (ns : List (List ℕ)) → text_of (each_after comma (map name ns)) ≡ flat_map (λ n. codes ", " ++ n) ns
names_are [] = refl
names_are (n ∷ ns) = ap (λ t. codes ", " ++ (n ++ t)) (names_are ns)

labels_are : (ns : List (List ℕ)) → text_of (labels ns) ≡ labels_text ns
unfolding labels_text
labels_are [] = refl
labels_are (n ∷ ns) = ap (λ t. codes " at " ++ (n ++ t)) (names_are ns)

count_is : (many : Option ℕ) → text_of (count many) ≡ count_text many
unfolding count_text
count_is None = refl
count_is (Some n) = ap (λ t. codes ", " ++ t) (append-nil (decimal n))

pub member_text-Var : (n : List ℕ) (t : Ty) (at : ℕ) → member_text (member.Var n t at) ≡ codes "    var " ++ n ++ codes ": " ++ type_text t ++ codes "\n"
unfolding member_text type_text margin
member_text-Var n t at = line_is (before m.Var (codes "var") ++ name n ++ colon ++ gap ∷ type_pieces t) 1 ∙ ap (λ t. t ++ codes "\n") (three_front (codes "    var ") n (codes ": ") (text_of (type_pieces t)))

pub member_text-Setup : (ps : List Param) (body : List Stmt) (at : ℕ) → member_text (member.Setup ps body at) ≡ codes "    def setup" ++ params_text ps ++ codes ":\n" ++ stmts_text 2 body
unfolding member_text margin
member_text-Setup ps body at = headed_is (before m.Def (codes "def") ++ token m.Setup (codes "setup") ∷ params ps) body 1 ∙ ap (λ t. codes "    def setup" ++ t ++ codes ":\n" ++ stmts_text 2 body) (params_are ps)

pub member_text-Run : (body : List Stmt) (at : ℕ) → member_text (member.Run body at) ≡ codes "    def run():\n" ++ stmts_text 2 body
unfolding member_text margin
member_text-Run body at = headed_is (before m.Def (codes "def") ++ token m.Run (codes "run") ∷ params []) body 1

pub member_text-Method : (n : List ℕ) (ps : List Param) (body : List Stmt) (at : ℕ) → member_text (member.Method n ps body at) ≡ codes "    def " ++ n ++ params_text ps ++ codes ":\n" ++ stmts_text 2 body
unfolding member_text margin
member_text-Method n ps body at = headed_is (before m.Def (codes "def") ++ name n ++ params ps) body 1
    ∙ ap (λ t. t ++ codes ":\n" ++ stmts_text 2 body) (two_front (codes "    def ") n (text_of (params ps)) ∙ ap (λ t. codes "    def " ++ n ++ t) (params_are ps))

pub member_text-Receive : (p : PatternTree) (from : Option PatternTree) (ns : List (List ℕ)) (body : List Stmt) (at : ℕ)
    → member_text (member.Receive p from ns body at) ≡ codes "    receive " ++ pattern_text p ++ sender_text from ++ labels_text ns ++ codes ":\n" ++ stmts_text 2 body
unfolding member_text pattern_text margin
member_text-Receive p from ns body at = headed_is (before m.Receive (codes "receive") ++ pattern_pieces p ++ sender from ++ labels ns) body 1
    ∙ ap (λ t. t ++ codes ":\n" ++ stmts_text 2 body)
    (ap (λ t. codes "    receive " ++ t) (text_of-three (pattern_pieces p) (sender from) (labels ns))
    ∙ two_front (codes "    receive ") (text_of (pattern_pieces p) ++ text_of (sender from)) (text_of (labels ns))
    ∙ ap (λ t. t ++ text_of (labels ns)) (two_front (codes "    receive ") (text_of (pattern_pieces p)) (text_of (sender from)))
    ∙ ap (λ t. codes "    receive " ++ text_of (pattern_pieces p) ++ t ++ text_of (labels ns)) (sender_is from)
    ∙ ap (λ t. codes "    receive " ++ text_of (pattern_pieces p) ++ sender_text from ++ t) (labels_are ns))

pub message_text-of : (x : MessageDecl) → message_text x ≡ codes "message " ++ x.tag ++ codes "(" ++ separated (codes ", ") type_text x.parts ++ codes ")\n"
unfolding message_text type_text margin
message_text-of x = line_is (before m.Message (codes "message") ++ name x.tag ++ in_parens (listed (map type_pieces x.parts))) 0
    ∙ ap (λ t. codes "message " ++ (x.tag ++ t) ++ codes "\n") (in_parens_is (listed (map type_pieces x.parts)) ∙ ap (λ t. codes "(" ++ t ++ codes ")") (joined_is comma type_pieces x.parts))
    ∙ ap (λ t. t ++ codes "\n") (two_front (codes "message ") x.tag (codes "(" ++ (separated (codes ", ") type_text x.parts ++ codes ")")))
    ∙ ended (codes "message " ++ x.tag) (codes "(") (separated (codes ", ") type_text x.parts) (codes ")") (codes "\n")

pub class_text-of : (c : ClassTree) → class_text c ≡ codes "class " ++ c.name ++ codes " extends process:\n" ++ members_text c.members
unfolding class_text members_text member_text margin
class_text-of c =
    let header = before m.Class (codes "class") ++ name c.name ++ between m.Extends (codes "extends") ++ one m.Process (codes "process") ++ colon in
    lines_text-append (line header 0) (flat_map (λ x. member_lines x 1) c.members)
    ∙ ap (λ t. t ++ lines_text (flat_map (λ x. member_lines x 1) c.members))
    (line_is header 0 ∙ ap (λ t. t ++ codes "\n") (two_front (codes "class ") c.name (codes " extends process:")) ∙ append_assoc (codes "class " ++ c.name) (codes " extends process:") (codes "\n"))
    ∙ ap (λ t. codes "class " ++ c.name ++ codes " extends process:\n" ++ t) (blocks_are (λ x. member_lines x 1) c.members)

pub main_line_text-New : (n c : List ℕ) (many : Option ℕ) (at : ℕ) → main_line_text (main_line.New n c many at) ≡ codes "    " ++ n ++ codes " = new(" ++ c ++ count_text many ++ codes ")\n"
unfolding main_line_text margin
main_line_text-New n c many at = line_is (name n ++ between m.Assign (codes "=") ++ token m.New (codes "new") ∷ in_parens (name c ++ count many)) 1
    ∙ ap (λ t. codes "    " ++ (n ++ (codes " = new(" ++ (c ++ t))) ++ codes "\n") (text_of-append (count many) close_paren ∙ ap (λ t. t ++ codes ")") (count_is many))
    ∙ ap (λ t. t ++ codes "\n") (three_front (codes "    ") n (codes " = new(") (c ++ (count_text many ++ codes ")")))
    ∙ ended (codes "    " ++ n ++ codes " = new(") c (count_text many) (codes ")") (codes "\n")

pub main_line_text-Setup : (n : List ℕ) (xs : List Expr) (at : ℕ) → main_line_text (main_line.Setup n xs at) ≡ codes "    setup(" ++ n ++ flat_map (λ x. codes ", " ++ text_at either x) xs ++ codes ")\n"
unfolding main_line_text text_at margin
main_line_text-Setup n xs at = line_is (token m.Setup (codes "setup") ∷ in_parens (name n ++ each_after comma (all_at_least either (map shown xs)))) 1
    ∙ ap (λ t. codes "    setup(" ++ (n ++ t) ++ codes "\n")
    (text_of-append (each_after comma (all_at_least either (map shown xs))) close_paren
    ∙ ap (λ t. t ++ codes ")") (ap (λ pss. text_of (each_after comma pss)) (operands_are either xs) ∙ behind_is comma (λ x. at_least either (shown x)) xs))
    ∙ ended (codes "    setup(") n (flat_map (λ x. codes ", " ++ text_at either x) xs) (codes ")") (codes "\n")

pub main_text-of : (ls : List MainLine) → main_text ls ≡ codes "def main():\n" ++ main_lines_text ls
unfolding main_text main_lines_text main_line_text
main_text-of ls =
    lines_text-append (line (before m.Def (codes "def") ++ token m.Main (codes "main") ∷ in_parens [] ++ colon) 0) (flat_map (λ l. main_line_lines l 1) ls)
    ∙ ap (λ t. codes "def main():\n" ++ t) (blocks_are (λ l. main_line_lines l 1) ls)

pub tree_text-of : (t : Tree) → tree_text t ≡ kind_text t.kind ++ messages_text t.messages ++ classes_text t.classes ++ main_text t.main
unfolding tree_text tree_lines kind_text messages_text message_text classes_text class_text main_text
tree_text-of t =
    let kind = kind_lines t.kind 0 in
    let messages = flat_map (λ x. message_lines x 0) t.messages in
    let classes = flat_map (λ c. class_lines c 0) t.classes in
    lines_text-append (kind ++ messages ++ classes) (main_lines t.main 0)
    ∙ ap (λ u. u ++ lines_text (main_lines t.main 0))
    (lines_text-append (kind ++ messages) classes
    ∙ rw (lines_text-append kind messages, blocks_are (λ x. message_lines x 0) t.messages, blocks_are (λ c. class_lines c 0) t.classes) refl)

-- How programs are printed.
use Rattle.std.specs.Prelude.{ℕ, ◌+◌, List, [], ◌∷◌, ◌++◌, codes, decimal, map, Option, Some, None}
use Rattle.std.specs.List.{flat_map}
use Rattle.da_values.specs.declared.token.Mark.TheVariants as m
use Rattle.da_lang.specs.declared.tree.ClassTree.{ClassTree}
use Rattle.da_lang.specs.declared.tree.MainLine.{MainLine}
use Rattle.da_lang.specs.declared.tree.MainLine.TheVariants as main_line
use Rattle.da_lang.specs.declared.tree.Member.{Member}
use Rattle.da_lang.specs.declared.tree.Member.TheVariants as member
use Rattle.da_lang.specs.declared.tree.MessageDecl.{MessageDecl}
use Rattle.da_lang.specs.declared.tree.Param.{Param}
use Rattle.da_lang.specs.declared.tree.PatternTree.{PatternTree}
use Rattle.da_lang.specs.declared.tree.Stmt.{Stmt}
use Rattle.da_lang.specs.declared.tree.Tree.{Tree}
use Rattle.da_lang.specs.declared.ty.ChannelKind.{ChannelKind}
use Rattle.da_lang.specs.declared.ty.ChannelKind.TheVariants as kind
use Rattle.da_unparse.specs.Expressions.{all_at_least, either, shown, pattern_pieces, type_pieces}
use Rattle.da_unparse.specs.Lines.{Line, lines_text}
use Rattle.da_unparse.specs.Pieces.{Piece, gap, token, one, name, comma, colon, between, before, each_after, in_parens, listed}
use Rattle.da_unparse.specs.Statements.{Block, line, then, body_lines}

-- a header with its colon, and the statements of its block
abbrev pub with_body : List Piece → List Stmt → Block
with_body header stmts = then (line (header ++ colon)) (body_lines stmts)

abbrev pub param : Param → List Piece
param p = name p.name ++ colon ++ gap ∷ type_pieces p.ty

abbrev pub params : List Param → List Piece
params ps = in_parens (listed (map param ps))

abbrev pub sender : Option PatternTree → List Piece
sender None = []
sender (Some p) = between m.From (codes "from") ++ pattern_pieces p

abbrev pub labels : List (List ℕ) → List Piece
labels [] = []
labels (n ∷ ns) = between m.At (codes "at") ++ listed (map name (n ∷ ns))

abbrev pub member_lines : Member → Block
member_lines (member.Var n x at) = line (before m.Var (codes "var") ++ name n ++ colon ++ gap ∷ type_pieces x)
member_lines (member.Setup ps body at) = with_body (before m.Def (codes "def") ++ token m.Setup (codes "setup") ∷ params ps) body
member_lines (member.Run body at) = with_body (before m.Def (codes "def") ++ token m.Run (codes "run") ∷ params []) body
member_lines (member.Method n ps body at) = with_body (before m.Def (codes "def") ++ name n ++ params ps) body
member_lines (member.Receive p from at_labels body at) = with_body (before m.Receive (codes "receive") ++ pattern_pieces p ++ sender from ++ labels at_labels) body

abbrev pub message_lines : MessageDecl → Block
message_lines x = line (before m.Message (codes "message") ++ name x.tag ++ in_parens (listed (map type_pieces x.parts)))

abbrev pub class_lines : ClassTree → Block
class_lines c level =
    line (before m.Class (codes "class") ++ name c.name ++ between m.Extends (codes "extends") ++ one m.Process (codes "process") ++ colon) level
    ++ flat_map (λ x. member_lines x (level + 1)) c.members

abbrev pub count : Option ℕ → List Piece
count None = []
count (Some n) = comma ++ one m.Number (decimal n)

abbrev pub main_line_lines : MainLine → Block
main_line_lines (main_line.New n c many at) = line (name n ++ between m.Assign (codes "=") ++ token m.New (codes "new") ∷ in_parens (name c ++ count many))
main_line_lines (main_line.Setup n xs at) = line (token m.Setup (codes "setup") ∷ in_parens (name n ++ each_after comma (all_at_least either (map shown xs))))

abbrev pub main_lines : List MainLine → Block
main_lines ls level = line (before m.Def (codes "def") ++ token m.Main (codes "main") ∷ in_parens [] ++ colon) level ++ flat_map (λ l. main_line_lines l (level + 1)) ls

-- the line of the kind of channels, where it is not the one that a program without it has
abbrev pub kind_lines : ChannelKind → Block
kind_lines kind.FifoReliable = line (before m.Channel (codes "channel") ++ before m.Fifo (codes "fifo") ++ one m.Reliable (codes "reliable"))
kind_lines kind.UnorderedReliable = line (before m.Channel (codes "channel") ++ before m.Unordered (codes "unordered") ++ one m.Reliable (codes "reliable"))
kind_lines kind.FifoUnreliable = line (before m.Channel (codes "channel") ++ before m.Fifo (codes "fifo") ++ one m.Unreliable (codes "unreliable"))
kind_lines kind.UnorderedUnreliable = λ level. []

unfoldable pub tree_lines : Tree → List Line
tree_lines t = kind_lines t.kind 0 ++ flat_map (λ x. message_lines x 0) t.messages ++ flat_map (λ c. class_lines c 0) t.classes ++ main_lines t.main 0

-- the text of a tree
unfoldable pub tree_text : Tree → List ℕ
tree_text t = lines_text (tree_lines t)

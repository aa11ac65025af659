-- The texts of the parts of a program, in the shape in which code appends them.
use Rattle.std.specs.Prelude.{ℕ, List, [], ◌∷◌, ◌++◌, codes, decimal, Option, Some, None}
use Rattle.std.specs.List.{flat_map}
use Rattle.da_lang.specs.declared.tree.ClassTree.{ClassTree}
use Rattle.da_lang.specs.declared.tree.MainLine.{MainLine}
use Rattle.da_lang.specs.declared.tree.Member.{Member}
use Rattle.da_lang.specs.declared.tree.MessageDecl.{MessageDecl}
use Rattle.da_lang.specs.declared.tree.Param.{Param}
use Rattle.da_lang.specs.declared.tree.PatternTree.{PatternTree}
use Rattle.da_lang.specs.declared.ty.ChannelKind.{ChannelKind}
use Rattle.da_unparse.specs.Lines.{lines_text}
use Rattle.da_unparse.specs.Pieces.{text_of}
use Rattle.da_unparse.specs.Programs.{param, kind_lines, message_lines, member_lines, class_lines, main_line_lines, main_lines}
use Rattle.da_unparse.specs.Texts.{separated, pattern_text}

unfoldable pub param_text : Param → List ℕ
param_text p = text_of (param p)

-- parameters in parentheses
unfoldable pub params_text : List Param → List ℕ
params_text ps = codes "(" ++ separated (codes ", ") param_text ps ++ codes ")"

unfoldable pub sender_text : Option PatternTree → List ℕ
sender_text None = []
sender_text (Some p) = codes " from " ++ pattern_text p

unfoldable pub labels_text : List (List ℕ) → List ℕ
labels_text [] = []
labels_text (n ∷ ns) = codes " at " ++ separated (codes ", ") (λ name. name) (n ∷ ns)

unfoldable pub count_text : Option ℕ → List ℕ
count_text None = []
count_text (Some n) = codes ", " ++ decimal n

-- a member of a class, with its block
unfoldable pub member_text : Member → List ℕ
member_text x = lines_text (member_lines x 1)

unfoldable pub members_text : List Member → List ℕ
members_text = flat_map member_text

unfoldable pub kind_text : ChannelKind → List ℕ
kind_text k = lines_text (kind_lines k 0)

unfoldable pub message_text : MessageDecl → List ℕ
message_text x = lines_text (message_lines x 0)

unfoldable pub messages_text : List MessageDecl → List ℕ
messages_text = flat_map message_text

unfoldable pub class_text : ClassTree → List ℕ
class_text c = lines_text (class_lines c 0)

unfoldable pub classes_text : List ClassTree → List ℕ
classes_text = flat_map class_text

unfoldable pub main_line_text : MainLine → List ℕ
main_line_text l = lines_text (main_line_lines l 1)

unfoldable pub main_lines_text : List MainLine → List ℕ
main_lines_text = flat_map main_line_text

unfoldable pub main_text : List MainLine → List ℕ
main_text ls = lines_text (main_lines ls 0)

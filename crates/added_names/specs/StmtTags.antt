-- The tags in a program, in the order of the text, and those that get a line.
use Rattle.std.specs.Prelude.{ℕ, List, [], ◌++◌, map, Option, Some, None, option_to_list, flat_map}
use Rattle.da_lang.specs.declared.tree.Branch.{Branch}
use Rattle.da_lang.specs.declared.tree.ClassTree.{ClassTree}
use Rattle.da_lang.specs.declared.tree.MainLine.{MainLine}
use Rattle.da_lang.specs.declared.tree.MainLine.TheVariants as main_line
use Rattle.da_lang.specs.declared.tree.Member.{Member}
use Rattle.da_lang.specs.declared.tree.Member.TheVariants as member
use Rattle.da_lang.specs.declared.tree.Expr.{Expr}
use Rattle.da_lang.specs.declared.tree.PatternTree.{PatternTree}
use Rattle.da_lang.specs.declared.tree.Stmt.{Stmt}
use Rattle.da_lang.specs.declared.tree.Stmt.TheFolds.{fold-Stmt, fold-Branch, fold-TimeoutTree}
use Rattle.da_lang.specs.declared.tree.Stmt.TheOpen.{Stmt-F, Branch-F, TimeoutTree-F}
use Rattle.da_lang.specs.declared.tree.TimeoutTree.{TimeoutTree}
use Rattle.da_lang.specs.declared.tree.Tree.{Tree}
use Rattle.added_names.specs.Firsts.{firsts}
use Rattle.added_names.specs.Tags.{Tags, all, tags_in, sent_tag, pattern_tag, pattern_tags, sender_tags}

-- a block that may be missing
abbrev pub all_if : Option (List Tags) → Tags
all_if None = []
all_if (Some parts) = all parts

-- the tag of a message that is sent, and those in it and in its recipients
unfoldable pub send_tags : ℕ → Expr → Expr → Tags
send_tags line x to = sent_tag line x ++ tags_in line x ++ tags_in line to

-- a handler's patterns
unfoldable pub handler_tags : ℕ → PatternTree → Option PatternTree → Tags
handler_tags line message from = pattern_tag line message ++ pattern_tags line message ++ sender_tags line from

abbrev pub stmt_step : Stmt-F Tags Tags Tags → Tags
stmt_step (Stmt-F.Assign name x line) = tags_in line x
stmt_step (Stmt-F.Add name x line) = tags_in line x
stmt_step (Stmt-F.Del name x line) = tags_in line x
stmt_step (Stmt-F.Send x to line) = send_tags line x to
stmt_step (Stmt-F.Output x line) = tags_in line x
stmt_step (Stmt-F.Pass line) = []
stmt_step (Stmt-F.Label name line) = []
stmt_step (Stmt-F.Call name xs line) = flat_map (tags_in line) xs
stmt_step (Stmt-F.If branches other line) = all branches ++ all_if other
stmt_step (Stmt-F.While x body line) = tags_in line x ++ all body
stmt_step (Stmt-F.For name x body line) = tags_in line x ++ all body
stmt_step (Stmt-F.AwaitOne x line) = tags_in line x
stmt_step (Stmt-F.Await branches timeout line) = all branches ++ all (option_to_list timeout)

abbrev pub branch_step : Branch-F Tags Tags Tags → Tags
branch_step b = tags_in b.line b.cond ++ all b.body

abbrev pub timeout_step : TimeoutTree-F Tags Tags Tags → Tags
timeout_step t = all t.body

unfoldable pub stmt_tags : Stmt → Tags
stmt_tags = fold-Stmt Tags Tags Tags stmt_step branch_step timeout_step

unfoldable pub branch_tags : Branch → Tags
branch_tags = fold-Branch Tags Tags Tags stmt_step branch_step timeout_step

unfoldable pub timeout_tags : TimeoutTree → Tags
timeout_tags = fold-TimeoutTree Tags Tags Tags stmt_step branch_step timeout_step

-- the block of `else` and of `timeout`, where there is one
unfoldable pub else_tags : Option (List Stmt) → Tags
else_tags None = []
else_tags (Some body) = flat_map stmt_tags body

unfoldable pub late_tags : Option TimeoutTree → Tags
late_tags None = []
late_tags (Some t) = timeout_tags t

unfoldable pub member_tags : Member → Tags
member_tags (member.Var name ty line) = []
member_tags (member.Setup params body line) = flat_map stmt_tags body
member_tags (member.Run body line) = flat_map stmt_tags body
member_tags (member.Method name params body line) = flat_map stmt_tags body
member_tags (member.Receive message from labels body line) =
    handler_tags line message from ++ flat_map stmt_tags body

unfoldable pub class_tags : ClassTree → Tags
class_tags c = flat_map member_tags c.members

unfoldable pub main_tags : MainLine → Tags
main_tags (main_line.New name class count line) = []
main_tags (main_line.Setup name args line) = flat_map (tags_in line) args

-- all of a program, as often as they appear
unfoldable pub tree_tags : Tree → Tags
tree_tags t = flat_map class_tags t.classes ++ flat_map main_tags t.main

-- those without a line, each where it appears first
unfoldable pub added_tags : Tree → Tags
added_tags t = firsts (λ x. x.tag) (map (λ m. m.tag) t.messages) (tree_tags t)

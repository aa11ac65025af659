-- Trees but for the numbers of lines: all lines are 0.
use Rattle.std.specs.Prelude.{map}
use Rattle.da_lang.specs.declared.tree.Branch.{Branch, roll-Branch}
use Rattle.da_lang.specs.declared.tree.ClassTree.{ClassTree}
use Rattle.da_lang.specs.declared.tree.MainLine.{MainLine}
use Rattle.da_lang.specs.declared.tree.MainLine.TheVariants as main_line
use Rattle.da_lang.specs.declared.tree.Member.{Member}
use Rattle.da_lang.specs.declared.tree.Member.TheVariants as member
use Rattle.da_lang.specs.declared.tree.MessageDecl.{MessageDecl}
use Rattle.da_lang.specs.declared.tree.Stmt.{Stmt}
use Rattle.da_lang.specs.declared.tree.Stmt.TheFolds.{fold-Stmt, fold-Branch, fold-TimeoutTree}
use Rattle.da_lang.specs.declared.tree.Stmt.TheOpen.{Stmt-F, Branch-F, TimeoutTree-F}
use Rattle.da_lang.specs.declared.tree.Stmt.TheVariants as stmt
use Rattle.da_lang.specs.declared.tree.TimeoutTree.{TimeoutTree, roll-TimeoutTree}
use Rattle.da_lang.specs.declared.tree.Tree.{Tree}

abbrev pub unlined_stmt_step : Stmt-F Stmt Branch TimeoutTree → Stmt
unlined_stmt_step (Stmt-F.Assign n x at) = stmt.Assign n x 0
unlined_stmt_step (Stmt-F.Add n x at) = stmt.Add n x 0
unlined_stmt_step (Stmt-F.Del n x at) = stmt.Del n x 0
unlined_stmt_step (Stmt-F.Send x y at) = stmt.Send x y 0
unlined_stmt_step (Stmt-F.Output x at) = stmt.Output x 0
unlined_stmt_step (Stmt-F.Pass at) = stmt.Pass 0
unlined_stmt_step (Stmt-F.Label n at) = stmt.Label n 0
unlined_stmt_step (Stmt-F.Call n xs at) = stmt.Call n xs 0
unlined_stmt_step (Stmt-F.If bs other at) = stmt.If bs other 0
unlined_stmt_step (Stmt-F.While x body at) = stmt.While x body 0
unlined_stmt_step (Stmt-F.For n x body at) = stmt.For n x body 0
unlined_stmt_step (Stmt-F.AwaitOne x at) = stmt.AwaitOne x 0
unlined_stmt_step (Stmt-F.Await bs over at) = stmt.Await bs over 0

abbrev pub unlined_branch_step : Branch-F Stmt Branch TimeoutTree → Branch
unlined_branch_step b = roll-Branch (record { cond = b.cond; body = b.body; line = 0 })

abbrev pub unlined_timeout_step : TimeoutTree-F Stmt Branch TimeoutTree → TimeoutTree
unlined_timeout_step t = roll-TimeoutTree (record { body = t.body; line = 0 })

unfoldable pub unlined_stmt : Stmt → Stmt
unlined_stmt = fold-Stmt Stmt Branch TimeoutTree unlined_stmt_step unlined_branch_step unlined_timeout_step

unfoldable pub unlined_branch : Branch → Branch
unlined_branch = fold-Branch Stmt Branch TimeoutTree unlined_stmt_step unlined_branch_step unlined_timeout_step

unfoldable pub unlined_timeout : TimeoutTree → TimeoutTree
unlined_timeout = fold-TimeoutTree Stmt Branch TimeoutTree unlined_stmt_step unlined_branch_step unlined_timeout_step

abbrev pub unlined_member : Member → Member
unlined_member (member.Var n x at) = member.Var n x 0
unlined_member (member.Setup ps body at) = member.Setup ps (map unlined_stmt body) 0
unlined_member (member.Run body at) = member.Run (map unlined_stmt body) 0
unlined_member (member.Method n ps body at) = member.Method n ps (map unlined_stmt body) 0
unlined_member (member.Receive p from at_labels body at) = member.Receive p from at_labels (map unlined_stmt body) 0

abbrev pub unlined_message : MessageDecl → MessageDecl
unlined_message x = record { tag = x.tag; parts = x.parts; line = 0 }

abbrev pub unlined_class : ClassTree → ClassTree
unlined_class c = record { name = c.name; members = map unlined_member c.members; line = 0 }

abbrev pub unlined_main_line : MainLine → MainLine
unlined_main_line (main_line.New n c many at) = main_line.New n c many 0
unlined_main_line (main_line.Setup n xs at) = main_line.Setup n xs 0

unfoldable pub unlined : Tree → Tree
unlined t = record { kind = t.kind; messages = map unlined_message t.messages; classes = map unlined_class t.classes; main = map unlined_main_line t.main }

-- The tree, and the program, in which a function has taken each declared type to another one.
use Rattle.std.specs.Prelude.{map, option_map}
use Rattle.da_lang.specs.declared.program.Class.{Class}
use Rattle.da_lang.specs.declared.program.Program.{Program}
use Rattle.da_lang.specs.declared.tree.ClassTree.{ClassTree}
use Rattle.da_lang.specs.declared.tree.Member.{Member}
use Rattle.da_lang.specs.declared.tree.Member.TheVariants as member
use Rattle.da_lang.specs.declared.tree.MessageDecl.{MessageDecl}
use Rattle.da_lang.specs.declared.tree.Param.{Param}
use Rattle.da_lang.specs.declared.tree.Tree.{Tree}
use Rattle.da_lang.specs.declared.ty.Ty.{Ty}

module _ (put : Ty → Ty) where
  abbrev pub put_param : Param → Param
  put_param p = record { name = p.name; ty = put p.ty }

  abbrev pub put_member : Member → Member
  put_member (member.Var name ty line) = member.Var name (put ty) line
  put_member (member.Setup params stmts line) = member.Setup (map put_param params) stmts line
  put_member (member.Run stmts line) = member.Run stmts line
  put_member (member.Method name params stmts line) = member.Method name (map put_param params) stmts line
  put_member (member.Receive message from labels stmts line) = member.Receive message from labels stmts line

  abbrev pub put_class : ClassTree → ClassTree
  put_class c = record { name = c.name; members = map put_member c.members; line = c.line }

  abbrev pub put_message : MessageDecl → MessageDecl
  put_message x = record { tag = x.tag; parts = map put x.parts; line = x.line }

  abbrev pub put_tree : Tree → Tree
  put_tree t = record { kind = t.kind; messages = map put_message t.messages; classes = map put_class t.classes; main = t.main }

  -- a slot that has no type gets none
  abbrev pub put_slots : Class → Class
  put_slots c = record c { slots = map (option_map put) c.slots }

  abbrev pub put_program : Program → Program
  put_program p = record { kind = p.kind; messages = map put_message p.messages; classes = map put_slots p.classes; procs = p.procs }

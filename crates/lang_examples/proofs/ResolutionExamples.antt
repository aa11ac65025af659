-- The program of a tree: PING, whose class has a query, a handler and parameters of `setup`.
use Rattle.std.specs.Prelude.{◌≡◌, refl, ℕ, pos, false, List, [], ◌∷◌, codes, Option, Some, None}
use Rattle.da_values.specs.declared.value.Value.TheVariants as kept
use Rattle.da_lang.specs.declared.program.Alt.{roll-Alt}
use Rattle.da_lang.specs.declared.program.ChainPart.{roll-ChainPart}
use Rattle.da_lang.specs.declared.program.Class.{Class}
use Rattle.da_lang.specs.declared.program.Item.{Item, roll-Item}
use Rattle.da_lang.specs.declared.program.ItemKind.{ItemKind}
use Rattle.da_lang.specs.declared.program.ItemKind.TheVariants as it
use Rattle.da_lang.specs.declared.program.RExpr.TheVariants as re
use Rattle.da_lang.specs.declared.program.Program.{Program}
use Rattle.da_lang.specs.declared.program.SetupCall.{SetupCall}
use Rattle.da_lang.specs.declared.query.Cond.{Cond}
use Rattle.da_lang.specs.declared.query.Cond.TheVariants as co
use Rattle.da_lang.specs.declared.query.Operand.TheVariants as od
use Rattle.da_lang.specs.declared.query.Pattern.{Pattern}
use Rattle.da_lang.specs.declared.query.Pattern.TheVariants as pa
use Rattle.da_lang.specs.declared.query.Query.{Query}
use Rattle.da_lang.specs.declared.query.Query.TheVariants as qu
use Rattle.da_lang.specs.declared.query.RGen.{RGen}
use Rattle.da_lang.specs.declared.query.Source.TheVariants as so
use Rattle.da_lang.specs.declared.query.Term.TheVariants as te
use Rattle.da_lang.specs.declared.tree.ArithOp.TheVariants as op
use Rattle.da_lang.specs.declared.tree.ChainTree.{roll-ChainTree}
use Rattle.da_lang.specs.declared.tree.ClassTree.{ClassTree}
use Rattle.da_lang.specs.declared.tree.CmpOp.TheVariants as cmp
use Rattle.da_lang.specs.declared.tree.Expr.{Expr}
use Rattle.da_lang.specs.declared.tree.Expr.TheVariants as ex
use Rattle.da_lang.specs.declared.tree.Expr.TheVariants.{outs-Quant, outs-Name, outs-Int, outs-Truth}
use Rattle.da_lang.specs.declared.tree.GenTree.{roll-GenTree}
use Rattle.da_lang.specs.declared.tree.MainLine.TheVariants as main_line
use Rattle.da_lang.specs.declared.tree.Member.{Member}
use Rattle.da_lang.specs.declared.tree.Member.TheVariants as member
use Rattle.da_lang.specs.declared.tree.PatternTree.TheVariants as pattern
use Rattle.da_lang.specs.declared.tree.PeerTree.{PeerTree}
use Rattle.da_lang.specs.declared.tree.PeerTree.TheVariants as peer
use Rattle.da_lang.specs.declared.tree.SourceTree.TheVariants as source
use Rattle.da_lang.specs.declared.tree.Stmt.TheVariants as stmt
use Rattle.da_lang.specs.declared.tree.Tree.{Tree}
use Rattle.da_lang.specs.declared.ty.ChannelKind.TheVariants as kind
use Rattle.da_lang.specs.declared.ty.Ty.{Ty}
use Rattle.da_lang.specs.declared.ty.Ty.TheVariants as ty
use Rattle.da_lang.specs.BodyMeaning.{copies}
use Rattle.da_lang.specs.ExprMeaning.{InSlot, meant}
use Rattle.da_lang.specs.Resolution.{resolved, resolved_class}
use Rattle.da_lang.specs.NameRules.{name_refusals}
use Rattle.da_lang.proofs.Computing.{finding, resolving}

-- a call inlined twice, each with a slot of its own: `f(1)` and `f(2)` where `f(k)` is `x = k`
twice : ClassTree
twice = record {
  name = codes "C";
  members = member.Var (codes "x") ty.Int 2
      ∷ member.Run (stmt.Call (codes "f") (ex.Int (pos 1) ∷ []) 4 ∷ stmt.Call (codes "f") (ex.Int (pos 2) ∷ []) 5 ∷ []) 3
      ∷ member.Method (codes "f") (record { name = codes "k"; ty = ty.Int } ∷ []) (stmt.Assign (codes "x") (ex.Name (codes "k")) 7 ∷ []) 6 ∷ [];
  line = 1;
}

abbrev pub at : ℕ → ItemKind → Item
at line kind = roll-Item (record { line = line; kind = kind })

inlined_twice : resolved_class twice ≡ record {
  name = codes "C";
  slots = Some ty.Int ∷ Some ty.Int ∷ Some ty.Int ∷ [];
  params = [];
  setup = [];
  run = at 4 (it.Call (record { slot = 2; value = re.Const (kept.Int (pos 1)) } ∷ []) (at 7 (it.Assign 1 (re.Slot 2)) ∷ []))
      ∷ at 5 (it.Call (record { slot = 3; value = re.Const (kept.Int (pos 2)) } ∷ []) (at 7 (it.Assign 1 (re.Slot 3)) ∷ [])) ∷ [];
  handlers = [];
  queries = [];
  line = 1;
}
unfolding resolved_class copies twice
inlined_twice = simp resolving refl

-- PING as a tree: its class; its messages and its two processes
abbrev pub ping_class_tree : ClassTree
ping_class_tree = record {
  name = codes "P";
  members = member.Var (codes "peer") ty.Proc 4
      ∷ member.Setup (record { name = codes "other"; ty = ty.Proc } ∷ []) (stmt.Assign (codes "peer") (ex.Name (codes "other")) 6 ∷ []) 5
      ∷ member.Run
      (stmt.Send (ex.Tuple (ex.Text (codes "ping") ∷ ex.Int (pos 5) ∷ [])) (ex.Name (codes "peer")) 8
      ∷ stmt.AwaitOne (ex.Quant false (roll-GenTree (record { message = pattern.Tuple (pattern.Text (codes "pong") ∷ pattern.Name (codes "n") ∷ []); peer = None; source = source.Received }) ∷ []) (Some (ex.Cmp cmp.Gt (ex.Name (codes "n")) (ex.Int (pos 5))))) 9
      ∷ stmt.Output (ex.Name (codes "n")) 10 ∷ []) 7
      ∷ member.Receive (pattern.Tuple (pattern.Text (codes "ping") ∷ pattern.Name (codes "k") ∷ [])) (Some (pattern.Name (codes "who"))) []
      (stmt.Send (ex.Tuple (ex.Text (codes "pong") ∷ ex.Chain (ex.Name (codes "k")) (roll-ChainTree (record { op = op.Plus; operand = ex.Int (pos 1) }) ∷ []) ∷ [])) (ex.Name (codes "who")) 12 ∷ []) 11
      ∷ [];
  line = 3;
}

abbrev pub ping_tree : Tree
ping_tree = record {
  kind = kind.UnorderedUnreliable;
  messages = record { tag = codes "ping"; parts = ty.Int ∷ []; line = 1 } ∷ record { tag = codes "pong"; parts = ty.Int ∷ []; line = 2 } ∷ [];
  classes = ping_class_tree ∷ [];
  main = main_line.New (codes "a") (codes "P") None 14 ∷ main_line.New (codes "b") (codes "P") None 15
      ∷ main_line.Setup (codes "a") (ex.Name (codes "b") ∷ []) 16 ∷ main_line.Setup (codes "b") (ex.Name (codes "a") ∷ []) 17 ∷ [];
}

-- `n > 5`, `some ('pong', n) in received`
abbrev pub over_five : Cond
over_five = co.Cmp cmp.Gt (od.Term (te.Part 1)) (od.Term (te.Const (kept.Int (pos 5))))

abbrev pub pongs : List RGen
pongs = record { source = so.Received; message = pa.Tuple (pa.Const (kept.Text (codes "pong")) ∷ pa.Bind ∷ []); peer = pa.Any } ∷ []

-- with the types of the last three slots, which `resolve` leaves out
abbrev pub ping_class : List (Option Ty) → Class
ping_class types = record {
  name = codes "P";
  slots = Some ty.Proc ∷ Some ty.Proc ∷ types;
  params = 2 ∷ [];
  setup = at 6 (it.Assign 1 (re.Slot 2)) ∷ [];
  run = at 8 (it.Send (re.Tuple (re.Const (kept.Text (codes "ping")) ∷ re.Const (kept.Int (pos 5)) ∷ [])) (re.Slot 1))
      ∷ at 9 (it.Await (roll-Alt (record { cond = co.Quant false pongs (Some over_five); found = Some 1; binds = 3 ∷ []; body = []; line = 9 }) ∷ []) None None)
      ∷ at 10 (it.Output (re.Slot 3)) ∷ [];
  handlers = record {
    message = pa.Tuple (pa.Const (kept.Text (codes "ping")) ∷ pa.Bind ∷ []);
    from = pa.Bind;
    at = [];
    binds = 4 ∷ 5 ∷ [];
    body = at 12 (it.Send (re.Tuple (re.Const (kept.Text (codes "pong")) ∷ re.Chain (re.Slot 4) (roll-ChainPart (record { op = op.Plus; operand = re.Const (kept.Int (pos 1)) }) ∷ []) ∷ [])) (re.Slot 5)) ∷ [];
    line = 11;
  } ∷ [];
  queries = qu.Quant false pongs (Some over_five) ∷ [];
  line = 3;
}

abbrev pub ping : List (Option Ty) → Program
ping types = record {
  kind = kind.UnorderedUnreliable;
  messages = ping_tree.messages;
  classes = ping_class types ∷ [];
  procs = record { class = 0; setup = Some (record { args = re.Const (kept.Proc 2) ∷ []; line = 16 }) }
      ∷ record { class = 0; setup = Some (record { args = re.Const (kept.Proc 1) ∷ []; line = 17 }) } ∷ [];
}

pub ping_class_resolved : resolved_class ping_class_tree ≡ ping_class (None ∷ None ∷ None ∷ [])
unfolding resolved_class copies
ping_class_resolved = simp resolving refl

ping_resolved : resolved ping_tree ≡ ping (None ∷ None ∷ None ∷ [])
unfolding resolved resolved_class copies
ping_resolved = simp resolving refl

ping_named : name_refusals ping_tree ≡ []
unfolding name_refusals
ping_named = simp finding refl

-- PROCESSES: `a = new(C)`, `ps = new(C, 2)`, `n = new(C, 0)`, `b = new(C)`, and `setup(ps, a, ps - {self}, n)` for a class
-- with three parameters. a is process 1, ps are 2 and 3, n is nobody, and b is 4; only ps are set up.

abbrev three_params : Member
three_params = member.Setup (record { name = codes "x"; ty = ty.Proc } ∷ record { name = codes "y"; ty = ty.Set ty.Proc } ∷ record { name = codes "z"; ty = ty.Set ty.Proc } ∷ []) (stmt.Pass 3 ∷ []) 2

abbrev ps : Expr
ps = ex.Name (codes "ps")

abbrev many_processes : Tree
many_processes = record {
  kind = kind.UnorderedUnreliable;
  messages = [];
  classes = record { name = codes "C"; members = three_params ∷ member.Run (stmt.Pass 5 ∷ []) 4 ∷ []; line = 1 } ∷ [];
  main = main_line.New (codes "a") (codes "C") None 7 ∷ main_line.New (codes "ps") (codes "C") (Some 2) 8 ∷ main_line.New (codes "n") (codes "C") (Some 0) 9 ∷ main_line.New (codes "b") (codes "C") None 10
      ∷ main_line.Setup (codes "ps") (ex.Name (codes "a") ∷ ex.Chain ps (roll-ChainTree (record { op = op.Minus; operand = ex.SetOf (ex.Me ∷ []) }) ∷ []) ∷ ex.Name (codes "n") ∷ []) 11 ∷ [];
}

abbrev set_up : Option SetupCall
set_up = Some (record {
  args = re.Const (kept.Proc 1) ∷ re.Chain (re.Procs (2 ∷ 3 ∷ [])) (roll-ChainPart (record { op = op.Minus; operand = re.SetOf (re.Me ∷ []) }) ∷ []) ∷ re.Procs [] ∷ [];
  line = 11;
})

four_processes : (resolved many_processes).procs ≡ record { class = 0; setup = None } ∷ record { class = 0; setup = set_up } ∷ record { class = 0; setup = set_up } ∷ record { class = 0; setup = None } ∷ []
unfolding resolved
four_processes = simp resolving refl

-- WHAT BREAKS A RULE OF TYPES is kept as what equals no value; s is in slot 1

abbrev asked : Expr → List Query
asked x = ((meant x).outside ((codes "s", InSlot 1) ∷ []) (record { slots = []; queries = [] })).1.queries

-- `some x in s | x * 2 > 3`
product_in_query : asked (ex.Quant false (roll-GenTree (record { message = pattern.Name (codes "x"); peer = None; source = source.Name (codes "s") }) ∷ [])
    (Some (ex.Cmp cmp.Gt (ex.Chain (ex.Name (codes "x")) (roll-ChainTree (record { op = op.Times; operand = ex.Int (pos 2) }) ∷ [])) (ex.Int (pos 3)))))
    ≡ qu.Quant false (record { source = so.Slot 1; message = pa.Bind; peer = pa.Any } ∷ []) (Some (co.Cmp cmp.Gt (od.Term te.Foreign) (od.Term (te.Const (kept.Int (pos 3)))))) ∷ []
product_in_query = simp (asked, resolving) refl

-- `some ('m', k) from w in sent`, and the same with `to`
abbrev over_sent : PeerTree → Expr
over_sent p = ex.Quant false (roll-GenTree (record { message = pattern.Tuple (pattern.Text (codes "m") ∷ pattern.Name (codes "k") ∷ []); peer = Some p; source = source.Sent }) ∷ []) None

abbrev sent_with : Pattern → List Query
sent_with p = qu.Quant false (record { source = so.Sent; message = pa.Tuple (pa.Const (kept.Text (codes "m")) ∷ pa.Bind ∷ []); peer = p } ∷ []) None ∷ []

from_over_sent : asked (over_sent (peer.From (pattern.Name (codes "w")))) ≡ sent_with (pa.Tuple (pa.Equal te.Foreign ∷ pa.Bind ∷ []))
from_over_sent = simp (asked, over_sent, resolving) refl

to_over_sent : asked (over_sent (peer.To (pattern.Name (codes "w")))) ≡ sent_with pa.Bind
to_over_sent = simp (asked, over_sent, resolving) refl

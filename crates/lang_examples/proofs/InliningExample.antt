-- The numbers of slots and queries in a class whose method is inlined three times. The members stand in an order in which
-- a handler comes first; its slots come last all the same.
use Rattle.std.specs.Prelude.{◌≡◌, refl, ℕ, ◌+◌, false, List, [], ◌∷◌, ◌++◌, length, codes, Option, Some, None}
use Rattle.std.proofs.Common.{◌∙◌, ap}
use Rattle.da_values.specs.declared.value.Value.TheVariants as kept
use Rattle.da_lang.specs.declared.program.Alt.{roll-Alt}
use Rattle.da_lang.specs.declared.program.Class.{Class}
use Rattle.da_lang.specs.declared.program.Handler.{Handler}
use Rattle.da_lang.specs.declared.program.Item.{Item}
use Rattle.da_lang.specs.declared.program.ItemKind.{ItemKind}
use Rattle.da_lang.specs.declared.program.ItemKind.TheVariants as it
use Rattle.da_lang.specs.declared.program.RBranch.{roll-RBranch}
use Rattle.da_lang.specs.declared.program.RExpr.{RExpr}
use Rattle.da_lang.specs.declared.program.RExpr.TheVariants as re
use Rattle.da_lang.specs.declared.query.Agg.{roll-Agg}
use Rattle.da_lang.specs.declared.query.AggOp.TheVariants as agg
use Rattle.da_lang.specs.declared.query.Cond.TheVariants as co
use Rattle.da_lang.specs.declared.query.Operand.TheVariants as od
use Rattle.da_lang.specs.declared.query.Pattern.TheVariants as pa
use Rattle.da_lang.specs.declared.query.Query.{Query}
use Rattle.da_lang.specs.declared.query.Query.TheVariants as qu
use Rattle.da_lang.specs.declared.query.RGen.{RGen}
use Rattle.da_lang.specs.declared.query.Source.TheVariants as so
use Rattle.da_lang.specs.declared.query.Term.TheVariants as te
use Rattle.da_lang.specs.declared.tree.Branch.{roll-Branch}
use Rattle.da_lang.specs.declared.tree.ClassTree.{ClassTree}
use Rattle.da_lang.specs.declared.tree.CmpOp.TheVariants as cmp
use Rattle.da_lang.specs.declared.tree.Expr.{Expr}
use Rattle.da_lang.specs.declared.tree.Expr.TheVariants as ex
use Rattle.da_lang.specs.declared.tree.GenTree.{GenTree, roll-GenTree}
use Rattle.da_lang.specs.declared.tree.Member.TheVariants as member
use Rattle.da_lang.specs.declared.tree.PatternTree.TheVariants as pattern
use Rattle.da_lang.specs.declared.tree.PeerTree.TheVariants as peer
use Rattle.da_lang.specs.declared.tree.SourceTree.TheVariants as source
use Rattle.da_lang.specs.declared.tree.Stmt.{Stmt}
use Rattle.da_lang.specs.declared.tree.Stmt.TheVariants as stmt
use Rattle.da_lang.specs.declared.ty.Ty.{Ty}
use Rattle.da_lang.specs.declared.ty.Ty.TheVariants as ty
use Rattle.da_lang.specs.BodyMeaning.{Copy, body_with, copies, each, for_each, ifs}
use Rattle.da_lang.specs.ClassParts.{bodies_where, is_handler}
use Rattle.da_lang.specs.ExprMeaning.{Meaning, InSlot, Tables}
use Rattle.da_lang.specs.Resolution.{handlers, resolved_class}
use Rattle.da_lang.proofs.Computing.{resolving}
use Rattle.lang_examples.proofs.ResolutionExamples.{at}

-- 1 class P extends process:
-- 2     receive ('m', k, _) from w:
-- 3         g(k)
-- 4     var s: set[int]
-- 5     var t: set[(int, proc)]
-- 6     def g(n: int):
-- 7         if some x in s | x > n:
-- 8             output(x)
-- 9         elif some (a, =self) in t, ('m', =a, b) from c in received:
-- 10            output(a)
-- 11        else:
-- 12            output(count(s))
-- 13    def run():
-- 14        for i in {z: z in s}:
-- 15            g(i)
-- 16        await some x in s
-- 17        g(x)

abbrev name : List ℕ → Expr
name bytes = ex.Name bytes

-- `p in s`
abbrev in_s : List ℕ → List GenTree
in_s variable = roll-GenTree (record { message = pattern.Name variable; peer = None; source = source.Name (codes "s") }) ∷ []

abbrev above : Expr
above = ex.Quant false (in_s (codes "x")) (Some (ex.Cmp cmp.Gt (name (codes "x")) (name (codes "n"))))

abbrev two_sources : Expr
two_sources = ex.Quant false (
    roll-GenTree (record { message = pattern.Tuple (pattern.Name (codes "a") ∷ pattern.Equal ex.Me ∷ []); peer = None; source = source.Name (codes "t") })
    ∷ roll-GenTree (record { message = pattern.Tuple (pattern.Text (codes "m") ∷ pattern.Equal (name (codes "a")) ∷ pattern.Name (codes "b") ∷ []); peer = Some (peer.From (pattern.Name (codes "c"))); source = source.Received })
    ∷ []) None

abbrev stmts_of_g : List Stmt
stmts_of_g =
    stmt.If
    (roll-Branch (record { cond = above; body = stmt.Output (name (codes "x")) 8 ∷ []; line = 7 })
    ∷ roll-Branch (record { cond = two_sources; body = stmt.Output (name (codes "a")) 10 ∷ []; line = 9 }) ∷ [])
    (Some (stmt.Output (ex.Count (name (codes "s"))) 12 ∷ [])) 7 ∷ []

abbrev stmts_of_run : List Stmt
stmts_of_run =
    stmt.For (codes "i") (ex.Comp (name (codes "z")) (in_s (codes "z")) None) (stmt.Call (codes "g") (name (codes "i") ∷ []) 15 ∷ []) 14
    ∷ stmt.AwaitOne (ex.Quant false (in_s (codes "x")) None) 16
    ∷ stmt.Call (codes "g") (name (codes "x") ∷ []) 17 ∷ []

abbrev tree : ClassTree
tree = record {
  name = codes "P";
  members =
      member.Receive (pattern.Tuple (pattern.Text (codes "m") ∷ pattern.Name (codes "k") ∷ pattern.Wild ∷ [])) (Some (pattern.Name (codes "w"))) [] (stmt.Call (codes "g") (name (codes "k") ∷ []) 3 ∷ []) 2
      ∷ member.Var (codes "s") (ty.Set ty.Int) 4
      ∷ member.Var (codes "t") (ty.Set (ty.Tuple (ty.Int ∷ ty.Proc ∷ []))) 5
      ∷ member.Method (codes "g") (record { name = codes "n"; ty = ty.Int } ∷ [])
      stmts_of_g 6
      ∷ member.Run
      stmts_of_run 13
      ∷ [];
  line = 1;
}

-- a copy of g: n has the slot s, x the next one, and a, b and c the three after it; its queries have the numbers from q
abbrev copy : ℕ → ℕ → List Item
copy s q =
    at 7
    (it.If
    (roll-RBranch (record { cond = re.Ask q; found = Some q; binds = (s + 1) ∷ []; body = at 8 (it.Output (re.Slot (s + 1))) ∷ []; line = 7 })
    ∷ roll-RBranch (record { cond = re.Ask (q + 1); found = Some (q + 1); binds = (s + 2) ∷ (s + 3) ∷ (s + 4) ∷ []; body = at 10 (it.Output (re.Slot (s + 2))) ∷ []; line = 9 }) ∷ [])
    (at 12 (it.Output (re.Ask (q + 2))) ∷ [])) ∷ []

abbrev call : ℕ → RExpr → ℕ → ℕ → Item
call line value s q = at line (it.Call (record { slot = s; value = value } ∷ []) (copy s q))

abbrev copy_slots : List (Option Ty)
copy_slots = Some ty.Int ∷ None ∷ None ∷ None ∷ None ∷ []

abbrev all_of_s : List RGen
all_of_s = record { source = so.Slot 1; message = pa.Bind; peer = pa.Any } ∷ []

abbrev copy_queries : ℕ → List Query
copy_queries s =
    qu.Quant false all_of_s (Some (co.Cmp cmp.Gt (od.Term (te.Part 1)) (od.Term (te.Slot s))))
    ∷ qu.Quant false
    (record { source = so.Slot 2; message = pa.Tuple (pa.Bind ∷ pa.Equal te.Me ∷ []); peer = pa.Any }
    ∷ record { source = so.Received; message = pa.Tuple (pa.Const (kept.Text (codes "m")) ∷ pa.Equal (te.Part 1) ∷ pa.Bind ∷ []); peer = pa.Bind } ∷ []) None
    ∷ qu.Agg (roll-Agg (record { op = agg.Count; gens = all_of_s; cond = None; term = te.Part 1; other = None })) ∷ []

-- WHAT IS MET SO FAR before each of the three calls: i has the slot 3, the x of the `await` 9, k and w have 15 and 16; the
-- queries 1 and 5 are those of `run` itself

abbrev vars : List (Option Ty)
vars = Some (ty.Set ty.Int) ∷ Some (ty.Set (ty.Tuple (ty.Int ∷ ty.Proc ∷ []))) ∷ []

abbrev first : Tables
first = record { slots = vars ++ None ∷ []; queries = qu.Comp (te.Part 1) all_of_s None ∷ [] }

abbrev second : Tables
second = record { slots = first.slots ++ copy_slots ++ None ∷ []; queries = first.queries ++ copy_queries 4 ++ qu.Quant false all_of_s None ∷ [] }

abbrev third : Tables
third = record { slots = second.slots ++ copy_slots ++ None ∷ None ∷ []; queries = second.queries ++ copy_queries 10 }

abbrev last : Tables
last = record { slots = third.slots ++ copy_slots; queries = third.queries ++ copy_queries 17 }

-- the body of g, with n in the slot s after what was met
abbrev scope : List (List ℕ × Meaning)
scope = (codes "t", InSlot 2) ∷ (codes "s", InSlot 1) ∷ []

abbrev body : Copy → ℕ → Tables → List Item × Tables
body inner s tables = body_with inner stmts_of_g ((codes "n", InSlot s) ∷ scope) (record { slots = tables.slots ++ Some ty.Int ∷ []; queries = tables.queries })

abbrev with_copy : Tables → ℕ → Tables
with_copy tables s = record { slots = tables.slots ++ copy_slots; queries = tables.queries ++ copy_queries s }

first_body : (inner : Copy) → body inner 4 first ≡ (copy 4 2, with_copy first 4)
first_body inner = simp (resolving, each, ifs) refl

second_body : (inner : Copy) → body inner 10 second ≡ (copy 10 6, with_copy second 10)
second_body inner = simp (resolving, each, ifs) refl

third_body : (inner : Copy) → body inner 17 third ≡ (copy 17 9, with_copy third 17)
third_body inner = simp (resolving, each, ifs) refl

-- the call with its argument
abbrev called : RExpr → ℕ → List Item × Tables → ItemKind × Tables
called v s items = (it.Call (record { slot = s; value = v } ∷ []) items.0, items.1)

first_call : (v : RExpr) → (copies 5 tree).call (codes "g") (v ∷ []) first ≡ called v 4 (copy 4 2, with_copy first 4)
unfolding copies
first_call v = ap (called v 4) (first_body (copies 4 tree))

second_call : (v : RExpr) → (copies 5 tree).call (codes "g") (v ∷ []) second ≡ called v 10 (copy 10 6, with_copy second 10)
unfolding copies
second_call v = ap (called v 10) (second_body (copies 4 tree))

third_call : (v : RExpr) → (copies 5 tree).call (codes "g") (v ∷ []) third ≡ called v 17 (copy 17 9, with_copy third 17)
unfolding copies
third_call v = ap (called v 17) (third_body (copies 4 tree))

-- `run`, the handler, and all of it

abbrev run_of_all : List Item
run_of_all =
    at 14 (it.For 3 (re.Ask 1) (call 15 (re.Slot 3) 4 2 ∷ []))
    ∷ at 16 (it.Await (roll-Alt (record { cond = co.Quant false all_of_s None; found = Some 5; binds = 9 ∷ []; body = []; line = 16 }) ∷ []) None None)
    ∷ call 17 (re.Slot 9) 10 6 ∷ []

run_is : body_with (copies 5 tree) stmts_of_run scope (record { slots = vars; queries = [] }) ≡ (run_of_all, with_copy second 10)
run_is = simp (first_call, second_call, resolving, for_each) refl

abbrev handler_of_all : Handler
handler_of_all = record {
  message = pa.Tuple (pa.Const (kept.Text (codes "m")) ∷ pa.Bind ∷ pa.Any ∷ []);
  from = pa.Bind;
  at = [];
  binds = 15 ∷ 16 ∷ [];
  body = call 3 (re.Slot 15) 17 9 ∷ [];
  line = 2;
}

handlers_are : handlers tree (bodies_where is_handler tree) (with_copy second 10) ≡ (handler_of_all ∷ [], last)
handlers_are = simp (third_call, resolving) refl

abbrev made_of : List Item → List Handler × Tables → Class
made_of run handled = record { name = codes "P"; slots = handled.1.slots; params = []; setup = []; run = run; handlers = handled.0; queries = handled.1.queries; line = 1 }

inlined : resolved_class tree ≡ made_of run_of_all (handler_of_all ∷ [], last)
unfolding resolved_class
inlined = ap (λ (run : List Item × Tables). made_of run.0 (handlers tree (bodies_where is_handler tree) run.1)) run_is ∙ ap (made_of run_of_all) handlers_are

twenty_one_slots : length (resolved_class tree).slots ≡ 21
twenty_one_slots = ap (λ (c : Class). length c.slots) inlined

eleven_queries : length (resolved_class tree).queries ≡ 11
eleven_queries = ap (λ (c : Class). length c.queries) inlined

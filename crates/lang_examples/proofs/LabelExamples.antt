-- The labels of a class: which number each has, which one an `await` has, and where a handler is open.
use Rattle.std.specs.Prelude.{◌≡◌, refl, ℕ, true, false, List, [], ◌∷◌, map, codes, Option, Some, None}
use Rattle.da_values.specs.declared.value.Value.TheVariants as kept
use Rattle.da_lang.specs.declared.program.Alt.{Alt, roll-Alt}
use Rattle.da_lang.specs.declared.program.Class.{Class}
use Rattle.da_lang.specs.declared.program.Item.{Item}
use Rattle.da_lang.specs.declared.program.ItemKind.TheVariants as it
use Rattle.da_lang.specs.declared.program.RExpr.TheVariants as re
use Rattle.da_lang.specs.declared.query.Cond.{Cond}
use Rattle.da_lang.specs.declared.query.Cond.TheVariants as co
use Rattle.da_lang.specs.declared.query.Pattern.TheVariants as pa
use Rattle.da_lang.specs.declared.query.Source.TheVariants as so
use Rattle.da_lang.specs.declared.query.Term.TheVariants as te
use Rattle.da_lang.specs.declared.tree.Branch.{roll-Branch}
use Rattle.da_lang.specs.declared.tree.ClassTree.{ClassTree}
use Rattle.da_lang.specs.declared.tree.Expr.TheVariants as ex
use Rattle.da_lang.specs.declared.tree.Member.TheVariants as member
use Rattle.da_lang.specs.declared.tree.PatternTree.TheVariants as pattern
use Rattle.da_lang.specs.declared.tree.Stmt.{Stmt}
use Rattle.da_lang.specs.declared.tree.Stmt.TheVariants as stmt
use Rattle.da_lang.specs.declared.tree.TimeoutTree.{roll-TimeoutTree}
use Rattle.da_lang.specs.BodyMeaning.{Copy, awaits, block, copies, each, loop, stating, timeout_block}
use Rattle.da_lang.specs.ExprMeaning.{Meaning, Tables}
use Rattle.da_lang.specs.LabelNames.{label_number}
use Rattle.da_lang.specs.Limits.{item_count, item_depth}
use Rattle.da_lang.specs.Live.{live}
use Rattle.da_lang.specs.Resolution.{resolved_class}
use Rattle.da_lang.specs.Scopes.{Scope}
use Rattle.da_lang.proofs.Computing.{resolving}
use Rattle.da_lang.proofs.CountsAt.{counting, measuring_depth}
use Rattle.da_lang.proofs.DeedsAt.{doing}
use Rattle.da_lang.proofs.LiveLaws.{living}
use Rattle.lang_examples.proofs.ResolutionExamples.{at}

-- THE LABEL OF AN AWAIT is the one that stands directly before it in its block

abbrev no_tables : Tables
no_tables = record { slots = []; queries = [] }

abbrev label : List ℕ → ℕ → Stmt
label name line = stmt.Label name line

-- `await true:` with an empty block
abbrev wait : ℕ → Stmt
wait line = stmt.Await (roll-Branch (record { cond = ex.Truth true; body = []; line = line }) ∷ []) None line

abbrev always : Cond
always = co.Truth (te.Const (kept.Bool true))

abbrev way : ℕ → List Item → Alt
way line body = roll-Alt (record { cond = always; found = None; binds = []; body = body; line = line })

abbrev waits : ℕ → Option ℕ → Item
waits line number = at line (it.Await (way line [] ∷ []) None number)

-- whatever the number of a label is
module _ (copy : Copy) (scope : Scope Meaning) where
  abbrev Becomes : List Stmt → List Item → Type 0
  Becomes stmts items = block (map (stating copy) stmts) scope no_tables ≡ (items, no_tables)

  after_label : Becomes (label (codes "l") 6 ∷ wait 7 ∷ []) (at 6 (it.Label (copy.number (codes "l"))) ∷ waits 7 (Some (copy.number (codes "l"))) ∷ [])
  after_label = simp (resolving, awaits, each, timeout_block) refl

  -- one without a block too
  after_label_alone : Becomes (label (codes "l") 6 ∷ stmt.AwaitOne (ex.Truth true) 7 ∷ []) (at 6 (it.Label (copy.number (codes "l"))) ∷ waits 7 (Some (copy.number (codes "l"))) ∷ [])
  after_label_alone = simp resolving refl

  -- `pass` between them takes it away, and so does another `await`
  after_pass : Becomes (label (codes "l") 6 ∷ stmt.Pass 7 ∷ wait 8 ∷ []) (at 6 (it.Label (copy.number (codes "l"))) ∷ at 7 it.Pass ∷ waits 8 None ∷ [])
  after_pass = simp (resolving, awaits, each, timeout_block) refl

  after_await : Becomes (label (codes "l") 6 ∷ wait 7 ∷ wait 8 ∷ []) (at 6 (it.Label (copy.number (codes "l"))) ∷ waits 7 (Some (copy.number (codes "l"))) ∷ waits 8 None ∷ [])
  after_await = simp (resolving, awaits, each, timeout_block) refl

  -- of two labels it is the second one
  after_two : Becomes (label (codes "l") 6 ∷ label (codes "m") 7 ∷ wait 8 ∷ []) (at 6 (it.Label (copy.number (codes "l"))) ∷ at 7 (it.Label (copy.number (codes "m"))) ∷ waits 8 (Some (copy.number (codes "m"))) ∷ [])
  after_two = simp (resolving, awaits, each, timeout_block) refl

  -- the first statement of a block has none: that of a loop, an alternative, and a `timeout`
  first_of_loop : Becomes (label (codes "l") 6 ∷ stmt.While (ex.Truth true) (wait 8 ∷ []) 7 ∷ [])
      (at 6 (it.Label (copy.number (codes "l"))) ∷ at 7 (it.While (re.Const (kept.Bool true)) (waits 8 None ∷ [])) ∷ [])
  first_of_loop = simp (resolving, loop, awaits, each, timeout_block) refl

  first_of_blocks : Becomes
      (label (codes "l") 6 ∷ stmt.Await (roll-Branch (record { cond = ex.Truth true; body = wait 8 ∷ []; line = 7 }) ∷ []) (Some (roll-TimeoutTree (record { body = wait 10 ∷ []; line = 9 }))) 7 ∷ [])
      (at 6 (it.Label (copy.number (codes "l"))) ∷ at 7 (it.Await (way 7 (waits 8 None ∷ []) ∷ []) (Some (waits 10 None ∷ [])) (Some (copy.number (codes "l")))) ∷ [])
  first_of_blocks = simp (resolving, awaits, each, timeout_block) refl

-- THE NUMBERS go on through the class, over a method that nothing calls; the copies of a method have the same one, and the
-- statement after a call has no label
--     2 def f():
--     3     -- k
--     4 def g():
--     5     -- l
--     6 def run():
--     7     -- m
--     8     g()
--     9     await true
--    10     g()
--    11 receive _ at m, k:
--    12     pass
labels_class : ClassTree
labels_class = record {
  name = codes "C";
  members =
      member.Method (codes "f") [] (label (codes "k") 3 ∷ []) 2
      ∷ member.Method (codes "g") [] (label (codes "l") 5 ∷ []) 4
      ∷ member.Run (label (codes "m") 7 ∷ stmt.Call (codes "g") [] 8 ∷ stmt.AwaitOne (ex.Truth true) 9 ∷ stmt.Call (codes "g") [] 10 ∷ []) 6
      ∷ member.Receive pattern.Wild None (codes "m" ∷ codes "k" ∷ []) (stmt.Pass 12 ∷ []) 11 ∷ [];
  line = 1;
}

number_of_k : label_number labels_class (codes "k") ≡ 1
unfolding labels_class
number_of_k = simp doing

number_of_l : label_number labels_class (codes "l") ≡ 2
unfolding labels_class
number_of_l = simp doing

number_of_m : label_number labels_class (codes "m") ≡ 3
unfolding labels_class
number_of_m = simp doing

labels_resolved : resolved_class labels_class ≡ record {
  name = codes "C";
  slots = [];
  params = [];
  setup = [];
  run = at 7 (it.Label 3) ∷ at 8 (it.Call [] (at 5 (it.Label 2) ∷ [])) ∷ waits 9 None ∷ at 10 (it.Call [] (at 5 (it.Label 2) ∷ [])) ∷ [];
  handlers = record { message = pa.Any; from = pa.Any; at = 3 ∷ 1 ∷ []; binds = []; body = at 12 it.Pass ∷ []; line = 11 } ∷ [];
  queries = [];
  line = 1;
}
unfolding resolved_class copies labels_class
labels_resolved = simp (doing, resolving) refl

-- THE BLOCK OF A TIMEOUT is a part of its `await`: its statements and its blocks count, and what it waits for is live

abbrev late : List Item → Item
late body = at 6 (it.Await (way 6 (at 7 it.Pass ∷ []) ∷ []) (Some body) None)

late_counts : item_count (late (at 9 it.Pass ∷ at 10 it.Pass ∷ [])) ≡ 4
late_counts = simp counting

late_nests : item_depth (late (at 9 (it.While (re.Const (kept.Bool true)) (at 10 it.Pass ∷ [])) ∷ [])) ≡ 2
late_nests = simp measuring_depth

no_late_block : item_depth (late []) ≡ 1
no_late_block = simp measuring_depth

-- `await some _ in received`
abbrev hears : Item
hears = at 9 (it.Await (roll-Alt (record { cond = co.Quant false (record { source = so.Received; message = pa.Any; peer = pa.Any } ∷ []) None; found = None; binds = []; body = []; line = 9 }) ∷ []) None None)

abbrev late_class : Class
late_class = record { name = []; slots = []; params = []; setup = []; run = late (hears ∷ []) ∷ []; handlers = []; queries = []; line = 1 }

late_lives : live late_class ≡ record { source = so.Received; message = pa.Any; peer = pa.Any } ∷ []
late_lives = simp living

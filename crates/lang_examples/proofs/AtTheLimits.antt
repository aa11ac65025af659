-- Trees at the limits and one past them. Long lists are counted by laws.
use Rattle.std.specs.Prelude.{◌≡◌, refl, ℕ, zero, suc, ◌+◌, pos, Bool, true, false, nat_lt, ◌||◌, max, List, [], ◌∷◌, ◌++◌, map, length, sum, replicate, codes, Option, Some, None}
use Rattle.std.specs.List.{list_any}
use Rattle.std.proofs.Common.{◌∙◌, ap, arith}
use Rattle.std.proofs.Math.Nat.{max-zero, zero-max}
use Rattle.std.proofs.lemmas.List.{length-replicate}
use Rattle.std.proofs.lemmas.List.Sums.{sum_by-cons}
use Rattle.da_values.specs.declared.value.Value.TheVariants as kept
use Rattle.da_lang.specs.declared.program.Class.{Class}
use Rattle.da_lang.specs.declared.program.Item.{Item, roll-Item}
use Rattle.da_lang.specs.declared.program.ItemKind.TheVariants as it
use Rattle.da_lang.specs.declared.program.RExpr.TheVariants as re
use Rattle.da_lang.specs.declared.query.Pattern.TheVariants as pa
use Rattle.da_lang.specs.declared.query.Query.{Query}
use Rattle.da_lang.specs.declared.query.Query.TheVariants as qu
use Rattle.da_lang.specs.declared.query.Source.TheVariants as so
use Rattle.da_lang.specs.declared.refusal.LimitKind.TheVariants as limit
use Rattle.da_lang.specs.declared.tree.ClassTree.{ClassTree}
use Rattle.da_lang.specs.declared.tree.Expr.{Expr}
use Rattle.da_lang.specs.declared.tree.Expr.TheVariants as ex
use Rattle.da_lang.specs.declared.tree.GenTree.{GenTree, roll-GenTree}
use Rattle.da_lang.specs.declared.tree.Member.{Member}
use Rattle.da_lang.specs.declared.tree.Member.TheVariants as member
use Rattle.da_lang.specs.declared.tree.MessageDecl.{MessageDecl}
use Rattle.da_lang.specs.declared.tree.PatternTree.TheVariants as pattern
use Rattle.da_lang.specs.declared.tree.SourceTree.TheVariants as source
use Rattle.da_lang.specs.declared.tree.Stmt.{Stmt}
use Rattle.da_lang.specs.declared.tree.Stmt.TheVariants as stmt
use Rattle.da_lang.specs.declared.ty.Ty.TheVariants as ty
use Rattle.da_lang.specs.BodyMeaning.{Copy, Stating, AfterStmt, block, class_slots, copies, copy_of, item_at, stating}
use Rattle.da_lang.specs.Calls.{leads_within}
use Rattle.da_lang.specs.ClassParts.{InMethod, Body, bodies_where, is_handler, method_of}
use Rattle.da_lang.specs.Deeds.{Deed}
use Rattle.da_lang.specs.ExprMeaning.{Meaning, Tables, meant}
use Rattle.da_lang.specs.Limits.{parts_in_message, wide, has_query, reached_deeds, block_depth, blocks_over, class_blocks, class_items, classes_over, generators_over, item_count, item_depth, items_over, limit_fault, limit_refusals, line_if, most_blocks, most_classes, most_generators, most_items, most_parts, most_processes, most_variables, variables_over, wide_exprs}
use Rattle.da_lang.specs.Resolution.{class_tables, handlers, resolved_class}
use Rattle.da_lang.specs.Scopes.{Scope}
use Rattle.da_lang.specs.Written.{type_width, Writing, greatest, of, tuple, writing}
use Rattle.da_lang.proofs.Computing.{finding, resolving}
use Rattle.da_lang.proofs.CountsAt.{counting, measuring_depth}
use Rattle.da_lang.proofs.DeedsAt.{deeds_of-Pass}
use Rattle.da_lang.proofs.MeantAt.{meaning}
use Rattle.da_lang.proofs.StatingAt.{stating-Call, stating-Pass, stating-While}
use Rattle.da_lang.proofs.typing.TypesAt.{type_width-Int}
use Rattle.da_lang.proofs.WritingAt.{writing-Int, writing-Tuple, written}
use Rattle.lang_examples.proofs.NameExamples.{tree_of, run}

-- a class on line 1 with these members and `run`, and what it becomes with these statements
abbrev class_of : List Stmt → ClassTree
class_of stmts = record { name = codes "C"; members = run stmts ∷ []; line = 1 }

abbrev with_items : List Item → Class
with_items items = record { name = codes "C"; slots = []; params = []; setup = []; run = items; handlers = []; queries = []; line = 1 }

abbrev pass : Item
pass = roll-Item (record { line = 6; kind = it.Pass })

abbrev no_tables : Tables
no_tables = record { slots = []; queries = [] }

-- CLASSES: the line of the one after the 32nd is reported

abbrev idle : ℕ → ClassTree
idle line = record (class_of (stmt.Pass 6 ∷ [])) { line = line }

most : classes_over (record (tree_of [] []) { classes = replicate 32 (idle 1) }) ≡ []
unfolding most_classes
most = refl

one_class_more : classes_over (record (tree_of [] []) { classes = replicate 32 (idle 1) ++ idle 8 ∷ idle 9 ∷ [] }) ≡ 8 ∷ 9 ∷ []
unfolding most_classes
one_class_more = refl

-- STATEMENTS: n times `pass`

passes_meant : (copy : Copy) (n : ℕ) (scope : Scope Meaning) (tables : Tables) → block (map (stating copy) (replicate n (stmt.Pass 6))) scope tables ≡ (replicate n pass, tables)
passes_meant copy zero scope tables = refl
passes_meant copy (suc n) scope tables =
    ap (λ (first : Stating). block (first ∷ map (stating copy) (replicate n (stmt.Pass 6))) scope tables) (stating-Pass copy 6)
    ∙ ap (λ (others : List Item × Tables). (pass ∷ others.0, others.1)) (passes_meant copy n scope tables)

passes_count : (n : ℕ) → sum (map item_count (replicate n pass)) ≡ n
passes_count zero = refl
passes_count (suc n) =
    let one : item_count pass ≡ 1 = simp counting in
    sum_by-cons (λ k. k) (item_count pass) (map item_count (replicate n pass)) ∙ ap (λ k. k + sum (map item_count (replicate n pass))) one ∙ ap (λ k. 1 + k) (passes_count n) ∙ omega arith

passes_resolved : (n : ℕ) → resolved_class (class_of (replicate n (stmt.Pass 6))) ≡ with_items (replicate n pass)
unfolding resolved_class
passes_resolved n =
    ap (λ (items : List Item × Tables). record (with_items items.0) { slots = items.1.slots; queries = items.1.queries })
    (passes_meant (copies 1 (class_of (replicate n (stmt.Pass 6)))) n [] no_tables)

items_are : (n : ℕ) → class_items (resolved_class (class_of (replicate n (stmt.Pass 6)))) ≡ n
items_are n = ap class_items (passes_resolved n) ∙ ap (λ k. sum (0 ∷ k ∷ [])) (passes_count n) ∙ omega arith

most_statements : items_over (class_of (replicate 16384 (stmt.Pass 6))) ≡ []
unfolding most_items
most_statements = ap (λ k. line_if (nat_lt most_items k) 1) (items_are 16384)

one_statement_more : items_over (class_of (replicate 16385 (stmt.Pass 6))) ≡ 1 ∷ []
unfolding most_items
one_statement_more = ap (λ k. line_if (nat_lt most_items k) 1) (items_are 16385)

-- BLOCKS: `run` calls f within 30 blocks of `while true`, f calls g within 30 such blocks, and g has n of them round `pass`

abbrev nest : Stmt → ℕ → Stmt
nest s zero = s
nest s (suc n) = stmt.While (ex.Truth true) (nest s n ∷ []) 6

abbrev nested : Item → ℕ → Item
nested i zero = i
nested i (suc n) = roll-Item (record { line = 6; kind = it.While (re.Const (kept.Bool true)) (nested i n ∷ []) })

abbrev calls : List ℕ → Stmt
calls name = stmt.Call name [] 6

abbrev call : Item → Item
call i = roll-Item (record { line = 6; kind = it.Call [] (i ∷ []) })

-- a statement that needs no slot and no query becomes this
abbrev Means : Copy → Stmt → Item → Type 0
Means copy s i = (scope : Scope Meaning) → stating copy s None scope no_tables ≡ record { item = i; label = None; scope = scope; tables = no_tables }

nest_means : (copy : Copy) (s : Stmt) (i : Item) → Means copy s i → (n : ℕ) → Means copy (nest s n) (nested i n)
nest_means copy s i means zero scope = means scope
nest_means copy s i means (suc n) scope =
    ap (λ (made : Stating). made None scope no_tables) (stating-While copy (ex.Truth true) (nest s n ∷ []) 6) ∙ simp meaning (rw (nest_means copy s i means n scope) refl)

pass_means : (copy : Copy) → Means copy (stmt.Pass 6) pass
pass_means copy scope = ap (λ (made : Stating). made None scope no_tables) (stating-Pass copy 6)

abbrev copied : Copy → ClassTree → Scope Meaning → Option Body → AfterStmt
copied inner c scope method = let kind = copy_of inner c method [] no_tables in record { item = item_at 6 kind.0; label = None; scope = scope; tables = kind.1 }

call_means : (c : ClassTree) (most : ℕ) (name : List ℕ) (s : Stmt) (i : Item) → method_of c name ≡ Some (record { place = InMethod name; params = []; stmts = s ∷ []; line = 7 }) → Means (copies most c) s i → Means (copies (suc most) c) (calls name) (call i)
unfolding copies
call_means c most name s i is means scope =
    ap (λ (made : Stating). made None scope no_tables) (stating-Call (copies (suc most) c) name [] 6)
    ∙ ap (copied (copies most c) c scope) is
    ∙ ap (λ (first : AfterStmt). record { item = item_at 6 (it.Call [] (first.item ∷ [])); label = None; scope = scope; tables = first.tables }) (means (class_slots c))

abbrev chain : ℕ → ClassTree
chain n = record (class_of []) {
  members =
      run (nest (calls (codes "f")) 30 ∷ [])
      ∷ member.Method (codes "f") [] (nest (calls (codes "g")) 30 ∷ []) 7
      ∷ member.Method (codes "g") [] (nest (stmt.Pass 6) n ∷ []) 7 ∷ [];
}

abbrev in_g : ℕ → Item
in_g n = nested pass n

abbrev in_f : ℕ → Item
in_f n = nested (call (in_g n)) 30

abbrev in_run : ℕ → Item
in_run n = nested (call (in_f n)) 30

g_means : (n : ℕ) → Means (copies 2 (chain n)) (calls (codes "g")) (call (in_g n))
g_means n = call_means (chain n) 1 (codes "g") (nest (stmt.Pass 6) n) (in_g n) refl (nest_means (copies 1 (chain n)) (stmt.Pass 6) pass (pass_means (copies 1 (chain n))) n)

f_means : (n : ℕ) → Means (copies 3 (chain n)) (calls (codes "f")) (call (in_f n))
f_means n = call_means (chain n) 2 (codes "f") (nest (calls (codes "g")) 30) (in_f n) refl (nest_means (copies 2 (chain n)) (calls (codes "g")) (call (in_g n)) (g_means n) 30)

chain_resolved : (n : ℕ) → resolved_class (chain n) ≡ with_items (in_run n ∷ [])
unfolding resolved_class
chain_resolved n =
    ap (λ (first : AfterStmt). record (with_items (first.item ∷ [])) { slots = first.tables.slots; queries = first.tables.queries })
    (nest_means (copies 3 (chain n)) (calls (codes "f")) (call (in_f n)) (f_means n) 30 [])

nested_depth : (i : Item) (n : ℕ) → item_depth (nested i n) ≡ n + item_depth i
nested_depth i zero = omega arith
nested_depth i (suc n) = simp measuring_depth (rw (nested_depth i n) (ap suc (max-zero (n + item_depth i)) ∙ omega arith))

call_depth : (i : Item) → item_depth (call i) ≡ 1 + item_depth i
call_depth i = simp measuring_depth (ap suc (max-zero (item_depth i)) ∙ omega arith)

run_depth : (n : ℕ) → item_depth (in_run n) ≡ 62 + n
run_depth n =
    let in_pass : item_depth pass ≡ 0 = simp measuring_depth in
    let g : item_depth (in_g n) ≡ n = nested_depth pass n ∙ ap (λ k. n + k) in_pass ∙ omega arith in
    let f : item_depth (in_f n) ≡ 31 + n = nested_depth (call (in_g n)) 30 ∙ ap (λ k. 30 + k) (call_depth (in_g n) ∙ ap (λ k. 1 + k) g) ∙ omega arith in
    nested_depth (call (in_f n)) 30 ∙ ap (λ k. 30 + k) (call_depth (in_f n) ∙ ap (λ k. 1 + k) f) ∙ omega arith

blocks_are : (n : ℕ) → class_blocks (resolved_class (chain n)) ≡ 63 + n
blocks_are n =
    ap class_blocks (chain_resolved n)
    ∙ ap (λ k. greatest (0 ∷ block_depth (k ∷ []) ∷ [])) (run_depth n)
    ∙ zero-max (max (suc (max (62 + n) 0)) 0) ∙ max-zero (suc (max (62 + n) 0)) ∙ ap suc (max-zero (62 + n)) ∙ omega arith

most_within : blocks_over (chain 1) ≡ []
unfolding most_blocks
most_within = ap (λ k. line_if (nat_lt most_blocks k) 1) (blocks_are 1)

one_block_more : blocks_over (chain 2) ≡ 1 ∷ []
unfolding most_blocks
one_block_more = ap (λ k. line_if (nat_lt most_blocks k) 1) (blocks_are 2)

-- SLOTS: n variables, named a, aa, ..

abbrev vars : ℕ → List Member
vars zero = []
vars (suc n) = member.Var (replicate (suc n) 97) ty.Int 2 ∷ vars n

abbrev with_vars : ℕ → ClassTree
with_vars n = record (class_of []) { members = run (stmt.Pass 6 ∷ []) ∷ vars n }

-- the slots, by what the one statement of `run` becomes
abbrev slots_by : ClassTree → Stating → ℕ
slots_by c s = length (handlers c (bodies_where is_handler c) (block (s ∷ []) (class_slots c) (class_tables c)).1).1.slots

abbrev is_large : Deed → Bool
is_large = has_query (λ size. nat_lt most_variables size.variables)

most_slots : variables_over (with_vars 1024) ≡ []
unfolding most_variables resolved_class
most_slots =
    ap (λ s. line_if (nat_lt most_variables (slots_by (with_vars 1024) s) || list_any is_large (reached_deeds (with_vars 1024))) 1) (stating-Pass (copies (length (with_vars 1024).members) (with_vars 1024)) 6)
    ∙ ap (λ ds. line_if (list_any is_large (ds ++ [] ++ [])) 1) (deeds_of-Pass 6)

one_slot_more : variables_over (with_vars 1025) ≡ 1 ∷ []
unfolding most_variables resolved_class
one_slot_more = ap (λ s. line_if (nat_lt most_variables (slots_by (with_vars 1025) s) || list_any is_large (reached_deeds (with_vars 1025))) 1) (stating-Pass (copies (length (with_vars 1025).members) (with_vars 1025)) 6)

-- PARTS: a tuple of n ones, and a message with n parts after its tag

unfoldable ones : ℕ → Expr
ones n = ex.Tuple (replicate n (ex.Int (pos 1)))

abbrev one : Writing
one = of []

ones_written : (n : ℕ) → map writing (replicate n (ex.Int (pos 1))) ≡ replicate n one
ones_written zero = refl
ones_written (suc n) = ap (λ (first : Writing). first ∷ map writing (replicate n (ex.Int (pos 1)))) (writing-Int (pos 1)) ∙ ap (λ others. one ∷ others) (ones_written n)

no_sum : (ks : List ℕ) → sum (0 ∷ ks) ≡ sum ks
no_sum ks = sum_by-cons (λ k. k) 0 ks ∙ omega arith

abbrev sized : List Writing → ℕ → ℕ → ℕ → Writing
sized ws gens variables widest = record (of ws) { size = record { gens = gens; variables = variables }; widest = widest }

one_more : (ws : List Writing) → of (one ∷ ws) ≡ of ws
one_more ws =
    let gs : List ℕ = map (λ (w : Writing). w.size.gens) ws in
    let vs : List ℕ = map (λ (w : Writing). w.size.variables) ws in
    let widest : ℕ = greatest (map (λ (w : Writing). w.widest) ws) in
    ap (λ k. sized ws k (sum (0 ∷ vs)) (max 0 widest)) (no_sum gs) ∙ ap (λ k. sized ws (sum gs) k (max 0 widest)) (no_sum vs) ∙ ap (sized ws (sum gs) (sum vs)) (zero-max widest)

of_ones : (n : ℕ) → of (replicate n one) ≡ one
of_ones zero = refl
of_ones (suc n) = one_more (replicate n one) ∙ of_ones n

writing_ones : (n : ℕ) → writing (ones n) ≡ record (of []) { widest = n }
unfolding ones
writing_ones n =
    writing-Tuple (replicate n (ex.Int (pos 1)))
    ∙ ap tuple (ones_written n)
    ∙ ap (λ (w : Writing). record w { widest = max (length (replicate n one)) w.widest }) (of_ones n)
    ∙ ap (λ k. record (of []) { widest = k }) (max-zero (length (replicate n one)) ∙ length-replicate n one)

most_parts_written : wide_exprs (ones 255 ∷ []) ≡ false
unfolding most_parts
most_parts_written = simp writing_ones refl

one_part_more : wide_exprs (ones 256 ∷ []) ≡ true
unfolding most_parts
one_part_more = simp writing_ones refl

-- a message whose parts and tag are 255, and one whose are 256
no_wide : (n : ℕ) → list_any (λ t. wide (type_width t)) (replicate n ty.Int) ≡ false
unfolding most_parts
no_wide zero = refl
no_wide (suc n) = rw type_width-Int (no_wide n)

abbrev message : ℕ → MessageDecl
message n = record { tag = codes "m"; parts = replicate n ty.Int; line = 2 }

most_message_parts : parts_in_message (message 254) ≡ []
unfolding most_parts
most_message_parts = ap (λ b. line_if b 2) (no_wide 254)

one_message_part_more : parts_in_message (message 255) ≡ 2 ∷ []
unfolding most_parts
one_message_part_more = refl

-- GENERATORS: k times `_ in s`, with a tuple of n ones after them

abbrev anything : GenTree
anything = roll-GenTree (record { message = pattern.Wild; peer = None; source = source.Name (codes "s") })

abbrev asks : ℕ → ℕ → Expr
asks k n = ex.Quant false (replicate k anything) (Some (ones n))

most_gens : generators_over (class_of (stmt.Output (asks 8 1) 6 ∷ [])) ≡ []
unfolding most_generators leads_within
most_gens = simp (finding, writing_ones, written) refl

one_gen_more : generators_over (class_of (stmt.Output (asks 9 1) 6 ∷ [])) ≡ 6 ∷ []
unfolding most_generators leads_within
one_gen_more = simp (finding, writing_ones, written) refl

-- WHAT IS TOLD: on one line the parts, which come before the generators; on two lines the first one, whichever limit it
-- passes

abbrev says : ℕ → ℕ → Item
says line q = roll-Item (record { line = line; kind = it.Output (re.Ask q) })

abbrev asked : ℕ → ℕ → Query
asked k n = qu.Quant false (replicate k (record { source = so.Slot 0; message = pa.Any; peer = pa.Any })) (Some ((meant (ones n)).condition []))

both_resolved : resolved_class (class_of (stmt.Output (asks 9 256) 6 ∷ [])) ≡ record (with_items (says 6 1 ∷ [])) { queries = asked 9 256 ∷ [] }
unfolding resolved_class
both_resolved = simp resolving refl

lesser_kind : limit_fault (tree_of (run (stmt.Output (asks 9 256) 6 ∷ []) ∷ []) []) ≡ Some (record { kind = limit.Parts; line = 6 })
unfolding limit_refusals leads_within most_classes most_processes most_items most_blocks most_variables most_parts most_generators
lesser_kind = simp (both_resolved, writing_ones, finding, counting, measuring_depth) refl

one_after_the_other : resolved_class (class_of (stmt.Output (asks 9 1) 6 ∷ stmt.Output (asks 1 256) 7 ∷ [])) ≡ record (with_items (says 6 1 ∷ says 7 2 ∷ [])) { queries = asked 9 1 ∷ asked 1 256 ∷ [] }
unfolding resolved_class
one_after_the_other = simp resolving refl

lesser_line : limit_fault (tree_of (run (stmt.Output (asks 9 1) 6 ∷ stmt.Output (asks 1 256) 7 ∷ []) ∷ []) []) ≡ Some (record { kind = limit.Generators; line = 6 })
unfolding limit_refusals leads_within most_classes most_processes most_items most_blocks most_variables most_parts most_generators
lesser_line = simp (one_after_the_other, writing_ones, finding, counting, measuring_depth) refl

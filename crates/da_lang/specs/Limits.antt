-- The refusals by limits: for each kind the lines that it names, and the one that is reported.
use Rattle.std.specs.Prelude.{◌≡◌, ℕ, suc, ◌+◌, max, nat_lt, Bool, true, false, ◌||◌, if◌then◌else◌, List, [], ◌∷◌, ◌++◌, map, length, drop, sum, Option, option_to_list, unwrap_or, flat_map, filter, filter_map}
use Rattle.std.specs.List.{list_any}
use Rattle.da_lang.specs.declared.program.Alt.{Alt}
use Rattle.da_lang.specs.declared.program.Class.{Class}
use Rattle.da_lang.specs.declared.program.Item.{Item}
use Rattle.da_lang.specs.declared.program.ItemKind.{ItemKind}
use Rattle.da_lang.specs.declared.program.ItemKind.TheFolds.{fold-Item, fold-ItemKind, fold-Alt, fold-RBranch}
use Rattle.da_lang.specs.declared.program.ItemKind.TheOpen.{ItemKind-F, Alt-F, Item-F, RBranch-F}
use Rattle.da_lang.specs.declared.program.Program.{Program}
use Rattle.da_lang.specs.declared.program.RBranch.{RBranch}
use Rattle.da_lang.specs.declared.refusal.LimitKind.{LimitKind}
use Rattle.da_lang.specs.declared.refusal.LimitKind.TheVariants as limit
use Rattle.da_lang.specs.declared.tree.ClassTree.{ClassTree}
use Rattle.da_lang.specs.declared.tree.Expr.{Expr}
use Rattle.da_lang.specs.declared.tree.MainLine.{MainLine}
use Rattle.da_lang.specs.declared.tree.MainLine.TheVariants as main_line
use Rattle.da_lang.specs.declared.tree.MessageDecl.{MessageDecl}
use Rattle.da_lang.specs.declared.tree.Tree.{Tree}
use Rattle.da_lang.specs.Calls.{called, leads}
use Rattle.da_lang.specs.ClassParts.{Place, InMethod, InHandler, Body, Variable, bodies, variables}
use Rattle.da_lang.specs.Deeds.{Deed, deeds}
use Rattle.da_lang.specs.NameRules.{name_refusals}
use Rattle.da_lang.specs.Resolution.{resolved, resolved_class, made_count}
use Rattle.da_lang.specs.Scopes.{Refused, at_lines, told}
use Rattle.da_lang.specs.Written.{Size, greatest, writing, pattern_written, type_width}

unfoldable pub most_classes : ℕ
most_classes = 32

unfoldable pub most_processes : ℕ
most_processes = 64

unfoldable pub most_items : ℕ
most_items = 16384

unfoldable pub most_blocks : ℕ
most_blocks = 64

unfoldable pub most_variables : ℕ
most_variables = 1024

unfoldable pub most_parts : ℕ
most_parts = 255

unfoldable pub most_generators : ℕ
most_generators = 8

-- every statement counts one; a call counts its copied statements besides
abbrev pub kind_count : ItemKind-F ℕ ℕ ℕ ℕ → ℕ
kind_count (ItemKind-F.If branches other) = sum branches + sum other
kind_count (ItemKind-F.While x body) = sum body
kind_count (ItemKind-F.For slot x body) = sum body
kind_count (ItemKind-F.Call args body) = sum body
kind_count (ItemKind-F.Await alts timeout label) = sum alts + sum (unwrap_or timeout [])
kind_count _ = 0

abbrev pub alt_count : Alt-F ℕ ℕ ℕ ℕ → ℕ
alt_count a = sum a.body

abbrev pub item_count_step : Item-F ℕ ℕ ℕ ℕ → ℕ
item_count_step i = suc i.kind

abbrev pub branch_count : RBranch-F ℕ ℕ ℕ ℕ → ℕ
branch_count b = sum b.body

unfoldable pub item_count : Item → ℕ
item_count = fold-Item ℕ ℕ ℕ ℕ kind_count alt_count item_count_step branch_count

unfoldable pub kind_counted : ItemKind → ℕ
kind_counted = fold-ItemKind ℕ ℕ ℕ ℕ kind_count alt_count item_count_step branch_count

unfoldable pub alt_counted : Alt → ℕ
alt_counted = fold-Alt ℕ ℕ ℕ ℕ kind_count alt_count item_count_step branch_count

unfoldable pub branch_counted : RBranch → ℕ
branch_counted = fold-RBranch ℕ ℕ ℕ ℕ kind_count alt_count item_count_step branch_count

-- how many blocks are within each other, the outermost one too; where there is no block, none
abbrev pub block_depth : List ℕ → ℕ
block_depth [] = 0
block_depth (d ∷ ds) = suc (greatest (d ∷ ds))

abbrev pub kind_depth : ItemKind-F ℕ ℕ ℕ ℕ → ℕ
kind_depth (ItemKind-F.If branches other) = max (greatest branches) (block_depth other)
kind_depth (ItemKind-F.While x body) = block_depth body
kind_depth (ItemKind-F.For slot x body) = block_depth body
kind_depth (ItemKind-F.Call args body) = block_depth body
kind_depth (ItemKind-F.Await alts timeout label) = max (greatest alts) (block_depth (unwrap_or timeout []))
kind_depth _ = 0

abbrev pub alt_depth : Alt-F ℕ ℕ ℕ ℕ → ℕ
alt_depth a = block_depth a.body

abbrev pub item_depth_step : Item-F ℕ ℕ ℕ ℕ → ℕ
item_depth_step i = i.kind

abbrev pub branch_depth : RBranch-F ℕ ℕ ℕ ℕ → ℕ
branch_depth b = block_depth b.body

unfoldable pub item_depth : Item → ℕ
item_depth = fold-Item ℕ ℕ ℕ ℕ kind_depth alt_depth item_depth_step branch_depth

unfoldable pub kind_depth_of : ItemKind → ℕ
kind_depth_of = fold-ItemKind ℕ ℕ ℕ ℕ kind_depth alt_depth item_depth_step branch_depth

unfoldable pub alt_depth_of : Alt → ℕ
alt_depth_of = fold-Alt ℕ ℕ ℕ ℕ kind_depth alt_depth item_depth_step branch_depth

unfoldable pub branch_depth_of : RBranch → ℕ
branch_depth_of = fold-RBranch ℕ ℕ ℕ ℕ kind_depth alt_depth item_depth_step branch_depth

-- the bodies of a resolved class
abbrev pub item_lists : Class → List (List Item)
item_lists c = c.setup ∷ c.run ∷ map (λ h. h.body) c.handlers

abbrev pub class_items : Class → ℕ
class_items c = sum (map (λ items. sum (map item_count items)) (item_lists c))

abbrev pub class_blocks : Class → ℕ
class_blocks c = greatest (map (λ items. block_depth (map item_depth items)) (item_lists c))

-- the bodies that are in the inlined text: all but those of methods to which no call leads from `setup`, `run` or a
-- handler
abbrev pub is_root : Place → Bool
is_root (InMethod name) = false
is_root _ = true

abbrev pub root_calls : ClassTree → List (List ℕ)
root_calls c = filter_map (λ d. called d.does) (flat_map (λ b. deeds b.stmts) (filter (λ b. is_root b.place) (bodies c)))

abbrev pub is_reached : ClassTree → Place → Bool
is_reached c (InMethod name) = list_any (λ call. leads c call name) (root_calls c)
is_reached c _ = true

abbrev pub reached_deeds : ClassTree → List Deed
reached_deeds c = flat_map (λ b. deeds b.stmts) (filter (λ b. is_reached c b.place) (bodies c))

-- some query of an expression has a size over a limit
abbrev pub has_query : (Size → Bool) → Deed → Bool
has_query test d = list_any (λ x. list_any test (writing x).queries) d.says

abbrev pub too_many_variables : ClassTree → Bool
too_many_variables c =
    nat_lt most_variables (length (resolved_class c).slots)
    || list_any (has_query (λ s. nat_lt most_variables s.variables)) (reached_deeds c)

abbrev pub line_if : Bool → ℕ → List ℕ
line_if holds line = if holds then line ∷ [] else []

abbrev pub classes_over : Tree → List ℕ
classes_over t = map (λ c. c.line) (drop most_classes t.classes)

abbrev pub line_of_main : MainLine → ℕ
line_of_main (main_line.New name class count line) = line
line_of_main (main_line.Setup name args line) = line

-- the line of `main` that exceeds the limit, where so many were made before
abbrev pub processes_over : ℕ → List MainLine → List ℕ
processes_over before [] = []
processes_over before (l ∷ ls) = if nat_lt most_processes (before + made_count l) then line_of_main l ∷ [] else processes_over (before + made_count l) ls

abbrev pub items_over : ClassTree → List ℕ
items_over c = line_if (nat_lt most_items (class_items (resolved_class c))) c.line

abbrev pub blocks_over : ClassTree → List ℕ
blocks_over c = line_if (nat_lt most_blocks (class_blocks (resolved_class c))) c.line

abbrev pub variables_over : ClassTree → List ℕ
variables_over c = line_if (too_many_variables c) c.line

abbrev pub generators_over : ClassTree → List ℕ
generators_over c = map (λ d. d.line) (filter (has_query (λ s. nat_lt most_generators s.gens)) (reached_deeds c))

-- a tuple with too many parts: in a type, an expression, a pattern, a declaration of a message with its tag
abbrev pub wide : ℕ → Bool
wide parts = nat_lt most_parts parts

abbrev pub wide_exprs : List Expr → Bool
wide_exprs xs = list_any (λ x. wide (writing x).widest) xs

abbrev pub wide_patterns : Place → Bool
wide_patterns (InHandler message from labels) = list_any (λ p. wide (pattern_written p).widest) (message ∷ option_to_list from)
wide_patterns _ = false

abbrev pub wide_header : Body → Bool
wide_header b = list_any (λ p. wide (type_width p.ty)) b.params || wide_patterns b.place

abbrev pub parts_in_body : Body → List ℕ
parts_in_body b = line_if (wide_header b) b.line ++ map (λ d. d.line) (filter (λ d. wide_exprs d.says) (deeds b.stmts))

abbrev pub parts_in_variable : Variable → List ℕ
parts_in_variable v = line_if (wide (type_width v.ty)) v.line

abbrev pub parts_in_class : ClassTree → List ℕ
parts_in_class c = flat_map parts_in_variable (variables c) ++ flat_map parts_in_body (bodies c)

abbrev pub parts_in_message : MessageDecl → List ℕ
parts_in_message x = line_if (wide (suc (length x.parts)) || list_any (λ ty. wide (type_width ty)) x.parts) x.line

abbrev pub parts_in_main : MainLine → List ℕ
parts_in_main (main_line.New name class count line) = []
parts_in_main (main_line.Setup name args line) = line_if (wide_exprs args) line

abbrev pub parts_over : Tree → List ℕ
parts_over t = flat_map parts_in_message t.messages ++ flat_map parts_in_class t.classes ++ flat_map parts_in_main t.main

-- every refusal by limits
unfoldable pub limit_refusals : Tree → List (Refused LimitKind)
limit_refusals t =
    at_lines limit.Classes (classes_over t)
    ++ at_lines limit.Processes (processes_over 0 t.main)
    ++ at_lines limit.Items (flat_map items_over t.classes)
    ++ at_lines limit.Blocks (flat_map blocks_over t.classes)
    ++ at_lines limit.Variables (flat_map variables_over t.classes)
    ++ at_lines limit.Parts (parts_over t)
    ++ at_lines limit.Generators (flat_map generators_over t.classes)

-- the order of the kinds on one line
abbrev pub rank : LimitKind → ℕ
rank limit.Classes = 0
rank limit.Processes = 1
rank limit.Items = 2
rank limit.Blocks = 3
rank limit.Variables = 4
rank limit.Parts = 5
rank limit.Generators = 6

-- the refusal by limits that is reported, if there is one
abbrev pub limit_fault : Tree → Option (Refused LimitKind)
limit_fault t = told rank (limit_refusals t)

-- a tree that no name and no limit refuses has this program
pub record Resolves (t : Tree) (p : Program) : Type 0 where
  pub named : name_refusals t ≡ []
  pub within : limit_refusals t ≡ []
  pub becomes : p ≡ resolved t

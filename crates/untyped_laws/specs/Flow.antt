-- The flow of types through the statements of a class, as steps in the order in which slots take types.
use Rattle.std.specs.Prelude.{ℕ, suc, List, [], ◌∷◌, ◌++◌, map, Option, Some, None, unwrap_or, flat_map}
use Rattle.da_lang.specs.declared.program.Alt.{Alt}
use Rattle.da_lang.specs.declared.program.Class.{Class}
use Rattle.da_lang.specs.declared.program.Handler.{Handler}
use Rattle.da_lang.specs.declared.program.Item.{Item}
use Rattle.da_lang.specs.declared.program.ItemKind.{ItemKind}
use Rattle.da_lang.specs.declared.program.ItemKind.TheFolds.{fold-Item, fold-ItemKind, fold-Alt, fold-RBranch}
use Rattle.da_lang.specs.declared.program.ItemKind.TheOpen.{ItemKind-F, Alt-F, Item-F, RBranch-F}
use Rattle.da_lang.specs.declared.program.RBranch.{RBranch}
use Rattle.da_lang.specs.declared.program.RExpr.{RExpr}
use Rattle.da_lang.specs.declared.query.Query.{Query}
use Rattle.da_lang.specs.declared.tree.MessageDecl.{MessageDecl}
use Rattle.da_lang.specs.QueryTypes.{given}
use Rattle.da_lang.specs.Types.{element_of}
use Rattle.da_lang.specs.Typing.{Slots, with_type, with_row_types, typed, found_row, handler_row}

-- The slot of a loop takes the type of the elements; slots take the row of a numbered `some`, if there is one; slots take the
-- row of the patterns of a handler.
pub data Step : Type 0 where
  Loops : ℕ → RExpr → Step
  Finds : List ℕ → Option ℕ → Step
  Takes : Handler → Step

abbrev pub joined : List (List Step) → List Step
joined parts = flat_map (λ steps. steps) parts

abbrev pub kind_step : ItemKind-F (List Step) (List Step) (List Step) (List Step) → List Step
kind_step (ItemKind-F.If branches other) = joined (branches ++ other)
kind_step (ItemKind-F.While x body) = joined body
kind_step (ItemKind-F.For slot x body) = Loops slot x ∷ joined body
kind_step (ItemKind-F.Call args body) = joined body
kind_step (ItemKind-F.Await alts timeout label) = joined (alts ++ unwrap_or timeout [])
kind_step _ = []

abbrev pub alt_step : Alt-F (List Step) (List Step) (List Step) (List Step) → List Step
alt_step a = Finds a.binds a.found ∷ joined a.body

abbrev pub item_step : Item-F (List Step) (List Step) (List Step) (List Step) → List Step
item_step i = i.kind

abbrev pub branch_step : RBranch-F (List Step) (List Step) (List Step) (List Step) → List Step
branch_step b = Finds b.binds b.found ∷ joined b.body

unfoldable pub item_steps : Item → List Step
item_steps = fold-Item (List Step) (List Step) (List Step) (List Step) kind_step alt_step item_step branch_step

unfoldable pub kind_steps : ItemKind → List Step
kind_steps = fold-ItemKind (List Step) (List Step) (List Step) (List Step) kind_step alt_step item_step branch_step

unfoldable pub alt_steps : Alt → List Step
alt_steps = fold-Alt (List Step) (List Step) (List Step) (List Step) kind_step alt_step item_step branch_step

unfoldable pub branch_steps : RBranch → List Step
branch_steps = fold-RBranch (List Step) (List Step) (List Step) (List Step) kind_step alt_step item_step branch_step

abbrev pub body_steps : List Item → List Step
body_steps items = joined (map item_steps items)

abbrev pub handler_steps : Handler → List Step
handler_steps h = Takes h ∷ body_steps h.body

-- `setup`, `run`, and then the handlers
abbrev pub class_steps : Class → List Step
class_steps c = body_steps (c.setup ++ c.run) ++ joined (map handler_steps c.handlers)

-- the slots that take types, in order
abbrev pub step_binds : Step → List ℕ
step_binds (Loops slot x) = slot ∷ []
step_binds (Finds binds found) = binds
step_binds (Takes h) = h.binds

abbrev pub bound : List Step → List ℕ
bound steps = flat_map step_binds steps

-- what the steps make of the types of slots
module _ (messages : List MessageDecl) (queries : List Query) where
  abbrev pub run_step : Step → Slots → Slots
  run_step (Loops slot x) slots = with_type slot (given (typed messages queries slots x).type_ element_of) slots
  run_step (Finds binds found) slots = with_row_types binds (found_row messages queries found slots) slots
  run_step (Takes h) slots = with_row_types h.binds (handler_row messages queries h slots) slots

  abbrev pub run_steps : List Step → Slots → Slots
  run_steps [] slots = slots
  run_steps (step ∷ steps) slots = run_steps steps (run_step step slots)

-- the numbers of those that have nothing, where the first has this number
abbrev pub lacking : {A : Type 0} → ℕ → List (Option A) → List ℕ
lacking first [] = []
lacking first (None ∷ xs) = first ∷ lacking (suc first) xs
lacking first (Some x ∷ xs) = lacking (suc first) xs

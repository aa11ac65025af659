-- The types of the slots of a program, and the lines that break a rule of types.
use Rattle.std.specs.Prelude.{◌≡◌, ℕ, zero, suc, nat_lt, Bool, true, false, ◌&&◌, ◌||◌, if◌then◌else◌, List, [], ◌∷◌, ◌++◌, map, Option, Some, None, is_some, unwrap_or, flat_map, slice_get, slice_set}
use Rattle.std.specs.List.{list_all}
use Rattle.da_values.specs.declared.value.Value.TheVariants as kept
use Rattle.da_lang.specs.declared.program.Alt.{Alt}
use Rattle.da_lang.specs.declared.program.BindArg.{BindArg}
use Rattle.da_lang.specs.declared.program.Class.{Class}
use Rattle.da_lang.specs.declared.program.Handler.{Handler}
use Rattle.da_lang.specs.declared.program.Item.{Item}
use Rattle.da_lang.specs.declared.program.ItemKind.{ItemKind}
use Rattle.da_lang.specs.declared.program.ItemKind.TheFolds.{fold-Item, fold-ItemKind, fold-Alt, fold-RBranch}
use Rattle.da_lang.specs.declared.program.ItemKind.TheOpen.{ItemKind-F, Alt-F, Item-F, RBranch-F}
use Rattle.da_lang.specs.declared.program.Program.{Program}
use Rattle.da_lang.specs.declared.program.RBranch.{RBranch}
use Rattle.da_lang.specs.declared.program.RExpr.{RExpr, out-RExpr}
use Rattle.da_lang.specs.declared.program.RExpr.TheOpen as expr
use Rattle.da_lang.specs.declared.program.SetupCall.{SetupCall}
use Rattle.da_lang.specs.declared.program.ChainPart.{ChainPart}
use Rattle.da_lang.specs.declared.query.Query.{Query}
use Rattle.da_lang.specs.declared.tree.MessageDecl.{MessageDecl}
use Rattle.da_lang.specs.declared.ty.Ty.{Ty}
use Rattle.da_lang.specs.declared.ty.Ty.TheVariants as t
use Rattle.da_lang.specs.ExprTypes.{ExprType, typing, truth}
use Rattle.da_lang.specs.QueryTypes.{Known, given, type_at, slot_type, holds_of, is_typed, message_row, message_type, pattern_row, query_row, query_type, cond_holds}
use Rattle.da_lang.specs.Types.{is_proc, element_of}
use Rattle.da_lang.specs.World.{at_number}

-- the types of the slots, where they are known
abbrev pub Slots : Type 0
Slots = List (Option Ty)

-- the type that is known, or else the other
abbrev pub known_or : Option Ty → Option Ty → Option Ty
known_or None other = other
known_or (Some ty) other = Some ty

-- a slot takes a type, where none is known
abbrev pub with_type : ℕ → Option Ty → Slots → Slots
with_type zero ty slots = slots
with_type (suc place) ty slots = slice_set slots place (known_or (type_at slots (suc place)) ty)

abbrev pub with_types : List ℕ → List Ty → Slots → Slots
with_types [] types slots = slots
with_types (b ∷ bs) [] slots = slots
with_types (b ∷ bs) (ty ∷ types) slots = with_types bs types (with_type b (Some ty) slots)

abbrev pub with_row_types : List ℕ → Option (List Ty) → Slots → Slots
with_row_types binds None slots = slots
with_row_types binds (Some row) slots = with_types binds row slots

-- one after the other
abbrev pub in_turn : List (Slots → Slots) → Slots → Slots
in_turn [] slots = slots
in_turn (step ∷ steps) slots = in_turn steps (step slots)

-- the text at the head of a tuple that is sent
abbrev pub text_part : expr.RExpr-F RExpr ChainPart → Option (List ℕ)
text_part (expr.Const (kept.Text tag)) = Some tag
text_part _ = None

abbrev pub first_part : List RExpr → Option (List ℕ)
first_part [] = None
first_part (x ∷ xs) = text_part (out-RExpr x)

abbrev pub message_tag : expr.RExpr-F RExpr ChainPart → Option (List ℕ)
message_tag (expr.Tuple xs) = first_part xs
message_tag _ = None

-- the line of a rule that is broken; the lines of all parts
abbrev pub unless : ℕ → Bool → List ℕ
unless line holds = if holds then [] else line ∷ []

abbrev pub all : List (List ℕ) → List ℕ
all lines = flat_map (λ part. part) lines

-- whether a statement itself keeps the rules, and the lines in its blocks that break one
pub record Breaks : Type 0 where
  pub rule : Bool
  pub blocks : List ℕ

abbrev pub breaks : Bool → List (List ℕ) → Breaks
breaks rule blocks = record { rule = rule; blocks = all blocks }

module _ (messages : List MessageDecl) (queries : List Query) where
  abbrev pub known : Slots → Known
  known slots = record { messages = messages; slots = slots }

  abbrev pub typed : Slots → RExpr → ExprType
  typed slots = typing (known slots) queries

  -- The slots of loops, and those that a `some` binds, take their types on the way.
  abbrev pub found_row : Option ℕ → Slots → Option (List Ty)
  found_row found slots = given (given found (at_number queries)) (query_row (known slots))

  abbrev pub kind_types : ItemKind-F (Slots → Slots) (Slots → Slots) (Slots → Slots) (Slots → Slots) → Slots → Slots
  kind_types (ItemKind-F.If branches other) slots = in_turn (branches ++ other) slots
  kind_types (ItemKind-F.While x body) slots = in_turn body slots
  kind_types (ItemKind-F.For slot x body) slots = in_turn body (with_type slot (given (typed slots x).type_ element_of) slots)
  kind_types (ItemKind-F.Call args body) slots = in_turn body slots
  kind_types (ItemKind-F.Await alts timeout label) slots = in_turn (alts ++ unwrap_or timeout []) slots
  kind_types _ slots = slots

  abbrev pub alt_types : Alt-F (Slots → Slots) (Slots → Slots) (Slots → Slots) (Slots → Slots) → Slots → Slots
  alt_types a slots = in_turn a.body (with_row_types a.binds (found_row a.found slots) slots)

  abbrev pub item_types_step : Item-F (Slots → Slots) (Slots → Slots) (Slots → Slots) (Slots → Slots) → Slots → Slots
  item_types_step i = i.kind

  abbrev pub branch_types : RBranch-F (Slots → Slots) (Slots → Slots) (Slots → Slots) (Slots → Slots) → Slots → Slots
  branch_types b slots = in_turn b.body (with_row_types b.binds (found_row b.found slots) slots)

  unfoldable pub item_types : Item → Slots → Slots
  item_types = fold-Item (Slots → Slots) (Slots → Slots) (Slots → Slots) (Slots → Slots) kind_types alt_types item_types_step branch_types

  unfoldable pub kind_flow : ItemKind → Slots → Slots
  kind_flow = fold-ItemKind (Slots → Slots) (Slots → Slots) (Slots → Slots) (Slots → Slots) kind_types alt_types item_types_step branch_types

  unfoldable pub alt_flow : Alt → Slots → Slots
  alt_flow = fold-Alt (Slots → Slots) (Slots → Slots) (Slots → Slots) (Slots → Slots) kind_types alt_types item_types_step branch_types

  unfoldable pub branch_flow : RBranch → Slots → Slots
  branch_flow = fold-RBranch (Slots → Slots) (Slots → Slots) (Slots → Slots) (Slots → Slots) kind_types alt_types item_types_step branch_types

  -- a handler's message is over a declared message, its sender over processes
  abbrev pub handler_row : Handler → Slots → Option (List Ty)
  handler_row h slots = given (message_row (known slots) h.message []) (pattern_row (known slots) h.from t.Proc)

  abbrev pub handler_types : Handler → Slots → Slots
  handler_types h slots = in_turn (map item_types h.body) (with_row_types h.binds (handler_row h slots) slots)

  -- The lines that break a rule, where the slots have these types.
  module _ (slots : Slots) where
    -- a slot has this type
    abbrev pub has_type : ℕ → Ty → Bool
    has_type slot ty = is_typed (slot_type (known slots) slot) ty

    -- slots have the types of a row, one each
    abbrev pub have_types : List ℕ → List Ty → Bool
    have_types [] [] = true
    have_types [] (ty ∷ types) = false
    have_types (b ∷ bs) [] = false
    have_types (b ∷ bs) (ty ∷ types) = has_type b ty && have_types bs types

    -- of the row that a numbered `some` finds, if there is one to bind
    abbrev pub have_found : Option ℕ → List ℕ → Bool
    have_found None binds = true
    have_found (Some query) binds = holds_of (found_row (Some query) slots) (have_types binds)

    -- an expression fits the type of a slot; fits the elements of a slot; is one of them
    abbrev pub fits_slot : ℕ → RExpr → Bool
    fits_slot slot x = holds_of (slot_type (known slots) slot) (typed slots x).fits

    abbrev pub fits_element : ℕ → RExpr → Bool
    fits_element slot x = holds_of (given (slot_type (known slots) slot) element_of) (typed slots x).fits

    abbrev pub is_element : ℕ → RExpr → Bool
    is_element slot x = holds_of (given (slot_type (known slots) slot) element_of) (is_typed (typed slots x).type_)

    abbrev pub is_message : RExpr → Bool
    is_message x = holds_of (given (message_tag (out-RExpr x)) (message_type (known slots))) (typed slots x).fits

    -- a process, or a set of them
    abbrev pub is_recipient : Ty → Bool
    is_recipient ty = is_proc ty || holds_of (element_of ty) is_proc

    -- the slot of a loop has the type of the elements
    abbrev pub takes_elements : ℕ → RExpr → Bool
    takes_elements slot x = holds_of (given (typed slots x).type_ element_of) (has_type slot)

    abbrev pub fits_params : List BindArg → Bool
    fits_params args = list_all (λ a. fits_slot a.slot a.value) args

    abbrev pub kind_breaks : ItemKind-F Breaks (List ℕ) (List ℕ) (List ℕ) → Breaks
    kind_breaks (ItemKind-F.Assign slot x) = breaks (fits_slot slot x) []
    kind_breaks (ItemKind-F.Add slot x) = breaks (fits_element slot x) []
    kind_breaks (ItemKind-F.Del slot x) = breaks (is_element slot x) []
    kind_breaks (ItemKind-F.Send x to) = breaks (is_message x && holds_of (typed slots to).type_ is_recipient) []
    kind_breaks (ItemKind-F.Output x) = breaks (is_some (typed slots x).type_) []
    kind_breaks (ItemKind-F.If branches other) = breaks true (branches ++ other)
    kind_breaks (ItemKind-F.While x body) = breaks (truth (typed slots x)) body
    kind_breaks (ItemKind-F.For slot x body) = breaks (takes_elements slot x) body
    kind_breaks (ItemKind-F.Call args body) = breaks (fits_params args) body
    kind_breaks (ItemKind-F.Await alts timeout label) = breaks true (alts ++ unwrap_or timeout [])
    kind_breaks (ItemKind-F.Label l) = breaks true []
    kind_breaks ItemKind-F.Pass = breaks true []

    abbrev pub alt_breaks : Alt-F Breaks (List ℕ) (List ℕ) (List ℕ) → List ℕ
    alt_breaks a = unless a.line (cond_holds (known slots) a.cond [] && have_found a.found a.binds) ++ all a.body

    abbrev pub item_breaks_step : Item-F Breaks (List ℕ) (List ℕ) (List ℕ) → List ℕ
    item_breaks_step i = unless i.line i.kind.rule ++ i.kind.blocks

    abbrev pub branch_breaks : RBranch-F Breaks (List ℕ) (List ℕ) (List ℕ) → List ℕ
    branch_breaks b = unless b.line (truth (typed slots b.cond) && have_found b.found b.binds) ++ all b.body

    unfoldable pub item_breaks : Item → List ℕ
    item_breaks = fold-Item Breaks (List ℕ) (List ℕ) (List ℕ) kind_breaks alt_breaks item_breaks_step branch_breaks

    unfoldable pub kind_broken : ItemKind → Breaks
    kind_broken = fold-ItemKind Breaks (List ℕ) (List ℕ) (List ℕ) kind_breaks alt_breaks item_breaks_step branch_breaks

    unfoldable pub alt_broken : Alt → List ℕ
    alt_broken = fold-Alt Breaks (List ℕ) (List ℕ) (List ℕ) kind_breaks alt_breaks item_breaks_step branch_breaks

    unfoldable pub branch_broken : RBranch → List ℕ
    branch_broken = fold-RBranch Breaks (List ℕ) (List ℕ) (List ℕ) kind_breaks alt_breaks item_breaks_step branch_breaks

    abbrev pub handler_breaks : Handler → List ℕ
    handler_breaks h = unless h.line (holds_of (handler_row h slots) (have_types h.binds)) ++ flat_map item_breaks h.body

-- the types of the slots of a class that are known, with those that come on the way
unfoldable pub filled_slots : List MessageDecl → Class → Slots
filled_slots messages c =
    in_turn (map (item_types messages c.queries) (c.setup ++ c.run) ++ map (handler_types messages c.queries) c.handlers) c.slots

abbrev pub class_breaks : List MessageDecl → Class → List ℕ
class_breaks messages c =
    flat_map (item_breaks messages c.queries c.slots) (c.setup ++ c.run) ++ flat_map (handler_breaks messages c.queries c.slots) c.handlers

-- the arguments of a line of `setup` fit the parameters of the class
abbrev pub args_fit : List MessageDecl → Class → List ℕ → List RExpr → Bool
args_fit messages c [] args = true
args_fit messages c (param ∷ params) [] = true
args_fit messages c (param ∷ params) (x ∷ xs) = fits_slot messages c.queries c.slots param x && args_fit messages c params xs

abbrev pub call_breaks : List MessageDecl → Option Class → Option SetupCall → List ℕ
call_breaks messages None call = []
call_breaks messages (Some c) None = []
call_breaks messages (Some c) (Some call) = if args_fit messages c c.params call.args then [] else call.line ∷ []

-- every line of a program that breaks a rule of types, where its slots have the types that are known
unfoldable pub breaks_in : Program → List ℕ
breaks_in p =
    flat_map (class_breaks p.messages) p.classes
    ++ flat_map (λ d. call_breaks p.messages (slice_get p.classes d.class) d.setup) p.procs

-- the program in which each slot that had no type has the one that its header gives it
abbrev pub filled_class : List MessageDecl → Class → Class
filled_class messages c = record c { slots = filled_slots messages c }

unfoldable pub filled : Program → Program
filled p = record p { classes = map (filled_class p.messages) p.classes }

-- every line of a program that breaks a rule of types, and the earliest of them, if there is one
unfoldable pub type_breaks : Program → List ℕ
type_breaks p = breaks_in (filled p)

abbrev pub least_of : ℕ → Option ℕ → ℕ
least_of line None = line
least_of line (Some other) = if nat_lt other line then other else line

abbrev pub least : List ℕ → Option ℕ
least [] = None
least (line ∷ lines) = Some (least_of line (least lines))

abbrev pub type_fault : Program → Option ℕ
type_fault p = least (type_breaks p)

-- each slot has a type; each numbered query has one
abbrev pub has_types : Class → Bool
has_types c = list_all is_some c.slots

abbrev pub has_queries : List MessageDecl → Class → Bool
has_queries messages c = list_all (λ q. is_some (query_type (known messages c.queries c.slots) q)) c.queries

-- a typed program: no rule is broken, and every slot and every numbered query has a type
pub record IsTyped (p : Program) : Type 0 where
  pub keeps : breaks_in p ≡ []
  pub complete : list_all has_types p.classes ≡ true
  pub asked : list_all (has_queries p.messages) p.classes ≡ true

-- the program that a resolved program becomes where no rule is broken
pub record Typed (p q : Program) : Type 0 where
  pub keeps : type_breaks p ≡ []
  pub becomes : q ≡ filled p

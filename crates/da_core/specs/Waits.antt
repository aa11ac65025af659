-- What is waited for at the yield points of a class, with the flags of its plan.
use Rattle.std.specs.Prelude.{ℕ, Bool, false, List, [], ◌∷◌, ◌++◌, map, drop, Option, Some, is_some, unwrap_or, get_or}
use Rattle.da_lang.specs.declared.program.Alt.{Alt}
use Rattle.da_lang.specs.declared.program.Class.{Class}
use Rattle.da_lang.specs.declared.program.Handler.{Handler}
use Rattle.da_lang.specs.declared.program.Item.{Item}
use Rattle.da_lang.specs.declared.program.ItemKind.{ItemKind}
use Rattle.da_lang.specs.declared.program.ItemKind.TheFolds.{fold-Alt, fold-Item, fold-ItemKind, fold-RBranch}
use Rattle.da_lang.specs.declared.program.ItemKind.TheOpen.{ItemKind-F, Alt-F, Item-F, RBranch-F}
use Rattle.da_lang.specs.declared.program.RBranch.{RBranch}
use Rattle.da_core.specs.declared.waits.Alternative.{Alternative}
use Rattle.da_core.specs.declared.waits.Wait.{Wait}

-- at each yield point
abbrev pub Waits : Type 0
Waits = List Wait

-- a label has no alternatives
abbrev pub at_label : ℕ → Wait
at_label l = record { alternatives = []; has_timeout = false; label = Some l }

-- The alternatives of a class take the flags of its plan one after the other in the order of the text: each one before those
-- in its block. What is waited for at the yield points of a part of the text, and the flags that are left for what follows:
pub record Taken : Type 0 where
  pub waits : Waits
  pub left : List ℕ

abbrev pub Take : Type 0
Take = List ℕ → Taken

-- the next of these flags
abbrev pub next_flag : List ℕ → ℕ
next_flag flags = get_or flags 0 0

abbrev pub none_taken : Take
none_taken flags = record { waits = []; left = flags }

-- one part after the other
abbrev pub all_taken : List Take → Take
all_taken [] flags = none_taken flags
all_taken (take ∷ takes) flags =
    let first = take flags in
    let others = all_taken takes first.left in
    record { waits = first.waits ++ others.waits; left = others.left }

-- an alternative, by what it finds and binds and by its block
pub record AltTake : Type 0 where
  pub found : Option ℕ
  pub binds : List ℕ
  pub block : Take

-- the alternatives of one `await`, what is waited for in their blocks, and the flags that are left
pub record AltsTaken : Type 0 where
  pub own : List Alternative
  pub inside : Waits
  pub left : List ℕ

abbrev pub alts_taken : List AltTake → List ℕ → AltsTaken
alts_taken [] flags = record { own = []; inside = []; left = flags }
alts_taken (alt ∷ alts) flags =
    let block = alt.block (drop 1 flags) in
    let others = alts_taken alts block.left in
    record {
      own = record { flag = next_flag flags; found = alt.found; binds = alt.binds } ∷ others.own;
      inside = block.waits ++ others.inside;
      left = others.left;
    }

-- an `await` comes before the yield points in its alternatives, and these before those in the block of its timeout
abbrev pub await_taken : AltsTaken → Bool → Option ℕ → Take → Taken
await_taken alts has_timeout label block =
    let last = block alts.left in
    record {
      waits = record { alternatives = alts.own; has_timeout = has_timeout; label = label } ∷ alts.inside ++ last.waits;
      left = last.left;
    }

abbrev pub kind_step : ItemKind-F Take AltTake Take Take → Take
kind_step (ItemKind-F.If branches other) flags = all_taken (branches ++ other) flags
kind_step (ItemKind-F.While e body) flags = all_taken body flags
kind_step (ItemKind-F.For s e body) flags = all_taken body flags
kind_step (ItemKind-F.Call args body) flags = all_taken body flags
kind_step (ItemKind-F.Await alts timeout label) flags =
    await_taken (alts_taken alts flags) (is_some timeout) label (all_taken (unwrap_or timeout []))
kind_step (ItemKind-F.Label l) flags = record { waits = at_label l ∷ []; left = flags }
kind_step _ flags = none_taken flags

abbrev pub alt_step : Alt-F Take AltTake Take Take → AltTake
alt_step a = record { found = a.found; binds = a.binds; block = all_taken a.body }

abbrev pub item_step : Item-F Take AltTake Take Take → Take
item_step i = i.kind

abbrev pub branch_step : RBranch-F Take AltTake Take Take → Take
branch_step b = all_taken b.body

-- of what a statement does, of a statement, of the block of a branch, and of an alternative
unfoldable pub kind_take : ItemKind → Take
kind_take = fold-ItemKind Take AltTake Take Take kind_step alt_step item_step branch_step

unfoldable pub item_take : Item → Take
item_take = fold-Item Take AltTake Take Take kind_step alt_step item_step branch_step

unfoldable pub branch_take : RBranch → Take
branch_take = fold-RBranch Take AltTake Take Take kind_step alt_step item_step branch_step

unfoldable pub alt_take : Alt → AltTake
alt_take = fold-Alt Take AltTake Take Take kind_step alt_step item_step branch_step

-- of statements, and of the body of a handler
abbrev pub items_take : List Item → Take
items_take items = all_taken (map item_take items)

abbrev pub handler_take : Handler → Take
handler_take h = items_take h.body

-- of a class: of `run`, then of its handlers
abbrev pub class_take : Class → Take
class_take class = all_taken (items_take class.run ∷ map handler_take class.handlers)

abbrev pub waits_of : Class → List ℕ → Waits
waits_of class flags = (class_take class flags).waits

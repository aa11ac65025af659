-- What is added to code, and for what it stands.
use Rattle.std.specs.Prelude.{◌≡◌, ℕ, suc, ◌+◌, ◌^◌, ◌<◌, ◌≤◌, Bool, true, false, List, [], ◌∷◌, ◌++◌, length, flat_map, Option, Some, is_some, slice_get, slice_set}
use Rattle.std.specs.List.{AllByRecursion}
use Rattle.da_lang.specs.declared.code.Instr.{Instr}
use Rattle.da_lang.specs.declared.program.Alt.{Alt}
use Rattle.da_lang.specs.declared.program.ChainPart.{ChainPart}
use Rattle.da_lang.specs.declared.program.Class.{Class}
use Rattle.da_lang.specs.declared.program.Handler.{Handler}
use Rattle.da_lang.specs.declared.program.Item.{Item}
use Rattle.da_lang.specs.declared.program.ItemKind.TheOpen as kind
use Rattle.da_lang.specs.declared.program.ItemKind.TheViews.{out-Alt, out-RBranch}
use Rattle.da_lang.specs.declared.program.RBranch.{RBranch}
use Rattle.da_lang.specs.declared.program.RExpr.{RExpr}
use Rattle.da_lang.specs.declared.program.RExpr.TheVariants as ex
use Rattle.da_lang.specs.declared.program.SetupCall.{SetupCall}
use Rattle.da_lang.specs.Shaped.{blocks_in}
use Rattle.da_lang.specs.Turns.{kind_of}
use Rattle.da_machine.specs.declared.code.Code.{Code}
use Rattle.da_machine.specs.declared.code.YieldPoint.{YieldPoint}
use Rattle.da_machine.specs.CodeFor.{BlockAt, ExprAt, ExprsAt, FoundAt, Has, ItemAt, LoopAt, PartsAt, StoresAt, WorkAt}
use Rattle.da_lang.specs.declared.code.Instr.TheVariants as op
use Rattle.da_machine.specs.Points.{AtAwait, AtLabel, IsNumbered, Point, Points, class_points, ways_of, points_in}
use Rattle.code_gen.specs.declared.emit.OpenAwait.{OpenAwait}
use Rattle.code_gen.specs.Open.{HandlersAt, OpenBlocks, OpenBranches, OpenSetups, SetupAt}

-- with an instruction more; with another one at a place; with the same one at several places
abbrev pub added : Code → Instr → Code
added code i = record code { instrs = code.instrs ++ i ∷ [] }

abbrev pub patched : Code → ℕ → Instr → Code
patched code at i = record code { instrs = slice_set code.instrs at i }

abbrev pub filled : Code → List ℕ → Instr → Code
filled code [] i = code
filled code (at ∷ places) i = filled (patched code at i) places i

-- with a yield point more, and with another one in the place of one that was reserved
abbrev pub pointed : Code → YieldPoint → Code
pointed code point = record code { yields = code.yields ++ point ∷ [] }

abbrev pub repointed : Code → ℕ → YieldPoint → Code
repointed code k point = record code { yields = slice_set code.yields k point }

-- one that is reserved
abbrev pub reserved : YieldPoint
reserved = record { label = true; entries = [] }

-- where the code ends
abbrev pub end_of : Code → ℕ
end_of code = length code.instrs

-- all that stood in the list stands at its place
pub record Stays (A : Type 0) (old new : List A) : Type 0 where
  pub same : (k : ℕ) → k < length old → slice_get new k ≡ slice_get old k
  pub longer : length old ≤ length new

-- code grew, by so many yield points
pub record Grown (old new : Code) (points : ℕ) : Type 0 where
  pub instrs : Stays Instr old.instrs new.instrs
  pub yields : (k : ℕ) → k < length old.yields → slice_get new.yields k ≡ slice_get old.yields k
  pub count : length new.yields ≡ length old.yields + points

-- these are the yield points of the class from this number on, and it has no more than 32 bits count
pub record AreNumbered (class : Class) (from : ℕ) (points : Points) : Type 0 where
  pub few : length (class_points class) < 2 ^ 32
  pub each : (n : ℕ) (point : Point) → slice_get points n ≡ Some point → IsNumbered class (from + n) point

-- those of a block, of branches and of alternatives
abbrev pub block_points : List Item → Points
block_points items = flat_map points_in items

abbrev pub branch_points : RBranch → Points
branch_points b = block_points (out-RBranch b).body

abbrev pub alt_points : Alt → Points
alt_points a = block_points (out-Alt a).body

-- places at which there is something only since the code was this
abbrev pub AreAfter : Code → List ℕ → Type 0
AreAfter code places = AllByRecursion (λ at. end_of code ≤ at) places

-- `or`, whose operands decide where they are true, or `and`
abbrev pub deciding : Bool → List RExpr → RExpr
deciding true es = ex.Or es
deciding false es = ex.And es

-- Code was added that stands for an expression; for several; for the further parts of a chain.
pub record MadeExpr (old new : Code) (e : RExpr) : Type 0 where
  pub grown : Grown old new 0
  pub stands : ExprAt new (end_of old) e (end_of new)

pub record MadeExprs (old new : Code) (es : List RExpr) : Type 0 where
  pub grown : Grown old new 0
  pub stands : ExprsAt new (end_of old) es (end_of new)

pub record MadeParts (old new : Code) (parts : List ChainPart) : Type 0 where
  pub grown : Grown old new 0
  pub stands : PartsAt new (end_of old) parts (end_of new)

-- that stores values, and that binds a row
pub record MadeStores (old new : Code) (slots : List ℕ) : Type 0 where
  pub grown : Grown old new 0
  pub stands : StoresAt new (end_of old) slots (end_of new)

pub record MadeFound (old new : Code) (found : Option ℕ) (slots : List ℕ) : Type 0 where
  pub grown : Grown old new 0
  pub stands : FoundAt new (end_of old) found slots (end_of new)

-- that begins a turn and does something with the value of an expression
pub record MadeDoing (old new : Code) (line : ℕ) (e : RExpr) (does : Instr) : Type 0 where
  pub grown : Grown old new 0
  pub value_end : ℕ
  pub turn : Has new (end_of old) (op.Turn line)
  pub value : ExprAt new (end_of old + 1) e value_end
  pub doing : Has new value_end does
  pub ends : end_of new ≡ value_end + 1

-- Code was added that stands for statements in each class that numbers their yield points from here on.
pub record MadeItem (old new : Code) (i : Item) : Type 0 where
  pub grown : Grown old new (length (points_in i))
  pub stands : (class : Class) → AreNumbered class (length old.yields) (points_in i) → ItemAt new class (end_of old) i (end_of new)

pub record MadeBlock (old new : Code) (items : List Item) : Type 0 where
  pub grown : Grown old new (length (block_points items))
  pub stands : (class : Class) → AreNumbered class (length old.yields) (block_points items) → BlockAt new class (end_of old) items (end_of new)

pub record MadeWhile (old new : Code) (e : RExpr) (body : List Item) (line : ℕ) : Type 0 where
  pub grown : Grown old new (length (block_points body))
  pub turn : Has new (end_of old) (op.Turn line)
  pub stands : (class : Class) → AreNumbered class (length old.yields) (block_points body) → WorkAt new class (end_of old) line (kind.While e body) (end_of new)

pub record MadeLabel (old new : Code) : Type 0 where
  pub grown : Grown old new 1
  pub stands : (class : Class) (label : ℕ) → AreNumbered class (length old.yields) (AtLabel label ∷ []) → (i : Item) → kind_of i ≡ kind.Label label → ItemAt new class (end_of old) i (end_of new)

-- the same of an `await` with these blocks, whatever it waits for
pub record MadeAwait (old new : Code) (bodies : List (List Item)) : Type 0 where
  pub grown : Grown old new (suc (length (flat_map block_points bodies)))
  pub stands : (class : Class) (alts : List Alt) (timeout : Option (List Item)) (label : Option ℕ) → blocks_in (kind.Await alts timeout label) ≡ bodies
      → AreNumbered class (length old.yields) (AtAwait (ways_of alts) (is_some timeout) label ∷ flat_map block_points bodies) → (i : Item) → kind_of i ≡ kind.Await alts timeout label → ItemAt new class (end_of old) i (end_of new)

pub record MadeLoop (old new : Code) (slot : ℕ) (body : List Item) (line : ℕ) : Type 0 where
  pub grown : Grown old new (length (block_points body))
  pub stands : (class : Class) → AreNumbered class (length old.yields) (block_points body) → LoopAt new class (end_of old) slot body line (end_of new)

-- the same of branches and of blocks, whose last jumps are still to be written at the places told
pub record MadeBranches (old new : Code) (branches : List RBranch) (leaves : List ℕ) : Type 0 where
  pub grown : Grown old new (length (flat_map branch_points branches))
  pub behind : AreAfter old leaves
  pub stands : (class : Class) → AreNumbered class (length old.yields) (flat_map branch_points branches) → OpenBranches new class (end_of old) branches (end_of new) leaves

pub record MadeBlocks (old new : Code) (bodies : List (List Item)) (entries leaves : List ℕ) : Type 0 where
  pub grown : Grown old new (length (flat_map block_points bodies))
  pub behind : AreAfter old leaves
  pub stands : (class : Class) → AreNumbered class (length old.yields) (flat_map block_points bodies) → OpenBlocks new class (end_of old) bodies (end_of new) entries leaves

-- An `await` was begun: its yield point is reserved, its instruction stands, and these of its blocks with their entries.
pub record Awaiting (old new : Code) (bodies : List (List Item)) (begun : OpenAwait) : Type 0 where
  pub first : Code
  pub number : ℕ
  pub small : length old.yields < 2 ^ 32 → number ≡ length old.yields
  pub begins : first ≡ added (pointed old reserved) (op.Yield number)
  pub place : begun.at ≡ length old.yields
  pub blocks : MadeBlocks first new bodies begun.entries begun.leaves

-- it is ended: each block goes on after the last one, and the entries are written into the yield point
abbrev pub closed : Code → OpenAwait → Code
closed code begun = repointed (filled code begun.leaves (op.Jump (end_of code))) begun.at (record { label = false; entries = begun.entries })

-- Code was added that does what a line of `setup` asks for, if there is one; the openings of processes with where they
-- start, whose jumps to `run` are still to be written; and the bodies of handlers with their entries.
pub record MadeSetup (old new : Code) (class : Class) (call : Option SetupCall) : Type 0 where
  pub grown : Grown old new 0
  pub stands : SetupAt new class (end_of old) call (end_of new)

pub record MadeSetups (old new : Code) (class : Class) (calls : List (Option SetupCall)) (starts leaves : List ℕ) : Type 0 where
  pub grown : Grown old new 0
  pub behind : AreAfter old leaves
  pub stands : OpenSetups new class (end_of old) calls (end_of new) starts leaves

abbrev pub handler_points : Handler → Points
handler_points h = block_points h.body

pub record MadeHandlers (old new : Code) (handlers : List Handler) (entries : List ℕ) : Type 0 where
  pub grown : Grown old new (length (flat_map handler_points handlers))
  pub stands : (class : Class) → AreNumbered class (length old.yields) (flat_map handler_points handlers) → HandlersAt new class (end_of old) handlers (end_of new) entries

-- Code of branches, blocks and openings whose last jumps are still to be written.
use Rattle.std.specs.Prelude.{ℕ, ◌+◌, ◌==◌, if◌then◌else◌, List, [], ◌∷◌, Option, Some, None}
use Rattle.da_lang.specs.declared.code.Instr.TheVariants as op
use Rattle.da_lang.specs.declared.program.Class.{Class}
use Rattle.da_lang.specs.declared.program.Handler.{Handler}
use Rattle.da_lang.specs.declared.program.Item.{Item}
use Rattle.da_lang.specs.declared.program.ItemKind.TheViews.{out-RBranch}
use Rattle.da_lang.specs.declared.program.ProcDecl.{ProcDecl}
use Rattle.da_lang.specs.declared.program.RBranch.{RBranch}
use Rattle.da_lang.specs.declared.program.SetupCall.{SetupCall}
use Rattle.da_machine.specs.declared.code.Code.{Code}
use Rattle.da_machine.specs.CodeFor.{Has, BlockAt, EnterAt, ExprAt, FoundAt}

module _ (code : Code) (class : Class) where
  -- branches, each with a hole where it leaves
  pub data OpenBranches : ℕ → List RBranch → ℕ → List ℕ → Type 0 where
    none : {at : ℕ} → OpenBranches at [] at []
    branch : {at test to end last : ℕ} {b : RBranch} {bs : List RBranch} {leaves : List ℕ} → ExprAt code at (out-RBranch b).cond test → Has code test (op.JumpUnless (end + 1)) → FoundAt code (test + 1) (out-RBranch b).found (out-RBranch b).binds to → BlockAt code class to (out-RBranch b).body end → Has code end op.End → OpenBranches (end + 1) bs last leaves → OpenBranches at (b ∷ bs) last (end ∷ leaves)

  -- blocks with their entries, each with a hole where it leaves
  pub data OpenBlocks : ℕ → List (List Item) → ℕ → List ℕ → List ℕ → Type 0 where
    none : {at : ℕ} → OpenBlocks at [] at [] []
    block : {at end last : ℕ} {body : List Item} {bodies : List (List Item)} {entries leaves : List ℕ} → BlockAt code class at body end → Has code end op.End → OpenBlocks (end + 1) bodies last entries leaves → OpenBlocks at (body ∷ bodies) last (at ∷ entries) (end ∷ leaves)

  -- what a line of `setup` asks for, if there is one
  pub data SetupAt : ℕ → Option SetupCall → ℕ → Type 0 where
    no_setup : {at : ℕ} → SetupAt at None at
    setup : {at end : ℕ} {call : SetupCall} → Has code at (op.Turn call.line) → EnterAt code class (at + 1) call.args class.params class.setup end → SetupAt at (Some call) end

  -- openings with their entries, each with a hole where it goes on to `run`
  pub data OpenSetups : ℕ → List (Option SetupCall) → ℕ → List ℕ → List ℕ → Type 0 where
    none : {at : ℕ} → OpenSetups at [] at [] []
    opening : {at end last : ℕ} {s : Option SetupCall} {ss : List (Option SetupCall)} {entries leaves : List ℕ} → SetupAt at s end → Has code end op.End → OpenSetups (end + 1) ss last entries leaves → OpenSetups at (s ∷ ss) last (at ∷ entries) (end ∷ leaves)

  -- the bodies of handlers with their entries, each with the end after it
  pub data HandlersAt : ℕ → List Handler → ℕ → List ℕ → Type 0 where
    none : {at : ℕ} → HandlersAt at [] at []
    handler : {at end last : ℕ} {h : Handler} {hs : List Handler} {entries : List ℕ} → BlockAt code class at h.body end → Has code end op.End → HandlersAt (end + 1) hs last entries → HandlersAt at (h ∷ hs) last (at ∷ entries)

-- the lines of `setup` of the processes of the class of this number, where there is one
abbrev pub own_setups : ℕ → List ProcDecl → List (Option SetupCall)
own_setups number [] = []
own_setups number (d ∷ ds) = if d.class == number then d.setup ∷ own_setups number ds else own_setups number ds

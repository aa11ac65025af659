-- The code that stands for what is still to do.
use Rattle.std.specs.Prelude.{◌≡◌, ℕ, ◌+◌, Bool, true, false, List, [], ◌∷◌, ◌++◌, map, length, Option, Some, None, is_some, slice_get}
use Rattle.da_values.specs.declared.val.Val.{Val}
use Rattle.da_values.specs.declared.val.Val.TheVariants as val
use Rattle.da_values.specs.declared.value.Value.{Value}
use Rattle.da_values.specs.declared.value.Value.TheVariants as kept
use Rattle.da_values.specs.Order.{val_cmp}
use Rattle.da_values.specs.Sets.{set_image}
use Rattle.da_values.specs.Value.{val_of}
use Rattle.da_lang.specs.declared.code.Instr.{Instr}
use Rattle.da_lang.specs.declared.code.Instr.TheVariants as op
use Rattle.da_lang.specs.declared.program.Alt.{Alt}
use Rattle.da_lang.specs.declared.program.BindArg.{BindArg}
use Rattle.da_lang.specs.declared.program.ChainPart.{ChainPart}
use Rattle.da_lang.specs.declared.program.Class.{Class}
use Rattle.da_lang.specs.declared.program.Item.{Item}
use Rattle.da_lang.specs.declared.program.ItemKind.{ItemKind}
use Rattle.da_lang.specs.declared.program.ItemKind.TheOpen as kind
use Rattle.da_lang.specs.declared.program.ItemKind.TheOpen.{ItemKind-F}
use Rattle.da_lang.specs.declared.program.ItemKind.TheViews.{out-RBranch}
use Rattle.da_lang.specs.declared.program.RBranch.{RBranch}
use Rattle.da_lang.specs.declared.program.RExpr.{RExpr}
use Rattle.da_lang.specs.declared.program.RExpr.TheVariants as ex
use Rattle.da_lang.specs.declared.program.RExpr.TheViews.{out-ChainPart}
use Rattle.da_lang.specs.declared.program.SetupCall.{SetupCall}
use Rattle.da_lang.specs.declared.tree.CmpOp.{CmpOp}
use Rattle.da_lang.specs.Shaped.{blocks_in}
use Rattle.da_lang.specs.Turns.{kind_of, line_of, slot_of_arg, value_of_arg}
use Rattle.da_lang.specs.World.{Task, Do, Loop, Prepare}
use Rattle.da_machine.specs.declared.code.Code.{Code}
use Rattle.da_machine.specs.Points.{AtLabel, AtAwait, ways_of, IsNumbered}

-- the instruction stands at the place
abbrev pub Has : Code → ℕ → Instr → Type 0
Has code at i = slice_get code.instrs at ≡ Some i

-- a jump where the top value is this one
abbrev pub jump_at : Bool → ℕ → Instr
jump_at true to = op.JumpIf to
jump_at false to = op.JumpUnless to

module _ (code : Code) where
  mutual
    -- From the first place up to the second stands code that puts the value of the expression on the stack.
    pub data ExprAt : ℕ → RExpr → ℕ → Type 0 where
      constant : {at : ℕ} {v : Value} → Has code at (op.Push v) → ExprAt at (ex.Const v) (at + 1)
      processes : {at : ℕ} {v : Value} {ps : List ℕ} → Has code at (op.Push v) → val_of v ≡ val.Set (set_image val_cmp val.Proc ps) → ExprAt at (ex.Procs ps) (at + 1)
      itself : {at : ℕ} → Has code at op.Me → ExprAt at ex.Me (at + 1)
      slot : {at s : ℕ} → Has code at (op.Slot s) → ExprAt at (ex.Slot s) (at + 1)
      clock : {at : ℕ} → Has code at op.Clock → ExprAt at ex.Clock (at + 1)
      question : {at n : ℕ} → Has code at (op.Ask n) → ExprAt at (ex.Ask n) (at + 1)
      range : {at to end : ℕ} {a b : RExpr} → ExprAt at a to → ExprAt to b end → Has code end op.Range → ExprAt at (ex.Range a b) (end + 1)
      tuple : {at end : ℕ} {es : List RExpr} → ExprsAt at es end → Has code end (op.Pack (length es)) → ExprAt at (ex.Tuple es) (end + 1)
      set : {at end : ℕ} {es : List RExpr} → ExprsAt at es end → Has code end (op.Collect (length es)) → ExprAt at (ex.SetOf es) (end + 1)
      disjunction : {at end : ℕ} {es : List RExpr} → TestsAt true (end + 2) at es end → Has code end (op.Push (kept.Bool false)) → Has code (end + 1) (op.Jump (end + 3)) → Has code (end + 2) (op.Push (kept.Bool true)) → ExprAt at (ex.Or es) (end + 3)
      conjunction : {at end : ℕ} {es : List RExpr} → TestsAt false (end + 2) at es end → Has code end (op.Push (kept.Bool true)) → Has code (end + 1) (op.Jump (end + 3)) → Has code (end + 2) (op.Push (kept.Bool false)) → ExprAt at (ex.And es) (end + 3)
      negation : {at end : ℕ} {e : RExpr} → ExprAt at e end → Has code end op.Not → ExprAt at (ex.Not e) (end + 1)
      comparison : {at to end : ℕ} {o : CmpOp} {a b : RExpr} → ExprAt at a to → ExprAt to b end → Has code end (op.Cmp o) → ExprAt at (ex.Cmp o a b) (end + 1)
      membership : {at to end : ℕ} {a b : RExpr} → ExprAt at a to → ExprAt to b end → Has code end op.Member → ExprAt at (ex.Member a b) (end + 1)
      chain : {at to end : ℕ} {a : RExpr} {parts : List ChainPart} → ExprAt at a to → PartsAt to parts end → ExprAt at (ex.Chain a parts) end

    -- the values of expressions, in order
    pub data ExprsAt : ℕ → List RExpr → ℕ → Type 0 where
      none : {at : ℕ} → ExprsAt at [] at
      one : {at to end : ℕ} {e : RExpr} {es : List RExpr} → ExprAt at e to → ExprsAt to es end → ExprsAt at (e ∷ es) end

    -- Each value is tested: where it is the given one, which decides, the code goes on at the given place.
    pub data TestsAt : Bool → ℕ → ℕ → List RExpr → ℕ → Type 0 where
      passed : {decides : Bool} {decided at : ℕ} → TestsAt decides decided at [] at
      test : {decides : Bool} {decided at to end : ℕ} {e : RExpr} {es : List RExpr} → ExprAt at e to → Has code to (jump_at decides decided) → TestsAt decides decided (to + 1) es end → TestsAt decides decided at (e ∷ es) end

    -- the further parts of a chain, upon the value so far
    pub data PartsAt : ℕ → List ChainPart → ℕ → Type 0 where
      last : {at : ℕ} → PartsAt at [] at
      part : {at to end : ℕ} {c : ChainPart} {cs : List ChainPart} → ExprAt at (out-ChainPart c).operand to → Has code to (op.Arith (out-ChainPart c).op) → PartsAt (to + 1) cs end → PartsAt at (c ∷ cs) end

  -- The top values go into the slots, the top one into the last slot.
  pub data StoresAt : ℕ → List ℕ → ℕ → Type 0 where
    stored : {at : ℕ} → StoresAt at [] at
    store : {at end s : ℕ} {ss : List ℕ} → StoresAt at ss end → Has code end (op.SetSlot s) → StoresAt at (s ∷ ss) (end + 1)

  -- The least row of a `some` is bound, if there is one to bind.
  pub data FoundAt : ℕ → Option ℕ → List ℕ → ℕ → Type 0 where
    unbound : {at : ℕ} {slots : List ℕ} → FoundAt at None slots at
    bound : {at n : ℕ} {slots : List ℕ} → Has code at (op.Found n slots) → FoundAt at (Some n) slots (at + 1)

  module _ (class : Class) where
    mutual
      -- the code of statements, one after the other
      pub data BlockAt : ℕ → List Item → ℕ → Type 0 where
        empty : {at : ℕ} → BlockAt at [] at
        item : {at to end : ℕ} {i : Item} {is : List Item} → ItemAt at i to → BlockAt to is end → BlockAt at (i ∷ is) end

      -- The code of a statement begins with its turn. Of a label or an `await` it is a yield point, after which the
      -- statement goes on: after the label, or with the blocks of the `await`. Its number is that of the statement in the class.
      pub data ItemAt : ℕ → Item → ℕ → Type 0 where
        works : {at end : ℕ} {i : Item} → Has code at (op.Turn (line_of i)) → WorkAt at (line_of i) (kind_of i) end → ItemAt at i end
        label : {at k l : ℕ} {i : Item} → kind_of i ≡ kind.Label l → Has code at (op.Yield k) → slice_get code.yields k ≡ Some (record { label = true; entries = (at + 1) ∷ [] }) → IsNumbered class k (AtLabel l) → ItemAt at i (at + 1)
        await : {at end k : ℕ} {i : Item} {alts : List Alt} {timeout : Option (List Item)} {l : Option ℕ} {entries : List ℕ} → kind_of i ≡ kind.Await alts timeout l → Has code at (op.Yield k) → slice_get code.yields k ≡ Some (record { label = false; entries = entries }) → IsNumbered class k (AtAwait (ways_of alts) (is_some timeout) l) → BlocksAt end (at + 1) (blocks_in (kind.Await alts timeout l)) entries → ItemAt at i end

      -- the code after the turn at this place, of a statement of a kind on a line
      pub data WorkAt : ℕ → ℕ → ItemKind-F ItemKind Alt Item RBranch → ℕ → Type 0 where
        assign : {at line end s : ℕ} {e : RExpr} → ExprAt (at + 1) e end → Has code end (op.SetSlot s) → WorkAt at line (kind.Assign s e) (end + 1)
        add : {at line end s : ℕ} {e : RExpr} → ExprAt (at + 1) e end → Has code end (op.Add s) → WorkAt at line (kind.Add s e) (end + 1)
        del : {at line end s : ℕ} {e : RExpr} → ExprAt (at + 1) e end → Has code end (op.Del s) → WorkAt at line (kind.Del s e) (end + 1)
        send : {at line to end : ℕ} {m e : RExpr} → ExprAt (at + 1) m to → ExprAt to e end → Has code end op.Send → WorkAt at line (kind.Send m e) (end + 1)
        output : {at line end : ℕ} {e : RExpr} → ExprAt (at + 1) e end → Has code end op.Output → WorkAt at line (kind.Output e) (end + 1)
        choice : {at line end : ℕ} {branches : List RBranch} {other : List Item} → BranchesAt end (at + 1) branches other → WorkAt at line (kind.If branches other) end
        while : {at line to end : ℕ} {e : RExpr} {body : List Item} → ExprAt (at + 1) e to → Has code to (op.JumpUnless (end + 1)) → BlockAt (to + 1) body end → Has code end (op.Jump at) → WorkAt at line (kind.While e body) (end + 1)
        for : {at line to end s : ℕ} {e : RExpr} {body : List Item} → ExprAt (at + 1) e to → Has code to op.Take → LoopAt (to + 1) s body line end → WorkAt at line (kind.For s e body) end
        call : {at line end : ℕ} {args : List BindArg} {body : List Item} → EnterAt (at + 1) (map value_of_arg args) (map slot_of_arg args) body end → WorkAt at line (kind.Call args body) end
        pass : {at line : ℕ} → WorkAt at line kind.Pass (at + 1)

      -- the branches of an `if` in order and then its last block, each of which goes on at the given place
      pub data BranchesAt : ℕ → ℕ → List RBranch → List Item → Type 0 where
        otherwise : {exit at : ℕ} {other : List Item} → BlockAt at other exit → BranchesAt exit at [] other
        branch : {exit at test to end : ℕ} {b : RBranch} {bs : List RBranch} {other : List Item} → ExprAt at (out-RBranch b).cond test → Has code test (op.JumpUnless (end + 1)) → FoundAt (test + 1) (out-RBranch b).found (out-RBranch b).binds to → BlockAt to (out-RBranch b).body end → Has code end (op.Jump exit) → BranchesAt exit (end + 1) bs other → BranchesAt exit at (b ∷ bs) other

      -- blocks with their entries, each of which goes on at the given place; no code runs into them
      pub data BlocksAt : ℕ → ℕ → List (List Item) → List ℕ → Type 0 where
        done : {exit : ℕ} → BlocksAt exit exit [] []
        block : {exit at end : ℕ} {body : List Item} {bodies : List (List Item)} {entries : List ℕ} → BlockAt at body end → Has code end (op.Jump exit) → BlocksAt exit (end + 1) bodies entries → BlocksAt exit at (body ∷ bodies) (at ∷ entries)

      -- the code of the rest of a loop, which a turn begins too
      pub data LoopAt : ℕ → ℕ → List Item → ℕ → ℕ → Type 0 where
        loop : {at end s line : ℕ} {body : List Item} → Has code at (op.Turn line) → Has code (at + 1) (op.Next s (end + 1)) → BlockAt (at + 2) body end → Has code end (op.Jump at) → LoopAt at s body line (end + 1)

      -- parameters get the values of all arguments, and then comes the body
      pub data EnterAt : ℕ → List RExpr → List ℕ → List Item → ℕ → Type 0 where
        enter : {at to into end : ℕ} {args : List RExpr} {params : List ℕ} {body : List Item} → ExprsAt at args to → StoresAt to params into → BlockAt into body end → EnterAt at args params body end

    -- The code at the place, with these rests of loops, the innermost last, stands for what is to do.
    pub data CodeFor : ℕ → List (List Val) → List Task → Type 0 where
      ends : {at : ℕ} → Has code at op.End → CodeFor at [] []
      jumps : {at to : ℕ} {loops : List (List Val)} {todo : List Task} → Has code at (op.Jump to) → CodeFor to loops todo → CodeFor at loops todo
      does : {at to : ℕ} {loops : List (List Val)} {i : Item} {todo : List Task} → ItemAt at i to → CodeFor to loops todo → CodeFor at loops (Do i ∷ todo)
      loops : {at to s line : ℕ} {outer : List (List Val)} {left : List Val} {body : List Item} {todo : List Task} → LoopAt at s body line to → CodeFor to outer todo → CodeFor at (outer ++ left ∷ []) (Loop s left body line ∷ todo)
      prepares : {at to : ℕ} {loops : List (List Val)} {call : SetupCall} {todo : List Task} → Has code at (op.Turn call.line) → EnterAt (at + 1) call.args class.params class.setup to → CodeFor to loops todo → CodeFor at loops (Prepare call ∷ todo)

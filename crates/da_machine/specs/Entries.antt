-- The entries of code: where a yield point goes on.
use Rattle.std.specs.Prelude.{◌≡◌, ℕ, true, false, List, [], ◌∷◌, length, Option, Some, is_some, slice_get}
use Rattle.da_values.specs.declared.val.Val.{Val}
use Rattle.da_lang.specs.declared.program.Alt.{Alt}
use Rattle.da_lang.specs.declared.program.Class.{Class}
use Rattle.da_lang.specs.declared.program.Item.{Item}
use Rattle.da_lang.specs.declared.program.ItemKind.TheOpen as kind
use Rattle.da_lang.specs.Shaped.{blocks_in}
use Rattle.da_lang.specs.Turns.{do_all, kind_of}
use Rattle.da_lang.specs.World.{Task, Do}
use Rattle.da_machine.specs.declared.code.Code.{Code}
use Rattle.da_machine.specs.CodeFor.{CodeFor}
use Rattle.da_machine.specs.Points.{AtLabel, AtAwait, ways_of, IsNumbered}

-- there is an entry for each of these blocks, in their order, and the code there stands for the block and for what is left
pub record EntersEach (code : Code) (class : Class) (loops : List (List Val)) (todo : List Task) (bodies : List (List Item)) (entries : List ℕ) : Type 0 where
  pub one_each : length entries ≡ length bodies
  pub stands : (n : ℕ) (body : List Item) → slice_get bodies n ≡ Some body → (entry : ℕ) × (slice_get entries n ≡ Some entry) × CodeFor code class entry loops (do_all body todo)

-- The yield point of this number stands before what is to do, and has this number in the class. After a label the code
-- stands at its entry for what is left. At an `await` it has an entry for the block of each alternative, and the last one is
-- that of the block for the time that runs out, where there is such a block.
pub data IsPoint (code : Code) (class : Class) (k : ℕ) (loops : List (List Val)) : List Task → Type 0 where
  at_label : (i : Item) (todo : List Task) (label entry : ℕ) → kind_of i ≡ kind.Label label → slice_get code.yields k ≡ Some (record { label = true; entries = entry ∷ [] }) → IsNumbered class k (AtLabel label)
      → CodeFor code class entry loops todo → IsPoint code class k loops (Do i ∷ todo)
  at_await : (i : Item) (todo : List Task) (alts : List Alt) (timeout : Option (List Item)) (label : Option ℕ) (entries : List ℕ) → kind_of i ≡ kind.Await alts timeout label
      → slice_get code.yields k ≡ Some (record { label = false; entries = entries }) → IsNumbered class k (AtAwait (ways_of alts) (is_some timeout) label)
      → EntersEach code class loops todo (blocks_in (kind.Await alts timeout label)) entries → IsPoint code class k loops (Do i ∷ todo)

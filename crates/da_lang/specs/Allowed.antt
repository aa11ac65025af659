-- Which steps a process of the program may take.
use Rattle.std.specs.Prelude.{◌≡◌, ℕ, true, false, List, [], ◌∷◌, Option, Some}
use Rattle.std.specs.List.{list_any}
use Rattle.da_values.specs.declared.val.Val.{Val}
use Rattle.da_lang.specs.declared.program.Alt.{Alt}
use Rattle.da_lang.specs.declared.program.Class.{Class}
use Rattle.da_lang.specs.declared.program.Item.{Item}
use Rattle.da_lang.specs.declared.program.ItemKind.TheOpen.{Await, Label}
use Rattle.da_lang.specs.declared.program.ItemKind.TheViews.{out-Alt}
use Rattle.da_lang.specs.Labels.{takes}
use Rattle.da_lang.specs.Queries.{holds}
use Rattle.da_lang.specs.Steps.{Step, Go, Take, TimeOut, Deliver}
use Rattle.da_lang.specs.Turns.{kind_of}
use Rattle.da_lang.specs.World.{Task, Do, World, at_number, New, Waiting}

-- a new process may begin, and one that waits at a label may go on; one that waits at an `await` may take an
-- alternative that is there and whose condition holds, and the time may run out where none holds and there is a block for
-- that; a message may arrive at a process that waits and takes it
pub data IsAllowed (class : Class) (w : World) : Step → Type 0 where
  begins : w.phase ≡ New → IsAllowed class w Go
  at_label : (i : Item) (rest : List Task) (l : ℕ) → w.phase ≡ Waiting → w.todo ≡ Do i ∷ rest → kind_of i ≡ Label l → IsAllowed class w Go
  at_await : (i : Item) (rest : List Task) (alts : List Alt) (timeout : Option (List Item)) (label : Option ℕ) (alt : Alt) (k : ℕ)
      → w.phase ≡ Waiting → w.todo ≡ Do i ∷ rest → kind_of i ≡ Await alts timeout label → at_number alts k ≡ Some alt
      → holds w.data' (out-Alt alt).cond [] ≡ true → IsAllowed class w (Take k)
  times_out : (i : Item) (rest : List Task) (alts : List Alt) (body : List Item) (label : Option ℕ)
      → w.phase ≡ Waiting → w.todo ≡ Do i ∷ rest → kind_of i ≡ Await alts (Some body) label
      → list_any (λ alt. holds w.data' (out-Alt alt).cond []) alts ≡ false → IsAllowed class w TimeOut
  arrives : (m : Val) (p time : ℕ) → w.phase ≡ Waiting → takes class w m p ≡ true → IsAllowed class w (Deliver m p time)

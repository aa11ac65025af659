-- A turn, a run and a step of an accepted program lead from shaped worlds to shaped ones, and what they send may be sent.
use Rattle.std.specs.Prelude.{◌≡◌, ℕ, ◌^◌, ◌<◌, ◌≤◌, ◌⊎◌, true, false, List, [], ◌∷◌, Some}
use Rattle.std.specs.List.{All}
use Rattle.da_values.specs.declared.val.Val.{Val}
use Rattle.da_values.specs.Nesting.{nesting}
use Rattle.da_values.specs.Proper.{IsValue}
use Rattle.da_values.specs.Sets.{Has}
use Rattle.da_values.specs.Value.{val_of}
use Rattle.da_lang.specs.declared.event.Action.{Action}
use Rattle.da_lang.specs.declared.event.Action.TheVariants as act
use Rattle.da_lang.specs.declared.program.Class.{Class}
use Rattle.da_lang.specs.declared.program.Handler.{Handler}
use Rattle.da_lang.specs.declared.program.Item.{Item}
use Rattle.da_lang.specs.declared.program.Program.{Program}
use Rattle.da_lang.specs.declared.ty.Ty.{Ty}
use Rattle.da_lang.specs.declared.ty.Ty.TheVariants as t
use Rattle.da_lang.specs.ExprTypes.{ExprType}
use Rattle.da_lang.specs.Runs.{AtYield, kind_yields, run_to_yield}
use Rattle.da_lang.specs.Shaped.{HasType, IsEntry, IsOf, IsProcess, IsTask, Shaped, ShapedData, ShapedTasks, Within, well_typed}
use Rattle.da_lang.specs.Steps.{Step, Go, Take, TimeOut, Deliver, Stepped, proc_step}
use Rattle.da_lang.specs.Turns.{do_all, kind_of, max_packet, packet_len, turn}
use Rattle.da_lang.specs.World.{Data, Task, World, class_of, opening}

-- a value of the type that a slot of the class has
pub record FitsSlot (p : Program) (c : Class) (slot : ℕ) (v : Val) : Type 0 where
  pub type' : Ty
  pub has : HasType c slot type'
  pub is : IsOf p type' v

-- a value of the type of the elements of a slot of a set type
pub record FitsElement (p : Program) (c : Class) (slot : ℕ) (v : Val) : Type 0 where
  pub element : Ty
  pub has : HasType c slot (t.Set element)
  pub is : IsOf p element v

-- values for slots, one by one, as many as there are of both
abbrev pub FitSlots : Program → Class → List ℕ → List Val → Type 0
FitSlots p c [] vs = Unit {0}
FitSlots p c (s ∷ ss) [] = Unit {0}
FitSlots p c (s ∷ ss) (v ∷ vs) = FitsSlot p c s v × FitSlots p c ss vs

-- an expression has a type by itself, or fits one
abbrev pub IsTypable : ExprType → Type 0
IsTypable x = (ty : Ty) × ((x.type_ ≡ Some ty) ⊎ (x.fits ty ≡ true))

-- a declared message of the declared types, in which at most 32 tuples and sets stand in one another, and processes that are
-- there
pub record MaySend (p : Program) (m : Val) (to : List ℕ) : Type 0 where
  pub proper : IsValue m
  pub typed : well_typed p m ≡ true
  pub nested : nesting m ≤ 32
  pub receivers : (q : ℕ) → Has to q → IsProcess p q

-- Process `me` sends this, and its packet is small enough.
pub record IsSending (p : Program) (me sender receiver time : ℕ) (m : Val) : Type 0 where
  pub from_me : sender ≡ me
  pub there : IsProcess p receiver
  pub proper : IsValue m
  pub typed : well_typed p m ≡ true
  pub nested : nesting m ≤ 32
  pub in_time : time < 2 ^ 63
  pub small : packet_len m ≤ max_packet

-- what process `me` does may be told: of what it sends, the message and the receiver are as they have to be
abbrev pub MayTell : Program → ℕ → Action → Type 0
MayTell p me (act.Sent sender receiver time m) = IsSending p me sender receiver time (val_of m)
MayTell p me _ = Unit {0}

-- what is left of a process and what it did, where it was shaped before
pub record LeavesShaped (p : Program) (c : Class) (me : ℕ) (d : Data) (todo : List Task) (actions : List Action) : Type 0 where
  pub same : d.me ≡ me
  pub knows : ShapedData p c d
  pub tasks : ShapedTasks p c me todo
  pub tells : All (MayTell p me) actions

-- the world after a step
pub record StepsShaped (p : Program) (me : ℕ) (s : Stepped) : Type 0 where
  pub same : s.world.data'.me ≡ me
  pub shaped : Shaped p s.world
  pub tells : All (MayTell p me) s.actions

-- a message that is delivered is one that may be
abbrev pub MayStep : Program → Step → Type 0
MayStep p Go = Unit {0}
MayStep p (Take k) = Unit {0}
MayStep p TimeOut = Unit {0}
MayStep p (Deliver m sender time) = IsEntry p (record { message = m; peer = sender; time = time })

-- What is shown of each accepted program.
pub record KeepsShaped (p : Program) : Type 0 where
  pub opens : (me : ℕ) (c : Class) → IsProcess p me → class_of p me ≡ Some c → Shaped p (opening p me)
  pub turns : (c : Class) (t : Task) (d : Data) (todo : List Task) → ShapedData p c d → IsTask p c d.me t → ShapedTasks p c d.me todo → LeavesShaped p c d.me (turn c t d todo).data' (turn c t d todo).todo (turn c t d todo).actions
  pub runs : (c : Class) (n : ℕ) (d : Data) (todo : List Task) → ShapedData p c d → ShapedTasks p c d.me todo → LeavesShaped p c d.me (run_to_yield c n d todo).data' (run_to_yield c n d todo).todo (run_to_yield c n d todo).actions
  pub steps : (w : World) (s : Step) (r : Stepped) → Shaped p w → MayStep p s → proc_step p w s ≡ Some r → StepsShaped p w.data'.me r

-- no statement in these is a label or an `await`
abbrev pub HasNoYield : List Item → Type 0
HasNoYield items = (i : Item) → Within i items → kind_yields (kind_of i) ≡ false

-- What is shown of each accepted program besides: `setup` and handlers end where they began, at no yield point.
pub record EndsWithoutYield (p : Program) : Type 0 where
  pub setup : (c : Class) → Has p.classes c → HasNoYield c.setup
  pub handlers : (c : Class) (h : Handler) → Has p.classes c → Has c.handlers h → HasNoYield h.body
  pub handled : (c : Class) (h : Handler) (n : ℕ) (d : Data) → Has p.classes c → Has c.handlers h → (run_to_yield c n d (do_all h.body [])).halt ≡ AtYield → ⊥

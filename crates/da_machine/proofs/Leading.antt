-- What leads from one state of a run to a later one.
use Rattle.std.proofs.Common.{◌≡◌, ℕ, ◌+◌, List, [], ◌∷◌, ◌++◌, Option, Some, Ok, Err, refl, sym, ap, ◌∙◌, subst, append_assoc}
use Rattle.std.specs.Prelude.{slice_get}
use Rattle.da_values.specs.declared.val.Val.{Val}
use Rattle.da_lang.specs.declared.code.Instr.{Instr}
use Rattle.da_lang.specs.declared.event.Action.{Action}
use Rattle.da_lang.specs.declared.event.FaultKind.{FaultKind}
use Rattle.da_lang.specs.declared.program.Class.{Class}
use Rattle.da_lang.specs.declared.program.Program.{Program}
use Rattle.da_lang.specs.Arithmetic.{Outcome}
use Rattle.da_lang.specs.Evaluation.{Outcomes, after, after_all, in_order, with_first}
use Rattle.da_lang.specs.World.{Data}
use Rattle.da_machine.specs.declared.code.Code.{Code}
use Rattle.da_machine.specs.declared.machine.Machine.{Machine}
use Rattle.da_machine.specs.declared.machine.Stop.{Stop}
use Rattle.da_machine.specs.declared.machine.Stop.TheVariants as stop
use Rattle.da_machine.specs.Acts.{Goes, Halts, act, moved, push_outcome}
use Rattle.da_machine.specs.Allowed.{Asks, IsAllowed}
use Rattle.da_machine.specs.CodeFor.{Has}
use Rattle.da_machine.specs.Conditions.{IsKnown}
use Rattle.da_machine.specs.RunsTo.{RunsTo, halts, goes}

module _ (p : Program) (class : Class) (code : Code) where
  -- what runs from the second state runs from the first, with these actions before
  pub record Leads (m : Machine) (d : Data) (m1 : Machine) (d1 : Data) (now : List Action) : Type 0 where
    pub by : (more : List Action) (s : Stop) (m2 : Machine) (d2 : Data) → RunsTo p class code m1 d1 more s m2 d2 → RunsTo p class code m d (now ++ more) s m2 d2

  -- a run to a fault on the line of the turn
  pub record Fails (m0 : Machine) (d : Data) (m : Machine) (kind : FaultKind) : Type 0 where
    pub last : Machine
    pub runs : RunsTo p class code m0 d [] (stop.Fault kind m.line) last d
    pub turns : last.turns ≡ m.turns

  -- a value comes upon the stack at the place, or there is a fault
  abbrev pub Gives : Machine → Machine → Data → ℕ → List Val → Outcome → Type 0
  Gives m0 m d end st (Ok v) = Leads m0 d (moved m end (st ++ v ∷ [])) d []
  Gives m0 m d end st (Err kind) = Fails m0 d m kind

  -- the values of several expressions do
  abbrev pub GivesAll : Machine → Machine → Data → ℕ → List Val → Outcomes → Type 0
  GivesAll m0 m d end st (Ok vs) = Leads m0 d (moved m end (st ++ vs)) d []
  GivesAll m0 m d end st (Err kind) = Fails m0 d m kind

  pub rests : (m : Machine) (d : Data) → Leads m d m d []
  rests m d = record { by = λ more s m2 d2 run. run }

  pub joined : (m m1 m2 : Machine) (d d1 d2 : Data) (now : List Action) → Leads m d m1 d1 [] → Leads m1 d1 m2 d2 now → Leads m d m2 d2 now
  joined m m1 m2 d d1 d2 now one two = record { by = λ more s m3 d3 run. one.by (now ++ more) s m3 d3 (two.by more s m3 d3 run) }

  pub fails_later : (m0 m1 : Machine) (d : Data) (m : Machine) (kind : FaultKind) → Leads m0 d m1 d [] → Fails m1 d m kind → Fails m0 d m kind
  fails_later m0 m1 d m kind one fails = record { last = fails.last; runs = one.by [] _ _ _ fails.runs; turns = fails.turns }

  pub gives_later : (m0 m1 : Machine) (d : Data) (m : Machine) (end : ℕ) (st : List Val) (o : Outcome) → Leads m0 d m1 d [] → Gives m1 m d end st o → Gives m0 m d end st o
  gives_later m0 m1 d m end st (Ok v) one gives = joined m0 m1 (moved m end (st ++ v ∷ [])) d d d [] one gives
  gives_later m0 m1 d m end st (Err kind) one gives = fails_later m0 m1 d m kind one gives

  pub all_later : (m0 m1 : Machine) (d : Data) (m : Machine) (end : ℕ) (st : List Val) (os : Outcomes) → Leads m0 d m1 d [] → GivesAll m1 m d end st os → GivesAll m0 m d end st os
  all_later m0 m1 d m end st (Ok vs) one gives = joined m0 m1 (moved m end (st ++ vs)) d d d [] one gives
  all_later m0 m1 d m end st (Err kind) one gives = fails_later m0 m1 d m kind one gives

  -- after the value of an expression
  pub gives_after : (m0 m : Machine) (d : Data) (mid end : ℕ) (st st2 : List Val) (o : Outcome) (go : Val → Outcome) → Gives m0 m d mid st o
      → ((v : Val) → o ≡ Ok v → Gives (moved m mid (st ++ v ∷ [])) m d end st2 (go v)) → Gives m0 m d end st2 (after o go)
  gives_after m0 m d mid end st st2 (Err kind) go gives more = gives
  gives_after m0 m d mid end st st2 (Ok v) go gives more = gives_later m0 (moved m mid (st ++ v ∷ [])) d m end st2 (go v) gives (more v refl)

  pub gives_after_all : (m0 m : Machine) (d : Data) (mid end : ℕ) (st : List Val) (os : Outcomes) (go : List Val → Outcome) → GivesAll m0 m d mid st os
      → ((vs : List Val) → os ≡ Ok vs → Gives (moved m mid (st ++ vs)) m d end st (go vs)) → Gives m0 m d end st (after_all os go)
  gives_after_all m0 m d mid end st (Err kind) go gives more = gives
  gives_after_all m0 m d mid end st (Ok vs) go gives more = gives_later m0 (moved m mid (st ++ vs)) d m end st (go vs) gives (more vs refl)

  -- a first value, and the others upon it
  first_given : (m0 m : Machine) (d : Data) (end : ℕ) (st : List Val) (v : Val) (os : Outcomes) → GivesAll m0 m d end (st ++ v ∷ []) os → GivesAll m0 m d end st (with_first v os)
  first_given m0 m d end st v (Err kind) gives = gives
  first_given m0 m d end st v (Ok vs) gives = subst (λ all. Leads m0 d (moved m end all) d []) (append_assoc st (v ∷ []) vs) gives

  pub all_after : (m0 m : Machine) (d : Data) (mid end : ℕ) (st : List Val) (o : Outcome) (os : List Outcome) → Gives m0 m d mid st o
      → ((v : Val) → GivesAll (moved m mid (st ++ v ∷ [])) m d end (st ++ v ∷ []) (in_order os)) → GivesAll m0 m d end st (in_order (o ∷ os))
  all_after m0 m d mid end st (Err kind) os gives more = gives
  all_after m0 m d mid end st (Ok v) os gives more =
      first_given m0 m d end st v (in_order os) (all_later m0 (moved m mid (st ++ v ∷ [])) d m end (st ++ v ∷ []) (in_order os) gives (more v))

  module _ (d : Data) (known : IsKnown p class d) where
    allowed : (m : Machine) (i : Instr) → Has code m.place i → Asks p class (Some i) m d → IsAllowed p class (slice_get code.instrs m.place) m d
    allowed m i has asks = subst (λ (o : Option Instr). IsAllowed p class o m d) (sym has) (record { known = known; asks = asks })

    -- one instruction leads on, or halts
    pub one : (m m1 : Machine) (d1 : Data) (now : List Action) (i : Instr) → Has code m.place i → Asks p class (Some i) m d → act class.queries (Some i) m d ≡ Goes m1 d1 now → Leads m d m1 d1 now
    one m m1 d1 now i has asks is =
        record { by = λ more s m2 d2 run. goes (allowed m i has asks) (ap (λ (o : Option Instr). act class.queries o m d) has ∙ is) run }

    pub stops : (m m1 : Machine) (s : Stop) (i : Instr) → Has code m.place i → Asks p class (Some i) m d → act class.queries (Some i) m d ≡ Halts s m1 → RunsTo p class code m d [] s m1 d
    stops m m1 s i has asks is = halts (allowed m i has asks) (ap (λ (o : Option Instr). act class.queries o m d) has ∙ is)

    -- an instruction that pushes an outcome
    pub pushes : (m : Machine) (at : ℕ) (st0 st : List Val) (o : Outcome) (i : Instr) → Has code at i → Asks p class (Some i) (moved m at st0) d
        → act class.queries (Some i) (moved m at st0) d ≡ push_outcome (moved m at st0) d st o → Gives (moved m at st0) m d (at + 1) st o
    pushes m at st0 st (Ok v) i has asks is = one (moved m at st0) (moved m (at + 1) (st ++ v ∷ [])) d [] i has asks is
    pushes m at st0 st (Err kind) i has asks is = record { last = moved m at st; runs = stops (moved m at st0) (moved m at st) (stop.Fault kind m.line) i has asks is; turns = refl }

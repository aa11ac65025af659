-- What a network answers to an event, where its messages were posted last.
use Rattle.std.proofs.Common.{◌≡◌, sym, ◌∙◌, ap, subst, Bool, true, List, length}
use Rattle.std.specs.Prelude.{◌↔◌, Option, Result, Ok, Err, IfErr, IsSome, IsTrue, OnOk}
use Rattle.da_lang.specs.declared.event.Action.{Action}
use Rattle.da_lang.specs.declared.event.Event.{Event}
use Rattle.da_lang.specs.declared.program.Program.{Program}
use Rattle.da_core.specs.declared.place.StepFault.{StepFault}
use Rattle.da_core.specs.declared.place.StepFault.TheVariants.{Forbidden, Memory, Spent}
use Rattle.da_system.specs.declared.network.Network.{Network}
use Rattle.da_system.specs.Queues as queues
use Rattle.da_system.specs.Network.{Answers, HasBegun, HasPosted, HasStepped, StandAlike, StandFrom, Stands, Whichever, is_spent, program_of}
use Rattle.da_system.specs.SystemStep.{AfterEvent, SystemState, sys_step}
use Rattle.da_system.proofs.StandLemmas.{stands_on}

abbrev Answer : Type 0
Answer = Result (Unit {0}) StepFault

-- an event that is seen to be this one is enabled as that is
module _ (program : Program) (network : Network) (e seen : Event) (is : e ≡ seen) where
  pub enabled_by : (b : Bool) → Whichever network (λ s. IsTrue b ↔ IsSome (sys_step program s seen)) → Whichever network (λ s. IsTrue b ↔ IsSome (sys_step program s e))
  enabled_by b here = λ s stands. subst (λ (x : Event). IsTrue b ↔ IsSome (sys_step program s x)) (sym is) (here s stands)

-- what stands beside the flag and the cores is the same
stands_as : (network left : Network) (s : SystemState) → left.spent ≡ network.spent → left.compiled.now ≡ network.compiled.now → left.cores.items ≡ network.cores.items → left.channels ≡ network.channels → Stands network s → Stands left s
stands_as network left s spent same cores channels stands =
    stands_on network left s s stands (spent ∙ stands.unspent) same stands.sound (ap length cores) (subst (λ xs. StandFrom (program_of network) 1 xs s.worlds) (sym cores) stands.cores)
    (ap queues.count_of channels) (subst (λ c. queues.StandsFor c s.channels) (sym channels) stands.channels)

pub alike : (network left : Network) → left.spent ≡ network.spent → left.compiled.now ≡ network.compiled.now → left.cores.items ≡ network.cores.items → left.channels ≡ network.channels → StandAlike network left
alike network left spent same cores channels = λ s. (stands_as network left s spent same cores channels, stands_as left network s (sym spent) (sym same) (sym cores) (sym channels))

-- WHERE MESSAGES WERE POSTED LAST

-- the answer is that of posting: where there was memory, the event was done
pub posted_answers : (step : SystemState → Option AfterEvent) (network mid left : Network) (old new sent : List Action) (r : Answer)
    → OnOk r (HasPosted mid sent left) → IfErr r (λ fault. (fault ≡ Memory) × (is_spent left ≡ true))
    → Whichever network (λ s. HasBegun (step s) old new) → (HasPosted mid sent left → Whichever network (λ s. HasStepped (step s) left old new)) → Answers step network r left old new
posted_answers step network mid left old new sent (Ok done) posted failed begun stepped = stepped posted
posted_answers step network mid left old new sent (Err Memory) posted failed begun stepped = (failed.1, begun)
posted_answers step network mid left old new sent (Err Forbidden) posted failed begun stepped = absurd (let clash : ◌≡◌ {A = StepFault} Forbidden Memory = failed.0 in cc)
posted_answers step network mid left old new sent (Err Spent) posted failed begun stepped = absurd (let clash : ◌≡◌ {A = StepFault} Spent Memory = failed.0 in cc)

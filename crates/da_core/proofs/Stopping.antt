-- How a process stands where its code stopped.
use Rattle.std.proofs.Common.{◌≡◌, ℕ, ◌<◌, List, [], ◌∷◌, ◌++◌, length, Option, Some, refl, sym, ap, ◌∙◌, subst, append_assoc, append-nil}
use Rattle.std.specs.Prelude.{true, false, is_some, slice_get}
use Rattle.std.proofs.lemmas.Slice.Zip.{AllZip-long}
use Rattle.da_values.specs.declared.val.Val.{Val}
use Rattle.da_lang.specs.declared.event.Action.{Action}
use Rattle.da_lang.specs.declared.event.Action.TheVariants as action
use Rattle.da_lang.specs.declared.program.Class.{Class}
use Rattle.da_lang.specs.declared.program.Program.{Program}
use Rattle.da_lang.specs.Runs.{Halt, AtYield, UsedUp, Faults, Ran}
use Rattle.da_lang.specs.Steps.{closing, phase_after}
use Rattle.da_lang.specs.World.{Data, Task, Do, Waiting}
use Rattle.da_machine.specs.declared.code.YieldPoint.{YieldPoint}
use Rattle.da_machine.specs.declared.machine.Machine.{Machine}
use Rattle.da_machine.specs.declared.machine.Stop.{Stop}
use Rattle.da_machine.specs.Entries.{IsPoint}
use Rattle.da_machine.specs.RunsTo.{AddsPrefix}
use Rattle.da_machine.proofs.Prefixes.{prefix_before, part_prefix, part_prefix_of}
use Rattle.da_machine.specs.Stops.{IsStop}
use Rattle.da_machine.proofs.EntryLaws.{at_point}
use Rattle.query_plan.specs.Questions.{norm_class}
use Rattle.da_core.specs.declared.compiled.ClassCode.{ClassCode}
use Rattle.da_core.specs.declared.known.Known.{Known}
use Rattle.da_core.specs.declared.place.Place.{Place}
use Rattle.da_core.specs.declared.place.Place.TheVariants as place
use Rattle.da_core.specs.declared.waits.Wait.{Wait}
use Rattle.da_core.specs.Begins.{AreFew, HasPoint, HasRun, HasStopped, MayStop, StandsAt, place_at}
use Rattle.da_core.specs.Known.{Knows}
use Rattle.da_core.specs.StandsFor.{IsPlace, last_number}
use Rattle.da_core.specs.Waits.{waits_of}
use Rattle.da_core.proofs.KnownLaws.{me_is, with_actions}
use Rattle.da_core.proofs.WaitLaws.{IsAlternative, await_waits, label_waits}

-- AT A YIELD POINT

-- where the point and what is waited for were found in their lists
pub stands_there : (code : ClassCode) (number : ℕ) (point : YieldPoint) (wait : Wait) → Some point ≡ slice_get code.code.yields number → Some wait ≡ slice_get code.waits number
    → (spot : Place) → spot ≡ place_at point.label (length wait.alternatives) → AreFew point.label (length wait.alternatives) → StandsAt code number spot
stands_there code number point wait yields waits spot is few = record {
  has = record { point = point; wait = wait; there = sym yields; waits = sym waits };
  is = is;
  few = few;
}

module _ (code : ClassCode) (class : Class) (number : ℕ) (loops : List (List Val)) (waits : code.waits ≡ waits_of class (norm_class class).flags) where
  wait_there : (own : Wait) → slice_get (waits_of class (norm_class class).flags) number ≡ Some own → slice_get code.waits number ≡ Some own
  wait_there own there = ap (λ ws. slice_get ws number) waits ∙ there

  -- a yield point stands in both lists
  pub has_point : (todo : List Task) → IsPoint code.code class number loops todo → HasPoint code number
  has_point _ (IsPoint.at_label i rest l entry is there numbered code_for) = record {
    point = record { label = true; entries = entry ∷ [] };
    wait = record { alternatives = []; has_timeout = false; label = Some l };
    there = there;
    waits = wait_there (record { alternatives = []; has_timeout = false; label = Some l }) (label_waits class number l numbered);
  }
  has_point _ (IsPoint.at_await i rest alts timeout label entries is there numbered each) =
      let (own, found, all) = await_waits class number alts (is_some timeout) label numbered in
      record {
        point = record { label = false; entries = entries };
        wait = own;
        there = there;
        waits = wait_there own found;
      }

  module _ (spot : Place) (stands : StandsAt code number spot) where
    one_point : (point : YieldPoint) → slice_get code.code.yields number ≡ Some point → stands.has.point ≡ point
    one_point point there = let both : ◌≡◌ {A = Option YieldPoint} (Some stands.has.point) (Some point) = sym stands.has.there ∙ there in cc

    one_wait : (own : Wait) → slice_get code.waits number ≡ Some own → stands.has.wait ≡ own
    one_wait own there = let both : ◌≡◌ {A = Option Wait} (Some stands.has.wait) (Some own) = sym stands.has.waits ∙ there in cc

    -- who stands there stands at the place of the world
    pub place_there : (todo : List Task) → IsPoint code.code class number loops todo → IsPlace todo spot Waiting
    place_there _ (IsPoint.at_label i rest l entry is there numbered code_for) =
        let label = one_point (record { label = true; entries = entry ∷ [] }) there in
        let place_is : spot ≡ place.Label = stands.is ∙ ap (λ (x : YieldPoint). place_at x.label (length stands.has.wait.alternatives)) label in
        subst (λ x. IsPlace (Do i ∷ rest) x Waiting) (sym place_is) (l, record { item = i; rest = rest; first = refl; is = is })
    place_there _ (IsPoint.at_await i rest alts timeout before entries is there numbered each) =
        let (own, found, all) = await_waits class number alts (is_some timeout) before numbered in
        let label = one_point (record { label = false; entries = entries }) there in
        let those = one_wait own (wait_there own found) in
        let count : length stands.has.wait.alternatives ≡ length alts =
        ap (λ (x : Wait). length x.alternatives) those ∙ sym (AllZip-long (IsAlternative class) own.alternatives alts all.alternatives) in
        let few : length stands.has.wait.alternatives < last_number = subst (λ (x : YieldPoint). AreFew x.label (length stands.has.wait.alternatives)) label stands.few in
        let place_is : spot ≡ place.Await (length alts) =
        stands.is ∙ ap (λ (x : YieldPoint). place_at x.label (length stands.has.wait.alternatives)) label
        ∙ ap place.Await count in
        subst (λ x. IsPlace (Do i ∷ rest) x Waiting) (sym place_is) (record {
          alts = alts;
          timeout = timeout;
          label = before;
          begins = record { item = i; rest = rest; first = refl; is = is };
          size = refl;
          few = subst (λ n. n < last_number) count few;
        })

-- WHERE THE CODE STOPPED

module _ (class : Class) (code : ClassCode) (waits : code.waits ≡ waits_of class (norm_class class).flags) where
  pub may_stop : (s : Stop) (m : Machine) (todo : List Task) (halt : Halt) → IsStop code.code class s m todo halt → MayStop code s
  may_stop s m todo AtYield (number, is, there, code_for) =
      subst (MayStop code) (sym is) (has_point code class number m.loops waits todo (at_point code.code class m.place m.loops todo code_for number there))
  may_stop s m todo UsedUp is = subst (MayStop code) (sym is) tt
  may_stop s m todo (Faults kind line) is = subst (MayStop code) (sym is) tt

  pub told : (old acts closing : List Action) (t : Action) → ((old ++ t ∷ []) ++ acts) ++ closing ≡ old ++ ((t ∷ acts) ++ closing)
  told old acts closing t = append_assoc (old ++ t ∷ []) acts closing ∙ append_assoc old (t ∷ []) (acts ++ closing)

  -- the process before the run, after the run of the code, and after the move; the machine and the stop of the run
  module _ (p : Program) (me k : ℕ) (d : Data) (todo : List Task) (acts : List Action) (old known new : Known) (m : Machine) (answer : Stop) (spot : Place)
      (knows : Knows known p class d) (mine : d.me ≡ me) (told_so_far : known.actions ≡ (old.actions ++ action.Took me k ∷ []) ++ acts) where
    known_me : known.answers.me ≡ me
    known_me = sym (me_is known p class d knows) ∙ mine

    told_of : (a : Action) → new ≡ record known { actions = known.actions ++ a ∷ [] } → Knows new p class d
    told_of a becomes = subst (λ x. Knows x p class d) (sym becomes) (with_actions known p class d knows (known.actions ++ a ∷ []))

    abbrev ran_as : ℕ → Halt → Ran
    ran_as turns halt = record { data' = d; todo = todo; actions = acts; turns = turns; halt = halt }

    closed : (halt : Halt) → new.actions ≡ known.actions ++ closing me halt → new.actions ≡ old.actions ++ ((action.Took me k ∷ acts) ++ closing me halt)
    closed halt is = is ∙ ap (λ xs. xs ++ closing me halt) told_so_far ∙ told old.actions acts (closing me halt) (action.Took me k)

    pub has_run : (turns : ℕ) (halt : Halt) → m.stack ≡ [] → IsStop code.code class answer m todo halt → HasStopped code known new answer spot → HasRun p class code me k (ran_as turns halt) old new m spot
    has_run turns AtYield bare (number, is, there, code_for) stopped =
        let (stays, stands) = subst (λ x. HasStopped code known new x spot) is stopped in
        record {
          known = subst (λ x. Knows x p class d) (sym stays) knows;
          actions = closed AtYield (ap (λ (x : Known). x.actions) stays ∙ sym (append-nil known.actions));
          stands = place_there code class number m.loops waits spot stands todo (at_point code.code class m.place m.loops todo code_for number there);
          behind = record { number = number; there = there; code_for = code_for };
          no_values = bare;
        }
    has_run turns UsedUp bare is stopped =
        let (becomes, place_is) = subst (λ x. HasStopped code known new x spot) is stopped in
        record {
          known = told_of (action.End known.answers.me) becomes;
          actions = closed UsedUp (ap (λ (x : Known). x.actions) becomes ∙ ap (λ x. known.actions ++ action.End x ∷ []) known_me);
          stands = subst (λ x. IsPlace todo x (phase_after UsedUp)) (sym place_is) tt;
          behind = tt;
          no_values = bare;
        }
    has_run turns (Faults kind line) bare is stopped =
        let (becomes, place_is) = subst (λ x. HasStopped code known new x spot) is stopped in
        record {
          known = told_of (action.Fault known.answers.me kind line) becomes;
          actions = closed (Faults kind line) (ap (λ (x : Known). x.actions) becomes ∙ ap (λ x. known.actions ++ action.Fault x kind line ∷ []) known_me);
          stands = subst (λ x. IsPlace todo x (phase_after (Faults kind line))) (sym place_is) tt;
          behind = tt;
          no_values = bare;
        }

-- WHERE MEMORY WAS REFUSED

-- in the midst of the run
pub run_prefix : (old new acts closing : List Action) (t : Action) → AddsPrefix (old ++ t ∷ []) new acts → AddsPrefix old new ((t ∷ acts) ++ closing)
run_prefix old new acts closing t front = prefix_before old new (t ∷ acts) closing (part_prefix_of old (old ++ t ∷ []) new (t ∷ acts) acts (t ∷ [], refl, refl) front)

-- after it
pub stop_prefix : (old now new acts closing : List Action) (t : Action) → now ≡ (old ++ t ∷ []) ++ acts → new ≡ now → AddsPrefix old new ((t ∷ acts) ++ closing)
stop_prefix old now new acts closing t is stays =
    part_prefix old new ((t ∷ acts) ++ closing) closing (t ∷ acts, stays ∙ is ∙ append_assoc old (t ∷ []) acts, refl)

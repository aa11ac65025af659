-- What a core stands for after a delivery.
use Rattle.std.proofs.Common.{◌≡◌, ℕ, List, [], ◌∷◌, ◌++◌, take, Option, Some, None, refl, sym, ap, ◌∙◌, subst}
use Rattle.std.specs.Prelude.{◌↔◌, Bool, false, true, IsSome, is_some, map}
use Rattle.std.specs.List.{filter}
use Rattle.std.proofs.lemmas.Bool.{false≢true}
use Rattle.da_values.specs.declared.val.Val.{Val}
use Rattle.da_values.specs.declared.value.Value.{Value}
use Rattle.da_values.specs.Sets.{Has}
use Rattle.da_values.specs.Layer.{value_of-val_of}
use Rattle.da_values.specs.Value.{val_of}
use Rattle.da_lang.specs.declared.event.Action.{Action}
use Rattle.da_lang.specs.declared.event.Action.TheVariants as action
use Rattle.da_lang.specs.declared.program.Class.{Class}
use Rattle.da_lang.specs.declared.program.Program.{Program}
use Rattle.da_lang.specs.Labels.{is_open, label_before, may_match, takes}
use Rattle.da_lang.specs.Runs.{Halt, AtYield, UsedUp, Faults, Ran}
use Rattle.da_lang.specs.Shaped.{ShapedData, ShapedTasks}
use Rattle.da_lang.specs.Steps.{Deliver, Stepped, closing, handle, handled, phase_after, proc_step}
use Rattle.da_lang.specs.World.{Data, World, Phase, New, Waiting, Ended, Faulted, class_of}
use Rattle.da_lang.proofs.MoveLaws.{step_delivers}
use Rattle.da_types.specs.KeepsShaped.{StepsShaped}
use Rattle.da_machine.specs.declared.machine.Machine.{Machine}
use Rattle.da_machine.specs.RunsTo.{AddsPrefix}
use Rattle.da_machine.proofs.EntryLaws.{at_point}
use Rattle.da_machine.proofs.Prefixes.{same_prefix}
use Rattle.da_core.specs.declared.compiled.ClassCode.{ClassCode}
use Rattle.da_core.specs.declared.process.Core.{Core}
use Rattle.da_core.specs.declared.deliveries.Delivery.{Delivery}
use Rattle.da_core.specs.declared.known.Known.{Known}
use Rattle.da_core.specs.declared.place.Place.{Place}
use Rattle.da_core.specs.declared.place.Stopped.{Stopped}
use Rattle.da_core.specs.Arrivals.{HasTakenIn, MayArrive, MayHandle, MayTakeIn, all_handled, arrival, delivery_actions, received}
use Rattle.da_core.specs.Begins.{label_of, wait_at}
use Rattle.da_core.specs.Compiled.{IsCodeFor, code_of}
use Rattle.da_core.specs.Known.{Knows}
use Rattle.da_core.specs.Made.{HasBegun, HasMade, phase_of, stopped_at}
use Rattle.da_core.specs.Opened.{opened, taken_by}
use Rattle.da_core.specs.StandsFor.{IsAt, IsWaiting, StandsFor, program_of}
use Rattle.da_core.proofs.Entering.{is_code, label_there}
use Rattle.da_core.proofs.KnownLaws.{me_is, with_actions}
use Rattle.da_core.proofs.Laws.{class_has, keeps_shaped}
use Rattle.da_core.proofs.Moving.{stops_so}

-- the machine stays where it stands, and the process waits there where no handler faults
at_after : (p : Program) (class : Class) (code : ClassCode) (m : Machine) (w : World) (halt : Halt) → IsWaiting class code.code m w.todo → IsAt p class code.code m w (phase_after halt)
at_after p class code m w AtYield is = is
at_after p class code m w UsedUp is = tt
at_after p class code m w (Faults kind line) is = tt

-- which messages arrive
module _ (core : Core) (w : World) (s : StandsFor core w) (m : Val) (from time : ℕ) where
  -- where the process does not wait none does
  by_phase : (phase : Phase) → w.phase ≡ phase → (phase ≡ Waiting → ⊥) → proc_step (program_of core) w (Deliver m from time) ≡ None
  by_phase New is other = rw (s.knows.is_class, is) refl
  by_phase Waiting is other = absurd (other refl)
  by_phase Ended is other = rw (s.knows.is_class, is) refl
  by_phase Faulted is other = rw (s.knows.is_class, is) refl

  pub arrives_nowhere : (w.phase ≡ Waiting → ⊥) → proc_step (program_of core) w (Deliver m from time) ≡ None
  arrives_nowhere other = by_phase w.phase refl other

  other_phase : (phase : Phase) → w.phase ≡ phase → (phase ≡ Waiting → ⊥) → IsSome (proc_step (program_of core) w (Deliver m from time)) → ⊥
  other_phase phase is other some = false≢true (sym (ap is_some (by_phase phase is other)) ∙ some)

  waits_by : (phase : Phase) → w.phase ≡ phase → IsSome (proc_step (program_of core) w (Deliver m from time)) → w.phase ≡ Waiting
  waits_by New is some = absurd (other_phase New is (λ same. cc) some)
  waits_by Waiting is some = is
  waits_by Ended is some = absurd (other_phase Ended is (λ same. cc) some)
  waits_by Faulted is some = absurd (other_phase Faulted is (λ same. cc) some)

  pub waits_there : IsSome (proc_step (program_of core) w (Deliver m from time)) → w.phase ≡ Waiting
  waits_there some = waits_by w.phase refl some

  -- and where it waits those that it takes
  by_takes : w.phase ≡ Waiting → (b : Bool) → takes s.class w m from ≡ b → is_some (proc_step (program_of core) w (Deliver m from time)) ≡ b
  by_takes waits true is = rw (s.knows.is_class, waits, is) refl
  by_takes waits false is = rw (s.knows.is_class, waits, is) refl

  pub arrives_where : w.phase ≡ Waiting → is_some (proc_step (program_of core) w (Deliver m from time)) ≡ takes s.class w m from
  arrives_where waits = by_takes waits (takes s.class w m from) refl

  pub taken_there : IsSome (proc_step (program_of core) w (Deliver m from time)) → takes s.class w m from ≡ true
  taken_there some = sym (arrives_where (waits_there some)) ∙ some

  -- none does where it does not wait, as a test tells
  pub none_arrives : (w.phase ≡ Waiting → ⊥) → (b : Bool) → b ≡ false → (b ≡ true ↔ IsSome (proc_step (program_of core) w (Deliver m from time)))
  none_arrives other b is = (λ true'. absurd (false≢true (sym is ∙ true')), λ some. absurd (other (waits_there some)))

  pub arrives_there : IsSome (proc_step (program_of core) w (Deliver m from time)) → proc_step (program_of core) w (Deliver m from time) ≡ None → ⊥
  arrives_there some none = false≢true (sym (ap is_some none) ∙ some)

  -- what does not arrive
  pub no_arrival : (b : Bool) → b ≡ false → (b ≡ true ↔ IsSome (proc_step (program_of core) w (Deliver m from time))) → proc_step (program_of core) w (Deliver m from time) ≡ None
  no_arrival b is same = of (proc_step (program_of core) w (Deliver m from time)) refl
    where
      of : (r : Option Stepped) → proc_step (program_of core) w (Deliver m from time) ≡ r → r ≡ None
      of None none = refl
      of (Some after) leads = absurd (false≢true (sym is ∙ same.1 (ap is_some leads)))

  -- before anything of it was told
  pub begins_there : IsSome (proc_step (program_of core) w (Deliver m from time)) → (out : List Action) → HasBegun core w (Deliver m from time) out out
  begins_there some out = of (proc_step (program_of core) w (Deliver m from time)) refl
    where
      of : (r : Option Stepped) → proc_step (program_of core) w (Deliver m from time) ≡ r → HasBegun core w (Deliver m from time) out out
      of None none = absurd (arrives_there some none)
      of (Some after) leads = record { after = after; leads = leads; front = same_prefix out out after.actions refl }

-- its class is there
pub no_class : (core : Core) (w : World) → StandsFor core w → None ≡ class_of (program_of core) core.known.answers.me → ⊥
no_class core w s none =
    let both : ◌≡◌ {A = Option Class} None (Some s.class) = none ∙ ap (class_of (program_of core)) (sym (me_is core.known (program_of core) s.class w.data' s.stands)) ∙ s.knows.is_class in
    cc

-- the message, with the class of the process, its code and its label, as they were found
module _ (core : Core) (w : World) (s : StandsFor core w) (x : Delivery)
    (classed : Some x.class.now ≡ class_of (program_of core) core.known.answers.me) (coded : Some x.code.now ≡ code_of core.compiled.now core.known.answers.me)
    (labelled : x.label ≡ label_of (wait_at x.code.now core.machine.place)) where
  abbrev p : Program
  p = program_of core

  abbrev d : Data
  d = w.data'

  abbrev class : Class
  class = x.class.now

  abbrev code : ClassCode
  code = x.code.now

  itself : d.me ≡ core.known.answers.me
  itself = me_is core.known p s.class d s.stands

  is_class : class_of p d.me ≡ Some class
  is_class = ap (class_of p) itself ∙ sym classed

  is_coded : code_of core.compiled.now d.me ≡ Some code
  is_coded = ap (code_of core.compiled.now) itself ∙ sym coded

  same_class : s.class ≡ class
  same_class = let both : ◌≡◌ {A = Option Class} (Some s.class) (Some class) = sym s.knows.is_class ∙ is_class in cc

  same_code : s.code ≡ code
  same_code = let both : ◌≡◌ {A = Option ClassCode} (Some s.code) (Some code) = sym s.code_is ∙ is_coded in cc

  its_code : (place : ℕ) × IsCodeFor p place class code
  its_code = is_code core.compiled.now class code s.compiled d.me is_class is_coded

  keeps : Knows core.known p class d
  keeps = subst (λ c. Knows core.known p c d) same_class s.stands

  knows : ShapedData p class d
  knows = subst (λ c. ShapedData p c d) same_class s.knows

  tasks : ShapedTasks p class d.me w.todo
  tasks = subst (λ c. ShapedTasks p c d.me w.todo) same_class s.tasks

  waiting : w.phase ≡ Waiting → IsWaiting class code.code core.machine w.todo
  waiting waits =
      let there : IsWaiting s.class s.code.code core.machine w.todo = subst (IsAt p s.class s.code.code core.machine w) waits s.at in
      subst (λ (z : ClassCode). IsWaiting class z.code core.machine w.todo) same_code (subst (λ c. IsWaiting c s.code.code core.machine w.todo) same_class there)

  -- the label at which it waits is that of the world
  label_is : w.phase ≡ Waiting → x.label ≡ label_before w.todo
  label_is waits =
      let here = waiting waits in
      labelled ∙ label_there class code core.machine.place here.number core.machine.loops its_code.1.waits here.there w.todo
      (at_point code.code class core.machine.place core.machine.loops w.todo here.code_for here.number here.there)

  -- whether it takes the message, by its handlers
  pub taken_is : w.phase ≡ Waiting → (b : Bool) (me : ℕ) → me ≡ core.known.answers.me
      → (x.code.now.opened ≡ map opened class.handlers → b ≡ taken_by (may_match me (val_of x.message.now) x.from) x.label class.handlers)
      → (time : ℕ) → is_some (proc_step p w (arrival x.message.now x.from time)) ≡ b
  taken_is waits b me mine is time =
      arrives_where core w s (val_of x.message.now) x.from time waits
      ∙ ap (λ c. takes c w (val_of x.message.now) x.from) same_class
      ∙ ap (λ l. taken_by (may_match d.me (val_of x.message.now) x.from) l class.handlers) (sym (label_is waits))
      ∙ ap (λ q. taken_by (may_match q (val_of x.message.now) x.from) x.label class.handlers) (itself ∙ sym mine)
      ∙ sym (is its_code.1.opened)

  -- as a test tells
  pub lets_in_so : (m : Value) (from : ℕ) → x.message.now ≡ m → x.from ≡ from → w.phase ≡ Waiting → (b : Bool) (me : ℕ) → me ≡ core.known.answers.me
      → (x.code.now.opened ≡ map opened class.handlers → b ≡ taken_by (may_match me (val_of x.message.now) x.from) x.label class.handlers)
      → (time : ℕ) → (b ≡ true ↔ IsSome (proc_step p w (arrival m from time)))
  lets_in_so m from is_message is_from waits b me mine is time =
      let same : is_some (proc_step p w (arrival m from time)) ≡ b =
      subst (λ v. is_some (proc_step p w (arrival v from time)) ≡ b) is_message
      (subst (λ f. is_some (proc_step p w (arrival x.message.now f time)) ≡ b) is_from (taken_is waits b me mine is time)) in
      (λ true'. same ∙ true', λ some. sym same ∙ some)

  -- a message that it takes
  module _ (time : ℕ) (arrives : MayArrive p x.message.now x.from time) (some : IsSome (proc_step p w (arrival x.message.now x.from time))) where
    waits : w.phase ≡ Waiting
    waits = waits_there core w s (val_of x.message.now) x.from time some

    taken_so : takes class w (val_of x.message.now) x.from ≡ true
    taken_so = ap (λ c. takes c w (val_of x.message.now) x.from) (sym same_class) ∙ taken_there core w s (val_of x.message.now) x.from time some

    waits_here : IsWaiting class code.code core.machine w.todo
    waits_here = waiting waits

    -- the process before the delivery, with the actions of the caller
    module _ (own : List Action) where
      abbrev old : Known
      old = record core.known { actions = own }

      among : Has p.classes class
      among = class_has p d.me class is_class

      can : MayHandle p x old d
      can = record {
        accepted = s.compiled.accepted;
        knows = with_actions core.known p class d keeps own;
        shaped = knows;
        among = among;
        forward = its_code.1.code.forward;
        enters = its_code.1.code.handlers;
        arrives = record { proper = arrives.proper; typed = arrives.typed; peer = arrives.peer };
      }

      pub may_take_in : MayTakeIn p x time core.machine.place old d w.todo
      may_take_in = record {
        can = can;
        waits = its_code.1.waits;
        number = waits_here.number;
        there = waits_here.there;
        point = (core.machine.loops, at_point code.code class core.machine.place core.machine.loops w.todo waits_here.code_for waits_here.number waits_here.there);
      }

      abbrev ran : Ran
      ran = all_handled x (received x time d)

      abbrev after : Stepped
      after = handled w.todo d.me (val_of x.message.now) x.from time ran

      leads : proc_step p w (arrival x.message.now x.from time) ≡ Some after
      leads =
          step_delivers p class w is_class (val_of x.message.now) x.from time waits taken_so
          ∙ ap (λ l. Some (handled w.todo d.me (val_of x.message.now) x.from time (handle class (val_of x.message.now) x.from (filter (is_open l) class.handlers) 0 (received x time d)))) (sym (label_is waits))

      told : after.actions ≡ delivery_actions x.message.now x time core.known.answers.me ran
      told =
          ap (λ m. action.Got d.me x.from time m ∷ ran.actions ++ closing d.me ran.halt) (value_of-val_of x.message.now)
          ∙ ap (λ me. action.Got me x.from time x.message.now ∷ ran.actions ++ closing me ran.halt) itself

      shaped : StepsShaped p d.me after
      shaped = (keeps_shaped p s.compiled.accepted).steps w (arrival x.message.now x.from time) after (record { class = class; knows = knows; todo = tasks }) arrives leads

      class_stays : shaped.shaped.class ≡ class
      class_stays =
          let both : ◌≡◌ {A = Option Class} (Some shaped.shaped.class) (Some class) = sym shaped.shaped.knows.is_class ∙ ap (class_of p) shaped.same ∙ is_class in
          cc

      -- what the process knows after the delivery and how it stands, where the actions are given back
      module _ (known : Known) (spot : Place) (taken : HasTakenIn x.message.now p x time d w.todo old known spot) where
        module _ (empty : List Action) (none : empty ≡ []) (new : Core) (is_new : new ≡ record core { known = record known { actions = empty }; place = spot; spent = false }) where
          pub stands_after : StandsFor new after.world
          stands_after = subst (λ z. StandsFor z after.world) (sym is_new) (record {
            unspent = refl;
            compiled = s.compiled;
            class = class;
            code = code;
            code_is = ap (code_of core.compiled.now) shaped.same ∙ is_coded;
            knows = subst (λ c. ShapedData p c ran.data') class_stays shaped.shaped.knows;
            tasks = subst (λ c. ShapedTasks p c ran.data'.me w.todo) class_stays shaped.shaped.todo;
            stands = with_actions known p class ran.data' taken.known empty;
            no_actions = none;
            place = taken.stands;
            at = at_after p class code core.machine after.world ran.halt waits_here;
            no_values = s.no_values;
          })

          pub has_made : (out given : List Action) → own ≡ out → given ≡ known.actions → (answer : Stopped) → answer ≡ stopped_at spot
              → HasMade core w (arrival x.message.now x.from time) new answer out given
          has_made out given from back answer is = record {
            after = after;
            leads = leads;
            stands = stands_after;
            same = shaped.same;
            stopped = ap phase_of is ∙ stops_so w.todo spot ran.halt taken.stands;
            added = back ∙ taken.actions ∙ ap (λ xs. own ++ xs) (sym told) ∙ ap (λ xs. xs ++ after.actions) from;
          }

      pub has_begun : (out given left : List Action) → own ≡ out → given ≡ left → AddsPrefix own left (delivery_actions x.message.now x time core.known.answers.me ran)
          → HasBegun core w (arrival x.message.now x.from time) out given
      has_begun out given left from back (n, is) = record {
        after = after;
        leads = leads;
        front = (n, back ∙ is ∙ ap (λ xs. own ++ take n xs) (sym told) ∙ ap (λ xs. xs ++ take n after.actions) from);
      }

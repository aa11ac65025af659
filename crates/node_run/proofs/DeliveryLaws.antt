-- The delivery of the held packet that is next.
use Rattle.std.specs.Prelude.{◌≡◌, refl, ℕ, zero, suc, List, [], ◌∷◌, take, drop, remove, slice_get, Option, Some, None, Result, IfErr, OnOk}
use Rattle.std.specs.List.{All}
use Rattle.std.proofs.Common.{◌∙◌, ap, sym, subst}
use Rattle.std.proofs.lemmas.List.Elements.{All-append, All-drop, All-head, All-tail, All-take}
use Rattle.std.proofs.lemmas.Option.{none-some, same_Some}
use Rattle.std.proofs.lemmas.Result.{IfErr-weaker}
use Rattle.da_lang.specs.declared.event.Action.{Action}
use Rattle.da_lang.specs.declared.program.Program.{Program}
use Rattle.da_lang.specs.declared.ty.ChannelKind.{ChannelKind}
use Rattle.da_lang.specs.Steps.{proc_step}
use Rattle.da_outside.specs.declared.link.LinkEntry.{LinkEntry}
use Rattle.da_outside.specs.Link.{Gains}
use Rattle.da_outside.specs.Outside.{Appends}
use Rattle.da_core.specs.declared.place.Stopped.{Stopped}
use Rattle.da_core.specs.declared.process.Core.{Core}
use Rattle.da_core.specs.Arrivals.{MayArrive, arrival}
use Rattle.da_core.specs.Made.{HasMade}
use Rattle.da_core.specs.StandsFor as process
use Rattle.msg_codec.specs.declared.packet.Packet.{Packet}
use Rattle.sched_text.specs.ActionText.{action_text}
use Rattle.node_run.specs.declared.hearing.Running.{Running}
use Rattle.node_run.specs.declared.outcome.NodeOutcome.{NodeOutcome}
use Rattle.node_run.specs.declared.outcome.NodeOutcome.TheVariants.{Memory}
use Rattle.node_run.specs.Gifts.{IsCutShort}
use Rattle.node_run.specs.Hearing.{DeliversNone, HasDelivered, IsFoundAt, IsStanding, MayAllArrive, StandsAs, WasCutDelivering, held_in, held_of}
use Rattle.node_run.specs.HeldPackets.{find_held}
use Rattle.node_run.specs.NodeRun.{Node, gifts, next_held}
use Rattle.node_run.proofs.HearingLaws.{HasStepped, both_ok, nothing_given}
use Rattle.node_run.proofs.HeldLaws.{found_one}

-- THE PACKET AT A PLACE

all_get : (program : Program) (packets : List Packet) (place : ℕ) (packet : Packet) → MayAllArrive program packets → slice_get packets place ≡ Some packet → MayArrive program packet.value packet.sender packet.clock
all_get program [] place packet all there = absurd (none-some packet there)
all_get program (p ∷ packets) zero packet all there =
    subst (λ (q : Packet). MayArrive program q.value q.sender q.clock) (same_Some p packet there) (All-head (λ (q : Packet). MayArrive program q.value q.sender q.clock) p packets all)
all_get program (p ∷ packets) (suc place) packet all there =
    all_get program packets place packet (All-tail (λ (q : Packet). MayArrive program q.value q.sender q.clock) p packets all) there

all_but : (program : Program) (packets : List Packet) (place : ℕ) → MayAllArrive program packets → MayAllArrive program (remove packets place)
all_but program packets place all =
    let arrives : Packet → Type 0 = λ q. MayArrive program q.value q.sender q.clock in
    All-append arrives (take place packets) (drop (suc place) packets) (All-take arrives place packets all) (All-drop arrives (suc place) packets all)

module _ (running : Running) (place : ℕ) (packet : Packet) (there : slice_get running.held place ≡ Some packet) where
  abbrev program : Program
  program = process.program_of running.core

  -- it is the next one
  abbrev pub IsNext : Type 0
  IsNext = (node : Node) → StandsAs program running node → IsFoundAt running.held (next_held program node) (Some place)

  next_is : IsNext → (node : Node) → StandsAs program running node → next_held program node ≡ Some (held_of packet, held_in (remove running.held place))
  next_is next node stood =
      let (other, at, found) = next node stood in
      found ∙ ap (λ p. Some (held_of p, held_in (remove running.held place))) (same_Some other packet (sym at ∙ there))

  -- it may arrive
  pub next_arrives : IsStanding program running → MayArrive program packet.value packet.sender packet.clock
  next_arrives (node, stood) = all_get program running.held place packet stood.arrive there

  -- and is allowed to
  pub next_allowed : IsStanding program running → IsNext → process.Whichever running.core (λ w. proc_step program w (arrival packet.value packet.sender packet.clock) ≡ None) → ⊥
  next_allowed (node, stood) next none =
      let found = found_one program node.process [] node.held (held_of packet) (held_in (remove running.held place)) (next_is next node stood) in
      none-some found.after (sym (none node.process stood.stands) ∙ found.leads)

  -- memory is refused before anything is given
  pub next_refused : IsNext → (node : Node) → StandsAs program running node → (told : Option (List LinkEntry)) (taken : Option (List ℕ)) → WasCutDelivering Memory program node told told taken taken
  next_refused next node stood told taken =
      let found = found_one program node.process [] node.held (held_of packet) (held_in (remove running.held place)) (next_is next node stood) in
      record {
        held = held_in (remove running.held place);
        step = found.after;
        delivers = record { packet = held_of packet; found = next_is next node stood; leads = found.leads };
        cut = nothing_given found.after.actions told taken;
      }

  -- the step was made
  module _ (core : Core) (answer : Stopped) (left : List Packet) (left_is : left ≡ remove running.held place) (actions : List Action)
      (stepped : HasStepped running core answer (arrival packet.value packet.sender packet.clock) actions) (next : IsNext) where
    abbrev behind : Running
    behind = record { core = core; stopped = answer; held = left; idle = running.idle }

    module _ (node : Node) (stood : StandsAs program running node) (told_before told_after : Option (List LinkEntry)) (before after : Option (List ℕ)) where
      abbrev its : HasMade running.core node.process (arrival packet.value packet.sender packet.clock) core answer [] actions
      its = stepped.made node.process stood.stands

      delivered : Gains told_before told_after (gifts actions) → Appends before after (action_text actions) → HasDelivered program node behind told_before told_after before after
      delivered gave written = record {
        held = held_in (remove running.held place);
        step = its.after;
        delivers = record { packet = held_of packet; found = next_is next node stood; leads = its.leads };
        stands = record {
          stands = its.stands;
          same = stepped.same;
          stopped = its.stopped;
          held = ap held_in left_is;
          arrive = subst (MayAllArrive program) (sym left_is) (all_but program running.held place stood.arrive);
          idle = stood.idle;
        };
        gave = subst (λ l. Gains told_before told_after (gifts l)) its.added gave;
        written = subst (λ l. Appends before after (action_text l)) its.added written;
      }

      cut_delivery : (fault : NodeOutcome) → IsCutShort fault actions told_before told_after before after → WasCutDelivering fault program node told_before told_after before after
      cut_delivery fault cut = record {
        held = held_in (remove running.held place);
        step = its.after;
        delivers = record { packet = held_of packet; found = next_is next node stood; leads = its.leads };
        cut = subst (λ l. IsCutShort fault l told_before told_after before after) its.added cut;
      }

    -- what was told of it has this result
    module _ {T : Type 0} (told_before told_after : Option (List LinkEntry)) (before after : Option (List ℕ)) (result : Result T NodeOutcome) where
      pub next_delivered : OnOk result (Gains told_before told_after (gifts actions)) → OnOk result (Appends before after (action_text actions))
          → OnOk result ((node : Node) → StandsAs program running node → HasDelivered program node behind told_before told_after before after)
      next_delivered gave written = both_ok result gave written (λ gave written node stood. delivered node stood told_before told_after before after gave written)

      pub next_cut : IfErr result (λ fault. IsCutShort fault actions told_before told_after before after)
          → IfErr result (λ fault. (node : Node) → StandsAs program running node → WasCutDelivering fault program node told_before told_after before after)
      next_cut cut = IfErr-weaker result _ _ (λ fault cut node stood. cut_delivery node stood told_before told_after before after fault cut) cut

-- WHETHER ONE IS DELIVERED

-- a node of a program is one of the program of its core
own_stands : (program : Program) (running : Running) (node : Node) → StandsAs program running node → StandsAs (process.program_of running.core) running node
own_stands _ running node stood = subst (λ p. StandsAs p running node) (sym stood.same) stood

pub own_standing : (program : Program) (running : Running) → IsStanding program running → IsStanding (process.program_of running.core) running
own_standing program running (node, stood) = (node, own_stands program running node stood)

-- what was found
module _ (program : Program) (running : Running) (kind : ChannelKind) (kind_is : kind ≡ program.kind) (place : Option ℕ) (standing : IsStanding program running)
    (finds : process.Whichever running.core (λ w. kind ≡ (process.program_of running.core).kind → IsFoundAt running.held (find_held (process.program_of running.core) w [] (held_in running.held)) place)) where
  pub found_so : (node : Node) → StandsAs (process.program_of running.core) running node → IsFoundAt running.held (next_held (process.program_of running.core) node) place
  found_so node stood =
      subst (λ l. IsFoundAt running.held (find_held (process.program_of running.core) node.process [] l) place) stood.held
      (finds node.process stood.stands (kind_is ∙ ap (λ (p : Program). p.kind) (sym standing.1.same)))

  -- a packet
  pub next_at : (n : ℕ) → place ≡ Some n → (node : Node) → StandsAs (process.program_of running.core) running node → IsFoundAt running.held (next_held (process.program_of running.core) node) (Some n)
  next_at n is node stood = subst (IsFoundAt running.held (next_held (process.program_of running.core) node)) is (found_so node stood)

  -- or none
  pub none_next : place ≡ None → (told : Option (List LinkEntry)) (taken : Option (List ℕ)) (node : Node) → StandsAs program running node → DeliversNone program node running running told told taken taken
  none_next is told taken node stood = record {
    none = subst (λ p. next_held p node ≡ None) stood.same (subst (IsFoundAt running.held (next_held (process.program_of running.core) node)) is (found_so node (own_stands program running node stood)));
    same = refl;
    untold = refl;
    unwritten = refl;
  }

-- what a call leaves of a node of the program of its core, it leaves of one of this program
module _ (program : Program) (running : Running) (told_before told_after : Option (List LinkEntry)) (before after : Option (List ℕ)) where
  pub delivered_so : (next : Running) → ((other : Node) → StandsAs (process.program_of running.core) running other → HasDelivered (process.program_of running.core) other next told_before told_after before after)
      → (node : Node) → StandsAs program running node → HasDelivered program node next told_before told_after before after
  delivered_so next has node stood = subst (λ p. HasDelivered p node next told_before told_after before after) stood.same (has node (own_stands program running node stood))

  pub cut_delivery_so : (fault : NodeOutcome)
      → ((other : Node) → StandsAs (process.program_of running.core) running other → WasCutDelivering fault (process.program_of running.core) other told_before told_after before after)
      → (node : Node) → StandsAs program running node → WasCutDelivering fault program node told_before told_after before after
  cut_delivery_so fault cut node stood = subst (λ p. WasCutDelivering fault p node told_before told_after before after) stood.same (cut node (own_stands program running node stood))

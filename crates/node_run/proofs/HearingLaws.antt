-- What may be given after an event, and what a node does at any answer.
use Rattle.std.specs.Prelude.{◌≡◌, refl, ℕ, ◌+◌, ◌<◌, ◌≤◌, ◌⊎◌, ◌↔◌, nat_le, nat_lt, Bool, true, false, ◌&&◌, List, [], ◌∷◌, ◌++◌, length, Option, Some, None, IsSome, is_some, Result, Ok, Err, IfErr, OnErr, OnOk}
use Rattle.std.specs.List.{All}
use Rattle.std.proofs.Common.{◌∙◌, ap, sym, subst, subst₂, arith, inl, inr, ltb-true, ltb-false, leb-true, leb-false}
use Rattle.std.proofs.lemmas.Bool.{true≢false, false≢true, and_from, and_parts, le-leb, lt-leb}
use Rattle.std.proofs.lemmas.List.Elements.{All-head, All-tail}
use Rattle.std.proofs.lemmas.Result.{IfErr-weaker}
use Rattle.da_values.specs.declared.val.Val.{Val}
use Rattle.da_values.specs.declared.value.Value.{Value}
use Rattle.da_values.specs.Narrow.{is_narrow}
use Rattle.da_values.specs.Value.{val_of}
use Rattle.da_lang.specs.declared.event.Action.{Action}
use Rattle.da_lang.specs.declared.event.Action.TheVariants.{Sent}
use Rattle.da_lang.specs.declared.program.Program.{Program}
use Rattle.da_lang.specs.declared.ty.ChannelKind.{ChannelKind}
use Rattle.da_lang.specs.Accepted.{IsAccepted}
use Rattle.da_lang.specs.Shaped.{IsProcess, Shaped, has_processes, is_declared, well_typed}
use Rattle.da_lang.specs.Steps.{Step, TimeOut, Stepped, move_step, proc_step}
use Rattle.da_lang.specs.Turns.{max_packet}
use Rattle.da_lang.specs.World.{World, Waiting, opening}
use Rattle.da_outside.specs.declared.link.LinkAnswer.{LinkAnswer}
use Rattle.da_outside.specs.declared.link.LinkAnswer.TheVariants.{Datagram, Nothing}
use Rattle.da_outside.specs.declared.link.LinkEntry.{LinkEntry}
use Rattle.da_outside.specs.Link.{Gains}
use Rattle.da_outside.specs.Outside.{Appends}
use Rattle.da_outside.proofs.OutsideLemmas.{appends_none, prefix_none}
use Rattle.da_types.specs.KeepsShaped.{IsSending, MayStep, MayTell}
use Rattle.da_types.proofs.sound.AcceptedShaped.{keeps_shaped}
use Rattle.da_core.specs.declared.place.Stopped.{Stopped}
use Rattle.da_core.specs.declared.place.Stopped.TheVariants as stopped
use Rattle.da_core.specs.declared.process.Core.{Core}
use Rattle.da_core.specs.Arrivals.{MayArrive}
use Rattle.da_core.specs.Made.{HasMade, phase_of}
use Rattle.da_core.specs.StandsFor as process
use Rattle.msg_codec.specs.declared.packet.Packet.{Packet}
use Rattle.msg_codec.specs.Packets.{IsPacket}
use Rattle.msg_codec.proofs.Decided.{packet_once, packet_or_none}
use Rattle.msg_codec.proofs.SizeLaws.{packet_size}
use Rattle.sched_text.specs.ActionText.{action_text}
use Rattle.node_run.specs.declared.hearing.Running.{Running}
use Rattle.node_run.specs.declared.outcome.NodeOutcome.{NodeOutcome}
use Rattle.node_run.specs.declared.outcome.NodeOutcome.TheVariants.{Memory}
use Rattle.node_run.specs.Gifts.{IsCutShort, IsGift, MayGive, MayGiveAll, due}
use Rattle.node_run.specs.Hearing.{HasActed, IsListening, IsQuiet, IsStanding, MayAllArrive, StandsAs, WasCutActing, WasCutBeginning, held_in, held_of}
use Rattle.node_run.specs.HeldPackets.{Held, held_with}
use Rattle.node_run.specs.NodeRun.{Hears, comes_in, drops, steps, idles, IsMessage, Node, after_datagram, after_idle_turn, after_step, gifts, idle_turns_to_timeout, may_time_out, move_of, step_of}
use Rattle.node_run.proofs.FewParts.{few_parts}
use Rattle.node_run.proofs.HeldLaws.{some_of}
use Rattle.node_run.proofs.MoveLaws.{IsOwn, moves, late, own_move_allowed, own_one, start_allowed, step_by, step_else}
use Rattle.node_run.proofs.TalkLaws.{gains_nothing}

-- WHAT MAY BE GIVEN

module _ (p : Program) (accepted : IsAccepted p) (me : ℕ) where
  gift_allowed : (sender recipient time : ℕ) (m : Value) → IsSending p me sender recipient time (val_of m) → IsGift (length p.procs) sender recipient time m
  unfolding max_packet
  gift_allowed sender recipient time m sending =
      let v = val_of m in
      let first = and_parts (is_declared p.messages v && is_narrow v) (has_processes (length p.procs) v) sending.typed in
      let narrow = and_parts (is_declared p.messages v) (is_narrow v) first.0 in
      record {
        there = sending.there;
        narrow = narrow.1;
        few_parts = few_parts p accepted v sending.typed;
        in_time = sending.in_time;
        small = omega (arith, packet_size sender time v, sending.small);
      }

  told_given : (a : Action) → MayTell p me a → MayGive (length p.procs) a
  told_given (Sent sender recipient time m) may = gift_allowed sender recipient time m may
  told_given _ may = tt

  -- what a process of an accepted program may tell may be given
  pub all_given : (actions : List Action) → All (MayTell p me) actions → MayGiveAll (length p.procs) actions
  all_given [] tells = tt
  all_given (a ∷ others) tells = (told_given a (All-head (MayTell p me) a others tells), all_given others (All-tail (MayTell p me) a others tells))

-- WHAT A CALL LEAVES

pub both_ok : {T E P Q R : Type 0} (r : Result T E) → OnOk r P → OnOk r Q → (P → Q → R) → OnOk r R
both_ok (Ok x) p q go = go p q
both_ok (Err y) p q go = tt

-- memory is refused before anything is given
pub nothing_given : (actions : List Action) (told : Option (List LinkEntry)) (taken : Option (List ℕ)) → IsCutShort Memory actions told told taken taken
nothing_given actions told taken = record {
  gained = record { given = []; left = gifts actions; told = gains_nothing told; whole = refl };
  left = tt;
  written = prefix_none taken (due (gifts actions) (action_text actions));
}

-- MESSAGES

-- these bytes are a message for a node
abbrev pub MessageIn : Program → List ℕ → Type 0
MessageIn p bytes = (x : Held) × IsMessage p bytes x

-- they are dropped
abbrev pub NoMessage : Program → List ℕ → Type 0
NoMessage p bytes = (x : Held) → IsMessage p bytes x → ⊥

-- bytes that are no packet are no message
pub no_packet : (p : Program) (bytes : List ℕ) → ((sender time : ℕ) (v : Val) → IsPacket sender time v bytes → ⊥) → NoMessage p bytes
no_packet p bytes none x is = none x.sender x.time x.message is.packet

module _ (p : Program) (bytes : List ℕ) (sender time : ℕ) (v : Val) (packet : IsPacket sender time v bytes) where
  -- and neither is a packet from no process of the program or of other types
  pub other_packet : (IsProcess p sender × (well_typed p v ≡ true) → ⊥) → NoMessage p bytes
  other_packet never x is =
      let once = packet_once packet is.packet in
      never (subst (IsProcess p) (sym once.0) is.from, subst (λ x. well_typed p x ≡ true) (sym once.2) is.typed)

  pub this_packet : IsProcess p sender × (well_typed p v ≡ true) → IsMessage p bytes (record { message = v; sender = sender; time = time })
  this_packet both = record { packet = packet; from = both.0; typed = both.1 }

  packet_by : (some within typed : Bool) → nat_lt 0 sender ≡ some → nat_le sender (length p.procs) ≡ within → well_typed p v ≡ typed → NoMessage p bytes ⊎ MessageIn p bytes
  packet_by true true true some within typed = inr (_, this_packet ((ltb-true 0 sender some, leb-true sender (length p.procs) within), typed))
  packet_by false _ _ some within typed = inl (other_packet (λ both. let first : 0 < sender = both.0.0 in let none : sender ≤ 0 = ltb-false 0 sender some in omega arith))
  packet_by true false _ some within typed = inl (other_packet (λ both. let last : sender ≤ length p.procs = both.0.1 in let far : length p.procs < sender = leb-false sender (length p.procs) within in omega arith))
  packet_by true true false some within typed = inl (other_packet (λ both. true≢false (sym both.1 ∙ typed)))

  message_at : NoMessage p bytes ⊎ MessageIn p bytes
  message_at = packet_by (nat_lt 0 sender) (nat_le sender (length p.procs)) (well_typed p v) refl refl refl

-- a test of the packet has failed
pub not_held : (p : Program) (bytes : List ℕ) (sender time : ℕ) (v : Val) (passes : Bool) → IsPacket sender time v bytes → ((passes ≡ true) ↔ (IsProcess p sender × (well_typed p v ≡ true))) → passes ≡ false → NoMessage p bytes
not_held p bytes sender time v passes packet exactly fails = other_packet p bytes sender time v packet (λ both. true≢false (sym (exactly.1 both) ∙ fails))

-- whether bytes are a message is decided
pub message_or_none : (p : Program) (bytes : List ℕ) → NoMessage p bytes ⊎ MessageIn p bytes
message_or_none p bytes = go (packet_or_none bytes)
  where
    go : ((sender time : ℕ) (v : Val) → IsPacket sender time v bytes → ⊥) ⊎ ((sender : ℕ) × (time : ℕ) × (v : Val) × IsPacket sender time v bytes) → NoMessage p bytes ⊎ MessageIn p bytes
    go (inl none) = inl (no_packet p bytes none)
    go (inr found) = message_at p bytes found.0 found.1 found.2 found.3

-- WHAT A NODE THAT WAITS DOES

-- it does something at this answer
pub record HearsSome (program : Program) (node : Node) (answer : LinkAnswer) : Type 0 where
  pub actions : List Action
  pub then' : Node
  pub hears : Hears program node answer actions then'

at_datagram : (program : Program) (node : Node) (bytes : List ℕ) → NoMessage program bytes ⊎ MessageIn program bytes → HearsSome program node (Datagram bytes)
at_datagram program node bytes (inl none) = record { actions = []; then' = after_datagram node node.held; hears = drops bytes none }
at_datagram program node bytes (inr (x, is)) = record { actions = []; then' = after_datagram node (held_with program.kind node.held x); hears = comes_in bytes x is }

-- what is asked of a step that it takes where nothing comes is that it is allowed
pub own_allowed : (core : Core) (node : Node) (stands : process.StandsFor core node.process) → node.process.phase ≡ Waiting → (step : Step) → step_of (process.program_of core) node ≡ Some step
    → is_some (proc_step (process.program_of core) node.process step) ≡ true
own_allowed core node stands waits step is = by_own step (own_one (process.program_of core) node step is)
  where
    by_own : (step : Step) → IsOwn (process.program_of core) node step → is_some (proc_step (process.program_of core) node.process step) ≡ true
    by_own _ (moves k move) = own_move_allowed core node.process stands waits k move
    by_own _ (late none test) = (and_parts (nat_le idle_turns_to_timeout node.idle) (is_some (proc_step (process.program_of core) node.process TimeOut)) test).1

at_nothing : (core : Core) (node : Node) (stands : process.StandsFor core node.process) → node.process.phase ≡ Waiting → (step : Option Step) → step_of (process.program_of core) node ≡ step
    → HearsSome (process.program_of core) node Nothing
at_nothing core node stands waits None is = record { actions = []; then' = after_idle_turn node; hears = idles is }
at_nothing core node stands waits (Some step) is =
    let (after, leads) = some_of _ (own_allowed core node stands waits step is) in
    record { actions = after.actions; then' = after_step node after.world; hears = steps step after is leads }

pub hears_some : (core : Core) (node : Node) (stands : process.StandsFor core node.process) → node.process.phase ≡ Waiting → (answer : LinkAnswer) → HearsSome (process.program_of core) node answer
hears_some core node stands waits (Datagram bytes) = at_datagram (process.program_of core) node bytes (message_or_none (process.program_of core) bytes)
hears_some core node stands waits Nothing = at_nothing core node stands waits (step_of (process.program_of core) node) refl

-- what it sent in a step may be given
module _ (core : Core) (w : World) (stands : process.StandsFor core w) (step : Step) (after : Stepped) (may : MayStep (process.program_of core) step) (leads : proc_step (process.program_of core) w step ≡ Some after) where
  pub gifts_allowed : MayGiveAll (length (process.program_of core).procs) after.actions
  gifts_allowed =
      let shaped : Shaped (process.program_of core) w = record { class = stands.class; knows = stands.knows; todo = stands.tasks } in
      all_given (process.program_of core) stands.compiled.accepted w.data'.me after.actions ((keeps_shaped (process.program_of core) stands.compiled.accepted).steps w step after shaped may leads).tells

-- A NODE THAT MAKES A STEP

pub waits_so : (program : Program) (running : Running) (node : Node) → StandsAs program running node → running.stopped ≡ stopped.AtYield → node.process.phase ≡ Waiting
waits_so program running node stood is = sym stood.stopped ∙ ap phase_of is

-- its core made the step, of which these are the actions
pub record HasStepped (running : Running) (core : Core) (answer : Stopped) (step : Step) (actions : List Action) : Type 0 where
  pub made : process.Whichever running.core (λ w. HasMade running.core w step core answer [] actions)
  pub same : process.program_of core ≡ process.program_of running.core

pub has_stepped : (running : Running) (step : Step) (core : Core) (answer : Stopped) (old out actions : List Action) → old ≡ [] → actions ≡ out → process.program_of core ≡ process.program_of running.core
    → process.Whichever running.core (λ w. HasMade running.core w step core answer old out) → HasStepped running core answer step actions
has_stepped running step core answer old out actions none shown same made = record {
  made = λ w stands. subst₂ (λ old out. HasMade running.core w step core answer old out) none (sym shown) (made w stands);
  same = same;
}

-- what it sent may be given
pub step_given : (running : Running) (core : Core) (answer : Stopped) (step : Step) (actions : List Action) → HasStepped running core answer step actions → IsStanding (process.program_of running.core) running
    → MayStep (process.program_of running.core) step → (count : ℕ) → count ≡ length (process.program_of running.core).procs → MayGiveAll count actions
step_given running core answer step actions stepped (node, stood) may count bound =
    let has = stepped.made node.process stood.stands in
    subst₂ MayGiveAll (sym bound) (sym has.added) (gifts_allowed running.core node.process stood.stands step has.after may has.leads)

-- after a step that it takes where nothing comes
abbrev pub stepped_on : Running → Core → Stopped → Running
stepped_on running core answer = record { core = core; stopped = answer; held = running.held; idle = 0 }

-- it has done what the rules say where the step is the one that it takes where nothing comes
module _ (running : Running) (core : Core) (answer : Stopped) (step : Step) (actions : List Action) (stepped : HasStepped running core answer step actions) (node : Node)
    (stood : StandsAs (process.program_of running.core) running node) (own : step_of (process.program_of running.core) node ≡ Some step) where
  abbrev its : HasMade running.core node.process step core answer [] actions
  its = stepped.made node.process stood.stands

  abbrev heard : Hears (process.program_of running.core) node Nothing its.after.actions (after_step node its.after.world)
  heard = steps step its.after own its.leads

  module _ (told_before told_after : Option (List LinkEntry)) (before after : Option (List ℕ)) where
    step_acted : Gains told_before told_after (gifts actions) → Appends before after (action_text actions) → HasActed (process.program_of running.core) node Nothing (stepped_on running core answer) told_before told_after before after
    step_acted gave written = record {
      actions = its.after.actions;
      then' = after_step node its.after.world;
      hears = heard;
      stands = record {
        stands = its.stands;
        same = stepped.same;
        stopped = its.stopped;
        held = stood.held;
        arrive = stood.arrive;
        idle = refl;
      };
      gave = subst (λ l. Gains told_before told_after (gifts l)) its.added gave;
      written = subst (λ l. Appends before after (action_text l)) its.added written;
    }

    step_cut : (fault : NodeOutcome) → IsCutShort fault actions told_before told_after before after → WasCutActing fault (process.program_of running.core) node Nothing told_before told_after before after
    step_cut fault cut = record {
      actions = its.after.actions;
      then' = after_step node its.after.world;
      hears = heard;
      cut = subst (λ l. IsCutShort fault l told_before told_after before after) its.added cut;
    }

-- what was told of it has this result
module _ {T : Type 0} (told_before told_after : Option (List LinkEntry)) (before after : Option (List ℕ)) (result : Result T NodeOutcome) (running : Running) (core : Core) (answer : Stopped) (step : Step)
    (actions : List Action) (own : (node : Node) → StandsAs (process.program_of running.core) running node → step_of (process.program_of running.core) node ≡ Some step)
    (stepped : HasStepped running core answer step actions) where
  pub own_acted : OnOk result (Gains told_before told_after (gifts actions)) → OnOk result (Appends before after (action_text actions))
      → OnOk result ((node : Node) → StandsAs (process.program_of running.core) running node → HasActed (process.program_of running.core) node Nothing (stepped_on running core answer) told_before told_after before after)
  own_acted gave written = both_ok result gave written (λ gave written node stood.
      step_acted running core answer step actions stepped node stood (own node stood) told_before told_after before after gave written)

  pub own_cut : IfErr result (λ fault. IsCutShort fault actions told_before told_after before after)
      → IfErr result (λ fault. (node : Node) → StandsAs (process.program_of running.core) running node → WasCutActing fault (process.program_of running.core) node Nothing told_before told_after before after)
  own_cut cut = IfErr-weaker result _ _ (λ fault cut node stood.
      step_cut running core answer step actions stepped node stood (own node stood) told_before told_after before after fault cut) cut

-- a step is the one that it takes: its move
module _ (running : Running) (waits : running.stopped ≡ stopped.AtYield) where
  pub move_own : (k : ℕ) → process.Whichever running.core (λ w. w.phase ≡ Waiting → Some k ≡ move_of w)
      → (node : Node) → StandsAs (process.program_of running.core) running node → step_of (process.program_of running.core) node ≡ Some (move_step k)
  move_own k chosen node stood =
      step_by (process.program_of running.core) node k (sym (chosen node.process stood.stands (waits_so (process.program_of running.core) running node stood waits)))

  -- or, where it has none, the timeout, by how many turns were idle and whether it is allowed
  quiet_so : IsQuiet running → (node : Node) → StandsAs (process.program_of running.core) running node → move_of node.process ≡ None
  quiet_so quiet node stood = quiet node.process stood.stands (waits_so (process.program_of running.core) running node stood waits)

  pub late_own : IsQuiet running → (allowed : Bool) → 999 ≤ running.idle → allowed ≡ true
      → process.Whichever running.core (λ w. (allowed ≡ true) ↔ IsSome (proc_step (process.program_of running.core) w TimeOut))
      → (node : Node) → StandsAs (process.program_of running.core) running node → step_of (process.program_of running.core) node ≡ Some TimeOut
  late_own quiet allowed past is exactly node stood =
      let far : nat_le idle_turns_to_timeout node.idle ≡ true = le-leb idle_turns_to_timeout node.idle (omega (arith, past, stood.idle)) in
      let may : may_time_out (process.program_of running.core) node ≡ true = and_from (nat_le idle_turns_to_timeout node.idle) _ far ((exactly node.process stood.stands).0 is) in
      step_else (process.program_of running.core) node true (quiet_so quiet node stood) may

  -- or none
  pub none_early : IsQuiet running → running.idle < 999 → (node : Node) → StandsAs (process.program_of running.core) running node → step_of (process.program_of running.core) node ≡ None
  none_early quiet early node stood =
      let test : nat_le idle_turns_to_timeout node.idle ≡ false = lt-leb idle_turns_to_timeout node.idle (omega (arith, early, stood.idle)) in
      step_else (process.program_of running.core) node false (quiet_so quiet node stood) (ap (λ b. b && is_some (proc_step (process.program_of running.core) node.process TimeOut)) test)

  pub none_allowed : IsQuiet running → (allowed : Bool) → allowed ≡ false → process.Whichever running.core (λ w. (allowed ≡ true) ↔ IsSome (proc_step (process.program_of running.core) w TimeOut))
      → (node : Node) → StandsAs (process.program_of running.core) running node → step_of (process.program_of running.core) node ≡ None
  none_allowed quiet allowed not exactly node stood =
      step_else (process.program_of running.core) node false (quiet_so quiet node stood)
      (and_false (nat_le idle_turns_to_timeout node.idle) _ (λ some. false≢true (sym not ∙ (exactly node.process stood.stands).1 some)))
    where
      and_false : (a b : Bool) → (b ≡ true → ⊥) → (a && b) ≡ false
      and_false a true never = absurd (never refl)
      and_false true false never = refl
      and_false false false never = refl

-- a step that it takes is allowed
pub not_forbidden : (running : Running) → IsListening (process.program_of running.core) running → (step : Step)
    → ((node : Node) → StandsAs (process.program_of running.core) running node → step_of (process.program_of running.core) node ≡ Some step)
    → process.Whichever running.core (λ w. proc_step (process.program_of running.core) w step ≡ None) → ⊥
not_forbidden running listening step own none =
    let node = listening.node in
    let stands = listening.stands.stands in
    let waits = waits_so (process.program_of running.core) running node listening.stands listening.waits in
    false≢true (sym (ap is_some (none node.process stands)) ∙ own_allowed running.core node stands waits step (own node listening.stands))

-- a datagram that is held or dropped, and an idle turn
module _ (program : Program) (running : Running) (node : Node) (stood : StandsAs program running node) (told : Option (List LinkEntry)) (taken : Option (List ℕ)) where
  pub drop_acted : (bytes : List ℕ) → NoMessage program bytes → HasActed program node (Datagram bytes) (record { core = running.core; stopped = running.stopped; held = running.held; idle = 0 }) told told taken taken
  drop_acted bytes none = record {
    actions = [];
    then' = after_datagram node node.held;
    hears = drops bytes none;
    stands = record { stands = stood.stands; same = stood.same; stopped = stood.stopped; held = stood.held; arrive = stood.arrive; idle = refl };
    gave = gains_nothing told;
    written = appends_none taken;
  }

  pub hold_acted : (bytes : List ℕ) (packet : Packet) (held : List Packet) → IsMessage program bytes (held_of packet) → held_in held ≡ held_with program.kind (held_in running.held) (held_of packet) → MayAllArrive program held
      → HasActed program node (Datagram bytes) (record { core = running.core; stopped = running.stopped; held = held; idle = 0 }) told told taken taken
  hold_acted bytes packet held is same all = record {
    actions = [];
    then' = after_datagram node (held_with program.kind node.held (held_of packet));
    hears = comes_in bytes (held_of packet) is;
    stands = record {
      stands = stood.stands;
      same = stood.same;
      stopped = stood.stopped;
      held = same ∙ ap (λ l. held_with program.kind l (held_of packet)) stood.held;
      arrive = all;
      idle = refl;
    };
    gave = gains_nothing told;
    written = appends_none taken;
  }

  pub idle_acted : (idle : ℕ) → idle ≡ running.idle + 1 → step_of program node ≡ None
      → HasActed program node Nothing (record { core = running.core; stopped = running.stopped; held = running.held; idle = idle }) told told taken taken
  idle_acted idle more none = record {
    actions = [];
    then' = after_idle_turn node;
    hears = idles none;
    stands = record { stands = stood.stands; same = stood.same; stopped = stood.stopped; held = stood.held; arrive = stood.arrive; idle = more ∙ ap (λ n. n + 1) stood.idle };
    gave = gains_nothing told;
    written = appends_none taken;
  }

-- a packet that is a message, which was held with this result
module _ (program : Program) (running : Running) (bytes : List ℕ) (packet : Packet) (kind : ChannelKind) (same : kind ≡ program.kind) (passes : Bool) (is : IsPacket packet.sender packet.clock (val_of packet.value) bytes)
    (exactly : (passes ≡ true) ↔ (IsProcess program packet.sender × (well_typed program (val_of packet.value) ≡ true))) (passed : passes ≡ true) (held : List Packet) where
  message_is : IsMessage program bytes (held_of packet)
  message_is = this_packet program bytes packet.sender packet.clock (val_of packet.value) is (exactly.0 passed)

  message_arrives : MayArrive program packet.value packet.sender packet.clock
  message_arrives = record { proper = is.proper; typed = message_is.typed; peer = message_is.from }

  pub held_acted : {T E : Type 0} (result : Result T E) → OnOk result (held_in held ≡ held_with kind (held_in running.held) (held_of packet))
      → OnOk result ((p : Program) → MayAllArrive p running.held → MayArrive p packet.value packet.sender packet.clock → MayAllArrive p held)
      → OnOk result ((told : Option (List LinkEntry)) (taken : Option (List ℕ)) (node : Node) → StandsAs program running node
      → HasActed program node (Datagram bytes) (record { core = running.core; stopped = running.stopped; held = held; idle = 0 }) told told taken taken)
  held_acted result holds all = both_ok result holds all (λ holds all told taken node stood.
      hold_acted program running node stood told taken bytes packet held message_is (holds ∙ ap (λ k. held_with k (held_in running.held) (held_of packet)) same)
      (all program stood.arrive message_arrives))

-- whatever the error
pub any_err : {T E P : Type 0} (r : Result T E) → P → OnErr r P
any_err (Ok x) p = tt
any_err (Err y) p = p

-- where memory is refused before anything is given
module _ (program : Program) (running : Running) (node : Node) (stood : StandsAs program running node) (told : Option (List LinkEntry)) (taken : Option (List ℕ)) where
  pub refused : running.stopped ≡ stopped.AtYield → (answer : LinkAnswer) → WasCutActing Memory program node answer told told taken taken
  refused waits answer =
      let some = hears_some running.core node stood.stands (waits_so program running node stood waits) answer in
      record { actions = some.actions; then' = some.then'; hears = subst (λ p. Hears p node answer some.actions some.then') stood.same some.hears; cut = nothing_given some.actions told taken }

-- A NODE THAT BEGINS

module _ (program : Program) (me : ℕ) (core : Core) (stands : process.StandsFor core (opening program me)) (same : process.program_of core ≡ program)
    (next : Core) (answer : Stopped) (old out actions : List Action) (none : old ≡ []) (shown : actions ≡ out) (made : HasMade core (opening program me) (move_step 0) next answer old out) where
  first_actions : actions ≡ made.after.actions
  first_actions = shown ∙ made.added ∙ ap (λ l. l ++ made.after.actions) none

  -- what it sends at first may be given
  pub first_given : (count : ℕ) → count ≡ length program.procs → MayGiveAll count actions
  first_given count bound =
      let all : length (process.program_of core).procs ≡ count = ap (λ (p : Program). length p.procs) same ∙ sym bound in
      subst₂ MayGiveAll all (sym first_actions) (gifts_allowed core (opening program me) stands (move_step 0) made.after tt made.leads)

  -- it was cut short
  pub first_cut : (how : NodeOutcome) (told_before told_after : Option (List LinkEntry)) (before after : Option (List ℕ)) → IsCutShort how actions told_before told_after before after
      → WasCutBeginning how program me told_before told_after before after
  first_cut how told_before told_after before after cut = record {
    started = made.after;
    start = subst (λ p. proc_step p (opening program me) (move_step 0) ≡ Some made.after) same made.leads;
    cut = subst (λ l. IsCutShort how l told_before told_after before after) first_actions cut;
  }

-- where memory is refused before anything is given
pub refused_beginning : (program : Program) (me : ℕ) → IsAccepted program → IsProcess program me → (told : Option (List LinkEntry)) (taken : Option (List ℕ)) → WasCutBeginning Memory program me told told taken taken
refused_beginning program me accepted there told taken =
    let started = start_allowed program me accepted there in
    record { started = started.0; start = started.1; cut = nothing_given started.0.actions told taken }

-- what a call leaves of a node of the program of its core, it leaves of one of this program
pub cut_so : (program : Program) (running : Running) (node : Node) (fault : NodeOutcome) (answer : LinkAnswer) (told_before told_after : Option (List LinkEntry)) (before after : Option (List ℕ)) → StandsAs program running node
    → ((other : Node) → StandsAs (process.program_of running.core) running other → WasCutActing fault (process.program_of running.core) other answer told_before told_after before after)
    → WasCutActing fault program node answer told_before told_after before after
cut_so program running node fault answer told_before told_after before after stood cut =
    subst (λ p. WasCutActing fault p node answer told_before told_after before after) stood.same (cut node (subst (λ p. StandsAs p running node) (sym stood.same) stood))

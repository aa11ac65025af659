-- What a process of an accepted program sends has a packet, so a node gives nothing but packets.
use Rattle.std.specs.Prelude.{◌≡◌, refl, ℕ, ◌^◌, ◌<◌, ◌&&◌, nat_le, Bool, true, false, if◌then◌else◌, List, [], ◌∷◌, ◌++◌, length, take, Option, Some}
use Rattle.std.specs.List.{All}
use Rattle.std.proofs.Common.{◌∙◌, ap, sym, subst, arith}
use Rattle.std.proofs.lemmas.Bool.{and_parts}
use Rattle.std.proofs.lemmas.Option.{none-some, same_Some}
use Rattle.std.proofs.lemmas.List.Elements.{All-nil, All-cons, All-append, All-head, All-tail, All-take}
use Rattle.std.proofs.Math.Seq.{take-append_seam}
use Rattle.da_values.specs.declared.val.Val.{Val}
use Rattle.da_values.specs.Narrow.{is_narrow}
use Rattle.da_values.specs.Value.{val_of}
use Rattle.da_lang.specs.declared.event.Action.{Action}
use Rattle.da_lang.specs.declared.event.Action.TheVariants.{Sent}
use Rattle.da_lang.specs.declared.program.Program.{Program}
use Rattle.da_lang.specs.Accepted.{IsAccepted}
use Rattle.da_lang.specs.Shaped.{IsEntry, IsProcess, Shaped, has_processes, is_declared}
use Rattle.da_lang.specs.Steps.{Go, Step, Stepped, proc_step}
use Rattle.da_lang.specs.Turns.{max_packet}
use Rattle.da_lang.specs.World.{World, opening}
use Rattle.da_outside.specs.declared.link.LinkAnswer.{LinkAnswer}
use Rattle.da_outside.specs.declared.link.LinkEntry.{LinkEntry}
use Rattle.da_outside.specs.declared.link.LinkEntry.TheVariants.{Answered, Gave}
use Rattle.da_types.specs.KeepsShaped.{IsSending, MayStep, MayTell, StepsShaped}
use Rattle.da_types.proofs.sound.AcceptedLaws.{is_sound}
use Rattle.da_types.proofs.sound.AcceptedShaped.{keeps_shaped}
use Rattle.msg_codec.specs.Packets.{IsPacket, packet_bytes}
use Rattle.msg_codec.proofs.SizeLaws.{packet_size}
use Rattle.node_run.specs.HeldPackets.{Held, arrival_of, find_held, goes_first, held_with, is_unreliable, may_come, most_held}
use Rattle.node_run.specs.NodeCall.{GivesPackets, HasRun, IsPacketOf, WasCut}
use Rattle.node_run.specs.NodeRun.{Hears, comes_in, drops, steps, idles, GoesOn, stays, delivers, hears, Node, NodeEnd, NodeRun, Round, gift_of, gifts, talk_of}
use Rattle.node_run.proofs.FewParts.{few_parts}
use Rattle.node_run.proofs.MoveLaws.{step_may}

module _ (p : Program) (accepted : IsAccepted p) where
  -- A MESSAGE THAT IS SENT

  pub sent_packet : (me sender receiver time : ℕ) (m : Val) → sender < 2 ^ 16 → IsSending p me sender receiver time m → IsPacket sender time m (packet_bytes sender time m)
  unfolding max_packet
  sent_packet me sender receiver time m fits sending =
      let first = and_parts (is_declared p.messages m && is_narrow m) (has_processes (length p.procs) m) sending.typed in
      record {
        sender_fits = fits;
        clock_fits = sending.in_time;
        proper = sending.proper;
        narrow = (and_parts (is_declared p.messages m) (is_narrow m) first.0).1;
        few_parts = few_parts p accepted m sending.typed;
        nested = sending.nested;
        small = omega (arith, packet_size sender time m, sending.small);
        is = refl;
      }

  -- A STEP, of process me

  module _ (me : ℕ) (there : IsProcess p me) where
    abbrev Packets : List LinkEntry → Type 0
    Packets talk = All (IsPacketOf me) talk

    fits : me < 2 ^ 16
    fits = omega (arith, there.1, (is_sound p accepted).few)

    gift_packet : (a : Action) → MayTell p me a → Packets (gift_of a)
    gift_packet (Sent sender receiver time m) may =
        let of_me = subst (λ x. IsPacket x time (val_of m) (packet_bytes sender time (val_of m))) may.from_me
        (sent_packet me sender receiver time (val_of m) (omega (arith, fits, may.from_me)) may) in
        All-cons (IsPacketOf me) (Gave receiver (packet_bytes sender time (val_of m))) [] (time, val_of m, of_me) (All-nil (IsPacketOf me))
    gift_packet _ may = All-nil (IsPacketOf me)

    gifts_packets : (actions : List Action) → All (MayTell p me) actions → Packets (gifts actions)
    gifts_packets [] tells = All-nil (IsPacketOf me)
    gifts_packets (a ∷ others) tells =
        All-append (IsPacketOf me) (gift_of a) (gifts others) (gift_packet a (All-head (MayTell p me) a others tells)) (gifts_packets others (All-tail (MayTell p me) a others tells))

    -- a world of this process
    abbrev IsOwn : World → Type 0
    IsOwn w = Shaped p w × (w.data'.me ≡ me)

    step_own : (w : World) (step : Step) (after : Stepped) → IsOwn w → MayStep p step → proc_step p w step ≡ Some after → IsOwn after.world × Packets (gifts after.actions)
    step_own w step after own may leads =
        let stepped : StepsShaped p w.data'.me after = (keeps_shaped p accepted).steps w step after own.0 may leads in
        ((stepped.shaped, stepped.same ∙ own.1), gifts_packets after.actions (subst (λ x. All (MayTell p x) after.actions) own.1 stepped.tells))

    -- A ROUND

    -- it holds nothing but messages that may arrive
    abbrev IsEntered : Held → Type 0
    IsEntered x = IsEntry p (record { message = x.message; peer = x.sender; time = x.time })

    abbrev IsOwnNode : Node → Type 0
    IsOwnNode node = IsOwn node.process × All IsEntered node.held

    held_own : (held : List Held) (x : Held) → All IsEntered held → IsEntered x → All IsEntered (held_with p.kind held x)
    held_own held x all is = by_test (is_unreliable p.kind && nat_le most_held (length held))
      where
        by_test : (b : Bool) → All IsEntered (if b then held else held ++ x ∷ [])
        by_test true = all
        by_test false = All-append IsEntered held (x ∷ []) all (All-cons IsEntered x [] is (All-nil IsEntered))

    heard_own : {node then' : Node} {answer : LinkAnswer} {actions : List Action} → Hears p node answer actions then' → IsOwnNode node → IsOwnNode then' × Packets (gifts actions)
    heard_own {node} (comes_in bytes x is) own =
        ((own.0, held_own node.held x own.1 (record { proper = is.packet.proper; typed = is.typed; peer = is.from })), All-nil (IsPacketOf me))
    heard_own (drops bytes nothing) own = (own, All-nil (IsPacketOf me))
    heard_own {node} (steps step after is leads) own =
        let (owns, given) = step_own node.process step after own.0 (step_may p node step is) leads in
        ((owns, own.1), given)
    heard_own (idles nothing) own = (own, All-nil (IsPacketOf me))

    -- a packet is delivered of those that are held
    found_own_by : (process : World) (before later : List Held) (y x : Held) (held : List Held) (b : Bool)
        → (if b then Some (y, before ++ later) else find_held p process (before ++ y ∷ []) later) ≡ Some (x, held) → All IsEntered before → All IsEntered (y ∷ later)
        → (find_held p process (before ++ y ∷ []) later ≡ Some (x, held) → IsEntered x × All IsEntered held) → IsEntered x × All IsEntered held
    found_own_by process before later y x held true found all others more =
        let same : (y, before ++ later) ≡ (x, held) = same_Some (y, before ++ later) (x, held) found in (
          subst IsEntered (ap (λ p. p.0) same) (All-head IsEntered y later others),
          subst (λ l. All IsEntered l) (ap (λ p. p.1) same) (All-append IsEntered before later all (All-tail IsEntered y later others)),
        )
    found_own_by process before later y x held false found all others more = more found

    found_own : (process : World) (before later : List Held) (x : Held) (held : List Held) → find_held p process before later ≡ Some (x, held) → All IsEntered before → All IsEntered later
        → IsEntered x × All IsEntered held
    found_own process before [] x held found all others = absurd (none-some (x, held) found)
    found_own process before (y ∷ later) x held found all others =
        found_own_by process before later y x held (goes_first p.kind before y && may_come p process y) found all others
        (λ found. found_own process (before ++ y ∷ []) later x held found
        (All-append IsEntered before (y ∷ []) all (All-cons IsEntered y [] (All-head IsEntered y later others) (All-nil IsEntered))) (All-tail IsEntered y later others))

    all_packets : {idle turns : ℕ} {node last : Node} {answers : List LinkAnswer} {rounds : List Round} → GoesOn p idle turns node answers rounds last → IsOwnNode node → Packets (talk_of rounds)
    all_packets (stays node) own = All-nil (IsPacketOf me)
    all_packets (delivers node last x held after answers rounds found leads goes) own =
        let (entered, left) = found_own node.process [] node.held x held found (All-nil IsEntered) own.1 in
        let (owns, given) = step_own node.process (arrival_of x) after own.0 entered leads in
        All-append (IsPacketOf me) (gifts after.actions) (talk_of rounds) given (all_packets goes (owns, left))
    all_packets (hears node then' last answer answers actions rounds none asks heard goes) own =
        let (later, given) = heard_own heard own in
        All-append (IsPacketOf me) (Answered answer ∷ gifts actions) (talk_of rounds) (All-cons (IsPacketOf me) (Answered answer) (gifts actions) tt given) (all_packets goes later)

    -- A RUN

    run_packets : {idle turns : ℕ} {answers : List LinkAnswer} {rounds : List Round} {end : NodeEnd} → NodeRun p me idle turns answers rounds end → Packets (talk_of rounds)
    run_packets run =
        let placed = (is_sound p accepted).placed me there in
        let opened : IsOwn (opening p me) = ((keeps_shaped p accepted).opens me placed.0 there placed.1, refl) in
        let (begun, given) = step_own (opening p me) Go run.started opened tt run.start in
        subst (λ l. Packets (talk_of l)) (sym run.rounds_are) (All-append (IsPacketOf me) (gifts run.started.actions) (talk_of run.later) given (all_packets run.goes (begun, All-nil IsEntered)))

    module _ {idle turns : ℕ} {told_before told_after : Option (List LinkEntry)} {before after : Option (List ℕ)} where
      pub ran_packets : {end : NodeEnd} → HasRun p me idle turns end told_before told_after before after → GivesPackets me told_before told_after
      ran_packets ran = record { talk = ran.talk; told = ran.told; packets = subst Packets (sym ran.whole) (run_packets ran.run) }

      pub cut_packets : {Wrote : ℕ → Option (List ℕ) → Option (List ℕ) → List Round → Type 0} → WasCut p me idle turns told_before told_after before after Wrote → GivesPackets me told_before told_after
      cut_packets cut = record { talk = cut.talk; told = cut.told; packets = front }
        where
          front : Packets cut.talk
          front = subst Packets (ap (λ l. take (length cut.talk) l) cut.front ∙ take-append_seam cut.talk cut.untold) (All-take (IsPacketOf me) (length cut.talk) (talk_of cut.rounds) (run_packets cut.run))

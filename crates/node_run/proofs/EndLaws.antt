-- The end of a node that runs, and its run answer by answer.
use Rattle.std.proofs.Common.{◌≡◌, refl, sym, ◌∙◌, ap, subst, subst₂, ℕ, ◌+◌, ◌^◌, ◌≤◌, ◌<◌, List, [], ◌∷◌, length, Bool, true, false, arith}
use Rattle.std.proofs.lemmas.List.{length-map}
use Rattle.std.specs.Prelude.{Option, Some, None, nat_le, if◌then◌else◌}
use Rattle.std.proofs.lemmas.Bool.{le-leb, leb-false, lt-leb}
use Rattle.da_lang.specs.declared.program.Program.{Program}
use Rattle.da_lang.specs.Steps.{Stepped}
use Rattle.da_core.specs.declared.place.Stopped.{Stopped}
use Rattle.da_core.specs.declared.place.Stopped.TheVariants as stopped
use Rattle.da_core.specs.Made.{phase_of}
use Rattle.da_outside.specs.declared.link.LinkEntry.{LinkEntry}
use Rattle.da_outside.specs.declared.link.LinkEntry.TheVariants.{Answered}
use Rattle.da_outside.specs.Link.{Gains}
use Rattle.node_run.specs.declared.hearing.Running.{Running}
use Rattle.node_run.specs.declared.outcome.NodeOutcome.{NodeOutcome}
use Rattle.node_run.specs.declared.outcome.NodeOutcome.TheVariants as outcome
use Rattle.node_run.specs.Hearing.{Delivers, DeliversNone, HasBegun, HasDelivered, HasHeard, IsListening, StandsAs, WasCutBeginning, WasCutDelivering, WasCutHearing, unanswered, behind, end_at, held_of}
use Rattle.node_run.specs.HeldPackets.{Held}
use Rattle.node_run.specs.NodeCall.{HasEnded, HasRun, answers_in, end_for}
use Rattle.node_run.specs.NodeRun.{Node, NodeEnd, Idle, Spent, AsksAgain, GoesOn, stays, delivers, hears, after_delivery, answer_round, end_in, end_of, event_round, gifts, next_held}
use Rattle.node_run.proofs.HeldLaws.{found_one}
use Rattle.node_run.proofs.RunLaws.{CameTo, IsCut, came_ends, came_first, came_on, cut_first, cut_on, cut_unanswered, few_taken, one_held, one_taken}
use Rattle.node_run.proofs.TalkLaws.{gains_then, no_answer, no_answer_given}

-- THE END

-- the end of a node that waits
abbrev waiting_end : ℕ → ℕ → Node → NodeEnd
waiting_end most turns node = if nat_le most node.idle then Idle else if nat_le turns node.taken then Spent else AsksAgain

module _ (most turns : ℕ) (node : Node) where
  end_by : (stop : Stopped) → phase_of stop ≡ node.process.phase → end_of most turns node ≡ end_in most turns node (phase_of stop)
  end_by stop phase = ap (end_in most turns node) (sym phase)

  -- a node that has not ended waits
  pub waits_on : (stop : Stopped) (idle : ℕ) → end_at stop idle most ≡ None → stop ≡ stopped.AtYield
  waits_on stopped.Ended idle none = absurd (let clash : Some outcome.Done ≡ None = none in cc)
  waits_on stopped.Faulted idle none = absurd (let clash : Some outcome.Faulted ≡ None = none in cc)
  waits_on stopped.AtYield idle none = refl

  pub few_idle : (stop : Stopped) (idle : ℕ) → end_at stop idle most ≡ None → idle < most
  few_idle stopped.Ended idle none = absurd (let clash : Some outcome.Done ≡ None = none in cc)
  few_idle stopped.Faulted idle none = absurd (let clash : Some outcome.Faulted ≡ None = none in cc)
  few_idle stopped.AtYield idle none = by_test (nat_le most idle) refl none
    where
      by_test : (b : Bool) → nat_le most idle ≡ b → (if b then Some outcome.Idle else None) ≡ None → idle < most
      by_test true is none = absurd (let clash : Some outcome.Idle ≡ None = none in cc)
      by_test false is none = leb-false most idle is

  -- the end that has come
  pub end_found : (stop : Stopped) (idle : ℕ) (end : NodeOutcome) → phase_of stop ≡ node.process.phase → idle ≡ node.idle → end_at stop idle most ≡ Some end → end_for end ≡ end_of most turns node
  end_found stopped.Ended idle end phase same is = ap end_for (let e : end ≡ outcome.Done = cc in e) ∙ sym (end_by stopped.Ended phase)
  end_found stopped.Faulted idle end phase same is = ap end_for (let e : end ≡ outcome.Faulted = cc in e) ∙ sym (end_by stopped.Faulted phase)
  end_found stopped.AtYield idle end phase same is = by_test (nat_le most idle) refl is ∙ sym (end_by stopped.AtYield phase)
    where
      by_test : (b : Bool) → nat_le most idle ≡ b → (if b then Some outcome.Idle else None) ≡ Some end → end_for end ≡ waiting_end most turns node
      by_test true test is =
          let here : nat_le most node.idle ≡ true = ap (λ n. nat_le most n) (sym same) ∙ test in
          ap end_for (let e : end ≡ outcome.Idle = cc in e) ∙ sym (ap (λ b. if b then Idle else if nat_le turns node.taken then Spent else AsksAgain) here)
      by_test false test is = absurd (let clash : None ≡ Some end = is in cc)

  found_ended : (stop : Stopped) (idle : ℕ) (end : NodeOutcome) → end_at stop idle most ≡ Some end → HasEnded end
  found_ended stopped.Ended idle end is = subst HasEnded (let e : outcome.Done ≡ end = cc in e) tt
  found_ended stopped.Faulted idle end is = subst HasEnded (let e : outcome.Faulted ≡ end = cc in e) tt
  found_ended stopped.AtYield idle end is = by_test (nat_le most idle) is
    where
      by_test : (b : Bool) → (if b then Some outcome.Idle else None) ≡ Some end → HasEnded end
      by_test true is = subst HasEnded (let e : outcome.Idle ≡ end = cc in e) tt
      by_test false is = absurd (let clash : None ≡ Some end = is in cc)

  -- where none has come: by how many answers were taken
  no_end : (stop : Stopped) (idle : ℕ) → phase_of stop ≡ node.process.phase → idle ≡ node.idle → end_at stop idle most ≡ None → end_of most turns node ≡ (if nat_le turns node.taken then Spent else AsksAgain)
  no_end stop idle phase same none =
      let few = few_idle stop idle none in
      let here : nat_le most node.idle ≡ false = ap (λ n. nat_le most n) (sym same) ∙ lt-leb most idle few in
      let waits : end_of most turns node ≡ waiting_end most turns node = end_by stop phase ∙ ap (λ s. end_in most turns node (phase_of s)) (waits_on stop idle none) in
      waits ∙ ap (λ b. if b then Idle else if nat_le turns node.taken then Spent else AsksAgain) here

  pub asks_again : (stop : Stopped) (idle : ℕ) → phase_of stop ≡ node.process.phase → idle ≡ node.idle → end_at stop idle most ≡ None → node.taken < turns → end_of most turns node ≡ AsksAgain
  asks_again stop idle phase same none few = no_end stop idle phase same none ∙ ap (λ b. if b then Spent else AsksAgain) (lt-leb turns node.taken few)

  pub all_spent : (stop : Stopped) (idle : ℕ) → phase_of stop ≡ node.process.phase → idle ≡ node.idle → end_at stop idle most ≡ None → turns ≤ node.taken → end_of most turns node ≡ Spent
  all_spent stop idle phase same none many = no_end stop idle phase same none ∙ ap (λ b. if b then Spent else AsksAgain) (le-leb turns node.taken many)

-- THE RUN SO FAR, IN CODE

-- A running node stands for the one to which its run has come, by which so many answers were taken.
pub record IsRunning (program : Program) (me most turns taken : ℕ) (told_before told_now : Option (List LinkEntry)) (before now : Option (List ℕ)) (running : Running) : Type 0 where
  pub node : Node
  pub stands : StandsAs program running node
  pub came : CameTo program me most turns told_before told_now before now node
  pub many : node.taken ≡ taken

-- as many packets are held by the rules
held_size : {program : Program} {running : Running} {node : Node} → StandsAs program running node → length running.held ≡ length node.held
held_size {running = running} stands = sym (length-map running.held held_of) ∙ ap length stands.held

-- the same, where no held packet may be delivered
pub record IsResting (program : Program) (me most turns taken : ℕ) (told_before told_now : Option (List LinkEntry)) (before now : Option (List ℕ)) (running : Running) : Type 0 where
  pub node : Node
  pub stands : StandsAs program running node
  pub came : CameTo program me most turns told_before told_now before now node
  pub many : node.taken ≡ taken
  pub rests : next_held program node ≡ None

module _ {program : Program} {me most turns : ℕ} {told_before told_now : Option (List LinkEntry)} {before now : Option (List ℕ)} where
  pub runs_first : {running : Running} → HasBegun program me running told_before told_now before now → IsRunning program me most turns 0 told_before told_now before now running
  runs_first begun = record {
    node = _;
    stands = begun.stands;
    came = came_first _ _ _ _ _ _ _ _ _ begun.start begun.gave begun.written;
    many = refl;
  }

  pub cut_at_first : {how : NodeOutcome} → WasCutBeginning how program me told_before told_now before now → IsCut how program me most turns told_before told_now before now
  cut_at_first {how} cut = cut_first _ _ _ _ _ _ _ _ _ cut.start how cut.cut

  module _ {taken : ℕ} {running : Running} (runs : IsRunning program me most turns taken told_before told_now before now running) where
    -- A DELIVERY

    delivery_goes : {node : Node} {held : List Held} {step : Stepped} → Delivers program node held step → GoesOn program most turns node [] (event_round step.actions ∷ []) (after_delivery node held step.world)
    delivery_goes next = delivers _ _ next.packet _ _ [] [] next.found next.leads (stays _)

    pub runs_delivered : {next : Running} {told_after : Option (List LinkEntry)} {after : Option (List ℕ)}
        → ((node : Node) → StandsAs program running node → HasDelivered program node next told_now told_after now after)
        → IsRunning program me most turns taken told_before told_after before after next × (length running.held ≡ length next.held + 1)
    runs_delivered {next} {told_after} {after} delivered =
        let has = delivered runs.node runs.stands in
        let on = came_on _ _ _ _ _ _ _ _ _ runs.came [] (event_round has.step.actions) _ (delivery_goes has.delivers) told_after after (no_answer has.step.actions) has.gave has.written in
        let found = found_one program runs.node.process [] runs.node.held has.delivers.packet has.held has.delivers.found in
        (record { node = _; stands = has.stands; came = on; many = runs.many }, omega (arith, found.size, held_size runs.stands, held_size has.stands))

    pub cut_delivering : {how : NodeOutcome} {told_after : Option (List LinkEntry)} {after : Option (List ℕ)}
        → ((node : Node) → StandsAs program running node → WasCutDelivering how program node told_now told_after now after) → IsCut how program me most turns told_before told_after before after
    cut_delivering {how} {told_after} {after} cut =
        let has = cut runs.node runs.stands in
        let short = has.cut in
        cut_on _ _ _ _ _ _ _ _ _ runs.came [] (event_round has.step.actions) _ (delivery_goes has.delivers) told_after after how short.gained.given short.gained.left short.gained.whole
        (no_answer_given has.step.actions short.gained.given short.gained.left short.gained.whole) short.gained.told short.left short.written

    -- where none is delivered
    pub runs_still : {next : Running} {told_after : Option (List LinkEntry)} {after : Option (List ℕ)}
        → ((node : Node) → StandsAs program running node → DeliversNone program node running next told_now told_after now after)
        → IsResting program me most turns taken told_before told_after before after next
    runs_still {next} {told_after} {after} delivered =
        let has = delivered runs.node runs.stands in
        record {
          node = runs.node;
          stands = subst (λ r. StandsAs program r runs.node) (sym has.same) runs.stands;
          came = subst₂ (λ told taken. CameTo program me most turns told_before told before taken runs.node) (sym has.untold) (sym has.unwritten) runs.came;
          many = runs.many;
          rests = has.none;
        }

    pub kept_held : {next : Running} {told_after : Option (List LinkEntry)} {after : Option (List ℕ)}
        → ((node : Node) → StandsAs program running node → DeliversNone program node running next told_now told_after now after) → length next.held ≡ length running.held
    kept_held delivered = ap (λ (r : Running). length r.held) (delivered runs.node runs.stands).same

    pub taken_within : taken ≤ turns
    taken_within = omega (arith, runs.many, few_taken _ _ _ _ _ _ _ _ _ runs.came)

  module _ {taken : ℕ} {running : Running} (rests : IsResting program me most turns taken told_before told_now before now running) where
    pub listens : most < 2 ^ 64 → end_at running.stopped running.idle most ≡ None → IsListening program running
    listens small none = record {
      node = rests.node;
      stands = rests.stands;
      waits = waits_on most turns rests.node running.stopped running.idle none;
      few = let few = few_idle most turns rests.node running.stopped running.idle none in omega (arith, few, small);
    }

    asks : end_at running.stopped running.idle most ≡ None → taken < turns → end_of most turns rests.node ≡ AsksAgain
    asks none few = asks_again most turns rests.node running.stopped running.idle rests.stands.stopped rests.stands.idle none (omega (arith, few, rests.many))

    -- AN ANSWER

    pub runs_on : {next : Running} {told_after : Option (List LinkEntry)} {after : Option (List ℕ)} → end_at running.stopped running.idle most ≡ None → taken < turns
        → ((node : Node) → StandsAs program running node → HasHeard program node next told_now told_after now after)
        → IsRunning program me most turns (taken + 1) told_before told_after before after next × (length next.held ≤ length running.held + 1)
    runs_on {next} {told_after} {after} none few heard =
        let has = heard rests.node rests.stands in
        let acted = has.acted in
        let round = answer_round has.answer acted.actions in
        let goes = hears _ _ _ has.answer [] acted.actions [] rests.rests (asks none few) acted.hears (stays _) in
        let silent : answers_in (Answered has.answer ∷ gifts acted.actions) ≡ has.answer ∷ [] = ap (λ l. has.answer ∷ l) (no_answer acted.actions) in
        let gave : Gains told_now told_after (Answered has.answer ∷ gifts acted.actions) = gains_then _ _ _ (Answered has.answer ∷ []) (gifts acted.actions) has.answered acted.gave in
        let on = came_on _ _ _ _ _ _ _ _ _ rests.came (has.answer ∷ []) round _ goes told_after after silent gave acted.written in (
          record { node = acted.then'; stands = acted.stands; came = on; many = one_taken acted.hears ∙ ap (λ n. n + 1) rests.many },
          omega (arith, one_held acted.hears, held_size rests.stands, held_size acted.stands),
        )

    pub cut_here : {how : NodeOutcome} {told_after : Option (List LinkEntry)} {after : Option (List ℕ)} → end_at running.stopped running.idle most ≡ None → taken < turns
        → ((node : Node) → StandsAs program running node → WasCutHearing how program node told_now told_after now after) → IsCut how program me most turns told_before told_after before after
    cut_here {how} {told_after} {after} none few cut = by_cut (cut rests.node rests.stands)
      where
        by_cut : WasCutHearing how program rests.node told_now told_after now after → IsCut how program me most turns told_before told_after before after
        by_cut (unanswered told written) = cut_unanswered _ _ _ _ _ _ _ _ _ rests.came rests.rests how told_after after told written
        by_cut (behind answer told_between answered acting) =
            let short = acting.cut in
            let goes = hears _ _ _ answer [] acting.actions [] rests.rests (asks none few) acting.hears (stays _) in
            let silent : answers_in (Answered answer ∷ short.gained.given) ≡ answer ∷ [] =
            ap (λ l. answer ∷ l) (no_answer_given acting.actions short.gained.given short.gained.left short.gained.whole) in
            cut_on _ _ _ _ _ _ _ _ _ rests.came (answer ∷ []) (answer_round answer acting.actions) _ goes told_after after how (Answered answer ∷ short.gained.given) short.gained.left
            (ap (λ l. Answered answer ∷ l) short.gained.whole) silent
            (gains_then _ _ _ (Answered answer ∷ []) short.gained.given answered short.gained.told) short.left short.written

    -- THE END

    pub ends_here : (end : NodeOutcome) → end_at running.stopped running.idle most ≡ Some end → HasRun program me most turns (end_for end) told_before told_now before now
    ends_here end is =
        came_ends _ _ _ _ _ _ _ _ _ rests.came rests.rests (end_for end) (end_found most turns rests.node running.stopped running.idle end rests.stands.stopped rests.stands.idle is)

    pub ended_here : (end : NodeOutcome) → end_at running.stopped running.idle most ≡ Some end → HasEnded end
    ended_here end is = found_ended most turns rests.node running.stopped running.idle end is

    pub ends_spent : end_at running.stopped running.idle most ≡ None → turns ≤ taken → HasRun program me most turns (end_for outcome.Spent) told_before told_now before now
    ends_spent none all =
        came_ends _ _ _ _ _ _ _ _ _ rests.came rests.rests Spent
        (sym (all_spent most turns rests.node running.stopped running.idle rests.stands.stopped rests.stands.idle none (omega (arith, all, rests.many))))

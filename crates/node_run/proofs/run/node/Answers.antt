use Rattle.std.proofs.Common.{◌∙◌, ◌<◌, rules, subst, sym, arith}
use Rattle.node_run.specs.NodeCall.{HasEnded}
use Rattle.node_run.proofs.EndLaws.{cut_at_first, cut_delivering, cut_here, ends_here, ends_spent, ended_here, kept_held, listens, runs_delivered, runs_first, runs_on, runs_still, taken_within}
use Rattle.node_run.proofs.PacketLaws.{cut_packets, ran_packets}
use Rattle.node_run.proofs.RunLaws.{cut_by_link, cut_by_memory, cut_by_write, cut_not_ended}
use Rattle.node_run.proofs.TalkLaws.{carries_then}
use Rattle.node_run.proofs.run.node.Goals as goal

-- THE START WAS CUT SHORT

pub returns-in-Err-clause-ran : goal.returns-in-Err-clause-ran
returns-in-Err-clause-ran g c = λ ended. absurd (cut_not_ended {idle = c.args.idle} {turns = c.args.turns} _ (cut_at_first c.in-Err.ensures.cut) ended)

pub returns-in-Err-clause-write : goal.returns-in-Err-clause-write
returns-in-Err-clause-write g c = cut_by_write _ (cut_at_first c.in-Err.ensures.cut)

pub returns-in-Err-clause-link : goal.returns-in-Err-clause-link
returns-in-Err-clause-link g c = cut_by_link _ (cut_at_first c.in-Err.ensures.cut)

pub returns-in-Err-clause-memory : goal.returns-in-Err-clause-memory
returns-in-Err-clause-memory g c = cut_by_memory _ (cut_at_first c.in-Err.ensures.cut)

pub returns-in-Err-clause-packets : goal.returns-in-Err-clause-packets
returns-in-Err-clause-packets g c = cut_packets _ c.requires.compiled.accepted _ c.requires.there {idle = c.args.idle} {turns = c.args.turns} (cut_at_first c.in-Err.ensures.cut)

-- A HELD PACKET IS DELIVERED

pub rounds-init : goal.rounds-init
rounds-init g c = record { running = runs_first c.in-Ok.ensures.begun; carries = search rules; count = search rules; link_faults = search rules; sink_faults = search rules }

pub rounds-smaller-in-Ok-true : goal.rounds-smaller-in-Ok-true
rounds-smaller-in-Ok-true g c = omega (arith, (runs_delivered c.rounds.invariant.running (rw c.in-Ok-true.field-0-test at c.in-Ok-true.ensures.delivered)).1)

pub rounds-preserved-in-Ok-true : goal.rounds-preserved-in-Ok-true
rounds-preserved-in-Ok-true g c = record {
  running = (runs_delivered c.rounds.invariant.running (rw c.in-Ok-true.field-0-test at c.in-Ok-true.ensures.delivered)).0;
  carries = carries_then _ _ _ c.rounds.invariant.carries c.deliver_next.ensures.carries;
  count = search rules;
  link_faults = search rules;
  sink_faults = search rules;
}

-- that was cut short

pub returns-in-Err-deliver_next-clause-ran : goal.returns-in-Err-deliver_next-clause-ran
returns-in-Err-deliver_next-clause-ran g c = λ ended. absurd (cut_not_ended _ (cut_delivering c.rounds.invariant.running c.in-Err-deliver_next.ensures.cut) ended)

pub returns-in-Err-deliver_next-clause-write : goal.returns-in-Err-deliver_next-clause-write
returns-in-Err-deliver_next-clause-write g c = cut_by_write _ (cut_delivering c.rounds.invariant.running c.in-Err-deliver_next.ensures.cut)

pub returns-in-Err-deliver_next-clause-link : goal.returns-in-Err-deliver_next-clause-link
returns-in-Err-deliver_next-clause-link g c = cut_by_link _ (cut_delivering c.rounds.invariant.running c.in-Err-deliver_next.ensures.cut)

pub returns-in-Err-deliver_next-clause-memory : goal.returns-in-Err-deliver_next-clause-memory
returns-in-Err-deliver_next-clause-memory g c = cut_by_memory _ (cut_delivering c.rounds.invariant.running c.in-Err-deliver_next.ensures.cut)

pub returns-in-Err-deliver_next-clause-packets : goal.returns-in-Err-deliver_next-clause-packets
returns-in-Err-deliver_next-clause-packets g c =
    cut_packets _ c.requires.compiled.accepted _ c.requires.there (cut_delivering c.rounds.invariant.running c.in-Err-deliver_next.ensures.cut)

pub returns-in-Err-deliver_next-clause-carries : goal.returns-in-Err-deliver_next-clause-carries
returns-in-Err-deliver_next-clause-carries g c = carries_then _ _ _ c.rounds.invariant.carries c.deliver_next.ensures.carries

-- THE RULES END IT

pub returns-in-Some-clause-ran : goal.returns-in-Some-clause-ran
returns-in-Some-clause-ran g c =
    let rests = runs_still c.rounds.invariant.running (rw c.in-Ok-false.field-0-test at c.in-Ok-false.ensures.delivered) in
    λ ended. ends_here rests c.in-Some.end (sym c.end_at.ensures ∙ c.in-Some.is)

pub returns-in-Some-clause-write : goal.returns-in-Some-clause-write
returns-in-Some-clause-write g c =
    let rests = runs_still c.rounds.invariant.running (rw c.in-Ok-false.field-0-test at c.in-Ok-false.ensures.delivered) in
    λ is. absurd (subst HasEnded is (ended_here rests c.in-Some.end (sym c.end_at.ensures ∙ c.in-Some.is)))

pub returns-in-Some-clause-link : goal.returns-in-Some-clause-link
returns-in-Some-clause-link g c =
    let rests = runs_still c.rounds.invariant.running (rw c.in-Ok-false.field-0-test at c.in-Ok-false.ensures.delivered) in
    λ is. absurd (subst HasEnded is (ended_here rests c.in-Some.end (sym c.end_at.ensures ∙ c.in-Some.is)))

pub returns-in-Some-clause-memory : goal.returns-in-Some-clause-memory
returns-in-Some-clause-memory g c =
    let rests = runs_still c.rounds.invariant.running (rw c.in-Ok-false.field-0-test at c.in-Ok-false.ensures.delivered) in
    λ is. absurd (subst HasEnded is (ended_here rests c.in-Some.end (sym c.end_at.ensures ∙ c.in-Some.is)))

pub returns-in-Some-clause-packets : goal.returns-in-Some-clause-packets
returns-in-Some-clause-packets g c =
    let rests = runs_still c.rounds.invariant.running (rw c.in-Ok-false.field-0-test at c.in-Ok-false.ensures.delivered) in
    ran_packets _ c.requires.compiled.accepted _ c.requires.there (ends_here rests c.in-Some.end (sym c.end_at.ensures ∙ c.in-Some.is))

pub returns-in-Some-clause-carries : goal.returns-in-Some-clause-carries
returns-in-Some-clause-carries g c = carries_then _ _ _ c.rounds.invariant.carries c.deliver_next.ensures.carries

-- ALL ANSWERS WERE TAKEN

pub returns-then-taken-turns-clause-ran : goal.returns-then-taken-turns-clause-ran
returns-then-taken-turns-clause-ran g c =
    let rests = runs_still c.rounds.invariant.running (rw c.in-Ok-false.field-0-test at c.in-Ok-false.ensures.delivered) in
    λ ended. ends_spent rests (sym c.end_at.ensures ∙ c.in_default.is) (omega (arith, c.if-taken-turns.true))

pub returns-then-taken-turns-clause-packets : goal.returns-then-taken-turns-clause-packets
returns-then-taken-turns-clause-packets g c =
    let rests = runs_still c.rounds.invariant.running (rw c.in-Ok-false.field-0-test at c.in-Ok-false.ensures.delivered) in
    ran_packets _ c.requires.compiled.accepted _ c.requires.there (ends_spent rests (sym c.end_at.ensures ∙ c.in_default.is) (omega (arith, c.if-taken-turns.true)))

pub returns-then-taken-turns-clause-carries : goal.returns-then-taken-turns-clause-carries
returns-then-taken-turns-clause-carries g c = carries_then _ _ _ c.rounds.invariant.carries c.deliver_next.ensures.carries

-- AN ANSWER

pub hear-requires-clause-listening : goal.hear-requires-clause-listening
hear-requires-clause-listening g c =
    let rests = runs_still c.rounds.invariant.running (rw c.in-Ok-false.field-0-test at c.in-Ok-false.ensures.delivered) in
    listens rests c.ranges.idle.fits (sym c.end_at.ensures ∙ c.in_default.is)

pub overflow_add-taken : goal.overflow_add-taken
overflow_add-taken g c =
    let few : c.rounds.taken < c.args.turns = omega (arith, taken_within c.rounds.invariant.running, c.if-taken-turns.false) in
    record { fits = omega (arith, few, c.ranges.turns.fits) }

pub rounds-smaller : goal.rounds-smaller
rounds-smaller g c =
    let rests = runs_still c.rounds.invariant.running (rw c.in-Ok-false.field-0-test at c.in-Ok-false.ensures.delivered) in
    let few : c.rounds.taken < c.args.turns = omega (arith, taken_within c.rounds.invariant.running, c.if-taken-turns.false) in
    let on = runs_on rests (sym c.end_at.ensures ∙ c.in_default.is) few c.in-Ok-hear.ensures.heard in
    omega (arith, few, on.1, kept_held c.rounds.invariant.running (rw c.in-Ok-false.field-0-test at c.in-Ok-false.ensures.delivered))

pub rounds-preserved : goal.rounds-preserved
rounds-preserved g c =
    let rests = runs_still c.rounds.invariant.running (rw c.in-Ok-false.field-0-test at c.in-Ok-false.ensures.delivered) in
    let few : c.rounds.taken < c.args.turns = omega (arith, taken_within c.rounds.invariant.running, c.if-taken-turns.false) in
    record {
      running = (runs_on rests (sym c.end_at.ensures ∙ c.in_default.is) few c.in-Ok-hear.ensures.heard).0;
      carries = carries_then _ _ _ (carries_then _ _ _ c.rounds.invariant.carries c.deliver_next.ensures.carries) c.hear.ensures.carries;
      count = search rules;
      link_faults = search rules;
      sink_faults = search rules;
    }

-- that was cut short

pub returns-in-Err-hear-clause-ran : goal.returns-in-Err-hear-clause-ran
returns-in-Err-hear-clause-ran g c =
    let rests = runs_still c.rounds.invariant.running (rw c.in-Ok-false.field-0-test at c.in-Ok-false.ensures.delivered) in
    let few : c.rounds.taken < c.args.turns = omega (arith, taken_within c.rounds.invariant.running, c.if-taken-turns.false) in
    λ ended. absurd (cut_not_ended _ (cut_here rests (sym c.end_at.ensures ∙ c.in_default.is) few c.in-Err-hear.ensures.cut) ended)

pub returns-in-Err-hear-clause-write : goal.returns-in-Err-hear-clause-write
returns-in-Err-hear-clause-write g c =
    let rests = runs_still c.rounds.invariant.running (rw c.in-Ok-false.field-0-test at c.in-Ok-false.ensures.delivered) in
    let few : c.rounds.taken < c.args.turns = omega (arith, taken_within c.rounds.invariant.running, c.if-taken-turns.false) in
    cut_by_write _ (cut_here rests (sym c.end_at.ensures ∙ c.in_default.is) few c.in-Err-hear.ensures.cut)

pub returns-in-Err-hear-clause-link : goal.returns-in-Err-hear-clause-link
returns-in-Err-hear-clause-link g c =
    let rests = runs_still c.rounds.invariant.running (rw c.in-Ok-false.field-0-test at c.in-Ok-false.ensures.delivered) in
    let few : c.rounds.taken < c.args.turns = omega (arith, taken_within c.rounds.invariant.running, c.if-taken-turns.false) in
    cut_by_link _ (cut_here rests (sym c.end_at.ensures ∙ c.in_default.is) few c.in-Err-hear.ensures.cut)

pub returns-in-Err-hear-clause-memory : goal.returns-in-Err-hear-clause-memory
returns-in-Err-hear-clause-memory g c =
    let rests = runs_still c.rounds.invariant.running (rw c.in-Ok-false.field-0-test at c.in-Ok-false.ensures.delivered) in
    let few : c.rounds.taken < c.args.turns = omega (arith, taken_within c.rounds.invariant.running, c.if-taken-turns.false) in
    cut_by_memory _ (cut_here rests (sym c.end_at.ensures ∙ c.in_default.is) few c.in-Err-hear.ensures.cut)

pub returns-in-Err-hear-clause-packets : goal.returns-in-Err-hear-clause-packets
returns-in-Err-hear-clause-packets g c =
    let rests = runs_still c.rounds.invariant.running (rw c.in-Ok-false.field-0-test at c.in-Ok-false.ensures.delivered) in
    let few : c.rounds.taken < c.args.turns = omega (arith, taken_within c.rounds.invariant.running, c.if-taken-turns.false) in
    cut_packets _ c.requires.compiled.accepted _ c.requires.there (cut_here rests (sym c.end_at.ensures ∙ c.in_default.is) few c.in-Err-hear.ensures.cut)

pub returns-in-Err-hear-clause-carries : goal.returns-in-Err-hear-clause-carries
returns-in-Err-hear-clause-carries g c = carries_then _ _ _ (carries_then _ _ _ c.rounds.invariant.carries c.deliver_next.ensures.carries) c.hear.ensures.carries

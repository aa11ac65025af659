-- The laws of the run of a node, round by round, and of where it is cut short.
use Rattle.std.proofs.Common.{◌≡◌, refl, sym, ◌∙◌, ap, subst, ℕ, zero, suc, ◌+◌, ◌≤◌, ◌<◌, List, [], ◌∷◌, ◌++◌, length, arith, append-nil, append_assoc, length-append, Bool, true, false}
use Rattle.std.specs.Prelude.{Option, Some, None, ◌&&◌, nat_le, if◌then◌else◌}
use Rattle.std.proofs.lemmas.Bool.{leb-false}
use Rattle.da_lang.specs.declared.event.Action.{Action}
use Rattle.da_lang.specs.declared.program.Program.{Program}
use Rattle.da_lang.specs.declared.ty.ChannelKind.{ChannelKind}
use Rattle.da_lang.specs.Steps.{Go, Stepped, proc_step}
use Rattle.da_lang.specs.World as world
use Rattle.da_lang.specs.World.{Phase, World, opening}
use Rattle.da_outside.specs.declared.link.LinkAnswer.{LinkAnswer}
use Rattle.da_outside.specs.declared.link.LinkEntry.{LinkEntry}
use Rattle.da_outside.specs.Link.{Gains}
use Rattle.da_outside.specs.Outside.{Appends}
use Rattle.da_outside.proofs.OutsideLemmas.{appends_none, appends_then}
use Rattle.sched_text.specs.ActionText.{action_text}
use Rattle.node_run.specs.declared.outcome.NodeOutcome.{NodeOutcome}
use Rattle.node_run.specs.declared.outcome.NodeOutcome.TheVariants as outcome
use Rattle.node_run.specs.Gifts.{CutText, IsCutShort, MayLeave, due}
use Rattle.node_run.specs.HeldPackets.{Held, held_with, is_unreliable, most_held}
use Rattle.node_run.specs.NodeCall.{HasEnded, HasRun, WasCut, WroteAll, WrotePrefix, WroteGiven, answers_in}
use Rattle.node_run.specs.NodeRun.{Node, NodeEnd, Done, Faulted, Idle, Spent, AsksAgain, Hears, comes_in, drops, steps, idles, GoesOn, stays, delivers, hears, NodeRun, Round, after_delivery, end_in, end_of, event_round, first_node, gifts, next_held, talk_of, text_of}
use Rattle.node_run.proofs.HeldLaws.{found_one}
use Rattle.node_run.proofs.TalkLaws.{WroteUpTo, all_up_to, answers_then, cut_later, gains_then, no_answer, no_answer_given, talk_then, text_one, text_then}

-- ROUNDS ONE AFTER THE OTHER

-- an answer is heard only where fewer were taken than may be
asks_few : (idle turns : ℕ) (node : Node) → end_of idle turns node ≡ AsksAgain → node.taken < turns
asks_few idle turns node asks = by_phase node.process.phase asks
  where
    by_tests : (still spent : Bool) → nat_le turns node.taken ≡ spent → (if still then Idle else if spent then Spent else AsksAgain) ≡ AsksAgain → node.taken < turns
    by_tests true spent is asks = absurd (let clash : Idle ≡ AsksAgain = asks in cc)
    by_tests false true is asks = absurd (let clash : Spent ≡ AsksAgain = asks in cc)
    by_tests false false is asks = leb-false turns node.taken is

    by_phase : (phase : Phase) → end_in idle turns node phase ≡ AsksAgain → node.taken < turns
    by_phase world.Ended asks = absurd (let clash : Done ≡ AsksAgain = asks in cc)
    by_phase world.Faulted asks = absurd (let clash : Faulted ≡ AsksAgain = asks in cc)
    by_phase world.New asks = by_tests (nat_le idle node.idle) (nat_le turns node.taken) refl asks
    by_phase world.Waiting asks = by_tests (nat_le idle node.idle) (nat_le turns node.taken) refl asks

-- what an answer leaves: one more was taken, and one packet more is held at most
pub one_taken : {program : Program} {node then' : Node} {answer : LinkAnswer} {actions : List Action} → Hears program node answer actions then' → then'.taken ≡ node.taken + 1
one_taken (comes_in bytes x is) = refl
one_taken (drops bytes nothing) = refl
one_taken (steps step after is leads) = refl
one_taken (idles nothing) = refl

one_more : (kind : ChannelKind) (held : List Held) (x : Held) → length (held_with kind held x) ≤ length held + 1
one_more kind held x = by_test (is_unreliable kind && nat_le most_held (length held))
  where
    by_test : (b : Bool) → length (if b then held else held ++ x ∷ []) ≤ length held + 1
    by_test true = omega arith
    by_test false = omega (arith, length-append held (x ∷ []))

pub one_held : {program : Program} {node then' : Node} {answer : LinkAnswer} {actions : List Action} → Hears program node answer actions then' → length then'.held ≤ length node.held + 1
one_held {program} {node} (comes_in bytes x is) = one_more program.kind node.held x
one_held (drops bytes nothing) = omega arith
one_held (steps step after is leads) = omega arith
one_held (idles nothing) = omega arith

module _ {program : Program} {idle turns : ℕ} where
  pub goes_then : {a b c : Node} {xs ys : List LinkAnswer} {rs ss : List Round} → GoesOn program idle turns a xs rs b → GoesOn program idle turns b ys ss c
      → GoesOn program idle turns a (xs ++ ys) (rs ++ ss) c
  goes_then (stays a) more = more
  goes_then (delivers a b x held after answers rounds found leads goes) more = delivers a _ x held after _ _ found leads (goes_then goes more)
  goes_then (hears a then' b answer answers actions rounds none asks heard goes) more = hears a then' _ answer _ actions _ none asks heard (goes_then goes more)

  all_taken : {node last : Node} {answers : List LinkAnswer} {rounds : List Round} → GoesOn program idle turns node answers rounds last → last.taken ≡ node.taken + length answers
  all_taken (stays node) = omega arith
  all_taken (delivers node last x held after answers rounds found leads goes) = all_taken goes
  all_taken (hears node then' last answer answers actions rounds none asks heard goes) = omega (arith, one_taken heard, all_taken goes)

  within : {node last : Node} {answers : List LinkAnswer} {rounds : List Round} → GoesOn program idle turns node answers rounds last → node.taken ≤ turns → last.taken ≤ turns
  within (stays node) few = few
  within (delivers node last x held after answers rounds found leads goes) few = within goes few
  within (hears node then' last answer answers actions rounds none asks heard goes) few = within goes (omega (arith, one_taken heard, asks_few idle turns node asks))

-- A NODE GOES ON WITHOUT AN ANSWER, until no held packet is left that may be delivered
pub record Settles (program : Program) (idle turns : ℕ) (node : Node) : Type 0 where
  pub rounds : List Round
  pub last : Node
  pub goes : GoesOn program idle turns node [] rounds last
  pub rests : next_held program last ≡ None

-- by what is delivered next; how it goes on after that is handed in
settles_by : (program : Program) (idle turns : ℕ) (node : Node) (next : Option (Held × List Held)) → next_held program node ≡ next
    → ((held : List Held) (process : World) → length node.held ≡ suc (length held) → Settles program idle turns (after_delivery node held process)) → Settles program idle turns node
settles_by program idle turns node None is others = record { rounds = []; last = node; goes = stays node; rests = is }
settles_by program idle turns node (Some (x, held)) is others =
    let found = found_one program node.process [] node.held x held is in
    let rest = others held found.after.world (omega (arith, found.size)) in
    record {
      rounds = event_round found.after.actions ∷ rest.rounds;
      last = rest.last;
      goes = delivers node rest.last x held found.after [] rest.rounds is found.leads rest.goes;
      rests = rest.rests;
    }

settles_in : (program : Program) (idle turns n : ℕ) (node : Node) → length node.held ≤ n → Settles program idle turns node
settles_in program idle turns zero node few = settles_by program idle turns node (next_held program node) refl (λ held process size. absurd (omega (arith, few, size)))
settles_in program idle turns (suc n) node few =
    settles_by program idle turns node (next_held program node) refl
    (λ held process size. settles_in program idle turns n (after_delivery node held process) (omega (arith, few, size)))

pub settles : (program : Program) (idle turns : ℕ) (node : Node) → Settles program idle turns node
settles program idle turns node = settles_in program idle turns (length node.held) node (omega arith)

-- THE RUN SO FAR

-- The run of process `me` has come to this node: the link told its talk so far, and a sink gained its text so far.
pub record CameTo (program : Program) (me idle turns : ℕ) (told_before told_now : Option (List LinkEntry)) (before now : Option (List ℕ)) (node : Node) : Type 0 where
  pub started : Stepped
  pub start : proc_step program (opening program me) Go ≡ Some started
  pub later : List Round
  pub answers : List LinkAnswer
  pub goes : GoesOn program idle turns (first_node started.world) answers later node
  pub answers_are : answers_in (talk_of (event_round started.actions ∷ later)) ≡ answers
  pub told : Gains told_before told_now (talk_of (event_round started.actions ∷ later))
  pub written : Appends before now (text_of (event_round started.actions ∷ later))

-- what cuts a node short, by what ends it so
abbrev pub IsCut : NodeOutcome → Program → ℕ → ℕ → ℕ → Option (List LinkEntry) → Option (List LinkEntry) → Option (List ℕ) → Option (List ℕ) → Type 0
IsCut how program me idle turns told_before told_after before after = WasCut program me idle turns told_before told_after before after (WroteUpTo how)

module _ {program : Program} {me idle turns : ℕ} {told_before told_after : Option (List LinkEntry)} {before after : Option (List ℕ)} where
  -- what ends by the rules was not cut short
  pub cut_not_ended : (how : NodeOutcome) → IsCut how program me idle turns told_before told_after before after → HasEnded how → ⊥
  cut_not_ended outcome.Done cut ended = cut.written
  cut_not_ended outcome.Faulted cut ended = cut.written
  cut_not_ended outcome.Idle cut ended = cut.written
  cut_not_ended outcome.Spent cut ended = cut.written
  cut_not_ended outcome.LinkFault cut ended = ended
  cut_not_ended outcome.WriteFault cut ended = ended
  cut_not_ended outcome.Memory cut ended = ended

  pub cut_by_link : (how : NodeOutcome) → IsCut how program me idle turns told_before told_after before after → how ≡ outcome.LinkFault → WasCut program me idle turns told_before told_after before after WroteAll
  cut_by_link how cut is = subst (λ h. WasCut program me idle turns told_before told_after before after (WroteUpTo h)) is cut

  pub cut_by_write : (how : NodeOutcome) → IsCut how program me idle turns told_before told_after before after → how ≡ outcome.WriteFault → WasCut program me idle turns told_before told_after before after WroteGiven
  cut_by_write how cut is = subst (λ h. WasCut program me idle turns told_before told_after before after (WroteUpTo h)) is cut

  pub cut_by_memory : (how : NodeOutcome) → IsCut how program me idle turns told_before told_after before after → how ≡ outcome.Memory → WasCut program me idle turns told_before told_after before after WrotePrefix
  cut_by_memory how cut is = subst (λ h. WasCut program me idle turns told_before told_after before after (WroteUpTo h)) is cut

-- THE START

module _ (program : Program) (me idle turns : ℕ) (told_before told_now : Option (List LinkEntry)) (before now : Option (List ℕ)) (started : Stepped) (start : proc_step program (opening program me) Go ≡ Some started) where
  -- the process has started
  pub came_first : Gains told_before told_now (gifts started.actions) → Appends before now (action_text started.actions)
      → CameTo program me idle turns told_before told_now before now (first_node started.world)
  came_first told written = record {
    started = started;
    start = start;
    later = [];
    answers = [];
    goes = stays _;
    answers_are = ap answers_in (append-nil (gifts started.actions)) ∙ no_answer started.actions;
    told = subst (Gains told_before told_now) (sym (append-nil (gifts started.actions))) told;
    written = subst (Appends before now) (sym (text_one (event_round started.actions))) written;
  }

  -- its start was cut short
  pub cut_first : (how : NodeOutcome) → IsCutShort how started.actions told_before told_now before now → IsCut how program me idle turns told_before told_now before now
  cut_first how cut =
      let silent : answers_in cut.gained.given ≡ [] = no_answer_given started.actions cut.gained.given cut.gained.left cut.gained.whole in
      let rest = settles program idle turns (first_node started.world) in
      record {
        talk = cut.gained.given;
        rounds = event_round started.actions ∷ rest.rounds;
        end = end_of idle turns rest.last;
        untold = cut.gained.left ++ talk_of rest.rounds;
        told = cut.gained.told;
        run = record {
          started = started;
          start = start;
          later = rest.rounds;
          last = rest.last;
          goes = subst (λ answers. GoesOn program idle turns (first_node started.world) answers rest.rounds rest.last) (sym silent) rest.goes;
          rests = rest.rests;
          rounds_are = refl;
          end_is = refl;
        };
        few = omega (arith, ap length silent);
        front = ap (λ l. l ++ talk_of rest.rounds) cut.gained.whole ∙ append_assoc cut.gained.given cut.gained.left (talk_of rest.rounds);
        written = cut_later how before before now [] rest.rounds (event_round started.actions) cut.gained.given cut.gained.left cut.gained.whole cut.left (appends_none before) cut.written;
      }

-- A ROUND

module _ (program : Program) (me idle turns : ℕ) (told_before told_now : Option (List LinkEntry)) (before now : Option (List ℕ)) (node : Node) (came : CameTo program me idle turns told_before told_now before now node) where
  abbrev first : Node
  first = first_node came.started.world

  abbrev so_far : List Round
  so_far = event_round came.started.actions ∷ came.later

  pub few_taken : node.taken ≤ turns
  few_taken = within came.goes (omega arith)

  few_answers : length (answers_in (talk_of so_far)) ≤ turns
  few_answers = omega (arith, all_taken came.goes, within came.goes (omega arith), ap length came.answers_are)

  run_so_far : next_held program node ≡ None → (end : NodeEnd) → end ≡ end_of idle turns node → NodeRun program me idle turns (answers_in (talk_of so_far)) so_far end
  run_so_far rests end is = record {
    started = came.started;
    start = came.start;
    later = came.later;
    last = node;
    goes = subst (λ answers. GoesOn program idle turns first answers came.later node) (sym came.answers_are) came.goes;
    rests = rests;
    rounds_are = refl;
    end_is = is;
  }

  -- the rules end the run here
  pub came_ends : next_held program node ≡ None → (end : NodeEnd) → end ≡ end_of idle turns node → HasRun program me idle turns end told_before told_now before now
  came_ends rests end is = record {
    talk = talk_of so_far;
    rounds = so_far;
    told = came.told;
    run = run_so_far rests end is;
    few = few_answers;
    whole = refl;
    written = came.written;
  }

  -- it was cut short before the next answer
  pub cut_unanswered : next_held program node ≡ None → (how : NodeOutcome) (told_after : Option (List LinkEntry)) (after : Option (List ℕ)) → Gains told_now told_after [] → CutText how now after []
      → IsCut how program me idle turns told_before told_after before after
  cut_unanswered rests how told_after after told written = record {
    talk = talk_of so_far;
    rounds = so_far;
    end = end_of idle turns node;
    untold = [];
    told = subst (Gains told_before told_after) (append-nil (talk_of so_far)) (gains_then told_before told_now told_after (talk_of so_far) [] came.told told);
    run = run_so_far rests (end_of idle turns node) refl;
    few = few_answers;
    front = sym (append-nil (talk_of so_far));
    written = all_up_to how before now after so_far came.written written;
  }

  -- the node goes on by one round more, over these answers
  module _ (answers : List LinkAnswer) (round : Round) (then' : Node) (goes : GoesOn program idle turns node answers (round ∷ []) then') (told_after : Option (List LinkEntry)) (after : Option (List ℕ)) where
    abbrev more : List Round
    more = came.later ++ round ∷ []

    goes_so : GoesOn program idle turns first (came.answers ++ answers) more then'
    goes_so = goes_then came.goes goes

    answers_so : (given : List LinkEntry) → answers_in given ≡ answers → answers_in (talk_of so_far ++ given) ≡ came.answers ++ answers
    answers_so given is = answers_then (talk_of so_far) given ∙ ap (λ l. answers_in (talk_of so_far) ++ l) is ∙ ap (λ l. l ++ answers) came.answers_are

    talk_all : talk_of (so_far ++ round ∷ []) ≡ talk_of so_far ++ round.talk
    talk_all = talk_then so_far (round ∷ []) ∙ ap (λ l. talk_of so_far ++ l) (append-nil round.talk)

    told_so : (given : List LinkEntry) → Gains told_now told_after given → Gains told_before told_after (talk_of so_far ++ given)
    told_so given gave = gains_then told_before told_now told_after (talk_of so_far) given came.told gave

    -- it has done so
    pub came_on : answers_in round.talk ≡ answers → Gains told_now told_after round.talk → Appends now after (action_text round.actions) → CameTo program me idle turns told_before told_after before after then'
    came_on is gave written = record {
      started = came.started;
      start = came.start;
      later = more;
      answers = came.answers ++ answers;
      goes = goes_so;
      answers_are = ap answers_in talk_all ∙ answers_so round.talk is;
      told = subst (Gains told_before told_after) (sym talk_all) (told_so round.talk gave);
      written = subst (Appends before after) (sym (text_then so_far (round ∷ []) ∙ ap (λ l. text_of so_far ++ l) (text_one round)))
          (appends_then before now after (text_of so_far) (action_text round.actions) came.written written);
    }

    -- that was cut short
    pub cut_on : (how : NodeOutcome) (given left : List LinkEntry) → round.talk ≡ given ++ left → answers_in given ≡ answers → Gains told_now told_after given → MayLeave how left
        → CutText how now after (due left (action_text round.actions)) → IsCut how program me idle turns told_before told_after before after
    cut_on how given left whole is gave may written =
        let rest = settles program idle turns then' in
        let answers_are = answers_so given is in
        let run : GoesOn program idle turns first ((came.answers ++ answers) ++ []) (more ++ rest.rounds) rest.last = goes_then goes_so rest.goes in
        let rounds_are : more ++ rest.rounds ≡ came.later ++ round ∷ rest.rounds = append_assoc came.later (round ∷ []) rest.rounds in
        record {
          talk = talk_of so_far ++ given;
          rounds = so_far ++ round ∷ rest.rounds;
          end = end_of idle turns rest.last;
          untold = left ++ talk_of rest.rounds;
          told = told_so given gave;
          run = record {
            started = came.started;
            start = came.start;
            later = came.later ++ round ∷ rest.rounds;
            last = rest.last;
            goes = subst (λ l. GoesOn program idle turns first l (came.later ++ round ∷ rest.rounds) rest.last) (append-nil (came.answers ++ answers) ∙ sym answers_are)
                (subst (λ l. GoesOn program idle turns first ((came.answers ++ answers) ++ []) l rest.last) rounds_are run);
            rests = rest.rests;
            rounds_are = refl;
            end_is = refl;
          };
          few = omega (arith, ap length answers_are, all_taken goes_so, within goes_so (omega arith));
          front = talk_then so_far (round ∷ rest.rounds)
              ∙ ap (λ l. talk_of so_far ++ (l ++ talk_of rest.rounds)) whole
              ∙ ap (λ l. talk_of so_far ++ l) (append_assoc given left (talk_of rest.rounds))
              ∙ sym (append_assoc (talk_of so_far) given (left ++ talk_of rest.rounds));
          written = cut_later how before now after so_far rest.rounds round given left whole may came.written written;
        }

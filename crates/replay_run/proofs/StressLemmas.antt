-- The run of a generated schedule, event by event.
use Rattle.std.proofs.Common.{◌≡◌, refl, sym, ◌∙◌, ap, subst, ℕ, ◌+◌, ◌-◌, ◌<◌, ◌≤◌, List, [], ◌∷◌, ◌++◌, length, arith, append-nil, append_assoc, length-append}
use Rattle.std.specs.Prelude.{Some, None, codes}
use Rattle.da_lang.specs.declared.event.Action.{Action}
use Rattle.da_lang.specs.declared.event.Event.{Event}
use Rattle.da_lang.specs.declared.program.Program.{Program}
use Rattle.da_system.specs.declared.system.System.{System}
use Rattle.da_system.specs.Choices.{choices}
use Rattle.da_system.specs.SourceRun.{SrcRun}
use Rattle.da_system.specs.State.{Stands}
use Rattle.da_system.specs.StressRun.{StressRun, next_number, number_line, pick, stress_from, stress_text_from}
use Rattle.da_system.specs.SystemStep.{SystemState, sys_step}
use Rattle.da_system.proofs.StressLaws.{picks_none, picks_one, run_more}
use Rattle.replay_run.specs.declared.counts.Counts.{Counts}
use Rattle.replay_run.specs.declared.generated.Summary.{Summary}
use Rattle.replay_run.specs.Replay.{run_on}
use Rattle.replay_run.specs.Stress.{AreCounts, HasCome, IsNext, WasPicked, lines_of, picked_on}

-- these events before those of a run
abbrev after_events : List Event → StressRun → StressRun
after_events events run = record run { events = events ++ run.events }

abbrev ends_with : ℕ → StressRun
ends_with last = record { events = []; last = last }

abbrev ran_to : List Action → SystemState → SrcRun
ran_to told s = record { actions = told; stop = None; state = s }

-- The run from the first state has picked and carried out so many events: the last number is this one, the system stands for
-- the state that the run has come to, and the counts are those of all actions so far.
pub record CameBy (program : Program) (s : SystemState) (x n place : ℕ) (system : System) (counts : Counts) (last : ℕ) : Type 0 where
  pub events : List Event
  pub told : List Action
  pub now : SystemState
  pub many : length events ≡ place
  pub picks : stress_from program n x s ≡ after_events events (stress_from program (n - place) last now)
  pub does : run_on program s events ≡ ran_to told now
  pub stands : Stands system now
  pub are : AreCounts told counts

pub came_first : (program : Program) (s : SystemState) (x n : ℕ) (system : System) (counts : Counts) → AreCounts [] counts → Stands system s → CameBy program s x n 0 system counts x
came_first program s x n system counts are stands = record {
  events = [];
  told = [];
  now = s;
  many = refl;
  picks = ap (λ k. stress_from program k x s) (let all : n ≡ n - 0 = omega arith in all);
  does = refl;
  stands = stands;
  are = are;
}

module _ (program : Program) (s : SystemState) (x n place : ℕ) (system : System) (counts : Counts) (last : ℕ) (came : CameBy program s x n place system counts last) where
  -- the next event was carried out
  picked_on_from : (number : ℕ) (new : Counts) (next : System) → place < n → WasPicked program came.now last number counts new next → CameBy program s x n (place + 1) next new number
  picked_on_from number new next inside picked = record {
    events = came.events ++ picked.event ∷ [];
    told = came.told ++ picked.after.actions;
    now = picked.after.state;
    many = length-append came.events (picked.event ∷ []) ∙ ap (λ k. k + 1) came.many;
    picks = came.picks ∙ ap (after_events came.events) one
        ∙ ap (λ (events : List Event). let run : StressRun = record rest { events = events } in run) (sym (append_assoc came.events (picked.event ∷ []) rest.events));
    does = run_more program came.events 1 s picked.event picked.after (ap (λ (run : SrcRun). run.stop) came.does) (ap (λ (run : SrcRun). sys_step program run.state picked.event) came.does ∙ picked.is)
        ∙ ap (λ (run : SrcRun). ran_to (run.actions ++ picked.after.actions) picked.after.state) came.does;
    stands = picked.stands;
    are = picked.counts came.told came.are;
  }
    where
      rest : StressRun
      rest = stress_from program (n - (place + 1)) number picked.after.state

      one : stress_from program (n - place) last came.now ≡ record rest { events = picked.event ∷ rest.events }
      one =
          picks_one program (n - place) (n - (place + 1)) last came.now picked.event picked.after (omega (arith, inside)) (ap (pick (choices program came.now)) (sym picked.number_is) ∙ picked.picks) picked.is
          ∙ ap (λ y. let run = stress_from program (n - (place + 1)) y picked.after.state in let all : StressRun = record run { events = picked.event ∷ run.events } in all) (sym picked.number_is)

  pub came_on : (p : Program) → p ≡ program → (number : ℕ) (new : Counts) (next : System) → place < n → IsNext p came.now last (Some number) counts new next → CameBy program s x n (place + 1) next new number
  came_on p same number new next inside picked = picked_on_from number new next inside (subst (λ q. WasPicked q came.now last number counts new next) same picked)

  -- THE END

  came_to : (left : System) (end : Counts) → stress_from program (n - place) last came.now ≡ ends_with last → Stands left came.now → end ≡ counts → HasCome program s x n (record { events = place; counts = end; last = last }) left
  came_to left end none stands same = record {
    events = sym came.many ∙ ap (λ (run : StressRun). length run.events) (sym whole);
    counts = subst (λ (run : SrcRun). AreCounts run.actions end) (sym does) (subst (AreCounts came.told) (sym same) came.are);
    last = ap (λ (run : StressRun). run.last) (sym whole);
    stands = subst (λ (run : SrcRun). Stands left run.state) (sym does) stands;
  }
    where
      whole : stress_from program n x s ≡ record { events = came.events; last = last }
      whole = came.picks ∙ ap (after_events came.events) none ∙ ap (λ (events : List Event). let run : StressRun = record { events = events; last = last } in run) (append-nil came.events)

      does : run_on program s (picked_on program s x n) ≡ ran_to came.told came.now
      does = ap (λ (run : StressRun). run_on program s run.events) whole ∙ came.does

  -- there is no event to pick
  pub comes_early : (p : Program) → p ≡ program → (new : Counts) (next : System) → IsNext p came.now last None counts new next → HasCome program s x n (record { events = place; counts = new; last = last }) next
  comes_early p same new next over =
      let none = subst (λ q. pick (choices q came.now) (next_number last) ≡ None) same over.none in
      came_to next new (picks_none program (n - place) last came.now none) over.stands over.same

  -- so many events as were asked for were carried out
  pub comes_last : n ≤ place → place ≤ n → HasCome program s x n (record { events = n; counts = counts; last = last }) system
  comes_last from to =
      let all : place ≡ n = omega (arith, from, to) in
      subst (λ k. HasCome program s x n (record { events = k; counts = counts; last = last }) system) all
      (came_to system counts (ap (λ k. stress_from program k last came.now) (let none : n - place ≡ 0 = omega (arith, from) in none)) came.stands refl)

-- THE EIGHT LINES

lines : ℕ → ℕ → ℕ → ℕ → ℕ → ℕ → ℕ → ℕ → List ℕ
lines events took sent got out end fault last =
    number_line (codes "events") events
    ++ number_line (codes "took") took
    ++ number_line (codes "sent") sent
    ++ number_line (codes "got") got
    ++ number_line (codes "out") out
    ++ number_line (codes "end") end
    ++ number_line (codes "fault") fault
    ++ number_line (codes "state") last

lines_same : {a b c d e f g h i j k l m n o p : ℕ} → a ≡ i → b ≡ j → c ≡ k → d ≡ l → e ≡ m → f ≡ n → g ≡ o → h ≡ p → lines a b c d e f g h ≡ lines i j k l m n o p
lines_same {a} {b} {c} {d} {e} {f} {g} {h} {i} {j} {k} {l} {m} {n} {o} {p} events took sent got out end fault last =
    ap (λ z. lines z b c d e f g h) events ∙ ap (λ z. lines i z c d e f g h) took ∙ ap (λ z. lines i j z d e f g h) sent ∙ ap (λ z. lines i j k z e f g h) got
    ∙ ap (λ z. lines i j k l z f g h) out ∙ ap (λ z. lines i j k l m z g h) end ∙ ap (λ z. lines i j k l m n z h) fault ∙ ap (λ z. lines i j k l m n o z) last

pub lines_are : (program : Program) (s : SystemState) (x n : ℕ) (summary : Summary) (system : System) → HasCome program s x n summary system → lines_of summary ≡ stress_text_from program s x n
unfolding lines
lines_are program s x n summary system come =
    let counts = come.counts in
    lines_same come.events counts.took counts.sent counts.got counts.out counts.end counts.fault come.last

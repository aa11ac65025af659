-- What a core stands for after a move.
use Rattle.std.proofs.Common.{◌≡◌, ℕ, List, [], ◌++◌, length, map, take, refl, sym, ap, ◌∙◌, subst}
use Rattle.std.specs.Prelude.{Option, false, sum}
use Rattle.da_values.specs.declared.val.Val.{Val}
use Rattle.da_lang.specs.declared.event.Action.{Action}
use Rattle.da_lang.specs.declared.program.Class.{Class}
use Rattle.da_lang.specs.declared.program.Program.{Program}
use Rattle.da_lang.specs.declared.query.Node.{Node}
use Rattle.da_lang.specs.Runs.{Halt, AtYield, UsedUp, Faults, Ran, run_to_yield}
use Rattle.da_lang.specs.Shaped.{ShapedTasks}
use Rattle.da_lang.specs.Steps.{Step, moved, phase_after}
use Rattle.da_lang.specs.World.{Data, Task, World, Phase, New, Waiting, Ended, Faulted, class_of}
use Rattle.da_types.specs.KeepsShaped.{LeavesShaped}
use Rattle.da_machine.specs.declared.machine.Machine.{Machine}
use Rattle.da_machine.specs.RunsTo.{AddsPrefix}
use Rattle.query_plan.specs.declared.plan.Plan.{Plan}
use Rattle.row_pool.specs.Cells.{Cells}
use Rattle.row_pool.specs.InUse.{AreHeld, InUse, IsCounted}
use Rattle.delta_rules.specs.Keeping.{Keeps, all_live}
use Rattle.da_core.specs.declared.compiled.ClassCode.{ClassCode}
use Rattle.da_core.specs.declared.process.Core.{Core}
use Rattle.da_core.specs.declared.known.Known.{Known}
use Rattle.da_core.specs.declared.moves.Begin.{Begin}
use Rattle.da_core.specs.declared.place.Place.{Place}
use Rattle.da_core.specs.declared.place.Place.TheVariants as place
use Rattle.da_core.specs.declared.place.Stopped.{Stopped}
use Rattle.da_core.specs.Begins.{CanMove, HasRun, IsAfter, MayRun, move_actions}
use Rattle.da_core.specs.Compiled.{code_of}
use Rattle.da_core.specs.HeldCells.{AreHeldCells, HeldCells}
use Rattle.da_core.specs.Made.{HasBegun, HasMade, phase_at, phase_of, stopped_at}
use Rattle.da_core.specs.StandsFor.{IsAt, IsPlace, StandsFor, Whichever, program_of}
use Rattle.da_core.specs.Told.{answers, answers_of, kept_of}
use Rattle.da_core.proofs.HeldLaws.{cells_of, so_many}
use Rattle.da_core.proofs.KeptLaw.{rows_are}
use Rattle.da_core.proofs.KnownLaws.{with_actions}
use Rattle.da_core.proofs.Laws.{keeps_shaped}

-- where the actions are others
pub may_with : (p : Program) (class : Class) (code : ClassCode) (known : Known) (m : Machine) (k : ℕ) (begin : Begin) (d : Data) (todo : List Task) (actions : List Action)
    → MayRun p class code known m k begin d todo → MayRun p class code (record known { actions = actions }) m k begin d todo
may_with p class code known m k begin d todo actions may = record {
  accepted = may.accepted;
  forward = may.forward;
  waits = may.waits;
  before = may.before;
  stands = with_actions known p class may.before may.stands actions;
  bound = may.bound;
  knows = may.knows;
  tasks = may.tasks;
  code_for = may.code_for;
  early = may.early;
}

module _ (p : Program) (class : Class) (code : ClassCode) (known : Known) (m : Machine) (k : ℕ) (begin : Begin) (d : Data) (todo : List Task) (may : MayRun p class code known m k begin d todo) where
  -- the run leaves what is shaped
  pub leaves : let ran = run_to_yield class begin.turns d todo in LeavesShaped p class d.me ran.data' ran.todo ran.actions
  leaves = (keeps_shaped p may.accepted).runs class begin.turns d todo may.knows may.tasks

  pub tasks_left : let ran = run_to_yield class begin.turns d todo in ShapedTasks p class ran.data'.me ran.todo
  tasks_left = let ran = run_to_yield class begin.turns d todo in subst (λ me. ShapedTasks p class me ran.todo) (sym leaves.same) leaves.tasks

-- WHERE THE PROCESS STANDS

at_after : (p : Program) (class : Class) (code : ClassCode) (m : Machine) (w : World) (halt : Halt) → IsAfter class code m w.todo (phase_after halt) → IsAt p class code.code m w (phase_after halt)
at_after p class code m w AtYield is = is
at_after p class code m w UsedUp is = tt
at_after p class code m w (Faults kind line) is = tt

phase_is : (todo : List Task) (place : Place) (phase : Phase) → IsPlace todo place phase → phase ≡ phase_at place
phase_is todo place.New New is = refl
phase_is todo place.Label Waiting is = refl
phase_is todo (place.Await count) Waiting is = refl
phase_is todo place.Ended Ended is = refl
phase_is todo place.Faulted Faulted is = refl
phase_is todo _ _ is = absurd is

pub stands_in_phase : (core : Core) (w : World) → StandsFor core w → w.phase ≡ phase_at core.place
stands_in_phase core w s = phase_is w.todo core.place w.phase s.place

pub stops_so : (todo : List Task) (place : Place) (halt : Halt) → IsPlace todo place (phase_after halt) → phase_of (stopped_at place) ≡ phase_after halt
stops_so todo place.Label AtYield is = refl
stops_so todo (place.Await count) AtYield is = refl
stops_so todo place.Ended UsedUp is = refl
stops_so todo place.Faulted (Faults kind line) is = refl
stops_so todo place.New AtYield is = absurd is
stops_so todo place.New UsedUp is = absurd is
stops_so todo place.New (Faults kind line) is = absurd is
stops_so todo place.Label UsedUp is = absurd is
stops_so todo place.Label (Faults kind line) is = absurd is
stops_so todo (place.Await count) UsedUp is = absurd is
stops_so todo (place.Await count) (Faults kind line) is = absurd is
stops_so todo place.Ended AtYield is = absurd is
stops_so todo place.Ended (Faults kind line) is = absurd is
stops_so todo place.Faulted AtYield is = absurd is
stops_so todo place.Faulted UsedUp is = absurd is

-- the answers of a core keep as many rows as its process
pub keeps_rows : (core : Core) (w : World) → StandsFor core w → (n : ℕ) → ((pool : Cells) (nodes : List Node) (d : Data) → Keeps core.known.answers pool nodes d → n ≡ sum (map length (all_live d nodes)))
    → n ≡ kept_of (class_of (program_of core) w.data'.me) w.data'
keeps_rows core w s n told =
    rows_are core.known (program_of core) w.data'.me s.class w.data' s.compiled.accepted s.knows.is_class s.stands n told ∙ sym (ap (λ class. kept_of class w.data') s.knows.is_class)

-- so many values are in its pool as the process has to keep
pub holds_cells : (core : Core) (w : World) → StandsFor core w → (n : ℕ) → InUse core.known.pool → IsCounted core.known.pool → ((set : List Val) → AreHeld core.known.pool set → n ≡ length set)
    → AreHeldCells (class_of (program_of core) w.data'.me) w.data' n
holds_cells core w s n used counted count =
    let k = s.stands in
    let (set, cells, many) = so_many core.known.answers core.known.pool core.known.stored.now.plan.nodes w.data' k.keeps k.laid k.held used counted n count in
    let so : (set : List Val) × HeldCells core.known.plan.now.nodes w.data' set × (n ≡ length set) =
    (set, cells_of core.known.plan.now.nodes core.known.stored.now w.data' k.stored set cells, many) in
    subst (λ (c : Option Class). AreHeldCells c w.data' n) (sym s.knows.is_class) (subst (λ (x : Plan). (set : List Val) × HeldCells x.nodes w.data' set × (n ≡ length set)) k.plan so)

-- what it tells of its queries is told of the process
pub tells_answers : (core : Core) (w : World) (s : StandsFor core w)
    → answers w.data'.me s.class.queries w.data' ≡ answers_of w.data'.me (class_of (program_of core) w.data'.me) w.data'
tells_answers core w s = sym (ap (λ class. answers_of w.data'.me class w.data') s.knows.is_class)

-- a prefix of the actions that are due was added, whatever the world is
abbrev pub MovedPart : Core → ℕ → ClassCode → Begin → List Action → List Action → Type 0
MovedPart core k code begin out given = Whichever core (λ w. (step : Step) → CanMove core w step k code begin → HasBegun core w step out given)

module _ (core : Core) (w : World) (s : StandsFor core w) (step : Step) (k : ℕ) (code : ClassCode) (begin : Begin) (can : CanMove core w step k code begin) where
  abbrev p : Program
  p = program_of core

  abbrev me : ℕ
  me = w.data'.me

  abbrev ran : Ran
  ran = run_to_yield can.class begin.turns can.d can.todo

  abbrev after : World
  after = (moved me k ran).world

  left : LeavesShaped p can.class can.d.me ran.data' ran.todo ran.actions
  left = leaves p can.class code core.known core.machine k begin can.d can.todo can.may

  -- the process before the move with the actions of the caller; the process, the machine and its place after the move, where
  -- the actions are given back
  module _ (own : List Action) (known : Known) (m : Machine) (spot : Place) (run : HasRun p can.class code can.d.me k ran (record core.known { actions = own }) known m spot) where
    module _ (empty : List Action) (none : empty ≡ []) (new : Core)
        (is_new : new ≡ record core { known = record known { actions = empty }; machine = m; place = spot; spent = false }) where
      pub stands_after : StandsFor new after
      stands_after =
          subst (λ z. StandsFor z after) (sym is_new) (record {
            unspent = refl;
            compiled = s.compiled;
            class = can.class;
            code = code;
            code_is = ap (code_of core.compiled.now) (left.same ∙ can.mine) ∙ can.code_is;
            knows = left.knows;
            tasks = tasks_left p can.class code core.known core.machine k begin can.d can.todo can.may;
            stands = with_actions known p can.class ran.data' run.known empty;
            no_actions = none;
            place = run.stands;
            at = at_after p can.class code m after ran.halt run.behind;
            no_values = run.no_values;
          })

      pub has_made : (out given : List Action) → own ≡ out → given ≡ known.actions → (answer : Stopped) → answer ≡ stopped_at spot → HasMade core w step new answer out given
      has_made out given from back answer is = record {
        after = moved me k ran;
        leads = can.leads;
        stands = stands_after;
        same = left.same ∙ can.mine;
        stopped = ap phase_of is ∙ stops_so ran.todo spot ran.halt run.stands;
        added = back ∙ run.actions ∙ ap (λ x. own ++ move_actions x k ran) can.mine ∙ ap (λ xs. xs ++ move_actions me k ran) from;
      }

  pub has_begun : (own out given told : List Action) → own ≡ out → given ≡ told → AddsPrefix own told (move_actions can.d.me k ran) → HasBegun core w step out given
  has_begun own out given told from back (n, is) = record {
    after = moved me k ran;
    leads = can.leads;
    front = (
      n,
      back ∙ is ∙ ap (λ x. own ++ take n (move_actions x k ran)) can.mine ∙ ap (λ xs. xs ++ take n (move_actions me k ran)) from,
    );
  }

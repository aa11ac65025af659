-- Which moves and deliveries are allowed where a process waits, and how its move is found alternative by alternative.
use Rattle.std.proofs.Common.{◌≡◌, refl, sym, ◌∙◌, ap, subst, ℕ, zero, suc, ◌+◌, ◌≤◌, ◌<◌, inl, inr, List, [], ◌∷◌, drop, length, arith, Bool, true, false, cond, slice_get}
use Rattle.std.specs.Prelude.{◌↔◌, ◌⊎◌, if◌then◌else◌, Option, Some, None, IsSome}
use Rattle.std.proofs.lemmas.Bool.{false≢true}
use Rattle.std.proofs.lemmas.Option.{none-some, same_Some}
use Rattle.da_lang.specs.declared.program.Alt.{Alt}
use Rattle.da_lang.specs.declared.program.Class.{Class}
use Rattle.da_lang.specs.declared.program.Item.{Item}
use Rattle.da_lang.specs.declared.program.ItemKind.{ItemKind}
use Rattle.da_lang.specs.declared.program.ItemKind.TheOpen.{ItemKind-F, Await, Label}
use Rattle.da_lang.specs.declared.program.ItemKind.TheViews.{out-Alt}
use Rattle.da_lang.specs.declared.program.Program.{Program}
use Rattle.da_lang.specs.declared.program.RBranch.{RBranch}
use Rattle.da_lang.specs.Accepted.{IsAccepted}
use Rattle.da_lang.specs.Allowed.{at_label, at_await}
use Rattle.da_lang.specs.Queries.{holds}
use Rattle.da_lang.specs.Shaped.{IsProcess}
use Rattle.da_lang.specs.Steps.{Go, Step, TimeOut, Stepped, move_step, proc_step, take_alternative}
use Rattle.da_lang.specs.Turns.{kind_of}
use Rattle.da_lang.specs.World.{Data, Do, Loop, Prepare, Task, New, Waiting, Ended, Faulted, World, class_of, opening}
use Rattle.da_lang.proofs.MoveLaws.{step_begins}
use Rattle.da_lang.proofs.StepLaws.{allowed_is}
use Rattle.da_types.specs.KeepsShaped.{MayStep}
use Rattle.da_core.specs.declared.place.Place.{Place}
use Rattle.da_core.specs.declared.place.Place.TheVariants as place
use Rattle.da_core.specs.declared.process.Core.{Core}
use Rattle.da_core.specs.Made.{phase_at}
use Rattle.da_core.specs.StandsFor.{Awaits, BeginsWith, IsPlace, Whichever, program_of}
use Rattle.da_core.proofs.Laws.{has_class}
use Rattle.node_run.specs.NodeRun.{Node, first_true, may_time_out, move_at, move_before, move_of, step_for, step_of}

-- THE FIRST ALTERNATIVE THAT IS TRUE

-- the alternative is there, and its condition holds
abbrev pub IsTrueAt : Data → Option Alt → Type 0
IsTrueAt d None = ⊥
IsTrueAt d (Some alt) = holds d (out-Alt alt).cond [] ≡ true

-- where the next alternative holds, it is the first
pub first_here : (d : Data) (k n : ℕ) (alts : List Alt) → IsTrueAt d (slice_get alts n) → first_true d k (drop n alts) ≡ Some k
first_here d k n [] true' = absurd true'
first_here d k zero (alt ∷ alts) true' = rw true' refl
first_here d k (suc n) (alt ∷ alts) true' = first_here d k n alts true'

-- where it is there and does not hold, the first is among the later ones
pub first_later : (d : Data) (k n : ℕ) (alts : List Alt) → n < length alts → (IsTrueAt d (slice_get alts n) → ⊥)
    → first_true d k (drop n alts) ≡ first_true d (suc k) (drop (suc n) alts)
first_later d k n [] inside false' = absurd (omega (arith, inside))
first_later d k zero (alt ∷ alts) inside false' = skips (holds d (out-Alt alt).cond []) false'
  where
    skips : (b : Bool) → (b ≡ true → ⊥) → cond b (Some k) (first_true d (suc k) alts) ≡ first_true d (suc k) alts
    skips true not_true = absurd (not_true refl)
    skips false not_true = refl
first_later d k (suc n) (alt ∷ alts) inside false' = first_later d k n alts (omega (arith, inside)) false'

-- after the last one there is none
pub first_none : (d : Data) (k n : ℕ) (alts : List Alt) → length alts ≤ n → first_true d k (drop n alts) ≡ None
first_none d k zero [] past = refl
first_none d k (suc n) [] past = refl
first_none d k zero (alt ∷ alts) past = absurd (omega (arith, past))
first_none d k (suc n) (alt ∷ alts) past = first_none d k n alts (omega (arith, past))

-- the alternative of this number is there and holds, where they are numbered from a number on
record IsTrueOf (d : Data) (first k : ℕ) (alts : List Alt) : Type 0 where
  place : ℕ
  alt : Alt
  numbered : k ≡ first + place
  there : slice_get alts place ≡ Some alt
  holds' : holds d (out-Alt alt).cond [] ≡ true

true_one : (d : Data) (first k : ℕ) (alts : List Alt) → first_true d first alts ≡ Some k → IsTrueOf d first k alts
true_one d first k [] is = absurd (none-some k is)
true_one d first k (alt ∷ alts) is = by_truth (holds d (out-Alt alt).cond []) refl is (true_one d (suc first) k alts)
  where
    by_truth : (b : Bool) → holds d (out-Alt alt).cond [] ≡ b → cond b (Some first) (first_true d (suc first) alts) ≡ Some k
        → (first_true d (suc first) alts ≡ Some k → IsTrueOf d (suc first) k alts) → IsTrueOf d first k (alt ∷ alts)
    by_truth true true' is later = record {
      place = 0;
      alt = alt;
      numbered = omega (arith, same_Some first k is);
      there = refl;
      holds' = true';
    }
    by_truth false false' is later = let found = later is in record {
      place = suc found.place;
      alt = found.alt;
      numbered = omega (arith, found.numbered);
      there = found.there;
      holds' = found.holds';
    }

-- THE MOVES OF A PROCESS THAT WAITS

-- an alternative is taken exactly where it is there and holds
take_exactly : (class : Class) (d : Data) (rest : List Task) (k : ℕ) (found : Option Alt) → IsSome (take_alternative class d rest k found) ↔ IsTrueAt d found
take_exactly class d rest k None = (λ some. false≢true some, λ none. absurd none)
take_exactly class d rest k (Some alt) = by_truth (holds d (out-Alt alt).cond []) _
  where
    by_truth : (b : Bool) (after : Stepped) → IsSome (cond b (Some after) None) ↔ (b ≡ true)
    by_truth true after = (λ some. refl, λ true'. refl)
    by_truth false after = (λ some. absurd (false≢true some), λ true'. absurd (false≢true true'))

-- its move is the first of these alternatives that is true, and stands after so many of them
abbrev pub LeadsFrom : World → List Alt → ℕ → Type 0
LeadsFrom w alts n = move_of w ≡ first_true w.data' (suc n) (drop n alts)

module _ (program : Program) (class : Class) (w : World) (waits : w.phase ≡ Waiting) (known : class_of program w.data'.me ≡ Some class) where
  abbrev d : Data
  d = w.data'

  -- at an `await` the move of a number is allowed exactly where the alternative of this number is there and holds
  pub taken_where : (i : Item) (rest : List Task) (alts : List Alt) (timeout : Option (List Item)) (label : Option ℕ) → w.todo ≡ Do i ∷ rest → kind_of i ≡ Await alts timeout label → (n : ℕ)
      → IsSome (proc_step program w (move_step (suc n))) ↔ IsTrueAt d (slice_get alts n)
  taken_where i rest alts timeout label stands is n =
      let step : proc_step program w (move_step (suc n)) ≡ take_alternative class d rest (suc n) (slice_get alts n) = rw (known, waits, stands, is) refl in
      subst (λ step. IsSome step ↔ IsTrueAt d (slice_get alts n)) (sym step) (take_exactly class d rest (suc n) (slice_get alts n))

  -- its own move is found by trying the numbers from 1 on
  module _ (i : Item) (rest : List Task) (alts : List Alt) (timeout : Option (List Item)) (label : Option ℕ) (stands : w.todo ≡ Do i ∷ rest) (is : kind_of i ≡ Await alts timeout label) where
    pub leads_first : LeadsFrom w alts 0
    leads_first = ap (move_before d) stands ∙ ap (move_at d) is

    pub leads_on : (n k : ℕ) → n < length alts → k ≡ suc n → (IsSome (proc_step program w (move_step k)) → ⊥) → LeadsFrom w alts n → LeadsFrom w alts k
    leads_on n k inside numbered not_allowed so_far =
        let false' : IsTrueAt d (slice_get alts n) → ⊥ =
        λ true'. not_allowed (subst (λ number. IsSome (proc_step program w (move_step number))) (sym numbered) ((taken_where i rest alts timeout label stands is n).1 true')) in
        subst (LeadsFrom w alts) (sym numbered) (so_far ∙ first_later d (suc n) n alts inside false')

    pub leads_here : (n k : ℕ) → k ≡ suc n → IsSome (proc_step program w (move_step k)) → LeadsFrom w alts n → move_of w ≡ Some k
    leads_here n k numbered allowed so_far =
        let true' : IsTrueAt d (slice_get alts n) = (taken_where i rest alts timeout label stands is n).0 (subst (λ number. IsSome (proc_step program w (move_step number))) numbered allowed) in
        so_far ∙ first_here d (suc n) n alts true' ∙ ap Some (sym numbered)

    pub leads_nowhere : (n : ℕ) → length alts ≤ n → LeadsFrom w alts n → move_of w ≡ None
    leads_nowhere n past so_far = so_far ∙ first_none d (suc n) n alts past

  -- its own move is allowed
  label_or_await : (i : Item) (rest : List Task) (kind : ItemKind-F ItemKind Alt Item RBranch) → w.todo ≡ Do i ∷ rest → kind_of i ≡ kind → (k : ℕ) → move_at d kind ≡ Some k
      → IsSome (proc_step program w (move_step k))
  label_or_await i rest (Label l) stands is k moves =
      subst (λ number. IsSome (proc_step program w (move_step number))) (same_Some 0 k moves) (allowed_is program class w known (at_label i rest l waits stands is))
  label_or_await i rest (Await alts timeout label) stands is k moves =
      let found = true_one d 1 k alts moves in
      let number : suc found.place ≡ k = omega (arith, found.numbered) in
      subst (λ number. IsSome (proc_step program w (move_step number))) number
      (allowed_is program class w known (at_await i rest alts timeout label found.alt (suc found.place) waits stands is found.there found.holds'))
  label_or_await i rest _ stands is k moves = absurd (none-some k moves)

  by_task : (todo : List Task) → w.todo ≡ todo → (k : ℕ) → move_before d todo ≡ Some k → IsSome (proc_step program w (move_step k))
  by_task [] stands k moves = absurd (none-some k moves)
  by_task (Do i ∷ rest) stands k moves = label_or_await i rest (kind_of i) stands refl k moves
  by_task (Loop slot left body line ∷ rest) stands k moves = absurd (none-some k moves)
  by_task (Prepare call ∷ rest) stands k moves = absurd (none-some k moves)

  pub move_allowed : (k : ℕ) → move_of w ≡ Some k → IsSome (proc_step program w (move_step k))
  move_allowed k moves = by_task w.todo refl k moves

-- the first move is allowed of each process of an accepted program
pub start_allowed : (program : Program) (me : ℕ) → IsAccepted program → IsProcess program me → (started : Stepped) × (proc_step program (opening program me) Go ≡ Some started)
start_allowed program me accepted there = let (class, known) = has_class program me accepted there in (_, step_begins program class (opening program me) known refl)

-- OF A CORE

module _ (core : Core) where
  -- its own move is allowed
  pub own_move_allowed : Whichever core (λ w. w.phase ≡ Waiting → (k : ℕ) → move_of w ≡ Some k → IsSome (proc_step (program_of core) w (move_step k)))
  own_move_allowed = λ w s waits. move_allowed (program_of core) s.class w waits s.knows.is_class

  -- at a label it goes on
  pub goes_on : (stands : Place) → stands ≡ place.Label → Whichever core (λ w. IsPlace w.todo stands w.phase)
      → Whichever core (λ w. w.phase ≡ Waiting → Some 0 ≡ move_of w)
  goes_on stands label place' = λ w s waits.
      let (l, begins) : (l : ℕ) × BeginsWith w.todo (Label l) =
      subst (IsPlace w.todo place.Label) waits (subst (λ (x : Place). IsPlace w.todo x w.phase) label (place' w s)) in
      sym (ap (move_before w.data') begins.first ∙ ap (move_at w.data') begins.is)

  -- elsewhere it does not wait
  pub waits_nowhere : (stands : Place) → (stands ≡ place.New) ⊎ (stands ≡ place.Ended) ⊎ (stands ≡ place.Faulted) → Whichever core (λ w. w.phase ≡ phase_at stands)
      → Whichever core (λ w. w.phase ≡ Waiting → None ≡ move_of w)
  waits_nowhere stands which phase = λ w s waits. absurd (not_waiting stands which (sym (phase w s) ∙ waits))
    where
      not_waiting : (stands : Place) → (stands ≡ place.New) ⊎ (stands ≡ place.Ended) ⊎ (stands ≡ place.Faulted) → phase_at stands ≡ Waiting → ⊥
      not_waiting stands (inl is) waits = let both : New ≡ Waiting = sym (ap phase_at is) ∙ waits in cc
      not_waiting stands (inr (inl is)) waits = let both : Ended ≡ Waiting = sym (ap phase_at is) ∙ waits in cc
      not_waiting stands (inr (inr is)) waits = let both : Faulted ≡ Waiting = sym (ap phase_at is) ∙ waits in cc

  -- at an `await` of so many alternatives its move is the first that is true, and stands after the first n of them
  abbrev pub Tried : ℕ → ℕ → Type 0
  Tried count n = Whichever core (λ w. w.phase ≡ Waiting → (at : Awaits w.todo count) → LeadsFrom w at.alts n)

  -- this tells whether its move of this number is allowed
  abbrev pub IsAllowedAs : ℕ → Bool → Type 0
  IsAllowedAs k allowed = Whichever core (λ w. (allowed ≡ true) ↔ IsSome (proc_step (program_of core) w (move_step k)))

  pub tried_none : (count : ℕ) → Tried count 0
  tried_none count = λ w s waits at. leads_first (program_of core) s.class w waits s.knows.is_class at.begins.item at.begins.rest at.alts at.timeout at.label at.begins.first at.begins.is

  pub tried_on : (count n k : ℕ) (allowed : Bool) → n < count → k ≡ suc n → allowed ≡ false → IsAllowedAs k allowed → Tried count n → Tried count k
  tried_on count n k allowed inside numbered not_allowed exactly so_far = λ w s waits at.
      leads_on (program_of core) s.class w waits s.knows.is_class at.begins.item at.begins.rest at.alts at.timeout at.label at.begins.first at.begins.is n k (omega (arith, inside, at.size)) numbered
      (λ some. false≢true (sym not_allowed ∙ (exactly w s).1 some)) (so_far w s waits at)

  pub tried_here : (count n k : ℕ) (allowed : Bool) → k ≡ suc n → allowed ≡ true → IsAllowedAs k allowed → Tried count n
      → Whichever core (λ w. w.phase ≡ Waiting → Awaits w.todo count → Some k ≡ move_of w)
  tried_here count n k allowed numbered is_allowed exactly so_far = λ w s waits at.
      sym (leads_here (program_of core) s.class w waits s.knows.is_class at.begins.item at.begins.rest at.alts at.timeout at.label at.begins.first at.begins.is n k numbered
      ((exactly w s).0 is_allowed) (so_far w s waits at))

  pub tried_all : (count n : ℕ) → count ≤ n → Tried count n → Whichever core (λ w. w.phase ≡ Waiting → Awaits w.todo count → None ≡ move_of w)
  tried_all count n past so_far = λ w s waits at.
      sym (leads_nowhere (program_of core) s.class w waits s.knows.is_class at.begins.item at.begins.rest at.alts at.timeout at.label at.begins.first at.begins.is n (omega (arith, past, at.size))
      (so_far w s waits at))

-- THE STEP WHERE NOTHING COMES

-- its move, or else the timeout after so many idle turns
pub step_by : (program : Program) (node : Node) (k : ℕ) → move_of node.process ≡ Some k → step_of program node ≡ Some (move_step k)
step_by program node k is = ap (λ move. step_for move (may_time_out program node)) is

pub step_else : (program : Program) (node : Node) (late : Bool) → move_of node.process ≡ None → may_time_out program node ≡ late → step_of program node ≡ (if late then Some TimeOut else None)
step_else program node late none is = ap (λ move. step_for move (may_time_out program node)) none ∙ ap (λ b. if b then Some TimeOut else None) is

-- which of the two it is
pub data IsOwn (program : Program) (node : Node) : Step → Type 0 where
  moves : (k : ℕ) → move_of node.process ≡ Some k → IsOwn program node (move_step k)
  late : move_of node.process ≡ None → may_time_out program node ≡ true → IsOwn program node TimeOut

pub own_one : (program : Program) (node : Node) (step : Step) → step_of program node ≡ Some step → IsOwn program node step
own_one program node step is = by_move (move_of node.process) (may_time_out program node) refl refl is
  where
    by_move : (move : Option ℕ) (b : Bool) → move_of node.process ≡ move → may_time_out program node ≡ b → step_for move b ≡ Some step → IsOwn program node step
    by_move (Some k) b move test is = subst (IsOwn program node) (same_Some (move_step k) step is) (moves k move)
    by_move None true move test is = subst (IsOwn program node) (same_Some TimeOut step is) (late move test)
    by_move None false move test is = absurd (none-some step is)

-- as far as messages go any of them may be made
pub move_may : (program : Program) (k : ℕ) → MayStep program (move_step k)
move_may program zero = tt
move_may program (suc k) = tt

pub step_may : (program : Program) (node : Node) (step : Step) → step_of program node ≡ Some step → MayStep program step
step_may program node step is = by_own step (own_one program node step is)
  where
    by_own : (step : Step) → IsOwn program node step → MayStep program step
    by_own _ (moves k move) = move_may program k
    by_own _ (late move test) = tt

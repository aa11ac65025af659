-- A step keeps its world shaped.
use Rattle.std.specs.Prelude.{◌≡◌, refl, ℕ, ◌+◌, nat_lt, List, [], ◌∷◌, ◌++◌, length, Option, Some, None, IfSome}
use Rattle.std.specs.List.{All, list_any}
use Rattle.std.proofs.Common.{◌∙◌, ap, sym, subst, inl, inr}
use Rattle.std.proofs.lemmas.List.Elements.{All-nil, All-cons, All-append, All-head, All-tail}
use Rattle.da_values.specs.declared.val.Val.{Val}
use Rattle.da_values.specs.Sets.{Has}
use Rattle.da_values.specs.Value.{value_of}
use Rattle.da_values.proofs.Members.{of_filter}
use Rattle.da_lang.specs.declared.event.Action.{Action}
use Rattle.da_lang.specs.declared.event.Action.TheVariants.{Took, Got, End, Fault}
use Rattle.da_lang.specs.declared.program.Alt.{Alt}
use Rattle.da_lang.specs.declared.program.Class.{Class}
use Rattle.da_lang.specs.declared.program.Handler.{Handler}
use Rattle.da_lang.specs.declared.program.Item.{Item}
use Rattle.da_lang.specs.declared.program.ItemKind.{ItemKind}
use Rattle.da_lang.specs.declared.program.ItemKind.TheOpen.{ItemKind-F, Await, Label}
use Rattle.da_lang.specs.declared.program.ItemKind.TheViews.{out-Alt}
use Rattle.da_lang.specs.declared.program.ProcDecl.{ProcDecl}
use Rattle.da_lang.specs.declared.program.Program.{Program}
use Rattle.da_lang.specs.declared.program.RBranch.{RBranch}
use Rattle.da_lang.specs.declared.program.SetupCall.{SetupCall}
use Rattle.da_lang.specs.Labels.{is_open, label_before, open_handlers, takes}
use Rattle.da_lang.specs.Matching.{Row, matched_entry}
use Rattle.da_lang.specs.Queries.{holds}
use Rattle.da_lang.specs.Runs.{Halt, AtYield, UsedUp, Faults, Ran, max_turns, run_to_yield}
use Rattle.da_lang.specs.Shaped.{Shaped, ShapedData, ShapedTasks, IsEntry, IsItemOf, IsSetUp, IsTask}
use Rattle.da_lang.specs.Steps.{Step, Go, Take, TimeOut, Deliver, Stepped, after_halt, class_step, closing, first_tasks, go_waiting, handle, handled, moved, past_await, past_label, past_timeout, preparing, proc_step, received_at, setup_of_decl, step_in, take_alternative, take_waiting, time_out_waiting, try_handler}
use Rattle.da_lang.specs.Turns.{bind_all, bind_found, do_all, kind_of}
use Rattle.da_lang.specs.World.{Data, Task, Do, Loop, Prepare, World, at_number, Phase, New, Waiting}
use Rattle.da_lang.proofs.RunBounds.{by_truth}
use Rattle.da_types.specs.KeepsShaped.{LeavesShaped, MayStep, MayTell, StepsShaped}
use Rattle.da_types.proofs.shaped.DataKept.{bound-me, bound_shaped, received_shaped}
use Rattle.da_types.proofs.shaped.Known.{IsWholeProgram}
use Rattle.da_types.proofs.shaped.RunsKept.{RunLeaves, leaves_then, run_to_yield_leaves, stays}
use Rattle.da_types.proofs.shaped.StatementValues.{alt_row_fits, handler_row_fits}
use Rattle.da_types.proofs.shaped.TasksKept.{alt_block, timeout_block, block_tasks, do_all_tasks, handler_item, run_item}
use Rattle.da_types.proofs.shaped.TurnsKept.{found_bound}
use Rattle.da_types.proofs.totality.Worlds.{numbered_has}

module _ (p : Program) (me : ℕ) where
  -- the end and a fault are told
  closing_told : (halt : Halt) → All (MayTell p me) (closing me halt)
  closing_told AtYield = All-nil (MayTell p me)
  closing_told UsedUp = All-cons (MayTell p me) (End me) [] tt (All-nil (MayTell p me))
  closing_told (Faults kind line) = All-cons (MayTell p me) (Fault me kind line) [] tt (All-nil (MayTell p me))

  told_step : (first : Action) (actions : List Action) (halt : Halt) → MayTell p me first → All (MayTell p me) actions → All (MayTell p me) (first ∷ actions ++ closing me halt)
  told_step first actions halt one others = All-cons (MayTell p me) first (actions ++ closing me halt) one (All-append (MayTell p me) actions (closing me halt) others (closing_told halt))

module _ (p : Program) (c : Class) where
  abbrev StepLeaves : ℕ → Option Stepped → Type 0
  StepLeaves me step = IfSome step (StepsShaped p me)

  moved_leaves : (me told k : ℕ) (ran : Ran) → told ≡ me → RunLeaves p c me ran → StepsShaped p me (moved told k ran)
  moved_leaves me told k ran same one = subst (λ z. StepsShaped p me (moved z k ran)) (sym same) (record {
    same = one.same;
    shaped = record { class = c; knows = one.knows; todo = subst (λ z. ShapedTasks p c z ran.todo) (sym one.same) one.tasks };
    tells = told_step p me (Took me k) ran.actions ran.halt tt one.tells;
  })

  -- what there is to do at first
  prepared : (me : ℕ) (decl : ProcDecl) (setup : Option SetupCall) → at_number p.procs me ≡ Some decl → decl.setup ≡ setup → ShapedTasks p c me (preparing setup)
  prepared me decl None there is = All-nil (IsTask p c me)
  prepared me decl (Some call) there is = All-cons (IsTask p c me) (Prepare call) [] (subst (λ z. IsSetUp z call) (sym there) is) (All-nil (IsTask p c me))

  set_up : (me : ℕ) (found : Option ProcDecl) → at_number p.procs me ≡ found → ShapedTasks p c me (preparing (setup_of_decl found))
  set_up me None is = All-nil (IsTask p c me)
  set_up me (Some decl) is = prepared me decl decl.setup is refl

  first_shaped : (me : ℕ) → ShapedTasks p c me (first_tasks p c me)
  first_shaped me =
      All-append (IsTask p c me) (preparing (setup_of_decl (at_number p.procs me))) (do_all c.run []) (set_up me (at_number p.procs me) refl)
      (do_all_tasks p c me c.run [] (λ j h. run_item c j h) (All-nil (IsTask p c me)))

  module _ (f : IsWholeProgram p) where
    -- MOVES
    module _ (d : Data) (s : ShapedData p c d) where
      label_leaves : (todo : List Task) (kind : ItemKind-F ItemKind Alt Item RBranch) → ShapedTasks p c d.me todo → StepLeaves d.me (past_label c d todo kind)
      label_leaves todo (Label l) rest = moved_leaves d.me d.me 0 (run_to_yield c 1 d todo) refl (run_to_yield_leaves p c f 1 d todo s rest)
      label_leaves todo _ rest = tt

      go_leaves : (todo : List Task) → ShapedTasks p c d.me todo → StepLeaves d.me (go_waiting c d todo)
      go_leaves [] rest = tt
      go_leaves (Do i ∷ todo) rest = label_leaves todo (kind_of i) (All-tail (IsTask p c d.me) (Do i) todo rest)
      go_leaves (Loop slot left body line ∷ todo) rest = tt
      go_leaves (Prepare call ∷ todo) rest = tt

      alternative_leaves : (i : Item) (alts : List Alt) (todo : List Task) (k : ℕ) (found : Option Alt) {timeout : Option (List Item)} {label : Option ℕ} → IsItemOf c i → kind_of i ≡ Await alts timeout label → at_number alts k ≡ found → ShapedTasks p c d.me todo → StepLeaves d.me (take_alternative c d todo k found)
      alternative_leaves i alts todo k None stands is at rest = tt
      alternative_leaves i alts todo k (Some a) stands is at rest =
          let r = out-Alt a in
          let h = numbered_has alts k a at in
          let bound = found_bound p c r.found r.binds d s (λ n row finds found. alt_row_fits p c d f s i stands alts a n row is h finds found) in
          let after = bind_found c.queries r.found r.binds d in
          let tasks = block_tasks p c d.me i r.body todo stands (alt_block i alts a is h) rest in
          let ran = run_to_yield c 1 after (do_all r.body todo) in
          let one = run_to_yield_leaves p c f 1 after (do_all r.body todo) bound.0 (subst (λ z. ShapedTasks p c z (do_all r.body todo)) (sym bound.1) tasks) in
          by_truth (StepLeaves d.me) (holds d r.cond []) (Some (moved d.me k ran)) None (λ true'. moved_leaves d.me d.me k ran refl (subst (λ z. RunLeaves p c z ran) bound.1 one)) (λ false'. tt)

      await_leaves : (i : Item) (todo : List Task) (k : ℕ) (kind : ItemKind-F ItemKind Alt Item RBranch) → IsItemOf c i → kind_of i ≡ kind → ShapedTasks p c d.me todo → StepLeaves d.me (past_await c d todo k kind)
      await_leaves i todo k (Await alts timeout label) stands is rest = alternative_leaves i alts todo k (at_number alts k) stands is refl rest
      await_leaves i todo k _ stands is rest = tt

      take_leaves : (k : ℕ) (todo : List Task) → ShapedTasks p c d.me todo → StepLeaves d.me (take_waiting c d k todo)
      take_leaves k [] rest = tt
      take_leaves k (Do i ∷ todo) rest = await_leaves i todo k (kind_of i) (All-head (IsTask p c d.me) (Do i) todo rest) refl (All-tail (IsTask p c d.me) (Do i) todo rest)
      take_leaves k (Loop slot left body line ∷ todo) rest = tt
      take_leaves k (Prepare call ∷ todo) rest = tt

      timeout_leaves : (i : Item) (todo : List Task) (kind : ItemKind-F ItemKind Alt Item RBranch) → IsItemOf c i → kind_of i ≡ kind → ShapedTasks p c d.me todo → StepLeaves d.me (past_timeout c d todo kind)
      timeout_leaves i todo (Await alts (Some body) label) stands is rest =
          let tasks = block_tasks p c d.me i body todo stands (timeout_block i alts body is) rest in
          let ran = run_to_yield c 1 d (do_all body todo) in
          by_truth (StepLeaves d.me) (list_any (λ alt. holds d (out-Alt alt).cond []) alts) None (Some (moved d.me (length alts + 1) ran))
          (λ true'. tt) (λ false'. moved_leaves d.me d.me (length alts + 1) ran refl (run_to_yield_leaves p c f 1 d (do_all body todo) s tasks))
      timeout_leaves i todo _ stands is rest = tt

      time_out_leaves : (todo : List Task) → ShapedTasks p c d.me todo → StepLeaves d.me (time_out_waiting c d todo)
      time_out_leaves [] rest = tt
      time_out_leaves (Do i ∷ todo) rest = timeout_leaves i todo (kind_of i) (All-head (IsTask p c d.me) (Do i) todo rest) refl (All-tail (IsTask p c d.me) (Do i) todo rest)
      time_out_leaves (Loop slot left body line ∷ todo) rest = tt
      time_out_leaves (Prepare call ∷ todo) rest = tt

    -- DELIVERIES
    module _ (m : Val) (q time : ℕ) (may : IsEntry p (record { message = m; peer = q; time = time })) where
      -- what handlers leave; the process has to do what it had to
      abbrev HandlersLeave : ℕ → Ran → Type 0
      HandlersLeave me ran = LeavesShaped p c me ran.data' [] ran.actions

      abbrev GoesOn : (ℕ → Data → Ran) → Type 0
      GoesOn go = (n : ℕ) (d : Data) → ShapedData p c d → HandlersLeave d.me (go n d)

      none_to_do : (me : ℕ) (d : Data) (todo : List Task) (actions : List Action) → LeavesShaped p c me d todo actions → LeavesShaped p c me d [] actions
      none_to_do me d todo actions one = record { same = one.same; knows = one.knows; tasks = All-nil (IsTask p c me); tells = one.tells }

      halt_leaves : (me : ℕ) (halt : Halt) (ran : Ran) (go : ℕ → Data → Ran) → HandlersLeave me ran → GoesOn go → HandlersLeave me (after_halt halt ran go)
      halt_leaves me (Faults kind line) ran go one others = one
      halt_leaves me AtYield ran go one others =
          leaves_then p c me ran.data' (go ran.turns ran.data').data' [] [] ran.actions (go ran.turns ran.data').actions one (others ran.turns ran.data' one.knows)
      halt_leaves me UsedUp ran go one others =
          leaves_then p c me ran.data' (go ran.turns ran.data').data' [] [] ran.actions (go ran.turns ran.data').actions one (others ran.turns ran.data' one.knows)

      try_leaves : (h : Handler) (n : ℕ) (d : Data) (row : Option Row) (go : ℕ → Data → Ran) → Has c.handlers h → ShapedData p c d → matched_entry d h.message h.from m q [] ≡ row → GoesOn go → HandlersLeave d.me (try_handler c h n d row go)
      try_leaves h n d None go among s is others = others n d s
      try_leaves h n d (Some row) go among s is others =
          let after = bind_all h.binds row d in
          let same = bound-me p c h.binds row d in
          let knows = bound_shaped p c h.binds row d s (handler_row_fits p c d f s h (record { message = m; peer = q; time = time }) row among may is) in
          let tasks = do_all_tasks p c after.me h.body [] (λ j k. handler_item c h j among k) (All-nil (IsTask p c after.me)) in
          let ran = run_to_yield c n after (do_all h.body []) in
          let one = none_to_do after.me ran.data' ran.todo ran.actions (run_to_yield_leaves p c f n after (do_all h.body []) knows tasks) in
          halt_leaves d.me ran.halt ran go (subst (λ z. HandlersLeave z ran) same one) others

      handle_leaves : (hs : List Handler) → ((h : Handler) → Has hs h → Has c.handlers h) → GoesOn (handle c m q hs)
      handle_leaves [] among n d s = none_to_do d.me d [] [] (stays p c d [] s (All-nil (IsTask p c d.me)))
      handle_leaves (h ∷ hs) among n d s =
          by_truth (HandlersLeave d.me) (nat_lt n max_turns) _ _
          (λ is. try_leaves h (n + 1) d (matched_entry d h.message h.from m q []) (handle c m q hs) (among h (inl refl)) s refl (handle_leaves hs (λ g k. among g (inr k))))
          (λ is. stays p c d [] s (All-nil (IsTask p c d.me)))

      delivered : (d : Data) (todo : List Task) → ShapedData p c d → ShapedTasks p c d.me todo → StepsShaped p d.me (handled todo d.me m q time (handle c m q (open_handlers c todo) 0 (received_at m q time d)))
      delivered d todo s rest =
          let ran = handle c m q (open_handlers c todo) 0 (received_at m q time d) in
          let one = handle_leaves (open_handlers c todo) (λ h k. (of_filter (is_open (label_before todo)) c.handlers h k).0) 0 (received_at m q time d) (received_shaped p c m q time d s may) in
          record {
            same = one.same;
            shaped = record { class = c; knows = one.knows; todo = subst (λ z. ShapedTasks p c z todo) (sym one.same) rest };
            tells = told_step p d.me (Got d.me q time (value_of m)) ran.actions ran.halt tt one.tells;
          }

    -- by the step and the phase
    class_step_leaves : (w : World) (step : Step) (phase : Phase) → ShapedData p c w.data' → ShapedTasks p c w.data'.me w.todo → MayStep p step → StepLeaves w.data'.me (class_step p c w step phase)
    class_step_leaves w Go New s rest may =
        let d = w.data' in
        moved_leaves d.me d.me 0 (run_to_yield c 0 d (first_tasks p c d.me)) refl (run_to_yield_leaves p c f 0 d (first_tasks p c d.me) s (first_shaped d.me))
    class_step_leaves w Go Waiting s rest may = go_leaves w.data' s w.todo rest
    class_step_leaves w (Take k) Waiting s rest may = take_leaves w.data' s k w.todo rest
    class_step_leaves w TimeOut Waiting s rest may = time_out_leaves w.data' s w.todo rest
    class_step_leaves w (Deliver m q time) Waiting s rest may =
        by_truth (StepLeaves w.data'.me) (takes c w m q) _ None (λ true'. delivered m q time may w.data' w.todo s rest) (λ false'. tt)
    class_step_leaves w _ _ s rest may = tt

found_step : (P : Stepped → Type 0) (step : Option Stepped) (r : Stepped) → step ≡ Some r → IfSome step P → P r
found_step P None r e holds = absurd (cc)
found_step P (Some x) r e holds = let same : x ≡ r = cc in subst P same holds

-- A STEP KEEPS WORLDS SHAPED
pub step_leaves : (p : Program) → IsWholeProgram p → (w : World) (step : Step) (r : Stepped) → Shaped p w → MayStep p step → proc_step p w step ≡ Some r → StepsShaped p w.data'.me r
step_leaves p f w step r shaped may is =
    let c = shaped.class in
    let of_class = ap (step_in p w step) shaped.knows.is_class in
    found_step (StepsShaped p w.data'.me) (class_step p c w step w.phase) r (sym of_class ∙ is) (class_step_leaves p c f w step w.phase shaped.knows shaped.todo may)

-- What a watch says beside a run.
use Rattle.std.proofs.Common.{◌≡◌, refl, sym, ◌∙◌, ap, subst, inl, inr, ◌<◌, Bool, true, false, List, [], ◌++◌, length, arith}
use Rattle.std.specs.Borrow.{Bor}
use Rattle.std.specs.Prelude.{◌↔◌, Result, IfOk, IsTrue}
use Rattle.std.specs.List.{list_any}
use Rattle.std.proofs.lemmas.Bool.{false≢true}
use Rattle.da_lang.specs.declared.event.Action.{Action}
use Rattle.da_lang.specs.declared.program.Program.{Program}
use Rattle.da_system.specs.SourceRun.{SrcRun}
use Rattle.da_core.specs.Compiled.{program_of}
use Rattle.da_core.specs.declared.compiled.Compiled.{Compiled}
use Rattle.run_watch.specs.declared.watcher.Watcher.{Watcher}
use Rattle.run_watch.specs.Beside.{HasDone, IsWatchOf}
use Rattle.run_watch.specs.Watching.{at_quiet, begun, beside, handed, hears_all, is_said, quiet}
use Rattle.schedule_walk.specs.Rest.{IsAtRest}
use Rattle.schedule_hunt.specs.declared.runs.Run.{Run}
use Rattle.schedule_hunt.specs.declared.what.Goal.{Goal}
use Rattle.schedule_hunt.specs.declared.what.Goal.TheVariants.{Watched}
use Rattle.schedule_hunt.specs.Runs.{StandsAfter}
use Rattle.schedule_hunt.specs.Shown.{IsBroken, IsReady, Reaches}

-- what is reached, by its kind
pub reaches_as : {E : Type 0} (program : Program) (goal form : Goal) (run : Run) (r : Result Bool E) → goal ≡ form → IfOk r (λ shown. (source : SrcRun) → StandsAfter program source run → IsTrue shown ↔ Reaches program form source)
    → IfOk r (λ shown. (source : SrcRun) → StandsAfter program source run → IsTrue shown ↔ Reaches program goal source)
reaches_as program goal form run r is told = subst (λ g. IfOk r (λ shown. (source : SrcRun) → StandsAfter program source run → IsTrue shown ↔ Reaches program g source)) (sym is) told

-- the watch that is looked for is one beside the program
pub watch_may : (program : Program) (goal : Goal) (watch : Bor Compiled) → goal ≡ Watched watch → IsReady program goal → IsWatchOf program watch.now
watch_may program goal watch is ready = subst (IsReady program) is ready

pub watch_there : (program : Program) (goal : Goal) (watch : Bor Compiled) → goal ≡ Watched watch → IsReady program goal → 0 < length (program_of watch.now).procs
watch_there program goal watch is ready = let may : IsWatchOf program watch.now = watch_may program goal watch is ready in omega (arith, may.count)

-- what it has told after these actions
pub told_beside : (watch : Program) (actions seen : List Action) (first last : Watcher) (none middle told slice : List Action) → none ≡ [] → HasDone watch (begun watch) first none middle → seen ≡ actions
    → HasDone watch (hears_all watch (begun watch).world (handed watch seen)) last middle told → slice ≡ told → slice ≡ (beside watch actions).actions
told_beside watch actions seen first last none middle told slice empty began same heard also =
    let does : List Action → List Action = λ xs. (hears_all watch (begun watch).world (handed watch xs)).actions in
    also ∙ heard.added ∙ ap (λ xs. xs ++ does seen) (began.added ∙ ap (λ xs. xs ++ (begun watch).actions) empty) ∙ ap (λ xs. (begun watch).actions ++ does xs) same

-- and when all is quiet after them
pub told_quiet : (watch : Program) (actions seen : List Action) (last : Watcher) (none told slice : List Action) → none ≡ [] → seen ≡ actions
    → HasDone watch (hears_all watch (hears_all watch (begun watch).world (handed watch seen)).world (quiet watch)) last none told → slice ≡ told → slice ≡ (at_quiet watch actions).actions
told_quiet watch actions seen last none told slice empty same heard also =
    let does : List Action → List Action = λ xs. (hears_all watch (hears_all watch (begun watch).world (handed watch xs)).world (quiet watch)).actions in
    also ∙ heard.added ∙ ap (λ xs. xs ++ does seen) empty ∙ ap does same

module _ (program watch : Program) (source : SrcRun) (actions told : List Action) (complains : Bool) (same : actions ≡ source.actions) (told_is : told ≡ (beside watch actions).actions) (counted : complains ≡ list_any is_said told) where
  now : complains ≡ list_any is_said (beside watch source.actions).actions
  now = counted ∙ ap (list_any is_said) told_is ∙ ap (λ xs. list_any is_said (beside watch xs).actions) same

  pub broken_now : complains ≡ true → IsTrue true ↔ IsBroken program watch source
  broken_now is = (λ yes'. inl (sym now ∙ is), λ broken. refl)

  module _ (never : complains ≡ false) (rests : Bool) (both : IsTrue rests ↔ IsAtRest program source.state) where
    pub broken_never : rests ≡ false → IsTrue false ↔ IsBroken program watch source
    broken_never is = (λ no'. absurd (false≢true no'), of)
      where
        of : IsBroken program watch source → IsTrue false
        of (inl early) = sym never ∙ now ∙ early
        of (inr (rest, late)) = sym is ∙ both.1 rest

    pub broken_late : (late : List Action) (ends : Bool) → rests ≡ true → late ≡ (at_quiet watch actions).actions → ends ≡ list_any is_said late → IsTrue ends ↔ IsBroken program watch source
    broken_late late ends is late_is counted_late = (λ yes'. inr (both.0 is, sym then' ∙ yes'), of)
      where
        then' : ends ≡ list_any is_said (at_quiet watch source.actions).actions
        then' = counted_late ∙ ap (list_any is_said) late_is ∙ ap (λ xs. list_any is_said (at_quiet watch xs).actions) same

        of : IsBroken program watch source → IsTrue ends
        of (inl early) = absurd (false≢true (sym never ∙ now ∙ early))
        of (inr (rest, complaint)) = then' ∙ complaint

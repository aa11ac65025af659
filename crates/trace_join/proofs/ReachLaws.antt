-- A run that is stuck gets each process as far along its trace as any run can, so it tells what can be joined.
use Rattle.std.specs.Prelude.{◌≡◌, ℕ, zero, suc, ◌+◌, ◌<◌, ◌≤◌, List, [], ◌++◌, map, length, Option, Some, None, slice_get, refl}
use Rattle.std.specs.List.{range_with_len}
use Rattle.std.proofs.Common.{sym, ap, ◌∙◌, subst, arith, append-nil}
use Rattle.std.proofs.lemmas.List.{length-append}
use Rattle.da_lang.specs.declared.event.Action.{Action}
use Rattle.da_lang.specs.declared.event.Event.{Event}
use Rattle.da_lang.specs.declared.program.Program.{Program}
use Rattle.da_lang.specs.Accepted.{IsAccepted}
use Rattle.da_lang.specs.World.{World, at_number, opening}
use Rattle.da_system.specs.Channels.{or_empty}
use Rattle.da_system.specs.SourceRun.{src_run}
use Rattle.da_system.specs.SystemStep.{SystemState, start}
use Rattle.da_system.proofs.SystemLaws.{length-opened}
use Rattle.trace_join.specs.Cuts.{Leads, Transition}
use Rattle.trace_join.specs.Joins.{IsReach, Joined, PartlyJoined, told_by}
use Rattle.trace_join.specs.Progress.{Exhausts, trace_of}
use Rattle.trace_join.specs.Remains.{Ahead, IsThere}
use Rattle.trace_join.proofs.BehindLaws.{LeavesMore, run_behind, to_come}
use Rattle.trace_join.proofs.ChannelLaws.{numbered_beside}
use Rattle.trace_join.proofs.SoundRuns.{sound_opening}
use Rattle.trace_join.proofs.Sublists.{none_there}

-- THE PROCESSES at the opening

opened_get : (program : Program) (first n k : ℕ) (w : World) → slice_get (map (opening program) (range_with_len first n)) k ≡ Some w
    → w ≡ opening program (first + k)
opened_get program first zero k w there = none_there there
opened_get program first (suc n) zero w there = (let same : w ≡ opening program first = cc in same)
    ∙ ap (opening program) (let same : first ≡ first + 0 = omega arith in same)
opened_get program first (suc n) (suc k) w there = opened_get program (first + 1) n k w there
    ∙ ap (opening program) (let same : first + 1 + k ≡ first + suc k = omega arith in same)

-- each is in its opening
pub opened_is : (program : Program) (p : ℕ) (w : World) → at_number (start program).worlds p ≡ Some w → w ≡ opening program p
opened_is program zero w there = none_there there
opened_is program (suc k) w there = opened_get program 1 (length program.procs) k w there
    ∙ ap (opening program) (let same : 1 + k ≡ suc k = omega arith in same)

module _ (program : Program) (traces : List (List Action)) (each : length traces ≡ length program.procs) where
  abbrev beside : length traces ≡ length (start program).worlds
  beside = each ∙ sym (length-opened program 1 (length program.procs))

  -- there is a process for each trace, and a trace for each process
  pub process_of : (p : ℕ) (trace : List Action) → at_number traces p ≡ Some trace → IsThere (start program) p
  process_of p trace at = numbered_beside traces (start program).worlds p trace at beside

  pub trace_there : (p : ℕ) → IsThere (start program) p → (trace : List Action) × (at_number traces p ≡ Some trace)
  trace_there p (w, there) = numbered_beside (start program).worlds traces p w there (sym beside)

-- what is ahead along traces is so along others that are the same where there are processes
ahead_as : (program : Program) (s g : SystemState) (traces traces' lefts : ℕ → List Action) (transitions : ℕ → List Transition)
    → ((p : ℕ) → IsThere s p → traces p ≡ traces' p)
    → Ahead program s g traces lefts transitions → Ahead program s g traces' lefts transitions
ahead_as program s g traces traces' lefts transitions same ahead = record {
  kind = ahead.kind;
  worlds = λ p w there.
      let (w', there', leads) = ahead.worlds p w there in
      (w', there', subst (λ (t : List Action). Leads program w t (transitions p) w' (lefts p)) (same p (w, there)) leads);
  messages = ahead.messages;
}

module _ (program : Program) (accepted : IsAccepted program) (traces : List (List Action)) (each : length traces ≡ length program.procs) where
  -- what another run leaves of a trace
  found_end : (others : List Event) → PartlyJoined program traces others → (p : ℕ) (found : Option (List Action)) → at_number traces p ≡ found → List Action
  found_end others partly p None at = []
  found_end others partly p (Some trace) at = (partly.tells p trace at).0

  ends_of : (others : List Event) → PartlyJoined program traces others → ℕ → List Action
  unfolding found_end
  ends_of others partly p = found_end others partly p (at_number traces p) refl

  ends_told : (others : List Event) (partly : PartlyJoined program traces others) (p : ℕ) (trace : List Action) → at_number traces p ≡ Some trace
      → trace ≡ told_by program others p ++ ends_of others partly p
  unfolding found_end ends_of
  ends_told others partly p trace at = of (at_number traces p) refl at
    where
      of : (found : Option (List Action)) (is : at_number traces p ≡ found) → found ≡ Some trace
          → trace ≡ told_by program others p ++ found_end others partly p found is
      of None is at = none_there at
      of (Some t) is at = (let same : trace ≡ t = cc in same) ∙ (partly.tells p t is).1

  module _ (events : List Event) (exhausts : Exhausts program traces events) where
    leaves_more : (others : List Event) (partly : PartlyJoined program traces others) → LeavesMore (start program) (ends_of others partly) exhausts.lefts
    leaves_more others partly =
        run_behind program accepted exhausts.state (ends_of others partly) exhausts.lefts exhausts.stuck 1
        (start program) others partly.runs.plain exhausts.transitions (sound_opening program accepted)
        (ahead_as program (start program) exhausts.state (trace_of traces)
        (to_come (src_run program others).actions (ends_of others partly)) exhausts.lefts exhausts.transitions
        (λ q there. told_whole q (trace_there program traces each q there)) exhausts.ahead)
        partly.runs.whole
      where
        told_whole : (q : ℕ) → (trace : List Action) × (at_number traces q ≡ Some trace)
            → trace_of traces q ≡ told_by program others q ++ ends_of others partly q
        told_whole q (trace, at) = ap or_empty at ∙ ends_told others partly q trace at

    -- no run gets a process further
    no_further : (others : List Event) (partly : PartlyJoined program traces others) (p : ℕ) (trace : List Action) → at_number traces p ≡ Some trace
        → length (told_by program others p) ≤ length (told_by program events p)
    no_further others partly p trace at =
        let (front, is) = leaves_more others partly p (process_of program traces each p trace at) in
        let theirs : length trace ≡ length (told_by program others p) + length (ends_of others partly p) = ap length (ends_told others partly p trace at)
        ∙ length-append (told_by program others p) (ends_of others partly p) in
        let ours : length trace ≡ length (told_by program events p) + length (exhausts.lefts p) = ap length (exhausts.told p trace at)
        ∙ length-append (told_by program events p) (exhausts.lefts p) in
        let more : length (ends_of others partly p) ≡ length front + length (exhausts.lefts p) = ap length is ∙ length-append front (exhausts.lefts p) in
        omega (arith, theirs, ours, more)

    pub is_partial : PartlyJoined program traces events
    is_partial = record { runs = exhausts.runs; tells = λ p trace at. (exhausts.lefts p, exhausts.told p trace at) }

    -- WHAT IT REACHES IS THE REACH of each process
    pub is_reach : (p : ℕ) (trace : List Action) → at_number traces p ≡ Some trace → IsReach program traces p (length (told_by program events p))
    is_reach p trace at = record { reached = (events, is_partial, refl); greatest = λ others partly. no_further others partly p trace at }

    -- where it reaches the end of each trace, it joins the traces
    pub joins_all : ((p : ℕ) (trace : List Action) → at_number traces p ≡ Some trace → exhausts.lefts p ≡ []) → Joined program traces events
    joins_all none = record {
      runs = exhausts.runs;
      tells = λ p trace at. sym (append-nil (told_by program events p)) ∙ ap (λ (l : List Action). told_by program events p ++ l) (sym (none p trace at))
          ∙ sym (exhausts.told p trace at);
    }

    -- and where it does not, no events join them
    pub joins_none : (p : ℕ) (trace : List Action) → at_number traces p ≡ Some trace → 0 < length (exhausts.lefts p) → (others : List Event)
        → Joined program traces others → ⊥
    joins_none p trace at some others joined =
        let partly : PartlyJoined program traces others = record {
          runs = joined.runs;
          tells = λ q t there. (
            [],
            sym (joined.tells q t there)
                ∙ sym (append-nil (told_by program others q)),
          );
        } in
        let within : length (told_by program others p) ≤ length (told_by program events p) = no_further others partly p trace at in
        let whole : length (told_by program others p) ≡ length trace = ap length (joined.tells p trace at) in
        let ours : length trace ≡ length (told_by program events p) + length (exhausts.lefts p) = ap length (exhausts.told p trace at)
        ∙ length-append (told_by program events p) (exhausts.lefts p) in
        omega (arith, within, whole, ours, some)

-- Before any event the search is ready.
use Rattle.std.specs.Prelude.{◌≡◌, ℕ, ◌<◌, ◌^◌, Bool, true, false, List, [], length, map, replicate, Some}
use Rattle.std.proofs.Common.{sym, ap, ◌∙◌, subst, arith}
use Rattle.std.proofs.lemmas.Bool.{false≢true}
use Rattle.std.proofs.lemmas.List.{length-map, length-replicate}
use Rattle.da_lang.specs.declared.event.Action.{Action}
use Rattle.da_lang.specs.declared.event.Event.{Event}
use Rattle.da_lang.specs.declared.program.Program.{Program}
use Rattle.da_lang.specs.World.{World, at_number, opening}
use Rattle.da_types.proofs.sound.AcceptedLaws.{is_sound}
use Rattle.da_core.specs.Compiled.{IsCompiled, program_of}
use Rattle.da_system.specs.Channels.{Channels, channel, no_messages, or_empty}
use Rattle.da_system.specs.SystemStep.{start}
use Rattle.trace_join.specs.declared.piece.Piece.{Piece}
use Rattle.trace_join.specs.declared.search.Search.{Search}
use Rattle.trace_join.specs.declared.track.Track.{Track}
use Rattle.trace_join.specs.Blocks.{AllCut}
use Rattle.trace_join.specs.Cuts.{IsCut}
use Rattle.trace_join.specs.Joins.{AreTraces}
use Rattle.trace_join.specs.Progress.{Came, trace_of}
use Rattle.trace_join.specs.Repeats.{TellRepeats}
use Rattle.trace_join.specs.Searching.{AllRepeats, IsOnTrack, Ready}
use Rattle.trace_join.proofs.ChannelLaws.{numbered_beside}
use Rattle.trace_join.proofs.ListEnds.{number_map, number_replicate, one_there}
use Rattle.trace_join.proofs.ProgressLaws.{came_opens}
use Rattle.trace_join.proofs.ReachLaws.{opened_is, trace_there}

module _ (program : Program) (traces : List (List Action)) (tracks : List Track) (cuts : List (List Piece)) (repeats : List (List Bool))
    (each : length traces ≡ length program.procs) (cut : AllCut program traces cuts) (repeated : AllRepeats traces repeats)
    (lefts : map (λ (t : Track). t.left.now) tracks ≡ traces) (pieces : map (λ (t : Track). t.pieces.now) tracks ≡ cuts)
    (repeating : map (λ (t : Track). t.repeats.now) tracks ≡ repeats) where
  abbrev as_many : length tracks ≡ length traces
  as_many = sym (length-map tracks (λ (t : Track). t.left.now)) ∙ ap length lefts

  opened_on : (p : ℕ) (w : World) → at_number (start program).worlds p ≡ Some w → (trace : List Action) × (at_number traces p ≡ Some trace)
      → IsOnTrack program w (trace_of traces p) tracks p
  opened_on p w there (trace, at) =
      let (track, on) = numbered_beside traces tracks p trace at (sym as_many) in
      let (pieces_of, at_cuts, is_cut) = cut p trace at in
      let (repeats_of, at_repeats, tell) = repeated p trace at in
      let left : track.left.now ≡ trace =
      one_there traces p track.left.now trace (ap (λ (l : List (List Action)). at_number l p) (sym lefts)
      ∙ number_map (λ (t : Track). t.left.now) tracks p track on) at in
      let trace_is : trace ≡ trace_of traces p = ap or_empty (sym at) in
      let pieces_are : track.pieces.now ≡ pieces_of =
      one_there cuts p track.pieces.now pieces_of (ap (λ (l : List (List Piece)). at_number l p) (sym pieces)
      ∙ number_map (λ (t : Track). t.pieces.now) tracks p track on) at_cuts in
      let repeats_are : track.repeats.now ≡ repeats_of =
      one_there repeats p track.repeats.now repeats_of (ap (λ (l : List (List Bool)). at_number l p) (sym repeating)
      ∙ number_map (λ (t : Track). t.repeats.now) tracks p track on) at_repeats in
      record {
        track = track;
        there = on;
        same = left ∙ trace_is;
        cut = subst (λ (x : World). IsCut program x (trace_of traces p) track.pieces.now) (sym (opened_is program p w there))
            (subst (λ (t : List Action). IsCut program (opening program p) t track.pieces.now) trace_is
            (subst (IsCut program (opening program p) trace) (sym pieces_are) is_cut));
        repeats = subst (λ (t : List Action). TellRepeats t track.repeats.now) trace_is (subst (TellRepeats trace) (sym repeats_are) tell);
      }

  pub opened_all : (p : ℕ) (w : World) → at_number (start program).worlds p ≡ Some w → IsOnTrack program w (trace_of traces p) tracks p
  opened_all p w there = opened_on p w there (trace_there program traces each p (w, there))

module _ (s : Search) (compiled : IsCompiled s.compiled.now) (traces : AreTraces (program_of s.compiled.now) s.traces.now) (cuts : List (List Piece))
    (repeats : List (List Bool))
    (cut : AllCut (program_of s.compiled.now) s.traces.now cuts) (repeated : AllRepeats s.traces.now repeats)
    (lefts : map (λ (t : Track). t.left.now) s.tracks ≡ s.traces.now) (pieces : map (λ (t : Track). t.pieces.now) s.tracks ≡ cuts)
    (repeating : map (λ (t : Track). t.repeats.now) s.tracks ≡ repeats)
    (waits : s.waits ≡ replicate (length s.traces.now) false) (queues : s.queues ≡ no_messages (length s.traces.now)) (schedule : s.schedule ≡ []) where
  abbrev size : length s.tracks ≡ length s.traces.now
  size = sym (length-map s.tracks (λ (t : Track). t.left.now)) ∙ ap length lefts

  -- THE SEARCH IS READY
  pub ready_first : Ready s
  ready_first = record {
    compiled = compiled;
    state = start (program_of s.compiled.now);
    lefts = trace_of s.traces.now;
    came = subst (λ (events : List Event). Came (program_of s.compiled.now) s.traces.now events (start (program_of s.compiled.now)) (trace_of s.traces.now))
        (sym schedule)
        (came_opens (program_of s.compiled.now) s.traces.now);
    each = size ∙ traces.count;
    few = (let few : length (program_of s.compiled.now).procs < 2 ^ 16 = (is_sound (program_of s.compiled.now) compiled.accepted).few in omega
        (arith, few, size, traces.count));
    rows = ap length queues ∙ length-replicate (length s.traces.now) (replicate (length s.traces.now) []) ∙ sym size;
    known = ap length waits ∙ length-replicate (length s.traces.now) false ∙ sym size;
    holds = λ p q there_p there_q. ap (λ (c : Channels). channel c p q) (ap no_messages (sym traces.count) ∙ sym queues);
    on_track = opened_all (program_of s.compiled.now) s.traces.now s.tracks cuts repeats traces.count cut repeated lefts pieces repeating;
    waiting = λ p t is there. absurd (false≢true (number_replicate (length s.traces.now) p false true (ap (λ (l : List Bool). at_number l p) (sym waits)
        ∙ is)));
  }

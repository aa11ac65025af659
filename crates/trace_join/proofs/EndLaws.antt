-- Where no process can go on, the search tells whether the traces are joined, and which processes are blocked.
use Rattle.std.specs.Prelude.{◌≡◌, ◌⊎◌, ℕ, zero, suc, ◌+◌, ◌<◌, ◌≤◌, Bool, true, All, List, [], ◌∷◌, length, map, Some, slice_get, ◌++◌, slice_index_or, drop}
use Rattle.std.proofs.Common.{sym, ap, ◌∙◌, subst, inl, inr, arith, append_assoc}
use Rattle.std.proofs.lemmas.Option.{slice_get-get_or}
use Rattle.std.proofs.lemmas.List.{length-append, length-map, nil_from_length}
use Rattle.da_values.specs.Value.{val_of}
use Rattle.da_lang.specs.declared.event.Action.{Action}
use Rattle.da_lang.specs.declared.event.Action.TheVariants.{Got}
use Rattle.da_lang.specs.declared.event.Event.{Event}
use Rattle.da_lang.specs.declared.program.Program.{Program}
use Rattle.da_lang.specs.declared.ty.ChannelKind.{ChannelKind}
use Rattle.da_lang.specs.Accepted.{IsAccepted}
use Rattle.da_lang.specs.World.{World, at_number}
use Rattle.da_core.specs.Compiled.{program_of}
use Rattle.da_system.specs.Channels.{MessageInFlight, channel}
use Rattle.da_system.specs.SoundState.{IsSoundState}
use Rattle.da_core.specs.declared.compiled.Compiled.{Compiled}
use Rattle.trace_join.specs.declared.fault.Block.{Block}
use Rattle.trace_join.specs.declared.piece.Piece.{Piece}
use Rattle.trace_join.specs.declared.search.Search.{Search}
use Rattle.trace_join.specs.declared.track.Track.{Track}
use Rattle.trace_join.specs.Blocks.{NoLonger, block_of, blocks_left}
use Rattle.trace_join.specs.Cuts.{AsksInVain, IsCut, IsOver}
use Rattle.trace_join.specs.Joins.{AreBlocks, AreTraces, Joined, NoneJoins, told_by}
use Rattle.trace_join.specs.Progress.{Exhausts}
use Rattle.trace_join.specs.Remains.{CanArrive, IsThere}
use Rattle.trace_join.specs.Searching.{IsOnTrack, Ready}
use Rattle.trace_join.specs.Waiting.{CannotGet, Waits}
use Rattle.trace_join.proofs.BlockLaws.{are_blocks}
use Rattle.trace_join.proofs.ChannelLaws.{numbered_beside, sender_there}
use Rattle.trace_join.proofs.ListEnds.{all_number, blocks_on, no_longer, none_left, not_longer, number_map, one_there, some_left}
use Rattle.trace_join.proofs.PieceLaws.{no_piece}
use Rattle.trace_join.proofs.ProgressLaws.{Lacks, came_ends, came_sound, came_stuck, can_has}
use Rattle.trace_join.proofs.ReachLaws.{joins_all, joins_none}
use Rattle.trace_join.proofs.Sublists.{none_there, number_of}

-- what is left of each trace
abbrev pub lefts_of : List Track → List (List Action)
lefts_of tracks = map (λ (t : Track). t.left.now) tracks

-- what these events and lists tell of the join of traces
pub record Tells (program : Program) (traces : List (List Action)) (events : List Event) (lefts : List (List Action)) : Type 0 where
  pub joined : blocks_left 1 traces lefts ≡ [] → Joined program traces events
  pub none : 0 < length (blocks_left 1 traces lefts) → NoneJoins program traces
  pub blocks : AreBlocks program traces (blocks_left 1 traces lefts)
  pub shorter : NoLonger traces lefts

module _ (s : Search) (ready : Ready s) where
  abbrev program : Program
  program = program_of s.compiled.now

  accepted : IsAccepted (program_of s.compiled.now)
  accepted = ready.compiled.accepted

  sound : IsSoundState (program_of s.compiled.now) ready.state
  sound = came_sound (program_of s.compiled.now) ready.compiled.accepted ready.came

  -- a message that is not in the queues cannot arrive
  lacks : (p : ℕ) → IsThere ready.state p → (trace : List Action) → CannotGet program.kind s.queues p trace → Lacks ready.state p trace
  lacks p there [] cannot = cannot
  lacks p there (Got q from time m ∷ behind) cannot = λ can.
      let message : MessageInFlight = record { message = val_of m; time = time } in
      let (i, at) = number_of (channel ready.state.channels from p) message (can_has ready.state.kind (channel ready.state.channels from p) message can) in
      let from_there : IsThere ready.state from = sender_there program ready.state sound from p i message at in
      cannot (subst (λ (kind : ChannelKind). CanArrive kind (channel s.queues from p) (record { message = val_of m; time = time })) sound.kind
      (subst (λ (messages : List MessageInFlight). CanArrive ready.state.kind messages (record { message = val_of m; time = time }))
      (ready.holds from p from_there there) can))
  lacks p there (_ ∷ behind) cannot = cannot

  module _ (all : All (λ (waits : Bool). waits ≡ true) s.waits) where
    abbrev Ends : ℕ → World → Type 0
    Ends p w = IsOver program w (ready.lefts p) ⊎ (AsksInVain program (ready.lefts p) ⊎ Lacks ready.state p (ready.lefts p))

    ended : (p : ℕ) (w : World) → at_number ready.state.worlds p ≡ Some w → (t : IsOnTrack program w (ready.lefts p) s.tracks p)
        → Waits program.kind s.queues p t.track → Ends p w
    ended p w at t (inl none) = elim (no_piece program w (ready.lefts p) (subst (λ (pieces : List Piece). IsCut program w (ready.lefts p) pieces) none t.cut)) [
      | inl over ↦ inl over
      | inr vain ↦ inr (inl vain)
    ]
    ended p w at t (inr cannot) = inr (inr (lacks p (w, at) (ready.lefts p) (subst (CannotGet program.kind s.queues p) t.same cannot)))

    each_ends : (p : ℕ) (w : World) → at_number ready.state.worlds p ≡ Some w → Ends p w
    each_ends p w at =
        let t : IsOnTrack program w (ready.lefts p) s.tracks p = ready.on_track p w at in
        let (b, known) = numbered_beside s.tracks s.waits p t.track t.there (sym ready.known) in
        let waits : at_number s.waits p ≡ Some true = known ∙ ap (λ (x : Bool). Some x) (all_number (λ (x : Bool). x ≡ true) s.waits p b all known) in
        ended p w at t (ready.waiting p t.track waits t.there)

    abbrev exhausts : Exhausts (program_of s.compiled.now) s.traces.now s.schedule
    exhausts = came_ends program s.traces.now s.schedule ready.state ready.lefts ready.came (came_stuck program accepted ready.came each_ends)

    module _ (each : length s.traces.now ≡ length program.procs) where
      abbrev as_many : length (lefts_of s.tracks) ≡ length s.traces.now
      as_many = length-map s.tracks (λ (t : Track). t.left.now) ∙ ready.each ∙ sym each

      -- what is left of a trace is on its track
      left_is : (p : ℕ) (left : List Action) → at_number (lefts_of s.tracks) p ≡ Some left → ready.lefts p ≡ left
      left_is p left at =
          let (w, there) = numbered_beside (lefts_of s.tracks) ready.state.worlds p left at (as_many ∙ each ∙ sym sound.each) in
          let t : IsOnTrack program w (ready.lefts p) s.tracks p = ready.on_track p w there in
          sym t.same ∙ one_there (lefts_of s.tracks) p t.track.left.now left (number_map (λ (x : Track). x.left.now) s.tracks p t.track t.there) at

      pub tells : Tells (program_of s.compiled.now) s.traces.now s.schedule (lefts_of s.tracks)
      tells = record {
        joined = λ none. joins_all program accepted s.traces.now each s.schedule exhausts (λ p trace at. nothing p trace at none);
        none = λ some. blocked (some_left 1 s.traces.now (lefts_of s.tracks) some);
        blocks = are_blocks program accepted s.traces.now each s.schedule exhausts (lefts_of s.tracks) as_many
            (λ p trace left at at_left. left_is p left at_left);
        shorter = no_longer s.traces.now (lefts_of s.tracks) shorter;
      }
        where
          nothing : (p : ℕ) (trace : List Action) → at_number s.traces.now p ≡ Some trace → blocks_left 1 s.traces.now (lefts_of s.tracks) ≡ []
              → ready.lefts p ≡ []
          nothing zero trace at none = none_there at
          nothing (suc k) trace at none =
              let (left, there) = numbered_beside s.traces.now (lefts_of s.tracks) (suc k) trace at (sym as_many) in
              left_is (suc k) left there ∙ none_left 1 s.traces.now (lefts_of s.tracks) as_many none k left there

          blocked : (k : ℕ) × (left : List Action) × (slice_get (lefts_of s.tracks) k ≡ Some left) × (0 < length left) → NoneJoins program s.traces.now
          blocked (k, left, there, more) =
              let (trace, at) = numbered_beside (lefts_of s.tracks) s.traces.now (suc k) left there as_many in
              let size : length (ready.lefts (suc k)) ≡ length left = ap length (left_is (suc k) left there) in
              joins_none program accepted s.traces.now each s.schedule exhausts (suc k) trace at (omega (arith, size, more))

          shorter : (k : ℕ) (trace left : List Action) → slice_get s.traces.now k ≡ Some trace → slice_get (lefts_of s.tracks) k ≡ Some left
              → length left ≤ length trace
          shorter k trace left at at_left =
              let size : length (ready.lefts (suc k)) ≡ length left = ap length (left_is (suc k) left at_left) in
              let whole : length trace ≡ length (told_by program s.schedule (suc k)) + length (ready.lefts (suc k)) =
              ap length (exhausts.told (suc k) trace at) ∙ length-append (told_by program s.schedule (suc k)) (ready.lefts (suc k)) in
              omega (arith, size, whole)

-- THE LIST OF THE BLOCKS, place by place

pub rest_fits : (traces : List (List Action)) (tracks : List Track) (place all : ℕ) (trace : List Action) (track : Track) → place < length traces
    → length tracks ≡ length traces
    → all ≡ length (slice_index_or traces place trace) → NoLonger traces (lefts_of tracks) → length (slice_index_or tracks place track).left.now ≤ all
rest_fits traces tracks place all trace track within same is shorter =
    let fits : length (slice_index_or tracks place track).left.now ≤ length (slice_index_or traces place trace) =
    not_longer traces (lefts_of tracks) place (slice_index_or traces place trace) (slice_index_or tracks place track).left.now shorter
    (slice_get-get_or traces place trace within)
    (number_map (λ (t : Track). t.left.now) tracks (suc place) (slice_index_or tracks place track)
    (slice_get-get_or tracks place track (omega (arith, within, same)))) in
    omega (arith, fits, is)

pub blocks_step : (traces : List (List Action)) (tracks : List Track) (place all rest p next : ℕ) (trace : List Action) (track : Track)
    (old new whole : List (ℕ × ℕ)) → place < length traces
    → length tracks ≡ length traces → all ≡ length (slice_index_or traces place trace) → rest ≡ length (slice_index_or tracks place track).left.now
    → p ≡ place + 1 → next ≡ place + 1
    → new ≡ old ++ block_of p all rest → old ++ blocks_left (place + 1) (drop place traces) (drop place (lefts_of tracks)) ≡ whole
    → new ++ blocks_left (next + 1) (drop next traces) (drop next (lefts_of tracks)) ≡ whole
blocks_step traces tracks place all rest p next trace track old new whole within same alls rests p_is next_is added before =
    let here : List Action = slice_index_or traces place trace in
    let left : List Action = (slice_index_or tracks place track).left.now in
    let behind : List (ℕ × ℕ) = blocks_left (place + 1 + 1) (drop (suc place) traces) (drop (suc place) (lefts_of tracks)) in
    let block : block_of p all rest ≡ block_of (place + 1) (length here) (length left) =
    ap (λ n. block_of n all rest) p_is ∙ ap (λ n. block_of (place + 1) n rest) alls ∙ ap (block_of (place + 1) (length here)) rests in
    let next_place : next ≡ suc place = omega (arith, next_is) in
    ap (λ n. new ++ blocks_left (n + 1) (drop next traces) (drop next (lefts_of tracks))) next_is
    ∙ ap (λ n. new ++ blocks_left (place + 1 + 1) (drop n traces) (drop n (lefts_of tracks))) next_place
    ∙ ap (λ (l : List (ℕ × ℕ)). l ++ behind) (added ∙ ap (λ (l : List (ℕ × ℕ)). old ++ l) block)
    ∙ append_assoc old (block_of (place + 1) (length here) (length left)) behind
    ∙ ap (λ (l : List (ℕ × ℕ)). old ++ l) (sym (blocks_on traces (lefts_of tracks) (place + 1) place here left (slice_get-get_or traces place trace within)
    (number_map (λ (t : Track). t.left.now) tracks (suc place) (slice_index_or tracks place track)
    (slice_get-get_or tracks place track (omega (arith, within, same))))))
    ∙ before

-- THE ANSWER

abbrev pub shown : List Block → List (ℕ × ℕ)
shown blocks = map {B = ℕ × ℕ} (λ (b : Block). (b.process, b.line)) blocks

pub at_end : (s : Search) (compiled : Compiled) (traces : List (List Action)) → Ready s → All (λ (waits : Bool). waits ≡ true) s.waits
    → s.compiled.now ≡ compiled → s.traces.now ≡ traces
    → AreTraces (program_of compiled) traces → Tells (program_of compiled) traces s.schedule (lefts_of s.tracks)
at_end s compiled traces ready all compiled_is traces_is are =
    subst (λ (ts : List (List Action)). Tells (program_of compiled) ts s.schedule (lefts_of s.tracks)) traces_is
    (subst (λ (c : Compiled). Tells (program_of c) s.traces.now s.schedule (lefts_of s.tracks)) compiled_is
    (tells s ready all (ap length traces_is ∙ are.count ∙ sym (ap (λ (c : Compiled). length (program_of c).procs) compiled_is))))

module _ (program : Program) (traces : List (List Action)) (events : List Event) (tracks tracks' : List Track)
    (told : Tells program traces events (lefts_of tracks)) (blocks : List Block) (count : ℕ)
    (same : tracks' ≡ tracks) (are : shown blocks ≡ blocks_left 1 traces (lefts_of tracks')) (size : count ≡ length blocks) where
  abbrev are_left : shown blocks ≡ blocks_left 1 traces (lefts_of tracks)
  are_left = are ∙ ap (λ (ts : List Track). blocks_left 1 traces (lefts_of ts)) same

  abbrev as_long : length blocks ≡ length (blocks_left 1 traces (lefts_of tracks))
  as_long = sym (length-map {B = ℕ × ℕ} blocks (λ (b : Block). (b.process, b.line))) ∙ ap length are_left

  pub joined_by : (events' : List Event) → events' ≡ events → count ≤ 0 → Joined program traces events'
  joined_by events' is none = subst (Joined program traces) (sym is)
      (told.joined (nil_from_length (blocks_left 1 traces (lefts_of tracks)) (omega (arith, none, size, as_long))))

  pub none_by : 0 < count → NoneJoins program traces
  none_by some = told.none (omega (arith, some, size, as_long))

  pub blocks_by : (blocks' : List Block) → blocks ≡ blocks' → AreBlocks program traces (shown blocks')
  blocks_by blocks' is = subst (λ (bs : List Block). AreBlocks program traces (shown bs)) is (subst (AreBlocks program traces) (sym are_left) told.blocks)

-- The next step of a process, as the code finds and makes it, is a step along its trace.
use Rattle.std.specs.Prelude.{◌≡◌, ℕ, zero, suc, ◌-◌, ◌<◌, Bool, true, false, List, [], ◌∷◌, ◌++◌, length, take, drop, slice_get, Some, is_some, refl}
use Rattle.std.proofs.Common.{sym, ap, ◌∙◌, subst, inl, inr, arith}
use Rattle.std.proofs.lemmas.Bool.{cases_eq, false≢true}
use Rattle.std.proofs.lemmas.Option.{slice_get_within}
use Rattle.da_values.specs.declared.value.Value.{Value}
use Rattle.da_values.specs.Sets.{Has}
use Rattle.da_values.specs.Value.{val_of}
use Rattle.da_values.proofs.Members.{Has-append_right}
use Rattle.da_lang.specs.declared.event.Action.{Action}
use Rattle.da_lang.specs.declared.event.Action.TheVariants.{Got, Took}
use Rattle.da_lang.specs.declared.event.Event.{Event}
use Rattle.da_lang.specs.declared.event.Event.TheVariants as event
use Rattle.da_lang.specs.declared.program.Program.{Program}
use Rattle.da_lang.specs.declared.ty.ChannelKind.{ChannelKind}
use Rattle.da_lang.specs.declared.ty.ChannelKind.TheVariants.{FifoReliable, UnorderedReliable, FifoUnreliable, UnorderedUnreliable}
use Rattle.da_lang.specs.Steps.{Deliver, Step}
use Rattle.da_lang.specs.World.{World, at_number}
use Rattle.da_core.specs.Compiled.{program_of}
use Rattle.da_system.specs.Channels.{Channels, MessageInFlight, channel}
use Rattle.da_system.specs.SoundState.{IsSoundState}
use Rattle.da_system.specs.SystemStep.{SystemState}
use Rattle.trace_join.specs.declared.piece.Piece.{Piece}
use Rattle.trace_join.specs.declared.search.Search.{Search}
use Rattle.trace_join.specs.declared.track.Next.{Next}
use Rattle.trace_join.specs.declared.track.Track.{Track}
use Rattle.trace_join.specs.Cuts.{Follows, IsCut, is_timeout, step_asked}
use Rattle.trace_join.specs.Fetching.{Fetched}
use Rattle.trace_join.specs.Progress.{Came, took_event}
use Rattle.trace_join.specs.Remains.{IsThere}
use Rattle.trace_join.specs.Repeats.{IsGotAgain, TellRepeats}
use Rattle.trace_join.specs.Searching.{IsAsked, IsOnTrack, Made, Ready}
use Rattle.trace_join.specs.Sending.{IsOneOf, SameElsewhere}
use Rattle.trace_join.specs.Traces.{message_from, messages_from}
use Rattle.trace_join.specs.Tracks.{FitsNext, IsNext}
use Rattle.trace_join.specs.Waiting.{CannotGet, Waits}
use Rattle.trace_join.proofs.ChannelLaws.{HasChannel, numbered_beside}
use Rattle.trace_join.proofs.DeliveryLaws.{Fetching, fetch_any, fetch_doubled, fetch_first, fetch_last, fetch_losing}
use Rattle.trace_join.proofs.EventLaws.{after_step}
use Rattle.trace_join.proofs.PieceLaws.{FirstPiece, first_piece}
use Rattle.trace_join.proofs.ProgressLaws.{came_delivers, came_sound, came_took, has_channels}
use Rattle.trace_join.proofs.StepLaws.{step_told}
use Rattle.trace_join.proofs.Updates.{updated}

-- LISTS

head_of : {A : Type 0} (xs : List A) (x : A) → slice_get xs 0 ≡ Some x → (others : List A) × (xs ≡ x ∷ others)
head_of [] x there = absurd (false≢true (ap is_some there))
head_of (y ∷ ys) x there = let same : y ≡ x = cc in (ys, ap (λ z. z ∷ ys) same)

pub number_there : {A : Type 0} (xs : List A) (p : ℕ) → IsOneOf (length xs) p → (x : A) × (at_number xs p ≡ Some x)
number_there xs zero one = absurd (omega (arith, one.0))
number_there {A} xs (suc k) one = of xs k (omega (arith, one.1))
  where
    of : (ys : List A) (j : ℕ) → j < length ys → (x : A) × (slice_get ys j ≡ Some x)
    of [] j within = absurd (omega (arith, within))
    of (y ∷ ys) zero within = (y, refl)
    of (y ∷ ys) (suc j) within = of ys j (omega (arith, within))

-- A DELIVERY

-- the way in which the code has fetched a message, for each kind of channel
fetched_so : (program : Program) (g : SystemState) (from p : ℕ) (l : MessageInFlight) (left : List Action) → HasChannel g.channels from p → (kind : ChannelKind)
    → g.kind ≡ kind
    → (again : Bool) (new : List MessageInFlight) (events : List Event) → Fetched kind from p l again (channel g.channels from p) new events
    → (again ≡ false → Has (messages_from from left) l → ⊥)
    → Fetching program g from p l left new events
fetched_so program g from p l left has FifoReliable kind again new events (is, are) once =
    subst (λ (es : List Event). Fetching program g from p l left new es) (sym are) (fetch_first program g from p l left has new kind is)
fetched_so program g from p l left has UnorderedReliable kind again new events (i, there, is, are) once =
    subst (λ (es : List Event). Fetching program g from p l left new es) (sym are)
    (subst (λ (ls : List MessageInFlight). Fetching program g from p l left ls (event.Deliver from p i ∷ [])) (sym is)
    (fetch_any program g from p l left has i kind there))
fetched_so program g from p l left has FifoUnreliable kind again new events (front, is, none, are) once =
    subst (λ (es : List Event). Fetching program g from p l left new es) (sym are) (fetch_losing program g from p l left has front new kind is none)
fetched_so program g from p l left has UnorderedUnreliable kind true new events (i, there, both) once =
    subst (λ (es : List Event). Fetching program g from p l left new es) (sym both.1)
    (subst (λ (ls : List MessageInFlight). Fetching program g from p l left ls (event.Repeat from p i ∷ event.Deliver from p i ∷ [])) (sym both.0)
    (fetch_doubled program g from p l left has i kind there))
fetched_so program g from p l left has UnorderedUnreliable kind false new events (i, there, both) once =
    subst (λ (es : List Event). Fetching program g from p l left new es) (sym both.1)
    (subst (λ (ls : List MessageInFlight). Fetching program g from p l left ls (event.Deliver from p i ∷ [])) (sym both.0)
    (fetch_last program g from p l left has i kind there (once refl)))

-- what is not got again after some actions is not got after more of them
got_later : (a : Action) (front left : List Action) (q from t : ℕ) (m : Value) → a ≡ Got q from t m
    → Has (messages_from from left) (record { message = val_of m; time = t }) → IsGotAgain a (front ++ left)
got_later a front left q from t m is has = subst (λ (x : Action). IsGotAgain x (front ++ left)) (sym is) (of front)
  where
    of : (xs : List Action) → Has (messages_from from (xs ++ left)) (record { message = val_of m; time = t })
    of [] = has
    of (x ∷ xs) = Has-append_right (message_from from x) (messages_from from (xs ++ left)) (record { message = val_of m; time = t }) (of xs)

pub tell_after : (front left : List Action) (repeats : List Bool) → TellRepeats (front ++ left) repeats → TellRepeats left repeats
tell_after [] left repeats tells = tells
tell_after (x ∷ front) left repeats tells = tell_after front left repeats tells.1

-- AT A PLACE OF THE SEARCH

module _ (s : Search) (ready : Ready s) (place : ℕ) (t : Track) (at_track : slice_get s.tracks place ≡ Some t) where
  abbrev pub program : Program
  program = program_of s.compiled.now

  pub sound : IsSoundState program ready.state
  sound = came_sound (program_of s.compiled.now) ready.compiled.accepted ready.came

  pub place_within : place < length s.tracks
  place_within = slice_get_within s.tracks place t at_track

  pub world : (w : World) × (at_number ready.state.worlds (suc place) ≡ Some w)
  world = numbered_beside s.tracks ready.state.worlds (suc place) t at_track (ready.each ∙ sym sound.each)

  abbrev pub w : World
  w = world.0

  on : IsOnTrack program w (ready.lefts (suc place)) s.tracks (suc place)
  on = ready.on_track (suc place) world.0 world.1

  same_track : on.track ≡ t
  same_track = let same : Some on.track ≡ Some t = sym on.there ∙ at_track in cc

  left_is : t.left.now ≡ ready.lefts (suc place)
  left_is = ap (λ (x : Track). x.left.now) (sym same_track) ∙ on.same

  cut_is : IsCut program w (ready.lefts (suc place)) t.pieces.now
  cut_is = subst (λ (x : Track). IsCut program w (ready.lefts (suc place)) x.pieces.now) same_track on.cut

  tells : TellRepeats (ready.lefts (suc place)) t.repeats.now
  tells = subst (λ (x : Track). TellRepeats (ready.lefts (suc place)) x.repeats.now) same_track on.repeats

  first_of : (piece : Piece) (pieces : List Piece) → t.pieces.now ≡ piece ∷ pieces → FirstPiece program w (ready.lefts (suc place)) piece pieces
  first_of piece pieces are = first_piece program w (ready.lefts (suc place)) piece pieces (subst (IsCut program w (ready.lefts (suc place))) are cut_is)

  some_told : (actions : List Action) (step : Step) → ((left : List Action) → step_asked w (actions ++ left) ≡ Some step) → 0 < length actions
  some_told [] step asks = absurd (false≢true (ap is_some (asks [])))
  some_told (a ∷ actions) step asks = omega arith

  size_of : (size : ℕ) (trace actions : List Action) → take size trace ≡ actions → 0 < length actions → 0 < size
  size_of zero trace actions is some = absurd (let none : 0 ≡ length actions = ap length is in omega (arith, some, none))
  size_of (suc n) trace actions is some = omega arith

  -- the next piece has actions, and is within what is left
  pub fits_next : FitsNext t
  fits_next piece pieces are =
      let first : FirstPiece program w (ready.lefts (suc place)) piece pieces = first_of piece pieces are in
      let left : length t.left.now ≡ length (ready.lefts (suc place)) = ap length left_is in (
        size_of piece.size (ready.lefts (suc place)) first.r.actions first.told
            (some_told first.r.actions first.step (step_told program w first.step first.r first.follows.makes).asks),
        omega (arith, first.fits, left),
      )

  module _ (n : Next) (next : IsNext t n) where
    pub first : FirstPiece program w (ready.lefts (suc place)) next.piece n.behind.pieces.now
    first = first_of next.piece n.behind.pieces.now next.pieces

    pub told_is : n.told.now ≡ first.r.actions
    told_is = next.told ∙ ap (take next.piece.size) left_is ∙ first.told

    pub behind_is : n.behind.left.now ≡ first.left
    behind_is = next.left ∙ ap (drop next.piece.size) left_is ∙ first.rest

    pub others : (rest : List Action) × (n.told.now ≡ n.asked.now ∷ rest)
    others = head_of n.told.now n.asked.now next.asked

    pub begins : ready.lefts (suc place) ≡ n.asked.now ∷ (others.0 ++ first.left)
    begins = first.follows.tells ∙ ap (λ (actions : List Action). actions ++ first.left) (sym told_is ∙ others.1)

    -- what is known of repeats holds after it
    pub tells_after : TellRepeats first.left t.repeats.now
    tells_after = tell_after first.r.actions first.left t.repeats.now
        (subst (λ (trace : List Action). TellRepeats trace t.repeats.now) first.follows.tells tells)

    asked_so : (a : Action) (rest : List Action) → step_asked w (a ∷ rest) ≡ Some first.step → IsAsked a
    asked_so (Took p k) rest asks = tt
    asked_so (Got q p time m) rest asks = tt
    asked_so _ rest asks = absurd (false≢true (ap is_some asks))

    -- it is asked by a `took` or a `got`
    pub is_asked : IsAsked n.asked.now
    is_asked = asked_so n.asked.now (others.0 ++ first.left) (ap (step_asked w) (sym begins) ∙ first.follows.asks)

    not_again : n.again ≡ false → IsGotAgain n.asked.now (others.0 ++ first.left) → ⊥
    not_again once again =
        let counted : length t.left.now - 1 ≡ length (others.0 ++ first.left) =
        ap (λ (xs : List Action). length xs - 1) (left_is ∙ begins)
        ∙ (let less : suc (length (others.0 ++ first.left)) - 1 ≡ length (others.0 ++ first.left) = omega arith in less) in
        false≢true (((subst (λ (trace : List Action). TellRepeats trace t.repeats.now) begins tells).0 false
        (ap (slice_get t.repeats.now) (sym counted) ∙ next.again once)).1 again)

    -- where the step leads: what its fetch leaves in the channels is what the queues have
    pub record Moved (queues : Channels) (added : List Event) : Type 0 where
      pub channels : Channels
      pub came : Came program s.traces.now (s.schedule ++ added) (after_step ready.state (suc place) channels first.r)
          (updated (suc place) first.left ready.lefts)
      pub holds : (a b : ℕ) → IsThere ready.state a → IsThere ready.state b → channel channels a b ≡ channel queues a b
      pub has : (a b : ℕ) → IsThere ready.state a → IsThere ready.state b → HasChannel channels a b
      pub beside : (a b : ℕ) → (b ≡ suc place → ⊥) → channel queues a b ≡ channel s.queues a b

    has_all : (a b : ℕ) → IsThere ready.state a → IsThere ready.state b → HasChannel ready.state.channels a b
    has_all = has_channels program ready.compiled.accepted ready.came (suc place) w world.1

    pub moved : (queues : Channels) (added : List Event) → Made program.kind (suc place) n.asked.now n.times_out n.again s.queues queues added
        → Moved queues added
    moved queues added made = of n.asked.now (others.0 ++ first.left) begins refl made
      where
        timed : n.times_out ≡ is_timeout first.step
        timed = next.times_out ∙ first.times_out

        of : (a : Action) (rest : List Action) → ready.lefts (suc place) ≡ a ∷ rest → a ≡ n.asked.now
            → Made program.kind (suc place) a n.times_out n.again s.queues queues added → Moved queues added
        of (Took q k) rest starts is (are, same) = record {
          channels = ready.state.channels;
          came = subst (λ (es : List Event). Came program s.traces.now (s.schedule ++ es) (after_step ready.state (suc place) ready.state.channels first.r)
              (updated (suc place) first.left ready.lefts))
              (ap (λ (b : Bool). took_event (suc place) k b ∷ []) (sym timed) ∙ sym are)
              (came_took program ready.compiled.accepted ready.came (suc place) w world.1 q k rest first.step first.r first.left starts first.follows);
          holds = λ a b there_a there_b. ready.holds a b there_a there_b ∙ ap (λ (c : Channels). channel c a b) (sym same);
          has = has_all;
          beside = λ a b other. ap (λ (c : Channels). channel c a b) same;
        }
        of (Got q from time m) rest starts is (one, fetched, elsewhere) =
            let message : MessageInFlight = record { message = val_of m; time = time } in
            let steps : first.step ≡ Deliver (val_of m) from time =
            (let same : Some first.step ≡ Some (Deliver (val_of m) from time) = sym first.follows.asks ∙ ap (step_asked w) starts in cc) in
            let sender : IsThere ready.state from = number_there ready.state.worlds from
            (subst (λ size. IsOneOf size from) (ready.rows ∙ ready.each ∙ sym sound.each) one) in
            let fetching : Fetching program ready.state from (suc place) message first.left (channel queues from (suc place)) added =
            fetched_so program ready.state from (suc place) message first.left (has_all from (suc place) sender world) program.kind sound.kind n.again
            (channel queues from (suc place)) added
            (subst (λ (ls : List MessageInFlight). Fetched program.kind from (suc place) message n.again ls (channel queues from (suc place)) added)
            (sym (ready.holds from (suc place) sender world)) fetched)
            (λ once has. not_again once (got_later n.asked.now others.0 first.left q from time m (sym is) has)) in
            record {
              channels = fetching.channels;
              came = came_delivers program ready.compiled.accepted ready.came (suc place) w world.1 message from first.r first.left
                  (channel queues from (suc place)) added
                  (subst (λ (step : Step). Follows program w (ready.lefts (suc place)) step first.r first.left) steps first.follows) fetching;
              holds = λ a b there_a there_b. held fetching elsewhere a b there_a there_b;
              has = λ a b there_a there_b. fetching.keeps a b (has_all a b there_a there_b);
              beside = λ a b other. elsewhere a b (λ both. other both.1);
            }
          where
            held : (fetching : Fetching program ready.state from (suc place) (record { message = val_of m; time = time }) first.left
                (channel queues from (suc place)) added)
                → SameElsewhere from (suc place) s.queues queues → (a b : ℕ) → IsThere ready.state a → IsThere ready.state b
                → channel fetching.channels a b ≡ channel queues a b
            held fetching elsewhere a b there_a there_b = elim (cases_eq a from) [
              | inr stranger ↦ fetching.elsewhere a b (λ both. stranger both.0) ∙ ready.holds a b there_a there_b
                  ∙ sym (elsewhere a b (λ both. stranger both.0))
              | inl sender ↦ elim (cases_eq b (suc place)) [
                | inr other ↦ fetching.elsewhere a b (λ both. other both.1) ∙ ready.holds a b there_a there_b ∙ sym (elsewhere a b (λ both. other both.1))
                | inl here ↦ ap (λ x. channel fetching.channels x b) sender ∙ ap (λ x. channel fetching.channels from x) here ∙ fetching.now
                    ∙ ap (λ x. channel queues from x) (sym here) ∙ ap (λ x. channel queues x b) (sym sender)
              ]
            ]
        of _ rest starts is made = absurd made

    cannot_whole : (kind : ChannelKind) (queues : Channels) (p : ℕ) (a : Action) (rest : List Action) → CannotGet kind queues p (a ∷ [])
        → CannotGet kind queues p (a ∷ rest)
    cannot_whole kind queues p (Got q from time m) rest cannot = cannot
    cannot_whole kind queues p _ rest cannot = absurd cannot

    -- a process that cannot get its message waits
    pub waits_so : (kind : ChannelKind) (queues : Channels) (p : ℕ) → CannotGet kind queues p (n.asked.now ∷ []) → Waits kind queues p t
    waits_so kind queues p cannot =
        inr (subst (CannotGet kind queues p) (sym (left_is ∙ begins)) (cannot_whole kind queues p n.asked.now (others.0 ++ first.left) cannot))

-- The search is ready again after a step of a process, and where one is known to wait.
use Rattle.std.specs.Prelude.{◌≡◌, ℕ, zero, suc, ◌+◌, ◌<◌, Bool, true, false, cond, List, [], ◌∷◌, ◌++◌, length, slice_get, slice_index_or, slice_set, Some, is_some, refl}
use Rattle.std.proofs.Common.{Bor, sym, ap, ◌∙◌, subst, inl, inr, arith, append-nil}
use Rattle.std.proofs.lemmas.Bool.{cases_eq, eq-eqb, false≢true, ne_eqb}
use Rattle.std.proofs.lemmas.List.{length-set}
use Rattle.std.proofs.lemmas.Option.{slice_get_within}
use Rattle.da_values.specs.Sets.{Has}
use Rattle.da_values.specs.Value.{val_of}
use Rattle.da_lang.specs.declared.event.Action.{Action}
use Rattle.da_lang.specs.declared.event.Action.TheVariants.{Got}
use Rattle.da_lang.specs.declared.event.Event.{Event}
use Rattle.da_lang.specs.declared.ty.ChannelKind.{ChannelKind}
use Rattle.da_lang.specs.World.{World, at_number}
use Rattle.da_core.specs.declared.compiled.Compiled.{Compiled}
use Rattle.da_core.specs.Compiled.{program_of}
use Rattle.da_system.specs.Channels.{Channels, MessageInFlight, channel, put_numbered}
use Rattle.da_system.specs.SystemStep.{SystemState}
use Rattle.da_lang.specs.Steps.{Stepped}
use Rattle.trace_join.specs.declared.search.Search.{Search}
use Rattle.trace_join.specs.declared.track.Next.{Next}
use Rattle.trace_join.specs.declared.track.Track.{Track}
use Rattle.trace_join.specs.Cuts.{IsCut}
use Rattle.trace_join.specs.Remains.{CanArrive, IsThere}
use Rattle.trace_join.specs.Repeats.{TellRepeats}
use Rattle.trace_join.specs.Searching.{Goes, HoldMessages, IsOnTrack, Made, Ready, StandStill, pieces_left}
use Rattle.trace_join.specs.Sending.{IsOneOf, Sends}
use Rattle.trace_join.specs.Traces.{messages_to}
use Rattle.trace_join.specs.Tracks.{IsNext}
use Rattle.trace_join.specs.Waiting.{AreWoken, CannotGet, Waits, wanted_from}
use Rattle.trace_join.proofs.ChannelLaws.{AreOwn, channel-sent, channel-unsent, put_other, put_there, put_was}
use Rattle.trace_join.proofs.EventLaws.{after_step}
use Rattle.trace_join.proofs.MoveLaws.{Moved, behind_is, first, moved, place_within, sound, tells_after, told_is, waits_so, world}
use Rattle.trace_join.proofs.ProgressLaws.{goes_own}
use Rattle.trace_join.proofs.SendLaws.{get_within, set_other, set_there}
use Rattle.trace_join.proofs.Updates.{updated, updated-other, updated-there}
use Rattle.trace_join.proofs.WakeLaws.{cannot_still}

-- NUMBERS

pub one_within : {A : Type 0} (xs : List A) (p : ℕ) (x : A) → at_number xs p ≡ Some x → IsOneOf (length xs) p
one_within xs zero x there = absurd (false≢true (ap is_some there))
one_within xs (suc k) x there = let within : k < length xs = slice_get_within xs k x there in (omega arith, omega (arith, within))

set_number_other : {A : Type 0} (xs : List A) (place : ℕ) (x : A) (p : ℕ) → (p ≡ suc place → ⊥) → at_number (slice_set xs place x) p ≡ at_number xs p
set_number_other xs place x zero other = refl
set_number_other xs place x (suc j) other = set_other xs place j x (λ same. other (ap suc same))

-- THE SAME MESSAGES

same_waits : (kind : ChannelKind) (queues queues' : Channels) (p : ℕ) (t : Track) → ((a b : ℕ) → channel queues' a b ≡ channel queues a b)
    → Waits kind queues p t → Waits kind queues' p t
same_waits kind queues queues' p t same (inl over) = inl over
same_waits kind queues queues' p t same (inr cannot) = inr (of t.left.now cannot)
  where
    of : (trace : List Action) → CannotGet kind queues p trace → CannotGet kind queues' p trace
    of [] cannot' = cannot'
    of (Got q from time m ∷ behind) cannot' = λ can. cannot' (subst (λ (ls : List MessageInFlight). CanArrive kind ls (record { message = val_of m; time = time }))
        (same from p) can)
    of (_ ∷ behind) cannot' = cannot'

-- A SEARCH BY ITS PARTS

abbrev pub search_of : Bor Compiled → Bor (List (List Action)) → List Track → List Bool → Channels → List Event → Search
search_of compiled traces tracks waits queues schedule =
    record { compiled = compiled; traces = traces; tracks = tracks; waits = waits; queues = queues; schedule = schedule }

pub ready_as : (s' : Search) (compiled : Bor Compiled) (traces : Bor (List (List Action))) (tracks : List Track) (waits : List Bool) (queues : Channels)
    (schedule : List Event)
    → s'.compiled ≡ compiled → s'.traces ≡ traces → s'.tracks ≡ tracks → s'.waits ≡ waits → s'.queues ≡ queues → s'.schedule ≡ schedule
    → Ready (search_of compiled traces tracks waits queues schedule) → Ready s'
ready_as s' compiled traces tracks waits queues schedule c t k w q e ready =
    subst (λ (x : Bor Compiled). Ready (search_of x s'.traces s'.tracks s'.waits s'.queues s'.schedule)) (sym c)
    (subst (λ (x : Bor (List (List Action))). Ready (search_of compiled x s'.tracks s'.waits s'.queues s'.schedule)) (sym t)
    (subst (λ (x : List Track). Ready (search_of compiled traces x s'.waits s'.queues s'.schedule)) (sym k)
    (subst (λ (x : List Bool). Ready (search_of compiled traces tracks x s'.queues s'.schedule)) (sym w)
    (subst (λ (x : Channels). Ready (search_of compiled traces tracks waits x s'.schedule)) (sym q)
    (subst (λ (x : List Event). Ready (search_of compiled traces tracks waits queues x)) (sym e) ready)))))

module _ (s : Search) (ready : Ready s) (place : ℕ) (t : Track) (at_track : slice_get s.tracks place ≡ Some t) where
  -- A PROCESS IS KNOWN TO WAIT
  known_to_wait : (queues : Channels) → length queues ≡ length s.queues → ((a b : ℕ) → channel queues a b ≡ channel s.queues a b)
      → Waits (program_of s.compiled.now).kind s.queues (suc place) t
      → Ready (search_of s.compiled s.traces s.tracks (slice_set s.waits place true) queues s.schedule)
  known_to_wait queues size same waits = record {
    compiled = ready.compiled;
    state = ready.state;
    lefts = ready.lefts;
    came = ready.came;
    each = ready.each;
    few = ready.few;
    rows = size ∙ ready.rows;
    known = length-set s.waits place true ∙ ready.known;
    holds = λ p q there_p there_q. ready.holds p q there_p there_q ∙ sym (same p q);
    on_track = ready.on_track;
    waiting = λ p t' is there. elim (cases_eq p (suc place)) [
      | inl here ↦ subst (λ n. Waits (program_of s.compiled.now).kind queues n t') (sym here)
          (subst (Waits (program_of s.compiled.now).kind queues (suc place)) (its p t' here there)
          (same_waits (program_of s.compiled.now).kind s.queues queues (suc place) t same waits))
      | inr other ↦ same_waits (program_of s.compiled.now).kind s.queues queues p t' same
          (ready.waiting p t' (sym (set_number_other s.waits place true p other) ∙ is) there)
    ];
  }
    where
      its : (p : ℕ) (t' : Track) → p ≡ suc place → at_number s.tracks p ≡ Some t' → t ≡ t'
      its p t' here there = let both : Some t ≡ Some t' = sym at_track ∙ ap (at_number s.tracks) (sym here) ∙ there in cc

  -- A PROCESS HAS GONE ON
  module _ (n : Next) (next : IsNext t n) (queues queues' : Channels) (added : List Event) (waits' : List Bool)
      (made : Made (program_of s.compiled.now).kind (suc place) n.asked.now n.times_out n.again s.queues queues added) (size : length queues ≡ length s.queues)
      (sends : Sends (suc place) n.told.now queues queues') (size' : length queues' ≡ length queues)
      (woken : AreWoken (suc place) n.told.now s.tracks s.waits waits') (known' : length waits' ≡ length s.waits)
      (asked : slice_get s.waits place ≡ Some false) where
    abbrev r : Stepped
    r = (first s ready place t at_track n next).r

    abbrev left : List Action
    left = (first s ready place t at_track n next).left

    m : Moved s ready place t at_track n next queues added
    m = moved s ready place t at_track n next queues added made

    own : AreOwn (suc place) r.actions
    own = goes_own (program_of s.compiled.now) ready.compiled.accepted ready.came (suc place) (world s ready place t at_track).0
        (world s ready place t at_track).1
        (first s ready place t at_track n next).step r (first s ready place t at_track n next).follows.makes

    told : n.told.now ≡ r.actions
    told = told_is s ready place t at_track n next

    abbrev after : SystemState
    after = after_step ready.state (suc place) m.channels r

    was_there : (a : ℕ) → IsThere after a → IsThere ready.state a
    was_there a (v, there) = put_was ready.state.worlds a (suc place) r.world v there

    one_of_all : (b : ℕ) → IsThere ready.state b → IsOneOf (length queues) b
    one_of_all b (v, there) = subst (λ size. IsOneOf size b) ((sound s ready place t at_track).each ∙ sym ready.each ∙ sym ready.rows ∙ sym size)
        (one_within ready.state.worlds b v there)

    sent_by_it : (b : ℕ) → IsThere ready.state b → channel after.channels (suc place) b ≡ channel queues' (suc place) b
    sent_by_it b there =
        channel-sent m.channels r.actions (suc place) b own (m.has (suc place) b (world s ready place t at_track) there)
        ∙ ap (λ (ls : List MessageInFlight). ls ++ messages_to b r.actions) (m.holds (suc place) b (world s ready place t at_track) there)
        ∙ ap (λ (actions : List Action). channel queues (suc place) b ++ messages_to b actions) (sym told)
        ∙ ap (λ (c : Bool). channel queues (suc place) b ++ cond c (messages_to b n.told.now) []) (sym (eq-eqb (suc place) (suc place) refl))
        ∙ sym (sends (suc place) b (one_of_all b there))

    holds' : HoldMessages after queues'
    holds' a b there_a there_b = elim (cases_eq a (suc place)) [
      | inl same ↦ ap (λ x. channel after.channels x b) same ∙ sent_by_it b (was_there b there_b) ∙ ap (λ x. channel queues' x b) (sym same)
      | inr other ↦ channel-unsent m.channels r.actions (suc place) a b own other ∙ m.holds a b (was_there a there_a) (was_there b there_b)
          ∙ sym (append-nil (channel queues a b))
          ∙ ap (λ (c : Bool). channel queues a b ++ cond c (messages_to b n.told.now) []) (sym (ne_eqb a (suc place) other))
          ∙ sym (sends a b (one_of_all b (was_there b there_b)))
    ]

    abbrev lefts' : ℕ → List Action
    lefts' = updated (suc place) left ready.lefts

    there_left : lefts' (suc place) ≡ left
    there_left = updated-there (suc place) left ready.lefts

    tells : TellRepeats left n.behind.repeats.now
    tells = subst (TellRepeats left) (sym next.repeats) (tells_after s ready place t at_track n next)

    on_track' : (p : ℕ) (v : World) → at_number after.worlds p ≡ Some v
        → IsOnTrack (program_of s.compiled.now) v (lefts' p) (slice_set s.tracks place n.behind) p
    on_track' p v there = elim (cases_eq p (suc place)) [
      | inl same ↦ subst (λ x. IsOnTrack (program_of s.compiled.now) v (lefts' x) (slice_set s.tracks place n.behind) x) (sym same) (record {
        track = n.behind;
        there = set_there s.tracks place n.behind (place_within s ready place t at_track);
        same = behind_is s ready place t at_track n next ∙ sym there_left;
        cut = subst (λ (trace : List Action). IsCut (program_of s.compiled.now) v trace n.behind.pieces.now) (sym there_left)
            (subst (λ (x : World). IsCut (program_of s.compiled.now) x left n.behind.pieces.now) (new_world p v same there)
            (first s ready place t at_track n next).others);
        repeats = subst (λ (trace : List Action). TellRepeats trace n.behind.repeats.now) (sym there_left) tells;
      })
      | inr other ↦ of_other other (ready.on_track p v (sym (put_other ready.state.worlds p (suc place) r.world other) ∙ there))
    ]
      where
        new_world : (p : ℕ) (v : World) → p ≡ suc place → at_number after.worlds p ≡ Some v → r.world ≡ v
        new_world p v same there =
            let both : Some r.world ≡ Some v =
            sym (put_there ready.state.worlds (suc place) r.world (world s ready place t at_track).0 (world s ready place t at_track).1)
            ∙ ap (at_number (put_numbered ready.state.worlds (suc place) r.world)) (sym same) ∙ there in
            cc

        of_other : (p ≡ suc place → ⊥) → IsOnTrack (program_of s.compiled.now) v (ready.lefts p) s.tracks p
            → IsOnTrack (program_of s.compiled.now) v (lefts' p) (slice_set s.tracks place n.behind) p
        of_other other on =
            let same_left : lefts' p ≡ ready.lefts p = updated-other (suc place) left ready.lefts p other in
            record {
              track = on.track;
              there = set_number_other s.tracks place n.behind p other ∙ on.there;
              same = on.same ∙ sym same_left;
              cut = subst (λ (trace : List Action). IsCut (program_of s.compiled.now) v trace on.track.pieces.now) (sym same_left) on.cut;
              repeats = subst (λ (trace : List Action). TellRepeats trace on.track.repeats.now) (sym same_left) on.repeats;
            }

    still_waits : (p : ℕ) (t' : Track) → (p ≡ suc place → ⊥) → at_number s.tracks p ≡ Some t' → at_number waits' p ≡ Some true
        → Waits (program_of s.compiled.now).kind queues' p t'
    still_waits p t' other there is =
        let (waited, unsent) = woken p t' there is in
        of (ready.waiting p t' waited there) unsent
      where
        among : IsOneOf (length queues) p
        among = subst (λ size. IsOneOf size p) (sym ready.rows ∙ sym size) (one_within s.tracks p t' there)

        of : Waits (program_of s.compiled.now).kind s.queues p t'
            → ((l : MessageInFlight) → Has (messages_to p n.told.now) l → Has (wanted_from (suc place) t'.left.now) l → ⊥)
            → Waits (program_of s.compiled.now).kind queues' p t'
        of (inl over) unsent = inl over
        of (inr cannot) unsent =
            inr (cannot_still (program_of s.compiled.now).kind (suc place) p n.told.now s.queues queues queues' sends among
            (λ a. m.beside a p other) t'.left.now cannot unsent)

    gone_on : Ready (search_of s.compiled s.traces (slice_set s.tracks place n.behind) waits' queues' (s.schedule ++ added))
    gone_on = record {
      compiled = ready.compiled;
      state = after;
      lefts = lefts';
      came = m.came;
      each = length-set s.tracks place n.behind ∙ ready.each;
      few = (let same : length (slice_set s.tracks place n.behind) ≡ length s.tracks = length-set s.tracks place n.behind in omega (arith, same, ready.few));
      rows = size' ∙ size ∙ ready.rows ∙ sym (length-set s.tracks place n.behind);
      known = known' ∙ ready.known ∙ sym (length-set s.tracks place n.behind);
      holds = holds';
      on_track = on_track';
      waiting = λ p t' is there. elim (cases_eq p (suc place)) [
        | inl same ↦ absurd (not_it p same is)
        | inr other ↦ still_waits p t' other (sym (set_number_other s.tracks place n.behind p other) ∙ there) is
      ];
    }
      where
        not_it : (p : ℕ) → p ≡ suc place → at_number waits' p ≡ Some true → ⊥
        not_it p same is =
            let (waited, unsent) = woken p t (ap (at_number s.tracks) same ∙ at_track) is in
            let both : Some false ≡ Some true = sym asked ∙ ap (at_number s.waits) (sym same) ∙ waited in
            false≢true (let values : false ≡ true = cc in values)

-- AS THE CODE HAS IT: the number of a process is its place and one, and the search is changed part by part

plus_one : (place : ℕ) → place + 1 ≡ suc place
plus_one place = omega arith

module _ (s s1 s' : Search) (ready : Ready s) (place : ℕ) (t : Track) (at_track : slice_get s.tracks place ≡ Some t) where
  -- no step is left
  pub ready_over : t.pieces.now ≡ [] → s'.compiled ≡ s.compiled → s'.traces ≡ s.traces → s'.tracks ≡ s.tracks → s'.waits ≡ slice_set s.waits place true
      → s'.queues ≡ s.queues → s'.schedule ≡ s.schedule → Ready s'
  ready_over over c tr k w q e =
      ready_as s' s.compiled s.traces s.tracks (slice_set s.waits place true) s.queues s.schedule c tr k w q e
      (known_to_wait s ready place t at_track s.queues refl (λ a b. refl) (inl over))

  module _ (n : Next) (next : IsNext t n) (still : StandStill s s1) where
    -- its message cannot arrive
    pub ready_waits : Goes (program_of s.compiled.now).kind (place + 1) n false s.queues s1.queues s.schedule s1.schedule
        → s'.compiled ≡ s1.compiled → s'.traces ≡ s1.traces → s'.tracks ≡ s1.tracks → s'.waits ≡ slice_set s1.waits place true → s'.queues ≡ s1.queues
        → s'.schedule ≡ s1.schedule → Ready s'
    ready_waits (cannot, size, same, events) c tr k w q e =
        ready_as s' s.compiled s.traces s.tracks (slice_set s.waits place true) s1.queues s.schedule (c ∙ still.0) (tr ∙ still.1) (k ∙ still.2)
        (w ∙ ap (λ (l : List Bool). slice_set l place true) still.3) q (e ∙ events)
        (known_to_wait s ready place t at_track s1.queues size same
        (waits_so s ready place t at_track n next (program_of s.compiled.now).kind s.queues (suc place)
        (subst (λ p. CannotGet (program_of s.compiled.now).kind s.queues p (n.asked.now ∷ [])) (plus_one place) cannot)))

    -- its step was made
    pub ready_goes : Goes (program_of s.compiled.now).kind (place + 1) n true s.queues s1.queues s.schedule s1.schedule → slice_get s.waits place ≡ Some false
        → Sends (place + 1) n.told.now s1.queues s'.queues → length s'.queues ≡ length s1.queues
        → AreWoken (place + 1) n.told.now s1.tracks s1.waits s'.waits → length s'.waits ≡ length s1.waits
        → s'.compiled ≡ s1.compiled → s'.traces ≡ s1.traces → s'.tracks ≡ slice_set s1.tracks place n.behind → s'.schedule ≡ s1.schedule → Ready s'
    ready_goes (added, events, size, made) asked sends size' woken known' c tr k e =
        ready_as s' s.compiled s.traces (slice_set s.tracks place n.behind) s'.waits s'.queues (s.schedule ++ added) (c ∙ still.0) (tr ∙ still.1)
        (k ∙ ap (λ (ts : List Track). slice_set ts place n.behind) still.2) refl refl (e ∙ events)
        (gone_on s ready place t at_track n next s1.queues s'.queues added s'.waits
        (subst (λ p. Made (program_of s.compiled.now).kind p n.asked.now n.times_out n.again s.queues s1.queues added) (plus_one place) made) size
        (subst (λ p. Sends p n.told.now s1.queues s'.queues) (plus_one place) sends) size'
        (subst (λ (ts : List Track). AreWoken (suc place) n.told.now ts s.waits s'.waits) still.2
        (subst (λ (ws : List Bool). AreWoken (suc place) n.told.now s1.tracks ws s'.waits) still.3
        (subst (λ p. AreWoken p n.told.now s1.tracks s1.waits s'.waits) (plus_one place) woken)))
        (known' ∙ ap length still.3) asked)

    fewer_in : (tracks : List Track) (k : ℕ) → slice_get tracks k ≡ Some t → pieces_left (slice_set tracks k n.behind) < pieces_left tracks
    fewer_in [] k there = absurd (false≢true (ap is_some there))
    fewer_in (x ∷ xs) zero there =
        let same : x ≡ t = cc in
        let one_less : length x.pieces.now ≡ suc (length n.behind.pieces.now) = ap (λ (y : Track). length y.pieces.now) same ∙ ap length next.pieces in
        omega (arith, one_less)
    fewer_in (x ∷ xs) (suc k) there = let less : pieces_left (slice_set xs k n.behind) < pieces_left xs = fewer_in xs k there in omega (arith, less)

    -- and one step less is left
    pub fewer_left : s'.tracks ≡ slice_set s1.tracks place n.behind → pieces_left s'.tracks < pieces_left s.tracks
    fewer_left k = subst (λ (ts : List Track). pieces_left ts < pieces_left s.tracks)
        (sym (k ∙ ap (λ (ts : List Track). slice_set ts place n.behind) still.2)) (fewer_in s.tracks place at_track)

-- THE TRACK OF A PROCESS THAT IS ASKED

pub place_asked : (s : Search) → Ready s → (place : ℕ) → slice_get s.waits place ≡ Some false → place < length s.tracks
place_asked s ready place asked = let within : place < length s.waits = slice_get_within s.waits place false asked in omega (arith, within, ready.known)

pub track_there : (s : Search) → Ready s → (place : ℕ) (x : Track) (xs : List Track) → slice_get s.waits place ≡ Some false → xs ≡ s.tracks
    → x ≡ slice_index_or xs place x → slice_get s.tracks place ≡ Some x
track_there s ready place x xs asked same is = get_within s.tracks place x (place_asked s ready place asked)
    (is ∙ ap (λ (ys : List Track). slice_index_or ys place x) same)

pub goes_length : (kind : ChannelKind) (me : ℕ) (n : Next) (went : Bool) (queues queues' : Channels) (events events' : List Event)
    → Goes kind me n went queues queues' events events' → length queues' ≡ length queues
goes_length kind me n true queues queues' events events' (added, are, size, made) = size
goes_length kind me n false queues queues' events events' (cannot, size, same, are) = size

-- Process by process is asked, and again and again.
use Rattle.std.specs.Prelude.{◌≡◌, ◌⊎◌, ℕ, zero, suc, ◌+◌, ◌<◌, ◌≤◌, Bool, true, All, List, [], ◌∷◌, length, Some, slice_get, slice_index_or}
use Rattle.std.specs.Prelude.{slice_set, refl}
use Rattle.std.proofs.Common.{sym, ap, ◌∙◌, inl, inr, arith, rules}
use Rattle.std.proofs.lemmas.Option.{same_Some, slice_get_read}
use Rattle.trace_join.specs.declared.search.Search.{Search}
use Rattle.trace_join.specs.Searching.{IsOf, Ready, pieces_left}

-- the search for the same traces
abbrev pub Same : Search → Search → Type 0
Same old new = IsOf old.compiled.now old.traces.now new

pub same_itself : (s : Search) → Same s s
same_itself s = (refl, refl)

pub same_then : (first now next : Search) → Same first now → Same now next → Same first next
same_then first now next before after = (after.0 ∙ before.0, after.1 ∙ before.1)

-- the processes before a place wait, and no step was made
pub record AllWaitBefore (first now : Search) (place : ℕ) : Type 0 where
  pub ready : Ready now
  pub same : Same first now
  pub tracks : now.tracks ≡ first.tracks
  pub waits : (k : ℕ) → k < place → slice_get now.waits k ≡ Some true

pub none_before : (s : Search) → Ready s → AllWaitBefore s s 0
none_before s ready = record { ready = ready; same = same_itself s; tracks = refl; waits = λ k below. absurd (omega (arith, below)) }

set_at : {A : Type 0} (xs : List A) (k : ℕ) (x : A) → k < length xs → slice_get (slice_set xs k x) k ≡ Some x
set_at [] k x inside = absurd (omega (arith, inside))
set_at (y ∷ ys) zero x inside = refl
set_at (y ∷ ys) (suc k) x inside = set_at ys k x (omega (arith, inside))

set_beside : {A : Type 0} (xs : List A) (j k : ℕ) (x : A) → (j ≡ k → ⊥) → slice_get (slice_set xs k x) j ≡ slice_get xs j
set_beside [] j zero x other = refl
set_beside [] j (suc k) x other = refl
set_beside (y ∷ ys) zero zero x other = absurd (other refl)
set_beside (y ∷ ys) (suc j) zero x other = refl
set_beside (y ∷ ys) zero (suc k) x other = refl
set_beside (y ∷ ys) (suc j) (suc k) x other = set_beside ys j k x (λ same. other (ap suc same))

earlier_or_here : (k place : ℕ) → k < place + 1 → (k < place) ⊎ (k ≡ place)
earlier_or_here k place below = search (rules, below)

module _ (first now : Search) (place : ℕ) (before : AllWaitBefore first now place) where
  -- the process at this place was known to wait
  pub one_waits : (b : Bool) → place < length now.waits → b ≡ slice_index_or now.waits place b → b ≡ true → AllWaitBefore first now (place + 1)
  one_waits b inside is waits = record {
    ready = before.ready;
    same = before.same;
    tracks = before.tracks;
    waits = λ k below. of k (earlier_or_here k place below);
  }
    where
      of : (k : ℕ) → (k < place) ⊎ (k ≡ place) → slice_get now.waits k ≡ Some true
      of k (inl earlier) = before.waits k earlier
      of k (inr here) = ap (slice_get now.waits) here ∙ slice_get_read now.waits (length now.waits) place b refl inside is ∙ ap Some waits

  -- it is known now
  pub one_stops : (next : Search) → Ready next → Same now next → next.tracks ≡ now.tracks → place < length now.waits
      → next.waits ≡ slice_set now.waits place true
      → AllWaitBefore first next (place + 1)
  one_stops next ready same still inside set = record {
    ready = ready;
    same = same_then first now next before.same same;
    tracks = still ∙ before.tracks;
    waits = λ k below. of k (earlier_or_here k place below);
  }
    where
      of : (k : ℕ) → (k < place) ⊎ (k ≡ place) → slice_get next.waits k ≡ Some true
      of k (inl earlier) =
          ap (λ (waits : List Bool). slice_get waits k) set ∙ set_beside now.waits k place true (λ same. omega (arith, same, earlier)) ∙ before.waits k earlier
      of k (inr here) =
          ap (λ (waits : List Bool). slice_get waits k) set ∙ ap (slice_get (slice_set now.waits place true)) here ∙ set_at now.waits place true inside

  -- it went on
  pub fewer_left : (next : Search) → pieces_left next.tracks < pieces_left now.tracks → pieces_left next.tracks < pieces_left first.tracks
  fewer_left next fewer = let size : pieces_left now.tracks ≡ pieces_left first.tracks = ap pieces_left before.tracks in omega (arith, fewer, size)

  -- it is one of the processes
  pub within : place < length first.tracks → place < length now.waits
  within inside = let size : length now.tracks ≡ length first.tracks = ap length before.tracks in omega (arith, inside, size, before.ready.known)

  -- all of them wait
  pub all_wait : length first.tracks ≤ place → All (λ waits. waits ≡ true) now.waits
  all_wait past k d inside =
      let size : length now.tracks ≡ length first.tracks = ap length before.tracks in
      same_Some (slice_index_or now.waits k d) true
      (sym (slice_get_read now.waits (length now.waits) k (slice_index_or now.waits k d) refl inside (at_itself now.waits k d inside))
      ∙ before.waits k (omega (arith, inside, past, size, before.ready.known)))
    where
      at_itself : (xs : List Bool) (k : ℕ) (d : Bool) → k < length xs → slice_index_or xs k d ≡ slice_index_or xs k (slice_index_or xs k d)
      at_itself [] k d inside = absurd (omega (arith, inside))
      at_itself (x ∷ xs) zero d inside = refl
      at_itself (x ∷ xs) (suc k) d inside = at_itself xs k d (omega (arith, inside))

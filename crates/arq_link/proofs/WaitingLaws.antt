-- Frames that wait: one more, and those below an acknowledgement less.
use Rattle.std.specs.Prelude.{◌≡◌, ℕ, suc, ◌+◌, ◌<◌, ◌≤◌, nat_le, Bool, false, cond, List, [], ◌∷◌, ◌++◌, length, drop, filter, MatchBool, refl}
use Rattle.std.proofs.Common.{inl, inr, sym, ap, ◌∙◌, subst, arith, le-leb, leb-true}
use Rattle.std.proofs.lemmas.Bool.{cases_Bool}
use Rattle.arq_link.specs.Endpoint.{Data, Numbered, Peer, acknowledged, appended}
use Rattle.arq_link.specs.Frames.{frame_bytes}
use Rattle.arq_link.specs.Waiting.{AreFrames, numbered}

-- ONE MORE

numbered_append : (first : ℕ) (frames : List (List ℕ)) (frame : List ℕ)
    → numbered first (frames ++ frame ∷ []) ≡ numbered first frames ++ record { number = first + length frames; payload = drop 14 frame } ∷ []
numbered_append first [] frame = ap (λ n. record { number = n; payload = drop 14 frame } ∷ []) (let e : first ≡ first + 0 = omega arith in e)
numbered_append first (x ∷ frames) frame = ap (λ (l : List Numbered). record { number = first; payload = drop 14 x } ∷ l)
    (numbered_append (first + 1) frames frame
    ∙ ap (λ n. numbered (first + 1) frames ++ record { number = n; payload = drop 14 frame } ∷ [])
    (let e : first + 1 + length frames ≡ first + suc (length frames) = omega arith in e))

frames_append : (me first : ℕ) (frames : List (List ℕ)) (frame : List ℕ) → AreFrames me first frames
    → frame ≡ frame_bytes (Data me (first + length frames) (drop 14 frame)) → AreFrames me first (frames ++ frame ∷ [])
frames_append me first [] frame all is = (is ∙ ap (λ n. frame_bytes (Data me n (drop 14 frame))) (let e : first + 0 ≡ first = omega arith in e), tt)
frames_append me first (x ∷ frames) frame all is = (
  all.0,
  frames_append me (first + 1) frames frame all.1
      (is ∙ ap (λ n. frame_bytes (Data me n (drop 14 frame))) (let e : first + suc (length frames) ≡ first + 1 + length frames = omega arith in e)),
)

module _ (me next first : ℕ) (frames : List (List ℕ)) (frame payload : List ℕ) (counted : first + length frames ≡ next)
    (is : frame ≡ frame_bytes (Data me next payload))
    (frames' : List (List ℕ)) (added : frames' ≡ frames ++ frame ∷ []) where
  pub peer_appended : (expected : ℕ)
      → record { next = next + 1; waiting = numbered first frames'; expected = expected } ≡ appended
      (record { next = next; waiting = numbered first frames; expected = expected }) payload
  peer_appended expected = ap (λ (l : List Numbered). record { next = next + 1; waiting = l; expected = expected })
      (ap (numbered first) added ∙ numbered_append first frames frame
      ∙ ap (λ n. numbered first frames ++ record { number = n; payload = drop 14 frame } ∷ []) counted
      ∙ ap (λ (f : List ℕ). numbered first frames ++ record { number = next; payload = drop 14 f } ∷ []) is)

  pub kept_appended : AreFrames me first frames → AreFrames me first frames'
  kept_appended all = subst (λ (l : List (List ℕ)). AreFrames me first l) (sym added) (frames_append me first frames frame all
      (is ∙ ap (λ (m : List ℕ). frame_bytes (Data me next m)) (sym (ap (drop 14) is)) ∙ ap (λ n. frame_bytes (Data me n (drop 14 frame))) (sym counted)))

-- WHAT IS BELOW A NUMBER LEAVES

le_false : (a b : ℕ) → b < a → nat_le a b ≡ false
le_false a b below = elim (cases_Bool (nat_le a b)) [
  | inl e ↦ absurd (let le : a ≤ b = leb-true a b e in omega (arith, le, below))
  | inr e ↦ e
]

module _ (number : ℕ) where
  abbrev pub stays : Numbered → Bool
  stays entry = nat_le number entry.number

  -- so far, where the first of all frames had the number `first`, and that of those left has `first'`
  pub record HasDropped (first : ℕ) (frames : List (List ℕ)) (first' : ℕ) (frames' : List (List ℕ)) : Type 0 where
    pub count : first' + length frames' ≡ first + length frames
    pub left : filter stays (numbered first frames) ≡ filter stays (numbered first' frames')
    pub kept : (me : ℕ) → AreFrames me first frames → AreFrames me first' frames'

  pub drops_none : (first : ℕ) (frames : List (List ℕ)) → HasDropped first frames first frames
  drops_none first frames = record { count = refl; left = refl; kept = λ me all. all }

  pub drops_on : (first : ℕ) (frames : List (List ℕ)) (first' : ℕ) (frames' frames'' : List (List ℕ)) → HasDropped first frames first' frames'
      → first' < number → number ≤ first + length frames → frames'' ≡ drop 1 frames' → HasDropped first frames (first' + 1) frames''
  drops_on first frames first' [] frames'' h below within is = absurd (omega (arith, h.count, below, within))
  drops_on first frames first' (x ∷ rest) frames'' h below within is = subst (λ (l : List (List ℕ)). HasDropped first frames (first' + 1) l) (sym is)
      (record {
        count = omega (arith, h.count);
        left = h.left ∙ ap (λ b. cond b (record { number = first'; payload = drop 14 x } ∷ filter stays (numbered (first' + 1) rest))
            (filter stays (numbered (first' + 1) rest))) (le_false number first' below);
        kept = λ me all. (h.kept me all).1;
      })

  all_stay : (first : ℕ) (frames : List (List ℕ)) → number ≤ first → filter stays (numbered first frames) ≡ numbered first frames
  all_stay first [] above = refl
  all_stay first (x ∷ frames) above =
      ap (λ b. cond b (record { number = first; payload = drop 14 x } ∷ filter stays (numbered (first + 1) frames))
      (filter stays (numbered (first + 1) frames))) (le-leb number first above)
      ∙ ap (λ (l : List Numbered). record { number = first; payload = drop 14 x } ∷ l) (all_stay (first + 1) frames (omega (arith, above)))

  pub drops_all : (first : ℕ) (frames : List (List ℕ)) (first' : ℕ) (frames' : List (List ℕ)) → HasDropped first frames first' frames'
      → number ≤ first' → numbered first' frames' ≡ filter stays (numbered first frames)
  drops_all first frames first' frames' h above = sym (h.left ∙ all_stay first' frames' above)

  abbrev peer_with : (next expected first : ℕ) → List (List ℕ) → Peer
  peer_with next expected first frames = record { next = next; waiting = numbered first frames; expected = expected }

  pub is_acknowledged : (next expected first : ℕ) (frames : List (List ℕ)) (first' : ℕ) (frames' : List (List ℕ)) → number ≤ next
      → numbered first' frames' ≡ filter stays (numbered first frames)
      → MatchBool (nat_le number next) (peer_with next expected first' frames' ≡ acknowledged (peer_with next expected first frames) number)
      (peer_with next expected first' frames' ≡ peer_with next expected first frames)
  is_acknowledged next expected first frames first' frames' within left =
      subst (λ b. MatchBool b (peer_with next expected first' frames' ≡ acknowledged (peer_with next expected first frames) number)
      (peer_with next expected first' frames' ≡ peer_with next expected first frames)) (sym (le-leb number next within))
      (ap (λ (l : List Numbered). record { next = next; waiting = l; expected = expected }) left)

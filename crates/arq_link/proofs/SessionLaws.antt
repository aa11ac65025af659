-- Lists of sessions, and the peers for which they stand.
use Rattle.std.specs.Prelude.{◌≡◌, ℕ, zero, suc, ◌+◌, ◌<◌, ◌≤◌, List, [], ◌∷◌, ◌++◌, length, get_or, set, replicate, slice_get, Some, refl}
use Rattle.std.proofs.Common.{sym, ap, ◌∙◌, subst, arith, length-set, length-append, set-set}
use Rattle.std.proofs.lemmas.Grind.{replicate_next}
use Rattle.std.proofs.lemmas.List.{map-append, map-set}
use Rattle.std.proofs.lemmas.Option.{none-some, slice_get-get_or}
use Rattle.arq_link.specs.declared.session.Session.{Session}
use Rattle.arq_link.specs.Endpoint.{Peer, new_peer}
use Rattle.arq_link.specs.Sessions.{AreKept, IsKept, peer_of, peers_of}

-- AT A PLACE

pub kept_at : (me : ℕ) (sessions : List Session) (i : ℕ) (session : Session) → AreKept me sessions → slice_get sessions i ≡ Some session → IsKept me session
kept_at me [] i session all at = absurd (none-some session at)
kept_at me (x ∷ sessions) zero session all at = subst (IsKept me) (let same : x ≡ session = cc in same) all.0
kept_at me (x ∷ sessions) (suc i) session all at = kept_at me sessions i session all.1 at

pub peer_there : (sessions : List Session) (i : ℕ) (session : Session) → slice_get sessions i ≡ Some session
    → get_or (peers_of sessions) i new_peer ≡ peer_of session
peer_there [] i session at = absurd (none-some session at)
peer_there (x ∷ sessions) zero session at = ap peer_of (let same : x ≡ session = cc in same)
peer_there (x ∷ sessions) (suc i) session at = peer_there sessions i session at

pub session_read : (sessions shown : List Session) (i : ℕ) (default : Session) → shown ≡ sessions → i < length sessions
    → slice_get sessions i ≡ Some (get_or shown i default)
session_read sessions shown i default same within = slice_get-get_or sessions i default within ∙ ap (λ (l : List Session). Some (get_or l i default))
    (sym same)

-- A SESSION THAT WAS TAKEN OUT AND PUT BACK

kept_set : (me : ℕ) (sessions : List Session) (i : ℕ) (session : Session) → AreKept me sessions → IsKept me session → AreKept me (set sessions i session)
kept_set me [] i session all kept = tt
kept_set me (x ∷ sessions) zero session all kept = (kept, all.1)
kept_set me (x ∷ sessions) (suc i) session all kept = (all.0, kept_set me sessions i session all.1 kept)

module _ (sessions out back : List Session) (i : ℕ) (blank session : Session) (taken_out : out ≡ set sessions i blank)
    (put_back : back ≡ set out i session) where
  back_is : back ≡ set sessions i session
  back_is = put_back ∙ ap (λ (l : List Session). set l i session) taken_out ∙ set-set sessions i blank session

  pub back_peers : peers_of back ≡ set (peers_of sessions) i (peer_of session)
  back_peers = ap peers_of back_is ∙ map-set peer_of sessions i session

  pub back_count : length back ≡ length sessions
  back_count = ap (λ (l : List Session). length l) back_is ∙ length-set sessions i session

  pub back_kept : (me : ℕ) → AreKept me sessions → IsKept me session → AreKept me back
  back_kept me all kept = subst (AreKept me) (sym back_is) (kept_set me sessions i session all kept)

set_itself : (peers : List Peer) (i : ℕ) (peer : Peer) → get_or peers i new_peer ≡ peer → set peers i peer ≡ peers
set_itself [] i peer is = refl
set_itself (x ∷ peers) zero peer is = ap (λ (y : Peer). y ∷ peers) (sym is)
set_itself (x ∷ peers) (suc i) peer is = ap (λ (l : List Peer). x ∷ l) (set_itself peers i peer is)

pub peers_same : (sessions back : List Session) (i : ℕ) (session session' : Session) → slice_get sessions i ≡ Some session
    → peers_of back ≡ set (peers_of sessions) i (peer_of session') → peer_of session' ≡ peer_of session → peers_of back ≡ peers_of sessions
peers_same sessions back i session session' at is same = is ∙ set_itself (peers_of sessions) i (peer_of session')
    (peer_there sessions i session at ∙ sym same)

-- NEW SESSIONS

pub record AreNew (sessions : List Session) (count : ℕ) : Type 0 where
  pub count_is : length sessions ≡ count
  pub are : peers_of sessions ≡ replicate count new_peer
  pub kept : (me : ℕ) → AreKept me sessions

kept_append : (me : ℕ) (sessions : List Session) (session : Session) → AreKept me sessions → IsKept me session → AreKept me (sessions ++ session ∷ [])
kept_append me [] session all kept = (kept, tt)
kept_append me (x ∷ sessions) session all kept = (all.0, kept_append me sessions session all.1 kept)

pub none_new : (sessions : List Session) → sessions ≡ [] → AreNew sessions 0
none_new sessions is = subst (λ (l : List Session). AreNew l 0) (sym is) (record { count_is = refl; are = refl; kept = λ me. tt })

pub more_new : (sessions : List Session) (n : ℕ) (session : Session) (sessions' : List Session) → AreNew sessions n → peer_of session ≡ new_peer
    → ((me : ℕ) → IsKept me session)
    → sessions' ≡ sessions ++ session ∷ [] → AreNew sessions' (n + 1)
more_new sessions n session sessions' h is kept pushed = subst (λ (l : List Session). AreNew l (n + 1)) (sym pushed) (record {
  count_is = omega (arith, length-append sessions (session ∷ []), h.count_is);
  are = map-append peer_of sessions (session ∷ []) ∙ ap (λ (l : List Peer). l ++ peer_of session ∷ []) h.are
      ∙ ap (λ (y : Peer). replicate n new_peer ++ y ∷ []) is ∙ sym (replicate_next n new_peer);
  kept = λ me. kept_append me sessions session (h.kept me) (kept me);
})

pub kept_none : (me : ℕ) (sessions : List Session) → sessions ≡ [] → AreKept me sessions
kept_none me sessions is = subst (AreKept me) (sym is) tt

pub count_none : (sessions : List Session) (n : ℕ) → sessions ≡ [] → length sessions ≤ n
count_none sessions n is = let none : length sessions ≡ 0 = ap (λ (l : List Session). length l) is in omega (arith, none)

-- The turn of a gift, and what is given again.
use Rattle.std.specs.Prelude.{◌≡◌, ℕ, suc, ◌+◌, ◌-◌, ◌^◌, ◌<◌, nat_lt, Bool, true, false, List, [], ◌∷◌, ◌++◌, length, map, get_or, set, take, drop, slice_get, Option, Some, None, MatchBool, refl}
use Rattle.std.proofs.Common.{sym, ap, ◌∙◌, subst, arith, append-nil, append_assoc, lt-ltb, ltb-true, length-append, length-take, take_all, take-add}
use Rattle.std.proofs.lemmas.List.{take-append-le, map-append, length-map, take_more}
use Rattle.std.proofs.lemmas.Bool.{cond-true}
use Rattle.std.proofs.lemmas.Option.{none-some}
use Rattle.da_outside.specs.declared.link.LinkEntry.{LinkEntry}
use Rattle.da_outside.specs.declared.link.LinkEntry.TheVariants.{Gave}
use Rattle.da_outside.specs.Link.{Gains}
use Rattle.arq_link.specs.declared.session.Session.{Session}
use Rattle.arq_link.specs.Endpoint.{Data, Gift, Peer, Endpoint, Turn, number_limit, peer_at, with_peer, appended, give_turn, first_again, again_from}
use Rattle.arq_link.specs.Frames.{frame_bytes}
use Rattle.arq_link.specs.Sessions.{endpoint_by, peer_of, peers_of}
use Rattle.arq_link.specs.Telling.{gift_entry}
use Rattle.arq_link.specs.Turns.{IsPlayed}
use Rattle.arq_link.proofs.SessionLaws.{peer_there, back_peers}

pub limit_is : number_limit ≡ 2 ^ 64 - 1
unfolding number_limit
limit_is = refl

-- A GIFT

pub has_room : (sessions : List Session) (to : ℕ) (session : Session) → slice_get sessions (to - 1) ≡ Some session
    → (peer_at (peers_of sessions) to).next < number_limit → session.next < 2 ^ 64 - 1
has_room sessions to session at room =
    let same : (peer_at (peers_of sessions) to).next ≡ session.next = ap (λ (y : Peer). y.next) (peer_there sessions (to - 1) session at) in omega
    (arith, room, same, limit_is)

pub number_there : (sessions : List Session) (to : ℕ) (session : Session) → slice_get sessions (to - 1) ≡ Some session
    → MatchBool (nat_lt session.next (2 ^ 64 - 1)) ((peer_at (peers_of sessions) to).next < number_limit)
    ((peer_at (peers_of sessions) to).next < number_limit → ⊥)
number_there sessions to session at = by (nat_lt session.next (2 ^ 64 - 1)) refl
  where
    same : (peer_at (peers_of sessions) to).next ≡ session.next
    same = ap (λ (y : Peer). y.next) (peer_there sessions (to - 1) session at)

    by : (b : Bool) → nat_lt session.next (2 ^ 64 - 1) ≡ b → MatchBool b ((peer_at (peers_of sessions) to).next < number_limit)
        ((peer_at (peers_of sessions) to).next < number_limit → ⊥)
    by true is = let below : session.next < 2 ^ 64 - 1 = ltb-true session.next (2 ^ 64 - 1) is in omega (arith, same, limit_is, below)
    by false is = λ room. let below : session.next < 2 ^ 64 - 1 = omega (arith, same, limit_is, room) in absurd
        (let both : true ≡ false = sym (lt-ltb session.next (2 ^ 64 - 1) below) ∙ is in cc)

pub give_below : (me : ℕ) (e : Endpoint) (to : ℕ) (payload : List ℕ) → (peer_at e.peers to).next < number_limit
    → give_turn me e to payload ≡ record {
      after = record { peers = with_peer e.peers to (appended (peer_at e.peers to) payload); idle = e.idle };
      gifts = record { to = to; frame = Data me (peer_at e.peers to).next payload } ∷ [];
      delivers = None;
    }
give_below me e to payload room = cond-true _ _ _ (lt-ltb (peer_at e.peers to).next number_limit room)

pub gives : (me idle to : ℕ) (payload : List ℕ) (sessions out back : List Session) (blank session session' : Session) (told told' : Option (List LinkEntry))
    → slice_get sessions (to - 1) ≡ Some session → out ≡ set sessions (to - 1) blank → back ≡ set out (to - 1) session'
    → (peer_at (peers_of sessions) to).next < number_limit
    → peer_of session' ≡ appended (peer_of session) payload → Gains told told' (Gave to (frame_bytes (Data me session.next payload)) ∷ [])
    → IsPlayed (give_turn me (endpoint_by sessions idle) to payload) (endpoint_by back idle) told told'
gives me idle to payload sessions out back blank session session' told told' at taken_out put_back room changed gave =
    subst (λ (turn : Turn). IsPlayed turn (endpoint_by back idle) told told') (sym (give_below me (endpoint_by sessions idle) to payload room)) (record {
      leads = ap (λ (l : List Peer). record { peers = l; idle = idle })
          (back_peers sessions out back (to - 1) blank session' taken_out put_back ∙ ap (λ (y : Peer). set (peers_of sessions) (to - 1) y)
          (changed ∙ ap (λ (y : Peer). appended y payload) (sym there)));
      gave = subst (λ n. Gains told told' (Gave to (frame_bytes (Data me n payload)) ∷ [])) (sym (ap (λ (y : Peer). y.next) there)) gave;
    })
  where
    there : peer_at (peers_of sessions) to ≡ peer_of session
    there = peer_there sessions (to - 1) session at

-- WHAT THE INNER LINK TELLS

pub gains_none : (told : Option (List LinkEntry)) → Gains told told []
gains_none None = tt
gains_none (Some entries) = ap Some (sym (append-nil entries))

pub gains_on : (told told' told'' : Option (List LinkEntry)) (xs ys : List LinkEntry) → Gains told told' xs → Gains told' told'' ys
    → Gains told told'' (xs ++ ys)
gains_on told told' None xs ys first second = tt
gains_on told None (Some later) xs ys first second = absurd (none-some later (sym second))
gains_on None (Some now) (Some later) xs ys first second = absurd (none-some now (sym first))
gains_on (Some was) (Some now) (Some later) xs ys first second =
    let is : now ≡ was ++ xs = let both : ◌≡◌ {A = Option (List LinkEntry)} (Some now) (Some (was ++ xs)) = first in cc in
    second ∙ ap (λ (l : List LinkEntry). Some (l ++ ys)) is ∙ ap Some (append_assoc was xs ys)

-- GIVEN AGAIN

again_both : (me to : ℕ) (xs ys : List Peer) → again_from me to (xs ++ ys) ≡ again_from me to xs ++ again_from me (to + length xs) ys
again_both me to [] ys = ap (λ n. again_from me n ys) (let e : to ≡ to + 0 = omega arith in e)
again_both me to (x ∷ xs) ys =
    ap (λ (l : List Gift). first_again me to x.waiting ++ l)
    (again_both me (to + 1) xs ys ∙ ap (λ n. again_from me (to + 1) xs ++ again_from me n ys)
    (let e : to + 1 + length xs ≡ to + suc (length xs) = omega arith in e))
    ∙ sym (append_assoc (first_again me to x.waiting) (again_from me (to + 1) xs) (again_from me (to + suc (length xs)) ys))

-- what is given again up to a place
abbrev pub again_to : ℕ → List Session → ℕ → List Gift
again_to me sessions place = again_from me 1 (peers_of (take place sessions))

again_next : (me : ℕ) (sessions : List Session) (place : ℕ) (session : Session) → place < length sessions
    → again_to me sessions (place + 1) ≡ again_to me sessions place ++ first_again me (place + 1) (peer_of (get_or sessions place session)).waiting
again_next me sessions place session within =
    ap (λ (l : List Session). again_from me 1 (peers_of l)) (take_more sessions place session within)
    ∙ ap (again_from me 1) (map-append peer_of (take place sessions) (get_or sessions place session ∷ []))
    ∙ again_both me 1 (peers_of (take place sessions)) (peer_of (get_or sessions place session) ∷ [])
    ∙ ap (λ (l : List Gift). again_to me sessions place ++ l)
    (append-nil (first_again me (1 + length (peers_of (take place sessions))) (peer_of (get_or sessions place session)).waiting)
    ∙ ap (λ n. first_again me n (peer_of (get_or sessions place session)).waiting)
    (let e : 1 + length (peers_of (take place sessions)) ≡ place + 1 = omega
    (arith, length-map (take place sessions) peer_of, length-take place sessions, within) in e))

pub record HasGiven (me : ℕ) (sessions : List Session) (place : ℕ) (told told' : Option (List LinkEntry)) (count count' faults faults' : ℕ) : Type 0 where
  pub gave : Gains told told' (map gift_entry (again_to me sessions place))
  pub count_is : count' ≡ count
  pub faults_are : faults' ≡ faults

pub none_given : (me : ℕ) (sessions : List Session) (told : Option (List LinkEntry)) (count faults : ℕ)
    → HasGiven me sessions 0 told told count count faults faults
none_given me sessions told count faults = record { gave = gains_none told; count_is = refl; faults_are = refl }

module _ (me : ℕ) (sessions : List Session) (place : ℕ) (session : Session) (within : place < length sessions)
    (is : session ≡ get_or sessions place session) where
  next_is : again_to me sessions (place + 1) ≡ again_to me sessions place ++ first_again me (place + 1) (peer_of session).waiting
  next_is = again_next me sessions place session within ∙ ap (λ (y : Session). again_to me sessions place ++ first_again me (place + 1) (peer_of y).waiting)
      (sym is)

  pub more_given : (told told' told'' : Option (List LinkEntry)) (count count' count'' faults faults' faults'' : ℕ)
      → HasGiven me sessions place told told' count count' faults faults'
      → Gains told' told'' (map gift_entry (first_again me (place + 1) (peer_of session).waiting)) → count'' ≡ count' → faults'' ≡ faults'
      → HasGiven me sessions (place + 1) told told'' count count'' faults faults''
  more_given told told' told'' count count' count'' faults faults' faults'' h gains same equal = record {
    gave = subst (λ (l : List LinkEntry). Gains told told'' l)
        (sym (ap (map gift_entry) next_is ∙ map-append gift_entry (again_to me sessions place) (first_again me (place + 1) (peer_of session).waiting)))
        (gains_on told told' told'' _ _ h.gave gains);
    count_is = same ∙ h.count_is;
    faults_are = equal ∙ h.faults_are;
  }

  pub cut_there : (told told' told'' : Option (List LinkEntry)) (count count' faults faults' : ℕ)
      → HasGiven me sessions place told told' count count' faults faults'
      → (0 < length (first_again me (place + 1) (peer_of session).waiting)) × Gains told' told'' []
      → (given : ℕ) × (given < length (again_from me 1 (peers_of sessions))) × Gains told told''
      (take given (map gift_entry (again_from me 1 (peers_of sessions))))
  cut_there told told' told'' count count' faults faults' h (some, gains) = (
    length (again_to me sessions place),
    (let long : length (again_from me 1 (peers_of sessions)) ≡ length (again_to me sessions place) + length more = ap (λ (l : List Gift). length l) whole
        ∙ length-append (again_to me sessions place) more in
        let much : length more ≡ length first + length others = length-append first others in
        omega (arith, long, much, some)),
    subst (λ (l : List LinkEntry). Gains told told'' l)
        (append-nil (map gift_entry (again_to me sessions place))
        ∙ sym (ap (λ (l : List Gift). take (length (again_to me sessions place)) (map gift_entry l)) whole
        ∙ ap (take (length (again_to me sessions place))) (map-append gift_entry (again_to me sessions place) more)
        ∙ front (map gift_entry (again_to me sessions place)) (map gift_entry more) (length (again_to me sessions place))
        (length-map (again_to me sessions place) gift_entry)))
        (gains_on told told' told'' (map gift_entry (again_to me sessions place)) [] h.gave gains),
  )
    where
      first : List Gift
      first = first_again me (place + 1) (peer_of session).waiting

      others : List Gift
      others = again_from me (1 + length (peers_of (take (place + 1) sessions))) (peers_of (take (length sessions) (drop (place + 1) sessions)))

      more : List Gift
      more = first ++ others

      whole : again_from me 1 (peers_of sessions) ≡ again_to me sessions place ++ more
      whole = ap (λ (l : List Session). again_from me 1 (peers_of l))
          (sym (take_all (place + 1 + length sessions) sessions (omega arith)) ∙ take-add (place + 1) (length sessions) sessions)
          ∙ ap (again_from me 1) (map-append peer_of (take (place + 1) sessions) (take (length sessions) (drop (place + 1) sessions)))
          ∙ again_both me 1 (peers_of (take (place + 1) sessions)) (peers_of (take (length sessions) (drop (place + 1) sessions)))
          ∙ ap (λ (l : List Gift). l ++ others) next_is ∙ append_assoc (again_to me sessions place) first others

      front : (xs ys : List LinkEntry) (n : ℕ) → length xs ≡ n → take n (xs ++ ys) ≡ xs
      front xs ys n is = ap (λ k. take k (xs ++ ys)) (sym is) ∙ take-append-le (length xs) xs ys (omega arith) ∙ take_all (length xs) xs (omega arith)

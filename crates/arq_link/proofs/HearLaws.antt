-- The turns of what an endpoint hears.
use Rattle.std.specs.Prelude.{◌≡◌, ◌==◌, ℕ, ◌+◌, ◌-◌, ◌^◌, ◌<◌, ◌≤◌, nat_le, nat_lt, Bool, true, false, cond, List, [], ◌∷◌, length, map, get_or, set, take, drop, slice_get, slice_index_or, Option, Some, None, MatchBool, refl}
use Rattle.std.proofs.Common.{sym, ap, ◌∙◌, subst, arith, eq-eqb, lt-ltb, ltb-true, ext_get_or, get_or-take, get_or-drop, length-take, length-drop}
use Rattle.std.proofs.lemmas.Bool.{cond_both, and_from, and_parts, eqb-true}
use Rattle.da_outside.specs.declared.link.LinkAnswer.{LinkAnswer}
use Rattle.da_outside.specs.declared.link.LinkAnswer.TheVariants as answers
use Rattle.da_outside.specs.declared.link.LinkEntry.{LinkEntry}
use Rattle.da_outside.specs.declared.link.LinkEntry.TheVariants.{Answered, Gave}
use Rattle.da_outside.specs.Link.{Gains}
use Rattle.arq_link.specs.declared.session.Session.{Session}
use Rattle.arq_link.specs.Endpoint.{Frame, Data, Acknowledgement, Peer, Endpoint, Turn, number_limit, new_peer, peer_at, with_peer, is_due, expecting, acknowledged, data_turn, acknowledgement_turn, quiet_turn, take_turn}
use Rattle.arq_link.specs.Frames.{arrival_of, frame_bytes}
use Rattle.arq_link.specs.Sessions.{endpoint_by, peer_of, peers_of}
use Rattle.arq_link.specs.Telling.{answer_by, arrival_by, gift_entry}
use Rattle.arq_link.specs.Turns.{FailedTake, HasTaken, IsCut, IsPlayed, after_cut, is_cut}
use Rattle.arq_link.proofs.GiveLaws.{gains_on, limit_is}
use Rattle.arq_link.proofs.SessionLaws.{back_peers, peer_there, peers_same}

-- THE PAYLOAD GOES TO THE FRONT

pub moved_to_front : (xs ys : List ℕ) (len : ℕ) → 14 ≤ len → len ≤ length xs → length ys ≡ length xs
    → ((k : ℕ) (d : ℕ) → 0 ≤ k → k < 0 + (len - 14) → slice_index_or ys k d ≡ slice_index_or xs (14 + (k - 0)) d)
    → take (len - 14) ys ≡ drop 14 (take len xs)
moved_to_front xs ys len some few same copied = ext_get_or 0 (take (len - 14) ys) (drop 14 (take len xs))
    (omega (arith, length-take (len - 14) ys, length-take len xs, length-drop 14 (take len xs), same, few, some))
    (λ i within.
    let below : i < len - 14 = omega (arith, within, length-take (len - 14) ys, same) in
    get_or-take (len - 14) ys i 0 below ∙ copied i 0 (omega arith) (omega (arith, below))
    ∙ ap (λ k. get_or xs k 0) (let e : 14 + (i - 0) ≡ 14 + i = omega arith in e)
    ∙ sym (get_or-drop 14 (take len xs) i 0 ∙ get_or-take len xs (14 + i) 0 (omega (arith, below))))

-- DATA

module _ (me idle sender number : ℕ) (payload : List ℕ) (sessions : List Session) (session : Session) (zero_is : idle ≡ 0)
    (there : slice_get sessions (sender - 1) ≡ Some session) where
  peer_is : peer_at (peers_of sessions) sender ≡ peer_of session
  peer_is = peer_there sessions (sender - 1) session there

  expected_is : (peer_at (peers_of sessions) sender).expected ≡ session.expected
  expected_is = ap (λ (y : Peer). y.expected) peer_is

  turn : Turn
  turn = data_turn me (endpoint_by sessions idle) sender number payload

  pub early_plays : (frame : List ℕ) (told told' : Option (List LinkEntry)) → (number ≡ session.expected → number < 2 ^ 64 - 1 → ⊥)
      → frame ≡ frame_bytes (Acknowledgement me session.expected) → Gains told told' (Gave sender frame ∷ [])
      → IsPlayed (data_turn me (endpoint_by sessions idle) sender number payload) (endpoint_by sessions idle) told told'
      × (answers.Nothing ≡ answer_by (data_turn me (endpoint_by sessions idle) sender number payload).delivers)
  early_plays frame told told' early is gave = cond_both (is_due (peer_at (peers_of sessions) sender) number) _ _
      (λ (t : Turn). IsPlayed t (endpoint_by sessions idle) told told' × (answers.Nothing ≡ answer_by t.delivers))
      (λ test. let (first, below) = and_parts (number == (peer_at (peers_of sessions) sender).expected) (nat_lt number number_limit) test in
      absurd (early (eqb-true number (peer_at (peers_of sessions) sender).expected first ∙ expected_is)
      (subst (λ k. number < k) limit_is (ltb-true number number_limit below))))
      (λ _. (
        record {
          leads = ap (λ k. endpoint_by sessions k) zero_is;
          gave = subst (λ (f : List ℕ). Gains told told' (Gave sender f ∷ []))
              (is ∙ ap (λ k. frame_bytes (Acknowledgement me k)) (sym expected_is)) gave;
        },
        refl,
      ))

  pub due_plays : (frame : List ℕ) (back : List Session) (idle' : ℕ) (answer : LinkAnswer) (told told' : Option (List LinkEntry))
      → (number ≡ session.expected) × (number < 2 ^ 64 - 1)
      → frame ≡ frame_bytes (Acknowledgement me (number + 1)) → Gains told told' (Gave sender frame ∷ [])
      → peers_of back ≡ set (peers_of sessions) (sender - 1) (expecting (get_or (peers_of sessions) (sender - 1) new_peer) (number + 1)) → idle' ≡ idle
      → answer ≡ answers.Datagram payload
      → IsPlayed (data_turn me (endpoint_by sessions idle) sender number payload) (endpoint_by back idle') told told'
      × (answer ≡ answer_by (data_turn me (endpoint_by sessions idle) sender number payload).delivers)
  due_plays frame back idle' answer told told' (first, below) is gave leads same hands = cond_both (is_due (peer_at (peers_of sessions) sender) number) _ _
      (λ (t : Turn). IsPlayed t (endpoint_by back idle') told told' × (answer ≡ answer_by t.delivers))
      (λ _. (
        record {
          leads = ap (λ (l : List Peer). record { peers = l; idle = idle' }) leads
              ∙ ap (λ k. record { peers = with_peer (peers_of sessions) sender (expecting (peer_at (peers_of sessions) sender) (number + 1)); idle = k })
              (same ∙ zero_is);
          gave = subst (λ (f : List ℕ). Gains told told' (Gave sender f ∷ [])) is gave;
        },
        hands,
      ))
      (λ test. absurd (let both : true ≡ false = sym (and_from (number == (peer_at (peers_of sessions) sender).expected) (nat_lt number number_limit)
      (eq-eqb number (peer_at (peers_of sessions) sender).expected (first ∙ sym expected_is))
      (lt-ltb number number_limit (subst (λ k. number < k) (sym limit_is) below))) ∙ test in cc))

pub data_cut : (me idle sender number : ℕ) (payload : List ℕ) (sessions : List Session) (told told' : Option (List LinkEntry)) → idle ≡ 0
    → Gains told told' []
    → IsCut (data_turn me (endpoint_by sessions idle) sender number payload) (endpoint_by sessions idle) (endpoint_by sessions idle) told told'
data_cut me idle sender number payload sessions told told' zero_is gave =
    cond_both (is_due (peer_at (peers_of sessions) sender) number) _ _
    (λ (t : Turn). IsCut t (endpoint_by sessions idle) (endpoint_by sessions idle) told told')
    (λ _. record { given = 0; few = omega arith; leads = ap (λ k. endpoint_by sessions k) zero_is; gave = gave })
    (λ _. record { given = 0; few = omega arith; leads = ap (λ k. endpoint_by sessions k) zero_is; gave = gave })

-- ANOTHER NUMBER IS EXPECTED

pub expects : (number place : ℕ) (sessions out back : List Session) (blank session session' : Session) → slice_get sessions place ≡ Some session
    → out ≡ set sessions place blank → back ≡ set out place session' → peer_of session' ≡ expecting (peer_of session) number
    → peers_of back ≡ set (peers_of sessions) place (expecting (get_or (peers_of sessions) place new_peer) number)
expects number place sessions out back blank session session' there taken_out put_back is =
    back_peers sessions out back place blank session' taken_out put_back
    ∙ ap (λ (y : Peer). set (peers_of sessions) place y) (is ∙ ap (λ (y : Peer). expecting y number) (sym (peer_there sessions place session there)))

-- AN ACKNOWLEDGEMENT

pub acknowledges : (idle sender number : ℕ) (sessions out back : List Session) (blank session session' : Session) → idle ≡ 0
    → slice_get sessions (sender - 1) ≡ Some session
    → out ≡ set sessions (sender - 1) blank → back ≡ set out (sender - 1) session'
    → MatchBool (nat_le number session.next) (peer_of session' ≡ acknowledged (peer_of session) number) (peer_of session' ≡ peer_of session)
    → endpoint_by back idle ≡ (acknowledgement_turn (endpoint_by sessions idle) sender number).after
acknowledges idle sender number sessions out back blank session session' zero_is there taken_out put_back changed =
    sym (ap (λ b. (cond b (quiet_turn (acknowledging (peer_at (peers_of sessions) sender))) (quiet_turn (endpoint_by sessions 0))).after)
    (ap (λ (y : Peer). nat_le number y.next) at)
    ∙ by (nat_le number session.next) changed)
  where
    at : peer_at (peers_of sessions) sender ≡ peer_of session
    at = peer_there sessions (sender - 1) session there

    acknowledging : Peer → Endpoint
    acknowledging y = record { peers = with_peer (peers_of sessions) sender (acknowledged y number); idle = 0 }

    back_is : peers_of back ≡ set (peers_of sessions) (sender - 1) (peer_of session')
    back_is = back_peers sessions out back (sender - 1) blank session' taken_out put_back

    by : (b : Bool) → MatchBool b (peer_of session' ≡ acknowledged (peer_of session) number) (peer_of session' ≡ peer_of session)
        → (cond b (quiet_turn (acknowledging (peer_at (peers_of sessions) sender))) (quiet_turn (endpoint_by sessions 0))).after ≡ endpoint_by back idle
    by true is = ap (λ (l : List Peer). record { peers = l; idle = 0 })
        (ap (λ (y : Peer). set (peers_of sessions) (sender - 1) y) (ap (λ (y : Peer). acknowledged y number) at ∙ sym is) ∙ sym back_is)
        ∙ ap (λ k. endpoint_by back k) (sym zero_is)
    by false is = ap (λ (l : List Peer). record { peers = l; idle = 0 }) (sym (peers_same sessions back (sender - 1) session session' there back_is is))
        ∙ ap (λ k. endpoint_by back k) (sym zero_is)

-- THE WHOLE CALL

-- whatever is heard, the turn of a datagram does not go by the count of idle answers
pub turn_at : (me idle idle' : ℕ) (sessions : List Session) (frame : Option Frame)
    → take_turn me (endpoint_by sessions idle) (arrival_of frame) ≡ take_turn me (endpoint_by sessions idle') (arrival_of frame)
turn_at me idle idle' sessions None = refl
turn_at me idle idle' sessions (Some (Data sender number payload)) = refl
turn_at me idle idle' sessions (Some (Acknowledgement sender number)) = refl

module _ (me : ℕ) (before after : Endpoint) (told told' told'' : Option (List LinkEntry)) (heard : LinkAnswer) (turn : Turn)
    (turn_is : turn ≡ take_turn me before (arrival_by heard))
    (first : Gains told told' (Answered heard ∷ [])) where
  pub has_taken : (answer : LinkAnswer) → IsPlayed turn after told' told'' → answer ≡ answer_by turn.delivers → HasTaken me before after answer told told''
  has_taken answer played answers = record {
    heard = heard;
    leads = played.leads ∙ ap (λ (t : Turn). t.after) turn_is;
    gave = subst (λ (t : Turn). Gains told told'' (Answered heard ∷ map gift_entry t.gifts)) turn_is
        (gains_on told told' told'' (Answered heard ∷ []) (map gift_entry turn.gifts) first played.gave);
    answers = answers ∙ ap (λ (t : Turn). answer_by t.delivers) turn_is;
  }

  pub has_failed : (before' : Endpoint) → before'.peers ≡ before.peers → IsCut turn before' after told' told'' → FailedTake me before after told told''
  has_failed before' peers_are cut = is_cut heard cut.given
      (subst (λ (t : Turn). cut.given < length t.gifts) turn_is cut.few)
      (cut.leads ∙ ap (λ (t : Turn). after_cut before' t) turn_is
      ∙ ap (λ (l : List Peer). record { peers = l; idle = (take_turn me before (arrival_by heard)).after.idle }) peers_are)
      (subst (λ (t : Turn). Gains told told'' (Answered heard ∷ take cut.given (map gift_entry t.gifts))) turn_is
      (gains_on told told' told'' (Answered heard ∷ []) (take cut.given (map gift_entry turn.gifts)) first cut.gave))

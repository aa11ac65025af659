-- After each call all is well, whether it succeeds or the inner link fails in it.
use Rattle.std.specs.Prelude.{◌≡◌, ℕ, zero, suc, ◌+◌, ◌-◌, ◌<◌, ◌≤◌, ◌&&◌, ◌==◌, nat_le, nat_lt, true, false, List, [], ◌∷◌, ◌++◌, length, get_or}
use Rattle.std.specs.Prelude.{take, slice_get, Some, None, refl}
use Rattle.std.proofs.Common.{ap, ◌∙◌, subst, inl, arith, append-nil}
use Rattle.std.proofs.lemmas.List.{set-get_or}
use Rattle.std.proofs.lemmas.Bool.{cond_both, cond-true, and_parts, and_from, eq-eqb, eqb-true, leb-true, ltb-true, ltb-false}
use Rattle.arq_link.specs.Endpoint.{Frame, Data, Acknowledgement, Gift, Arrival, FrameCame, OtherCame, NothingCame, Numbered, Peer, Endpoint, Turn}
use Rattle.arq_link.specs.Endpoint.{number_limit, new_peer, with_peer, is_peer, sender_of, quiet_turn, counted, appended, give_turn, is_due}
use Rattle.arq_link.specs.Endpoint.{expecting, data_turn, acknowledged, acknowledgement_turn, frame_turn, first_again, again_from, idle_turn}
use Rattle.arq_link.specs.Endpoint.{take_turn}
use Rattle.arq_link.specs.Net.{Call, Give, Take, turn_of, Event, Gave, WasHanded, Net, after_turn, after_cut, IsProcess, MayCall, gave, handed, put}
use Rattle.arq_link.proofs.Invariant.{IsAmong, IsSound, AreSound, IsWell, kept}
use Rattle.arq_link.proofs.ListLaws.{Each, at_end, each_of_one, each_in_both, each_in_front}
use Rattle.arq_link.proofs.NetLaws.{gave_more, no_event, one_gift, one_delivery, touch, kept_is, within, touched, untouched}
use Rattle.arq_link.proofs.PeerLaws.{fits_given, fits_unnumbered, fits_handed, fits_acknowledged}

-- all is well after the turn, and the frames before each of its gifts are sound where it is cut there
pub record Serves (count : ℕ) (net : Net) (p : ℕ) (call : Call) (turn : Turn) : Type 0 where
  pub whole : IsWell count (after_turn net p call turn)
  pub part : (given : ℕ) → given < length turn.gifts → AreSound count net.ends net.events (take given turn.gifts)

-- nothing is before a gift that is alone
in_front_of_one : (P : Gift → Type 0) (gift : Gift) (given : ℕ) → given < 1 → Each P (take given (gift ∷ []))
in_front_of_one P gift zero before x has = absurd has
in_front_of_one P gift (suc given) before x has = absurd (omega (arith, before))

own_pair : (p q : ℕ) → ((p == p) && (q == q)) ≡ true
own_pair p q = and_from (p == p) (q == q) (eq-eqb p p refl) (eq-eqb q q refl)

module _ (count : ℕ) (net : Net) (p : ℕ) (well : IsWell count net) (there : IsProcess count p) where
  serves_quietly : (arrival : Arrival) (idle : ℕ) → Serves count net p (Take arrival) (quiet_turn (counted (net.ends p) idle))
  serves_quietly arrival idle = record {
    whole = untouched count net p well there idle [] (λ gift has. absurd has);
    part = λ given before. absurd (omega (arith, before));
  }

  -- a payload is given
  module _ (to : ℕ) (payload : List ℕ) (here : IsProcess count to) where
    abbrev sending : Peer
    sending = kept net.ends p to

    serves_numbered : nat_lt sending.next number_limit ≡ true → Serves count net p (Give to payload) (record {
      after = record { peers = with_peer (net.ends p).peers to (appended sending payload); idle = (net.ends p).idle };
      gifts = record { to = to; frame = Data p sending.next payload } ∷ [];
      delivers = None;
    })
    serves_numbered test = let below : sending.next < number_limit = ltb-true sending.next number_limit test in record {
      whole = touched count net p to well there here (appended sending payload) (net.ends p).idle _ (Gave p to payload ∷ []) (payload ∷ []) []
          (one_gift p to payload)
          (omega arith)
          (rw (append-nil (handed p to net.events)) (fits_given sending _ _ _ _ (well.fits p to there here) payload below))
          (each_of_one _ _ (sound below));
      part = in_front_of_one _ _;
    }
      where
        sound : sending.next < number_limit → slice_get (gave p to (net.events ++ Gave p to payload ∷ [])) sending.next ≡ Some payload
        sound below =
            ap (λ l. slice_get l sending.next) (gave_more p to net.events (Gave p to payload ∷ [])
            ∙ ap (λ l. gave p to net.events ++ l) ((one_gift p to payload).gave_is p to ∙ cond-true _ (payload ∷ []) [] (own_pair p to)))
            ∙ ap (slice_get (gave p to net.events ++ payload ∷ [])) ((well.fits p to there here).next_is below)
            ∙ at_end (gave p to net.events) payload

    serves_unnumbered : nat_lt sending.next number_limit ≡ false → Serves count net p (Give to payload) (quiet_turn (net.ends p))
    serves_unnumbered test =
        let none : sending.next < number_limit → ⊥ = λ below. absurd (omega (arith, below, ltb-false sending.next number_limit test)) in
        record {
          whole = subst (λ (peers : List Peer). IsWell count (record {
            ends = put net.ends p (record { peers = peers; idle = (net.ends p).idle });
            given = net.given ++ [];
            events = net.events ++ Gave p to payload ∷ [];
          })) (set-get_or (net.ends p).peers (to - 1) new_peer)
              (touched count net p to well there here sending (net.ends p).idle [] (Gave p to payload ∷ []) (payload ∷ []) [] (one_gift p to payload)
              (omega arith)
              (rw (append-nil (handed p to net.events)) (fits_unnumbered sending _ _ _ _ (well.fits p to there here) payload none))
              (λ gift has. absurd has));
          part = λ given before. absurd (omega (arith, before));
        }

    pub serves_give : Serves count net p (Give to payload) (give_turn p (net.ends p) to payload)
    serves_give = cond_both (nat_lt sending.next number_limit) _ _ (Serves count net p (Give to payload)) serves_numbered serves_unnumbered

  -- data comes
  module _ (arrival : Arrival) (sender number : ℕ) (here : IsProcess count sender) where
    abbrev sent : Peer
    sent = kept net.ends p sender

    module _ (payload : List ℕ) (at : slice_get (gave sender p net.events) number ≡ Some payload) where
      serves_due : is_due sent number ≡ true → Serves count net p (Take arrival) (record {
        after = record { peers = with_peer (net.ends p).peers sender (expecting sent (number + 1)); idle = 0 };
        gifts = record { to = sender; frame = Acknowledgement p (number + 1) } ∷ [];
        delivers = Some (record { sender = sender; payload = payload });
      })
      serves_due test =
          let due : number ≡ sent.expected = eqb-true number sent.expected (and_parts (number == sent.expected) (nat_lt number number_limit) test).0 in
          let now : kept (touch net.ends p sender (expecting sent (number + 1)) 0) p sender ≡ expecting sent (number + 1)
          = kept_is net.ends p sender (expecting sent (number + 1)) 0 p sender here.0 here.0 (within count net p sender well there here)
          ∙ cond-true _ (expecting sent (number + 1)) sent (own_pair p sender) in
          record {
            whole = touched count net p sender well there here (expecting sent (number + 1)) 0 _ (WasHanded p sender payload ∷ []) [] (payload ∷ [])
                (one_delivery p sender payload)
                (omega (arith, due))
                (rw (append-nil (gave p sender net.events)) (fits_handed sent _ _ _ _ (well.fits p sender there here) number payload due at))
                (each_of_one _ _ (λ that this. omega (arith, ap (λ (peer : Peer). peer.expected) now)));
            part = in_front_of_one _ _;
          }

      serves_not_due : Serves count net p (Take arrival) (record {
        after = counted (net.ends p) 0;
        gifts = record { to = sender; frame = Acknowledgement p sent.expected } ∷ [];
        delivers = None;
      })
      serves_not_due = record {
        whole = untouched count net p well there 0 _ (each_of_one _ _ (λ that this. omega arith));
        part = in_front_of_one _ _;
      }

      pub serves_data : Serves count net p (Take arrival) (data_turn p (net.ends p) sender number payload)
      serves_data = cond_both (is_due sent number) _ _ (Serves count net p (Take arrival)) serves_due (λ _. serves_not_due)

    -- an acknowledgement comes
    serves_next : number ≤ (kept net.ends sender p).expected
        → Serves count net p (Take arrival) (quiet_turn (record { peers = with_peer (net.ends p).peers sender (acknowledged sent number); idle = 0 }))
    serves_next reached = record {
      whole = touched count net p sender well there here (acknowledged sent number) 0 [] [] [] [] (no_event p sender)
          (omega arith)
          (rw (append-nil (gave p sender net.events), append-nil (handed p sender net.events))
          (fits_acknowledged sent _ _ _ _ (well.fits p sender there here) number reached))
          (λ gift has. absurd has);
      part = λ given before. absurd (omega (arith, before));
    }

    pub serves_acknowledgement : number ≤ (kept net.ends sender p).expected
        → Serves count net p (Take arrival) (acknowledgement_turn (net.ends p) sender number)
    serves_acknowledgement reached = cond_both (nat_le number sent.next) _ _ (Serves count net p (Take arrival))
        (λ _. serves_next reached) (λ _. serves_quietly arrival 0)

-- nothing is there, and what waits is given again
module _ (count : ℕ) (ends : ℕ → Endpoint) (events : List Event) (me : ℕ) where
  abbrev IsSoundGift : Gift → Type 0
  IsSoundGift gift = IsSound count ends events gift.to gift.frame

  abbrev AreAmong : (to : ℕ) → Peer → Type 0
  AreAmong to peer = Each (IsAmong (gave me to events)) peer.waiting

  first_sound : (to : ℕ) (waiting : List Numbered) → Each (IsAmong (gave me to events)) waiting
      → AreSound count ends events (first_again me to waiting)
  first_sound to [] among gift has = absurd has
  first_sound to (entry ∷ waiting) among gift has = each_of_one IsSoundGift _ (among entry (inl refl)) gift has

  again_sound : (to : ℕ) (peers : List Peer) → ((n : ℕ) → n < length peers → AreAmong (to + n) (get_or peers n new_peer))
      → AreSound count ends events (again_from me to peers)
  again_sound to [] among gift has = absurd has
  again_sound to (peer ∷ peers) among gift has = each_in_both IsSoundGift (first_again me to peer.waiting) (again_from me (to + 1) peers)
      (first_sound to peer.waiting (subst (λ n. AreAmong n peer) (let same : to + 0 ≡ to = omega arith in same) (among 0 (omega arith))))
      (again_sound (to + 1) peers (λ n below.
      subst (λ m. AreAmong m (get_or peers n new_peer)) (let same : to + suc n ≡ to + 1 + n = omega arith in same)
      (among (suc n) (omega (arith, below)))))
      gift has

module _ (count : ℕ) (net : Net) (p : ℕ) (well : IsWell count net) (there : IsProcess count p) where
  serves_idle : (arrival : Arrival) → Serves count net p (Take arrival) (idle_turn p (net.ends p))
  serves_idle arrival = cond_both ((net.ends p).idle + 1 == 100) _ _ (Serves count net p (Take arrival))
      (λ _. record { whole = untouched count net p well there 0 _ sound; part = λ given before. each_in_front _ given _ sound })
      (λ _. serves_quietly count net p well there arrival ((net.ends p).idle + 1))
    where
      sound : AreSound count net.ends net.events (again_from p 1 (net.ends p).peers)
      sound = again_sound count net.ends net.events p 1 (net.ends p).peers (λ n below.
          subst (λ m. AreAmong count net.ends net.events p (1 + n) (get_or (net.ends p).peers m new_peer)) (let same : 1 + n - 1 ≡ n = omega arith in same)
          (well.fits p (1 + n) there (omega arith, omega (arith, below, well.counts p there))).among)

  -- ANY CALL

  serves_frame : (arrival : Arrival) (frame : Frame) → IsProcess count (sender_of frame) → IsSound count net.ends net.events p frame
      → Serves count net p (Take arrival) (frame_turn p (net.ends p) frame)
  serves_frame arrival (Data sender number payload) here is = serves_data count net p well there arrival sender number here payload is
  serves_frame arrival (Acknowledgement sender number) here is = serves_acknowledgement count net p well there arrival sender number here (is here there)

  serves_came : (frame : Frame) → IsSound count net.ends net.events p frame
      → Serves count net p (Take (FrameCame frame)) (take_turn p (net.ends p) (FrameCame frame))
  serves_came frame is = cond_both (is_peer (net.ends p) (sender_of frame)) _ _ (Serves count net p (Take (FrameCame frame)))
      (λ test. let (some, few) = and_parts (nat_le 1 (sender_of frame)) (nat_le (sender_of frame) (length (net.ends p).peers)) test in
      serves_frame (FrameCame frame) frame
      (leb-true 1 (sender_of frame) some, omega (arith, leb-true (sender_of frame) (length (net.ends p).peers) few, well.counts p there)) is)
      (λ _. serves_quietly count net p well there (FrameCame frame) 0)

  pub serves : (call : Call) → MayCall count net p call → Serves count net p call (turn_of p (net.ends p) call)
  serves (Give to payload) here = serves_give count net p well there to payload here
  serves (Take (FrameCame frame)) given = serves_came frame (well.sound (record { to = p; frame = frame }) given)
  serves (Take OtherCame) _ = serves_quietly count net p well there OtherCame 0
  serves (Take NothingCame) _ = serves_idle NothingCame

  -- the inner link fails in a call
  pub well_cut : (turn : Turn) (given : ℕ) → AreSound count net.ends net.events (take given turn.gifts) → IsWell count (after_cut net p turn given)
  well_cut turn given sound = subst (λ (events : List Event). IsWell count (record {
    ends = put net.ends p (record { peers = (net.ends p).peers; idle = turn.after.idle });
    given = net.given ++ take given turn.gifts;
    events = events;
  })) (append-nil net.events) (untouched count net p well there turn.after.idle (take given turn.gifts) sound)

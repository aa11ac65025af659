-- A call of p changes at most what p keeps for one process q.
use Rattle.std.specs.Prelude.{◌≡◌, ℕ, ◌-◌, ◌<◌, ◌≤◌, ◌&&◌, ◌==◌, Bool, true, false, cond, List, [], ◌∷◌, ◌++◌, length, refl}
use Rattle.std.proofs.Common.{sym, ap, ◌∙◌, subst, arith, append-nil, length-set, get_or-set_other}
use Rattle.std.proofs.lemmas.Bool.{cond_both, and_parts, eqb-true, eqb-false}
use Rattle.std.proofs.lemmas.Grind.{flat_map-append, get_or-set_at}
use Rattle.std.proofs.lemmas.List.{set-get_or}
use Rattle.arq_link.specs.Endpoint.{Frame, Data, Acknowledgement, Gift, Peer, Endpoint, new_peer, peer_at, with_peer}
use Rattle.arq_link.specs.Net.{Event, Gave, WasHanded, Net, IsProcess, gave, handed, put}
use Rattle.arq_link.proofs.Invariant.{Fits, IsSound, AreSound, FitsAt, IsWell, kept}
use Rattle.arq_link.proofs.ListLaws.{still_at, each_in_both}
use Rattle.arq_link.proofs.PeerLaws.{fits_later}

-- EVENTS

pub gave_more : (p q : ℕ) (events more : List Event) → gave p q (events ++ more) ≡ gave p q events ++ gave p q more
gave_more p q events more = flat_map-append _ events more

pub handed_more : (p q : ℕ) (events more : List Event) → handed p q (events ++ more) ≡ handed p q events ++ handed p q more
handed_more p q events more = flat_map-append _ events more

-- the events are of p and q alone: p gave the first payloads to q, and was handed the second ones of q
pub record AreOf (p q : ℕ) (events : List Event) (given taken : List (List ℕ)) : Type 0 where
  pub gave_is : (a b : ℕ) → gave a b events ≡ cond ((p == a) && (q == b)) given []
  pub handed_is : (a b : ℕ) → handed a b events ≡ cond ((p == a) && (q == b)) taken []

nothing_either_way : (test : Bool) → ◌≡◌ {A = List (List ℕ)} (cond test [] []) []
nothing_either_way true = refl
nothing_either_way false = refl

pub no_event : (p q : ℕ) → AreOf p q [] [] []
no_event p q = record { gave_is = λ a b. sym (nothing_either_way ((p == a) && (q == b))); handed_is = λ a b. sym (nothing_either_way ((p == a) && (q == b))) }

pub one_gift : (p q : ℕ) (payload : List ℕ) → AreOf p q (Gave p q payload ∷ []) (payload ∷ []) []
one_gift p q payload = record {
  gave_is = λ a b. append-nil (cond ((p == a) && (q == b)) (payload ∷ []) []);
  handed_is = λ a b. sym (nothing_either_way ((p == a) && (q == b)));
}

pub one_delivery : (p q : ℕ) (payload : List ℕ) → AreOf p q (WasHanded p q payload ∷ []) [] (payload ∷ [])
one_delivery p q payload = record {
  gave_is = λ a b. sym (nothing_either_way ((p == a) && (q == b)));
  handed_is = λ a b. append-nil (cond ((p == a) && (q == b)) (payload ∷ []) []);
}

-- WHAT IS KEPT

same_pair : (p q a b : ℕ) → ((p == a) && (q == b)) ≡ true → (p ≡ a) × (q ≡ b)
same_pair p q a b test = let (first, second) = and_parts (p == a) (q == b) test in (eqb-true p a first, eqb-true q b second)

set_is : (peers : List Peer) (q b : ℕ) (x : Peer) → 1 ≤ q → 1 ≤ b → q - 1 < length peers
    → peer_at (with_peer peers q x) b ≡ cond (q == b) x (peer_at peers b)
set_is peers q b x some more within = cond_both (q == b) x (peer_at peers b) (λ (y : Peer). peer_at (with_peer peers q x) b ≡ y)
    (λ same. get_or-set_at peers (q - 1) (b - 1) x new_peer (let place : b - 1 ≡ q - 1 = omega (arith, eqb-true q b same) in place) within)
    (λ other. get_or-set_other peers (q - 1) (b - 1) x new_peer (λ place. eqb-false q b other (omega (arith, place, some, more))))

-- p keeps x for q in place of what it kept
abbrev pub touch : (ℕ → Endpoint) → (p q : ℕ) → Peer → (idle : ℕ) → ℕ → Endpoint
touch ends p q x idle = put ends p (record { peers = with_peer (ends p).peers q x; idle = idle })

pub kept_is : (ends : ℕ → Endpoint) (p q : ℕ) (x : Peer) (idle a b : ℕ) → 1 ≤ q → 1 ≤ b → q - 1 < length (ends p).peers
    → kept (touch ends p q x idle) a b ≡ cond ((p == a) && (q == b)) x (kept ends a b)
kept_is ends p q x idle a b some more within =
    cond_both (p == a) (record { peers = with_peer (ends p).peers q x; idle = idle }) (ends a)
    (λ e. peer_at e.peers b ≡ cond ((p == a) && (q == b)) x (kept ends a b))
    (λ same. set_is (ends p).peers q b x some more within
    ∙ ap (λ n. cond (q == b) x (kept ends n b)) (eqb-true p a same)
    ∙ ap (λ t. cond (t && (q == b)) x (kept ends a b)) (sym same))
    (λ other. ap (λ t. cond (t && (q == b)) x (kept ends a b)) (sym other))

-- A NET IN WHICH ALL IS WELL

-- what was sound is so when endpoints have reached more
pub sound_later : (count : ℕ) (ends ends' : ℕ → Endpoint) (events more : List Event)
    → ((a b : ℕ) → IsProcess count a → IsProcess count b → (kept ends a b).expected ≤ (kept ends' a b).expected)
    → (to : ℕ) (frame : Frame) → IsSound count ends events to frame → IsSound count ends' (events ++ more) to frame
sound_later count ends ends' events more reach to (Data sender number payload) is =
    rw (gave_more sender to events more) (still_at (gave sender to events) (gave sender to more) number payload is)
sound_later count ends ends' events more reach to (Acknowledgement sender number) is = λ there here. omega (arith, is there here, reach sender to there here)

module _ (count : ℕ) (net : Net) (p q : ℕ) (well : IsWell count net) (there : IsProcess count p) (here : IsProcess count q) where
  pub within : q - 1 < length (net.ends p).peers
  within = omega (arith, well.counts p there, here.0, here.1)

  module _ (x : Peer) (idle : ℕ) (gifts : List Gift) (events : List Event) (given taken : List (List ℕ)) (of : AreOf p q events given taken)
      (up : (kept net.ends p q).expected ≤ x.expected)
      (fits : Fits x (kept net.ends q p).expected (gave p q net.events ++ given) (gave q p net.events) (handed p q net.events ++ taken)) where
    kept_now : (a b : ℕ) → IsProcess count b → kept (touch net.ends p q x idle) a b ≡ cond ((p == a) && (q == b)) x (kept net.ends a b)
    kept_now a b this = kept_is net.ends p q x idle a b here.0 this.0 within

    pub reaches : (a b : ℕ) → IsProcess count a → IsProcess count b → (kept net.ends a b).expected ≤ (kept (touch net.ends p q x idle) a b).expected
    reaches a b that this = subst (λ (y : Peer). (kept net.ends a b).expected ≤ y.expected) (sym (kept_now a b this))
        (cond_both ((p == a) && (q == b)) x (kept net.ends a b) (λ (y : Peer). (kept net.ends a b).expected ≤ y.expected)
        (λ test. let (first, second) = same_pair p q a b test in
        subst (λ n. (kept net.ends n b).expected ≤ x.expected) first (subst (λ n. (kept net.ends p n).expected ≤ x.expected) second up))
        (λ _. omega arith))

    -- at any pair, but for what the other one gives and reaches
    fits_half : (a b : ℕ) → IsProcess count a → IsProcess count b → (test : Bool) → ((p == a) && (q == b)) ≡ test
        → Fits (cond test x (kept net.ends a b)) (kept net.ends b a).expected (gave a b net.events ++ cond test given []) (gave b a net.events)
        (handed a b net.events ++ cond test taken [])
    fits_half a b that this true same = let (first, second) = same_pair p q a b same in
        subst (λ m. Fits x (kept net.ends b m).expected (gave m b net.events ++ given) (gave b m net.events) (handed m b net.events ++ taken)) first
        (subst (λ n. Fits x (kept net.ends n p).expected (gave p n net.events ++ given) (gave n p net.events) (handed p n net.events ++ taken)) second fits)
    fits_half a b that this false other = rw (append-nil (gave a b net.events), append-nil (handed a b net.events)) (well.fits a b that this)

    fits_now : (a b : ℕ) → IsProcess count a → IsProcess count b
        → FitsAt (record { ends = touch net.ends p q x idle; given = net.given ++ gifts; events = net.events ++ events }) a b
    fits_now a b that this =
        rw (gave_more a b net.events events, gave_more b a net.events events, handed_more a b net.events events, of.gave_is a b, of.handed_is a b)
        (subst (λ (y : Peer). Fits y (kept (touch net.ends p q x idle) b a).expected (gave a b net.events ++ cond ((p == a) && (q == b)) given [])
        (gave b a net.events ++ gave b a events) (handed a b net.events ++ cond ((p == a) && (q == b)) taken []))
        (sym (kept_now a b this))
        (fits_later _ _ _ _ _ (fits_half a b that this ((p == a) && (q == b)) refl) (kept (touch net.ends p q x idle) b a).expected (gave b a events)
        (reaches b a this that)))

    pub touched : AreSound count (touch net.ends p q x idle) (net.events ++ events) gifts
        → IsWell count (record { ends = touch net.ends p q x idle; given = net.given ++ gifts; events = net.events ++ events })
    touched sound = record {
      counts = λ a that. cond_both (p == a) (record { peers = with_peer (net.ends p).peers q x; idle = idle }) (net.ends a)
          (λ (e : Endpoint). length e.peers ≡ count)
          (λ _. length-set (net.ends p).peers (q - 1) x ∙ well.counts p there)
          (λ _. well.counts a that);
      fits = fits_now;
      sound = each_in_both _ net.given gifts
          (λ gift has. sound_later count net.ends (touch net.ends p q x idle) net.events events reaches gift.to gift.frame (well.sound gift has)) sound;
    }

-- what p keeps stays, and frames that are sound are given
module _ (count : ℕ) (net : Net) (p : ℕ) (well : IsWell count net) (there : IsProcess count p) (idle : ℕ) (gifts : List Gift) where
  abbrev WellWith : List Peer → Type 0
  WellWith peers = IsWell count (record {
    ends = put net.ends p (record { peers = peers; idle = idle });
    given = net.given ++ gifts;
    events = net.events ++ [];
  })

  pub untouched : AreSound count net.ends net.events gifts → WellWith (net.ends p).peers
  untouched sound = subst WellWith (set-get_or (net.ends p).peers (p - 1) new_peer)
      (touched count net p p well there there (kept net.ends p p) idle gifts [] [] [] (no_event p p) (omega arith)
      (rw (append-nil (gave p p net.events), append-nil (handed p p net.events)) (well.fits p p there there))
      (λ gift has. sound_later count net.ends (touch net.ends p p (kept net.ends p p) idle) net.events []
      (reaches count net p p well there there (kept net.ends p p) idle gifts [] [] [] (no_event p p) (omega arith)
      (rw (append-nil (gave p p net.events), append-nil (handed p p net.events)) (well.fits p p there there)))
      gift.to gift.frame (sound gift has)))

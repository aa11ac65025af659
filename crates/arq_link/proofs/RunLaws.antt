-- After every run all is well; so payloads arrive in order, and what did not arrive still waits.
use Rattle.std.specs.Prelude.{◌≡◌, ℕ, ◌-◌, ◌<◌, List, ◌++◌, length, replicate, drop}
use Rattle.std.proofs.Common.{sym, ap, ◌∙◌, arith, inl, inr, take-append-drop}
use Rattle.std.proofs.lemmas.Bool.{cases_lt}
use Rattle.std.proofs.lemmas.List.{get_or-replicate, length-replicate, length-take-le}
use Rattle.arq_link.specs.Endpoint.{Peer, number_limit, new_peer, peer_at}
use Rattle.arq_link.specs.Net.{Net, opening, turn_of, IsProcess, Goes, succeeds, is_cut, fails, Runs, begins, goes, gave, handed, ArrivesInOrder, Remains}
use Rattle.arq_link.proofs.CallLaws.{serves, well_cut}
use Rattle.arq_link.proofs.Invariant.{Fits, FitsAt, IsWell, kept}
use Rattle.arq_link.proofs.PeerLaws.{fits_new}

opening_well : (count : ℕ) → IsWell count (opening count)
opening_well count = record {
  counts = λ p there. length-replicate count new_peer;
  fits = fits;
  sound = λ gift has. absurd has;
}
  where
    is_new : (q : ℕ) → IsProcess count q → peer_at (replicate count new_peer) q ≡ new_peer
    is_new q here = get_or-replicate count (q - 1) new_peer new_peer (omega (arith, here.0, here.1))

    fits : (p q : ℕ) → IsProcess count p → IsProcess count q → FitsAt (opening count) p q
    fits p q there here = rw (is_new p there, is_new q here) fits_new

goes_well : (count : ℕ) (net net' : Net) → IsWell count net → Goes count net net' → IsWell count net'
goes_well count net net' well (succeeds p call there may) = (serves count net p well there call may).whole
goes_well count net net' well (is_cut p call given there may before) =
    well_cut count net p well there (turn_of p (net.ends p) call) given ((serves count net p well there call may).part given before)
goes_well count net net' well fails = well

pub runs_well : (count : ℕ) (net : Net) → Runs count net → IsWell count net
runs_well count net begins = opening_well count
runs_well count net (goes before net' runs step) = goes_well count before net (runs_well count before runs) step

pub all_arrive_in_order : ArrivesInOrder
all_arrive_in_order count net runs p q there here =
    let fits = (runs_well count net runs).fits p q there here in (
      drop (kept net.ends p q).expected (gave q p net.events),
      sym (take-append-drop (kept net.ends p q).expected (gave q p net.events))
          ∙ ap (λ (front : List (List ℕ)). front ++ drop (kept net.ends p q).expected (gave q p net.events)) (sym fits.handed_is),
    )

numbered : (peer : Peer) (reached n : ℕ) (out came handed : List (List ℕ)) → Fits peer reached out came handed
    → n < length out → n < number_limit → n < peer.next
numbered peer reached n out came handed fits given below = elim (cases_lt peer.next number_limit) [
  | inl few ↦ (let all : peer.next ≡ length out = fits.next_is few in omega (arith, all, given))
  | inr all ↦ omega (arith, all, below)
]

pub all_remain : Remains
all_remain count net runs p q there here n later given below =
    let well = runs_well count net runs in
    let mine = well.fits p q there here in
    let theirs = well.fits q p here there in
    let long : length (handed q p net.events) ≡ (kept net.ends q p).expected
    = ap (λ (l : List (List ℕ)). length l) theirs.handed_is ∙ length-take-le (kept net.ends q p).expected (gave p q net.events) theirs.expected_within in
    let (payload, waits) = mine.waits n (omega (arith, long, later)) (numbered _ _ n _ _ _ mine given below) in
    (payload, mine.among _ waits, waits)

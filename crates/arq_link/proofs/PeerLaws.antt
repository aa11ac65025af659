-- What each call does to what is kept for one peer.
use Rattle.std.specs.Prelude.{◌≡◌, ℕ, ◌+◌, ◌<◌, ◌≤◌, nat_le, List, [], ◌∷◌, ◌++◌, length, take, slice_get, Some, refl}
use Rattle.std.proofs.Common.{sym, ap, ◌∙◌, subst, inl, inr, arith, length-append, le-leb}
use Rattle.std.proofs.lemmas.Bool.{cases_eq}
use Rattle.std.proofs.lemmas.List.{take-append-le}
use Rattle.std.proofs.lemmas.Option.{slice_get_within}
use Rattle.da_values.specs.Sets.{Has}
use Rattle.arq_link.specs.Endpoint.{Numbered, Peer, number_limit, new_peer, appended, expecting, acknowledged}
use Rattle.arq_link.proofs.Invariant.{Fits, IsAmong}
use Rattle.arq_link.proofs.ListLaws.{Each, still_at, at_end, take_one_more, has_before, has_last, has_kept, each_of_one, each_in_both, each_kept}

pub fits_new : Fits new_peer 0 [] [] []
fits_new = record {
  next_within = omega arith;
  next_is = λ _. refl;
  among = λ _ has. absurd has;
  waits = λ _ _ below. absurd (omega (arith, below));
  expected_within = omega arith;
  handed_is = refl;
}

among_more : (out more : List (List ℕ)) (waiting : List Numbered) → Each (IsAmong out) waiting → Each (IsAmong (out ++ more)) waiting
among_more out more waiting among entry has = still_at out more entry.number entry.payload (among entry has)

module _ (peer : Peer) (reached : ℕ) (out came handed : List (List ℕ)) (fits : Fits peer reached out came handed) where
  -- the peer gives more, and reaches more
  pub fits_later : (reached' : ℕ) (more : List (List ℕ)) → reached ≤ reached' → Fits peer reached' out (came ++ more) handed
  fits_later reached' more later = record {
    next_within = fits.next_within;
    next_is = fits.next_is;
    among = fits.among;
    waits = λ number from below. fits.waits number (omega (arith, from, later)) below;
    expected_within = omega (arith, fits.expected_within, length-append came more);
    handed_is = fits.handed_is ∙ sym (take-append-le peer.expected came more fits.expected_within);
  }

  -- a payload is given
  pub fits_given : (payload : List ℕ) → peer.next < number_limit → Fits (appended peer payload) reached (out ++ payload ∷ []) came handed
  fits_given payload below =
      let is : peer.next ≡ length out = fits.next_is below in
      let long : length (out ++ payload ∷ []) ≡ length out + 1 = length-append out (payload ∷ []) in
      record {
        next_within = omega (arith, is, long);
        next_is = λ _. omega (arith, is, long);
        among = each_in_both (IsAmong (out ++ payload ∷ [])) peer.waiting _ (among_more out (payload ∷ []) peer.waiting fits.among)
            (each_of_one (IsAmong (out ++ payload ∷ [])) _ (ap (slice_get (out ++ payload ∷ [])) is ∙ at_end out payload));
        waits = λ number from before. elim (cases_eq number peer.next) [
          | inl same ↦ (
            payload,
            subst (λ n. Has (peer.waiting ++ record { number = peer.next; payload = payload } ∷ []) (record { number = n; payload = payload }))
                (sym same) (has_last peer.waiting (record { number = peer.next; payload = payload })),
          )
          | inr other ↦ let (waiter, has) = fits.waits number from (omega (arith, before, other)) in (waiter, has_before peer.waiting _ _ has)
        ];
        expected_within = fits.expected_within;
        handed_is = fits.handed_is;
      }

  -- a payload is given where no number is left for it
  pub fits_unnumbered : (payload : List ℕ) → (peer.next < number_limit → ⊥) → Fits peer reached (out ++ payload ∷ []) came handed
  fits_unnumbered payload none = record {
    next_within = omega (arith, fits.next_within, length-append out (payload ∷ []));
    next_is = λ below. absurd (none below);
    among = among_more out (payload ∷ []) peer.waiting fits.among;
    waits = fits.waits;
    expected_within = fits.expected_within;
    handed_is = fits.handed_is;
  }

  -- the payload that is expected is handed out
  pub fits_handed : (number : ℕ) (payload : List ℕ) → number ≡ peer.expected → slice_get came number ≡ Some payload
      → Fits (expecting peer (number + 1)) reached out came (handed ++ payload ∷ [])
  fits_handed number payload due at = record {
    next_within = fits.next_within;
    next_is = fits.next_is;
    among = fits.among;
    waits = fits.waits;
    expected_within = omega (arith, slice_get_within came number payload at);
    handed_is = ap (λ (l : List (List ℕ)). l ++ payload ∷ []) (fits.handed_is ∙ ap (λ n. take n came) (sym due)) ∙ sym (take_one_more came number payload at);
  }

  -- the peer acknowledges what it has reached, or less
  pub fits_acknowledged : (number : ℕ) → number ≤ reached → Fits (acknowledged peer number) reached out came handed
  fits_acknowledged number within = record {
    next_within = fits.next_within;
    next_is = fits.next_is;
    among = each_kept (IsAmong out) _ peer.waiting fits.among;
    waits = λ later from below. let (payload, has) = fits.waits later from below in
        (payload, has_kept (λ entry. nat_le number entry.number) peer.waiting _ (le-leb number later (omega (arith, from, within))) has);
    expected_within = fits.expected_within;
    handed_is = fits.handed_is;
  }

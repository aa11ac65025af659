-- What a reliable link tells after its calls.
use Rattle.std.specs.Prelude.{◌≡◌, ℕ, zero, suc, ◌<◌, true, false, List, [], ◌∷◌, ◌++◌, filter, length, map, take, Option, Some, None, refl}
use Rattle.std.specs.Option.{option_map}
use Rattle.std.proofs.Common.{inl, inr, sym, ap, ◌∙◌, subst, append-nil}
use Rattle.std.proofs.lemmas.Option.{none-some}
use Rattle.da_outside.specs.declared.link.LinkAnswer.{LinkAnswer}
use Rattle.da_outside.specs.declared.link.LinkEntry.{LinkEntry}
use Rattle.da_outside.specs.declared.link.LinkEntry.TheVariants.{Bound, Answered, Gave}
use Rattle.da_outside.specs.Link.{Carries, Gains, is_binding}
use Rattle.arq_link.specs.declared.telling.Telling.{Telling}
use Rattle.arq_link.specs.declared.telling.Telling.TheVariants.{Unbound, Whole, Failed, Silent}
use Rattle.arq_link.specs.Calls.{Retells}
use Rattle.arq_link.specs.Endpoint.{Gift, Endpoint, Turn, new_endpoint, number_limit, peer_at, give_turn, take_turn}
use Rattle.arq_link.specs.Telling.{AreDue, LeadsTo, TellsOf, arrival_by, gift_entry, retold}
use Rattle.arq_link.specs.Told.{Agrees, after_binding, after_call, after_failure, told_by}
use Rattle.arq_link.specs.Turns.{FailedTake, HasTaken, IsPlayed, is_cut, unheard}
use Rattle.arq_link.proofs.CallsLaws.{follows}
use Rattle.arq_link.proofs.TellLaws.{tells_bound, tells_cut, tells_given, tells_taken}

-- EVERY LINK

pub retells_by : (telling : Telling) (me : ℕ) (e : Endpoint) (told : Option (List LinkEntry)) → Agrees telling me e told
    → Retells told (told_by telling told)
retells_by Unbound me e None agrees = tt
retells_by Unbound me e (Some entries) agrees = inl refl
retells_by Whole me e None agrees = tt
retells_by Whole me e (Some entries) agrees = inr (follows entries agrees.due)
retells_by (Failed false) me e None agrees = tt
retells_by (Failed false) me e (Some entries) agrees = inl refl
retells_by (Failed true) me e None agrees = tt
retells_by (Failed true) me e (Some entries) agrees = inr (follows entries agrees)
retells_by Silent me e told agrees = tt

-- WHERE A CALL SUCCEEDED

-- these entries more tell `new`, and lead on
abbrev LeadsOn : (me : ℕ) → Endpoint → Endpoint → (more new : List LinkEntry) → Type 0
LeadsOn me e e' more new = (entries : List LinkEntry) → LeadsTo me e entries
    → LeadsTo me e' (entries ++ more) × (retold (entries ++ more) ≡ retold entries ++ new)

whole_goes_on : (me : ℕ) (e e' : Endpoint) (more new : List LinkEntry) → LeadsOn me e e' more new
    → (told told' : Option (List LinkEntry)) → TellsOf me e told → Gains told told' more → TellsOf me e' told' × Gains (option_map retold told)
    (option_map retold told') new
whole_goes_on me e e' more new step told None lead gains = (tt, tt)
whole_goes_on me e e' more new step None (Some now) lead gains = absurd (none-some now (sym gains))
whole_goes_on me e e' more new step (Some entries) (Some now) lead gains =
    let is : now ≡ entries ++ more = let both : ◌≡◌ {A = Option (List LinkEntry)} (Some now) (Some (entries ++ more)) = gains in cc in
    let (leads, same) = step entries lead in
    (subst (λ (l : List LinkEntry). LeadsTo me e' l) (sym is) leads, ap Some (ap retold is ∙ same))

goes_on_by : (telling : Telling) (me : ℕ) (e e' : Endpoint) (more new : List LinkEntry) → LeadsOn me e e' more new
    → (told told' : Option (List LinkEntry)) → Agrees telling me e told → Gains told told' more
    → Agrees (after_call telling) me e' told' × Gains (told_by telling told) (told_by (after_call telling) told') new
goes_on_by Whole me e e' more new step told told' agrees gains = whole_goes_on me e e' more new step told told' agrees gains
goes_on_by Unbound me e e' more new step told told' agrees gains = (tt, tt)
goes_on_by (Failed bound) me e e' more new step told told' agrees gains = (tt, tt)
goes_on_by Silent me e e' more new step told told' agrees gains = (tt, tt)

module _ (telling telling' : Telling) (me me' : ℕ) (e e' : Endpoint) (told told' : Option (List LinkEntry)) (agrees : Agrees telling me e told)
    (telling_is : telling' ≡ after_call telling) (mine : me' ≡ me) where
  abbrev Goes : List LinkEntry → Type 0
  Goes new = Agrees telling' me' e' told' × Gains (told_by telling told) (told_by telling' told') new

  goes_as : (new : List LinkEntry) → Agrees (after_call telling) me e' told' × Gains (told_by telling told) (told_by (after_call telling) told') new
      → Goes new
  goes_as new h = subst (λ (t : Telling). Agrees t me' e' told' × Gains (told_by telling told) (told_by t told') new) (sym telling_is)
      (subst (λ k. Agrees (after_call telling) k e' told' × Gains (told_by telling told) (told_by (after_call telling) told') new) (sym mine) h)

  pub taken_tells : (answer : LinkAnswer) → HasTaken me e e' answer told told' → Goes (Answered answer ∷ [])
  taken_tells answer taken = goes_as (Answered answer ∷ [])
      (goes_on_by telling me e e' (Answered taken.heard ∷ map gift_entry (take_turn me e (arrival_by taken.heard)).gifts) (Answered answer ∷ [])
      (λ entries lead. let (leads, same) = tells_taken me e entries lead taken.heard in (
        subst (λ (y : Endpoint). LeadsTo me y (entries ++ Answered taken.heard ∷ map gift_entry (take_turn me e (arrival_by taken.heard)).gifts))
            (sym taken.leads) leads,
        same ∙ ap (λ (a : LinkAnswer). retold entries ++ Answered a ∷ []) (sym taken.answers),
      ))
      told told' agrees taken.gave)

  pub given_tells : (to : ℕ) (payload : List ℕ) → (peer_at e.peers to).next < number_limit → IsPlayed (give_turn me e to payload) e' told told'
      → Goes (Gave to payload ∷ [])
  given_tells to payload room played = goes_as (Gave to payload ∷ [])
      (goes_on_by telling me e e' (map gift_entry (give_turn me e to payload).gifts) (Gave to payload ∷ [])
      (λ entries lead. let (leads, same) = tells_given me e entries lead to payload room in
      (subst (λ (y : Endpoint). LeadsTo me y (entries ++ map gift_entry (give_turn me e to payload).gifts)) (sym played.leads) leads, same))
      told told' agrees played.gave)

-- WHERE IT FAILED

module _ (telling telling' : Telling) (me me' : ℕ) (e e' : Endpoint) (told told' : Option (List LinkEntry)) (agrees : Agrees telling me e told)
    (telling_is : telling' ≡ after_failure telling) where
  fails_as : Agrees (after_failure telling) me' e' told' × Gains (told_by telling told) (told_by (after_failure telling) told') []
      → Agrees telling' me' e' told' × Gains (told_by telling told) (told_by telling' told') []
  fails_as h = subst (λ (t : Telling). Agrees t me' e' told' × Gains (told_by telling told) (told_by t told') []) (sym telling_is) h

abbrev Fails : Telling → (me me' : ℕ) → (e e' : Endpoint) → (told told' : Option (List LinkEntry)) → Type 0
Fails telling me me' e e' told told' = Agrees (after_failure telling) me' e' told' × Gains (told_by telling told) (told_by (after_failure telling) told') []

-- nothing was told to the inner link
same_fails : (telling : Telling) (me me' : ℕ) (e e' : Endpoint) (told told' : Option (List LinkEntry)) → Agrees telling me e told → Gains told told' []
    → Fails telling me me' e e' told told'
same_fails Unbound me me' e e' told None agrees gains = (tt, tt)
same_fails Unbound me me' e e' None (Some now) agrees gains = absurd (none-some now (sym gains))
same_fails Unbound me me' e e' (Some entries) (Some now) agrees gains = (tt, refl)
same_fails Whole me me' e e' told None agrees gains = (tt, tt)
same_fails Whole me me' e e' None (Some now) agrees gains = absurd (none-some now (sym gains))
same_fails Whole me me' e e' (Some entries) (Some now) agrees gains =
    let is : now ≡ entries = (let both : ◌≡◌ {A = Option (List LinkEntry)} (Some now)
    (Some (entries ++ [])) = gains in let first : now ≡ entries ++ [] = cc in first ∙ append-nil entries) in
    (subst AreDue (sym is) agrees.due, ap Some (ap retold is ∙ sym (append-nil (retold entries))))
same_fails (Failed bound) me me' e e' told told' agrees gains = (tt, tt)
same_fails Silent me me' e e' told told' agrees gains = (tt, tt)

-- a turn was cut
cut_fails : (telling : Telling) (me me' : ℕ) (e e' : Endpoint) (told told' : Option (List LinkEntry)) → Agrees telling me e told
    → (heard : LinkAnswer) (given : ℕ) → given < length (take_turn me e (arrival_by heard)).gifts
    → Gains told told' (Answered heard ∷ take given (map gift_entry (take_turn me e (arrival_by heard)).gifts)) → Fails telling me me' e e' told told'
cut_fails Unbound me me' e e' told None agrees heard given few gains = (tt, tt)
cut_fails Unbound me me' e e' None (Some now) agrees heard given few gains = absurd (none-some now (sym gains))
cut_fails Unbound me me' e e' (Some entries) (Some now) agrees heard given few gains = (tt, refl)
cut_fails Whole me me' e e' told None agrees heard given few gains = (tt, tt)
cut_fails Whole me me' e e' None (Some now) agrees heard given few gains = absurd (none-some now (sym gains))
cut_fails Whole me me' e e' (Some entries) (Some now) agrees heard given few gains =
    let is : now ≡ entries ++ Answered heard ∷ take given (map gift_entry (take_turn me e (arrival_by heard)).gifts)
    = let both : ◌≡◌ {A = Option (List LinkEntry)} (Some now)
    (Some (entries ++ Answered heard ∷ take given (map gift_entry (take_turn me e (arrival_by heard)).gifts))) = gains in cc in
    let (same, right) = tells_cut me e entries agrees heard given few in
    (subst AreDue (sym is) right, ap Some (ap retold is ∙ same ∙ sym (append-nil (retold entries))))
cut_fails (Failed bound) me me' e e' told told' agrees heard given few gains = (tt, tt)
cut_fails Silent me me' e e' told told' agrees heard given few gains = (tt, tt)

module _ (telling telling' : Telling) (me me' : ℕ) (e e' : Endpoint) (told told' : Option (List LinkEntry)) (agrees : Agrees telling me e told)
    (telling_is : telling' ≡ after_failure telling) where
  pub failed_tells : Gains told told' [] → Agrees telling' me' e' told' × Gains (told_by telling told) (told_by telling' told') []
  failed_tells gains = fails_as telling telling' me me' e e' told told' agrees telling_is (same_fails telling me me' e e' told told' agrees gains)

  pub failed_take_tells : FailedTake me e e' told told' → Agrees telling' me' e' told' × Gains (told_by telling told) (told_by telling' told') []
  failed_take_tells (unheard same gains) = failed_tells gains
  failed_take_tells (is_cut heard given few leads gains) =
      fails_as telling telling' me me' e e' told told' agrees telling_is (cut_fails telling me me' e e' told told' agrees heard given few gains)

-- A BINDING

binds_by : (telling : Telling) (port me count : ℕ) (told told' : Option (List LinkEntry)) → Gains told told' (Bound port me count ∷ [])
    → Agrees (after_binding telling) me (new_endpoint count) told' × Gains (told_by telling told) (told_by (after_binding telling) told')
    (Bound port me count ∷ [])
binds_by Unbound port me count told None gains = (tt, tt)
binds_by Unbound port me count None (Some now) gains = absurd (none-some now (sym gains))
binds_by Unbound port me count (Some entries) (Some now) gains =
    let is : now ≡ entries ++ Bound port me count ∷ [] = let both : ◌≡◌ {A = Option (List LinkEntry)} (Some now)
    (Some (entries ++ Bound port me count ∷ [])) = gains in cc in
    let (leads, same) = tells_bound port me count entries in
    (subst (λ (l : List LinkEntry). LeadsTo me (new_endpoint count) l) (sym is) leads, ap Some (ap retold is ∙ same))
binds_by Whole port me count told told' gains = (tt, tt)
binds_by (Failed bound) port me count told told' gains = (tt, tt)
binds_by Silent port me count told told' gains = (tt, tt)

pub bound_tells : (telling telling' : Telling) (port me me' count : ℕ) (e : Endpoint) (told told' : Option (List LinkEntry))
    → telling' ≡ after_binding telling → e ≡ new_endpoint count → me' ≡ me
    → Gains told told' (Bound port me count ∷ []) → Agrees telling' me' e told' × Gains (told_by telling told) (told_by telling' told')
    (Bound port me count ∷ [])
bound_tells telling telling' port me me' count e told told' telling_is is mine gains =
    subst (λ (t : Telling). Agrees t me' e told' × Gains (told_by telling told) (told_by t told') (Bound port me count ∷ [])) (sym telling_is)
    (subst (λ (y : Endpoint). Agrees (after_binding telling) me' y told' × Gains (told_by telling told) (told_by (after_binding telling) told')
    (Bound port me count ∷ [])) (sym is)
    (subst (λ k. Agrees (after_binding telling) k (new_endpoint count) told' × Gains (told_by telling told) (told_by (after_binding telling) told')
    (Bound port me count ∷ [])) (sym mine)
    (binds_by telling port me count told told' gains)))

-- THE BINDINGS AMONG WHAT THE INNER LINK TELLS

carries_by : (told told' : Option (List LinkEntry)) (more bindings : List LinkEntry) → Gains told told' more → filter is_binding more ≡ bindings
    → Carries told told' bindings
carries_by told None more bindings gains is = tt
carries_by told (Some now) more bindings gains is = (more, gains, is)

none_binds : (gifts : List Gift) → filter is_binding (map gift_entry gifts) ≡ []
none_binds [] = refl
none_binds (gift ∷ gifts) = none_binds gifts

none_binds_part : (k : ℕ) (gifts : List Gift) → filter is_binding (take k (map gift_entry gifts)) ≡ []
none_binds_part zero gifts = refl
none_binds_part (suc k) [] = refl
none_binds_part (suc k) (gift ∷ gifts) = none_binds_part k gifts

module _ (told told' : Option (List LinkEntry)) where
  pub none_carried : Gains told told' [] → Carries told told' []
  none_carried gains = carries_by told told' [] [] gains refl

  pub binding_carried : (port me count : ℕ) → Gains told told' (Bound port me count ∷ []) → Carries told told' (Bound port me count ∷ [])
  binding_carried port me count gains = carries_by told told' (Bound port me count ∷ []) (Bound port me count ∷ []) gains refl

  pub turn_carried : (turn : Turn) (after : Endpoint) → IsPlayed turn after told told' → Carries told told' []
  turn_carried turn after played = carries_by told told' (map gift_entry turn.gifts) [] played.gave (none_binds turn.gifts)

  pub taken_carried : (me : ℕ) (before after : Endpoint) (answer : LinkAnswer) → HasTaken me before after answer told told' → Carries told told' []
  taken_carried me before after answer taken = carries_by told told' _ [] taken.gave (none_binds (take_turn me before (arrival_by taken.heard)).gifts)

  pub failed_carried : (me : ℕ) (before after : Endpoint) → FailedTake me before after told told' → Carries told told' []
  failed_carried me before after (unheard same gains) = none_carried gains
  failed_carried me before after (is_cut heard given few leads gains) = carries_by told told' _ [] gains
      (none_binds_part given (take_turn me before (arrival_by heard)).gifts)

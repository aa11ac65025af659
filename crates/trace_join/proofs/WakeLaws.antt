-- Which processes still wait after what was sent.
use Rattle.std.specs.Prelude.{◌≡◌, ◌==◌, ℕ, ◌+◌, ◌<◌, ◌≤◌, suc, Bool, true, false, cond, List, [], ◌∷◌, ◌++◌, length, take, slice_index_or, refl}
use Rattle.std.proofs.Common.{sym, ap, ◌∙◌, subst, inl, inr, arith}
use Rattle.da_values.specs.Sets.{Has}
use Rattle.da_values.specs.Value.{val_of}
use Rattle.da_values.proofs.Members.{of_append}
use Rattle.da_lang.specs.declared.event.Action.{Action}
use Rattle.da_lang.specs.declared.event.Action.TheVariants.{Got}
use Rattle.da_lang.specs.declared.ty.ChannelKind.{ChannelKind}
use Rattle.da_lang.specs.declared.ty.ChannelKind.TheVariants.{FifoReliable, UnorderedReliable, FifoUnreliable, UnorderedUnreliable}
use Rattle.da_system.specs.Channels.{Channels, MessageInFlight, channel}
use Rattle.trace_join.specs.declared.track.Track.{Track}
use Rattle.trace_join.specs.Remains.{CanArrive}
use Rattle.trace_join.specs.Sending.{IsOneOf, Sends}
use Rattle.trace_join.specs.Traces.{messages_to}
use Rattle.trace_join.specs.Waiting.{AreWoken, CannotGet, wanted_from}
use Rattle.trace_join.proofs.SendLaws.{all_taken, get_within, messages-append, take_one_more}

-- SO MANY ACTIONS

pub woken_none : (me : ℕ) (tracks : List Track) (waits : List Bool) → AreWoken me [] tracks waits waits
woken_none me tracks waits p t there still = (still, λ l sent wanted. sent)

pub woken_on : (me : ℕ) (told : List Action) (k : ℕ) (a : Action) (tracks : List Track) (first waits waits' : List Bool) → k < length told
    → a ≡ slice_index_or told k a
    → AreWoken me (take k told) tracks first waits → AreWoken me (a ∷ []) tracks waits waits' → AreWoken me (take (k + 1) told) tracks first waits'
woken_on me told k a tracks first waits waits' within is before now p t there still =
    let (waited, unsent) = now p t there still in
    let (first_waited, unsent_before) = before p t there waited in (
      first_waited,
      λ l sent wanted. elim (of_append (messages_to p (take k told)) (messages_to p (a ∷ [])) l
          (subst (λ (ls : List MessageInFlight). Has ls l) (messages-append p (take k told) (a ∷ []))
          (subst (λ (actions : List Action). Has (messages_to p actions) l)
          (ap (λ n. take n told) (let one : k + 1 ≡ suc k = omega arith in one) ∙ take_one_more told k a (get_within told k a within is)) sent))) [
            | inl earlier ↦ unsent_before l earlier wanted
            | inr last ↦ unsent l last wanted
          ],
    )

pub woken_all : (me : ℕ) (told : List Action) (k : ℕ) (tracks : List Track) (first waits : List Bool) → length told ≤ k
    → AreWoken me (take k told) tracks first waits → AreWoken me told tracks first waits
woken_all me told k tracks first waits past woken = subst (λ (actions : List Action). AreWoken me actions tracks first waits) (all_taken told k past) woken

-- A MESSAGE THAT CANNOT ARRIVE

arrives_before : (kind : ChannelKind) (messages more : List MessageInFlight) (l : MessageInFlight) → (Has more l → ⊥) → CanArrive kind (messages ++ more) l
    → CanArrive kind messages l
arrives_before FifoReliable [] more l none (rest, is) = absurd (none (subst (λ (ls : List MessageInFlight). Has ls l) (sym is) (inl refl)))
arrives_before FifoReliable (x ∷ messages) more l none (rest, is) = (messages, let same : x ≡ l = cc in ap (λ (y : MessageInFlight). y ∷ messages) same)
arrives_before UnorderedReliable messages more l none has = of_either messages more l none has
  where
    of_either : (messages more : List MessageInFlight) (l : MessageInFlight) → (Has more l → ⊥) → Has (messages ++ more) l → Has messages l
    of_either messages more l none has = elim (of_append messages more l has) [ inl there ↦ there | inr later ↦ absurd (none later) ]
arrives_before FifoUnreliable messages more l none has = elim (of_append messages more l has) [ inl there ↦ there | inr later ↦ absurd (none later) ]
arrives_before UnorderedUnreliable messages more l none has = elim (of_append messages more l has) [ inl there ↦ there | inr later ↦ absurd (none later) ]

-- the message of process p cannot arrive either where others were sent
module _ (kind : ChannelKind) (me p : ℕ) (told : List Action) (queues between queues' : Channels) (sends : Sends me told between queues')
    (one : IsOneOf (length between) p)
    (same : (a : ℕ) → channel between a p ≡ channel queues a p) where
  not_sent : (from : ℕ) (l : MessageInFlight) → ((x : MessageInFlight) → Has (messages_to p told) x → Has (cond (from == me) (l ∷ []) []) x → ⊥)
      → Has (cond (from == me) (messages_to p told) []) l → ⊥
  not_sent from l unsent has = of (from == me) unsent has
    where
      of : (b : Bool) → ((x : MessageInFlight) → Has (messages_to p told) x → Has (cond b (l ∷ []) []) x → ⊥) → Has (cond b (messages_to p told) []) l → ⊥
      of true unsent' sent = unsent' l sent (inl refl)
      of false unsent' sent = sent

  pub cannot_still : (trace : List Action) → CannotGet kind queues p trace → ((l : MessageInFlight) → Has (messages_to p told) l → Has (wanted_from me trace) l → ⊥)
      → CannotGet kind queues' p trace
  cannot_still [] cannot unsent = cannot
  cannot_still (Got q from time m ∷ behind) cannot unsent = λ can.
      cannot (subst (λ (ls : List MessageInFlight). CanArrive kind ls (record { message = val_of m; time = time })) (same from)
      (arrives_before kind (channel between from p) (cond (from == me) (messages_to p told) []) (record { message = val_of m; time = time })
      (not_sent from (record { message = val_of m; time = time }) unsent)
      (subst (λ (ls : List MessageInFlight). CanArrive kind ls (record { message = val_of m; time = time })) (sends from p one) can)))
  cannot_still (_ ∷ behind) cannot unsent = cannot

-- What a fetch tells of the step that it is made for.
use Rattle.std.specs.Prelude.{◌≡◌, ℕ, Bool, true, false, List, [], ◌∷◌, length, IsTrue, refl}
use Rattle.std.proofs.Common.{sym, ap, ◌∙◌, subst, inl, inr}
use Rattle.std.proofs.lemmas.Bool.{cases_eq}
use Rattle.da_values.specs.declared.value.Value.{Value}
use Rattle.da_lang.specs.declared.event.Action.{Action}
use Rattle.da_lang.specs.declared.event.Action.TheVariants.{Got}
use Rattle.da_lang.specs.declared.event.Event.{Event}
use Rattle.da_lang.specs.declared.ty.ChannelKind.{ChannelKind}
use Rattle.da_system.specs.Channels.{Channels, MessageInFlight, channel}
use Rattle.trace_join.specs.declared.fetch.Wanted.{Wanted}
use Rattle.trace_join.specs.declared.track.Next.{Next}
use Rattle.trace_join.specs.Fetching.{Fetched, Fetches, message_in}
use Rattle.trace_join.specs.Remains.{CanArrive}
use Rattle.trace_join.specs.Searching.{Goes, Made}
use Rattle.trace_join.specs.Sending.{IsOneOf, SameElsewhere}
use Rattle.trace_join.specs.Waiting.{CannotGet}

module _ (kind : ChannelKind) (me : ℕ) (n : Next) (q from t : ℕ) (m : Value) (is : n.asked.now ≡ Got q from t m) (w : Wanted) (w_from : w.from ≡ from)
    (w_to : w.to ≡ me) (w_got : w.got ≡ n.asked) (w_again : w.again ≡ n.again)
    (queues queues' : Channels) (events events' : List Event) (same : length queues' ≡ length queues)
    (elsewhere : SameElsewhere w.from w.to queues queues') where
  message_is : message_in w.got.now ≡ message_in (Got q from t m)
  message_is = ap (λ g. message_in g.now) w_got ∙ ap message_in is

  elsewhere_so : SameElsewhere from me queues queues'
  elsewhere_so = subst (λ a. SameElsewhere a me queues queues') w_from (subst (λ b. SameElsewhere w.from b queues queues') w_to elsewhere)

  pub goes_so : (found : Bool) → Fetches kind w found (channel queues w.from w.to) (channel queues' w.from w.to) events events'
      → (IsTrue found → IsOneOf (length queues) w.from) → Goes kind me n found queues queues' events events'
  goes_so true (added, are, fetched) there = (
    added,
    are,
    same,
    subst (λ (a : Action). Made kind me a n.times_out n.again queues queues' added) (sym is) (
      subst (IsOneOf (length queues)) w_from (there refl),
      subst (λ (b : Bool). Fetched kind from me (message_in (Got q from t m)) b (channel queues from me) (channel queues' from me) added) w_again
          (subst (λ (l : MessageInFlight). Fetched kind from me l w.again (channel queues from me) (channel queues' from me) added) message_is
          (subst (λ a. Fetched kind a me (message_in w.got.now) w.again (channel queues a me) (channel queues' a me) added) w_from
          (subst (λ b. Fetched kind w.from b (message_in w.got.now) w.again (channel queues w.from b) (channel queues' w.from b) added) w_to fetched))),
      elsewhere_so,
    ),
  )
  goes_so false (cannot, still, are) there = (
    subst (λ (a : Action). CannotGet kind queues me (a ∷ [])) (sym is) (λ can. cannot
        (subst (λ (ls : List MessageInFlight). CanArrive kind ls (message_in w.got.now))
        (ap (λ b. channel queues from b) (sym w_to) ∙ ap (λ a. channel queues a w.to) (sym w_from))
        (subst (CanArrive kind (channel queues from me)) (sym message_is) can))),
    same,
    all_same,
    are,
  )
    where
      all_same : (a b : ℕ) → channel queues' a b ≡ channel queues a b
      all_same a b = elim (cases_eq a w.from) [
        | inr stranger ↦ elsewhere a b (λ both. stranger both.0)
        | inl sender ↦ elim (cases_eq b w.to) [
          | inr other ↦ elsewhere a b (λ both. other both.1)
          | inl here ↦ ap (λ x. channel queues' x b) sender ∙ ap (λ x. channel queues' w.from x) here ∙ still ∙ ap (λ x. channel queues w.from x) (sym here)
              ∙ ap (λ x. channel queues x b) (sym sender)
        ]
      ]

-- What the code does with a queue is how a message leaves its channel, for each kind of channel.
use Rattle.std.specs.Prelude.{◌≡◌, ◌↔◌, ℕ, zero, suc, ◌+◌, ◌<◌, Bool, true, false, List, [], ◌∷◌, ◌++◌, length, drop, remove, replicate, slice_get, Some, IsTrue, is_some, refl}
use Rattle.std.proofs.Common.{sym, ap, ◌∙◌, arith, append_assoc}
use Rattle.std.proofs.lemmas.Bool.{false≢true}
use Rattle.std.proofs.lemmas.List.{drop_at, length-append}
use Rattle.da_lang.specs.declared.event.Event.{Event}
use Rattle.da_lang.specs.declared.event.Event.TheVariants.{Deliver, Lose, Repeat}
use Rattle.da_lang.specs.declared.ty.ChannelKind.TheVariants.{FifoReliable, UnorderedReliable, FifoUnreliable, UnorderedUnreliable}
use Rattle.da_lang.specs.World.{at_number}
use Rattle.da_system.specs.Channels.{MessageInFlight, without_numbered}
use Rattle.trace_join.specs.declared.fetch.Wanted.{Wanted}
use Rattle.trace_join.specs.Fetching.{Fetches, IsFirst, message_in}

plus_one : (place : ℕ) → place + 1 ≡ suc place
plus_one place = omega arith

at_front : (messages : List MessageInFlight) (l : MessageInFlight) → slice_get messages 0 ≡ Some l → messages ≡ l ∷ remove messages 0
at_front [] l there = absurd (false≢true (ap is_some there))
at_front (x ∷ xs) l there = let same : x ≡ l = cc in ap (λ (y : MessageInFlight). y ∷ xs) same

module _ (w : Wanted) (messages now : List MessageInFlight) (events after : List Event) where
  abbrev l : MessageInFlight
  l = message_in w.got.now

  -- FIFO RELIABLE
  pub first_fetched : slice_get messages 0 ≡ Some l → now ≡ remove messages 0 → after ≡ events ++ Deliver w.from w.to (0 + 1) ∷ []
      → Fetches FifoReliable w true messages now events after
  first_fetched there removed added = (Deliver w.from w.to 1 ∷ [], added, (at_front messages l there ∙ ap (λ (ls : List MessageInFlight). l ∷ ls) (sym removed), refl))

  pub none_fetched : (found : Bool) → (IsTrue found ↔ (slice_get messages 0 ≡ Some l)) → found ≡ false → now ≡ messages → after ≡ events
      → Fetches FifoReliable w false messages now events after
  none_fetched found says not same added = (λ can. false≢true (sym not ∙ says.1 (ap (λ (ls : List MessageInFlight). slice_get ls 0) can.1)), same, added)

  module _ (place : ℕ) (there : slice_get messages place ≡ Some l) where
    its_number : at_number messages (place + 1) ≡ Some l
    its_number = ap (at_number messages) (plus_one place) ∙ there

    without : (ls : List MessageInFlight) → without_numbered ls (place + 1) ≡ remove ls place
    without ls = ap (without_numbered ls) (plus_one place)

    -- UNORDERED
    pub any_fetched : now ≡ remove messages place → after ≡ events ++ Deliver w.from w.to (place + 1) ∷ []
        → Fetches UnorderedReliable w true messages now events after
    any_fetched removed added = (Deliver w.from w.to (place + 1) ∷ [], added, (place + 1, its_number, removed ∙ sym (without messages), refl))

    pub last_fetched : w.again ≡ false → now ≡ remove messages place → after ≡ events ++ Deliver w.from w.to (place + 1) ∷ []
        → Fetches UnorderedUnreliable w true messages now events after
    last_fetched once removed added = (Deliver w.from w.to (place + 1) ∷ [], added, (place + 1, its_number, rw once (removed ∙ sym (without messages), refl)))

    pub copy_fetched : (doubled : List MessageInFlight) (middle : List Event) → w.again ≡ true
        → ((x : MessageInFlight) → slice_get messages place ≡ Some x → doubled ≡ messages ++ x ∷ []) → middle ≡ events ++ Repeat w.from w.to (place + 1) ∷ []
        → now ≡ remove doubled place → after ≡ middle ++ Deliver w.from w.to (place + 1) ∷ [] → Fetches UnorderedUnreliable w true messages now events after
    copy_fetched doubled middle twice longer repeated removed added = (
      Repeat w.from w.to (place + 1) ∷ Deliver w.from w.to (place + 1) ∷ [],
      added ∙ ap (λ (es : List Event). es ++ Deliver w.from w.to (place + 1) ∷ []) repeated
          ∙ append_assoc events (Repeat w.from w.to (place + 1) ∷ []) (Deliver w.from w.to (place + 1) ∷ []),
      (
        place + 1,
        its_number,
        rw twice (
          removed ∙ ap (λ (ls : List MessageInFlight). remove ls place)
              (longer l there) ∙ sym (without (messages ++ l ∷ [])),
          refl,
        ),
      ),
    )

    pub longer_by : (doubled : List MessageInFlight) → place < length messages → ((x : MessageInFlight) → slice_get messages place ≡ Some x → doubled ≡ messages ++ x ∷ [])
        → place < length doubled
    longer_by doubled within longer =
        let size : length doubled ≡ length messages + 1 = ap length (longer l there)
        ∙ length-append messages (l ∷ []) in
        omega (arith, within, size)

  module _ (place : ℕ) (first : IsFirst messages l place) where
    -- FIFO UNRELIABLE
    pub losing_fetched : (kept : List MessageInFlight) (middle : List Event) → kept ≡ drop place messages → middle ≡ events ++ replicate place (Lose w.from w.to 1)
        → now ≡ remove kept 0 → after ≡ middle ++ Deliver w.from w.to (0 + 1) ∷ [] → Fetches FifoUnreliable w true messages now events after
    losing_fetched kept middle dropped lost removed added = (
      replicate (length first.front) (Lose w.from w.to 1) ++ Deliver w.from w.to 1 ∷ [],
      added ∙ ap (λ (es : List Event). es ++ Deliver w.from w.to 1 ∷ []) (lost ∙ ap (λ n. events ++ replicate n (Lose w.from w.to 1)) first.size)
          ∙ append_assoc events (replicate (length first.front) (Lose w.from w.to 1)) (Deliver w.from w.to 1 ∷ []),
      (first.front, first.cut ∙ ap (λ (ls : List MessageInFlight). first.front ++ l ∷ ls) (sym behind), first.none, refl),
    )
      where
        behind : now ≡ first.back
        behind = removed ∙ ap (drop 1) (dropped ∙ ap (λ n. drop n messages) first.size ∙ ap (drop (length first.front)) first.cut
            ∙ drop_at first.front (l ∷ first.back) (length first.front) refl)

found_at : (front back : List MessageInFlight) (l : MessageInFlight) (n : ℕ) → n ≡ length front → slice_get (front ++ l ∷ back) n ≡ Some l
found_at [] back l zero is = refl
found_at [] back l (suc n) is = absurd (let same : suc n ≡ 0 = is in omega (arith, same))
found_at (x ∷ front) back l zero is = absurd (let same : 0 ≡ suc (length front) = is in omega (arith, same))
found_at (x ∷ front) back l (suc n) is = found_at front back l n (let same : suc n ≡ suc (length front) = is in omega (arith, same))

-- the first message that is like it is there
pub first_there : (messages : List MessageInFlight) (l : MessageInFlight) (place : ℕ) → IsFirst messages l place → slice_get messages place ≡ Some l
first_there messages l place first = ap (λ (ls : List MessageInFlight). slice_get ls place) first.cut ∙ found_at first.front first.back l place first.size

-- The channels that queues in code stand for, and what becomes of them.
use Rattle.std.proofs.Common.{◌≡◌, refl, sym, ◌∙◌, ap, subst, ℕ, zero, suc, ◌+◌, ◌*◌, ◌<◌, List, [], ◌∷◌, ◌++◌, length, map, replicate, take, arith}
use Rattle.std.specs.Prelude.{Option, Some, None, IfSome, is_some, option_map, remove, slice_get, slice_index_or, slice_set}
use Rattle.std.proofs.lemmas.Bool.{false≢true}
use Rattle.std.proofs.lemmas.Option.{slice_get-map, slice_get_within}
use Rattle.da_lang.specs.declared.event.Action.{Action}
use Rattle.da_lang.specs.World.{at_number}
use Rattle.da_system.specs.declared.queue.InFlight.{InFlight}
use Rattle.da_system.specs.Channels.{Channels, MessageInFlight, after_action, after_actions, channel, no_messages, or_empty, with_channel, with_message, without_message, without_numbered}
use Rattle.da_system.specs.FlatChannels.{flat, place_of}
use Rattle.da_system.specs.Queued.{Queued}
use Rattle.da_system.specs.Queues.{AreSent, IsAmong, IsNoPair, IsSent, StandsFor, message_of}
use Rattle.da_system.specs.SoundState.{IsSquare}
use Rattle.da_system.proofs.FlatLemmas.{channel-flat, flat-with_channel}
use Rattle.da_system.proofs.PlaceLemmas.{get_is, map_remove, map_set, map_then}
use Rattle.da_system.proofs.SystemLaws.{square_opens, square_with}
use Rattle.da_system.proofs.WorldLemmas.{all_numbered, numbered_none}

-- NOTHING IN FLIGHT

replicate_then : {A : Type 0} (m n : ℕ) (x : A) → replicate m x ++ replicate n x ≡ replicate (m + n) x
replicate_then zero n x = ap (λ k. replicate k x) (let same : n ≡ 0 + n = omega arith in same)
replicate_then (suc m) n x = ap (λ t. x ∷ t) (replicate_then m n x) ∙ ap (λ k. replicate k x) (let same : suc (m + n) ≡ suc m + n = omega arith in same)

flat_rows : (rows count : ℕ) → flat (replicate rows (replicate count [])) ≡ replicate (rows * count) []
flat_rows zero count = ap (λ k. replicate k []) (let same : 0 ≡ 0 * count = omega arith in same)
flat_rows (suc rows) count =
    ap (λ t. replicate count [] ++ t) (flat_rows rows count) ∙ replicate_then count (rows * count) []
    ∙ ap (λ k. replicate k []) (let same : count + rows * count ≡ suc rows * count = omega arith in same)

map_empty : (n : ℕ) → map (map message_of) (replicate n []) ≡ replicate n []
map_empty zero = refl
map_empty (suc n) = ap (λ (t : List (List MessageInFlight)). [] ∷ t) (map_empty n)

pub stands_empty : (count made : ℕ) (queues : List (List InFlight)) → made ≡ count * count → queues ≡ replicate made [] → StandsFor (record { count = count; queues = queues }) (no_messages count)
stands_empty count made queues all is = record {
  square = square_opens count;
  same = ap (map (map message_of)) is ∙ map_empty made ∙ ap (λ k. replicate k []) all ∙ sym (flat_rows count count);
}

pub one_more : {A : Type 0} (n : ℕ) (x : A) → replicate n x ++ x ∷ [] ≡ replicate (n + 1) x
one_more n x = replicate_then n 1 x

-- A CHANNEL AND ITS QUEUE

-- the queue of two processes stands at this place
abbrev pub IsPlaceOf : Queued → ℕ → ℕ → ℕ → Type 0
IsPlaceOf queues p q place = IsAmong queues.count p × IsAmong queues.count q × (place ≡ place_of queues.count p q) × (place < length queues.queues)

-- where one of the processes is not there, there are no messages
no_row : (count q : ℕ) (channels : Channels) (k : ℕ) → IsSquare count channels → IsNoPair count (suc k) q → (row : Option (List (List MessageInFlight))) → slice_get channels k ≡ row → or_empty (at_number (or_empty row) q) ≡ []
no_row count q channels k square none None is = ap or_empty (numbered_none {A = List MessageInFlight} q)
no_row count zero channels k square none (Some row) is = refl
no_row count (suc j) channels k square none (Some row) is =
    let fits : length row ≡ count = subst (λ (o : Option (List (List MessageInFlight))). IfSome o (λ (r : List (List MessageInFlight)). length r ≡ count)) is (all_numbered (λ (r : List (List MessageInFlight)). length r ≡ count) channels (suc k) square.recipients) in
    of (slice_get row j) refl fits
  where
    of : (messages : Option (List MessageInFlight)) → slice_get row j ≡ messages → length row ≡ count → or_empty messages ≡ []
    of None there fits = refl
    of (Some messages) there fits = absurd (none (omega arith, omega (arith, slice_get_within channels k row is, square.senders)) (omega arith, omega (arith, slice_get_within row j messages there, fits)))

pub no_channel : (count p q : ℕ) (channels : Channels) → IsSquare count channels → IsNoPair count p q → channel channels p q ≡ []
no_channel count zero q channels square none = ap or_empty (numbered_none {A = List MessageInFlight} q)
no_channel count (suc k) q channels square none = no_row count q channels k square none (slice_get channels k) refl

module _ (queues : Queued) (channels : Channels) (stands : StandsFor queues channels) (p q place : ℕ) (from : IsAmong queues.count p) (to : IsAmong queues.count q) (is : place ≡ place_of queues.count p q) where
  or_empty_map : (o : Option (List InFlight)) → or_empty (option_map (map message_of) o) ≡ map message_of (or_empty o)
  or_empty_map None = refl
  or_empty_map (Some messages) = refl

  -- it has the messages of the queue at its place
  pub channel_is : (here : List InFlight) → slice_get queues.queues place ≡ Some here → channel channels p q ≡ map message_of here
  channel_is here there =
      sym (channel-flat queues.count channels stands.square p q from.0 from.1 to.0 to.1)
      ∙ ap (λ fs. or_empty (slice_get fs (place_of queues.count p q))) (sym stands.same)
      ∙ ap (λ k. or_empty (slice_get (map (map message_of) queues.queues) k)) (sym is)
      ∙ ap or_empty (slice_get-map (map message_of) queues.queues place ∙ ap (option_map (map message_of)) there)

  pub message_is : (i at : ℕ) → i ≡ at + 1 → (here : List InFlight) → slice_get queues.queues place ≡ Some here → option_map message_of (slice_get here at) ≡ at_number (channel channels p q) i
  message_is i at next here there =
      sym (slice_get-map message_of here at) ∙ ap (λ (messages : List MessageInFlight). slice_get messages at) (sym (channel_is here there))
      ∙ ap (at_number (channel channels p q)) (let same : suc at ≡ i = omega (arith, next) in same)

  -- with another queue at the place
  pub stands_with : (next : List InFlight) (messages : List MessageInFlight) → map message_of next ≡ messages → StandsFor (record { count = queues.count; queues = slice_set queues.queues place next }) (with_channel channels p q messages)
  stands_with next messages same = record {
    square = square_with queues.count channels p q messages stands.square;
    same = map_set (map message_of) queues.queues place next ∙ ap (λ ls. slice_set (map (map message_of) queues.queues) place ls) same
        ∙ ap (λ fs. slice_set fs place messages) stands.same ∙ ap (λ k. slice_set (flat channels) k messages) is
        ∙ sym (flat-with_channel queues.count channels stands.square p q messages from.0 from.1 to.0 to.1);
  }

  module _ (inside : place < length queues.queues) (here : List InFlight) (was : here ≡ slice_index_or queues.queues place here) where
    pub there_is : slice_get queues.queues place ≡ Some here
    there_is = get_is queues.queues place here inside ∙ ap Some (sym was)

    pub stands_pushed : (next : List InFlight) (message : InFlight) → next ≡ here ++ message ∷ [] → StandsFor (record { count = queues.count; queues = slice_set queues.queues place next }) (with_message channels p q (message_of message))
    stands_pushed next message more =
        stands_with next _ (ap (map message_of) more ∙ map_then message_of here (message ∷ []) ∙ ap (λ (ls : List MessageInFlight). ls ++ message_of message ∷ []) (sym (channel_is here there_is)))

    pub stands_removed : (next : List InFlight) (i at : ℕ) → i ≡ at + 1 → next ≡ remove here at → StandsFor (record { count = queues.count; queues = slice_set queues.queues place next }) (without_message channels p q i)
    stands_removed next i at number less =
        stands_with next _ (ap (map message_of) less ∙ map_remove message_of here at ∙ ap (λ (ls : List MessageInFlight). remove ls at) (sym (channel_is here there_is))
        ∙ ap (without_numbered (channel channels p q)) (let same : suc at ≡ i = omega (arith, number) in same))

-- WHAT ACTIONS SEND, one after the other

after_then : (channels : Channels) (done more : List Action) → after_actions channels (done ++ more) ≡ after_actions (after_actions channels done) more
after_then channels [] more = refl
after_then channels (a ∷ done) more = after_then (after_action channels a) done more

pub take_next : {A : Type 0} (xs : List A) (i : ℕ) (x : A) → slice_get xs i ≡ Some x → take (i + 1) xs ≡ take i xs ++ x ∷ []
take_next [] i x there = absurd (false≢true (ap is_some there))
take_next (y ∷ ys) zero x there = ap (λ z. z ∷ []) (let same : y ≡ x = cc in same)
take_next (y ∷ ys) (suc i) x there = ap (λ n. take n (y ∷ ys)) (let same : suc i + 1 ≡ suc (i + 1) = omega arith in same) ∙ ap (λ t. y ∷ t) (take_next ys i x there)

pub sent_next : (channels : Channels) (actions : List Action) (i : ℕ) (a : Action) → slice_get actions i ≡ Some a → after_action (after_actions channels (take i actions)) a ≡ after_actions channels (take (i + 1) actions)
sent_next channels actions i a there = sym (ap (after_actions channels) (take_next actions i a there) ∙ after_then channels (take i actions) (a ∷ []))

pub sent_at : (count : ℕ) (actions : List Action) (i : ℕ) (a : Action) → AreSent count actions → slice_get actions i ≡ Some a → IsSent count a
sent_at count [] i a sent there = absurd (false≢true (ap is_some there))
sent_at count (x ∷ xs) zero a sent there = subst (IsSent count) (let same : x ≡ a = cc in same) sent.0
sent_at count (x ∷ xs) (suc i) a sent there = sent_at count xs i a sent.1 there

pub take_whole : {A : Type 0} (xs : List A) (n : ℕ) → length xs ≡ n → take n xs ≡ xs
take_whole [] zero is = refl
take_whole [] (suc n) is = refl
take_whole (x ∷ xs) zero is = absurd (let is : suc (length xs) ≡ 0 = is in omega (arith, is))
take_whole (x ∷ xs) (suc n) is = ap (λ t. x ∷ t) (take_whole xs n (omega (arith, is)))

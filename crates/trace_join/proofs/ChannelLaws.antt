-- What a channel holds after a change of some channel, and after what a process sends.
use Rattle.std.specs.Prelude.{◌≡◌, ◌==◌, ℕ, zero, suc, ◌<◌, Bool, cond, List, [], ◌∷◌, ◌++◌, length, Option, Some, None, IfSome, slice_get, slice_set, refl}
use Rattle.std.specs.List.{AllByRecursion}
use Rattle.std.proofs.Common.{sym, ap, ◌∙◌, subst, inl, inr, arith, append_assoc, append-nil}
use Rattle.std.proofs.lemmas.Bool.{cases_eq, eq-eqb, ne_eqb}
use Rattle.std.proofs.lemmas.Option.{slice_get_within}
use Rattle.da_values.specs.Value.{val_of}
use Rattle.da_values.specs.Sets.{Has}
use Rattle.da_lang.specs.declared.event.Action.{Action}
use Rattle.da_lang.specs.declared.event.Action.TheVariants.{Sent}
use Rattle.da_lang.specs.declared.program.Program.{Program}
use Rattle.da_lang.specs.Shaped.{IsEntry, IsProcess}
use Rattle.da_lang.specs.World.{at_number}
use Rattle.da_system.specs.Channels.{Channels, MessageInFlight, after_action, after_actions, channel, or_empty, put_numbered, with_channel, with_message}
use Rattle.da_system.specs.SoundState.{IsMessageOf, IsSoundState}
use Rattle.da_system.specs.SystemStep.{SystemState}
use Rattle.da_system.proofs.WorldLemmas.{all_numbered, numbered_none}
use Rattle.trace_join.specs.Remains.{IsThere}
use Rattle.sched_text.specs.TraceText.{teller}
use Rattle.trace_join.specs.Traces.{message_to, messages_to}
use Rattle.trace_join.proofs.Sublists.{none_there}

-- MEMBERS BY THEIR NUMBERS

module _ {A : Type 0} where
  get_set : (xs : List A) (k : ℕ) (x y : A) → slice_get xs k ≡ Some y → slice_get (slice_set xs k x) k ≡ Some x
  get_set [] k x y there = none_there there
  get_set (z ∷ zs) zero x y there = refl
  get_set (z ∷ zs) (suc k) x y there = get_set zs k x y there

  get_set_none : (xs : List A) (k : ℕ) (x : A) → slice_get xs k ≡ None → slice_get (slice_set xs k x) k ≡ None
  get_set_none [] k x none = refl
  get_set_none (z ∷ zs) zero x none = none_there (sym none)
  get_set_none (z ∷ zs) (suc k) x none = get_set_none zs k x none

  get_set_other : (xs : List A) (j k : ℕ) (x : A) → (j ≡ k → ⊥) → slice_get (slice_set xs k x) j ≡ slice_get xs j
  get_set_other [] j k x other = refl
  get_set_other (y ∷ ys) zero zero x other = absurd (other refl)
  get_set_other (y ∷ ys) (suc j) zero x other = refl
  get_set_other (y ∷ ys) zero (suc k) x other = refl
  get_set_other (y ∷ ys) (suc j) (suc k) x other = get_set_other ys j k x (λ same. other (ap suc same))

  pub put_there : (xs : List A) (n : ℕ) (x y : A) → at_number xs n ≡ Some y → at_number (put_numbered xs n x) n ≡ Some x
  put_there xs zero x y there = none_there there
  put_there xs (suc k) x y there = get_set xs k x y there

  put_none : (xs : List A) (n : ℕ) (x : A) → at_number xs n ≡ None → at_number (put_numbered xs n x) n ≡ None
  put_none xs zero x none = refl
  put_none xs (suc k) x none = get_set_none xs k x none

  pub put_other : (xs : List A) (j n : ℕ) (x : A) → (j ≡ n → ⊥) → at_number (put_numbered xs n x) j ≡ at_number xs j
  put_other xs j zero x other = refl
  put_other xs zero (suc k) x other = refl
  put_other xs (suc j) (suc k) x other = get_set_other xs j k x (λ same. other (ap suc same))

  -- who is there after a change was there before, and is there still
  pub put_was : (xs : List A) (j n : ℕ) (x y : A) → at_number (put_numbered xs n x) j ≡ Some y → (z : A) × (at_number xs j ≡ Some z)
  put_was xs j n x y there = of (at_number xs j) refl
    where
      of : (found : Option A) → at_number xs j ≡ found → (z : A) × (at_number xs j ≡ Some z)
      of (Some z) is = (z, is)
      of None is = none_there (sym (elim (cases_eq j n) [
        | inl same ↦ ap (at_number (put_numbered xs n x)) same ∙ put_none xs n x (ap (at_number xs) (sym same) ∙ is)
        | inr other ↦ put_other xs j n x other ∙ is
      ]) ∙ there)

  pub put_stays : (xs : List A) (j n : ℕ) (x y : A) → at_number xs j ≡ Some y → (z : A) × (at_number (put_numbered xs n x) j ≡ Some z)
  put_stays xs j n x y there = elim (cases_eq j n) [
    | inl same ↦ (x, ap (at_number (put_numbered xs n x)) same ∙ put_there xs n x y (ap (at_number xs) (sym same) ∙ there))
    | inr other ↦ (y, put_other xs j n x other ∙ there)
  ]

module _ {A B : Type 0} where
  get_beside : (xs : List A) (ys : List B) (k : ℕ) (x : A) → slice_get xs k ≡ Some x → length xs ≡ length ys → (y : B) × (slice_get ys k ≡ Some y)
  get_beside [] ys k x there same = none_there there
  get_beside (z ∷ zs) [] k x there same = absurd (omega (arith, same))
  get_beside (z ∷ zs) (y ∷ ys) zero x there same = (y, refl)
  get_beside (z ∷ zs) (y ∷ ys) (suc k) x there same = get_beside zs ys k x there (let less : length zs ≡ length ys = omega (arith, same) in less)

  -- lists of one length have members by the same numbers
  pub numbered_beside : (xs : List A) (ys : List B) (n : ℕ) (x : A) → at_number xs n ≡ Some x → length xs ≡ length ys → (y : B) × (at_number ys n ≡ Some y)
  numbered_beside xs ys zero x there same = none_there there
  numbered_beside xs ys (suc k) x there same = get_beside xs ys k x there same

all_has : {A : Type 0} (P : A → Type 0) (xs : List A) (x : A) → AllByRecursion P xs → Has xs x → P x
all_has P [] x all has = absurd has
all_has P (y ∷ ys) x all (inl same) = subst P (sym same) all.0
all_has P (y ∷ ys) x all (inr has) = all_has P ys x all.1 has

-- what holds of a member by its number
pub all_at : {A : Type 0} (P : A → Type 0) (xs : List A) (n : ℕ) (x : A) → AllByRecursion P xs → at_number xs n ≡ Some x → P x
all_at P xs n x all there = subst (λ (o : Option _). IfSome o P) there (all_numbered P xs n all)

-- A CHANNEL THAT IS THERE

pub record HasChannel (channels : Channels) (p q : ℕ) : Type 0 where
  pub row : List (List MessageInFlight)
  pub messages : List MessageInFlight
  pub at_sender : at_number channels p ≡ Some row
  pub at_recipient : at_number row q ≡ Some messages

module _ (channels : Channels) (p q : ℕ) (messages : List MessageInFlight) where
  abbrev row_of : Option (List (List MessageInFlight)) → ℕ → List MessageInFlight
  row_of row b = or_empty (at_number (or_empty row) b)

  pub channel-there : HasChannel channels p q → channel (with_channel channels p q messages) p q ≡ messages
  channel-there has =
      ap (λ (o : Option (List (List MessageInFlight))). row_of o q) (put_there channels p
      (put_numbered (or_empty (at_number channels p)) q messages) has.row has.at_sender)
      ∙ ap (λ (o : Option (List (List MessageInFlight))). or_empty (at_number (put_numbered (or_empty o) q messages) q)) has.at_sender
      ∙ ap or_empty (put_there has.row q messages has.messages has.at_recipient)

  same_sender : (b : ℕ) → (b ≡ q → ⊥) → (row : Option (List (List MessageInFlight))) → at_number channels p ≡ row
      → channel (with_channel channels p q messages) p b ≡ channel channels p b
  same_sender b other None is =
      ap (λ (o : Option (List (List MessageInFlight))). row_of o b) (put_none channels p (put_numbered (or_empty (at_number channels p)) q messages) is)
      ∙ ap (λ (o : Option (List (List MessageInFlight))). row_of o b) (sym is)
  same_sender b other (Some row) is =
      ap (λ (o : Option (List (List MessageInFlight))). row_of o b) (put_there channels p (put_numbered (or_empty (at_number channels p)) q messages) row is)
      ∙ ap (λ (o : Option (List (List MessageInFlight))). or_empty (at_number (put_numbered (or_empty o) q messages) b)) is
      ∙ ap or_empty (put_other row b q messages other)
      ∙ ap (λ (o : Option (List (List MessageInFlight))). row_of o b) (sym is)

  pub channel-other_sender : (a b : ℕ) → (a ≡ p → ⊥) → channel (with_channel channels p q messages) a b ≡ channel channels a b
  channel-other_sender a b other = ap (λ (o : Option (List (List MessageInFlight))). row_of o b)
      (put_other channels a p (put_numbered (or_empty (at_number channels p)) q messages) other)

  -- each other channel is as before
  pub channel-other : (a b : ℕ) → ((a ≡ p) × (b ≡ q) → ⊥) → channel (with_channel channels p q messages) a b ≡ channel channels a b
  channel-other a b other = elim (cases_eq a p) [
    | inr stranger ↦ channel-other_sender a b stranger
    | inl sender ↦ ap (λ n. channel (with_channel channels p q messages) n b) sender
        ∙ same_sender b (λ recipient. other (sender, recipient)) (at_number channels p) refl ∙ ap (λ n. channel channels n b) (sym sender)
  ]

  -- the same channels are there
  pub has-with : (a b : ℕ) → HasChannel channels a b → HasChannel (with_channel channels p q messages) a b
  has-with a b has = elim (cases_eq a p) [
    | inr other ↦ record { row = has.row; messages = has.messages; at_sender = put_other channels a p _ other ∙ has.at_sender; at_recipient = has.at_recipient }
    | inl same ↦ of_row same (put_stays has.row b q messages has.messages has.at_recipient)
  ]
    where
      of_row : a ≡ p → (found : List MessageInFlight) × (at_number (put_numbered has.row q messages) b ≡ Some found) → HasChannel (with_channel channels p q messages) a b
      of_row same (found, there) =
          let sender : at_number channels p ≡ Some has.row = ap (at_number channels) (sym same) ∙ has.at_sender in
          record {
            row = put_numbered has.row q messages;
            messages = found;
            at_sender = ap (at_number (with_channel channels p q messages)) same ∙ put_there channels p _ has.row sender
                ∙ ap (λ (o : Option (List (List MessageInFlight))). Some (put_numbered (or_empty o) q messages)) sender;
            at_recipient = there;
          }

-- a message is in a channel that is there
pub message_has : (channels : Channels) (p q i : ℕ) (l : MessageInFlight) → at_number (channel channels p q) i ≡ Some l → HasChannel channels p q
message_has channels p q i l there = of_rows (at_number channels p) refl there
  where
    of_row : (row : List (List MessageInFlight)) → at_number channels p ≡ Some row → (messages : Option (List MessageInFlight)) → at_number row q ≡ messages
        → at_number (or_empty messages) i ≡ Some l → HasChannel channels p q
    of_row row sender None recipient there = none_there (sym (numbered_none {A = MessageInFlight} i) ∙ there)
    of_row row sender (Some messages) recipient there = record { row = row; messages = messages; at_sender = sender; at_recipient = recipient }

    of_rows : (row : Option (List (List MessageInFlight))) → at_number channels p ≡ row → at_number (or_empty (at_number (or_empty row) q)) i ≡ Some l
        → HasChannel channels p q
    of_rows None sender there = none_there (sym (ap (λ (o : Option (List MessageInFlight)). at_number (or_empty o) i) (numbered_none {A = List MessageInFlight} q)
        ∙ numbered_none {A = MessageInFlight} i) ∙ there)
    of_rows (Some row) sender there = of_row row sender (at_number row q) refl there

module _ (program : Program) (s : SystemState) (sound : IsSoundState program s) where
  abbrev IsRow : List (List MessageInFlight) → Type 0
  IsRow row = length row ≡ length program.procs

  -- there is a channel for each two processes
  pub channel_between : (p q : ℕ) → IsThere s p → IsThere s q → HasChannel s.channels p q
  channel_between p q (w, at_p) (v, at_q) =
      let (row, sender) = numbered_beside s.worlds s.channels p w at_p (sound.each ∙ sym sound.square.senders) in
      let width : length row ≡ length program.procs = all_at IsRow s.channels p row sound.square.recipients sender in
      let (messages, recipient) = numbered_beside s.worlds row q v at_q (sound.each ∙ sym width) in
      record { row = row; messages = messages; at_sender = sender; at_recipient = recipient }

  -- and for no others
  pub sender_there : (p q i : ℕ) (l : MessageInFlight) → at_number (channel s.channels p q) i ≡ Some l → IsThere s p
  sender_there p q i l there =
      let has : HasChannel s.channels p q = message_has s.channels p q i l there in
      numbered_beside s.channels s.worlds p has.row has.at_sender (sound.square.senders ∙ sym sound.each)

  process_there : (p : ℕ) → IsThere s p → IsProcess program p
  process_there zero (w, there) = none_there there
  process_there (suc k) (w, there) = (
    omega arith,
    (let inside : k < length s.worlds = slice_get_within s.worlds k w there in omega
        (arith, inside, sound.each)),
  )

  -- each message from a process that is there is one that may arrive
  pub message_lawful : (p q : ℕ) (l : MessageInFlight) → IsThere s p → IsThere s q → Has (channel s.channels p q) l
      → IsEntry program (record { message = l.message; peer = p; time = l.time })
  message_lawful p q l there_p there_q has =
      let at : HasChannel s.channels p q = channel_between p q there_p there_q in
      let row : AllByRecursion (AllByRecursion (IsMessageOf program)) at.row = all_at
      (AllByRecursion (AllByRecursion (IsMessageOf program))) s.channels p at.row sound.messages at.at_sender in
      let messages : AllByRecursion (IsMessageOf program) at.messages = all_at (AllByRecursion (IsMessageOf program)) at.row q at.messages row at.at_recipient in
      let same : channel s.channels p q ≡ at.messages = ap (λ (o : Option (List (List MessageInFlight))). or_empty (at_number (or_empty o) q)) at.at_sender
      ∙ ap or_empty at.at_recipient in
      let is : IsMessageOf program l = all_has (IsMessageOf program) at.messages l messages (subst (λ (ls : List MessageInFlight). Has ls l) same has) in
      record { proper = is.proper; typed = is.typed; peer = process_there p there_p }

-- WHAT A PROCESS SENDS

-- the process tells each of the actions
abbrev pub AreOwn : ℕ → List Action → Type 0
AreOwn p actions = AllByRecursion (λ (a : Action). teller a ≡ Some p) actions

has-action : (channels : Channels) (a : Action) (p q : ℕ) → HasChannel channels p q → HasChannel (after_action channels a) p q
has-action channels (Sent from to time m) p q has = has-with channels from to _ p q has
has-action channels _ p q has = has

pub has-actions : (channels : Channels) (actions : List Action) (p q : ℕ) → HasChannel channels p q → HasChannel (after_actions channels actions) p q
has-actions channels [] p q has = has
has-actions channels (a ∷ others) p q has = has-actions (after_action channels a) others p q (has-action channels a p q has)

-- a message to `to`, as the channel to q sees it
message_sent : (channels : Channels) (p q to : ℕ) (l : MessageInFlight) → HasChannel channels p q
    → channel (with_message channels p to l) p q ≡ channel channels p q ++ cond (to == q) (l ∷ []) []
message_sent channels p q to l has = elim (cases_eq to q) [
  | inl same ↦ ap (λ n. channel (with_message channels p n l) p q) same ∙ channel-there channels p q (channel channels p q ++ l ∷ []) has
      ∙ ap (λ (b : Bool). channel channels p q ++ cond b (l ∷ []) []) (sym (eq-eqb to q same))
  | inr other ↦ channel-other channels p to (channel channels p to ++ l ∷ []) p q (λ both. other (sym both.1)) ∙ sym (append-nil (channel channels p q))
      ∙ ap (λ (b : Bool). channel channels p q ++ cond b (l ∷ []) []) (sym (ne_eqb to q other))
]

action_sent : (channels : Channels) (a : Action) (p q : ℕ) → teller a ≡ Some p → HasChannel channels p q
    → channel (after_action channels a) p q ≡ channel channels p q ++ message_to q a
action_sent channels (Sent from to time m) p q own has =
    ap (λ n. channel (with_message channels n to (record { message = val_of m; time = time })) p q) (let same : from ≡ p = cc in same)
    ∙ message_sent channels p q to (record { message = val_of m; time = time }) has
action_sent channels _ p q own has = sym (append-nil (channel channels p q))

pub channel-sent : (channels : Channels) (actions : List Action) (p q : ℕ) → AreOwn p actions → HasChannel channels p q
    → channel (after_actions channels actions) p q ≡ channel channels p q ++ messages_to q actions
channel-sent channels [] p q own has = sym (append-nil (channel channels p q))
channel-sent channels (a ∷ others) p q own has =
    channel-sent (after_action channels a) others p q own.1 (has-action channels a p q has)
    ∙ ap (λ (l : List MessageInFlight). l ++ messages_to q others) (action_sent channels a p q own.0 has)
    ∙ append_assoc (channel channels p q) (message_to q a) (messages_to q others)

other_sent : (channels : Channels) (a : Action) (p r q : ℕ) → teller a ≡ Some p → (r ≡ p → ⊥) → channel (after_action channels a) r q ≡ channel channels r q
other_sent channels (Sent from to time m) p r q own other = channel-other_sender channels from to _ r q
    (λ same. other (same ∙ (let sender : from ≡ p = cc in sender)))
other_sent channels _ p r q own other = refl

pub channel-unsent : (channels : Channels) (actions : List Action) (p r q : ℕ) → AreOwn p actions → (r ≡ p → ⊥)
    → channel (after_actions channels actions) r q ≡ channel channels r q
channel-unsent channels [] p r q own other = refl
channel-unsent channels (a ∷ others) p r q own other = channel-unsent (after_action channels a) others p r q own.1 other
    ∙ other_sent channels a p r q own.0 other

-- From the texts that were read to those that are told, and to what a sink gained of a reply.
use Rattle.std.proofs.Common.{◌≡◌, refl, sym, ◌∙◌, ap, subst, ℕ, ◌+◌, ◌<◌, ◌≤◌, inl, inr, ◌⊎◌, List, [], take, length, arith, take_all, length-take}
use Rattle.std.specs.Prelude.{Option, Some, None, Result, Ok, Err}
use Rattle.da_outside.specs.declared.outside.Trouble.{Trouble}
use Rattle.da_outside.specs.declared.outside.Trouble.TheVariants.{Failed}
use Rattle.da_outside.specs.Outside.{HasCause, IsWhole}
use Rattle.da_outside.proofs.OutsideLemmas.{appends_none, cause_as, prefix_none, no_cause}
use Rattle.da_commands.specs.declared.status.Status.{Status}
use Rattle.da_commands.specs.declared.status.Status.TheVariants.{BadSchedule, BadTrace, ChildFault, ChildStatus, Done, Faulted, Forbidden, Idle, LinkFault, Memory, NoJoin, ReadFault, Refused, Spent, Words, WriteFault}
use Rattle.da_commands.specs.declared.words.Task.{Task}
use Rattle.da_commands.specs.Replies.{IsAnswer, IsEnd, TaskReply, ReplayReply}
use Rattle.da_commands.specs.Told.{Begins, Gains, HasReplied, HasSaid, IsUnwritten, OfTold, said, unsaid}

-- a text that was read up to its limit and one byte
pub take_within : (n : ℕ) (text whole : List ℕ) → text ≡ take (n + 1) whole → length text ≤ n → text ≡ whole
take_within n text whole is few =
    let size : length text ≡ length (take (n + 1) whole) = ap length is in
    is ∙ take_all (n + 1) whole (omega (arith, size, length-take (n + 1) whole, few))

pub take_beyond : (n : ℕ) (text whole : List ℕ) → text ≡ take (n + 1) whole → n < length text → n < length whole
take_beyond n text whole is many =
    let size : length text ≡ length (take (n + 1) whole) = ap length is in
    omega (arith, size, length-take (n + 1) whole, many)

-- THE TEXT THAT IS TOLD, or one in its place

-- what holds of every text
pub of_any : (told : Option (List ℕ)) (P : List ℕ → Type 0) → ((text : List ℕ) → P text) → OfTold told P
of_any None P every = ([], every [])
of_any (Some text) P every = every text

-- what holds of the text of which what was read is a prefix
pub of_read : (told : Option (List ℕ)) (P : List ℕ → Type 0) (limit : ℕ) (text : List ℕ) → IsWhole told limit text → ((whole : List ℕ) → text ≡ take (limit + 1) whole → P whole) → OfTold told P
of_read None P limit text few holds = (text, holds text (sym (take_all (limit + 1) text few)))
of_read (Some whole) P limit text is holds = holds whole is

-- what holds of the told text holds of it where it is known
pub of_known : (told : Option (List ℕ)) (P : List ℕ → Type 0) (text : List ℕ) → told ≡ Some text → OfTold told P → P text
of_known told P text is holds = let here : OfTold (Some text) P = subst (λ o. OfTold o P) is holds in here

pub of_map : (told : Option (List ℕ)) (P Q : List ℕ → Type 0) → ((t : List ℕ) → P t → Q t) → OfTold told P → OfTold told Q
of_map None P Q go (t, holds) = (t, go t holds)
of_map (Some t) P Q go holds = go t holds

-- STATUSES

-- which faults the status of a call that asks for no node can be
pub end_no_words : (status : Status) → IsEnd status → status ≡ Words → ⊥
end_no_words status ends is = subst IsEnd is ends

pub end_no_link : (status : Status) → IsEnd status → status ≡ LinkFault → ⊥
end_no_link status ends is = subst IsEnd is ends

-- and of one that writes an answer
read_or_unwritten : (status : Status) → IsUnwritten status → status ≡ ReadFault → ⊥
read_or_unwritten status cut is = subst IsUnwritten is cut

pub unwritten_or_answer : (status : Status) → IsUnwritten status → IsAnswer status → ⊥
unwritten_or_answer WriteFault cut answer = answer
unwritten_or_answer Memory cut answer = answer
unwritten_or_answer _ cut answer = cut

unwritten_ends : (status : Status) → IsUnwritten status → IsEnd status
unwritten_ends WriteFault cut = tt
unwritten_ends Memory cut = tt
unwritten_ends _ cut = absurd cut

pub said_ends : (status : Status) (bytes : List ℕ) (result : Status) (before after : Option (List ℕ)) → IsEnd status → HasSaid status bytes result before after → IsEnd result
said_ends status bytes result before after ends (said is written) = subst IsEnd (sym is) ends
said_ends status bytes result before after ends (unsaid cut front) = unwritten_ends result cut

pub said_unread : (status : Status) (bytes : List ℕ) (result : Status) (before after : Option (List ℕ)) → IsAnswer status → HasSaid status bytes result before after → result ≡ ReadFault → ⊥
said_unread status bytes result before after answer (said is written) read = let never : IsAnswer ReadFault = subst IsAnswer (sym is ∙ read) answer in never
said_unread status bytes result before after answer (unsaid cut front) read = read_or_unwritten result cut read

pub said_unlinked : (status : Status) (bytes : List ℕ) (result : Status) (before after : Option (List ℕ)) → IsAnswer status → HasSaid status bytes result before after → result ≡ LinkFault → ⊥
said_unlinked status bytes result before after answer (said is written) link = let never : IsAnswer LinkFault = subst IsAnswer (sym is ∙ link) answer in never
said_unlinked status bytes result before after answer (unsaid cut front) link = subst IsUnwritten link cut

-- the status of a call in which neither a read nor a write failed
pub quiet_answer : (status : Status) → IsEnd status → (status ≡ ReadFault → ⊥) → (status ≡ WriteFault → ⊥) → (status ≡ Memory) ⊎ IsAnswer status
quiet_answer ReadFault ends read write = absurd (read refl)
quiet_answer WriteFault ends read write = absurd (write refl)
quiet_answer Memory ends read write = inl refl
quiet_answer LinkFault ends read write = absurd ends
quiet_answer ChildFault ends read write = absurd ends
quiet_answer _ ends read write = inr tt

-- a call that asks for no node does nothing with the link
pub ends_unlinked : (status : Status) (faults : ℕ) → IsEnd status → HasCause faults faults (status ≡ LinkFault)
ends_unlinked status faults ends = no_cause faults (end_no_link status ends)

-- an answer is no fault
pub answer_cause : {T : Type 0} {done : T} (status : Status) (before now : ℕ) → IsAnswer status → HasCause before now (◌≡◌ {A = Result T Trouble} (Ok done) (Err Failed)) → HasCause before now (status ≡ WriteFault)
answer_cause status before now answer cause = cause_as before now (λ never. absurd (cc)) (λ is. let never : IsAnswer WriteFault = subst IsAnswer is answer in absurd never) cause

-- WHAT WAS WRITTEN, where memory was refused before
pub memory_said : (status : Status) (bytes : List ℕ) (taken : Option (List ℕ)) → HasSaid status bytes Memory taken taken
memory_said status bytes taken = unsaid tt (prefix_none taken bytes)

pub begins_nothing : (Reply : Status → List ℕ → Type 0) (x : Option (List ℕ)) → Begins Reply x x
begins_nothing Reply x = inl (appends_none x)

pub none_carried : (task : Task) (told x : Option (List ℕ)) → OfTold told (λ t. Begins (TaskReply task t) x x)
none_carried task told x = of_any told _ (λ t. begins_nothing (TaskReply task t) x)

pub none_begun : (t : List ℕ) (told x : Option (List ℕ)) → OfTold told (λ s. Begins (ReplayReply t s) x x)
none_begun t told x = of_any told _ (λ s. begins_nothing (ReplayReply t s) x)

pub none_replayed : (told_program told_schedule x : Option (List ℕ)) → OfTold told_program (λ t. OfTold told_schedule (λ s. Begins (ReplayReply t s) x x))
none_replayed told_program told_schedule x = of_any told_program _ (λ t. none_begun t told_schedule x)

-- A REPLY, BY THE STATUS

module _ (Reply : Status → List ℕ → Type 0) (before after : Option (List ℕ)) where
  -- an answer has all its bytes
  gained : (status : Status) → IsAnswer status → Gains Reply status before after → HasReplied Reply status before after
  gained Done answer gains = gains
  gained (Refused kind line) answer gains = gains
  gained Words answer gains = gains
  gained (Forbidden event) answer gains = gains
  gained (BadSchedule line) answer gains = gains
  gained ReadFault answer gains = absurd answer
  gained WriteFault answer gains = absurd answer
  gained Memory answer gains = absurd answer
  gained LinkFault answer gains = absurd answer
  gained Idle answer gains = gains
  gained Spent answer gains = gains
  gained Faulted answer gains = gains
  gained ChildFault answer gains = absurd answer
  gained (ChildStatus child status) answer gains = gains
  gained (BadTrace process line) answer gains = gains
  gained NoJoin answer gains = gains

  pub whole_replied : (status : Status) → IsAnswer status → HasReplied Reply status before after → Gains Reply status before after
  whole_replied Done answer replied = replied
  whole_replied (Refused kind line) answer replied = replied
  whole_replied Words answer replied = replied
  whole_replied (Forbidden event) answer replied = replied
  whole_replied (BadSchedule line) answer replied = replied
  whole_replied ReadFault answer replied = absurd answer
  whole_replied WriteFault answer replied = absurd answer
  whole_replied Memory answer replied = absurd answer
  whole_replied LinkFault answer replied = absurd answer
  whole_replied Idle answer replied = replied
  whole_replied Spent answer replied = replied
  whole_replied Faulted answer replied = replied
  whole_replied ChildFault answer replied = absurd answer
  whole_replied (ChildStatus child status) answer replied = replied
  whole_replied (BadTrace process line) answer replied = replied
  whole_replied NoJoin answer replied = replied

  -- what is no answer has at most a prefix
  pub begun_replied : (status : Status) → (IsAnswer status → ⊥) → HasReplied Reply status before after → Begins Reply before after
  begun_replied ReadFault never replied = replied
  begun_replied WriteFault never replied = replied
  begun_replied Memory never replied = replied
  begun_replied LinkFault never replied = replied
  begun_replied ChildFault never replied = replied
  begun_replied _ never replied = absurd (never tt)

  -- where neither a read nor a write failed, it is an answer, or memory was refused
  pub quiet_replied : (status : Status) → IsEnd status → (status ≡ ReadFault → ⊥) → (status ≡ WriteFault → ⊥) → HasReplied Reply status before after → (status ≡ Memory) ⊎ Gains Reply status before after
  quiet_replied ReadFault ends read write replied = absurd (read refl)
  quiet_replied WriteFault ends read write replied = absurd (write refl)
  quiet_replied Memory ends read write replied = inl refl
  quiet_replied LinkFault ends read write replied = absurd ends
  quiet_replied ChildFault ends read write replied = absurd ends
  quiet_replied _ ends read write replied = inr replied

  unwritten_replied : (status : Status) → IsUnwritten status → Begins Reply before after → HasReplied Reply status before after
  unwritten_replied WriteFault cut begins = begins
  unwritten_replied Memory cut begins = begins
  unwritten_replied _ cut begins = absurd cut

  -- what was said is the reply
  pub said_replied : (status : Status) (bytes : List ℕ) (result : Status) → IsAnswer status → Reply status bytes → HasSaid status bytes result before after → HasReplied Reply result before after
  said_replied status bytes result answer reply (said is written) =
      subst (λ s. HasReplied Reply s before after) (sym is) (gained status answer (record { bytes = bytes; reply = reply; written = written }))
  said_replied status bytes result answer reply (unsaid cut front) = unwritten_replied result cut (inr (status, bytes, reply, front))

-- a reply of one kind is one of the other
module _ (One Other : Status → List ℕ → Type 0) (before after : Option (List ℕ)) (becomes : (status : Status) (bytes : List ℕ) → One status bytes → Other status bytes) where
  begins_as : Begins One before after → Begins Other before after
  begins_as (inl none) = inl none
  begins_as (inr (status, bytes, reply, front)) = inr (status, bytes, becomes status bytes reply, front)

  gains_as : (status : Status) → Gains One status before after → Gains Other status before after
  gains_as status gains = record { bytes = gains.bytes; reply = becomes status gains.bytes gains.reply; written = gains.written }

  pub replied_as : (status : Status) → HasReplied One status before after → HasReplied Other status before after
  replied_as ReadFault begins = begins_as begins
  replied_as WriteFault begins = begins_as begins
  replied_as Memory begins = begins_as begins
  replied_as LinkFault begins = begins_as begins
  replied_as ChildFault begins = begins_as begins
  replied_as status gains = gains_as status gains

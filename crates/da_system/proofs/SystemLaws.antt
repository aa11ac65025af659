-- There is a channel for each pair of processes and for no other, before and after each event.
use Rattle.std.proofs.Common.{◌≡◌, refl, sym, ◌∙◌, ap, subst, ℕ, zero, suc, ◌+◌, ◌<◌, Bool, true, false, cond, List, [], ◌∷◌, length, map, replicate, arith}
use Rattle.std.specs.Prelude.{Option, Some, None, IfSome, is_some, slice_get, slice_set}
use Rattle.std.specs.List.{AllByRecursion, range_with_len}
use Rattle.std.proofs.lemmas.Bool.{false≢true}
use Rattle.std.proofs.lemmas.List.{length-replicate, length-set}
use Rattle.std.proofs.lemmas.Option.{slice_get_within}
use Rattle.da_lang.specs.declared.event.Action.{Action}
use Rattle.da_lang.specs.declared.event.Action.TheVariants.{Sent}
use Rattle.da_lang.specs.declared.event.Event.{Event}
use Rattle.da_lang.specs.declared.event.Event.TheVariants as event
use Rattle.da_lang.specs.declared.program.Program.{Program}
use Rattle.da_lang.specs.Steps.{Go, Take, TimeOut, Step, Stepped, proc_step}
use Rattle.da_lang.specs.World.{Data, World, at_number, opening}
use Rattle.da_system.specs.Channels.{Channels, MessageInFlight, after_action, after_actions, channel, may_arrive, may_lose, may_repeat, no_messages, or_empty, put_numbered, with_channel}
use Rattle.da_system.specs.SoundState.{IsSquare}
use Rattle.da_system.specs.SystemStep.{AfterEvent, SystemState, arrive, copy_message, drop_message, process_step, start, step_of, stepped, sys_step, told}
use Rattle.da_system.proofs.WorldLemmas.{all_numbered, numbered_none}

-- a channel for each pair of processes
abbrev pub IsWhole : SystemState → Type 0
IsWhole s = IsSquare (length s.worlds) s.channels

-- BEFORE ANY EVENT

pub all_replicate : {A : Type 0} (P : A → Type 0) (n : ℕ) (x : A) → P x → AllByRecursion P (replicate n x)
all_replicate P zero x p = tt
all_replicate P (suc n) x p = (p, all_replicate P n x p)

pub length-opened : (program : Program) (first n : ℕ) → length (map (opening program) (range_with_len first n)) ≡ n
length-opened program first zero = refl
length-opened program first (suc n) = let rest : length (map (opening program) (range_with_len (first + 1) n)) ≡ n = length-opened program (first + 1) n in omega (arith, rest)

pub square_opens : (n : ℕ) → IsSquare n (no_messages n)
square_opens n = record {
  senders = length-replicate n (replicate n []);
  recipients = all_replicate (λ (row : List (List MessageInFlight)). length row ≡ n) n (replicate n []) (length-replicate n []);
}

pub start_whole : (program : Program) → IsWhole (start program)
start_whole program = subst (λ n. IsSquare n (no_messages (length program.procs))) (sym (length-opened program 1 (length program.procs))) (square_opens (length program.procs))

-- AFTER EACH EVENT

pub length-put : {A : Type 0} (xs : List A) (n : ℕ) (x : A) → length (put_numbered xs n x) ≡ length xs
length-put xs zero x = refl
length-put xs (suc place) x = length-set xs place x

-- an element is replaced by one that is like it, where there is one
pub all_set : {A : Type 0} (P : A → Type 0) (xs : List A) (k : ℕ) (x : A) → AllByRecursion P xs → ((y : A) → slice_get xs k ≡ Some y → P y → P x) → AllByRecursion P (slice_set xs k x)
all_set P [] k x all like = tt
all_set P (y ∷ ys) zero x all like = (like y refl all.0, all.1)
all_set P (y ∷ ys) (suc k) x all like = (all.0, all_set P ys k x all.1 like)

pub all_put : {A : Type 0} (P : A → Type 0) (xs : List A) (n : ℕ) (x : A) → AllByRecursion P xs → ((y : A) → at_number xs n ≡ Some y → P y → P x) → AllByRecursion P (put_numbered xs n x)
all_put P xs zero x all like = all
all_put P xs (suc place) x all like = all_set P xs place x all like

module _ (count : ℕ) where
  pub square_with : (channels : Channels) (p q : ℕ) (messages : List MessageInFlight) → IsSquare count channels → IsSquare count (with_channel channels p q messages)
  square_with channels p q messages square = record {
    senders = length-put channels p _ ∙ square.senders;
    recipients = all_put (λ (row : List (List MessageInFlight)). length row ≡ count) channels p _ square.recipients
        (λ row there same. ap (λ (o : Option (List (List MessageInFlight))). length (put_numbered (or_empty o) q messages)) there ∙ length-put row q messages ∙ same);
  }

  square_after : (channels : Channels) (a : Action) → IsSquare count channels → IsSquare count (after_action channels a)
  square_after channels (Sent p q t m) square = square_with channels p q _ square
  square_after channels _ square = square

  pub squares_after : (channels : Channels) (actions : List Action) → IsSquare count channels → IsSquare count (after_actions channels actions)
  squares_after channels [] square = square
  squares_after channels (a ∷ others) square = squares_after (after_action channels a) others (square_after channels a square)

abbrev Keeps : Option AfterEvent → Type 0
Keeps step = IfSome step (λ (after : AfterEvent). IsWhole after.state)

stepped_keeps : (s : SystemState) (p : ℕ) (step : Option Stepped) → IsWhole s → Keeps (stepped s p step)
stepped_keeps s p None whole = tt
stepped_keeps s p (Some step) whole =
    subst (λ n. IsSquare n (after_actions s.channels step.actions)) (sym (length-put s.worlds p step.world)) (squares_after (length s.worlds) s.channels step.actions whole)

process_keeps : (program : Program) (s : SystemState) (p : ℕ) (step : Step) → IsWhole s → Keeps (process_step program s p step)
process_keeps program s p step whole = of (at_number s.worlds p)
  where
    of : (world : Option World) → Keeps (step_of program s p world step)
    of None = tt
    of (Some world) = stepped_keeps s p (proc_step program world step) whole

arrive_keeps : (program : Program) (s : SystemState) (p q i : ℕ) (message : Option MessageInFlight) → IsWhole s → Keeps (arrive program s p q i message)
arrive_keeps program s p q i None whole = tt
arrive_keeps program s p q i (Some message) whole = process_keeps program _ q _ (square_with (length s.worlds) s.channels p q _ whole)

drop_keeps : (s : SystemState) (p q i : ℕ) (message : Option MessageInFlight) → IsWhole s → Keeps (drop_message s p q i message)
drop_keeps s p q i None whole = tt
drop_keeps s p q i (Some message) whole = square_with (length s.worlds) s.channels p q _ whole

copy_keeps : (s : SystemState) (p q : ℕ) (message : Option MessageInFlight) → IsWhole s → Keeps (copy_message s p q message)
copy_keeps s p q None whole = tt
copy_keeps s p q (Some message) whole = square_with (length s.worlds) s.channels p q _ whole

told_keeps : (s : SystemState) (world : Option World) (tell : Data → List Action) → IsWhole s → Keeps (told s world tell)
told_keeps s None tell whole = tt
told_keeps s (Some world) tell whole = whole

if_keeps : (b : Bool) (step : Option AfterEvent) → Keeps step → Keeps (cond b step None)
if_keeps true step keeps = keeps
if_keeps false step keeps = tt

pub step_whole : (program : Program) (s : SystemState) (e : Event) → IsWhole s → Keeps (sys_step program s e)
step_whole program s (event.Move p) whole = process_keeps program s p Go whole
step_whole program s (event.Take p k) whole = process_keeps program s p (Take k) whole
step_whole program s (event.Timeout p) whole = process_keeps program s p TimeOut whole
step_whole program s (event.Deliver p q i) whole = if_keeps (may_arrive s.kind i) _ (arrive_keeps program s p q i (at_number (channel s.channels p q) i) whole)
step_whole program s (event.Lose p q i) whole = if_keeps (may_lose s.kind) _ (drop_keeps s p q i (at_number (channel s.channels p q) i) whole)
step_whole program s (event.Repeat p q i) whole = if_keeps (may_repeat s.kind) _ (copy_keeps s p q (at_number (channel s.channels p q) i) whole)
step_whole program s (event.Show p) whole = told_keeps s (at_number s.worlds p) _ whole
step_whole program s (event.Stat p) whole = told_keeps s (at_number s.worlds p) _ whole

-- SO WHERE THERE IS A MESSAGE there are both processes

get_there : {A : Type 0} (xs : List A) (k : ℕ) → k < length xs → is_some (slice_get xs k) ≡ true
get_there [] k inside = absurd (omega (arith, inside))
get_there (x ∷ xs) zero inside = refl
get_there (x ∷ xs) (suc k) inside = get_there xs k (omega (arith, inside))

numbered_there : {A B : Type 0} (xs : List A) (ys : List B) (n : ℕ) (x : A) → at_number xs n ≡ Some x → length xs ≡ length ys → is_some (at_number ys n) ≡ true
numbered_there xs ys zero x there same = absurd (false≢true (ap is_some there))
numbered_there xs ys (suc place) x there same = get_there ys place (let inside : place < length xs = slice_get_within xs place x there in omega (arith, inside, same))

module _ (s : SystemState) (p q i : ℕ) (message : MessageInFlight) (whole : IsWhole s) where
  abbrev BothThere : Type 0
  BothThere = (is_some (at_number s.worlds p) ≡ true) × (is_some (at_number s.worlds q) ≡ true)

  abbrev Fits : List (List MessageInFlight) → Type 0
  Fits row = length row ≡ length s.worlds

  no_message_in : (messages : Option (List MessageInFlight)) → messages ≡ None → at_number (or_empty messages) i ≡ Some message → BothThere
  no_message_in messages none there = absurd (false≢true (ap is_some (sym (numbered_none {A = MessageInFlight} i) ∙ ap (λ (o : Option (List MessageInFlight)). at_number (or_empty o) i) (sym none) ∙ there)))

  in_row : (row : List (List MessageInFlight)) → at_number s.channels p ≡ Some row → (messages : Option (List MessageInFlight)) → at_number row q ≡ messages → at_number (or_empty messages) i ≡ Some message → BothThere
  in_row row at None none there = no_message_in None refl there
  in_row row at (Some messages) is there = (
    numbered_there s.channels s.worlds p row at whole.senders,
    numbered_there row s.worlds q messages is (subst (λ (o : Option (List (List MessageInFlight))). IfSome o Fits) at (all_numbered Fits s.channels p whole.recipients)),
  )

  in_rows : (row : Option (List (List MessageInFlight))) → at_number s.channels p ≡ row → at_number (or_empty (at_number (or_empty row) q)) i ≡ Some message → BothThere
  in_rows None none there = no_message_in (at_number [] q) (numbered_none {A = List MessageInFlight} q) there
  in_rows (Some row) at there = in_row row at (at_number row q) refl there

  pub message_there : at_number (channel s.channels p q) i ≡ Some message → BothThere
  message_there there = in_rows (at_number s.channels p) refl there

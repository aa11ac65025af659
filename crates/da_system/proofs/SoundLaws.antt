-- The state of a system stays sound, where the worlds of processes stay shaped.
use Rattle.std.proofs.Common.{◌≡◌, inl, inr, refl, sym, ◌∙◌, ap, subst, ℕ, zero, suc, ◌+◌, ◌<◌, ◌≤◌, Bool, true, false, cond, List, [], ◌∷◌, ◌++◌, length, map, replicate, take, drop, arith}
use Rattle.std.specs.Prelude.{Option, Some, None, IfSome, is_some, slice_get, slice_set, ◌⊎◌}
use Rattle.std.specs.List.{AllByRecursion, range_with_len}
use Rattle.std.proofs.lemmas.Bool.{false≢true}
use Rattle.std.proofs.lemmas.Option.{slice_get_within}
use Rattle.da_lang.specs.declared.event.Action.{Action}
use Rattle.da_lang.specs.declared.event.Action.TheVariants.{Sent}
use Rattle.da_lang.specs.declared.event.Event.{Event}
use Rattle.da_lang.specs.declared.event.Event.TheVariants as event
use Rattle.da_lang.specs.declared.program.Program.{Program}
use Rattle.da_values.specs.Value.{val_of}
use Rattle.da_lang.specs.Shaped.{IsEntry, IsProcess, Shaped}
use Rattle.da_lang.specs.Steps.{Go, Take, TimeOut, Deliver, Step, Stepped, proc_step}
use Rattle.da_lang.specs.World.{Data, World, at_number, opening}
use Rattle.da_system.specs.Channels.{Channels, MessageInFlight, after_action, after_actions, channel, may_arrive, may_lose, may_repeat, no_messages, or_empty, put_numbered, with_channel, without_message, without_numbered}
use Rattle.da_system.specs.SoundState.{AllMessages, IsMessageOf, IsSoundState, IsSquare}
use Rattle.da_system.specs.SystemStep.{AfterEvent, SystemState, arrive, copy_message, drop_message, process_step, start, step_of, stepped, sys_step, told}
use Rattle.da_system.proofs.FlatLemmas.{stand_flat}
use Rattle.da_system.proofs.SystemLaws.{all_put, all_replicate, length-opened, length-put, message_there, square_opens, square_with, squares_after}
use Rattle.da_system.proofs.WorldLemmas.{all_numbered}

-- LISTS

all_append : {A : Type 0} (P : A → Type 0) (xs ys : List A) → AllByRecursion P xs → AllByRecursion P ys → AllByRecursion P (xs ++ ys)
all_append P [] ys first next = next
all_append P (x ∷ xs) ys first next = (first.0, all_append P xs ys first.1 next)

all_take : {A : Type 0} (P : A → Type 0) (n : ℕ) (xs : List A) → AllByRecursion P xs → AllByRecursion P (take n xs)
all_take P zero xs all = tt
all_take P (suc n) [] all = tt
all_take P (suc n) (x ∷ xs) all = (all.0, all_take P n xs all.1)

all_drop : {A : Type 0} (P : A → Type 0) (n : ℕ) (xs : List A) → AllByRecursion P xs → AllByRecursion P (drop n xs)
all_drop P zero xs all = all
all_drop P (suc n) [] all = tt
all_drop P (suc n) (x ∷ xs) all = all_drop P n xs all.1

all_without : {A : Type 0} (P : A → Type 0) (xs : List A) (n : ℕ) → AllByRecursion P xs → AllByRecursion P (without_numbered xs n)
all_without P xs zero all = all
all_without P xs (suc place) all = all_append P (take place xs) (drop (suc place) xs) (all_take P place xs all) (all_drop P (suc place) xs all)

all_or_empty : {A : Type 0} (P : A → Type 0) (o : Option (List A)) → IfSome o (AllByRecursion P) → AllByRecursion P (or_empty o)
all_or_empty P None all = tt
all_or_empty P (Some xs) all = all

-- THE OPENING

-- THE LAW ON A PROCESS, from which it follows

-- what an action sends is such a message
abbrev pub SendsMessage : Program → Action → Type 0
SendsMessage program (Sent p q time m) = IsMessageOf program (record { message = val_of m; time = time })
SendsMessage program _ = Unit {0}

-- a message that arrives is one that may be in a history
abbrev pub MayArrive : Program → Step → Type 0
MayArrive program (Deliver m p time) = IsEntry program (record { message = m; peer = p; time = time })
MayArrive program _ = Unit {0}

-- a step leaves a shaped world of the same process, and sends such messages
pub record StepsOn (program : Program) (w : World) (after : Stepped) : Type 0 where
  pub same : after.world.data'.me ≡ w.data'.me
  pub shaped : Shaped program after.world
  pub sends : AllByRecursion (SendsMessage program) after.actions

-- the opening of each process is shaped, and so is what a step leads to from a shaped world
pub record StaysShaped (program : Program) : Type 0 where
  pub opens : (me : ℕ) → IsProcess program me → Shaped program (opening program me)
  pub steps : (w : World) (step : Step) (after : Stepped) → Shaped program w → MayArrive program step → proc_step program w step ≡ Some after → StepsOn program w after

-- the worlds at the opening are those of the processes
opened_number : (program : Program) (first n k : ℕ) (world : World) → slice_get (map (opening program) (range_with_len first n)) k ≡ Some world → world.data'.me ≡ first + k
opened_number program first zero k world is = absurd (false≢true (ap is_some is))
opened_number program first (suc n) zero world is = let same : opening program first ≡ world = cc in sym (ap (λ (w : World). w.data'.me) same) ∙ (let same : first ≡ first + 0 = omega arith in same)
opened_number program first (suc n) (suc k) world is = opened_number program (first + 1) n k world is ∙ (let same : first + 1 + k ≡ first + suc k = omega arith in same)

start_numbers : (program : Program) (n p : ℕ) (world : World) → at_number (map (opening program) (range_with_len 1 n)) p ≡ Some world → world.data'.me ≡ p
start_numbers program n zero world is = absurd (false≢true (ap is_some is))
start_numbers program n (suc place) world is = opened_number program 1 n place world is ∙ (let same : 1 + place ≡ suc place = omega arith in same)

-- a world of the same process in the place of one
abbrev Numbered : List World → Type 0
Numbered worlds = (p : ℕ) (world : World) → at_number worlds p ≡ Some world → world.data'.me ≡ p

put_found : (worlds : List World) (k j : ℕ) (new world : World) → slice_get (slice_set worlds k new) j ≡ Some world
    → ((j ≡ k) × (world ≡ new) × ((old : World) × (slice_get worlds k ≡ Some old))) ⊎ (slice_get worlds j ≡ Some world)
put_found [] k j new world is = inr is
put_found (w ∷ worlds) zero zero new world is = let same : world ≡ new = cc in inl (refl, same, (w, refl))
put_found (w ∷ worlds) zero (suc j) new world is = inr is
put_found (w ∷ worlds) (suc k) zero new world is = inr is
put_found (w ∷ worlds) (suc k) (suc j) new world is = elim (put_found worlds k j new world is) [
  | inl here ↦ inl (ap suc here.0, here.1, here.2)
  | inr there ↦ inr there
]

put_numbers : (worlds : List World) (p : ℕ) (new : World) → Numbered worlds → ((old : World) → at_number worlds p ≡ Some old → new.data'.me ≡ old.data'.me) → Numbered (put_numbered worlds p new)
put_numbers worlds zero new numbers like q world is = numbers q world is
put_numbers worlds (suc k) new numbers like zero world is = numbers zero world is
put_numbers worlds (suc k) new numbers like (suc j) world is = elim (put_found worlds k j new world is) [
  | inl here ↦ (ap (λ (w : World). w.data'.me) here.1 ∙ like here.2.0 here.2.1 ∙ numbers (suc k) here.2.0 here.2.1 ∙ sym (ap suc here.0))
  | inr there ↦ numbers (suc j) world there
]

module _ (program : Program) (law : StaysShaped program) where
  abbrev Messages : List MessageInFlight → Type 0
  Messages messages = AllByRecursion (IsMessageOf program) messages

  abbrev Row : List (List MessageInFlight) → Type 0
  Row row = AllByRecursion Messages row

  opened_from : (first n : ℕ) → 0 < first → first + n ≤ length program.procs + 1 → AllByRecursion (Shaped program) (map (opening program) (range_with_len first n))
  opened_from first zero some most = tt
  opened_from first (suc n) some most = (law.opens first (some, omega (arith, most)), opened_from (first + 1) n (omega arith) (omega (arith, most)))

  pub start_sound : IsSoundState program (start program)
  start_sound =
      let count : ℕ = length program.procs in
      record {
        kind = refl;
        each = length-opened program 1 count;
        worlds = opened_from 1 count (omega arith) (omega arith);
        numbers = start_numbers program count;
        square = square_opens count;
        flat = stand_flat program (no_messages count) (square_opens count);
        messages = all_replicate Row count (replicate count []) (all_replicate Messages count [] tt);
      }

  -- CHANNELS

  pub messages_in : (channels : Channels) (p q : ℕ) → AllMessages program channels → Messages (channel channels p q)
  messages_in channels p q all =
      let row : Row (or_empty (at_number channels p)) = all_or_empty Messages (at_number channels p) (all_numbered Row channels p all) in
      all_or_empty (IsMessageOf program) (at_number (or_empty (at_number channels p)) q) (all_numbered Messages (or_empty (at_number channels p)) q row)

  messages_with : (channels : Channels) (p q : ℕ) (messages : List MessageInFlight) → AllMessages program channels → Messages messages → AllMessages program (with_channel channels p q messages)
  messages_with channels p q messages all here =
      all_put Row channels p _ all
      (λ row there fits. subst (λ (o : Option (List (List MessageInFlight))). Row (put_numbered (or_empty o) q messages)) (sym there) (all_put Messages row q messages fits (λ old at kept. here)))

  messages_after : (channels : Channels) (a : Action) → AllMessages program channels → SendsMessage program a → AllMessages program (after_action channels a)
  messages_after channels (Sent p q t m) all sends = messages_with channels p q _ all (all_append (IsMessageOf program) (channel channels p q) (record { message = _; time = t } ∷ []) (messages_in channels p q all) (sends, tt))
  messages_after channels _ all sends = all

  all_after : (channels : Channels) (actions : List Action) → AllMessages program channels → AllByRecursion (SendsMessage program) actions → AllMessages program (after_actions channels actions)
  all_after channels [] all sends = all
  all_after channels (a ∷ others) all sends = all_after (after_action channels a) others (messages_after channels a all sends.0) sends.1

  -- a state with other messages in one channel
  sound_with : (s : SystemState) (p q : ℕ) (messages : List MessageInFlight) → IsSoundState program s → Messages messages → IsSoundState program (record s { channels = with_channel s.channels p q messages })
  sound_with s p q messages sound here =
      let square = square_with (length program.procs) s.channels p q messages sound.square in
      record {
        kind = sound.kind;
        each = sound.each;
        worlds = sound.worlds;
        numbers = sound.numbers;
        square = square;
        flat = stand_flat program (with_channel s.channels p q messages) square;
        messages = messages_with s.channels p q messages sound.messages here;
      }

  -- STEPS OF PROCESSES

  abbrev Keeps : Option AfterEvent → Type 0
  Keeps step = IfSome step (λ (after : AfterEvent). IsSoundState program after.state)

  stepped_sound : (s : SystemState) (p : ℕ) (step : Step) (world : World) (found : Option Stepped) → IsSoundState program s → at_number s.worlds p ≡ Some world → Shaped program world → MayArrive program step → proc_step program world step ≡ found → Keeps (stepped s p found)
  stepped_sound s p step world None sound there shaped may is = tt
  stepped_sound s p step world (Some after) sound there shaped may is =
      let next = law.steps world step after shaped may is in
      let square = squares_after (length program.procs) s.channels after.actions sound.square in
      record {
        kind = sound.kind;
        each = length-put s.worlds p after.world ∙ sound.each;
        worlds = all_put (Shaped program) s.worlds p after.world sound.worlds (λ old found kept. next.shaped);
        numbers = put_numbers s.worlds p after.world sound.numbers (λ old found. (let same : world ≡ old = cc in next.same ∙ ap (λ (w : World). w.data'.me) same));
        square = square;
        flat = stand_flat program (after_actions s.channels after.actions) square;
        messages = all_after s.channels after.actions sound.messages next.sends;
      }

  of_sound : (s : SystemState) (p : ℕ) (step : Step) (world : Option World) → at_number s.worlds p ≡ world → IsSoundState program s → IfSome world (Shaped program) → MayArrive program step → Keeps (step_of program s p world step)
  of_sound s p step None there sound shaped may = tt
  of_sound s p step (Some world) there sound shaped may = stepped_sound s p step world (proc_step program world step) sound there shaped may refl

  process_sound : (s : SystemState) (p : ℕ) (step : Step) → IsSoundState program s → MayArrive program step → Keeps (process_step program s p step)
  process_sound s p step sound may = of_sound s p step (at_number s.worlds p) refl sound (all_numbered (Shaped program) s.worlds p sound.worlds) may

  -- MESSAGES

  -- a world that is there is that of a process
  there_process : (s : SystemState) (p : ℕ) → IsSoundState program s → is_some (at_number s.worlds p) ≡ true → IsProcess program p
  there_process s p sound there = of p (at_number s.worlds p) refl there
    where
      of : (n : ℕ) (found : Option World) → at_number s.worlds n ≡ found → is_some found ≡ true → IsProcess program n
      of n None is some = absurd (false≢true some)
      of zero (Some world) is some = absurd (false≢true (ap is_some is))
      of (suc place) (Some world) is some = (omega arith, omega (arith, slice_get_within s.worlds place world is, sound.each))

  arrive_sound : (s : SystemState) (p q i : ℕ) (message : Option MessageInFlight) → at_number (channel s.channels p q) i ≡ message → IsSoundState program s → Keeps (arrive program s p q i message)
  arrive_sound s p q i None is sound = tt
  arrive_sound s p q i (Some message) is sound =
      let is_message_of : IsMessageOf program message = subst (λ (o : Option MessageInFlight). IfSome o (IsMessageOf program)) is (all_numbered (IsMessageOf program) (channel s.channels p q) i (messages_in s.channels p q sound.messages)) in
      let both = message_there s p q i message (subst (λ n. IsSquare n s.channels) (sym sound.each) sound.square) is in
      let rest : IsSoundState program (record s { channels = without_message s.channels p q i }) =
      sound_with s p q _ sound (all_without (IsMessageOf program) (channel s.channels p q) i (messages_in s.channels p q sound.messages)) in
      process_sound (record s { channels = without_message s.channels p q i }) q (Deliver message.message p message.time) rest
      (record { proper = is_message_of.proper; typed = is_message_of.typed; peer = there_process s p sound both.0 })

  drop_sound : (s : SystemState) (p q i : ℕ) (message : Option MessageInFlight) → IsSoundState program s → Keeps (drop_message s p q i message)
  drop_sound s p q i None sound = tt
  drop_sound s p q i (Some message) sound = sound_with s p q _ sound (all_without (IsMessageOf program) (channel s.channels p q) i (messages_in s.channels p q sound.messages))

  copy_sound : (s : SystemState) (p q i : ℕ) (message : Option MessageInFlight) → at_number (channel s.channels p q) i ≡ message → IsSoundState program s → Keeps (copy_message s p q message)
  copy_sound s p q i None is sound = tt
  copy_sound s p q i (Some message) is sound =
      let is_message_of : IsMessageOf program message = subst (λ (o : Option MessageInFlight). IfSome o (IsMessageOf program)) is (all_numbered (IsMessageOf program) (channel s.channels p q) i (messages_in s.channels p q sound.messages)) in
      sound_with s p q _ sound (all_append (IsMessageOf program) (channel s.channels p q) (message ∷ []) (messages_in s.channels p q sound.messages) (is_message_of, tt))

  told_sound : (s : SystemState) (world : Option World) (tell : Data → List Action) → IsSoundState program s → Keeps (told s world tell)
  told_sound s None tell sound = tt
  told_sound s (Some world) tell sound = sound

  if_sound : (b : Bool) (step : Option AfterEvent) → Keeps step → Keeps (cond b step None)
  if_sound true step keeps = keeps
  if_sound false step keeps = tt

  pub step_sound : (s : SystemState) (e : Event) → IsSoundState program s → Keeps (sys_step program s e)
  step_sound s (event.Move p) sound = process_sound s p Go sound tt
  step_sound s (event.Take p k) sound = process_sound s p (Take k) sound tt
  step_sound s (event.Timeout p) sound = process_sound s p TimeOut sound tt
  step_sound s (event.Deliver p q i) sound = if_sound (may_arrive s.kind i) _ (arrive_sound s p q i (at_number (channel s.channels p q) i) refl sound)
  step_sound s (event.Lose p q i) sound = if_sound (may_lose s.kind) _ (drop_sound s p q i (at_number (channel s.channels p q) i) sound)
  step_sound s (event.Repeat p q i) sound = if_sound (may_repeat s.kind) _ (copy_sound s p q i (at_number (channel s.channels p q) i) refl sound)
  step_sound s (event.Show p) sound = told_sound s (at_number s.worlds p) _ sound
  step_sound s (event.Stat p) sound = told_sound s (at_number s.worlds p) _ sound

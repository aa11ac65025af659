-- The messages of a network, and the events that are about one.
use Rattle.std.proofs.Common.{◌≡◌, ◌<◌, ◌^◌, arith, refl, sym, ◌∙◌, ap, subst, ℕ, Bool, true, false, cond, List, [], ◌∷◌, ◌++◌, length, ◌≤◌}
use Rattle.std.specs.Prelude.{◌&&◌, Option, Some, None, IfSome, IsSome, is_some}
use Rattle.std.proofs.lemmas.Bool.{false≢true}
use Rattle.da_lang.specs.declared.event.Action.{Action}
use Rattle.da_lang.specs.declared.event.Action.TheVariants.{Again, Lost}
use Rattle.da_lang.specs.declared.event.Event.TheVariants as event
use Rattle.da_lang.specs.declared.program.Program.{Program}
use Rattle.da_lang.specs.declared.ty.ChannelKind.{ChannelKind}
use Rattle.da_lang.specs.Shaped.{IsEntry}
use Rattle.da_lang.specs.Steps.{Deliver, Step, Stepped}
use Rattle.da_lang.specs.World.{World, at_number}
use Rattle.da_types.proofs.sound.AcceptedLaws.{is_sound}
use Rattle.da_machine.proofs.Prefixes.{same_prefix, full_prefix}
use Rattle.da_system.specs.declared.network.Network.{Network}
use Rattle.da_system.specs.Channels.{Channels, MessageInFlight, channel, may_arrive, may_lose, may_repeat, with_message, without_message}
use Rattle.da_system.specs.Queues.{HasPlace, IsAmong}
use Rattle.da_system.specs.Queues as queues
use Rattle.da_system.specs.SoundState.{IsMessageOf, IsSoundState, IsSquare}
use Rattle.da_system.specs.Network.{HasBegun, HasStepped, StandFrom, Stands, program_of}
use Rattle.da_system.specs.SystemStep.{AfterEvent, SystemState, arrive, copy_message, deliver, drop_message, lose, process_step, repeat, step_of, stepped}
use Rattle.da_system.proofs.AcceptedStates.{stays_shaped}
use Rattle.da_system.proofs.MadeLemmas.{sound_after}
use Rattle.da_system.proofs.PlaceLemmas.{within_numbers}
use Rattle.da_system.proofs.SoundLaws.{messages_in}
use Rattle.da_system.proofs.StandLemmas.{none_at, stands_on, world_there}
use Rattle.da_system.proofs.SystemLaws.{message_there}
use Rattle.da_system.proofs.WorldLemmas.{all_numbered, numbered_none}

pub stepped_some : (s : SystemState) (p : ℕ) (step : Option Stepped) → is_some (stepped s p step) ≡ is_some step
stepped_some s p None = refl
stepped_some s p (Some step) = refl

module _ (network : Network) (s : SystemState) (stands : Stands network s) where
  abbrev program : Program
  program = program_of network

  -- what the kind allows
  pub kind_arrives : (b : Bool) (kind : ChannelKind) (i : ℕ) → kind ≡ program.kind → b ≡ may_arrive kind i → may_arrive s.kind i ≡ b
  kind_arrives b kind i same is = ap (λ k. may_arrive k i) (stands.sound.kind ∙ sym same) ∙ sym is

  pub kind_loses : (b : Bool) (kind : ChannelKind) → kind ≡ program.kind → b ≡ may_lose kind → may_lose s.kind ≡ b
  kind_loses b kind same is = ap may_lose (stands.sound.kind ∙ sym same) ∙ sym is

  pub kind_repeats : (b : Bool) (kind : ChannelKind) → kind ≡ program.kind → b ≡ may_repeat kind → may_repeat s.kind ≡ b
  kind_repeats b kind same is = ap may_repeat (stands.sound.kind ∙ sym same) ∙ sym is

  module _ (p q i : ℕ) where
    abbrev found : Option MessageInFlight
    found = at_number (channel s.channels p q) i

    -- WHERE IT IS NOT ALLOWED

    cond_none : {A : Type 0} (b : Bool) (o : Option A) → o ≡ None → cond b o None ≡ None
    cond_none true o none = none
    cond_none false o none = refl

    pub none_arrives : may_arrive s.kind i ≡ false → deliver program s p q i ≡ None
    none_arrives never = ap (λ b. cond b (arrive program s p q i found) None) never

    pub no_message_arrives : found ≡ None → deliver program s p q i ≡ None
    no_message_arrives none = cond_none (may_arrive s.kind i) _ (ap (arrive program s p q i) none)

    -- nothing arrives where nothing is in flight
    pub none_in_flight : length (channel s.channels p q) ≡ 0 → deliver program s p q i ≡ None
    none_in_flight empty = no_message_arrives (none_of (channel s.channels p q) empty)
      where
        none_of : (messages : List MessageInFlight) → length messages ≡ 0 → at_number messages i ≡ None
        none_of [] empty = numbered_none i
        none_of (l ∷ ls) empty = absurd (omega (arith, empty))

    pub none_lost : may_lose s.kind ≡ false → lose s p q i ≡ None
    none_lost never = ap (λ b. cond b (drop_message s p q i found) None) never

    pub no_message_lost : found ≡ None → lose s p q i ≡ None
    no_message_lost none = cond_none (may_lose s.kind) _ (ap (drop_message s p q i) none)

    pub none_doubled : may_repeat s.kind ≡ false → repeat s p q i ≡ None
    none_doubled never = ap (λ b. cond b (copy_message s p q found) None) never

    pub no_message_doubled : found ≡ None → repeat s p q i ≡ None
    no_message_doubled none = cond_none (may_repeat s.kind) _ (ap (copy_message s p q) none)

    -- WHERE IT IS ALLOWED

    lose_some : (may : Bool) (o : Option MessageInFlight) → is_some (cond may (drop_message s p q i o) None) ≡ (may && is_some o)
    lose_some true None = refl
    lose_some true (Some l) = refl
    lose_some false o = refl

    repeat_some : (may : Bool) (o : Option MessageInFlight) → is_some (cond may (copy_message s p q o) None) ≡ (may && is_some o)
    repeat_some true None = refl
    repeat_some true (Some l) = refl
    repeat_some false o = refl

    pub loses_as : is_some (lose s p q i) ≡ (may_lose s.kind && is_some found)
    loses_as = lose_some (may_lose s.kind) found

    pub repeats_as : is_some (repeat s p q i) ≡ (may_repeat s.kind && is_some found)
    repeats_as = repeat_some (may_repeat s.kind) found

    -- WHAT THERE IS where it may arrive

    receiver_there : (channels : Channels) (world : Option World) (step : Step) → is_some (step_of program (record s { channels = channels }) q world step) ≡ true → is_some world ≡ true
    receiver_there channels None step some = some
    receiver_there channels (Some w) step some = refl

    delivery_parts : (may : Bool) (o : Option MessageInFlight) → is_some (cond may (arrive program s p q i o) None) ≡ true → ((may ≡ true) × (is_some o ≡ true)) × (is_some (at_number s.worlds q) ≡ true)
    delivery_parts true None some = absurd (false≢true some)
    delivery_parts true (Some l) some = ((refl, refl), receiver_there (without_message s.channels p q i) (at_number s.worlds q) (Deliver l.message p l.time) some)
    delivery_parts false o some = absurd (false≢true some)

    module _ (some : IsSome (deliver program s p q i)) where
      parts : ((may_arrive s.kind i ≡ true) × (is_some found ≡ true)) × (is_some (at_number s.worlds q) ≡ true)
      parts = delivery_parts (may_arrive s.kind i) found some

      pub may_come : may_arrive s.kind i ≡ true
      may_come = parts.0.0

      pub core_there : is_some (at_number network.cores.items q) ≡ true
      core_there = sym (world_there program network.cores.items s.worlds q stands.cores) ∙ parts.1

      -- there is the message, and both processes
      whose : (o : Option MessageInFlight) → found ≡ o → is_some o ≡ true → HasPlace (queues.count_of network.channels) p q i
      whose None is none = absurd (false≢true none)
      whose (Some message) is there =
          let both = message_there s p q i message (subst (λ n. IsSquare n s.channels) (sym stands.sound.each) stands.sound.square) is in
          let all : length s.worlds ≡ queues.count_of network.channels = stands.sound.each ∙ sym stands.count in
          let from = within_numbers s.worlds p both.0 in
          let to = within_numbers s.worlds q both.1 in
          ((from.0, subst (λ n. p ≤ n) all from.1), (to.0, subst (λ n. q ≤ n) all to.1), (within_numbers (channel s.channels p q) i (ap is_some is)).0)

      pub both_there : HasPlace (queues.count_of network.channels) p q i
      both_there = whose found refl parts.0.1

      pub message_found : found ≡ None → ⊥
      message_found none = false≢true (sym (ap is_some none) ∙ parts.0.1)

      pub few_senders : p < 2 ^ 16
      few_senders = omega (arith, both_there.0.1, stands.count, (is_sound program stands.compiled.accepted).few)

    -- THE MESSAGE

    module _ (message : MessageInFlight) (there : found ≡ Some message) where
      is_message_of : IsMessageOf program message
      is_message_of = subst (λ (o : Option MessageInFlight). IfSome o (IsMessageOf program)) there
          (all_numbered (IsMessageOf program) (channel s.channels p q) i (messages_in program (stays_shaped program stands.compiled.accepted) s.channels p q stands.sound.messages))

      -- it may arrive
      pub message_may : IsAmong (queues.count_of network.channels) p → IsEntry program (record { message = message.message; peer = p; time = message.time })
      message_may among = record { proper = is_message_of.proper; typed = is_message_of.typed; peer = (among.0, subst (λ n. p ≤ n) stands.count among.1) }

      pub arrives_is : may_arrive s.kind i ≡ true
          → deliver program s p q i ≡ process_step program (record s { channels = without_message s.channels p q i }) q (Deliver message.message p message.time)
      arrives_is may = ap (λ b. cond b (arrive program s p q i found) None) may ∙ ap (arrive program s p q i) there

      -- and may not where there is no receiver
      pub no_receiver : at_number network.cores.items q ≡ None → deliver program s p q i ≡ None
      no_receiver none =
          cond_none (may_arrive s.kind i) _
          (ap (arrive program s p q i) there ∙ ap (λ (o : Option World). step_of program (record s { channels = without_message s.channels p q i }) q o (Deliver message.message p message.time)) (none_at program network.cores.items s.worlds q stands.cores none))

      pub arrives_sound : (after : AfterEvent) → deliver program s p q i ≡ Some after → IsSoundState program after.state
      arrives_sound after is = sound_after network s stands (event.Deliver p q i) after is

      -- it is lost
      lost_is : may_lose s.kind ≡ true → lose s p q i ≡ Some (record { state = record s { channels = without_message s.channels p q i }; actions = Lost p q message.time ∷ [] })
      lost_is may = ap (λ b. cond b (drop_message s p q i found) None) may ∙ ap (drop_message s p q i) there

      pub lost_begun : may_lose s.kind ≡ true → (old new : List Action) → new ≡ old → HasBegun (lose s p q i) old new
      lost_begun may old new same = record { after = _; is = lost_is may; front = same_prefix old new (Lost p q message.time ∷ []) same }

      pub lost_stands : may_lose s.kind ≡ true → (left : Network) (old new : List Action) → left.spent ≡ network.spent → left.compiled.now ≡ network.compiled.now → left.cores.items ≡ network.cores.items
          → queues.count_of left.channels ≡ queues.count_of network.channels → queues.StandsFor left.channels (without_message s.channels p q i) → new ≡ old ++ Lost p q message.time ∷ [] → HasStepped (lose s p q i) left old new
      lost_stands may left old new spent compiled cores count channels added = record {
        after = _;
        is = lost_is may;
        stands = stands_on network left s _ stands (spent ∙ stands.unspent) compiled (sound_after network s stands (event.Lose p q i) _ (lost_is may)) (ap length cores)
            (subst (λ xs. StandFrom program 1 xs s.worlds) (sym cores) stands.cores) count channels;
        added = added;
      }

      -- it is doubled
      doubled_is : may_repeat s.kind ≡ true → repeat s p q i ≡ Some (record { state = record s { channels = with_message s.channels p q message }; actions = Again p q message.time ∷ [] })
      doubled_is may = ap (λ b. cond b (copy_message s p q found) None) may ∙ ap (copy_message s p q) there

      pub doubled_begun : may_repeat s.kind ≡ true → (old new : List Action) → new ≡ old → HasBegun (repeat s p q i) old new
      doubled_begun may old new same = record { after = _; is = doubled_is may; front = same_prefix old new (Again p q message.time ∷ []) same }

      pub doubled_whole : may_repeat s.kind ≡ true → (old new : List Action) → new ≡ old ++ Again p q message.time ∷ [] → HasBegun (repeat s p q i) old new
      doubled_whole may old new added = record { after = _; is = doubled_is may; front = full_prefix old new (Again p q message.time ∷ []) added }

      pub doubled_stands : may_repeat s.kind ≡ true → (left : Network) (old new : List Action) → left.spent ≡ network.spent → left.compiled.now ≡ network.compiled.now → left.cores.items ≡ network.cores.items
          → queues.count_of left.channels ≡ queues.count_of network.channels → IfSome found (λ (l : MessageInFlight). queues.StandsFor left.channels (with_message s.channels p q l)) → new ≡ old ++ Again p q message.time ∷ [] → HasStepped (repeat s p q i) left old new
      doubled_stands may left old new spent compiled cores count channels added = record {
        after = _;
        is = doubled_is may;
        stands = stands_on network left s _ stands (spent ∙ stands.unspent) compiled (sound_after network s stands (event.Repeat p q i) _ (doubled_is may)) (ap length cores)
            (subst (λ xs. StandFrom program 1 xs s.worlds) (sym cores) stands.cores) count
            (subst (λ (o : Option MessageInFlight). IfSome o (λ (l : MessageInFlight). queues.StandsFor left.channels (with_message s.channels p q l))) there channels);
        added = added;
      }

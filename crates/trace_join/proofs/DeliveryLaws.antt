-- The events by which a process gets a message, for each kind of channel.
use Rattle.std.specs.Prelude.{◌≡◌, ℕ, ◌+◌, true, List, [], ◌∷◌, ◌++◌, length, replicate, Some, None, refl}
use Rattle.std.specs.List.{AllByRecursion}
use Rattle.std.proofs.Common.{sym, ap, ◌∙◌, subst, inl, inr, append_assoc, append-nil}
use Rattle.da_values.specs.Sets.{Has}
use Rattle.da_lang.specs.declared.event.Action.{Action}
use Rattle.da_lang.specs.declared.event.Action.TheVariants.{Again, Lost}
use Rattle.da_lang.specs.declared.event.Event.{Event}
use Rattle.da_lang.specs.declared.event.Event.TheVariants as event
use Rattle.da_lang.specs.declared.program.Program.{Program}
use Rattle.da_lang.specs.declared.ty.ChannelKind.{ChannelKind}
use Rattle.da_lang.specs.declared.ty.ChannelKind.TheVariants.{FifoReliable, UnorderedReliable, FifoUnreliable, UnorderedUnreliable}
use Rattle.da_lang.specs.Steps.{Deliver, Stepped, proc_step}
use Rattle.da_lang.specs.World.{World, at_number}
use Rattle.da_system.specs.Channels.{Channels, MessageInFlight, channel, may_arrive, may_lose, may_repeat, with_message, without_message, without_numbered}
use Rattle.da_system.specs.SourceRun.{src_run_from}
use Rattle.da_system.specs.SystemStep.{AfterEvent, SystemState, sys_step}
use Rattle.trace_join.specs.Joins.{IsPlain}
use Rattle.trace_join.specs.Progress.{Reaches, moves, rests}
use Rattle.trace_join.specs.Traces.{messages_from, part}
use Rattle.trace_join.proofs.ChannelLaws.{HasChannel, channel-other, channel-there, has-with}
use Rattle.trace_join.proofs.EventLaws.{after_step, delivers_by, doubles_by, loses_by}
use Rattle.trace_join.proofs.RemainsLaws.{Serves}
use Rattle.trace_join.proofs.Sublists.{CutAt, cut_numbered, numbered_longer, without_longer}

-- A RUN BY PLAIN EVENTS

pub reaches-actions : {program : Program} {s s' : SystemState} {events : List Event} {actions : List Action} → Reaches program s events s' actions → (i : ℕ)
    → (src_run_from program i s events).actions ≡ actions
reaches-actions (rests s) i = refl
reaches-actions {program} (moves s s' e events after actions plain is others) i = rw is
    (ap (λ (l : List Action). after.actions ++ l) (reaches-actions others (i + 1)))

pub reaches-whole : {program : Program} {s s' : SystemState} {events : List Event} {actions : List Action} → Reaches program s events s' actions → (i : ℕ)
    → (src_run_from program i s events).stop ≡ None
reaches-whole (rests s) i = refl
reaches-whole {program} (moves s s' e events after actions plain is others) i = rw is (reaches-whole others (i + 1))

pub reaches-plain : {program : Program} {s s' : SystemState} {events : List Event} {actions : List Action} → Reaches program s events s' actions
    → AllByRecursion IsPlain events
reaches-plain (rests s) = tt
reaches-plain (moves s s' e events after actions plain is others) = (plain, reaches-plain others)

pub reaches_on : {program : Program} {s s' s2 : SystemState} {events events2 : List Event} {actions actions2 : List Action}
    → Reaches program s events s' actions → Reaches program s' events2 s2 actions2 → Reaches program s (events ++ events2) s2 (actions ++ actions2)
reaches_on (rests s) next = next
reaches_on {program} {s2 = s2} {events2 = events2} {actions2 = actions2} (moves s s' e events after actions plain is others) next =
    subst (λ (l : List Action). Reaches program s (e ∷ (events ++ events2)) s2 l) (sym (append_assoc after.actions actions actions2))
    (moves s s2 e (events ++ events2) after (actions ++ actions2) plain is (reaches_on others next))

pub reaches_by : (program : Program) (s : SystemState) (e : Event) (after : AfterEvent) → IsPlain e → sys_step program s e ≡ Some after
    → Reaches program s (e ∷ []) after.state after.actions
reaches_by program s e after plain is =
    subst (λ (l : List Action). Reaches program s (e ∷ []) after.state l) (append-nil after.actions)
    (moves s after.state e [] after [] plain is (rests after.state))

-- A MESSAGE IS FETCHED

-- the channels but one are the same
abbrev pub Elsewhere : ℕ → ℕ → Channels → Channels → Type 0
Elsewhere from p channels channels' = (a b : ℕ) → ((a ≡ from) × (b ≡ p) → ⊥) → channel channels' a b ≡ channel channels a b

abbrev pub KeepsChannels : Channels → Channels → Type 0
KeepsChannels channels channels' = (a b : ℕ) → HasChannel channels a b → HasChannel channels' a b

-- these actions stand in no trace
abbrev pub Untold : List Action → Type 0
Untold actions = (q : ℕ) → part q actions ≡ []

-- the events before a delivery, which lead to these channels
record Prepares (program : Program) (g : SystemState) (from p : ℕ) (events : List Event) (channels : Channels) : Type 0 where
  actions : List Action
  reaches : Reaches program g events (record g { channels = channels }) actions
  untold : Untold actions
  elsewhere : Elsewhere from p g.channels channels
  keeps : KeepsChannels g.channels channels

-- By these events message l goes from its channel to process p, of whose trace this is left then. The fetch leaves these channels,
-- with these messages in the one where it was.
pub record Fetching (program : Program) (g : SystemState) (from p : ℕ) (l : MessageInFlight) (left : List Action) (messages : List MessageInFlight)
    (events : List Event) : Type 0 where
  pub channels : Channels
  pub now : channel channels from p ≡ messages
  pub elsewhere : Elsewhere from p g.channels channels
  pub keeps : KeepsChannels g.channels channels
  pub serves : Serves g.kind (channel g.channels from p) l (messages_from from left) messages
  pub before : List Action
  pub untold : Untold before
  pub reaches : (w : World) (r : Stepped) → at_number g.worlds p ≡ Some w → proc_step program w (Deliver l.message from l.time) ≡ Some r
      → Reaches program g events (after_step g p channels r) (before ++ r.actions)

module _ (program : Program) (g : SystemState) (from p : ℕ) (l : MessageInFlight) (left : List Action) (has : HasChannel g.channels from p) where
  abbrev messages : List MessageInFlight
  messages = channel g.channels from p

  abbrev wanted : List MessageInFlight
  wanted = messages_from from left

  at_once : Prepares program g from p [] g.channels
  at_once = record { actions = []; reaches = rests g; untold = λ q. refl; elsewhere = λ a b other. refl; keeps = λ a b there. there }

  -- the last event is the delivery of message i
  fetching : (events : List Event) (channels : Channels) (i : ℕ) → Prepares program g from p events channels → may_arrive g.kind i ≡ true
      → at_number (channel channels from p) i ≡ Some l
      → Serves g.kind messages l wanted (without_numbered (channel channels from p) i)
      → Fetching program g from p l left (without_numbered (channel channels from p) i) (events ++ event.Deliver from p i ∷ [])
  fetching events channels i prepares may there serves =
      let rest : List MessageInFlight = without_numbered (channel channels from p) i in
      record {
        channels = without_message channels from p i;
        now = channel-there channels from p rest (prepares.keeps from p has);
        elsewhere = λ a b other. channel-other channels from p (without_numbered (channel channels from p) i) a b other ∙ prepares.elsewhere a b other;
        keeps = λ a b there'. has-with channels from p (without_numbered (channel channels from p) i) a b (prepares.keeps a b there');
        serves = serves;
        before = prepares.actions;
        untold = prepares.untold;
        reaches = λ w r at makes. reaches_on prepares.reaches
            (reaches_by program (record g { channels = channels }) (event.Deliver from p i)
            (record { state = after_step g p (without_message channels from p i) r; actions = r.actions }) tt
            (delivers_by program (record g { channels = channels }) p w r at from i l may there makes));
      }

  serves_as : (kind : ChannelKind) (rest : List MessageInFlight) → g.kind ≡ kind → Serves kind messages l wanted rest → Serves g.kind messages l wanted rest
  serves_as kind rest is serves = subst (λ (k : ChannelKind). Serves k messages l wanted rest) (sym is) serves

  -- FIFO RELIABLE: it is the first
  pub fetch_first : (back : List MessageInFlight) → g.kind ≡ FifoReliable → messages ≡ l ∷ back → Fetching program g from p l left back (event.Deliver from p 1 ∷ [])
  fetch_first back kind first =
      let rest : without_numbered messages 1 ≡ back = ap (λ (ls : List MessageInFlight). without_numbered ls 1) first in
      subst (λ (ls : List MessageInFlight). Fetching program g from p l left ls (event.Deliver from p 1 ∷ [])) rest
      (fetching [] g.channels 1 at_once (ap (λ (k : ChannelKind). may_arrive k 1) kind) (ap (λ (ls : List MessageInFlight). at_number ls 1) first)
      (serves_as FifoReliable (without_numbered messages 1) kind (first ∙ ap (λ (ls : List MessageInFlight). l ∷ ls) (sym rest))))

  -- UNORDERED RELIABLE: it is message i
  pub fetch_any : (i : ℕ) → g.kind ≡ UnorderedReliable → at_number messages i ≡ Some l
      → Fetching program g from p l left (without_numbered messages i) (event.Deliver from p i ∷ [])
  fetch_any i kind there =
      fetching [] g.channels i at_once (ap (λ (k : ChannelKind). may_arrive k i) kind) there
      (serves_as UnorderedReliable (without_numbered messages i) kind (cut_numbered messages i l there))

  -- UNORDERED UNRELIABLE: it is message i, and is not wanted again
  pub fetch_last : (i : ℕ) → g.kind ≡ UnorderedUnreliable → at_number messages i ≡ Some l → (Has wanted l → ⊥)
      → Fetching program g from p l left (without_numbered messages i) (event.Deliver from p i ∷ [])
  fetch_last i kind there unwanted =
      fetching [] g.channels i at_once (ap (λ (k : ChannelKind). may_arrive k i) kind) there
      (serves_as UnorderedUnreliable (without_numbered messages i) kind
      (let cut : CutAt messages l (without_numbered messages i) = cut_numbered messages i l there in
      (cut.front, cut.back, cut.whole, inr (unwanted, cut.rest))))

  abbrev copied : Channels
  copied = with_message g.channels from p l

  -- or it is doubled before
  pub fetch_doubled : (i : ℕ) → g.kind ≡ UnorderedUnreliable → at_number messages i ≡ Some l
      → Fetching program g from p l left (without_numbered (messages ++ l ∷ []) i) (event.Repeat from p i ∷ event.Deliver from p i ∷ [])
  fetch_doubled i kind there =
      subst (λ (ls : List MessageInFlight). Fetching program g from p l left (without_numbered ls i) (event.Repeat from p i ∷ event.Deliver from p i ∷ [])) longer
      (fetching (event.Repeat from p i ∷ []) copied i copies (ap (λ (k : ChannelKind). may_arrive k i) kind) (ap (λ (ls : List MessageInFlight). at_number ls i) longer
      ∙ numbered_longer messages i l (l ∷ []) there)
      (serves_as UnorderedUnreliable (without_numbered (channel copied from p) i) kind (
      let cut : CutAt messages l (without_numbered messages i) = cut_numbered messages i l there in (
        cut.front,
        cut.back,
        cut.whole,
        inl (ap (λ (ls : List MessageInFlight). without_numbered ls i) longer ∙ without_longer messages i l (l ∷ []) there
            ∙ ap (λ (ls : List MessageInFlight). ls ++ l ∷ []) cut.rest),
      ))))
    where
      longer : channel copied from p ≡ messages ++ l ∷ []
      longer = channel-there g.channels from p (messages ++ l ∷ []) has

      copies : Prepares program g from p (event.Repeat from p i ∷ []) copied
      copies = record {
        actions = Again from p l.time ∷ [];
        reaches = reaches_by program g (event.Repeat from p i) (record { state = record g { channels = copied }; actions = Again from p l.time ∷ [] }) tt
            (doubles_by program g from p i l (ap may_repeat kind) there);
        untold = λ q. refl;
        elsewhere = λ a b other. channel-other g.channels from p (messages ++ l ∷ []) a b other;
        keeps = λ a b there'. has-with g.channels from p (messages ++ l ∷ []) a b there';
      }

-- FIFO UNRELIABLE: it is the first that is like it, and those before it are lost

record Loses (program : Program) (s : SystemState) (from p count : ℕ) (l : MessageInFlight) (back : List MessageInFlight) : Type 0 where
  channels : Channels
  prepares : Prepares program s from p (replicate count (event.Lose from p 1)) channels
  now : channel channels from p ≡ l ∷ back

losing : (program : Program) (from p : ℕ) (l : MessageInFlight) (front back : List MessageInFlight) (s : SystemState) → may_lose s.kind ≡ true → HasChannel s.channels from p
    → channel s.channels from p ≡ front ++ l ∷ back → Loses program s from p (length front) l back
losing program from p l [] back s may has is = record {
  channels = s.channels;
  prepares = record { actions = []; reaches = rests s; untold = λ q. refl; elsewhere = λ a b other. refl; keeps = λ a b there. there };
  now = is;
}
losing program from p l (x ∷ front) back s may has is =
    let rest : List MessageInFlight = without_numbered (channel s.channels from p) 1 in
    let next : SystemState = record s { channels = without_message s.channels from p 1 } in
    let others : Loses program next from p (length front) l back =
    losing program from p l front back next may (has-with s.channels from p rest from p has) (channel-there s.channels from p rest has
    ∙ ap (λ (ls : List MessageInFlight). without_numbered ls 1) is) in
    record {
      channels = others.channels;
      prepares = record {
        actions = Lost from p x.time ∷ others.prepares.actions;
        reaches = moves s (record s { channels = others.channels }) (event.Lose from p 1) (replicate (length front) (event.Lose from p 1))
            (record { state = record s { channels = without_message s.channels from p 1 }; actions = Lost from p x.time ∷ [] }) others.prepares.actions tt
            (loses_by program s from p 1 x may (ap (λ (ls : List MessageInFlight). at_number ls 1) is)) others.prepares.reaches;
        untold = λ q. others.prepares.untold q;
        elsewhere = λ a b other. others.prepares.elsewhere a b other
            ∙ channel-other s.channels from p (without_numbered (channel s.channels from p) 1) a b other;
        keeps = λ a b there. others.prepares.keeps a b (has-with s.channels from p (without_numbered (channel s.channels from p) 1) a b there);
      };
      now = others.now;
    }

pub fetch_losing : (program : Program) (g : SystemState) (from p : ℕ) (l : MessageInFlight) (left : List Action) → HasChannel g.channels from p
    → (front back : List MessageInFlight) → g.kind ≡ FifoUnreliable → channel g.channels from p ≡ front ++ l ∷ back → (Has front l → ⊥)
    → Fetching program g from p l left back (replicate (length front) (event.Lose from p 1) ++ event.Deliver from p 1 ∷ [])
fetch_losing program g from p l left has front back kind is first =
    let lost : Loses program g from p (length front) l back = losing program from p l front back g (ap may_lose kind) has is in
    let rest : without_numbered (channel lost.channels from p) 1 ≡ back = ap (λ (ls : List MessageInFlight). without_numbered ls 1) lost.now in
    subst (λ (ls : List MessageInFlight). Fetching program g from p l left ls (replicate (length front) (event.Lose from p 1) ++ event.Deliver from p 1 ∷ [])) rest
    (fetching program g from p l left has (replicate (length front) (event.Lose from p 1)) lost.channels 1 lost.prepares
    (ap (λ (k : ChannelKind). may_arrive k 1) kind) (ap (λ (ls : List MessageInFlight). at_number ls 1) lost.now)
    (serves_as program g from p l left has FifoUnreliable (without_numbered (channel lost.channels from p) 1) kind
    (front, is ∙ ap (λ (ls : List MessageInFlight). front ++ l ∷ ls) (sym rest), first)))

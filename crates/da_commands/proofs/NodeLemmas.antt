-- What the command `node` leaves, from what its parts leave.
use Rattle.std.proofs.Common.{◌≡◌, refl, sym, ◌∙◌, ap, subst, ℕ, ◌≤◌, ◌⊎◌, inl, inr, List, [], ◌∷◌, ◌++◌, length, arith, append-nil}
use Rattle.std.specs.List.{filter}
use Rattle.std.proofs.lemmas.List.Elements.{All-cons, All-nil, filter-append}
use Rattle.std.specs.Prelude.{Option, None, Some}
use Rattle.arq_link.specs.declared.link.ArqLink.{ArqLink}
use Rattle.arq_link.specs.ArqLink.{inner_of, told_of}
use Rattle.da_lang.specs.declared.event.Action.{Action}
use Rattle.da_lang.specs.declared.event.Action.TheVariants.{Sent}
use Rattle.da_lang.specs.declared.ty.ChannelKind.{ChannelKind}
use Rattle.da_lang.specs.declared.ty.ChannelKind.TheVariants.{FifoReliable, FifoUnreliable, UnorderedReliable, UnorderedUnreliable}
use Rattle.da_lang.specs.declared.program.Program.{Program}
use Rattle.da_lang.specs.Limits.{most_processes}
use Rattle.da_outside.specs.declared.link.LinkEntry.{LinkEntry}
use Rattle.da_outside.specs.declared.link.LinkEntry.TheVariants.{Bound}
use Rattle.da_outside.specs.declared.link.LinkAnswer.{LinkAnswer}
use Rattle.da_outside.specs.Link as link
use Rattle.da_outside.specs.Link.{is_binding}
use Rattle.da_outside.specs.Outside.{HasCause}
use Rattle.da_outside.proofs.OutsideLemmas.{appends_none, cause_as}
use Rattle.da_types.proofs.resolved.FewProcesses.{few_processes}
use Rattle.da_types.proofs.sound.AcceptedSound.{filled_procs}
use Rattle.node_run.specs.declared.outcome.NodeOutcome.{NodeOutcome}
use Rattle.node_run.specs.declared.outcome.NodeOutcome.TheVariants as outcome
use Rattle.node_run.specs.NodeCall.{GivesPackets, HasEnded, HasRun, IsPacketOf, WasCut, WroteAll, WrotePrefix, WroteGiven, end_for}
use Rattle.node_run.specs.NodeRun.{GoesOn, Node, NodeEnd, NodeRun, Round, event_round, gifts, stays, delivers, hears, talk_of}
use Rattle.node_run.proofs.TalkLaws.{gains_nothing, gains_then}
use Rattle.da_front.specs.declared.refusal.RefusedKind.{RefusedKind}
use Rattle.da_commands.specs.declared.status.Status.{Status}
use Rattle.da_commands.specs.declared.status.Status.TheVariants.{ChildFault, Done, Faulted, Idle, LinkFault, Memory, ReadFault, Refused, Spent, Words, WriteFault}
use Rattle.da_commands.specs.declared.words.NodeSetting.{NodeSetting}
use Rattle.da_commands.specs.Lines.{refused_text}
use Rattle.da_commands.specs.Links.{told_over}
use Rattle.da_commands.specs.NodeReplies.{BindsOnce, HasKind, HasStopped, LinkFailed, MayRun, NodeRefuses, binding}
use Rattle.da_commands.specs.NodeReplies as reply
use Rattle.da_commands.specs.NodeSteps.{BindsFor, HasServed, RunsBound}
use Rattle.da_commands.specs.Endings.{status_of_node}
use Rattle.da_commands.specs.Told.{HasSaid, IsUnwritten, OfTold, said, unsaid}
use Rattle.da_front.specs.Verdict.{Accepts}
use Rattle.da_commands.proofs.ToldLemmas.{of_any}

-- HOW MANY PROCESSES

most_is : most_processes ≡ 64
unfolding most_processes
most_is = refl

-- an accepted program has at most 64 processes
pub few_accepted : (text : List ℕ) (program : Program) → Accepts text program → length program.procs ≤ 64
few_accepted text program accepts =
    let same : program.procs ≡ accepts.resolved.procs = ap (λ (p : Program). p.procs) accepts.typed.becomes ∙ filled_procs accepts.resolved in
    let size : length program.procs ≡ length accepts.resolved.procs = ap length same in
    omega (arith, size, few_processes accepts.tree accepts.resolved accepts.resolves, most_is)

-- NOTHING WAS DONE

pub quiet_served : (text : List ℕ) (setting : NodeSetting) (status : Status) (told : Option (List LinkEntry)) (taken : Option (List ℕ)) → HasStopped text setting status told told taken taken
quiet_served text setting status told taken = reply.early (gains_nothing told) (appends_none taken)

pub none_given : (me : ℕ) (told : Option (List LinkEntry)) → GivesPackets me told told
none_given me told = record { talk = []; told = gains_nothing told; packets = All-nil (IsPacketOf me) }

-- A REFUSAL

-- its line was written, or a prefix of it
pub served_refused : (kind : RefusedKind) (line : ℕ) (text : List ℕ) (setting : NodeSetting) (told : Option (List LinkEntry)) (before after : Option (List ℕ)) (status : Status) → NodeRefuses text setting kind line
    → HasSaid (Refused kind line) (refused_text kind line) status before after → HasServed text setting status told told before after
served_refused kind line text setting told before after status refuses (said is written) =
    subst (λ s. HasServed text setting s told told before after) (sym is) (reply.refused kind line refuses refl (gains_nothing told) written)
served_refused kind line text setting told before after status refuses (unsaid cut front) = by_status status cut
  where
    by_status : (status : Status) → IsUnwritten status → HasServed text setting status told told before after
    by_status WriteFault cut = reply.refusing kind line refuses (gains_nothing told) front
    by_status Memory cut = reply.refusing kind line refuses (gains_nothing told) front
    by_status _ cut = absurd cut

-- THE BINDING

module _ (program : Program) (text : List ℕ) (setting : NodeSetting) (may : MayRun text setting program) (told_before told_now : Option (List LinkEntry)) where
  -- it failed
  pub served_unbound : (taken : Option (List ℕ)) → link.Gains told_before told_now [] → HasServed text setting LinkFault told_before told_now taken taken
  served_unbound taken same = reply.unbound program may same (appends_none taken)

  -- after it the node ran, or was cut short
  pub served_bound : (count : ℕ) (told_after : Option (List LinkEntry)) (before after : Option (List ℕ)) (status : Status) → count ≡ length program.procs
      → link.Gains told_before told_now (Bound setting.port setting.me count ∷ [])
      → RunsBound program setting status told_now told_after before after → HasServed text setting status told_before told_after before after
  served_bound count told_after before after status same gains runs = by_status status runs
    where
      bound : link.Gains told_before told_now (binding program setting ∷ [])
      bound = subst (λ n. link.Gains told_before told_now (Bound setting.port setting.me n ∷ [])) same gains

      by_status : (status : Status) → RunsBound program setting status told_now told_after before after → HasServed text setting status told_before told_after before after
      by_status LinkFault cut = LinkFailed.running (record { program = program; may = may; told_between = told_now; bound = bound; cut = cut })
      by_status WriteFault cut = HasStopped.writing refl (record { program = program; may = may; told_between = told_now; bound = bound; cut = cut })
      by_status Memory cut = HasStopped.running refl (record { program = program; may = may; told_between = told_now; bound = bound; cut = cut })
      by_status ReadFault never = absurd never
      by_status ChildFault never = absurd never
      by_status _ run = reply.ran program run.0 told_now may run.1 bound run.2

-- the binding is no gift
pub bound_packets : (me port process count : ℕ) (told_before told_now told_after : Option (List LinkEntry)) → link.Gains told_before told_now (Bound port process count ∷ [])
    → GivesPackets me told_now told_after → GivesPackets me told_before told_after
bound_packets me port process count told_before told_now told_after bound gives = record {
  talk = Bound port process count ∷ gives.talk;
  told = gains_then told_before told_now told_after (Bound port process count ∷ []) gives.talk bound gives.told;
  packets = All-cons (IsPacketOf me) (Bound port process count) gives.talk tt gives.packets;
}

pub unbound_packets : (me : ℕ) (told_before told_now : Option (List LinkEntry)) → link.Gains told_before told_now [] → GivesPackets me told_before told_now
unbound_packets me told_before told_now same = record { talk = []; told = same; packets = All-nil (IsPacketOf me) }

-- A LINK IS BOUND ONCE AT MOST

-- what a link tells of a run holds no binding
gift_binds : (actions : List Action) → filter is_binding (gifts actions) ≡ []
gift_binds [] = refl
gift_binds (Sent p q t v ∷ actions) = gift_binds actions
gift_binds (a ∷ actions) = gift_binds actions

talk_binds : {program : Program} {idle turns : ℕ} {node last : Node} {answers : List LinkAnswer} {rounds : List Round} → GoesOn program idle turns node answers rounds last → filter is_binding (talk_of rounds) ≡ []
talk_binds (stays node) = refl
talk_binds (delivers node last x held after answers rounds found leads goes) =
    filter-append is_binding (gifts after.actions) (talk_of rounds) ∙ ap (λ l. l ++ filter is_binding (talk_of rounds)) (gift_binds after.actions) ∙ talk_binds goes
talk_binds (hears node then' last answer answers actions rounds none asks heard goes) =
    filter-append is_binding (gifts actions) (talk_of rounds) ∙ ap (λ l. l ++ filter is_binding (talk_of rounds)) (gift_binds actions) ∙ talk_binds goes

run_binds : {program : Program} {me idle turns : ℕ} {answers : List LinkAnswer} {rounds : List Round} {end : NodeEnd} → NodeRun program me idle turns answers rounds end → filter is_binding (talk_of rounds) ≡ []
run_binds run =
    let whole : filter is_binding (talk_of (event_round run.started.actions ∷ run.later)) ≡ [] =
    filter-append is_binding (gifts run.started.actions) (talk_of run.later) ∙ ap (λ l. l ++ filter is_binding (talk_of run.later)) (gift_binds run.started.actions) ∙ talk_binds run.goes in
    subst (λ rounds. filter is_binding (talk_of rounds) ≡ []) (sym run.rounds_are) whole

front_binds : (talk untold : List LinkEntry) → filter is_binding (talk ++ untold) ≡ [] → filter is_binding talk ≡ []
front_binds talk untold none = no_prefix (filter is_binding talk) (filter is_binding untold) (sym (filter-append is_binding talk untold) ∙ none)
  where
    no_prefix : (xs ys : List LinkEntry) → xs ++ ys ≡ [] → xs ≡ []
    no_prefix [] ys is = refl
    no_prefix (x ∷ xs) ys is = absurd (let clash : x ∷ (xs ++ ys) ≡ [] = is in cc)

-- what a link gained is what it carries
pub carries_as : (before now : Option (List LinkEntry)) (talk bindings : List LinkEntry) → link.Gains before now talk → filter is_binding talk ≡ bindings → link.Carries before now bindings
carries_as before None talk bindings gains are = tt
carries_as before (Some now) talk bindings gains are = (talk, gains, are)

-- first so many bindings, then none
pub carries_on : (before between now : Option (List LinkEntry)) (bindings : List LinkEntry) → link.Carries before between bindings → link.Carries between now [] → link.Carries before now bindings
carries_on before between None bindings first then' = tt
carries_on before None (Some now) bindings first (more, gains, none) = absurd (let clash : Some now ≡ None = gains in cc)
carries_on before (Some between) (Some now) bindings (xs, first, are) (ys, then', none) = (
  xs ++ ys,
  gains_then before (Some between) (Some now) xs ys first then',
  filter-append is_binding xs ys ∙ ap (λ l. filter is_binding xs ++ l) none ∙ append-nil (filter is_binding xs) ∙ are,
)

module _ (program : Program) (me idle turns : ℕ) (told_before told_after : Option (List LinkEntry)) (before after : Option (List ℕ)) where
  ran_binds : (end : NodeEnd) → HasRun program me idle turns end told_before told_after before after → link.Carries told_before told_after []
  ran_binds end ran = carries_as told_before told_after ran.talk [] ran.told (subst (λ l. filter is_binding l ≡ []) (sym ran.whole) (run_binds ran.run))

  cut_binds : (Wrote : ℕ → Option (List ℕ) → Option (List ℕ) → List Round → Type 0) → WasCut program me idle turns told_before told_after before after Wrote → link.Carries told_before told_after []
  cut_binds Wrote cut = carries_as told_before told_after cut.talk [] cut.told (front_binds cut.talk cut.untold (subst (λ l. filter is_binding l ≡ []) cut.front (run_binds cut.run)))

  -- a node does not bind its link
  pub node_binds : (how : NodeOutcome)
      → (HasEnded how → HasRun program me idle turns (end_for how) told_before told_after before after)
      → (how ≡ outcome.WriteFault → WasCut program me idle turns told_before told_after before after WroteGiven)
      → (how ≡ outcome.LinkFault → WasCut program me idle turns told_before told_after before after WroteAll)
      → (how ≡ outcome.Memory → WasCut program me idle turns told_before told_after before after WrotePrefix)
      → link.Carries told_before told_after []
  node_binds outcome.Done ran write link memory = ran_binds _ (ran tt)
  node_binds outcome.Faulted ran write link memory = ran_binds _ (ran tt)
  node_binds outcome.Idle ran write link memory = ran_binds _ (ran tt)
  node_binds outcome.Spent ran write link memory = ran_binds _ (ran tt)
  node_binds outcome.LinkFault ran write link memory = cut_binds WroteAll (link refl)
  node_binds outcome.WriteFault ran write link memory = cut_binds WroteGiven (write refl)
  node_binds outcome.Memory ran write link memory = cut_binds WrotePrefix (memory refl)

module _ (program : Program) (setting : NodeSetting) (count : ℕ) (same : count ≡ length program.procs) where
  -- it was bound, and then a node ran over it
  pub binds_then : (before between now : Option (List LinkEntry)) → link.Gains before between (Bound setting.port setting.me count ∷ []) → link.Carries between now [] → BindsFor program setting before now
  binds_then before between now bound then' =
      let here : link.Gains before between (binding program setting ∷ []) = subst (λ n. link.Gains before between (Bound setting.port setting.me n ∷ [])) same bound in
      inr (carries_on before between now (binding program setting ∷ []) (carries_as before between (binding program setting ∷ []) (binding program setting ∷ []) here refl) then')

  -- it carried a binding or none, and then a node ran over it
  pub carries_binding : (before between now : Option (List LinkEntry)) → link.Carries before between [] ⊎ link.Carries before between (Bound setting.port setting.me count ∷ []) → link.Carries between now [] → BindsFor program setting before now
  carries_binding before between now (inl none) then' = inl (carries_on before between now [] none then')
  carries_binding before between now (inr one) then' =
      inr (carries_on before between now (binding program setting ∷ []) (subst (λ n. link.Carries before between (Bound setting.port setting.me n ∷ [])) same one) then')

  -- it was not bound, but may have carried a binding
  pub carries_failed : (before now : Option (List LinkEntry)) → link.Carries before now [] ⊎ link.Carries before now (Bound setting.port setting.me count ∷ []) → BindsFor program setting before now
  carries_failed before now (inl none) = inl none
  carries_failed before now (inr one) = inr (subst (λ n. link.Carries before now (Bound setting.port setting.me n ∷ [])) same one)

-- it was not bound
pub binds_none : (program : Program) (setting : NodeSetting) (before now : Option (List LinkEntry)) → link.Gains before now [] → BindsFor program setting before now
binds_none program setting before now same = inl (carries_as before now [] [] same refl)

pub binds_quiet : (program : Program) (setting : NodeSetting) (told : Option (List LinkEntry)) → BindsFor program setting told told
binds_quiet program setting told = inl (carries_as told told [] [] (gains_nothing told) refl)

pub once_quiet : (text : List ℕ) (setting : NodeSetting) (told : Option (List LinkEntry)) → BindsOnce text setting told told
once_quiet text setting told = inl (carries_as told told [] [] (gains_nothing told) refl)

pub once_for : (text : List ℕ) (program : Program) (setting : NodeSetting) (before now : Option (List LinkEntry)) → Accepts text program → BindsFor program setting before now → BindsOnce text setting before now
once_for text program setting before now accepts (inl none) = inl none
once_for text program setting before now accepts (inr one) = inr (program, accepts, one)

-- OVER WHICH LINK

module _ {D : Type 0} {B : _} (told : D → Option (List LinkEntry)) (one : ArqLink D B) where
  pub over_inner : (kind : ChannelKind) → kind ≡ UnorderedUnreliable → told_over told kind one ≡ told (inner_of one)
  over_inner kind is = ap (λ k. told_over told k one) is

  pub over_reliable : (kind : ChannelKind) → (kind ≡ UnorderedUnreliable → ⊥) → told_over told kind one ≡ told_of told one
  over_reliable FifoReliable other = refl
  over_reliable FifoUnreliable other = refl
  over_reliable UnorderedReliable other = refl
  over_reliable UnorderedUnreliable other = absurd (other refl)

-- A NODE THAT RAN

pub node_runs : (program : Program) (setting : NodeSetting) (how : NodeOutcome) (told_before told_after : Option (List LinkEntry)) (before after : Option (List ℕ))
    → (HasEnded how → HasRun program setting.me setting.idle setting.turns (end_for how) told_before told_after before after)
    → (how ≡ outcome.WriteFault → WasCut program setting.me setting.idle setting.turns told_before told_after before after WroteGiven)
    → (how ≡ outcome.LinkFault → WasCut program setting.me setting.idle setting.turns told_before told_after before after WroteAll)
    → (how ≡ outcome.Memory → WasCut program setting.me setting.idle setting.turns told_before told_after before after WrotePrefix)
    → RunsBound program setting (status_of_node how) told_before told_after before after
node_runs program setting outcome.Done told_before told_after before after ran write link memory = (_, refl, ran tt)
node_runs program setting outcome.Faulted told_before told_after before after ran write link memory = (_, refl, ran tt)
node_runs program setting outcome.Idle told_before told_after before after ran write link memory = (_, refl, ran tt)
node_runs program setting outcome.Spent told_before told_after before after ran write link memory = (_, refl, ran tt)
node_runs program setting outcome.LinkFault told_before told_after before after ran write link memory = link refl
node_runs program setting outcome.WriteFault told_before told_after before after ran write link memory = write refl
node_runs program setting outcome.Memory told_before told_after before after ran write link memory = memory refl

-- a node that was bound ends in no other way
abbrev IsBoundEnd : Status → Type 0
IsBoundEnd Words = ⊥
IsBoundEnd ReadFault = ⊥
IsBoundEnd ChildFault = ⊥
IsBoundEnd _ = Unit {0}

bound_ends : (how : NodeOutcome) → IsBoundEnd (status_of_node how)
bound_ends outcome.Done = tt
bound_ends outcome.Faulted = tt
bound_ends outcome.Idle = tt
bound_ends outcome.Spent = tt
bound_ends outcome.LinkFault = tt
bound_ends outcome.WriteFault = tt
bound_ends outcome.Memory = tt

-- how a node ended, from the status
abbrev outcome_for : Status → NodeOutcome
outcome_for Done = outcome.Done
outcome_for Faulted = outcome.Faulted
outcome_for Idle = outcome.Idle
outcome_for Spent = outcome.Spent
outcome_for LinkFault = outcome.LinkFault
outcome_for WriteFault = outcome.WriteFault
outcome_for _ = outcome.Memory

told_by_status : (how : NodeOutcome) → outcome_for (status_of_node how) ≡ how
told_by_status outcome.Done = refl
told_by_status outcome.Faulted = refl
told_by_status outcome.Idle = refl
told_by_status outcome.Spent = refl
told_by_status outcome.LinkFault = refl
told_by_status outcome.WriteFault = refl
told_by_status outcome.Memory = refl

module _ (how : NodeOutcome) where
  pub node_no_words : status_of_node how ≡ Words → ⊥
  node_no_words is = subst IsBoundEnd is (bound_ends how)

  pub node_childless : status_of_node how ≡ ChildFault → ⊥
  node_childless is = subst IsBoundEnd is (bound_ends how)

  pub node_unread : status_of_node how ≡ ReadFault → ⊥
  node_unread is = subst IsBoundEnd is (bound_ends how)

  pub node_link_cause : (before now : ℕ) → HasCause before now (how ≡ outcome.LinkFault) → HasCause before now (status_of_node how ≡ LinkFault)
  node_link_cause before now cause = cause_as before now (λ is. ap status_of_node is) (λ is. sym (told_by_status how) ∙ ap outcome_for is) cause

  pub node_write_cause : (before now : ℕ) → HasCause before now (how ≡ outcome.WriteFault) → HasCause before now (status_of_node how ≡ WriteFault)
  node_write_cause before now cause = cause_as before now (λ is. ap status_of_node is) (λ is. sym (told_by_status how) ∙ ap outcome_for is) cause

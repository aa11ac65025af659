-- What the top call says of a node, from what the command leaves; and which words ask for one.
use Rattle.std.proofs.Common.{◌≡◌, refl, sym, ◌∙◌, ap, subst, ℕ, ◌≤◌, ◌^◌, inl, inr, List, [], ◌∷◌, length, codes, decimal, arith}
use Rattle.std.specs.Prelude.{Option, Some}
use Rattle.da_values.proofs.Numerals.{decimal_injective_wide}
use Rattle.da_lang.specs.declared.program.Program.{Program}
use Rattle.da_lang.specs.declared.ty.ChannelKind.{ChannelKind}
use Rattle.da_outside.specs.declared.link.LinkEntry.{LinkEntry}
use Rattle.da_outside.specs.Outside.{Appends, AppendsPrefix}
use Rattle.da_outside.proofs.OutsideLemmas.{prefix_whole}
use Rattle.da_commands.specs.declared.status.Status.{Status}
use Rattle.da_commands.specs.declared.status.Status.TheVariants.{ChildFault, LinkFault, Memory, ReadFault, WriteFault}
use Rattle.da_commands.specs.declared.words.NodeSetting.{NodeSetting}
use Rattle.da_commands.specs.declared.words.Task.{Task}
use Rattle.da_commands.specs.declared.words.Task.TheVariants.{Check, Plan, Stress}
use Rattle.da_commands.specs.NodeReplies.{HasAnswered, HasKind, HasStopped, IsNode, IsServed, IsSetting, LinkFailed}
use Rattle.da_commands.specs.NodeSteps.{HasServed}
use Rattle.da_commands.specs.Replies.{IsAnswer, IsAsking, IsReplay}
use Rattle.da_commands.specs.Told.{Begins, Gains, HasReplied, HasSaid, OfTold, said, unsaid}
use Rattle.da_front.specs.Verdict.{Accepts}
use Rattle.da_front.proofs.VerdictLemmas.{accepts_one}
use Rattle.da_commands.proofs.ToldLemmas.{begun_replied, of_known, of_map, unwritten_or_answer, whole_replied}

-- WORDS

-- what asks for a node asks for nothing else
pub no_replay : (words : List (List ℕ)) (a p q : List ℕ) (setting : NodeSetting) → IsNode words a setting → IsReplay words p q → ⊥
no_replay words a p q setting (port, me, idle, turns, is, spelled) other = let sizes : 6 ≡ 3 = ap length (sym is ∙ other) in omega (arith, sizes)

pub no_task : (words : List (List ℕ)) (task : Task) (a p : List ℕ) (setting : NodeSetting) → IsNode words a setting → IsAsking words task p → ⊥
no_task words Check a p setting (port, me, idle, turns, is, spelled) other = let sizes : 6 ≡ 2 = ap length (sym is ∙ other.0) in omega (arith, sizes)
no_task words Plan a p setting (port, me, idle, turns, is, spelled) other = let sizes : 6 ≡ 2 = ap length (sym is ∙ other.0) in omega (arith, sizes)
no_task words (Stress x n) a p setting (port, me, idle, turns, is, spelled) other = let sizes : 6 ≡ 4 = ap length (sym is ∙ other.0) in omega (arith, sizes)

-- a number of at most 2^127 has one spelling
one_number : (m n : ℕ) (word : List ℕ) → m ≤ 2 ^ 127 → n ≤ 2 ^ 127 → word ≡ decimal m → word ≡ decimal n → m ≡ n
one_number m n word small few is other = decimal_injective_wide m n small few (sym is ∙ other)

settings_same : {a b c d e f g h : ℕ} → a ≡ e → b ≡ f → c ≡ g → d ≡ h
    → (let one : NodeSetting = record { port = a; me = b; idle = c; turns = d } in one) ≡ (let other : NodeSetting = record { port = e; me = f; idle = g; turns = h } in other)
settings_same {a} {b} {c} {d} {e} {f} {g} {h} port me idle turns =
    ap (λ x. let one : NodeSetting = record { port = x; me = b; idle = c; turns = d } in one) port
    ∙ ap (λ x. let one : NodeSetting = record { port = e; me = x; idle = c; turns = d } in one) me
    ∙ ap (λ x. let one : NodeSetting = record { port = e; me = f; idle = x; turns = d } in one) idle
    ∙ ap (λ x. let one : NodeSetting = record { port = e; me = f; idle = g; turns = x } in one) turns

one_setting : (one other : NodeSetting) (port me idle turns : List ℕ) → IsSetting one port me idle turns → IsSetting other port me idle turns → other ≡ one
one_setting one other port me idle turns a b =
    settings_same
    (one_number other.port one.port port (omega (arith, b.within.port.1)) (omega (arith, a.within.port.1)) b.port_is a.port_is)
    (one_number other.me one.me me (omega (arith, b.within.me.1)) (omega (arith, a.within.me.1)) b.me_is a.me_is)
    (one_number other.idle one.idle idle (omega (arith, b.within.idle.1)) (omega (arith, a.within.idle.1)) b.idle_is a.idle_is)
    (one_number other.turns one.turns turns (omega (arith, b.within.turns.1)) (omega (arith, a.within.turns.1)) b.turns_is a.turns_is)

-- the name and the setting are those of the words
pub same_node : (words : List (List ℕ)) (a p : List ℕ) (one other : NodeSetting) → IsNode words a one → IsNode words p other → (p ≡ a) × (other ≡ one)
same_node words a p one other (port, me, idle, turns, is, spelled) (port', me', idle', turns', is', spelled') =
    let both : codes "node" ∷ a ∷ port ∷ me ∷ idle ∷ turns ∷ [] ≡ codes "node" ∷ p ∷ port' ∷ me' ∷ idle' ∷ turns' ∷ [] = sym is ∙ is' in
    let port_same : port ≡ port' = cc in
    let me_same : me ≡ me' = cc in
    let idle_same : idle ≡ idle' = cc in
    let turns_same : turns ≡ turns' = cc in (
      cc,
      one_setting one other port' me' idle' turns' (subst (λ x. IsSetting one x me' idle' turns') port_same (subst (λ x. IsSetting one port x idle' turns') me_same
          (subst (λ x. IsSetting one port me x turns') idle_same (subst (λ x. IsSetting one port me idle x) turns_same spelled)))) spelled',
    )

-- what holds of the name and the setting in the words
pub at_node : (P : List ℕ → NodeSetting → Type 0) (p a : List ℕ) (other one : NodeSetting) → (p ≡ a) × (other ≡ one) → P a one → P p other
at_node P p a other one same holds = subst (P p) (sym same.1) (subst (λ x. P x one) (sym same.0) holds)

-- WHAT A NODE LEAVES, by its status

module _ (text : List ℕ) (setting : NodeSetting) (told_before told_after : Option (List LinkEntry)) (before after : Option (List ℕ)) where
  answered : (status : Status) → IsAnswer status → HasServed text setting status told_before told_after before after → HasAnswered text setting status told_before told_after before after
  answered ReadFault answer has = absurd answer
  answered WriteFault answer has = absurd answer
  answered Memory answer has = absurd answer
  answered LinkFault answer has = absurd answer
  answered ChildFault answer has = absurd answer
  answered status answer has = has

  stopped : (status : Status) → (IsAnswer status → ⊥) → (status ≡ LinkFault → ⊥) → HasServed text setting status told_before told_after before after → HasStopped text setting status told_before told_after before after
  stopped ReadFault never unlinked has = has
  stopped WriteFault never unlinked has = has
  stopped Memory never unlinked has = has
  stopped LinkFault never unlinked has = absurd (unlinked refl)
  stopped ChildFault never unlinked has = absurd has
  stopped _ never unlinked has = absurd (never tt)

  quiet : (status : Status) → (status ≡ ReadFault → ⊥) → (status ≡ WriteFault → ⊥) → (status ≡ LinkFault → ⊥) → HasServed text setting status told_before told_after before after
      → IsServed text setting status told_before told_after before after
  quiet ReadFault read write link has = absurd (read refl)
  quiet WriteFault read write link has = absurd (write refl)
  quiet Memory read write link has = inl refl
  quiet LinkFault read write link has = absurd (link refl)
  quiet ChildFault read write link has = absurd has
  quiet status read write link has = inr has

-- by the kind of channels of the program, a link tells this
module _ (setting : NodeSetting) (told_before told_after : ChannelKind → Option (List LinkEntry)) (before after : Option (List ℕ)) where
  abbrev Served : Status → List ℕ → Type 0
  Served status text = (kind : ChannelKind) → HasKind text kind → HasServed text setting status (told_before kind) (told_after kind) before after

  module _ (told : Option (List ℕ)) (status : Status) (served : OfTold told (Served status)) where
    -- a status that tells of an answer
    pub node_answered : IsAnswer status → OfTold told (λ t. (kind : ChannelKind) → HasKind t kind → HasAnswered t setting status (told_before kind) (told_after kind) before after)
    node_answered answer = of_map told (Served status) _ (λ t has kind is. answered t setting (told_before kind) (told_after kind) before after status answer (has kind is)) served

    -- the link failed
    pub node_link_failed : status ≡ LinkFault → OfTold told (λ t. (kind : ChannelKind) → HasKind t kind → LinkFailed t setting (told_before kind) (told_after kind) before after)
    node_link_failed failed =
        of_map told (Served status) _
        (λ t has kind is. let by_link : HasServed t setting LinkFault (told_before kind) (told_after kind) before after = subst (λ s. HasServed t setting s (told_before kind) (told_after kind) before after) failed (has kind is) in by_link) served

    -- a read or a write failed, or memory was refused
    pub node_has_stopped : (IsAnswer status → ⊥) → (status ≡ LinkFault → ⊥) → OfTold told (λ t. (kind : ChannelKind) → HasKind t kind → HasStopped t setting status (told_before kind) (told_after kind) before after)
    node_has_stopped never unlinked = of_map told (Served status) _ (λ t has kind is. stopped t setting (told_before kind) (told_after kind) before after status never unlinked (has kind is)) served

    -- nothing failed
    pub node_served : (t : List ℕ) (program : Program) → told ≡ Some t → Accepts t program → (status ≡ ReadFault → ⊥) → (status ≡ WriteFault → ⊥) → (status ≡ LinkFault → ⊥)
        → IsServed t setting status (told_before program.kind) (told_after program.kind) before after
    node_served t program told_t accepts read write link =
        let of_kind : HasKind t program.kind = λ other also. ap (λ (p : Program). p.kind) (accepts_one t program other accepts also) in
        quiet t setting (told_before program.kind) (told_after program.kind) before after status read write link (of_known told (Served status) t told_t served program.kind of_kind)

-- THE OTHER COMMANDS

module _ (Reply : List ℕ → Status → List ℕ → Type 0) (told : Option (List ℕ)) (status : Status) (before after : Option (List ℕ)) (replies : OfTold told (λ t. HasReplied (Reply t) status before after)) where
  pub told_whole : IsAnswer status → OfTold told (λ t. Gains (Reply t) status before after)
  told_whole answer = of_map told (λ t. HasReplied (Reply t) status before after) (λ t. Gains (Reply t) status before after) (λ t. whole_replied (Reply t) before after status answer) replies

  pub told_begun : (IsAnswer status → ⊥) → OfTold told (λ t. Begins (Reply t) before after)
  told_begun never = of_map told (λ t. HasReplied (Reply t) status before after) (λ t. Begins (Reply t) before after) (λ t. begun_replied (Reply t) before after status never) replies

module _ (Reply : List ℕ → List ℕ → Status → List ℕ → Type 0) (one other : Option (List ℕ)) (status : Status) (before after : Option (List ℕ))
    (replies : OfTold one (λ t. OfTold other (λ s. HasReplied (Reply t s) status before after))) where
  pub both_whole : IsAnswer status → OfTold one (λ t. OfTold other (λ s. Gains (Reply t s) status before after))
  both_whole answer =
      of_map one (λ t. OfTold other (λ s. HasReplied (Reply t s) status before after)) (λ t. OfTold other (λ s. Gains (Reply t s) status before after))
      (λ t held. told_whole (Reply t) other status before after held answer) replies

  pub both_begun : (IsAnswer status → ⊥) → OfTold one (λ t. OfTold other (λ s. Begins (Reply t s) before after))
  both_begun never =
      of_map one (λ t. OfTold other (λ s. HasReplied (Reply t s) status before after)) (λ t. OfTold other (λ s. Begins (Reply t s) before after))
      (λ t held. told_begun (Reply t) other status before after held never) replies

-- what was said to other words
pub said_whole : (status : Status) (bytes : List ℕ) (result : Status) (before after : Option (List ℕ)) → HasSaid status bytes result before after → IsAnswer result → (result ≡ status) × Appends before after bytes
said_whole status bytes result before after (said is written) answer = (is, written)
said_whole status bytes result before after (unsaid cut front) answer = absurd (unwritten_or_answer result cut answer)

pub said_front : (status : Status) (bytes : List ℕ) (result : Status) (before after : Option (List ℕ)) → HasSaid status bytes result before after → AppendsPrefix before after bytes
said_front status bytes result before after (said is written) = prefix_whole before after bytes written
said_front status bytes result before after (unsaid cut front) = front
